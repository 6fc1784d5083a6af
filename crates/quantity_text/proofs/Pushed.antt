-- What is written at the end of what is there, piece by piece.
use Rattle.std.proofs.Common.{◌≡◌, List, ◌++◌, append_assoc, sym, ap, ◌∙◌}

-- one more piece of a whole
pub one_more : {A : Type 0} (start whole piece next old new : List A) → old ≡ start ++ whole → new ≡ old ++ piece → next ≡ whole ++ piece → new ≡ start ++ next
one_more {A} start whole piece next old new e f g =
    f ∙ ap (λ (y : List A). y ++ piece) e ∙ append_assoc start whole piece ∙ ap (λ (y : List A). start ++ y) (sym g)

-- several pieces, one after the other
pub two_pushed : {A : Type 0} (start one two y z : List A) → one ≡ start ++ y → two ≡ one ++ z → two ≡ start ++ (y ++ z)
two_pushed {A} start one two y z p q = q ∙ ap (λ (a : List A). a ++ z) p ∙ append_assoc start y z

pub three_pushed : {A : Type 0} (start one two three x y z : List A) → one ≡ start ++ x → two ≡ one ++ y → three ≡ two ++ z → three ≡ start ++ (x ++ (y ++ z))
three_pushed start one two three x y z p q r = two_pushed start one three x (y ++ z) p (two_pushed one two three y z q r)

pub four_pushed : {A : Type 0} (start one two three four w x y z : List A) → one ≡ start ++ w → two ≡ one ++ x → three ≡ two ++ y → four ≡ three ++ z
    → four ≡ start ++ (w ++ (x ++ (y ++ z)))
four_pushed start one two three four w x y z p q r s =
    two_pushed start one four w (x ++ (y ++ z)) p (three_pushed one two three four x y z q r s)

pub five_pushed : {A : Type 0} (start one two three four five v w x y z : List A) → one ≡ start ++ v → two ≡ one ++ w → three ≡ two ++ x → four ≡ three ++ y → five ≡ four ++ z
    → five ≡ start ++ (v ++ (w ++ (x ++ (y ++ z))))
five_pushed start one two three four five v w x y z p q r s t =
    two_pushed start one five v (w ++ (x ++ (y ++ z))) p (four_pushed one two three four five w x y z q r s t)

pub six_pushed : {A : Type 0} (start one two three four five six u v w x y z : List A) → one ≡ start ++ u → two ≡ one ++ v → three ≡ two ++ w → four ≡ three ++ x → five ≡ four ++ y → six ≡ five ++ z
    → six ≡ start ++ (u ++ (v ++ (w ++ (x ++ (y ++ z)))))
six_pushed start one two three four five six u v w x y z p q r h i j =
    two_pushed start one six u (v ++ (w ++ (x ++ (y ++ z)))) p (five_pushed one two three four five six v w x y z q r h i j)

pub eight_pushed : {A : Type 0} (start one two three four five six seven eight s t u v w x y z : List A) → one ≡ start ++ s → two ≡ one ++ t → three ≡ two
    ++ u → four ≡ three ++ v → five ≡ four ++ w → six ≡ five ++ x → seven ≡ six ++ y → eight ≡ seven ++ z
    → eight ≡ start ++ (s ++ (t ++ (u ++ (v ++ (w ++ (x ++ (y ++ z)))))))
eight_pushed start one two three four five six seven eight s t u v w x y z p q r h i j k l =
    two_pushed start one eight s (t ++ (u ++ (v ++ (w ++ (x ++ (y ++ z)))))) p (two_pushed one two eight t (u ++ (v ++ (w ++ (x ++ (y ++ z))))) q
    (six_pushed two three four five six seven eight u v w x y z r h i j k l))
