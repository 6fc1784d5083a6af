-- The lines of words that aren't understood and of files that aren't read.
use Rattle.std.specs.Prelude.{ℕ, List, ◌++◌, codes}
use Rattle.std.specs.Fmt.{decimal}
use Rattle.artery_model.specs.declared.kind.Kind.{Kind}
use Rattle.artery_model.specs.declared.kind.Kind.TheVariants as kind
use Rattle.artery_model.specs.declared.kind.Refusal.{Refusal}
use Rattle.plan_text.specs.declared.fault.TextFault.{TextFault}
use Rattle.plan_text.specs.declared.fault.TextFault.TheVariants.{Ended, Shape, Number, Order}
use Rattle.plan_text.specs.declared.fault.BadText.{BadText}

abbrev pub kind_name : Kind → List ℕ
kind_name kind.NotUtf8 = codes "NotUtf8"
kind_name kind.NotToml = codes "NotToml"
kind_name kind.UnknownKey = codes "UnknownKey"
kind_name kind.Missing = codes "Missing"
kind_name kind.WrongType = codes "WrongType"
kind_name kind.BadNumber = codes "BadNumber"
kind_name kind.OutOfRange = codes "OutOfRange"
kind_name kind.CountMismatch = codes "CountMismatch"
kind_name kind.RepeatedName = codes "RepeatedName"
kind_name kind.NoPattern = codes "NoPattern"
kind_name kind.NoGreen = codes "NoGreen"
kind_name kind.LimitsCrossed = codes "LimitsCrossed"

abbrev pub fault_name : TextFault → List ℕ
fault_name Ended = codes "Ended"
fault_name Shape = codes "Shape"
fault_name Number = codes "Number"
fault_name Order = codes "Order"

abbrev pub refused_line : Refusal → List ℕ
refused_line r = codes "refused " ++ (kind_name r.kind ++ (codes " " ++ (r.place ++ codes "\n")))

abbrev pub bad_text_line : BadText → List ℕ
bad_text_line b = codes "refused BadText line " ++ (decimal b.line ++ (codes " " ++ (fault_name b.kind ++ codes "\n")))

abbrev pub words_line : List ℕ
words_line = codes "words not understood\n"

abbrev pub cannot_read_line : List ℕ → List ℕ
cannot_read_line name = codes "cannot read " ++ (name ++ codes "\n")

abbrev pub too_long_line : List ℕ → List ℕ
too_long_line name = codes "too long " ++ (name ++ codes "\n")
