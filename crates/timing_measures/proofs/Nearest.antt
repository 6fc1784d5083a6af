-- A fraction that is rounded is its whole part and its rest rounded.
use Rattle.std.proofs.Common.{◌≡◌, ℕ, ◌+◌, ◌*◌, ◌/◌, ◌%◌, ◌<◌, ◌≤◌, ap, sym, ◌∙◌, arith}
use Rattle.std.proofs.Math.Nat.{mul-add-div, mul-add-mod_self_left}
use Rattle.std.proofs.lemmas.Nat.{div-add-mod'}
use Rattle.timing_measures.specs.Rounding.{nearest_parts}

-- products in another order
wholes_out : (parts whole rest bottom : ℕ) → 2 * parts * (whole * bottom + rest) + bottom ≡ 2 * bottom * (parts * whole) + (2 * parts * rest + bottom)
wholes_out parts whole rest bottom = omega arith

-- with the wholes taken out
pub nearest_rest : (top bottom parts : ℕ) → 1 ≤ bottom → nearest_parts top bottom parts ≡ parts * (top / bottom) + nearest_parts (top % bottom) bottom parts
nearest_rest top bottom parts some =
    ap (λ n. (2 * parts * n + bottom) / (2 * bottom)) (sym (div-add-mod' top bottom))
    ∙ ap (λ n. n / (2 * bottom)) (wholes_out parts (top / bottom) (top % bottom) bottom)
    ∙ mul-add-div (omega arith) (parts * (top / bottom)) (2 * parts * (top % bottom) + bottom)

-- thousandths are hundreds of them, and then the hundredths of the rest
pub nearest_thousandths : (rest bottom : ℕ) → 1 ≤ bottom → nearest_parts rest bottom 1000 ≡ 100 * (10 * rest / bottom) + nearest_parts (10 * rest % bottom) bottom 100
nearest_thousandths rest bottom some =
    ap (λ n. (n + bottom) / (2 * bottom)) (let e : 2 * 1000 * rest ≡ 2 * 100 * (10 * rest) = omega arith in e) ∙ nearest_rest (10 * rest) bottom 100 some

-- wholes beside parts
pub wholes_in : (whole near parts : ℕ) → 1 ≤ parts → (parts * whole + near) / parts ≡ whole + near / parts
wholes_in whole near parts some = mul-add-div some whole near

pub rest_in : (whole near parts : ℕ) → (parts * whole + near) % parts ≡ near % parts
rest_in whole near parts = mul-add-mod_self_left parts whole near
