-- What the words of terms stand for, by their fields.
use Rattle.std.proofs.Common.{◌≡◌, ℕ, ◌+◌, ◌*◌, ◌-◌, ◌<◌, ◌≤◌, ◌/◌, ◌%◌, suc, List, ap, sym, ◌∙◌, arith, to_z, of_z, w64, FitsSigned}
use Rattle.std.{specs.Prelude.{ℤ, pos, negsuc, IsTrue, nat_lt}, proofs.lemmas.Bool.{cond_both, ltb-true, ltb-false}, proofs.lemmas.Int.{to_z-of_z, to_z_pos}}
use Rattle.std.proofs.Math.Facts.{to_z-neg}
use Rattle.ct_word.{specs.declared.kinds.Class.Class, specs.Reading.{Meaning, int_of_bits}, specs.Stands.StandsAt, specs.WellFormed.is_place_of}
use Rattle.ct_word.{proofs.Prefixes.stands_in_prefix, proofs.Growth.place_within}
use mathlib.Core.List.{IsPrefix}

-- what stands at a place of a class stands there still
pub kept : (old new : List ℕ) (c : Class) (p : ℕ) (m : Meaning) → IsPrefix old new → IsTrue (is_place_of old c p) → StandsAt old p m → StandsAt new p m
kept old new c p m longer place s = stands_in_prefix old new p m longer (place_within old c p place) s

-- the 64 bits of a number stand for it
bits_signed : (n : ℕ) → n < 18446744073709551616 → int_of_bits n ≡ to_z w64 n
bits_signed n lt =
    cond_both (nat_lt n 9223372036854775808) (pos n) (negsuc (18446744073709551615 - n)) (λ z. z ≡ to_z w64 n)
    (λ e. sym (to_z_pos w64 n (ltb-true n 9223372036854775808 e)))
    (λ e.
    let great : 9223372036854775808 ≤ n = ltb-false n 9223372036854775808 e in
    let k = 18446744073709551615 - n in
    let back : 18446744073709551616 - suc k ≡ n = omega arith in
    sym (sym (ap (to_z w64) back) ∙ to_z-neg w64 k (omega arith)))

pub bits_of_number : (z : ℤ) (n : ℕ) → FitsSigned w64 z → n ≡ of_z w64 z → n < 18446744073709551616 → int_of_bits n ≡ z
bits_of_number z n f e lt = bits_signed n lt ∙ ap (to_z w64) e ∙ to_z-of_z w64 z f

-- the pieces of a number make it up
pub pieces : (n : ℕ) → (n / 68719476736 * 268435456 + n / 256 % 268435456) * 256 + n % 256 ≡ n
pieces n = omega arith
