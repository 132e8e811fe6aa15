-- What `parse` reads of a sign and digits.
use Rattle.std.{proofs.Common.{◌≡◌, ℕ, zero, suc, ◌<◌, ◌≤◌, Bool, true, false, List, [], ◌∷◌, ◌++◌, refl, arith, sym, subst, ◌∙◌}, specs.List.list_all}
use Rattle.std.{specs.Prelude.{ℤ, nat_eq, Result, Ok, Err}, proofs.lemmas.Bool.Decides.nat_tests}
use Rattle.std.specs.Str.Parse.{AllDigits, IsNumeral, ParsesSigned, digits_value, without_leading_sign, signed_digits_value}
use Rattle.ct_word.specs.Writable.{is_digit}
use Rattle.ct_lex.specs.Spelling.{are_digits, sign_text, signed, greatest}
use mir.{Syntax.w64, Val.SFits}

-- digits are digits to `parse`
digits_all : (ds : List ℕ) → list_all is_digit ds ≡ true → AllDigits 10 ds
digits_all [] h = tt
digits_all (d ∷ ds) h = (grind (arith, nat_tests), digits_all ds (grind (arith, nat_tests)))

numeral : (ds : List ℕ) → are_digits ds ≡ true → IsNumeral 10 ds
numeral [] h = absurd (grind arith)
numeral (d ∷ ds) h = (omega arith, digits_all (d ∷ ds) (grind (arith, nat_tests)))

without_sign : (minus : Bool) (ds : List ℕ) → are_digits ds ≡ true → without_leading_sign (sign_text minus ++ ds) ≡ ds
without_sign true ds h = refl
without_sign false [] h = absurd (grind arith)
without_sign false (d ∷ ds) h =
    let other : nat_eq d 45 ≡ false = grind (arith, nat_tests) in
    let plus : nat_eq d 43 ≡ false = grind (arith, nat_tests) in
    rw (other, plus)

value_is : (minus : Bool) (ds : List ℕ) → are_digits ds ≡ true → signed_digits_value 10 (sign_text minus ++ ds) ≡ signed minus (digits_value 10 ds)
value_is true ds h = refl
value_is false [] h = absurd (grind arith)
value_is false (d ∷ ds) h =
    let other : nat_eq d 45 ≡ false = grind (arith, nat_tests) in
    let plus : nat_eq d 43 ≡ false = grind (arith, nat_tests) in
    rw (other, plus)

-- what 64 bits hold
fits : (minus : Bool) (n : ℕ) → n ≤ greatest minus → SFits w64 (signed minus n)
fits true zero h = record { sfits = omega arith }
fits true (suc n) h = record { sfits = omega arith }
fits false n h = record { sfits = omega arith }

fits_greatest : (minus : Bool) (n : ℕ) → SFits w64 (signed minus n) → n ≤ greatest minus
fits_greatest true zero h = omega arith
fits_greatest true (suc n) h = omega (arith, h.sfits)
fits_greatest false n h = omega (arith, h.sfits)

-- the number that was read is the one that sign and digits spell, and they are in range
pub parsed : {E : Type 0} (minus : Bool) (ds : List ℕ) (z : ℤ) (r : Result ℤ E) → are_digits ds ≡ true → r ≡ Ok z → ParsesSigned w64 10 (sign_text minus ++ ds) r
    → (z ≡ signed minus (digits_value 10 ds)) × (digits_value 10 ds ≤ greatest minus) × SFits w64 z
parsed minus ds z (Ok x) h e p =
    let same : x ≡ z = cc in
    let is : x ≡ signed minus (digits_value 10 ds) = p.1 ∙ value_is minus ds h in
    let fit : SFits w64 (signed minus (digits_value 10 ds)) = subst (SFits w64) (value_is minus ds h) p.0.1 in
    (sym same ∙ is, fits_greatest minus (digits_value 10 ds) fit, subst (SFits w64) (sym is ∙ same) fit)
parsed minus ds z (Err x) h e p = absurd (grind arith)

-- where none was read they are out of range
pub not_parsed : {E : Type 0} (minus : Bool) (ds : List ℕ) (e : E) (r : Result ℤ E) → are_digits ds ≡ true → r ≡ Err e → ParsesSigned w64 10 (sign_text minus ++ ds) r
    → greatest minus < digits_value 10 ds
not_parsed minus ds e (Ok x) h eq p = absurd (grind arith)
not_parsed minus ds e (Err x) h eq p =
    let n = digits_value 10 ds in
    let refuted : n ≤ greatest minus → ⊥ =
    λ le. p (subst (IsNumeral 10) (sym (without_sign minus ds h)) (numeral ds h), subst (SFits w64) (sym (value_is minus ds h)) (fits minus n le)) in
    omega (arith, refuted)
