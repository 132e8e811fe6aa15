-- Steps of reading a number, digit by digit.
use Rattle.std.{proofs.Common.{◌≡◌, ℕ, ◌+◌, ◌-◌, ◌*◌, ◌^◌, ◌<◌, ◌≤◌, true, List, [], ◌∷◌, length, get_or, take, ap, ◌∙◌, arith, suc, zero}, specs.List.list_all}
use Rattle.std.{specs.Char.digit_value, specs.Str.Parse.digits_value, proofs.lemmas.Bool.Decides.nat_tests, proofs.Math.Numerals.add-one}
use Rattle.std.{proofs.lemmas.Int.Digits.digits_value_more, proofs.Math.Nat.{pow-le-pow_right, pow-succ'}}
use Rattle.ct_word.specs.Names.{is_digit}
use Rattle.ct_words.specs.Numbers.{is_number}

pub few : (ds : List ℕ) → is_number ds ≡ true → length ds ≤ 7
few ds h = grind (arith, nat_tests)

pub digits : (ds : List ℕ) → is_number ds ≡ true → list_all is_digit ds ≡ true
digits ds h = grind (arith, nat_tests)

-- each of these bytes is a digit
pub digit_at : (ds : List ℕ) (i : ℕ) → list_all is_digit ds ≡ true → i < length ds → (48 ≤ get_or ds i 0) × (get_or ds i 0 ≤ 57)
digit_at (d ∷ ds) zero all lt = (grind (arith, nat_tests), grind (arith, nat_tests))
digit_at (d ∷ ds) (suc i) all lt = digit_at ds i (grind (arith, nat_tests)) (omega arith)
digit_at [] i all lt = absurd (omega arith)

-- what a digit is worth
pub digit_worth : (d : ℕ) → 48 ≤ d → d ≤ 57 → digit_value d ≡ d - 48
digit_worth d least most = grind (arith, nat_tests)

-- before the seventh digit the number has at most six
pub few_digits : (n i : ℕ) → n < 10 ^ i → i < 7 → n < 1000000
few_digits n i small lt =
    let most : 10 ^ i ≤ 10 ^ 6 = pow-le-pow_right {n = 10} (omega arith) {i = i} {j = 6} (omega arith) in omega arith

-- one more digit
pub one_more : (n i d : ℕ) → n < 10 ^ i → d ≤ 9 → n * 10 + d < 10 ^ (i + 1)
one_more n i d small nine =
    let more : 10 ^ (i + 1) ≡ 10 * 10 ^ i = ap (λ k. 10 ^ k) (add-one i) ∙ pow-succ' 10 i in omega arith

-- the number after one more digit
pub value_more : (ds : List ℕ) (n i : ℕ) → list_all is_digit ds ≡ true → i < length ds → n ≡ digits_value 10 (take i ds)
    → n * 10 + (get_or ds i 0 - 48) ≡ digits_value 10 (take (i + 1) ds)
value_more ds n i all lt is =
    let at = digit_at ds i all lt in
    let worth = digit_worth (get_or ds i 0) at.0 at.1 in
    let more = digits_value_more 10 ds i lt in
    cc
