-- Numbers as they are written, and read again.
use Rattle.std.{proofs.Common.{◌≡◌, ℕ, zero, suc, ◌+◌, ◌-◌, ◌*◌, ◌/◌, ◌%◌, ◌^◌, ◌<◌, ◌≤◌, min, true, false, List, [], ◌∷◌, ◌++◌, length, get_or, take, drop, replicate, refl, sym, ap, ◌∙◌, arith, inl, inr, ◌==◌}}
use Rattle.std.{specs.Prelude.{decimal}, specs.List.{prefix_len}, specs.Char.digit_value, specs.Str.Parse.{digits_value, AllDigits}}
use Rattle.std.specs.Fmt.{digits, digits_onto, digit_glyph, padded_integral, format_spec, char_count}
use Rattle.std.proofs.lemmas.Fmt.{digits_is_IsNumeral, decimal_is_IsNumeral}
use Rattle.std.proofs.lemmas.Str.Parse.{digit_from_value}
use Rattle.std.proofs.lemmas.Int.Digits.{digits_value_more}
use Rattle.std.proofs.lemmas.Bool.{cases_Bool, cases_order}
use Rattle.std.proofs.lemmas.Bool.Decides.{nat_tests}
use Rattle.std.proofs.Math.Nat.{pow-succ', mul-le-mul_left, mul-le-mul_right}
use Rattle.std.proofs.Math.Seq.{take-append_seam, drop-append_seam, drop-append-add}
use Rattle.std.proofs.lemmas.List.{length-append, length-replicate}
use mathlib.Core.List.{append-nil}
use Rattle.ct_word.specs.Names.{is_digit}
use Rattle.ct_cert.{specs.Text.hex16, specs.Reading.{begins, value_of, number_in, place_in, clause_in, word_in}}

-- what `{:016x}` writes
pub hex_written : (n : ℕ) → padded_integral (format_spec 32 0 4 16 (2 ^ 64 - 1)) false [] (digits 16 false n) ≡ hex16 n
unfolding padded_integral hex16 char_count
hex_written n =
    let none : 16 - length (digits 16 false n) - 0 - 0 ≡ 16 - length (digits 16 false n) = omega arith in
    ap (λ k. replicate k 48 ++ (digits 16 false n ++ [])) none ∙ ap (λ ds. replicate (16 - length (digits 16 false n)) 48 ++ ds) (append-nil (digits 16 false n))

-- a number below 16 ^ (k + 1) has at most so many digits
onto_short : (f k n : ℕ) (acc : List ℕ) → n < 16 ^ suc k → length (digits_onto f 16 false n acc) ≤ suc k + length acc
onto_short zero k n acc small = omega arith
onto_short (suc f) zero n acc small = elim (cases_Bool (n / 16 == 0)) [
  | inl last ↦ rw last (omega arith)
  | inr more ↦ absurd (grind (arith, nat_tests))
]
onto_short (suc f) (suc k) n acc small = elim (cases_Bool (n / 16 == 0)) [
  | inl last ↦ rw last (omega arith)
  | inr more ↦ rw more (omega (arith, onto_short f k (n / 16) (digit_glyph false (n % 16) ∷ acc) (omega (arith, pow-succ' 16 (suc k)))))
]

hex_short : (n : ℕ) → n < 2 ^ 64 → length (digits 16 false n) ≤ 16
unfolding digits
hex_short n small = onto_short 64 15 n [] small

pub hex_length : (n : ℕ) → n < 2 ^ 64 → length (hex16 n) ≡ 16
unfolding hex16
hex_length n small = let short = hex_short n small in simp (length-append, length-replicate) (omega arith)

zeros_in_front : (k : ℕ) (ds : List ℕ) → digits_value 16 (replicate k 48 ++ ds) ≡ digits_value 16 ds
zeros_in_front zero ds = refl
zeros_in_front (suc k) ds = zeros_in_front k ds

pub hex_value : (n : ℕ) → n < 2 ^ 64 → value_of 16 (hex16 n) ≡ n
unfolding hex16 value_of
hex_value n small =
    let read = zeros_in_front (16 - length (digits 16 false n)) (digits 16 false n) ∙ (digits_is_IsNumeral 16 false (omega arith) (omega arith) n (omega arith)).1 in
    ap (λ v. min v 18446744073709551615) read ∙ omega arith

-- a digit more of a number that is cut at m
pub cut_more : (base v d m : ℕ) → 0 < base → min (min (min v m * base) m + d) m ≡ min (v * base + d) m
cut_more base v d m some = elim (cases_order v m) [
  | inl same ↦ let e : min v m ≡ v = omega arith in rw e (omega arith)
  | inr (inl less) ↦ let e : min v m ≡ v = omega arith in rw e (omega arith)
  | inr (inr more) ↦
      let e : min v m ≡ m = omega arith in
      let most : m * 1 ≤ m * base = mul-le-mul_left m (omega arith) in
      let greater : m * base ≤ v * base = mul-le-mul_right base (omega arith) in
      rw e (omega arith)
]

-- a digit more of a number below 2 ^ 64
pub value_more : (base n i times sum : ℕ) (ds : List ℕ) → 0 < base → i < length ds → n ≡ value_of base (take i ds) → times ≡ min (n * base) (2 ^ 64 - 1)
    → sum ≡ min (times + digit_value (get_or ds i 0)) (2 ^ 64 - 1) → sum ≡ value_of base (take (i + 1) ds)
unfolding value_of
value_more base n i times sum ds some lt so_far multiplied added =
    let more = digits_value_more base ds i lt in
    let cut = cut_more base (digits_value base (take i ds)) (digit_value (get_or ds i 0)) 18446744073709551615 some in
    added ∙ ap (λ t. min (t + digit_value (get_or ds i 0)) 18446744073709551615) (multiplied ∙ ap (λ m. min (m * base) 18446744073709551615) so_far)
    ∙ cut ∙ ap (λ v. min v 18446744073709551615) (sym more)

digits_front : (ds rest : List ℕ) → AllDigits 10 ds → begins is_digit rest ≡ false → prefix_len is_digit (ds ++ rest) ≡ length ds
digits_front [] [] all none = refl
digits_front [] (b ∷ rest) all none = rw none refl
digits_front (d ∷ ds) rest all none =
    let own = digit_from_value d all.0 in
    let is : is_digit d ≡ true = grind (arith, nat_tests) in
    let others = digits_front ds rest all.1 none in rw is (omega arith)

pub decimal_read : (n : ℕ) (rest : List ℕ) → n < 2 ^ 64 → begins is_digit rest ≡ false → number_in (decimal n ++ rest) ≡ (n, rest)
unfolding number_in value_of
decimal_read n rest small none =
    let numeral = decimal_is_IsNumeral n small in
    let front = digits_front (decimal n) rest numeral.0.1 none in
    let digits : take (prefix_len is_digit (decimal n ++ rest)) (decimal n ++ rest) ≡ decimal n = ap (λ k. take k (decimal n ++ rest)) front ∙ take-append_seam (decimal n) rest in
    let behind : drop (prefix_len is_digit (decimal n ++ rest)) (decimal n ++ rest) ≡ rest = ap (λ k. drop k (decimal n ++ rest)) front ∙ drop-append_seam (decimal n) rest in
    let value : min (digits_value 10 (take (prefix_len is_digit (decimal n ++ rest)) (decimal n ++ rest))) 18446744073709551615 ≡ n =
    ap (λ ds. min (digits_value 10 ds) 18446744073709551615) digits ∙ ap (λ v. min v 18446744073709551615) numeral.1 ∙ omega arith in
    λ i. (value i, behind i)

pub place_read : (n : ℕ) (rest : List ℕ) → n < 2 ^ 32 → begins is_digit rest ≡ false → place_in (decimal n ++ rest) ≡ (n, rest)
unfolding place_in
place_read n rest small none =
    let read = decimal_read n rest (omega arith) none in
    let value : min n 4294967295 ≡ n = omega arith in
    ap (λ p. (min p.0 4294967295, p.1)) read ∙ ap (λ m. (m, rest)) value

pub clause_read : (n : ℕ) (rest : List ℕ) → n < 2 ^ 8 → begins is_digit rest ≡ false → clause_in (decimal n ++ rest) ≡ (n, rest)
unfolding clause_in
clause_read n rest small none =
    let read = decimal_read n rest (omega arith) none in
    let value : min n 255 ≡ n = omega arith in
    ap (λ p. (min p.0 255, p.1)) read ∙ ap (λ m. (m, rest)) value

pub word_read : (n : ℕ) (rest : List ℕ) → n < 2 ^ 64 → word_in (hex16 n ++ 10 ∷ rest) ≡ (n, rest)
unfolding word_in
word_read n rest small =
    let count = hex_length n small in
    let digits : take 16 (hex16 n ++ 10 ∷ rest) ≡ hex16 n = ap (λ k. take k (hex16 n ++ 10 ∷ rest)) (sym count) ∙ take-append_seam (hex16 n) (10 ∷ rest) in
    let more : 17 ≡ length (hex16 n) + 1 = omega arith in
    let behind : drop 17 (hex16 n ++ 10 ∷ rest) ≡ rest = ap (λ k. drop k (hex16 n ++ 10 ∷ rest)) more ∙ drop-append-add (hex16 n) (10 ∷ rest) 1 in
    let value : value_of 16 (take 16 (hex16 n ++ 10 ∷ rest)) ≡ n = ap (value_of 16) digits ∙ hex_value n small in
    λ i. (value i, behind i)
