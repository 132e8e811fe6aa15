-- The numbers of the terms of words are in range.
use Rattle.std.proofs.Common.{◌≡◌, ℕ, ◌+◌, ◌-◌, ◌*◌, ◌<◌, ◌≤◌, Bool, true, false, List, Option, Some, None, refl, ap, ◌∙◌, sym, subst, arith, pos, negsuc, nat_lt, if◌then◌else◌, FitsSigned}
use Rattle.std.{specs.Prelude.slice_get, proofs.lemmas.Option.same_Some, proofs.lemmas.Bool.{ltb-true, false≢true}}
use Rattle.std.proofs.lemmas.Bool.Decides.{nat_tests}
use Rattle.ct_word.{specs.declared.kinds.Kind.Kind, specs.declared.values.Term.Term, specs.Word.{kind_of, left_of, right_of}}
use Rattle.ct_word.{specs.Stands.StandsAt, specs.Reading.{IsTerm, as_high, as_term, int_of_bits, by_kind, meanings}, specs.WellFormed.{IsWellFormed, is_word_of}}
use Rattle.ct_word.proofs.{Splits.meaning_at, Stands.stands_for_packed, Constants.high_kind}
use Rattle.ct_condition.proofs.Chains.{packed, small_left, small_right, taken_apart, word_under}
use mir.Syntax.{w64}
use Rattle.ct_word.specs.declared.kinds.Kind.TheVariants as kind
use Rattle.ct_word.specs.declared.kinds.Class.TheVariants as class
use Rattle.ct_word.specs.declared.values.Value.TheVariants as val
use Rattle.ct_word.specs.declared.values.Null.TheVariants as null
use Rattle.ct_word.specs.declared.values.Term.TheVariants as term

-- a number has 64 bits, and those of a fresh null have 28
abbrev pub InRange : Term → Type 0
InRange (term.Value (val.Int i)) = FitsSigned w64 i
InRange (term.Null (null.Fresh s n)) = (s < 268435456) × (n < 268435456)
InRange _ = Unit {0}

bits_fit : (n : ℕ) → n < 18446744073709551616 → FitsSigned w64 (int_of_bits n)
bits_fit n h = by (nat_lt n 9223372036854775808) refl where
  by : (b : Bool) → nat_lt n 9223372036854775808 ≡ b → FitsSigned w64 (if b then pos n else negsuc (18446744073709551615 - n))
  by true e = let less : n < 9223372036854775808 = grind (arith, nat_tests) in record { sfits = omega (arith, less) }
  by false e = let more : 9223372036854775808 ≤ n = grind (arith, nat_tests) in record { sfits = omega (arith, more, h) }

module _ (ws : List ℕ) (wf : IsWellFormed ws) where
  high_small : (a : ℕ) (o : Option ℕ) → slice_get ws a ≡ o → is_word_of o class.High ≡ true → as_high (slice_get (meanings ws) a) < 72057594037927936
  high_small a None is e = absurd (false≢true e)
  high_small a (Some x) is e =
      let word = is ∙ ap (λ y. Some y) (packed x kind.NumberHigh (high_kind (kind_of x) e)) in
      let value = ap as_high (stands_for_packed ws a kind.NumberHigh (left_of x) (right_of x) wf (small_left x) (small_right x) word) in
      omega (arith, value, small_left x, small_right x)

  by_term : (t m : Term) → IsTerm m ≡ IsTerm t → InRange m → InRange t
  by_term t m e r = subst InRange (ap (λ x. as_term (Some x)) e) r

  module _ (p w : ℕ) (at : slice_get ws p ≡ Some w) where
    number_fits : kind_of w ≡ Some kind.Number → FitsSigned w64 (int_of_bits (as_high (slice_get (meanings ws) (left_of w)) * 256 + right_of w))
    number_fits k =
        let f = taken_apart ws wf p w at kind.Number k in
        bits_fit _ (omega (arith, high_small (left_of w) (slice_get ws (left_of w)) refl f.left.1, ltb-true (right_of w) 256 f.right))

    by_kinds : (o : Option Kind) (t : Term) → kind_of w ≡ o → by_kind o (meanings ws) (left_of w) (right_of w) ≡ IsTerm t → InRange t
    by_kinds (Some kind.Number) t k e = by_term t _ e (number_fits k)
    by_kinds (Some kind.FreshNull) t k e = by_term t _ e (small_left w, small_right w)
    by_kinds (Some kind.TextConstant) t k e = by_term t _ e tt
    by_kinds (Some kind.NamedNull) t k e = by_term t _ e tt
    by_kinds (Some kind.OtherValue) t k e = by_term t _ e tt
    by_kinds (Some kind.Column) t k e = by_term t _ e tt
    by_kinds _ t k e = cc

  pub term_in_range : (p : ℕ) (t : Term) → StandsAt ws p (IsTerm t) → InRange t
  term_in_range p t stands =
      let w = word_under ws wf p (IsTerm t) stands in
      by_kinds p w.0 w.1 (kind_of w.0) t refl (same_Some _ _ (sym (meaning_at ws wf p w.0 w.1) ∙ stands))
