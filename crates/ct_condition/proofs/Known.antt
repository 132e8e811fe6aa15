-- The words of a term that has a place already: each of them stands.
use Rattle.std.proofs.Common.{◌≡◌, ℕ, ◌+◌, ◌*◌, ◌/◌, ◌%◌, ◌<◌, true, false, List, [], ◌∷◌, Option, Some, None, refl, ap, ◌∙◌, sym, subst, arith, rules}
use Rattle.std.{specs.Prelude.{ℤ, slice_get, Contains, IsTrue}, proofs.lemmas.Option.same_Some, proofs.lemmas.Bool.{eqb-true, ltb-true, false≢true}}
use Rattle.ct_word.{specs.declared.kinds.Kind.Kind, specs.declared.values.Term.Term, specs.Word.{word_of, kind_of, left_of, right_of}}
use Rattle.ct_word.{specs.Stands.{StandsAt, places_in}, specs.Reading.{Meaning, IsText, IsTerm, as_text, as_high, as_term, int_of_bits, by_kind, meanings}}
use Rattle.ct_word.{proofs.Splits.{meaning_at, one_place}, specs.WellFormed.{class_of, has_class, is_word_of, is_place_of, is_formed_as, IsWellFormed}}
use Rattle.ct_word.{proofs.Stands.stands_for_packed, proofs.Constants.{bits_of, bits_back, high_kind}, proofs.Items.contains_of_get}
use Rattle.ct_condition.specs.Terms.{is_text_kind, text_term}
use Rattle.ct_condition.proofs.Chains.{packed, small_left, small_right, taken_apart, word_under, one_text, text_at_class}
use Rattle.ct_word.specs.declared.kinds.Kind.TheVariants as kind
use Rattle.ct_word.specs.declared.kinds.Class.TheVariants as class
use Rattle.ct_word.specs.declared.values.Value.TheVariants as val
use Rattle.ct_word.specs.declared.values.Null.TheVariants as null
use Rattle.ct_word.specs.declared.values.Term.TheVariants as term

-- what the table of kinds says of a word over a text
pub text_word : (k : Kind) → IsTrue (is_text_kind k) → (class_of k ≡ class.Term) × (has_class (Some k) class.Commit ≡ false) × ((ws : List ℕ) (a : ℕ) → IsTrue (is_place_of ws class.Text a) → IsTrue (is_formed_as (Some k) ws a 0))
    × ((ms : List Meaning) (a b : ℕ) → by_kind (Some k) ms a b ≡ IsTerm (text_term k (as_text (slice_get ms a))))
    × ((a : ℕ) → places_in (Some k) a 0 ≡ a ∷ [])
text_word kind.NamedNull e = (refl, refl, (λ ws a is. Prim.search rules), (λ ms a b. refl), (λ a. refl))
text_word kind.TextConstant e = (refl, refl, (λ ws a is. Prim.search rules), (λ ms a b. refl), (λ a. refl))
text_word _ e = absurd (false≢true e)

module _ (ws : List ℕ) (wf : IsWellFormed ws) where
  -- the word of this kind over a text
  abbrev pub OverText : Kind → List ℕ → Type 0
  OverText k t = (a : ℕ) × StandsAt ws a (IsText t) × Contains ws (word_of k a 0)

  -- the two words of a number
  record NumberWords (z : ℤ) : Type 0 where
    high : ℕ
    upper : ℕ
    middle : ℕ
    low : ℕ
    high_word : slice_get ws high ≡ Some (word_of kind.NumberHigh upper middle)
    low_word : Contains ws (word_of kind.Number high low)
    upper_small : upper < 268435456
    middle_small : middle < 268435456
    low_small : low < 256
    is : int_of_bits ((upper * 268435456 + middle) * 256 + low) ≡ z

  -- the last word of a term, over what its fields name
  abbrev AreThere : Term → Type 0
  AreThere (term.Column k) = Contains ws (word_of kind.Column k 0)
  AreThere (term.Null (null.Named t)) = OverText kind.NamedNull t
  AreThere (term.Null (null.Fresh s n)) = Contains ws (word_of kind.FreshNull s n)
  AreThere (term.Value (val.Int z)) = NumberWords z
  AreThere (term.Value (val.Text t)) = OverText kind.TextConstant t
  AreThere (term.Value (val.Other k)) = Contains ws (word_of kind.OtherValue k 0)

  module _ (p w : ℕ) (at : slice_get ws p ≡ Some w) where
    -- a word whose right field is 0
    with_zero : (k : Kind) → kind_of w ≡ Some k → right_of w ≡ 0 → Contains ws (word_of k (left_of w) 0)
    with_zero k e z = contains_of_get ws p (word_of k (left_of w) 0) (at ∙ ap (λ x. Some x) (packed w k e) ∙ ap (λ b. Some (word_of k (left_of w) b)) z)

    over_text : (k : Kind) → kind_of w ≡ Some k → right_of w ≡ 0 → is_place_of ws class.Text (left_of w) ≡ true
        → OverText k (as_text (slice_get (meanings ws) (left_of w)))
    over_text k e z place = (left_of w, text_at_class ws wf (left_of w) place, with_zero k e z)

    high_by : (a : ℕ) (o : Option ℕ) → slice_get ws a ≡ o → is_word_of o class.High ≡ true
        → (x : ℕ) × (slice_get ws a ≡ Some (word_of kind.NumberHigh (left_of x) (right_of x)))
        × (as_high (slice_get (meanings ws) a) ≡ left_of x * 268435456 + right_of x)
    high_by a None is e = absurd (false≢true e)
    high_by a (Some x) is e =
        let word = is ∙ ap (λ y. Some y) (packed x kind.NumberHigh (high_kind (kind_of x) e)) in
        (x, word, ap as_high (stands_for_packed ws a kind.NumberHigh (left_of x) (right_of x) wf (small_left x) (small_right x) word))

    over_high : kind_of w ≡ Some kind.Number → NumberWords (int_of_bits (as_high (slice_get (meanings ws) (left_of w)) * 256 + right_of w))
    over_high e =
        let f = taken_apart ws wf p w at kind.Number e in
        let h = high_by (left_of w) (slice_get ws (left_of w)) refl f.left.1 in
        record {
          high = left_of w;
          upper = left_of h.0;
          middle = right_of h.0;
          low = right_of w;
          high_word = h.1;
          low_word = contains_of_get ws p (word_of kind.Number (left_of w) (right_of w)) (at ∙ ap (λ x. Some x) (packed w kind.Number e));
          upper_small = small_left h.0;
          middle_small = small_right h.0;
          low_small = ltb-true (right_of w) 256 f.right;
          is = ap (λ n. int_of_bits (n * 256 + right_of w)) (sym h.2);
        }

    by_term : (t : Term) (m : Term) → IsTerm m ≡ IsTerm t → AreThere m → AreThere t
    by_term t m e a = subst AreThere (ap (λ x. as_term (Some x)) e) a

    by_kinds : (o : Option Kind) (t : Term) → kind_of w ≡ o → by_kind o (meanings ws) (left_of w) (right_of w) ≡ IsTerm t → AreThere t
    by_kinds (Some kind.Number) t k e = by_term t _ e (over_high k)
    by_kinds (Some kind.TextConstant) t k e =
        let f = taken_apart ws wf p w at kind.TextConstant k in
        by_term t _ e (over_text kind.TextConstant k (eqb-true _ _ f.right) f.left.1)
    by_kinds (Some kind.NamedNull) t k e =
        let f = taken_apart ws wf p w at kind.NamedNull k in
        by_term t _ e (over_text kind.NamedNull k (eqb-true _ _ f.right) f.left.1)
    by_kinds (Some kind.FreshNull) t k e =
        by_term t _ e (contains_of_get ws p (word_of kind.FreshNull (left_of w) (right_of w)) (at ∙ ap (λ x. Some x) (packed w kind.FreshNull k)))
    by_kinds (Some kind.OtherValue) t k e =
        by_term t _ e (with_zero kind.OtherValue k (eqb-true _ _ (taken_apart ws wf p w at kind.OtherValue k).right))
    by_kinds (Some kind.Column) t k e =
        by_term t _ e (with_zero kind.Column k (eqb-true _ _ (taken_apart ws wf p w at kind.Column k).right))
    by_kinds _ t k e = cc

  -- the words of a term that stands somewhere
  words_there : (p : ℕ) (t : Term) → StandsAt ws p (IsTerm t) → AreThere t
  words_there p t stands =
      let w = word_under ws wf p (IsTerm t) stands in
      by_kinds p w.0 w.1 (kind_of w.0) t refl (same_Some _ _ (sym (meaning_at ws wf p w.0 w.1) ∙ stands))

  pub column_there : (p k : ℕ) → StandsAt ws p (IsTerm (term.Column k)) → Contains ws (word_of kind.Column k 0)
  column_there p k s = words_there p (term.Column k) s

  pub other_there : (p k : ℕ) → StandsAt ws p (IsTerm (term.Value (val.Other k))) → Contains ws (word_of kind.OtherValue k 0)
  other_there p k s = words_there p (term.Value (val.Other k)) s

  pub fresh_there : (p s n : ℕ) → StandsAt ws p (IsTerm (term.Null (null.Fresh s n))) → Contains ws (word_of kind.FreshNull s n)
  fresh_there p s n is = words_there p (term.Null (null.Fresh s n)) is

  -- the words of a text constant, and of a named null
  pub text_there : (k : Kind) → IsTrue (is_text_kind k) → (p : ℕ) (t : List ℕ) → StandsAt ws p (IsTerm (text_term k t)) → OverText k t
  text_there kind.NamedNull e p t = words_there p (term.Null (null.Named t))
  text_there kind.TextConstant e p t = words_there p (term.Value (val.Text t))
  text_there _ e p t = absurd (false≢true e)

  -- the last word over any place of the text
  pub over_there : (k : Kind) (t : List ℕ) (q : ℕ) → OverText k t → StandsAt ws q (IsText t) → Contains ws (word_of k q 0)
  over_there k t q o s = subst (λ a. Contains ws (word_of k a 0)) (one_text ws wf o.0 q t o.1 s) o.2

  -- of a number with these bits
  module _ (p n : ℕ) (z : ℤ) (small : n < 18446744073709551616) (is : int_of_bits n ≡ z) (s : StandsAt ws p (IsTerm (term.Value (val.Int z)))) where
    number : NumberWords z
    number = words_there p (term.Value (val.Int z)) s

    same_bits : (number.upper * 268435456 + number.middle) * 256 + number.low ≡ n
    same_bits =
        sym (bits_back ((number.upper * 268435456 + number.middle) * 256 + number.low) (omega (arith, number.upper_small, number.middle_small, number.low_small)))
        ∙ ap bits_of (number.is ∙ sym is) ∙ bits_back n small

    pieces : (u m l : ℕ) → u < 268435456 → m < 268435456 → l < 256 → (u * 268435456 + m) * 256 + l ≡ n
        → (u ≡ n / 68719476736) × (m ≡ n / 256 % 268435456) × (l ≡ n % 256)
    pieces u m l a b c e = (omega arith, omega arith, omega arith)

    parts : (number.upper ≡ n / 68719476736) × (number.middle ≡ n / 256 % 268435456) × (number.low ≡ n % 256)
    parts = pieces number.upper number.middle number.low number.upper_small number.middle_small number.low_small same_bits

    high_is : slice_get ws number.high ≡ Some (word_of kind.NumberHigh (n / 68719476736) (n / 256 % 268435456))
    high_is = number.high_word ∙ (λ i. Some (word_of kind.NumberHigh (parts.0 i) (parts.1 i)))

    pub high_there : Contains ws (word_of kind.NumberHigh (n / 68719476736) (n / 256 % 268435456))
    high_there = contains_of_get ws number.high _ high_is

    pub number_there : (q : ℕ) → slice_get ws q ≡ Some (word_of kind.NumberHigh (n / 68719476736) (n / 256 % 268435456)) → Contains ws (word_of kind.Number q (n % 256))
    number_there q at =
        let same : number.high ≡ q = one_place ws wf number.high q _ high_is at in
        subst (λ b. Contains ws (word_of kind.Number q b)) parts.2 (subst (λ a. Contains ws (word_of kind.Number a number.low)) same number.low_word)
