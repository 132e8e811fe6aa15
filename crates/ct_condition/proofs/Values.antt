-- What a place is worth, by its word and by what the earlier places are worth.
use Rattle.std.proofs.Common.{◌≡◌, ℕ, ◌+◌, ◌<◌, Bool, true, not, ◌&&◌, ◌||◌, List, [], ◌∷◌, ◌++◌, length, map, option_map, nat_eq, Option, Some, None, refl, ap, sym, subst, ◌∙◌, arith, inl, inr, length-append}
use Rattle.std.{specs.Prelude.{slice_get, IsTrue, encode_utf8}, proofs.lemmas.Bool.{cases_lt, eqb-true, eq-eqb}, proofs.lemmas.List.length-map}
use Rattle.std.{proofs.lemmas.Option.{none-some, slice_get-map}, proofs.lemmas.Bool.Decides.same_from_decides}
use Rattle.ct_word.{specs.declared.kinds.Kind.Kind, specs.declared.values.Value.Value, specs.declared.values.Term.Term, specs.Value.{World, at, same_value}}
use Rattle.ct_word.{specs.Condition.holds_at, specs.Stands.class_of_meaning, specs.WordAt.{IsWordAt, backwards}, proofs.Alike.value_decides}
use Rattle.ct_word.{specs.Reading.{Meaning, IsText, IsTerm, meanings, as_text, condition_at, term_at}, specs.WellFormed.{IsWellFormed, class_of, is_place_of}}
use Rattle.ct_word.{proofs.Constants.one_term, proofs.Growth.place_within, proofs.Splits.{get_front, some-injective}, proofs.Spelling.of_kind}
use Rattle.ct_word.{proofs.Places.{meaning_of_class, stands_term, stands_condition}, proofs.Items.get_last, proofs.Joins.joined_holds}
use Rattle.ct_condition.{specs.Nulls.{AreNulls, beginning, longer, or_past, pair_from, value_with}, specs.declared.valued.Worth.Worth}
use Rattle.ct_condition.specs.Worth.{AreWorths, HaveWorths, IsConstant, IsTermAt, IsWorth, is_true, is_true_at, number_in, pair_in, pair_named, term_by, term_worth, text_by, text_worth, truth_by}
use Rattle.ct_condition.proofs.Marks.{mark_found, name_lacking, value_listed, value_past}
use Rattle.ct_word.specs.declared.connectives.Connective.TheVariants as connective
use Rattle.ct_word.specs.declared.kinds.Kind.TheVariants as kind
use Rattle.ct_word.specs.declared.kinds.Class.TheVariants as class
use Rattle.ct_word.specs.declared.values.Null.TheVariants as null
use Rattle.ct_word.specs.declared.values.Term.TheVariants as term
use Rattle.ct_condition.specs.declared.valued.Worth.TheVariants as worth

-- one more place has its worth
pub have_more : (ws : List ℕ) (steps : List (ℕ × ℕ)) (v : World) (xs : List Worth) (x : Worth) (k : ℕ) → length xs ≡ k → HaveWorths ws steps v xs → IsWorth steps v (slice_get (meanings ws) k) x
    → HaveWorths ws steps v (xs ++ x ∷ [])
have_more ws steps v xs x k long have is p lt =
    elim (cases_lt p (length xs)) [
      | inl low ↦ let h = have p low in (h.0, get_front xs (x ∷ []) p low ∙ h.1, h.2)
      | inr high ↦
          let last : k ≡ p = omega (arith, long, length-append xs (x ∷ [])) in
          (x, get_last xs x p (omega (arith, long, last)), subst (λ q. IsWorth steps v (slice_get (meanings ws) q) x) last is)
    ]

-- the worth at a place that stands for this
module _ (ws : List ℕ) (steps : List (ℕ × ℕ)) (v : World) (xs : List Worth) (have : HaveWorths ws steps v xs) (p : ℕ) (lt : p < length xs) where
  text_there : (t : List ℕ) → slice_get (meanings ws) p ≡ Some (IsText t) → (cs : List ℕ) × (t ≡ backwards cs) × (slice_get xs p ≡ Some (text_worth (beginning steps cs)))
  text_there t e = let h = have p lt in let w = subst (λ m. IsWorth steps v m h.0) e h.2 in (w.0, w.1, h.1 ∙ ap Some w.2)

  term_there : (t : Term) → slice_get (meanings ws) p ≡ Some (IsTerm t) → slice_get xs p ≡ Some (term_worth v t)
  term_there t e = let h = have p lt in h.1 ∙ ap Some (subst (λ m. IsWorth steps v m h.0) e h.2)

  pub condition_there : IsTrue (is_place_of ws class.Cond p) → slice_get xs p ≡ Some (worth.Truth (holds_at v (condition_at ws p)))
  condition_there e = let h = have p lt in h.1 ∙ ap Some (subst (λ m. IsWorth steps v m h.0) (stands_condition ws p e) h.2)

-- the truth of a place of a condition
pub truth_there : (ws : List ℕ) (steps : List (ℕ × ℕ)) (v : World) (p : ℕ) (w : Worth) → IsTrue (is_place_of ws class.Cond p) → IsWorth steps v (slice_get (meanings ws) p) w → is_true w ≡ holds_at v (condition_at ws p)
truth_there ws steps v p w e is = ap is_true (subst (λ m. IsWorth steps v m w) (stands_condition ws p e) is)

-- the truths of all places
pub truths_are : (ws : List ℕ) (steps : List (ℕ × ℕ)) (v : World) (xs : List Worth) (truths : List Bool) → length xs ≡ length ws → HaveWorths ws steps v xs → truths ≡ map is_true xs → AreWorths ws v truths
truths_are ws steps v xs truths long have is = record {
  count = ap length is ∙ length-map xs is_true ∙ long;
  each = λ p e.
      ap (λ l. slice_get l p) is ∙ slice_get-map is_true xs p ∙ ap (option_map is_true) (condition_there ws steps v xs have p (omega (arith, long, place_within ws class.Cond p e)) e);
}

number_back : (o : Option ℕ) → number_in (Some (text_worth o)) ≡ o
number_back None = refl
number_back (Some k) = refl

-- what a pair of the world, or its absence, says of the term at a place
module _ (ws : List ℕ) (v : World) (xs : List Worth) (p : ℕ) (is : IsTermAt ws v xs p) where
  pair_of_term : (t : Term) (k : ℕ) → Some k ≡ pair_in (Some (term_worth v t)) → value_with v k ≡ at v [] t
  pair_of_term (term.Value x) k e = absurd (none-some k (sym e))
  pair_of_term (term.Null n) k e = ap (value_with v) (some-injective _ _ e) ∙ value_listed v n
  pair_of_term (term.Column j) k e = ap (value_with v) (some-injective _ _ e) ∙ value_past v

  no_pair : (t : Term) → None ≡ pair_in (Some (term_worth v t)) → IsConstant t
  no_pair (term.Value x) e = (x, refl)
  no_pair (term.Null n) e = absurd (none-some _ e)
  no_pair (term.Column k) e = absurd (none-some _ e)

  pub pair_value : (k : ℕ) → Some k ≡ pair_in (slice_get xs p) → value_with v k ≡ at v [] (term_at ws p)
  pair_value k e = pair_of_term (term_at ws p) k (e ∙ ap pair_in is.worth)

  pub constant_there : None ≡ pair_in (slice_get xs p) → IsConstant (term_at ws p)
  constant_there e = no_pair (term_at ws p) (e ∙ ap pair_in is.worth)

pub same_turned : (x y : Value) → same_value x y ≡ same_value y x
same_turned x y = same_from_decides (same_value x y) (same_value y x) (value_decides x y) (λ e. sym ((value_decides y x).0 e), λ e. (value_decides y x).1 (sym e))

-- two constants have one value where they have one place
pub constants_same : (ws : List ℕ) → IsWellFormed ws → (v : World) (s t : ℕ) → IsTrue (is_place_of ws class.Term s) → IsTrue (is_place_of ws class.Term t) → IsConstant (term_at ws s) → IsConstant (term_at ws t)
    → nat_eq s t ≡ same_value (at v [] (term_at ws s)) (at v [] (term_at ws t))
constants_same ws formed v s t es et cs ct =
    same_from_decides {P = nat_eq s t ≡ true} _ _ (λ e. e, λ e. e) (
      λ e.
          let same : cs.0 ≡ ct.0 = sym (ap (at v []) cs.1) ∙ (value_decides _ _).0 e ∙ ap (at v []) ct.1 in
          eq-eqb s t (one_term ws formed s t es et (cs.1 ∙ ap term.Value same ∙ sym ct.1)),
      λ e. (value_decides _ _).1 (ap (λ p. at v [] (term_at ws p)) (eqb-true s t e)),
    )

module _ (ws : List ℕ) (steps : List (ℕ × ℕ)) (pairs : List ((ℕ × ℕ) × ℕ)) (v : World) (all : AreNulls steps pairs 0 v) (xs : List Worth) (have : HaveWorths ws steps v xs) (p : ℕ) (long : length xs ≡ p) where
  abbrev At : Kind → ℕ → ℕ → Type 0
  At k a b = IsWordAt ws p (record { kind = k; left = a; right = b })

  -- what the place stands for is worth this
  by_meaning : (m : Meaning) (w : Worth) → slice_get (meanings ws) p ≡ Some m → IsWorth steps v (Some m) w → IsWorth steps v (slice_get (meanings ws) p) w
  by_meaning m w e is = subst (λ o. IsWorth steps v o w) (sym e) is

  -- the text at an earlier place
  earlier_text : (a : ℕ) → a < p → IsTrue (is_place_of ws class.Text a) → (t : List ℕ) × (cs : List ℕ) × (slice_get (meanings ws) a ≡ Some (IsText t)) × (t ≡ backwards cs) × (number_in (slice_get xs a) ≡ beginning steps cs)
  earlier_text a lt e =
      let m = meaning_of_class ws class.Text a e in
      let t = of_text m.0 m.2 in
      let is = m.1 ∙ ap Some t.1 in
      let there = text_there ws steps v xs have a (omega (arith, lt, long)) t.0 is in
      (t.0, there.0, is, there.1, ap number_in there.2 ∙ number_back (beginning steps there.0)) where
        of_text : (m : Meaning) → class_of_meaning m ≡ Some class.Text → (t : List ℕ) × (m ≡ IsText t)
        of_text (IsText t) e = (t, refl)
        of_text _ e = cc

  -- a word of a text
  pub text_is : (k : Kind) (a b : ℕ) → At k a b → class_of k ≡ class.Text → IsWorth steps v (slice_get (meanings ws) p) (text_by steps k xs a b)
  text_is kind.TextEnd a b is c = by_meaning _ _ is.meaning ([], refl, refl)
  text_is kind.TextCharacter a b is c =
      let t = earlier_text a is.left.0 is.left.1 in
      by_meaning _ _ is.meaning (b ∷ t.1, (λ i. as_text (t.2 i) ++ encode_utf8 b) ∙ ap (λ u. u ++ encode_utf8 b) t.3, ap (λ o. text_worth (longer steps o b)) t.4)
  text_is _ a b is c = cc

  -- a word of a term
  pub term_is : (k : Kind) (a b : ℕ) → At k a b → class_of k ≡ class.Term → IsWorth steps v (slice_get (meanings ws) p) (term_by pairs v k xs a b)
  term_is kind.Number a b is c = by_meaning _ _ is.meaning refl
  term_is kind.TextConstant a b is c = by_meaning _ _ is.meaning refl
  term_is kind.OtherValue a b is c = by_meaning _ _ is.meaning refl
  term_is kind.Column a b is c = by_meaning _ _ is.meaning refl
  term_is kind.FreshNull a b is c =
      by_meaning _ _ is.meaning (ap (λ o. worth.Pair (or_past v o)) (mark_found steps pairs v all (null.Fresh a b) (a + 1, b) (refl, refl)))
  term_is kind.NamedNull a b is c =
      let t = earlier_text a is.left.0 is.left.1 in
      let text = ap as_text t.2 ∙ t.3 in
      by_meaning _ _ is.meaning
      (ap (λ o. worth.Pair (or_past v (pair_named pairs o))) t.4
      ∙ ap (λ o. worth.Pair (or_past v o)) (name_found t.1 (beginning steps t.1) refl)
      ∙ ap (λ u. worth.Pair (or_past v (pair_from 0 v (null.Named u)))) (sym text)) where
        name_found : (cs : List ℕ) (o : Option ℕ) → beginning steps cs ≡ o → pair_named pairs o ≡ pair_from 0 v (null.Named (backwards cs))
        name_found cs None e = sym (name_lacking steps pairs v all cs e)
        name_found cs (Some k) e = mark_found steps pairs v all (null.Named (backwards cs)) (0, k) (refl, cs, refl, e)
  term_is _ a b is c = cc

  earlier_term : (a : ℕ) → a < p → IsTrue (is_place_of ws class.Term a) → IsTermAt ws v xs a
  earlier_term a lt e = record { placed = e; worth = term_there ws steps v xs have a (omega (arith, lt, long)) (term_at ws a) (stands_term ws a e) }

  -- the fields of an equality
  pub equal_terms : (k : Kind) (a b : ℕ) → At k a b → k ≡ kind.Equal → IsTermAt ws v xs a × IsTermAt ws v xs b
  equal_terms k a b is e =
      let h = of_kind ws p (record { kind = k; left = a; right = b }) kind.Equal e is in
      (earlier_term a h.left.0 h.left.1, earlier_term b h.right.0 h.right.1)

  truth_at : (a : ℕ) → a < p → IsTrue (is_place_of ws class.Cond a) → is_true_at (slice_get xs a) ≡ holds_at v (condition_at ws a)
  truth_at a lt e = ap is_true_at (condition_there ws steps v xs have a (omega (arith, lt, long)) e)

  -- a word of a condition
  pub condition_is : (k : Kind) (a b : ℕ) → At k a b → class_of k ≡ class.Cond → IsWorth steps v (slice_get (meanings ws) p) (worth.Truth (truth_by ws v k xs a b))
  condition_is kind.True a b is c = by_meaning _ _ is.meaning refl
  condition_is kind.False a b is c = by_meaning _ _ is.meaning refl
  condition_is kind.Equal a b is c = by_meaning _ _ is.meaning refl
  condition_is kind.Not a b is c = by_meaning _ _ is.meaning (ap (λ x. worth.Truth (not x)) (truth_at a is.left.0 is.left.1))
  condition_is kind.And a b is c =
      by_meaning _ _ is.meaning
      (ap (λ x. worth.Truth x) ((λ i. truth_at a is.left.0 is.left.1 i && truth_at b is.right.0 is.right.1 i) ∙ sym (joined_holds connective.And v [] (condition_at ws a) (condition_at ws b))))
  condition_is kind.Or a b is c =
      by_meaning _ _ is.meaning
      (ap (λ x. worth.Truth x) ((λ i. truth_at a is.left.0 is.left.1 i || truth_at b is.right.0 is.right.1 i) ∙ sym (joined_holds connective.Or v [] (condition_at ws a) (condition_at ws b))))
  condition_is _ a b is c = cc
