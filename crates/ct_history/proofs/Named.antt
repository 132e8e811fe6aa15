-- The terms that a condition in the log names, and the words that a predicate without a row is put by.
use Rattle.std.proofs.Common.{◌≡◌, ℕ, zero, suc, ◌+◌, ◌<◌, ◌≤◌, Bool, true, false, List, [], ◌∷◌, ◌++◌, Option, Some, None, refl, ap, sym, subst, arith, inl, inr}
use Rattle.std.{specs.Prelude.{IsTrue, slice_get, is_some, if◌then◌else◌}, specs.List.Contains, proofs.lemmas.Bool.false≢true}
use Rattle.std.proofs.lemmas.List.Elements.{Contains-append_left, Contains-append_right, Contains-append_cases}
use Rattle.ct_word.{specs.declared.kinds.Kind.Kind, specs.declared.values.Term.Term, specs.Named.{IsNamed, IsNamedInSome}, proofs.Places.stands_term}
use Rattle.ct_word.{specs.Condition.{Condition, Conditions, True, False, Same, Not, And, Or, none, also}, specs.Reading.{as_cond, condition_at, term_at}}
use Rattle.ct_word.{specs.Stands.{itself, through, TermBelow, places_in, places_of}, specs.Word.{kind_of, left_of, right_of}, proofs.WordAt.word_is}
use Rattle.ct_word.{specs.WellFormed.{IsWellFormed, is_place_of, is_word_of, has_class}, proofs.Items.{first_item, later_item, item_cases, no_item}}
use Rattle.ct_query.{specs.Bounds.{columns_named, literal_words, column_words, over_equalities, over_all_equalities}, specs.Terms.{condition_terms, all_terms}}
use Rattle.ct_query.specs.Fits.{IsColumnBelow, AreColumnsBelow, AreAllColumnsBelow}
use Rattle.ct_condition.{specs.Places.has_place, specs.Rows.{cell_for, term_words, words_on}, proofs.Placed.over_less}
use Rattle.ct_history.specs.Encodes.{condition_words}
use Rattle.ct_word.specs.declared.kinds.Kind.TheVariants as kind
use Rattle.ct_word.specs.declared.kinds.Class.TheVariants as class
use Rattle.ct_word.specs.declared.values.Term.TheVariants as term

-- a term that is named is one of the terms
mutual
  pub named_in : (c : Condition) (t : Term) → IsNamed c t → Contains (condition_terms c) t
  named_in True t h = absurd h
  named_in False t h = absurd h
  named_in (Same s u) t (inl e) = subst (Contains (s ∷ u ∷ [])) (sym e) (first_item (u ∷ []) s)
  named_in (Same s u) t (inr e) = subst (Contains (s ∷ u ∷ [])) (sym e) (later_item (u ∷ []) s u (first_item [] u))
  named_in (Not c) t h = named_in c t h
  named_in (And cs) t h = named_in_some cs t h
  named_in (Or cs) t h = named_in_some cs t h

  named_in_some : (cs : Conditions) (t : Term) → IsNamedInSome cs t → Contains (all_terms cs) t
  named_in_some none t h = absurd h
  named_in_some (also c cs) t (inl h) = Contains-append_left (condition_terms c) (all_terms cs) t (named_in c t h)
  named_in_some (also c cs) t (inr h) = Contains-append_right (condition_terms c) (all_terms cs) t (named_in_some cs t h)

module _ (ws : List ℕ) (t : Term) where
  -- a term below a place that a word names stands below the word's place
  under_named : (p w : ℕ) (k : Kind) (q : ℕ) → slice_get ws p ≡ Some w → kind_of w ≡ Some k → Contains (places_in (Some k) (left_of w) (right_of w)) q → TermBelow ws q t → TermBelow ws p t
  unfolding places_of
  under_named p w k q at e among b = (b.0, through w q at (subst (λ o. Contains (places_in o (left_of w) (right_of w)) q) (sym e) among) b.1, b.2)

module _ (ws : List ℕ) (formed : IsWellFormed ws) where
  -- by what the word of a condition says, where this is so for earlier ones
  reached_by : (p : ℕ) (t : Term) → IsTrue (is_place_of ws class.Cond p) → Contains (condition_terms (condition_at ws p)) t
      → ((q : ℕ) → q < p → IsTrue (is_place_of ws class.Cond q) → Contains (condition_terms (condition_at ws q)) t → TermBelow ws q t) → TermBelow ws p t
  reached_by p t is h before = by_word (slice_get ws p) refl is where
    under : (w : ℕ) (k : Kind) (q : ℕ) → slice_get ws p ≡ Some w → kind_of w ≡ Some k → Contains (places_in (Some k) (left_of w) (right_of w)) q → TermBelow ws q t → TermBelow ws p t
    under w k q = under_named ws t p w k q

    named_at : (q : ℕ) → IsTrue (is_place_of ws class.Term q) → t ≡ term_at ws q → TermBelow ws q t
    named_at q is_q e = subst (TermBelow ws q) (sym e) (q, itself, stands_term ws q is_q)

    shaped : (c : Condition) → condition_at ws p ≡ c → Contains (condition_terms c) t
    shaped c e = subst (λ d. Contains (condition_terms d) t) e h

    of_two : (w : ℕ) (k : Kind) (a b : ℕ) → slice_get ws p ≡ Some w → kind_of w ≡ Some k → places_in (Some k) (left_of w) (right_of w) ≡ a ∷ b ∷ []
        → (a < p) × IsTrue (is_place_of ws class.Cond a) → (b < p) × IsTrue (is_place_of ws class.Cond b)
        → Contains (condition_terms (condition_at ws a) ++ (condition_terms (condition_at ws b) ++ [])) t → TermBelow ws p t
    of_two w k a b at e places left right c =
        elim (Contains-append_cases (condition_terms (condition_at ws a)) (condition_terms (condition_at ws b) ++ []) t c) [
          | inl l ↦ under w k a at e (subst (λ ps. Contains ps a) (sym places) (first_item (b ∷ []) a)) (before a left.0 left.1 l)
          | inr r ↦ elim (Contains-append_cases (condition_terms (condition_at ws b)) [] t r) [
            | inl l ↦ under w k b at e (subst (λ ps. Contains ps b) (sym places) (later_item (b ∷ []) a b (first_item [] b))) (before b right.0 right.1 l)
            | inr z ↦ absurd (no_item t z)
          ]
        ]

    by_kind : (w : ℕ) (o : Option Kind) → slice_get ws p ≡ Some w → kind_of w ≡ o → IsTrue (has_class o class.Cond) → TermBelow ws p t
    by_kind w (Some kind.True) at e of = absurd (no_item t (shaped True (ap as_cond (word_is ws p w at formed kind.True e (omega arith) (omega arith)).meaning)))
    by_kind w (Some kind.False) at e of = absurd (no_item t (shaped False (ap as_cond (word_is ws p w at formed kind.False e (omega arith) (omega arith)).meaning)))
    by_kind w (Some kind.Equal) at e of =
        let a = left_of w in
        let b = right_of w in
        let is_word = word_is ws p w at formed kind.Equal e (omega arith) (omega arith) in
        elim (item_cases (term_at ws b ∷ []) (term_at ws a) t (shaped (Same (term_at ws a) (term_at ws b)) (ap as_cond is_word.meaning))) [
          | inl s ↦ under w kind.Equal a at e (first_item (b ∷ []) a) (named_at a is_word.left.1 (sym s))
          | inr r ↦ elim (item_cases [] (term_at ws b) t r) [
            | inl s ↦ under w kind.Equal b at e (later_item (b ∷ []) a b (first_item [] b)) (named_at b is_word.right.1 (sym s))
            | inr z ↦ absurd (no_item t z)
          ]
        ]
    by_kind w (Some kind.Not) at e of =
        let a = left_of w in
        let is_word = word_is ws p w at formed kind.Not e (omega arith) (omega arith) in
        under w kind.Not a at e (first_item [] a) (before a is_word.left.0 is_word.left.1 (shaped (Not (condition_at ws a)) (ap as_cond is_word.meaning)))
    by_kind w (Some kind.And) at e of =
        let is_word = word_is ws p w at formed kind.And e (omega arith) (omega arith) in
        of_two w kind.And (left_of w) (right_of w) at e refl is_word.left is_word.right (shaped (And (also (condition_at ws (left_of w)) (also (condition_at ws (right_of w)) none))) (ap as_cond is_word.meaning))
    by_kind w (Some kind.Or) at e of =
        let is_word = word_is ws p w at formed kind.Or e (omega arith) (omega arith) in
        of_two w kind.Or (left_of w) (right_of w) at e refl is_word.left is_word.right (shaped (Or (also (condition_at ws (left_of w)) (also (condition_at ws (right_of w)) none))) (ap as_cond is_word.meaning))
    by_kind w _ at e of = absurd (false≢true of)

    by_word : (o : Option ℕ) → slice_get ws p ≡ o → IsTrue (is_word_of o class.Cond) → TermBelow ws p t
    by_word (Some w) at of = by_kind w (kind_of w) at refl of
    by_word None at of = absurd (false≢true of)

  reached : (n p : ℕ) (t : Term) → p < n → IsTrue (is_place_of ws class.Cond p) → Contains (condition_terms (condition_at ws p)) t → TermBelow ws p t
  reached zero p t lt is h = absurd (omega (arith, lt))
  reached (suc n) p t lt is h = reached_by p t is h (λ q less is_q among. reached n q t (omega (arith, lt, less)) is_q among)

  -- a term of the condition at a place stands below the place
  pub term_reached : (p : ℕ) (t : Term) → IsTrue (is_place_of ws class.Cond p) → Contains (condition_terms (condition_at ws p)) t → TermBelow ws p t
  term_reached p t is h = reached (suc p) p t (omega arith) is h

-- sums over equalities add up
module _ (f g : Term → Term → ℕ) where
  mutual
    over_sum : (c : Condition) → over_equalities (λ s t. f s t + g s t) c ≡ over_equalities f c + over_equalities g c
    over_sum True = refl
    over_sum False = refl
    over_sum (Same s t) = refl
    over_sum (Not c) = over_sum c
    over_sum (And cs) = over_all_sum cs
    over_sum (Or cs) = over_all_sum cs

    over_all_sum : (cs : Conditions) → over_all_equalities (λ s t. f s t + g s t) cs ≡ over_all_equalities f cs + over_all_equalities g cs
    over_all_sum none = refl
    over_all_sum (also c cs) = let a = over_sum c in let b = over_all_sum cs in omega (arith, a, b)

by_tests : (a b : Bool) (n : ℕ) → (if a then 0 else if b then 0 else n) ≤ n
by_tests true b n = omega arith
by_tests false true n = omega arith
by_tests false false n = omega arith

-- a predicate without a row is put by the words of its terms and operations, at most
pub words_written : (ws : List ℕ) (c : Condition) → words_on ws [] c ≤ condition_words c
words_written ws c =
    let each : (t : Term) → term_words ws [] t ≤ literal_words t + column_words t = λ t. by_tests (is_some (cell_for [] t)) (has_place ws t) (literal_words t + column_words t) in
    let less = over_less (λ s t. term_words ws [] s + term_words ws [] t) (λ s t. (literal_words s + literal_words t) + (column_words s + column_words t))
    (λ s t. let a = each s in let b = each t in omega (arith, a, b)) c in
    let both = over_sum (λ s t. literal_words s + literal_words t) (λ s t. column_words s + column_words t) c in
    omega (arith, less, both)

-- a term that is no column
pub no_column : (t : Term) → IsColumnBelow 0 t → column_words t ≡ 0
no_column (term.Column k) h = absurd (omega (arith, h))
no_column (term.Null n) h = refl
no_column (term.Value x) h = refl

-- no column is named where none stands
mutual
  pub no_columns : (c : Condition) → AreColumnsBelow 0 c → columns_named c ≡ 0
  no_columns True h = refl
  no_columns False h = refl
  no_columns (Same s t) h = let a = no_column s h.0 in let b = no_column t h.1 in omega (arith, a, b)
  no_columns (Not c) h = no_columns c h
  no_columns (And cs) h = no_columns_in cs h
  no_columns (Or cs) h = no_columns_in cs h

  no_columns_in : (cs : Conditions) → AreAllColumnsBelow 0 cs → over_all_equalities (λ s t. column_words s + column_words t) cs ≡ 0
  no_columns_in none h = refl
  no_columns_in (also c cs) h = let a = no_columns c h.0 in let b = no_columns_in cs h.1 in omega (arith, a, b)
