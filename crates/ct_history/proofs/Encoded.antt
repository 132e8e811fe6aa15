-- The changes of actions: predicates as conditions of the log, rows of terms under one condition.
use Rattle.std.proofs.Common.{◌≡◌, ◌≤◌, ◌<◌, ◌+◌, ℕ, zero, suc, List, [], ◌∷◌, ◌++◌, Some, map, length, get_or, refl, ap, sym, subst, ◌∙◌, arith, inl, inr}
use Rattle.std.{specs.Prelude.{◌⊎◌, IsTrue, All, flat_map, sum_by}, specs.List.Contains, proofs.lemmas.List.Sums.sum_by-cons}
use Rattle.std.proofs.lemmas.List.Elements.{All-get_or, Contains-append_left, Contains-append_right, Contains-append_cases}
use Rattle.ct_word.{specs.declared.values.CRow.CRow, specs.declared.values.Term.Term, specs.Condition.{Condition, holds}, specs.Stands.StandsAt}
use Rattle.ct_word.{specs.Change.{PlainRow, Insert, Update, Assert}, specs.WellFormed.{IsWellFormed, is_place_of}}
use Rattle.ct_word.specs.Reading.{IsTerm, IsRow, IsChangeList, as_row, as_term, by_kind, change_list_at, meanings, condition_at}
use Rattle.ct_word.proofs.Prefixes.{stands_in_prefix, condition_in_prefix, place_in_prefix, place_within}
use Rattle.ct_query.{specs.Plain.PlainAction, specs.Agrees.SameTruthAlone, specs.Bounds.{ops, literal_words, column_words}, specs.Fits.FitsCell, specs.Terms.condition_terms}
use Rattle.ct_condition.{specs.Rows.on_row, specs.Terms.{TermsFrom, IsOnRow}, specs.Truth.{HasTruth, ops_at}, proofs.Reached.under_none}
use Rattle.ct_history.{specs.Encodes.{Adds, IsConditionOf, IsChangeFor, HasTermsOf, HasOpsOf, term_row_words}, specs.Rows.row_under}
use Rattle.ct_history.proofs.Named.{named_in, no_column, term_reached}
use mathlib.Core.List.{IsPrefix}
use Rattle.ct_word.specs.declared.kinds.Class.TheVariants as class
use Rattle.ct_word.specs.declared.kinds.Kind.TheVariants as kind
use Rattle.ct_query.specs.Plain as plain

-- a predicate that was put without a row
pub condition_is : (old new : List ℕ) (p : Condition) (place : ℕ) → IsWellFormed new → HasTruth new place (on_row old p []) → TermsFrom new place (IsOnRow old [] p) → ops_at new place ≤ ops p
    → IsConditionOf new place p
condition_is old new p place formed h from few = record {
  class = h.class;
  small = h.small;
  truth = λ v row. h.truth_is v row;
  from = λ t among. elim (from t (term_reached new formed place t h.class among)) [
    | inl b ↦ absurd (under_none old t b)
    | inr n ↦ named_in p t n.0
  ];
  few = few;
}

-- it stays one in more words
pub condition_later : (old new : List ℕ) (p : Condition) (place : ℕ) → IsPrefix old new → IsConditionOf old place p → IsConditionOf new place p
condition_later old new p place longer is =
    let same = condition_in_prefix old new place longer (place_within old class.Cond place is.class) in
    record {
      class = place_in_prefix old new class.Cond place longer is.class;
      small = is.small;
      truth = λ v row. ap (holds v row) same ∙ is.truth v row;
      from = λ t among. is.from t (subst (λ c. Contains (condition_terms c) t) same among);
      few = subst (λ c. ops c ≤ ops p) (sym same) is.few;
    }

-- a term that is put behind cells
pub term_added : (ws xs ys : List ℕ) (cells : List Term) (t : Term) (place cell new : ℕ)
    → StandsAt ws place (IsRow cells) → IsTrue (is_place_of ws class.Row place) → IsPrefix ws ys
    → StandsAt xs cell (IsTerm t) → IsTrue (is_place_of xs class.Term cell) → IsPrefix xs ys
    → StandsAt ys new (by_kind (Some kind.RowCell) (meanings ys) place cell)
    → StandsAt ys new (IsRow (cells ++ t ∷ []))
term_added ws xs ys cells t place cell new s p grown u q grown' stands =
    stands ∙ (λ i. Some (IsRow (as_row (stands_in_prefix ws ys place _ grown (place_within ws class.Row place p) s i)
    ++ as_term (stands_in_prefix xs ys cell _ grown' (place_within xs class.Term cell q) u i) ∷ [])))

module _ (c : Condition) where
  cells_kept : (rows : List (List Term)) → map (λ r. r.cells) (map (row_under c) rows) ≡ rows
  cells_kept [] = refl
  cells_kept (r ∷ rows) = ap (λ rs. r ∷ rs) (cells_kept rows)

  all_under : (P : PlainRow → Type 0) → ((r : List Term) → P (row_under c r)) → (rows : List (List Term)) → All P (map (row_under c) rows)
  all_under P h [] k d lt = absurd (omega (arith, lt))
  all_under P h (r ∷ rows) zero d lt = h r
  all_under P h (r ∷ rows) (suc k) d lt = all_under P h rows k d (omega (arith, lt))

  terms_under : (rows : List (List Term)) (t : Term) → Contains (flat_map (λ r. r.cells ++ condition_terms r.condition) (map (row_under c) rows)) t
      → Contains (flat_map (λ r. r) rows) t ⊎ Contains (condition_terms c) t
  terms_under [] t h = inl h
  terms_under (r ∷ rows) t h =
      let rest : List Term = flat_map (λ x. x.cells ++ condition_terms x.condition) (map (row_under c) rows) in
      elim (Contains-append_cases (r ++ condition_terms c) rest t h) [
        | inl l ↦ elim (Contains-append_cases r (condition_terms c) t l) [
          | inl a ↦ inl (Contains-append_left r (flat_map (λ x. x) rows) t a)
          | inr b ↦ inr b
        ]
        | inr l ↦ elim (terms_under rows t l) [
          | inl a ↦ inl (Contains-append_right r (flat_map (λ x. x) rows) t a)
          | inr b ↦ inr b
        ]
      ]

-- the insertion of rows of terms, each under a condition of the predicate
module _ (words : List ℕ) (cond : ℕ) (p : Condition) (is : IsConditionOf words cond p) (name : List ℕ) (rows : List (List Term)) where
  abbrev pub rows_under : List PlainRow
  rows_under = map (row_under (condition_at words cond)) rows

  pub rows_do : IsChangeFor (plain.InsertRows name rows p) [] (Insert name rows_under)
  rows_do = (refl, cells_kept (condition_at words cond) rows, all_under (condition_at words cond) (λ r. SameTruthAlone r.condition p) (λ r v. is.truth v []) rows)

  pub rows_from : HasTermsOf (plain.InsertRows name rows p) [] (Insert name rows_under)
  rows_from t h = elim (terms_under (condition_at words cond) rows t h) [
    | inl a ↦ Contains-append_left (flat_map (λ r. r) rows) (condition_terms p) t a
    | inr b ↦ Contains-append_right (flat_map (λ r. r) rows) (condition_terms p) t (is.from t b)
  ]

  pub rows_few : HasOpsOf (plain.InsertRows name rows p) (Insert name rows_under)
  rows_few = all_under (condition_at words cond) (λ r. ops r.condition ≤ ops p) (λ r. is.few) rows

-- the terms of an update under a condition of the predicate
pub update_from : (words : List ℕ) (cond : ℕ) (p : Condition) → IsConditionOf words cond p → (name : List ℕ) (sets : List (ℕ × Term))
    → HasTermsOf (plain.Update name sets p) [] (Update name sets (condition_at words cond))
update_from words cond p is name sets t h =
    let own : List Term = map (λ s. s.1) sets in
    elim (Contains-append_cases own (condition_terms (condition_at words cond)) t h) [
      | inl a ↦ Contains-append_left own (condition_terms p) t a
      | inr b ↦ Contains-append_right own (condition_terms p) t (is.from t b)
    ]

-- the words of rows of terms
pub rows_words : (rows : List (List Term)) → sum_by term_row_words rows ≡ sum_by (sum_by literal_words) rows + sum_by (λ r. length r + 2) rows
rows_words [] = refl
rows_words (r ∷ rows) =
    let rest = rows_words rows in
    omega (arith, rest, sum_by-cons term_row_words r rows, sum_by-cons (sum_by literal_words) r rows, sum_by-cons (λ x. length x + 2) r rows)

-- a cell is put by the words of a literal
pub cell_counted : (cells : List Term) (i : ℕ) (t : Term) → i < length cells → t ≡ get_or cells i t → All FitsCell cells
    → literal_words t + column_words t ≡ literal_words (get_or cells i t)
cell_counted cells i t lt is all =
    let none = no_column (get_or cells i t) (All-get_or FitsCell cells i t lt all).0 in
    ap (λ u. literal_words u + column_words u) is ∙ omega (arith, none)

-- rows of a query play no part in other actions
pub adds_rows : (old new : List ℕ) (list place : ℕ) (name : List ℕ) (rs : List (List Term)) (p : Condition) (rows : List CRow)
    → Adds old new list place (plain.InsertRows name rs p) [] → Adds old new list place (plain.InsertRows name rs p) rows
adds_rows old new list place name rs p rows h = record { change = h.change; list_is = h.list_is; does = h.does; from = h.from; few = h.few }

pub adds_update : (old new : List ℕ) (list place : ℕ) (name : List ℕ) (sets : List (ℕ × Term)) (p : Condition) (rows : List CRow)
    → Adds old new list place (plain.Update name sets p) [] → Adds old new list place (plain.Update name sets p) rows
adds_update old new list place name sets p rows h = record { change = h.change; list_is = h.list_is; does = h.does; from = h.from; few = h.few }

pub adds_deletion : (old new : List ℕ) (list place : ℕ) (name : List ℕ) (p : Condition) (rows : List CRow)
    → Adds old new list place (plain.Delete name p) [] → Adds old new list place (plain.Delete name p) rows
adds_deletion old new list place name p rows h = record { change = h.change; list_is = h.list_is; does = h.does; from = h.from; few = h.few }

-- an assertion over a query or a key
abbrev pub IsOverRows : PlainAction → Type 0
IsOverRows (plain.AssertQuery wanted q) = Unit {0}
IsOverRows (plain.AssertKey name columns) = Unit {0}
IsOverRows _ = ⊥

-- it asserts the condition of the first row that is handed in
pub adds_assertion : (old new : List ℕ) (list place : ℕ) (a : PlainAction) (rows : List CRow) (d : CRow) → IsOverRows a → 0 < length rows
    → StandsAt new place (IsChangeList (change_list_at old list ++ Assert (condition_at old (get_or rows 0 d).cond) ∷ []))
    → Adds old new list place a rows
adds_assertion old new list place a [] d over lt stands = absurd (omega (arith, lt))
adds_assertion old new list place (plain.AssertQuery wanted q) (r ∷ rows) d over lt stands = record {
  change = Assert (condition_at old r.cond);
  list_is = stands;
  does = refl;
  from = λ t h. h;
  few = tt;
}
adds_assertion old new list place (plain.AssertKey name columns) (r ∷ rows) d over lt stands = record {
  change = Assert (condition_at old r.cond);
  list_is = stands;
  does = refl;
  from = λ t h. h;
  few = tt;
}
adds_assertion old new list place _ (r ∷ rows) d over lt stands = absurd over
