-- What is true of each term of a condition or a row, and of the whole; the terms of what can be written can be written.
use Rattle.std.{proofs.Common.{◌≡◌, ℕ, true, ◌&&◌, [], ◌∷◌, length, map, refl, subst, arith, inl, inr}, specs.Prelude.{All, flat_map}, specs.List.{Contains, list_all}}
use Rattle.std.proofs.lemmas.Bool.{and_parts, and_from}
use Rattle.std.proofs.lemmas.List.Elements.{All-weaker, All-contains, All-contains_itself, Contains-append_left, Contains-append_right, Contains-append_cases}
use Rattle.ct_word.{specs.declared.values.Term.Term, specs.Condition.{Condition, Conditions, True, False, Same, Not, And, Or, none, also}}
use Rattle.ct_word.{specs.Change.{PlainRow, PlainChange, Create, Insert, Delete, Update, Assert}, proofs.Items.unmapped_item}
use Rattle.ct_word.specs.Writable.{is_name, is_writable_term, is_writable_condition, are_writable_conditions, is_writable_row, is_writable}
use Rattle.ct_query.{specs.Plain.{PlainQuery, PlainAction}, specs.Fits.{IsColumnBelow, AreColumnsBelow, AreAllColumnsBelow, FitsRow}}
use Rattle.ct_query.specs.Terms.{condition_terms, all_terms, query_terms, action_terms, change_terms}
use Rattle.ct_resolve.specs.Writing.{WritesTerm, Writes, WritesQuery, WritesAction}
use Rattle.ct_operators.{specs.Terms.IsNoColumn, proofs.Reaching.{behind, foremost, first_or_behind}, proofs.Naming.row_terms}
use Rattle.ct_statement.proofs.Members.{unflat, passes, all_pass}
use Rattle.ct_word.specs.declared.values.Term.TheVariants as term
use Rattle.ct_query.specs.Plain as plain

-- a condition whose terms are no columns but those below a position
mutual
  pub columns_of : (n : ℕ) (c : Condition) → ((t : Term) → Contains (condition_terms c) t → IsColumnBelow n t) → AreColumnsBelow n c
  columns_of n True each = tt
  columns_of n False each = tt
  columns_of n (Same s t) each = (each s (foremost s (t ∷ [])), each t (behind s (t ∷ []) t (foremost t [])))
  columns_of n (Not c) each = columns_of n c each
  columns_of n (And cs) each = all_columns_of n cs each
  columns_of n (Or cs) each = all_columns_of n cs each

  all_columns_of : (n : ℕ) (cs : Conditions) → ((t : Term) → Contains (all_terms cs) t → IsColumnBelow n t) → AreAllColumnsBelow n cs
  all_columns_of n none each = tt
  all_columns_of n (also c cs) each = (
    columns_of n c (λ t i. each t (Contains-append_left (condition_terms c) (all_terms cs) t i)),
    all_columns_of n cs (λ t i. each t (Contains-append_right (condition_terms c) (all_terms cs) t i)),
  )

-- a condition whose terms can be written
mutual
  pub writes_of : (c : Condition) → ((t : Term) → Contains (condition_terms c) t → WritesTerm t) → Writes c
  writes_of True each = refl
  writes_of False each = refl
  writes_of (Same s t) each = and_from (is_writable_term s) (is_writable_term t) (each s (foremost s (t ∷ []))) (each t (behind s (t ∷ []) t (foremost t [])))
  writes_of (Not c) each = writes_of c each
  writes_of (And cs) each = all_writes_of cs each
  writes_of (Or cs) each = all_writes_of cs each

  all_writes_of : (cs : Conditions) → ((t : Term) → Contains (all_terms cs) t → WritesTerm t) → are_writable_conditions cs ≡ true
  all_writes_of none each = refl
  all_writes_of (also c cs) each =
      and_from (is_writable_condition c) (are_writable_conditions cs)
      (writes_of c (λ t i. each t (Contains-append_left (condition_terms c) (all_terms cs) t i)))
      (all_writes_of cs (λ t i. each t (Contains-append_right (condition_terms c) (all_terms cs) t i)))

mutual
  pub written_in : (c : Condition) (t : Term) → Writes c → Contains (condition_terms c) t → WritesTerm t
  written_in True t w i = absurd (omega (arith, i.1))
  written_in False t w i = absurd (omega (arith, i.1))
  written_in (Same s u) t w i =
      let parts = and_parts (is_writable_term s) (is_writable_term u) w in
      elim (first_or_behind s (u ∷ []) t i) [
        | inl e ↦ subst WritesTerm e parts.0
        | inr r ↦ elim (first_or_behind u [] t r) [ inl e ↦ subst WritesTerm e parts.1 | inr z ↦ absurd (omega (arith, z.1)) ]
      ]
  written_in (Not c) t w i = written_in c t w i
  written_in (And cs) t w i = written_in_all cs t w i
  written_in (Or cs) t w i = written_in_all cs t w i

  written_in_all : (cs : Conditions) (t : Term) → are_writable_conditions cs ≡ true → Contains (all_terms cs) t → WritesTerm t
  written_in_all none t w i = absurd (omega (arith, i.1))
  written_in_all (also c cs) t w i =
      let parts = and_parts (is_writable_condition c) (are_writable_conditions cs) w in
      elim (Contains-append_cases (condition_terms c) (all_terms cs) t i) [ inl l ↦ written_in c t parts.0 l | inr r ↦ written_in_all cs t parts.1 r ]

-- a row that has as many cells as the table has columns, and in which no column stands
pub row_fits : (n : ℕ) (r : PlainRow) → length r.cells ≡ n → ((t : Term) → Contains (row_terms r) t → IsColumnBelow 0 t) → FitsRow n r
row_fits n r wide each = record {
  cells = wide;
  plain = All-weaker (Contains r.cells) (IsColumnBelow 0) (λ t i. each t (Contains-append_left r.cells (condition_terms r.condition) t i)) r.cells (All-contains_itself r.cells);
  condition = columns_of 0 r.condition (λ t i. each t (Contains-append_right r.cells (condition_terms r.condition) t i));
}

-- a row whose terms can be written
pub row_writes : (r : PlainRow) → ((t : Term) → Contains (row_terms r) t → WritesTerm t) → is_writable_row r ≡ true
row_writes r each =
    and_from (list_all is_writable_term r.cells) (is_writable_condition r.condition)
    (all_pass is_writable_term r.cells (λ t i. each t (Contains-append_left r.cells (condition_terms r.condition) t i)))
    (writes_of r.condition (λ t i. each t (Contains-append_right r.cells (condition_terms r.condition) t i)))

-- a term that is no column stands below each position
pub plain_below : (n : ℕ) (t : Term) → IsNoColumn t → IsColumnBelow n t
plain_below n (term.Column k) bare = absurd (bare k refl)
plain_below n _ bare = tt

-- the terms of a query that can be written
pub written_in_query : (q : PlainQuery) (t : Term) → WritesQuery q → Contains (query_terms q) t → WritesTerm t
written_in_query (plain.Table name) t w i = absurd (omega (arith, i.1))
written_in_query (plain.Select c q) t w i = elim (Contains-append_cases (condition_terms c) (query_terms q) t i) [ inl l ↦ written_in c t w.0 l | inr r ↦ written_in_query q t w.1 r ]
written_in_query (plain.Project ks q) t w i = written_in_query q t w i
written_in_query (plain.Product a b) t w i = elim (Contains-append_cases (query_terms a) (query_terms b) t i) [ inl l ↦ written_in_query a t w.0 l | inr r ↦ written_in_query b t w.1 r ]
written_in_query (plain.Union a b) t w i = elim (Contains-append_cases (query_terms a) (query_terms b) t i) [ inl l ↦ written_in_query a t w.0 l | inr r ↦ written_in_query b t w.1 r ]
written_in_query (plain.Except a b) t w i = elim (Contains-append_cases (query_terms a) (query_terms b) t i) [ inl l ↦ written_in_query a t w.0 l | inr r ↦ written_in_query b t w.1 r ]
written_in_query (plain.Intersect a b) t w i = elim (Contains-append_cases (query_terms a) (query_terms b) t i) [ inl l ↦ written_in_query a t w.0 l | inr r ↦ written_in_query b t w.1 r ]

-- of an action that can be written
pub written_in_action : (a : PlainAction) (t : Term) → WritesAction a → Contains (action_terms a) t → WritesTerm t
written_in_action (plain.Create name columns) t w i = absurd (omega (arith, i.1))
written_in_action (plain.InsertRows name rows c) t w i = elim (Contains-append_cases (flat_map (λ r. r) rows) (condition_terms c) t i) [
  | inl l ↦ let r = unflat (λ r. r) rows t l in All-contains WritesTerm r.0 t (All-contains (All WritesTerm) rows r.0 w.1 r.1) r.2
  | inr r ↦ written_in c t w.2 r
]
written_in_action (plain.InsertQuery name q) t w i = written_in_query q t w.1 i
written_in_action (plain.Delete name c) t w i = written_in c t w.1 i
written_in_action (plain.Update name sets c) t w i = elim (Contains-append_cases (map (λ s. s.1) sets) (condition_terms c) t i) [
  | inl l ↦ let s = unmapped_item (λ (s : ℕ × Term). s.1) sets t l in subst WritesTerm s.2 (All-contains (λ (b : ℕ × Term). WritesTerm b.1) sets s.0 w.1 s.1)
  | inr r ↦ written_in c t w.2 r
]
written_in_action (plain.Assert c) t w i = written_in c t w i
written_in_action (plain.AssertQuery wanted q) t w i = written_in_query q t w i
written_in_action (plain.AssertKey name columns) t w i = absurd (omega (arith, i.1))

written_in_row : (r : PlainRow) (t : Term) → is_writable_row r ≡ true → Contains (row_terms r) t → WritesTerm t
written_in_row r t w i =
    let parts = and_parts (list_all is_writable_term r.cells) (is_writable_condition r.condition) w in
    elim (Contains-append_cases r.cells (condition_terms r.condition) t i) [ inl l ↦ passes is_writable_term r.cells t parts.0 l | inr c ↦ written_in r.condition t parts.1 c ]

-- of a change that can be written
pub written_in_change : (x : PlainChange) (t : Term) → is_writable x ≡ true → Contains (change_terms x) t → WritesTerm t
written_in_change (Create name columns) t w i = absurd (omega (arith, i.1))
written_in_change (Insert name rs) t w i =
    let r = unflat row_terms rs t i in
    written_in_row r.0 t (passes is_writable_row rs r.0 (and_parts (is_name name) (list_all is_writable_row rs) w).1 r.1) r.2
written_in_change (Delete name c) t w i = written_in c t (and_parts (is_name name) (is_writable_condition c) w).1 i
written_in_change (Update name sets c) t w i =
    let parts = and_parts (is_name name && list_all (λ (s : ℕ × Term). is_writable_term s.1) sets) (is_writable_condition c) w in
    elim (Contains-append_cases (map (λ s. s.1) sets) (condition_terms c) t i) [
      | inl l ↦ let s = unmapped_item (λ (s : ℕ × Term). s.1) sets t l in subst WritesTerm s.2 (passes (λ (s : ℕ × Term). is_writable_term s.1) sets s.0 (and_parts (is_name name) (list_all (λ (s : ℕ × Term). is_writable_term s.1) sets) parts.0).1 s.1)
      | inr r ↦ written_in c t parts.1 r
    ]
written_in_change (Assert c) t w i = written_in c t w i
