-- An answer to a query that is evaluated in place of another answers this one.
use Rattle.std.{proofs.Common.{◌≡◌, ℕ, List, [], ◌∷◌, ◌++◌, length, map, refl, sym, ap, subst, ◌∙◌, inl, inr}, specs.Prelude.{◌⊎◌, All, Contains, filter}, proofs.lemmas.List.length-map}
use Rattle.std.proofs.lemmas.List.Elements.{All-head, All-tail, All-map, All-filter, All-weaker, Contains-append_left, Contains-append_right, Contains-append_cases}
use Rattle.ct_word.{specs.declared.values.Term.Term, specs.declared.values.CRow.CRow, specs.Value.{World, at, tuple_at}, proofs.Items.{no_item, sole_item, item_cases, first_item, later_item}}
use Rattle.ct_word.specs.Condition.{Condition, Conditions, True, False, Same, Not, And, Or, none, also, holds_at}
use Rattle.ct_word.{specs.Change.PlainRow, specs.Named.{IsNamed, IsNamedInSome}, specs.Reading.{plain_crow, term_at}}
use Rattle.ct_query.{specs.declared.schema.Heading.Heading, specs.Plain.{PlainQuery, Table, Select, Project, Product, Union, Except, Intersect}, specs.Database.SameSet}
use Rattle.ct_query.{specs.Fits.{Fits, IsColumnBelow}, specs.Reads.tables_of, specs.Terms.{condition_terms, all_terms, query_terms}}
use Rattle.ct_plan.{specs.Over.HasSchema, specs.Planned.planned, specs.Replaces.{bare, Replaces}, proofs.Law.replaces}
use Rattle.ct_operators.{specs.declared.table.CTable.CTable, specs.Tables.{IsRow, AreRows, cells_of, value_of_rows}, specs.Terms.IsNoColumn, proofs.Reaching.rows_wider}
use Rattle.ct_table.specs.Denotes.{TableView, heading_of, value_of_tables}
use Rattle.ct_algebra.{specs.Operands.{AreTables, cells_in}, specs.Evaluates.Evaluates, specs.Terms.{IsNamedIn, TermOfQuery}}
use Rattle.ct_word.{specs.Sublist.IsSublist}
use Rattle.ct_word.specs.declared.values.Term.TheVariants as term

-- selections do not change what is read
tables_bare : (q : PlainQuery) → tables_of (bare q) ≡ tables_of q
tables_bare (Table t) = refl
tables_bare (Select c q) = tables_bare q
tables_bare (Project ks q) = tables_bare q
tables_bare (Product a b) = let left = tables_bare a in let right = tables_bare b in λ i. left i ++ right i
tables_bare (Union a b) = let left = tables_bare a in let right = tables_bare b in λ i. left i ++ right i
tables_bare (Except a b) = let left = tables_bare a in let right = tables_bare b in λ i. left i ++ right i
tables_bare (Intersect a b) = let left = tables_bare a in let right = tables_bare b in λ i. left i ++ right i

-- the terms that a query names are its terms
mutual
  named_stands : (c : Condition) (t : Term) → IsNamed c t → Contains (condition_terms c) t
  named_stands True t n = absurd n
  named_stands False t n = absurd n
  named_stands (Same s u) t (inl e) = subst (Contains (s ∷ u ∷ [])) (sym e) (first_item (u ∷ []) s)
  named_stands (Same s u) t (inr e) = subst (Contains (s ∷ u ∷ [])) (sym e) (later_item (u ∷ []) s u (first_item [] u))
  named_stands (Not c) t n = named_stands c t n
  named_stands (And cs) t n = all_named_stand cs t n
  named_stands (Or cs) t n = all_named_stand cs t n

  all_named_stand : (cs : Conditions) (t : Term) → IsNamedInSome cs t → Contains (all_terms cs) t
  all_named_stand none t n = absurd n
  all_named_stand (also c cs) t (inl n) = Contains-append_left (condition_terms c) (all_terms cs) t (named_stands c t n)
  all_named_stand (also c cs) t (inr n) = Contains-append_right (condition_terms c) (all_terms cs) t (all_named_stand cs t n)

mutual
  is_named : (c : Condition) (t : Term) → Contains (condition_terms c) t → IsNamed c t
  is_named True t h = no_item t h
  is_named False t h = no_item t h
  is_named (Same s u) t h = elim (item_cases (u ∷ []) s t h) [ inl e ↦ inl (sym e) | inr there ↦ inr (sym (sole_item u t there)) ]
  is_named (Not c) t h = is_named c t h
  is_named (And cs) t h = all_named cs t h
  is_named (Or cs) t h = all_named cs t h

  all_named : (cs : Conditions) (t : Term) → Contains (all_terms cs) t → IsNamedInSome cs t
  all_named none t h = no_item t h
  all_named (also c cs) t h = elim (Contains-append_cases (condition_terms c) (all_terms cs) t h) [ inl i ↦ inl (is_named c t i) | inr i ↦ inr (all_named cs t i) ]

pub named_in : (q : PlainQuery) (t : Term) → IsNamedIn q t → Contains (query_terms q) t
named_in (Table name) t n = absurd n
named_in (Select c q) t (inl n) = Contains-append_left (condition_terms c) (query_terms q) t (named_stands c t n)
named_in (Select c q) t (inr n) = Contains-append_right (condition_terms c) (query_terms q) t (named_in q t n)
named_in (Project ks q) t n = named_in q t n
named_in (Product a b) t (inl n) = Contains-append_left (query_terms a) (query_terms b) t (named_in a t n)
named_in (Product a b) t (inr n) = Contains-append_right (query_terms a) (query_terms b) t (named_in b t n)
named_in (Union a b) t (inl n) = Contains-append_left (query_terms a) (query_terms b) t (named_in a t n)
named_in (Union a b) t (inr n) = Contains-append_right (query_terms a) (query_terms b) t (named_in b t n)
named_in (Except a b) t (inl n) = Contains-append_left (query_terms a) (query_terms b) t (named_in a t n)
named_in (Except a b) t (inr n) = Contains-append_right (query_terms a) (query_terms b) t (named_in b t n)
named_in (Intersect a b) t (inl n) = Contains-append_left (query_terms a) (query_terms b) t (named_in a t n)
named_in (Intersect a b) t (inr n) = Contains-append_right (query_terms a) (query_terms b) t (named_in b t n)

of_either : (a b : PlainQuery) (t : Term) → (Contains (query_terms a) t → IsNamedIn a t) → (Contains (query_terms b) t → IsNamedIn b t) → Contains (query_terms a ++ query_terms b) t
    → IsNamedIn a t ⊎ IsNamedIn b t
of_either a b t left right h = elim (Contains-append_cases (query_terms a) (query_terms b) t h) [ inl i ↦ inl (left i) | inr i ↦ inr (right i) ]

is_named_in : (q : PlainQuery) (t : Term) → Contains (query_terms q) t → IsNamedIn q t
is_named_in (Table name) t h = no_item t h
is_named_in (Select c q) t h = elim (Contains-append_cases (condition_terms c) (query_terms q) t h) [ inl i ↦ inl (is_named c t i) | inr i ↦ inr (is_named_in q t i) ]
is_named_in (Project ks q) t h = is_named_in q t h
is_named_in (Product a b) t h = of_either a b t (is_named_in a t) (is_named_in b t) h
is_named_in (Union a b) t h = of_either a b t (is_named_in a t) (is_named_in b t) h
is_named_in (Except a b) t h = of_either a b t (is_named_in a t) (is_named_in b t) h
is_named_in (Intersect a b) t h = of_either a b t (is_named_in a t) (is_named_in b t) h

below_none : (t : Term) → IsNoColumn t → IsColumnBelow 0 t
below_none (term.Column k) other = absurd (other k refl)
below_none (term.Null u) other = tt
below_none (term.Value x) other = tt

-- what tables are worth has their schema: their tuples are as wide as they have columns
wide_rows : (ws : List ℕ) (v : World) (n : ℕ) (rs : List CRow) → All (IsRow ws n) rs → All (λ u. length u ≡ n) (value_of_rows ws v rs)
wide_rows ws v n rs each =
    All-map (λ u. length u ≡ n) (λ (r : PlainRow). tuple_at v r.cells) (filter (λ (r : PlainRow). holds_at v r.condition) (map (plain_crow ws) rs))
    (All-filter (λ (r : PlainRow). holds_at v r.condition) (λ (r : PlainRow). length (tuple_at v r.cells) ≡ n) (map (plain_crow ws) rs)
    (All-map (λ (r : PlainRow). length (tuple_at v r.cells) ≡ n) (plain_crow ws) rs
    (All-weaker (IsRow ws n) (λ (r : CRow). length (tuple_at v (map (term_at ws) r.cells)) ≡ n) (λ r is. length-map (map (term_at ws) r.cells) (at v []) ∙ length-map r.cells (term_at ws) ∙ is.width_is) rs each)))

has_schema : (ws : List ℕ) (v : World) (db : List TableView) → AreTables ws db → HasSchema (map heading_of db) (value_of_tables ws v db)
has_schema ws v [] are = tt
has_schema ws v (t ∷ db) are = (
  record {
    name = refl;
    columns = refl;
    tuples = wide_rows ws v (length t.columns) t.rows (All-head (λ (x : TableView). AreRows ws (length x.columns) x.rows) t db are).each;
  },
  has_schema ws v db (All-tail (λ (x : TableView). AreRows ws (length x.columns) x.rows) t db are),
)

pub answers_in_place : (old now : List ℕ) (db : List TableView) (q p : PlainQuery) (out : CTable) → AreTables old db → Replaces (map heading_of db) q p → Evaluates old now db p out → Evaluates old now db q out
answers_in_place old now db q p out are law s =
    let hs = map heading_of db in
    record {
      width_is = s.width_is ∙ law.same_width;
      are = s.are;
      tuples = λ v. subst (SameSet (value_of_rows now v out.rows)) (law.same_rows v (value_of_tables old v db) (has_schema old v db are)) (s.tuples v);
      part = subst (IsSublist (cells_of now out.rows)) (law.same_pattern (cells_in old db)) s.part;
      from = rows_wider now (TermOfQuery old db p) (TermOfQuery old db q) terms out.rows s.from;
    } where
      read : tables_of p ≡ tables_of q
      read = sym (tables_bare p) ∙ ap tables_of law.same_parts ∙ tables_bare q

      terms : (t : Term) → TermOfQuery old db p t → TermOfQuery old db q t
      terms t (inl h) = inl (record { name = h.name; is_read = subst (λ ns. Contains ns h.name) read h.is_read; table = h.table; found = h.found; below = h.below })
      terms t (inr h) = inr (is_named_in q t (law.named t (below_none t h.1) (named_in p t h.0)), h.1)

-- a planned copy of a query is evaluated in place of it
pub plan_replaces : (hs tables : List Heading) (q copy p : PlainQuery) → tables ≡ hs → copy ≡ q → p ≡ planned tables copy → Fits hs q → Replaces hs q p
plan_replaces hs tables q copy p same copied e fits = subst (Replaces hs q) (sym (e ∙ (λ i. planned (same i) (copied i)))) (replaces hs q fits)
