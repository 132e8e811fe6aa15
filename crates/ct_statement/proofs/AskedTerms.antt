-- Which terms a query asks about: those of the tables that it reads, and its own.
use Rattle.std.proofs.Common.{◌≡◌, ℕ, Bool, true, false, List, [], ◌∷◌, ◌++◌, map, refl, sym, subst, inl, inr}
use Rattle.std.{specs.Prelude.{◌⊎◌, flat_map, if◌then◌else◌}, specs.List.{Contains, list_any}}
use Rattle.std.proofs.lemmas.List.Elements.{All-contains, All-contains_itself, All-from_recursion, recursion_from_All, Contains-append_left, Contains-append_right}
use Rattle.std.proofs.lemmas.Map.Views.{Contains-from_any}
use Rattle.ct_word.{specs.declared.values.Term.Term, specs.Value.same_term, specs.Change.PlainCommit}
use Rattle.ct_word.proofs.Alike.{term_decides}
use Rattle.ct_query.{specs.declared.action.Read.Read, specs.Reads.{tables_of, query_reads, action_reads}, proofs.Within.of_added}
use Rattle.ct_query.specs.Plain.{PlainQuery, PlainAction, PlainStatement}
use Rattle.ct_query.specs.Terms.{query_terms, change_terms, action_terms, distinct_terms, changes_that_write, reads_with}
use Rattle.ct_table.{specs.Denotes.{TableView, IsTermFor, Denotes}, proofs.Denoting.{found_all, found_name}, proofs.Asked.term_is_asked}
use Rattle.ct_operators.{specs.Terms.RowsFrom, proofs.Reaching.{behind, foremost, first_or_behind, from_rows}, proofs.Naming.mapped}
use Rattle.ct_algebra.{specs.Terms.TermOfQuery, proofs.Planned.named_in}
use Rattle.ct_statement.specs.Asking.{terms_of_query}
use Rattle.ct_query.specs.declared.action.Ask.TheVariants as ask
use Rattle.ct_query.specs.declared.action.Read.TheVariants as read
use Rattle.ct_query.specs.Plain as plain

-- a query reads its tables and the worlds
is_read : (q : PlainQuery) (r : Read) → Contains (map read.Table (tables_of q) ++ read.Worlds ∷ []) r → Contains (query_reads q) r
is_read q r h =
    let all = map read.Table (tables_of q) ++ read.Worlds ∷ [] in
    All-contains (Contains (query_reads q)) all r
    (All-from_recursion (Contains (query_reads q)) all
    (of_added (Contains (query_reads q)) [] all (recursion_from_All (Contains (query_reads q)) (query_reads q) (All-contains_itself (query_reads q)))).1) h

-- leaving out what stands later again leaves out no term
still_there : (ts : List Term) (u : Term) → Contains ts u → Contains (distinct_terms ts) u
still_there [] u h = h
still_there (t ∷ ts) u h = by_test (list_any (same_term t) ts) refl (first_or_behind t ts u h) (still_there ts u) where
  by_test : (b : Bool) → list_any (same_term t) ts ≡ b → (t ≡ u) ⊎ Contains ts u → (Contains ts u → Contains (distinct_terms ts) u)
      → Contains (if b then distinct_terms ts else t ∷ distinct_terms ts) u
  by_test true e (inl q) rest = rest (subst (Contains ts) q (Contains-from_any (λ x y p. (term_decides x y).0 p) t ts e))
  by_test true e (inr i) rest = rest i
  by_test false e (inl q) rest = subst (Contains (t ∷ distinct_terms ts)) q (foremost t (distinct_terms ts))
  by_test false e (inr i) rest = behind t (distinct_terms ts) u (rest i)

module _ (h : List PlainCommit) (actions : List PlainAction) (q : PlainQuery) where
  abbrev asks : PlainStatement
  asks = plain.Asks ask.Rows [] q

  read_with : (r : Read) → Contains (map read.Table (tables_of q) ++ read.Worlds ∷ []) r → Contains (reads_with actions asks) r
  read_with r i = Contains-append_right (flat_map action_reads actions) (query_reads q) r (is_read q r i)

  own_asked : (u : Term) → Contains (query_terms q) u → Contains (terms_of_query h actions q) u
  own_asked u i =
      let brought = flat_map change_terms (changes_that_write (reads_with actions asks) h) ++ flat_map action_terms actions in
      still_there (brought ++ query_terms q) u (Contains-append_right brought (query_terms q) u i)

  -- the terms of tables that the query reads, and its own
  pub of_query_asked : (words : List ℕ) (db : List TableView) → Denotes words h actions db → (u : Term) → TermOfQuery words db q u → Contains (terms_of_query h actions q) u
  of_query_asked words db d u (inr n) = own_asked u (named_in q u n.0)
  of_query_asked words db d u (inl t) =
      let its = found_all (λ (x : TableView). RowsFrom words x.rows (IsTermFor h actions (read.Table x.name))) t.name t.table db
      (recursion_from_All (λ (x : TableView). RowsFrom words x.rows (IsTermFor h actions (read.Table x.name))) db d.from) t.found in
      term_is_asked h actions asks (read.Table t.table.name) u
      (read_with (read.Table t.table.name) (subst (λ n. Contains (map read.Table (tables_of q) ++ read.Worlds ∷ []) (read.Table n)) (sym (found_name t.name t.table db t.found))
      (Contains-append_left (map read.Table (tables_of q)) (read.Worlds ∷ []) (read.Table t.name) (mapped read.Table (tables_of q) t.name t.is_read))))
      (from_rows words t.table.rows (IsTermFor h actions (read.Table t.table.name)) its u t.below)
