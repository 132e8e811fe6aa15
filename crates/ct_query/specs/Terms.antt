-- Terms of queries, actions and changes, and the distinct ones that a statement asks about.
use Rattle.std.specs.Prelude.{List, [], ◌∷◌, ◌++◌, filter, map, flat_map, if◌then◌else◌}
use Rattle.std.specs.List.{list_any}
use Rattle.ct_word.specs.declared.values.Term.{Term}
use Rattle.ct_word.specs.Value.{same_term}
use Rattle.ct_word.specs.Condition.{Condition, Conditions, True, False, Same, Not, And, Or, none, also}
use Rattle.ct_word.specs.Change.{PlainChange, Create, Insert, Delete, Update, Assert, PlainCommit}
use Rattle.ct_query.specs.Plain as plain
use Rattle.ct_query.specs.Plain.{PlainQuery, PlainAction, PlainStatement}
use Rattle.ct_query.specs.declared.action.Read.{Read}
use Rattle.ct_query.specs.Reads.{action_reads, reads_of, writes}
use Rattle.ct_query.specs.Worlds.{changes_of}

-- the terms of a condition, from the left
abbrev mutual
  pub condition_terms : Condition → List Term
  condition_terms True = []
  condition_terms False = []
  condition_terms (Same s t) = s ∷ t ∷ []
  condition_terms (Not c) = condition_terms c
  condition_terms (And cs) = all_terms cs
  condition_terms (Or cs) = all_terms cs

  pub all_terms : Conditions → List Term
  all_terms none = []
  all_terms (also c cs) = condition_terms c ++ all_terms cs

-- the terms of a change
abbrev pub change_terms : PlainChange → List Term
change_terms (Create name columns) = []
change_terms (Insert name rs) = flat_map (λ r. r.cells ++ condition_terms r.condition) rs
change_terms (Delete name c) = condition_terms c
change_terms (Update name sets c) = map (λ s. s.1) sets ++ condition_terms c
change_terms (Assert c) = condition_terms c

-- the terms of a query: those of its conditions
abbrev pub query_terms : PlainQuery → List Term
query_terms (plain.Table t) = []
query_terms (plain.Select c q) = condition_terms c ++ query_terms q
query_terms (plain.Project ks q) = query_terms q
query_terms (plain.Product a b) = query_terms a ++ query_terms b
query_terms (plain.Union a b) = query_terms a ++ query_terms b
query_terms (plain.Except a b) = query_terms a ++ query_terms b
query_terms (plain.Intersect a b) = query_terms a ++ query_terms b

-- the terms of an action
abbrev pub action_terms : PlainAction → List Term
action_terms (plain.Create name columns) = []
action_terms (plain.InsertRows name rs c) = flat_map (λ r. r) rs ++ condition_terms c
action_terms (plain.InsertQuery name q) = query_terms q
action_terms (plain.Delete name c) = condition_terms c
action_terms (plain.Update name sets c) = map (λ s. s.1) sets ++ condition_terms c
action_terms (plain.Assert c) = condition_terms c
action_terms (plain.AssertQuery wanted q) = query_terms q
action_terms (plain.AssertKey name columns) = []

-- the terms of a statement
abbrev pub statement_terms : PlainStatement → List Term
statement_terms (plain.Act a) = action_terms a
statement_terms (plain.Asks ask columns q) = query_terms q
statement_terms plain.Begin = []
statement_terms plain.Commit = []
statement_terms plain.Rollback = []

-- the terms, each once, where it stands last
abbrev pub distinct_terms : List Term → List Term
distinct_terms [] = []
distinct_terms (t ∷ ts) = if list_any (same_term t) ts then distinct_terms ts else t ∷ distinct_terms ts

-- the changes of a history that write one of these
abbrev pub changes_that_write : List Read → List PlainCommit → List PlainChange
changes_that_write reads h = filter (λ x. list_any (writes x) reads) (changes_of h)

-- what a statement reads, and what the actions before it in its transaction read
abbrev pub reads_with : List PlainAction → PlainStatement → List Read
reads_with actions x = flat_map action_reads actions ++ reads_of x

-- the distinct terms that a statement asks about, after a history and the actions of its transaction: those of the
-- changes that assert or name a table that is read, of the actions, and its own; one that reads the worlds reads assertions
abbrev pub terms_asked : List PlainCommit → List PlainAction → PlainStatement → List Term
terms_asked h actions x =
    distinct_terms (flat_map change_terms (changes_that_write (reads_with actions x) h) ++ flat_map action_terms actions ++ statement_terms x)
