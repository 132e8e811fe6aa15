-- Patterns: the cells of all rows that were ever inserted, and of those that an update made of them, without conditions.
use Rattle.std.specs.Prelude.{ℕ, ◌+◌, List, [], ◌∷◌, ◌++◌, map, filter_map, slice_get, if◌then◌else◌}
use Rattle.std.specs.List.{list_any}
use Rattle.ct_word.specs.declared.values.Term.{Term}
use Rattle.ct_word.specs.Value.{same_text, same_cells}
use Rattle.ct_word.specs.Change.{PlainChange, Create, Insert, Delete, Update, Assert, PlainCommit}
use Rattle.ct_query.specs.Plain.{PlainAction}
use Rattle.ct_query.specs.Plain as plain
use Rattle.ct_query.specs.Plain.{PlainQuery}
use Rattle.ct_query.specs.Rows.{joins}
use Rattle.ct_query.specs.Updates.{Sets, with_updated}
use Rattle.ct_query.specs.Worlds.{changes_of}

-- the cell lists of each table, by its name
abbrev pub Patterns : Type 0
Patterns = List ℕ → List (List Term)

-- no table has a cell list
abbrev pub no_patterns : Patterns
no_patterns = λ t. []

-- the cells at these positions; a position past the end is left out
abbrev pub picked : List ℕ → List Term → List Term
picked ks cells = filter_map (slice_get cells) ks

-- the pattern of a query over the patterns of the tables
abbrev pub query_pattern : Patterns → PlainQuery → List (List Term)
query_pattern p (plain.Table t) = p t
query_pattern p (plain.Select c q) = query_pattern p q
query_pattern p (plain.Project ks q) = map (picked ks) (query_pattern p q)
query_pattern p (plain.Product a b) = joins (query_pattern p a) (query_pattern p b)
query_pattern p (plain.Union a b) = query_pattern p a ++ query_pattern p b
query_pattern p (plain.Except a b) = query_pattern p a
query_pattern p (plain.Intersect a b) = query_pattern p a

-- the patterns with more cell lists for one table
abbrev pub with_lines : Patterns → List ℕ → List (List Term) → Patterns
with_lines p name more = λ t. if same_text name t then p t ++ more else p t

-- the patterns where each cell list of one table is followed by the one with the sets
abbrev pub with_sets : Patterns → List ℕ → Sets → Patterns
with_sets p name sets = λ t. if same_text name t then with_updated sets (p t) else p t

-- the patterns after a change
abbrev pub pattern_change : Patterns → PlainChange → Patterns
pattern_change p (Create name columns) = p
pattern_change p (Insert name rs) = with_lines p name (map (λ r. r.cells) rs)
pattern_change p (Delete name c) = p
pattern_change p (Update name sets c) = with_sets p name sets
pattern_change p (Assert c) = p

-- the patterns after an action
abbrev pub pattern_action : Patterns → PlainAction → Patterns
pattern_action p (plain.Create name columns) = p
pattern_action p (plain.InsertRows name rs c) = with_lines p name rs
pattern_action p (plain.InsertQuery name q) = with_lines p name (query_pattern p q)
pattern_action p (plain.Delete name c) = p
pattern_action p (plain.Update name sets c) = with_sets p name sets
pattern_action p (plain.Assert c) = p
pattern_action p (plain.AssertQuery wanted q) = p
pattern_action p (plain.AssertKey name columns) = p

-- the patterns after changes, one after another
abbrev pub pattern_changes : Patterns → List PlainChange → Patterns
pattern_changes p [] = p
pattern_changes p (x ∷ xs) = pattern_changes (pattern_change p x) xs

-- the patterns after actions, one after another
abbrev pub pattern_actions : Patterns → List PlainAction → Patterns
pattern_actions p [] = p
pattern_actions p (x ∷ xs) = pattern_actions (pattern_action p x) xs

-- the patterns of the tables after a history and further actions
abbrev pub patterns : List PlainCommit → List PlainAction → Patterns
patterns h actions = pattern_actions (pattern_changes no_patterns (changes_of h)) actions

-- the pattern of a query after a history and further actions
abbrev pub pattern : List PlainCommit → List PlainAction → PlainQuery → List (List Term)
pattern h actions q = query_pattern (patterns h actions) q

-- how many distinct cell lists there are
abbrev pub distinct_count : List (List Term) → ℕ
distinct_count [] = 0
distinct_count (l ∷ ls) = if list_any (same_cells l) ls then distinct_count ls else distinct_count ls + 1

-- the number of distinct cell lists in a table's pattern
abbrev pub count : List PlainCommit → List PlainAction → List ℕ → ℕ
count h actions t = distinct_count (patterns h actions t)
