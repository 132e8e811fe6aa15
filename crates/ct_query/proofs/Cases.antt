-- Closed tests: what the definitions say of small histories, queries and actions.
use Rattle.std.{proofs.Common.{◌≡◌, ℕ, Bool, List, [], ◌∷◌, refl, sym, true≢false, arith}, specs.Prelude.{true, false, not, ◌&&◌, Option, Some, None, is_some, pos, codes, option_map, if◌then◌else◌}}
use Rattle.std.proofs.lemmas.Bool.Decides.{same_from_decides}
use Rattle.ct_word.{proofs.Alike.value_decides, specs.declared.values.Value.Value, specs.declared.values.Term.Term, specs.Value.{World, same_text, same_value, value_of_null}, specs.Condition.{Condition, True, Same, Not}}
use Rattle.ct_word.specs.Change.{PlainRow, PlainChange, PlainCommit, Create, Insert, Delete, Update, Assert}
use Rattle.ct_query.{specs.Plain.{PlainQuery, PlainAction, Table, Select, Project, Product, Except}, specs.Rows.rows, specs.Worlds.{world, admits}, specs.Size.size}
use Rattle.ct_query.{specs.Reads.{last, query_reads, action_reads}, specs.Patterns.{pattern, count}, specs.declared.schema.Heading.Heading, specs.Fits.Fits, specs.Updates.Sets, specs.Agrees.Agrees}
use Rattle.ct_query.{specs.Database.Database, specs.Assertions.is_key, specs.Step.only_if}
use Rattle.ct_query.specs.Bounds.{bound, nodes}
use Rattle.ct_word.specs.declared.values.Value.TheVariants as val
use Rattle.ct_word.specs.declared.values.Null.TheVariants as null
use Rattle.ct_word.specs.declared.values.Term.TheVariants as term
use Rattle.ct_query.specs.Plain as plain
use Rattle.ct_query.specs.declared.action.Read.TheVariants as read

abbrev int : ℕ → Value
int n = val.Int (pos n)

abbrev constant : ℕ → Term
constant n = term.Value (int n)

abbrev x : Term
x = term.Null (null.Named (codes "x"))

-- the valuation that gives x a number
abbrev x_is : ℕ → World
x_is n = (null.Named (codes "x"), int n) ∷ []

-- a commit of session 1 with one change
abbrev by_one : ℕ → PlainChange → PlainCommit
by_one number change = record { session = 1; number = number; changes = change ∷ [] }

-- a row of one cell that is always there
abbrev row : Term → PlainRow
row t = record { cells = t ∷ []; condition = True }

-- t holds 1, u holds ?x
abbrev except_history : List PlainCommit
except_history =
    by_one 0 (Create (codes "t") (codes "a" ∷ []))
    ∷ by_one 1 (Create (codes "u") (codes "a" ∷ []))
    ∷ by_one 2 (Insert (codes "t") (row (constant 1) ∷ []))
    ∷ by_one 3 (Insert (codes "u") (row x ∷ []))
    ∷ []

-- the rows of a query after a history, where the valuation is admitted
abbrev rows_after : World → PlainQuery → List PlainCommit → Option (List (List Value))
rows_after v q h = option_map (rows v q) (world v h [])

-- `t except u` has no row where x is 1
except_same : rows_after (x_is 1) (Except (Table (codes "t")) (Table (codes "u"))) except_history ≡ Some []
except_same = refl

-- and the row 1 where x is 2
except_other : rows_after (x_is 2) (Except (Table (codes "t")) (Table (codes "u"))) except_history ≡ Some ((int 1 ∷ []) ∷ [])
except_other = refl

-- t holds 1 and 2, and the rows that are ?x are deleted
abbrev delete_history : List PlainCommit
delete_history =
    by_one 0 (Create (codes "t") (codes "a" ∷ []))
    ∷ by_one 1 (Insert (codes "t") (row (constant 1) ∷ row (constant 2) ∷ []))
    ∷ by_one 2 (Delete (codes "t") (Same (term.Column 0) x))
    ∷ []

deleted_one : rows_after (x_is 1) (Table (codes "t")) delete_history ≡ Some ((int 2 ∷ []) ∷ [])
deleted_one = refl

deleted_none : rows_after [] (Table (codes "t")) delete_history ≡ Some ((int 1 ∷ []) ∷ (int 2 ∷ []) ∷ [])
deleted_none = refl

-- t has no rows, and 1 is inserted if x is 1
abbrev rows_inserted : World → Option (List (List Value))
rows_inserted v =
    option_map (rows v (Table (codes "t")))
    (world v (by_one 0 (Create (codes "t") (codes "a" ∷ [])) ∷ []) (plain.InsertRows (codes "t") ((constant 1 ∷ []) ∷ []) (Same x (constant 1)) ∷ []))

inserted_one : rows_inserted (x_is 1) ≡ Some ((int 1 ∷ []) ∷ [])
inserted_one = refl

inserted_none : rows_inserted (x_is 2) ≡ Some []
inserted_none = refl

-- an assertion takes worlds away, and keeps the others
assert_takes : (v : World) → admits (x_is 1) (by_one 0 (Assert (Not (Same x (constant 1)))) ∷ []) [] ≡ false
assert_takes v = refl

assert_keeps : admits (x_is 2) (by_one 0 (Assert (Not (Same x (constant 1)))) ∷ []) [] ≡ true
assert_keeps = refl

-- 1 and '1' differ
kinds_differ : (v : World) → admits v [] (plain.Assert (Same (constant 1) (term.Value (val.Text (codes "1")))) ∷ []) ≡ false
kinds_differ v = refl

-- the reads of a query, its tables once each, then the worlds
reads_of_join : query_reads (Product (Table (codes "t")) (Table (codes "t"))) ≡ read.Table (codes "t") ∷ read.Worlds ∷ []
reads_of_join = refl

-- the last commit that changes a table, and the last one with an assertion
last_t : last except_history (read.Table (codes "t")) ≡ 3
last_t = refl

last_worlds : last except_history read.Worlds ≡ 0
last_worlds = refl

last_deleted : last delete_history (read.Table (codes "t")) ≡ 3
last_deleted = refl

-- the pattern of a table keeps what was deleted
pattern_kept : pattern delete_history [] (Table (codes "t")) ≡ (constant 1 ∷ []) ∷ (constant 2 ∷ []) ∷ []
pattern_kept = refl

pattern_left : pattern delete_history (plain.Delete (codes "t") True ∷ []) (Table (codes "t")) ≡ (constant 1 ∷ []) ∷ (constant 2 ∷ []) ∷ []
pattern_left = refl

-- sides with other numbers of columns do not fit
abbrev one_and_two : List Heading
one_and_two = record { name = codes "t"; columns = codes "a" ∷ [] } ∷ record { name = codes "u"; columns = codes "a" ∷ codes "b" ∷ [] } ∷ []

other_widths : Fits one_and_two (Except (Table (codes "t")) (Table (codes "u"))) → ⊥
other_widths f = let e : 1 ≡ 2 = f.0 in omega (arith, e)

-- equal cells are counted once
counted_once : count (by_one 0 (Insert (codes "t") (row x ∷ row x ∷ [])) ∷ []) [] (codes "t") ≡ 1
counted_once = refl

-- the size of a product of 1,024 and 1,025 rows
product_size : size (λ t. if same_text t (codes "q") then 1024 else 1025) (Product (Table (codes "r")) (Table (codes "q"))) ≡ 1049600
product_size = refl

-- an insertion of one row of one number into t outside a transaction: 10 words at the first time
insert_bound : bound (λ t. 1) (λ t. 1) None (plain.Act (plain.InsertRows (codes "t") ((constant 1 ∷ []) ∷ []) True)) ≡ 16
insert_bound = refl

-- `select * from t where b = 2` over one row
select_bound : nodes (λ t. 1) (Project (0 ∷ 1 ∷ []) (Select (Same (term.Column 1) (constant 2)) (Table (codes "t")))) ≡ 10
select_bound = refl

-- a COMMIT of an insertion and a deletion from a table of 3 rows
commit_bound : bound (λ t. 3) (λ t. 1) (Some (plain.InsertRows (codes "t") ((constant 1 ∷ []) ∷ []) True ∷ plain.Delete (codes "t") (Same (term.Column 0) x) ∷ [])) plain.Commit ≡ 11
commit_bound = refl

-- a commit that makes t with the columns a and b
abbrev pairs : PlainCommit
pairs = by_one 0 (Create (codes "t") (codes "a" ∷ codes "b" ∷ []))

-- a row of two cells that is always there
abbrev pair : Term → Term → PlainRow
pair s t = record { cells = s ∷ t ∷ []; condition = True }

-- the tuples of t after a history and actions, where the valuation is admitted
abbrev tuples_after : World → List PlainCommit → List PlainAction → Option (List (List Value))
tuples_after v h actions = option_map (rows v (Table (codes "t"))) (world v h actions)

-- t holds (1, 2)
abbrev pair_history : List PlainCommit
pair_history = pairs ∷ by_one 1 (Insert (codes "t") (pair (constant 1) (constant 2) ∷ [])) ∷ []

-- `set a = b, b = a` takes both from the old row
swapped : tuples_after [] pair_history (plain.Update (codes "t") ((0, term.Column 1) ∷ (1, term.Column 0) ∷ []) True ∷ []) ≡ Some ((int 2 ∷ int 1 ∷ []) ∷ [])
swapped = refl

-- `set b = 7` with `where b = 5`
abbrev seven : Sets
seven = (1, constant 7) ∷ []

abbrev is_five : Condition
is_five = Same (term.Column 1) (constant 5)

-- t holds (1, ?x) and (2, 5), and 7 is put for 5
abbrev update_history : List PlainCommit
update_history =
    pairs
    ∷ by_one 1 (Insert (codes "t") (pair (constant 1) x ∷ pair (constant 2) (constant 5) ∷ []))
    ∷ by_one 2 (Update (codes "t") seven is_five)
    ∷ []

updated_both : tuples_after (x_is 5) update_history [] ≡ Some ((int 1 ∷ int 7 ∷ []) ∷ (int 2 ∷ int 7 ∷ []) ∷ [])
updated_both = refl

updated_one : tuples_after (x_is 6) update_history [] ≡ Some ((int 1 ∷ int 6 ∷ []) ∷ (int 2 ∷ int 7 ∷ []) ∷ [])
updated_one = refl

-- an update reads nothing, and is a change of its table
reads_of_update : (sets : Sets) (c : Condition) → action_reads (plain.Update (codes "t") sets c) ≡ []
reads_of_update sets c = refl

last_updated : last update_history (read.Table (codes "t")) ≡ 3
last_updated = refl

-- t holds the rows 1 and 2
abbrev single_history : List PlainCommit
single_history =
    by_one 0 (Create (codes "t") (codes "a" ∷ []))
    ∷ by_one 1 (Insert (codes "t") (row (constant 1) ∷ row (constant 2) ∷ []))
    ∷ []

-- `set a = 7` leaves each cell list in the pattern and puts the new one behind it; the equal ones are counted once
abbrev all_seven : PlainAction
all_seven = plain.Update (codes "t") ((0, constant 7) ∷ []) True

pattern_updated : pattern single_history (all_seven ∷ []) (Table (codes "t")) ≡ (constant 1 ∷ []) ∷ (constant 7 ∷ []) ∷ (constant 2 ∷ []) ∷ (constant 7 ∷ []) ∷ []
pattern_updated = refl

count_updated : count single_history (all_seven ∷ []) (codes "t") ≡ 3
count_updated = refl

-- so does the change; a column gives its cell of the old row
pattern_of_change : pattern (pairs ∷ by_one 1 (Insert (codes "t") (pair (constant 1) x ∷ [])) ∷ by_one 2 (Update (codes "t") ((0, term.Column 1) ∷ []) True) ∷ []) [] (Table (codes "t")) ≡ (constant 1 ∷ x ∷ []) ∷ (x ∷ x ∷ []) ∷ []
pattern_of_change = refl

-- t holds (1, ?x) and (1, 2), and a is to be its key
abbrev key_history : List PlainCommit
key_history = pairs ∷ by_one 1 (Insert (codes "t") (pair (constant 1) x ∷ pair (constant 1) (constant 2) ∷ [])) ∷ []

abbrev key_of_t : PlainAction
key_of_t = plain.AssertKey (codes "t") (0 ∷ [])

key_kept : admits (x_is 2) key_history (key_of_t ∷ []) ≡ true
key_kept = refl

key_refused : admits (x_is 1) key_history (key_of_t ∷ []) ≡ false
key_refused = refl

-- whether there is a row, in a table without rows and in one with a row
exists_in_none : admits [] (pairs ∷ []) (plain.AssertQuery true (Table (codes "t")) ∷ []) ≡ false
exists_in_none = refl

absent_in_none : admits [] (pairs ∷ []) (plain.AssertQuery false (Table (codes "t")) ∷ []) ≡ true
absent_in_none = refl

exists_in_one : admits [] pair_history (plain.AssertQuery true (Table (codes "t")) ∷ []) ≡ true
exists_in_one = refl

absent_in_one : admits [] pair_history (plain.AssertQuery false (Table (codes "t")) ∷ []) ≡ false
absent_in_one = refl

-- an assertion of a key reads its table and the worlds, one over a query what the query reads
reads_of_key : (ks : List ℕ) → action_reads (plain.AssertKey (codes "t") ks) ≡ read.Table (codes "t") ∷ read.Worlds ∷ []
reads_of_key ks = refl

reads_of_exists : (wanted : Bool) → action_reads (plain.AssertQuery wanted (Product (Table (codes "u")) (Table (codes "t")))) ≡ read.Table (codes "u") ∷ read.Table (codes "t") ∷ read.Worlds ∷ []
reads_of_exists wanted = refl

-- where ?x is 2, and nowhere else, the two rows are one
key_where_same : (self same swapped : Bool) (w : Database) → self ≡ true → same ≡ swapped
    → same ≡ is_some (only_if ((not (not (self && true)) && (not (not (same && true)) && true)) && ((not (not (swapped && true)) && true) && true)) w)
key_where_same true true true w e f = refl
key_where_same true false false w e f = refl
key_where_same true true false w e f = cc
key_where_same true false true w e f = cc
key_where_same false same swapped w e f = cc

key_where_two : (u : Value) (w : Database) → same_value u (int 2) ≡ is_some (only_if (is_key (0 ∷ []) ((int 1 ∷ u ∷ []) ∷ (int 1 ∷ int 2 ∷ []) ∷ [])) w)
key_where_two u w =
    key_where_same (same_value u u) (same_value u (int 2)) (same_value (int 2) u) w ((value_decides u u).1 refl)
    (same_from_decides (same_value u (int 2)) (same_value (int 2) u) (value_decides u (int 2)) (λ e. sym ((value_decides (int 2) u).0 e), λ e. (value_decides (int 2) u).1 (sym e)))

-- so the change of the key is the assertion of that, and not of what always holds
key_agrees : Agrees key_history (key_of_t ∷ []) (Assert (Same x (constant 2)) ∷ [])
key_agrees = (λ v. key_where_two (value_of_null v (null.Named (codes "x"))) _, tt)

key_is_no_truth : Agrees key_history (key_of_t ∷ []) (Assert True ∷ []) → ⊥
key_is_no_truth f = let e : true ≡ false = f.0 (x_is 1) in true≢false e

-- outside a transaction, over tables of 2 rows and 2 columns: `update t set b = 7 where b = 5` has 17 words, and is applied
-- with 12, twice
update_bound : bound (λ t. 2) (λ t. 2) None (plain.Act (plain.Update (codes "t") seven is_five)) ≡ 41
update_bound = refl

-- the 4 pairs of rows of a key have 7 words each
key_bound : bound (λ t. 2) (λ t. 2) None (plain.Act key_of_t) ≡ 36
key_bound = refl

-- `assert exists (select * from t where a = 3)`: 18 words of the query, 10 of its assertion
exists_bound : bound (λ t. 2) (λ t. 2) None (plain.Act (plain.AssertQuery true (Project (0 ∷ 1 ∷ []) (Select (Same (term.Column 0) (constant 3)) (Table (codes "t")))))) ≡ 30
exists_bound = refl
