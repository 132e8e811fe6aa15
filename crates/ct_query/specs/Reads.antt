-- What a statement reads, and which commit was the last to change it.
use Rattle.std.specs.Prelude.{ℕ, zero, suc, Bool, true, false, List, [], ◌∷◌, ◌++◌, map, if◌then◌else◌}
use Rattle.std.specs.List.{list_any}
use Rattle.ct_word.specs.Value.{same_text}
use Rattle.ct_word.specs.Change.{PlainChange, Create, Insert, Delete, Update, Assert, PlainCommit}
use Rattle.ct_query.specs.Plain.{PlainAction}
use Rattle.ct_query.specs.Plain as plain
use Rattle.ct_query.specs.declared.action.Read.{Read}
use Rattle.ct_query.specs.declared.action.Read.TheVariants as read
use Rattle.ct_query.specs.Plain.{PlainStatement}
use Rattle.ct_query.specs.Plain.{PlainQuery}

-- whether two reads are the same
abbrev pub same_read : Read → Read → Bool
same_read (read.Table a) (read.Table b) = same_text a b
same_read read.Worlds read.Worlds = true
same_read _ _ = false

-- the reads, and those of the second list that are not there yet
abbrev pub with_reads : List Read → List Read → List Read
with_reads reads [] = reads
with_reads reads (r ∷ rs) = with_reads (if list_any (same_read r) reads then reads else reads ++ r ∷ []) rs

-- the tables of a query in the order of its text
abbrev pub tables_of : PlainQuery → List (List ℕ)
tables_of (plain.Table t) = t ∷ []
tables_of (plain.Select c q) = tables_of q
tables_of (plain.Project ks q) = tables_of q
tables_of (plain.Product a b) = tables_of a ++ tables_of b
tables_of (plain.Union a b) = tables_of a ++ tables_of b
tables_of (plain.Except a b) = tables_of a ++ tables_of b
tables_of (plain.Intersect a b) = tables_of a ++ tables_of b

-- the tables of a query, each once, and then the worlds
abbrev pub query_reads : PlainQuery → List Read
query_reads q = with_reads [] (map (λ t. read.Table t) (tables_of q) ++ read.Worlds ∷ [])

-- what an action reads
abbrev pub action_reads : PlainAction → List Read
action_reads (plain.Create name columns) = read.Table name ∷ []
action_reads (plain.InsertRows name rs p) = []
action_reads (plain.InsertQuery name q) = query_reads q
action_reads (plain.Delete name p) = []
action_reads (plain.Update name sets p) = []
action_reads (plain.Assert p) = read.Worlds ∷ []
action_reads (plain.AssertQuery wanted q) = query_reads q
action_reads (plain.AssertKey name columns) = read.Table name ∷ read.Worlds ∷ []

-- what a statement reads
abbrev pub reads_of : PlainStatement → List Read
reads_of (plain.Act a) = action_reads a
reads_of (plain.Asks ask columns q) = query_reads q
reads_of plain.Begin = []
reads_of plain.Commit = []
reads_of plain.Rollback = []

-- whether a change writes what is read
abbrev pub writes : PlainChange → Read → Bool
writes (Create name columns) (read.Table t) = same_text name t
writes (Insert name rs) (read.Table t) = same_text name t
writes (Delete name c) (read.Table t) = same_text name t
writes (Update name sets c) (read.Table t) = same_text name t
writes (Assert c) read.Worlds = true
writes _ _ = false

-- whether a commit writes what is read
abbrev pub commit_writes : PlainCommit → Read → Bool
commit_writes c r = list_any (λ x. writes x r) c.changes

-- a commit's place, seen from the one before it: 0 stays 0
abbrev pub one_earlier : ℕ → Bool → ℕ
one_earlier zero b = if b then 1 else 0
one_earlier (suc m) b = suc (suc m)

-- the number of the last commit, counted from 1, that writes what is read, or 0
abbrev pub last : List PlainCommit → Read → ℕ
last [] r = 0
last (c ∷ cs) r = one_earlier (last cs r) (commit_writes c r)
