-- What may be wanting for a statement, at what it sees.
use Rattle.std.specs.Prelude.{◌≡◌, ◌≤◌, ◌<◌, ◌*◌, ℕ, false, List, [], ◌∷◌, ◌++◌, length, Option, Some, None, IsTrue}
use Rattle.ct_word.specs.Value.{World}
use Rattle.ct_word.specs.Condition.{holds_at}
use Rattle.ct_word.specs.Change.{PlainCommit}
use Rattle.ct_word.specs.Reading.{condition_at}
use Rattle.ct_derivation.specs.declared.steps.Proof.{Proof}
use Rattle.ct_derivation.specs.Accepts.{AcceptsProof}
use Rattle.ct_query.specs.Plain.{PlainAction, PlainStatement}
use Rattle.ct_query.specs.Plain as plain
use Rattle.ct_query.specs.Worlds.{admits}
use Rattle.ct_query.specs.Patterns.{count}
use Rattle.ct_query.specs.Schema.{schema}
use Rattle.ct_query.specs.Size.{size}
use Rattle.ct_query.specs.Bounds.{bound}
use Rattle.ct_table.specs.Counting.{rows_of_found}
use Rattle.ct_table.specs.Denotes.{TableView, find_table}
use Rattle.ct_algebra.specs.Evaluates.{limit}
use Rattle.ct_transcript.specs.declared.reply.Refusal.{Refusal}
use Rattle.ct_transcript.specs.declared.reply.Refusal.TheVariants as refusal
use Rattle.ct_statement.specs.Making.{widths_in}
use Rattle.ct_statement.specs.Sources.{is_assertion}

-- the size of what a statement evaluates, by these counts of rows: that of its query, or all pairs of rows of the table that
-- it asserts a key of; no other statement has a size
abbrev pub asked_size : (List ℕ → ℕ) → PlainStatement → Option ℕ
asked_size counts (plain.Asks k columns q) = Some (size counts q)
asked_size counts (plain.Act (plain.InsertQuery name q)) = Some (size counts q)
asked_size counts (plain.Act (plain.AssertQuery wanted q)) = Some (size counts q)
asked_size counts (plain.Act (plain.AssertKey name columns)) = Some (counts name * counts name)
asked_size counts _ = None

-- the table that an action asserts a key of, of these, has no more pairs of rows than a part of a query may go through; no
-- other action asserts a key
abbrev pub HasFewPairs : List TableView → PlainAction → Type 0
HasFewPairs db (plain.AssertKey name columns) = rows_of_found (find_table db name) * rows_of_found (find_table db name) ≤ limit
HasFewPairs db _ = Unit {0}

-- what is wanting: the log is full, or memory
abbrev pub IsWant : ℕ → List ℕ → Refusal → Type 0
IsWant room words refusal.Full = length words ≡ room
IsWant room words refusal.Memory = Unit {0}
IsWant room words _ = ⊥

-- h are the commits of the version that a statement sees, and before the actions of its transaction
module _ (h : List PlainCommit) (before : List PlainAction) where
  -- what a statement evaluates is too large: by the counts of all rows that were ever made, its greatest part goes through
  -- more rows, or pairs of rows, than a part may
  pub record IsPast (st : PlainStatement) : Type 0 where
    pub asked : ℕ
    pub evaluates : asked_size (count h before) st ≡ Some asked
    pub past : limit < asked

  -- the log is full, and a statement may need a word, in a transaction or outside
  pub record IsFilled (room : ℕ) (words : List ℕ) (st : PlainStatement) : Type 0 where
    pub full : length words ≡ room
    pub makes_words : (own : Option (List PlainAction)) → 1 ≤ bound (count h before) (widths_in (schema h before).tables) own st

  -- no valuation is left by an assertion: the proof refutes a condition that is true where one is
  pub record IsRefuted (words : List ℕ) (st : PlainStatement) (proof : Proof) : Type 0 where
    pub action : PlainAction
    pub asserts : st ≡ plain.Act action
    pub is : IsTrue (is_assertion action)
    pub none_satisfies : (v : World) → admits v h (before ++ action ∷ []) ≡ false
    pub accepted : AcceptsProof words proof
    pub root : (v : World) → holds_at v (condition_at words proof.root) ≡ admits v h (before ++ action ∷ [])

  -- why a statement with positions is refused: what it evaluates is too large, the log is full, it asserts what no
  -- admitted valuation satisfies, or memory is wanting
  abbrev pub IsUnmet : ℕ → List ℕ → PlainStatement → Refusal → Type 0
  IsUnmet room words st refusal.TooLarge = IsPast st
  IsUnmet room words st refusal.Full = IsFilled room words st
  IsUnmet room words st (refusal.Inconsistent proof) = IsRefuted words st proof
  IsUnmet room words st refusal.Memory = Unit {0}
  IsUnmet room words st _ = ⊥
