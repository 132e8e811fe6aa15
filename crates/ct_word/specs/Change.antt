-- Changes and commits whose conditions are trees.
use Rattle.std.specs.Prelude.{ℕ, List}
use Rattle.ct_word.specs.declared.values.Term.{Term}
use Rattle.ct_word.specs.Condition.{Condition}

-- a row under a condition
pub record PlainRow : Type 0 where
  pub cells : List Term
  pub condition : Condition

-- one change of the tables
pub data PlainChange : Type 0 where
  Create : (name : List ℕ) (columns : List (List ℕ)) → PlainChange
  Insert : (name : List ℕ) (rows : List PlainRow) → PlainChange
  Delete : (name : List ℕ) (condition : Condition) → PlainChange
  Update : (name : List ℕ) (sets : List (ℕ × Term)) (condition : Condition) → PlainChange
  Assert : (condition : Condition) → PlainChange

-- the changes of one commit, its session, and its number among the session's commits
pub record PlainCommit : Type 0 where
  pub session : ℕ
  pub number : ℕ
  pub changes : List PlainChange
