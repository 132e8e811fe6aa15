-- Queries, actions and statements as plain trees, without where they lie in memory.
use Rattle.std.specs.Prelude.{ℕ, Bool, List}
use Rattle.ct_word.specs.declared.values.Term.{Term}
use Rattle.ct_word.specs.Condition.{Condition}
use Rattle.ct_query.specs.declared.action.Ask.{Ask}

-- a query by positions
pub data PlainQuery : Type 0 where
  Table : (name : List ℕ) → PlainQuery
  Select : (c : Condition) (q : PlainQuery) → PlainQuery
  Project : (columns : List ℕ) (q : PlainQuery) → PlainQuery
  Product : (a b : PlainQuery) → PlainQuery
  Union : (a b : PlainQuery) → PlainQuery
  Except : (a b : PlainQuery) → PlainQuery
  Intersect : (a b : PlainQuery) → PlainQuery

-- one change that a statement asks for
pub data PlainAction : Type 0 where
  Create : (name : List ℕ) (columns : List (List ℕ)) → PlainAction
  InsertRows : (name : List ℕ) (rows : List (List Term)) (c : Condition) → PlainAction
  InsertQuery : (name : List ℕ) (q : PlainQuery) → PlainAction
  Delete : (name : List ℕ) (c : Condition) → PlainAction
  Update : (name : List ℕ) (sets : List (ℕ × Term)) (c : Condition) → PlainAction
  Assert : (c : Condition) → PlainAction
  AssertQuery : (wanted : Bool) (q : PlainQuery) → PlainAction
  AssertKey : (name : List ℕ) (columns : List ℕ) → PlainAction

-- a statement with positions for names
pub data PlainStatement : Type 0 where
  Act : (a : PlainAction) → PlainStatement
  Asks : (ask : Ask) (columns : List (List ℕ)) (q : PlainQuery) → PlainStatement
  Begin : PlainStatement
  Commit : PlainStatement
  Rollback : PlainStatement
