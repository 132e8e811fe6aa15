-- The plain trees of queries, actions and statements.
use Rattle.ct_query.specs.declared.query.Query as query
use Rattle.ct_query.specs.declared.query.Query.{Query}
use Rattle.ct_query.specs.declared.action.Action.{Action}
use Rattle.ct_query.specs.declared.action.Action.TheVariants as action
use Rattle.ct_query.specs.declared.action.Resolved.{Resolved}
use Rattle.ct_query.specs.declared.action.Resolved.TheVariants as resolved
use Rattle.ct_query.specs.Pred.{condition_of}
use Rattle.ct_query.specs.Plain.{PlainQuery, Table, Select, Project, Product, Union, Except, Intersect, PlainAction, Create, InsertRows, InsertQuery, Delete, Update, Assert, AssertQuery, AssertKey, PlainStatement, Act, Asks, Begin, Commit, Rollback}

-- the plain tree of a query
abbrev pub query_of : Query → PlainQuery
query_of (query.Table t) = Table t
query_of (query.Select' c p q) = Select (condition_of c) (query_of q)
query_of (query.Project' ks p q) = Project ks (query_of q)
query_of (query.Product' pa a pb b) = Product (query_of a) (query_of b)
query_of (query.Union' pa a pb b) = Union (query_of a) (query_of b)
query_of (query.Except' pa a pb b) = Except (query_of a) (query_of b)
query_of (query.Intersect' pa a pb b) = Intersect (query_of a) (query_of b)

-- the plain form of an action
abbrev pub action_of : Action → PlainAction
action_of (action.Create name columns) = Create name columns
action_of (action.InsertRows name rs p) = InsertRows name rs (condition_of p)
action_of (action.InsertQuery name q) = InsertQuery name (query_of q)
action_of (action.Delete name p) = Delete name (condition_of p)
action_of (action.Update name sets p) = Update name sets (condition_of p)
action_of (action.Assert p) = Assert (condition_of p)
action_of (action.AssertQuery wanted q) = AssertQuery wanted (query_of q)
action_of (action.AssertKey name columns) = AssertKey name columns

-- the plain form of a statement
abbrev pub statement_of : Resolved → PlainStatement
statement_of (resolved.Act a) = Act (action_of a)
statement_of (resolved.Ask ask columns q) = Asks ask columns (query_of q)
statement_of resolved.Begin = Begin
statement_of resolved.Commit = Commit
statement_of resolved.Rollback = Rollback
