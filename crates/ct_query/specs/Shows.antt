-- When an answer means a query at one valuation.
use Rattle.std.specs.Prelude.{◌≡◌, Bool, List, IfSome}
use Rattle.ct_word.specs.declared.values.Value.{Value}
use Rattle.ct_word.specs.Value.{World}
use Rattle.ct_word.specs.Change.{PlainCommit}
use Rattle.ct_query.specs.Plain.{PlainQuery, PlainAction}
use Rattle.ct_query.specs.Database.{SameSet}
use Rattle.ct_query.specs.Rows.{rows}
use Rattle.ct_query.specs.Worlds.{world, admits}

-- an answer allows a valuation exactly where it is admitted, and then shows the query's tuples
pub record ShowsAt (allowed : Bool) (shown : List (List Value)) (q : PlainQuery) (h : List PlainCommit) (actions : List PlainAction) (v : World) : Type 0 where
  pub worlds : allowed ≡ admits v h actions
  pub tuples : IfSome (world v h actions) (λ w. SameSet shown (rows v q w))
