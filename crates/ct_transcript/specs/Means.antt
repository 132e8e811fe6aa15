-- What an answer allows and shows, and when it means a query.
use Rattle.std.specs.Prelude.{Bool, List, map, IsTrue}
use Rattle.std.specs.List.{IsDistinct, list_all}
use Rattle.ct_word.specs.declared.values.Value.{Value}
use Rattle.ct_word.specs.Value.{World, same_cells}
use Rattle.ct_word.specs.Condition.{holds_at}
use Rattle.ct_word.specs.Change.{PlainCommit}
use Rattle.ct_query.specs.Plain.{PlainQuery}
use Rattle.ct_query.specs.Plain.{PlainAction}
use Rattle.ct_query.specs.Step.{shown_rows}
use Rattle.ct_query.specs.Shows.{ShowsAt}
use Rattle.ct_transcript.specs.declared.reply.Answer.{Answer}
use Rattle.ct_rewrite.specs.Nodes.{node_condition, IsOrdered, is_position}
use Rattle.ct_rewrite.specs.History.{plain_row}

-- whether an answer's global condition holds
abbrev pub allowed : World → Answer → Bool
allowed v a = holds_at v (node_condition a.nodes a.global)

-- the tuples of the answer's rows whose condition holds
abbrev pub shown : World → Answer → List (List Value)
shown v a = shown_rows v (map (plain_row a.nodes) a.rows)

-- children stand before their parents, every condition is a position, and the rows' cells are distinct
pub record IsAnswer (answer : Answer) : Type 0 where
  pub ordered : IsOrdered answer.nodes
  pub global_placed : IsTrue (is_position answer.nodes answer.global)
  pub rows_placed : IsTrue (list_all (λ r. is_position answer.nodes r.cond) answer.rows)
  pub distinct : IsDistinct same_cells (map (λ r. r.cells) answer.rows)

-- an answer means a query after a history and further actions: at every valuation it is allowed where the valuation is
-- admitted, and then shows the query's tuples
abbrev pub Means : Answer → PlainQuery → List PlainCommit → List PlainAction → Type 0
Means answer q h actions = (v : World) → ShowsAt (allowed v answer) (shown v answer) q h actions v
