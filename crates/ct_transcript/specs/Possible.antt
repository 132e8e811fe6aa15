-- When a list of possible rows is right: the rows that a query has in some of the databases that a history stands for.
-- Possibility of a fact is that of Abiteboul, Kanellakis and Grahne 1991; the set of databases, Imielinski and Lipski 1984. The worlds that the list shows are own.
use Rattle.std.specs.Prelude.{List, map, IfSome, IsSomeAnd, IsTrue, All}
use Rattle.std.specs.List.{IsDistinct}
use Rattle.ct_word.specs.declared.values.Value.{Value}
use Rattle.ct_word.specs.Value.{World, same_cells, tuple_at}
use Rattle.ct_word.specs.Sublist.{IsSublist}
use Rattle.ct_word.specs.Change.{PlainCommit}
use Rattle.ct_query.specs.Plain.{PlainQuery}
use Rattle.ct_query.specs.Plain.{PlainAction}
use Rattle.ct_query.specs.Database.{has_tuple}
use Rattle.ct_query.specs.Rows.{rows}
use Rattle.ct_query.specs.Worlds.{world}
use Rattle.ct_query.specs.Patterns.{pattern}
use Rattle.ct_rewrite.specs.declared.answer.PossibleRow.{PossibleRow}
use Rattle.ct_rewrite.specs.Tidy.{IsTidy}

-- the row's world is admitted, and there the query has the row
abbrev pub ShowsRow : PlainQuery → List PlainCommit → List PlainAction → PossibleRow → Type 0
ShowsRow q h actions r = IsSomeAnd (world r.world h actions) (λ w. IsTrue (has_tuple (rows r.world q w) (tuple_at r.world r.cells)))

-- a list of possible rows is right: distinct rows of the pattern, each with a world that shows it, and all of them
pub record PossibleRight (list : List PossibleRow) (q : PlainQuery) (h : List PlainCommit) (actions : List PlainAction) : Type 0 where
  pub distinct : IsDistinct same_cells (map (λ r. r.cells) list)
  pub in_pattern : IsSublist (map (λ r. r.cells) list) (pattern h actions q)
  pub witnessed : All (ShowsRow q h actions) list
  pub tidy : All (λ r. IsTidy r.world) list
  pub complete : (v : World) (tuple : List Value)
      → IfSome (world v h actions) (λ w. IsTrue (has_tuple (rows v q w) tuple) → IsTrue (has_tuple (map (λ r. tuple_at v r.cells) list) tuple))
