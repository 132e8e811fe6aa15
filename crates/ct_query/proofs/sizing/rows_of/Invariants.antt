use Rattle.std.proofs.Common.{◌≡◌, drop}
use Rattle.ct_query.specs.Size.{rows_in}
use Rattle.ct_query.proofs.sizing.rows_of.Given as goal

abbrev pub invariant-loop-count : goal.invariant-loop-count
invariant-loop-count l = rows_in (drop l.count-index l.counts.tables) l.name ≡ rows_in l.counts.tables l.name
