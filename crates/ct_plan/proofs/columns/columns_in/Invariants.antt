use Rattle.std.proofs.Common.{◌≡◌, drop}
use Rattle.ct_query.specs.Fits.{columns_in, count_of}
use Rattle.ct_plan.proofs.columns.columns_in.Given as goal

abbrev pub invariant-loop-heading : goal.invariant-loop-heading
invariant-loop-heading l = count_of (columns_in (drop l.heading-index l.schema.tables) l.name) ≡ count_of (columns_in l.schema.tables l.name)
