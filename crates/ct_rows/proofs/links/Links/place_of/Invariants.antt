use Rattle.std.{proofs.Common.{length, take}, specs.Map.keys_of}
use Rattle.ct_rows.specs.Links.{IsSought, entries_of}
use Rattle.ct_rows.proofs.links.Links.place_of.Given as goal

abbrev pub invariant-loop-at : goal.invariant-loop-at
invariant-loop-at l = IsSought (length l.self-inside.heads) (keys_of (entries_of (take l.self-inside.count l.self-inside.nodes))) l.cells l.at

abbrev pub decreases-loop-at : goal.decreases-loop-at
decreases-loop-at l = l.at
