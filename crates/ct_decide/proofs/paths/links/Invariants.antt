use Rattle.std.proofs.Common.{drop}
use Rattle.ct_decide.proofs.Clauses.{AreLinksSo}
use Rattle.ct_decide.proofs.paths.links.Given as goal

abbrev pub invariant-loop-place : goal.invariant-loop-place
invariant-loop-place l = AreLinksSo l.atoms l.first l.rest l.last (drop l.place-index l.rest) l.literals.items
