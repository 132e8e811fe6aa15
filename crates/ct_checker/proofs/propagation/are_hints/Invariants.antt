use Rattle.std.proofs.Common.{◌≡◌, take, true}
use Rattle.ct_derivation.{specs.Propagation.are_hints, specs.Accepts.clauses_of}
use Rattle.ct_checker.proofs.propagation.are_hints.Given as goal

abbrev pub invariant-loop-hint : goal.invariant-loop-hint
invariant-loop-hint l = are_hints (clauses_of l.earlier) (take l.hint-index l.hints) ≡ true
