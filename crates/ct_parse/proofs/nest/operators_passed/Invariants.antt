use Rattle.std.proofs.Common.{◌≡◌, ◌≤◌, ◌+◌, length}
use Rattle.ct_parse.{specs.Grammar.said, specs.Nest.{DEPTH, set_operators}}
use Rattle.ct_parse.proofs.nest.operators_passed.Given as goal

abbrev pub invariant-loop-first : goal.invariant-loop-first
invariant-loop-first l = record {
  same : l.count + set_operators (said l.rest) ≡ set_operators (said l.tokens);
  count : l.count ≤ DEPTH;
}

abbrev pub decreases-loop-first : goal.decreases-loop-first
decreases-loop-first l = length (said l.rest)
