use Rattle.std.proofs.Common.{◌≡◌, ◌≤◌, length, nat_lt, reverse}
use Rattle.ct_parse.{specs.Grammar.said, specs.Nest.{DEPTH, AreShallow, nest, nest_from}}
use Rattle.ct_parse.proofs.nest.nest_passed.Given as goal

abbrev pub invariant-loop-first : goal.invariant-loop-first
invariant-loop-first l = record {
  same : nat_lt DEPTH (nest_from (reverse l.opened.items) l.count (said l.rest)) ≡ nat_lt DEPTH (nest (said l.tokens));
  count : l.count ≤ DEPTH;
  opened : AreShallow (reverse l.opened.items);
}

abbrev pub decreases-loop-first : goal.decreases-loop-first
decreases-loop-first l = length (said l.rest)
