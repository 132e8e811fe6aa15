use Rattle.std.proofs.Common.{arith}
use Rattle.ct_tidy.proofs.Valued.{map_turn}
use Rattle.ct_tidy.proofs.mapped.by_null.Goals as goal

pub loop-next-preserved : goal.loop-next-preserved
loop-next-preserved c = record {
  map = map_turn c.loop-next.values.entries c.insert.new.self.entries c.as_slice-pairs.result.now c.loop-next.next c.index-pairs-next.result c.in_ok-null.null c.in_ok-null.value c.loop-next-test.true c.loop-next.invariant.within
      c.index-pairs-next.is c.in_ok-null.ensures.cases.0 c.in_ok-null.ensures.cases.1 c.loop-next.invariant.map c.in_ok-insert.ensures.updates.0;
  within = let within = c.loop-next.invariant.within in omega (arith, within);
}
