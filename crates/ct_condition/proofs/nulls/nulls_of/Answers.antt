use Rattle.std.proofs.Common.{◌≡◌, ◌-◌, suc, drop, subst, arith}
use Rattle.ct_condition.{specs.Nulls.AreNulls, proofs.Marks.nulls_turn}
use Rattle.ct_condition.proofs.nulls.nulls_of.Goals as goal

pub loop-next-preserved : goal.loop-next-preserved
loop-next-preserved c =
    let v = c.as_slice-listed.result.now in
    let old = c.loop-next.steps.keys in
    let before = c.loop-next.pairs.entries in
    let test = c.loop-next-test.true in
    let within = c.loop-next.invariant.within in
    let n : c.loop-next.next ≡ suc (c.loop-next.next - 1) = omega (arith, test) in
    record {
      nulls = nulls_turn old c.mark.new.steps.keys before c.insert.new.self.entries v (c.loop-next.next - 1) c.index-listed-next.result c.in_ok-mark.mark (omega (arith, test, within)) c.index-listed-next.is
          (subst (λ k. AreNulls old before k (drop k v)) n c.loop-next.invariant.nulls) c.in_ok-mark.ensures.grows c.in_ok-mark.ensures.mark c.in_ok-insert.ensures.updates.0;
      within = omega (arith, within);
    }
