use Rattle.std.proofs.Common.{◌≡◌, ◌-◌, suc, drop, subst, arith}
use Rattle.ct_worlds.{specs.Valuation.AreNumbers, proofs.Values.numbers_turn}
use Rattle.ct_worlds.proofs.valuation.valuation_of.Goals as goal

pub loop-next-preserved : goal.loop-next-preserved
loop-next-preserved c =
    let listed = c.as_slice-listed.result.now in
    let before = c.loop-next.numbers.entries in
    let test = c.loop-next-test.true in
    let within = c.loop-next.invariant.within in
    let n : c.loop-next.next ≡ suc (c.loop-next.next - 1) = omega (arith, test) in
    record {
      numbers = numbers_turn listed before c.insert.new.self.entries (c.loop-next.next - 1) c.index-listed-next.result c.in_ok-null.null (omega (arith, test, within)) c.index-listed-next.is
          c.in_ok-null.ensures.cases (subst (λ k. AreNumbers listed (drop k listed) before) n c.loop-next.invariant.numbers) c.in_ok-insert.ensures.updates.0;
      within = omega (arith, within);
    }
