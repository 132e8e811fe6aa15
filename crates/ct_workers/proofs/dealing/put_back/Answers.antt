use Rattle.std.proofs.Common.{◌≡◌, ◌≤◌, ◌∙◌, ◌+◌, ap, arith, refl, sym, subst}
use Rattle.ct_workers.proofs.Dealt.{each_more, left_more, still_there}
use Rattle.ct_workers.proofs.dealing.put_back.Goals as goal

pub loop-number-init : goal.loop-number-init
loop-number-init g c = record {
  rows = sym c.len-width.ensures;
  done = c.new-all.ensures.len;
  each = λ q d lt. absurd (omega (arith, lt));
  left = λ q le. refl;
}

pub taken-item-requires : goal.taken-item-requires
taken-item-requires g c =
    record { there = still_there (λ r. r.items) c.args.dealt.items c.len-width.result _ c.args.count c.len-width.ensures c.requires.dealt c.loop-number.rows.items c.loop-number.number c.loop-number-test.true (c.loop-number.invariant.left c.loop-number.number (omega arith)) }
