use Rattle.std.proofs.Common.{◌∙◌, arith}
use Rattle.ct_worlds.proofs.Drawing.{adds_from}
use Rattle.ct_worlds.proofs.drafts.part_all.Goals as goal

pub returns-then-not-branch-clause-values : goal.returns-then-not-branch-clause-values
returns-then-not-branch-clause-values c =
    adds_from c.args.from c.loop-link.next c.args.draft.now.values.keys c.loop-link.draft.values.keys c.part.new.draft.values.keys c.loop-link.invariant.next c.loop-link.invariant.values c.in_ok-part.ensures.values

pub loop-link-preserved : goal.loop-link-preserved
loop-link-preserved c = record {
  values = adds_from c.args.from c.loop-link.next c.args.draft.now.values.keys c.loop-link.draft.values.keys c.part.new.draft.values.keys c.loop-link.invariant.next c.loop-link.invariant.values c.in_ok-part.ensures.values;
  next = omega (arith, c.loop-link.invariant.next, c.in_ok-part.ensures.next);
  nulls = c.part.ensures.nulls ∙ c.loop-link.invariant.nulls;
}
