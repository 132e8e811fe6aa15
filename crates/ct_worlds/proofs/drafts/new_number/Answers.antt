use Rattle.std.proofs.Common.{◌∙◌, arith}
use Rattle.ct_worlds.proofs.Drawing.{adds_from}
use Rattle.ct_worlds.proofs.drafts.new_number.Goals as goal

pub returns-then-is_new-clause-values : goal.returns-then-is_new-clause-values
returns-then-is_new-clause-values c =
    adds_from c.args.next.now c.loop-k.k c.args.draft.now.values.keys c.loop-k.draft.values.keys c.put_other.new.draft.values.keys c.loop-k.invariant.next c.loop-k.invariant.values c.in_ok-number.ensures.values

pub loop-k-preserved : goal.loop-k-preserved
loop-k-preserved c = record {
  values = adds_from c.args.next.now c.loop-k.k c.args.draft.now.values.keys c.loop-k.draft.values.keys c.put_other.new.draft.values.keys c.loop-k.invariant.next c.loop-k.invariant.values c.in_ok-number.ensures.values;
  next = omega (arith, c.loop-k.invariant.next);
  nulls = c.put_other.ensures.nulls ∙ c.loop-k.invariant.nulls;
}
