use Rattle.std.{proofs.Common.{◌∙◌, ap, drop, length, subst, take, arith}, specs.Prelude.All, proofs.lemmas.List.Elements.All-tail}
use Rattle.ct_history.{specs.Written.IsWritten, proofs.Printed.{fewer_left, one_printed}}
use Rattle.ct_history.proofs.printing.changes.Goals as goal

pub loop-item-preserved : goal.loop-item-preserved
loop-item-preserved c =
    let words = c.args.words.now in
    let rest = c.loop-item.rest.now in
    let item = c.in-Some.item in
    let i = c.loop-item.invariant in
    let steps = c.in-Some.ensures.steps in
    rw c.in_ok-push.ensures.items
    record {
      same =
          one_printed words _ c.loop-item.out.items item _ _ rest _ _ c.in_ok-change.field-0 i.same steps.0 (c.split_at.ensures.front ∙ ap (λ n. take n rest) c.count.ensures)
          (c.split_at.ensures.back ∙ ap (λ n. drop n rest) c.count.ensures) c.in_ok-change.ensures;
      long = fewer_left item _ _ rest _ c.count.result i.long steps.0 c.count.ensures c.split_at.ensures.back_len;
      placed = All-tail (IsWritten words) item _ (subst (All (IsWritten words)) steps.0 i.placed);
      count = omega (arith, i.count, steps.1, ap (λ l. length l) steps.0);
    }
