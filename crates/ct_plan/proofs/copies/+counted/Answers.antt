use Rattle.std.proofs.Common.{◌∙◌, ap, sym, map}
use Rattle.ct_query.specs.Pred.{condition_of}
use Rattle.ct_plan.{specs.Columns.counted_from, proofs.Runs.{and_counted, or_counted}}
use Rattle.ct_plan.proofs.copies.+counted.Goals as goal

pub counted-returns-in_ok-copies-in-And : goal.counted-returns-in_ok-copies-in-And
counted-returns-in_ok-copies-in-And t c =
    and_counted c.args.from c.in_ok-copies-in-And.copies c.in-And.preds (c.in_ok-copies-in-And.ensures ∙ ap (map (λ p. counted_from c.args.from (condition_of p))) c.as_slice.ensures)
    ∙ ap (λ p. counted_from c.args.from (condition_of p)) (sym c.in-And.is)

pub counted-returns-in_ok-copies-in-Or : goal.counted-returns-in_ok-copies-in-Or
counted-returns-in_ok-copies-in-Or t c =
    or_counted c.args.from c.in_ok-copies-in-Or.copies c.in-Or.preds (c.in_ok-copies-in-Or.ensures ∙ ap (map (λ p. counted_from c.args.from (condition_of p))) c.as_slice-in-Or.ensures)
    ∙ ap (λ p. counted_from c.args.from (condition_of p)) (sym c.in-Or.is)
