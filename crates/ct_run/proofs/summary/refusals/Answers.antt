use Rattle.std.{proofs.Common.{rules, tests, ◌∙◌}, proofs.lemmas.Iterator.YieldsList-from_slice, proofs.lemmas.List.Sums.length-filter}
use Rattle.std.proofs.lemmas.Iterator.Consumers.{YieldsList-from_filter, count_from_yields_List}
use Rattle.ct_run.specs.Runs.{is_refusal}
use Rattle.ct_run.proofs.summary.refusals.Goals as goal

pub returns : goal.returns
returns c =
    count_from_yields_List c.filter.result _ c.count.ensures.ran (YieldsList-from_filter _ is_refusal (YieldsList-from_slice c.args.replies.now (cc)) c.filter.ensures.closure (λ x b q k. search (rules, tests)))
    ∙ length-filter is_refusal c.args.replies.now
