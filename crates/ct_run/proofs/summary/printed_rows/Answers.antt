use Rattle.std.{proofs.Common.{rules, tests, sym, ◌∙◌}, specs.Prelude.{not, slice_get}, proofs.lemmas.List.length-map}
use Rattle.std.{proofs.lemmas.Iterator.YieldsList-from_slice, proofs.lemmas.Iterator.Consumers.{YieldsList-from_filter, count_from_yields_List}}
use Rattle.ct_transcript.specs.NodeText.{is_false_node}
use Rattle.ct_run.proofs.summary.printed_rows.Goals as goal

pub returns : goal.returns
returns c =
    count_from_yields_List c.filter.result _ c.count.ensures.ran (YieldsList-from_filter _ (λ r. not (is_false_node (slice_get c.args.answer.now.nodes r.cond))) (YieldsList-from_slice c.args.answer.now.rows (cc)) c.filter.ensures.closure (λ x b q k. search (rules, tests)))
    ∙ sym (length-map _ _)
