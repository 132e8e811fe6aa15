use Rattle.std.{proofs.Common.arith, specs.Prelude.codes}
use Rattle.ct_print.{specs.TermText.value_text, proofs.Joins.join_written}
use Rattle.ct_print.proofs.terms.push_tuple.Goals as goal

pub loop-i-preserved : goal.loop-i-preserved
loop-i-preserved c =
    join_written value_text (codes ", ") c.args.tuple.now c.loop-i.i c.index-tuple-i.result _ _ _ _ _
    (omega arith) c.index-tuple-i.is c.loop-i.invariant c.in_ok-push_separator.ensures c.in_ok-push_value.ensures
