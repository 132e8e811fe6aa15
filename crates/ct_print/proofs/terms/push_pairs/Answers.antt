use Rattle.std.{proofs.Common.arith, specs.Prelude.codes}
use Rattle.ct_print.{specs.TermText.pair_text, proofs.Joins.join_written}
use Rattle.ct_print.proofs.terms.push_pairs.Goals as goal

pub loop-i-preserved : goal.loop-i-preserved
loop-i-preserved c =
    join_written pair_text (codes ", ") c.args.pairs.now c.loop-i.i c.index-pairs-i.result _ _ _ _ _
    (omega arith) c.index-pairs-i.is c.loop-i.invariant c.in_ok-push_separator.ensures c.in_ok-push_pair.ensures
