use Rattle.std.{proofs.Common.{◌++◌, ◌∙◌, ap, arith}, specs.Prelude.{codes, string_bytes}}
use Rattle.ct_print.proofs.Joins.{join_written}
use Rattle.ct_print.proofs.terms.push_names.Goals as goal

pub loop-i-preserved : goal.loop-i-preserved
loop-i-preserved c =
    join_written (λ n. n) (codes ", ") c.args.names.now c.loop-i.i c.index-names-i.result _ _ _ _ _
    (omega arith) c.index-names-i.is c.loop-i.invariant c.in_ok-push_separator.ensures (c.in_ok-push_str-2.ensures.bytes ∙ ap (λ n. string_bytes c.push_separator.new.out ++ n) c.as_str.ensures)
