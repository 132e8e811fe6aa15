use Rattle.std.proofs.Common.{sym, ◌∙◌}
use Rattle.ct_lex.proofs.Fronts.{comment_front}
use Rattle.ct_lex.proofs.front.minus.Goals as goal

pub returns-then-next-eq45-clause-ok : goal.returns-then-next-eq45-clause-ok
returns-then-next-eq45-clause-ok c =
    comment_front c.args.text.now c.run_len.result c.requires (sym c.byte_at-next.ensures ∙ c.if-next-eq45.true) c.run_len.ensures.all c.run_len.ensures.stops c.run_len.ensures.cut
