use Rattle.std.proofs.Common.{arith}
use Rattle.ct_print.{proofs.Quotes.{quote_char, other_char}, proofs.terms.push_char.Goals.{then-c-eq39+in_ok-push, else-c-eq39}}
use Rattle.ct_print.proofs.terms.push_char.Goals as goal

pub returns : goal.returns
returns c =
    elim c.if-c-eq39.branch [
      | then-c-eq39+in_ok-push w ↦ cc (quote_char c.args.c _ (omega arith), c.in_ok-push-2.ensures.bytes, w.in_ok-push.ensures.bytes, w.out-is)
      | else-c-eq39 w ↦ cc (other_char c.args.c (omega arith), c.in_ok-push-2.ensures.bytes, w.out-is)
    ]
