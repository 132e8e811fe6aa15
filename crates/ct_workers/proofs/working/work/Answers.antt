use Rattle.std.{proofs.Common.{◌≡◌, ◌<◌, ◌≤◌, ◌+◌, ◌*◌, ◌∷◌, ◌++◌, ◌∙◌, [], None, Some, ap, arith, get_or, length, length-append, sym, subst}, specs.Prelude.{All, IfSome, Option}}
use Rattle.std.proofs.lemmas.List.Elements.{All-nil, All-push}
use Rattle.ct_workers.{specs.Known.{AreRight, IsRightAnswer}, specs.Rows.IsAnswerTo, proofs.Placed.{next_here, next_past, row_more, start_here}}
use Rattle.ct_workers.proofs.working.work.Goals as goal

pub loop-number-init : goal.loop-number-init
loop-number-init g c =
    let empty = ap length c.new-row.ensures.items in
    record {
      worker = c.beginner-worker.ensures c.args.words.now;
      right = subst (AreRight c.args.words.now) (sym c.new-row.ensures.items) (All-nil (λ o. IfSome o (IsRightAnswer c.args.words.now)));
      each = λ j lt. absurd (omega (arith, lt, empty));
      here = λ lt. start_here c.args.first c.args.step (length c.new-row.result.items) empty;
      past = λ le. let here = start_here c.args.first c.args.step (length c.new-row.result.items) empty in omega (arith, le, here);
    }

pub loop-number-preserved : goal.loop-number-preserved
loop-number-preserved g c =
    let words = c.args.words.now in
    let roots = c.args.roots.now in
    let first = c.args.first in
    let step = c.args.step in
    let i = c.loop-number.invariant in
    let row = c.loop-number.row.items in
    let a = c.in_ok-answer.answer in
    let pushed = c.in_ok-push.ensures.items in
    let grown : length c.push.new.self.items ≡ length row + 1 = ap length pushed ∙ length-append row (_ ∷ []) in
    let here = i.here c.loop-number-test.true in
    record {
      worker = c.in_ok-answer.ensures.worker;
      right = subst (AreRight words) (sym pushed) (All-push (λ o. IfSome o (IsRightAnswer words)) row (Some a) i.right c.in_ok-answer.ensures.right);
      each = λ j lt. subst (λ l. IsAnswerTo words roots (first + j * step) (get_or l j None)) (sym pushed)
          (row_more words roots step first row a i.each (c.in_ok-answer.ensures.root ∙ ap (λ n. get_or roots n 0) here) c.in_ok-answer.ensures.right j (omega (arith, lt, grown)));
      here = λ lt. subst (λ n. c.next-number.result ≡ first + n * step) (sym grown) (next_here (length roots) first step (length row) c.loop-number.number c.next-number.result here c.next-number.ensures.here lt);
      past = λ le. subst (λ n. length roots ≤ first + n * step) (sym grown) (next_past (length roots) first step (length row) c.loop-number.number c.next-number.result here c.next-number.ensures.past le);
    }
