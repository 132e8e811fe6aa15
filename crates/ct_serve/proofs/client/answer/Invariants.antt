use Rattle.std.{proofs.Common.{◌≡◌, ◌≤◌, ◌+◌, length, map, take}, specs.Prelude.vec_capacity}
use Rattle.ct_arena.specs.Counts.{AreNumbered}
use Rattle.ct_session.specs.Standing.{state_in}
use Rattle.ct_serve.specs.Progress.{Progress}
use Rattle.ct_serve.proofs.client.answer.Given as goal

abbrev pub invariant-loop-statement : goal.invariant-loop-statement
invariant-loop-statement g l =
    let s = l.session in
    let first = l.initial.session in
    record {
      numbered : AreNumbered s.pass.session s.pass.mine s.pass.words;
      few : s.pass.mine ≤ first.pass.mine + l.statement-index;
      progress : Progress g.N.Site.log.cap (state_in first) (state_in s) first.pass s.pass (take l.statement-index (map (λ t. t.now) l.statements)) l.replies.items;
      count : length l.replies.items ≡ l.statement-index;
      room : length l.statements ≤ vec_capacity l.replies;
    }
