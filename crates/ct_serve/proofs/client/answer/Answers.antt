use Rattle.std.proofs.Common.{◌<◌, ◌≤◌, ◌+◌, ◌∷◌, [], ap, sym, subst, ◌∙◌, length, map, take, arith, length-append}
use Rattle.ct_arena.{specs.Counts.AreNumbered, specs.Seen.Seen}
use Rattle.ct_session.specs.Standing.{state_in}
use Rattle.ct_serve.{specs.Progress.Progress, proofs.Answered.{answered, one_more}}
use Rattle.ct_serve.proofs.client.answer.Goals as goal

pub loop-statement-preserved : goal.loop-statement-preserved
loop-statement-preserved g c =
    let i = c.loop-statement.invariant in
    let a = c.execute-reply.ensures.answers in
    let push = c.push_reserved.ensures in
    let at = c.loop-statement.statement-index in
    let N = g.N.Site.log.cap in
    let xs = c.args.statements.now in
    let first = c.args.session.now in
    let s = c.loop-statement.session in
    let n = c.execute-reply.new.self in
    let lt : at < length xs = omega arith in
    let numbered : AreNumbered n.pass.session n.pass.mine n.pass.words =
    subst (λ (p : Seen). AreNumbered p.session p.mine p.words) c.pass-in-loop-statement.ensures c.words-in-loop-statement.ensures.numbered in
    record {
      numbered = numbered;
      few =
          let most : n.pass.mine ≤ s.pass.mine + 1 = one_more N (state_in s) (state_in n) s.pass.words n.pass.words _ c.execute-reply.result a i.numbered numbered in
          let few = i.few in omega (arith, most, few);
      progress = subst (λ rs. Progress N (state_in first) (state_in n) first.pass n.pass (take (at + 1) (map (λ t. t.now) xs)) rs) (sym push.items)
          (answered (λ t. t.now) xs at _ N (state_in first) (state_in s) (state_in n) first.pass s.pass n.pass c.loop-statement.replies.items c.execute-reply.result lt i.progress a c.execute-reply.ensures.bounded);
      count = ap length push.items ∙ length-append c.loop-statement.replies.items (c.execute-reply.result ∷ []) ∙ ap (λ m. m + 1) i.count;
      room = let r = i.room in let k = push.capacity in omega arith;
    }
