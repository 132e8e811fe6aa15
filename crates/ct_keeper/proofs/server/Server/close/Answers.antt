use Rattle.std.{proofs.Common.{◌+◌, [], length, map, refl, ap, sym, subst, ◌∙◌, rules}, specs.Prelude.{All, IsTrue, sum_by}}
use Rattle.std.{proofs.lemmas.Iterator.Adapters.YieldsList-from_vec, proofs.lemmas.Iterator.Consumers.YieldsList-end, proofs.lemmas.List.{length-map, map-id}}
use Rattle.std.proofs.lemmas.List.Elements.{All-nil}
use Rattle.ct_arena.{specs.Counts.{AreNumbered, AreOfSessions}, specs.Seen.{Seen, tally_of}, specs.declared.tally.Tally.Tally}
use Rattle.ct_query.specs.Worlds.{admits}
use Rattle.ct_keeper.proofs.Closing.{one_ended, one_seen, each_seen, made_by, each_numbered}
use mathlib.Core.List.{IsPrefix}
use Rattle.ct_keeper.proofs.server.Server.close.Goals as goal

pub loop-pass-init : goal.loop-pass-init
loop-pass-init g c =
    let k = c.into_pass-keeper.ensures in
    record { guest = k.guest; enrolled = k.enrolled; ended = k.ended; commits = refl; seen = All-nil _ }

pub loop-pass-preserved : goal.loop-pass-preserved
loop-pass-preserved g c =
    let l = c.loop-pass in
    let e = c.end.ensures in
    record {
      guest = e.guest;
      enrolled = e.enrolled ∙ l.invariant.enrolled;
      ended = one_ended l.yielded c.in-Some.pass l.keeper.ended c.end.new.self.ended l.invariant.ended e.ended;
      commits = e.commits ∙ l.invariant.commits;
      seen = one_seen l.yielded c.in-Some.pass l.keeper.words c.end.new.self.words e.longer e.seen l.invariant.seen;
    }

pub finish-requires-clause-ended : goal.finish-requires-clause-ended
finish-requires-clause-ended g c =
    let l = c.loop-pass in
    let e = YieldsList-end (YieldsList-from_vec c.args.passes.items (search rules) (search rules)) l.yielded _ l.yielded_by _ c.next.new.self c.in-None.is c.next.ensures.steps in
    ap (λ ts. length ts) l.invariant.ended ∙ length-map l.yielded tally_of ∙ e.1 ∙ c.requires.all ∙ sym l.invariant.enrolled

pub returns-clause-whole : goal.returns-clause-whole
returns-clause-whole g c =
    let l = c.loop-pass in
    let e = YieldsList-end (YieldsList-from_vec c.args.passes.items (search rules) (search rules)) l.yielded _ l.yielded_by _ c.next.new.self c.in-None.is c.next.ensures.steps in
    let all = l.invariant.ended ∙ ap (map tally_of) (sym (map-id l.yielded) ∙ e.0) in
    c.finish.ensures.counted ∙ ap (λ ts. 2 + sum_by (λ (t : Tally). t.made) ts) all ∙ ap (λ n. 2 + n) (made_by c.args.passes.items)

pub returns-clause-numbered : goal.returns-clause-numbered
returns-clause-numbered g c =
    let l = c.loop-pass in
    let e = YieldsList-end (YieldsList-from_vec c.args.passes.items (search rules) (search rules)) l.yielded _ l.yielded_by _ c.next.new.self c.in-None.is c.next.ensures.steps in
    let all = l.invariant.ended ∙ ap (map tally_of) (sym (map-id l.yielded) ∙ e.0) in
    each_numbered c.args.passes.items c.finish.result (subst (All (λ (t : Tally). AreNumbered t.session t.mine c.finish.result)) all c.finish.ensures.numbered)

pub returns-clause-seen : goal.returns-clause-seen
returns-clause-seen g c =
    let l = c.loop-pass in
    let e = YieldsList-end (YieldsList-from_vec c.args.passes.items (search rules) (search rules)) l.yielded _ l.yielded_by _ c.next.new.self c.in-None.is c.next.ensures.steps in
    subst (All (λ (p : Seen). IsPrefix p.words c.finish.result)) (sym (map-id l.yielded) ∙ e.0)
    (each_seen l.yielded l.keeper.words c.finish.result c.finish.ensures.longer l.invariant.seen)

pub returns-clause-known : goal.returns-clause-known
returns-clause-known g c = subst (λ n. AreOfSessions n c.finish.result) c.loop-pass.invariant.enrolled c.finish.ensures.known

pub returns-clause-admitted : goal.returns-clause-admitted
returns-clause-admitted g c =
    let kept = c.into_inner-3.result.kept in
    (kept, subst (λ h. IsTrue (admits kept h [])) (sym (c.finish.ensures.commits ∙ c.loop-pass.invariant.commits)) c.into_pass-keeper.ensures.admitted)
