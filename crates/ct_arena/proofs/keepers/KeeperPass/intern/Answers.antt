use Rattle.std.{proofs.Common.{◌≡◌, ap, sym, subst, ◌∙◌, Some, inl, refl}, specs.Prelude.IsTrue}
use Rattle.ct_word.{specs.WellFormed.is_plain_word, specs.Reading.commits_of}
use Rattle.ct_arena.{specs.Own.IsOwn, specs.Seen.CountsWord, proofs.Handover.{IsAtWork, at_work, words_with, work_put}}
use Rattle.ct_arena.proofs.Keeping.{plain_counts, known_stays, outcome_longer, outcome_counts, outcome_session, outcome_mine, outcome_commits}
use Rattle.ct_arena.proofs.keepers.KeeperPass.intern.Goals.{After-guest}
use mathlib.Core.List.{IsPrefix}
use Rattle.ct_arena.proofs.keepers.KeeperPass.intern.Given as given
use Rattle.ct_arena.proofs.keepers.KeeperPass.intern.Goals as goal

-- the keeper works with the guest's list
work : (g : given.Over) (c : After-guest g) → IsAtWork g.N.Site.log c.self.inside.token.table_id c.self.inside.token.me c.self.inside.words.items c.in-Some.list.words c.self.inside.enrolled c.self.inside.guest c.guest.inside.tally
work g c =
    at_work g.N.Site.log c.self.inside.token.table_id c.self.inside.token.me c.self.inside.words.items c.self.inside.list c.in-Some.list c.self.inside.enrolled c.self.inside.guest c.guest.inside.tally
    c.in-Some.is (ap (λ v. v.guest) c.self.view_is ∙ c.requires.guest ∙ sym (ap Some c.guest.view_is)) c.self.invariant.0 c.self.invariant.2

here : (g : given.Over) (c : After-guest g) → c.in-Some.list.words ≡ c.args.self.now.words
here g c = words_with c.self.inside.words.items c.self.inside.list c.in-Some.list c.args.self.now.words c.in-Some.is (ap (λ v. v.words) c.self.view_is)

plain : (g : given.Over) (c : After-guest g) → IsTrue (is_plain_word c.in-Some.list.words c.args.w)
plain g c = rw (here g c) c.requires.word

pub put-result-requires-clause-seat : goal.put-result-requires-clause-seat
put-result-requires-clause-seat g c = (work g (goal.at.put-result-requires-clause-seat g c).After-guest).seat

pub put-result-requires-clause-own : goal.put-result-requires-clause-own
put-result-requires-clause-own g c =
    subst (λ n. IsOwn n c.guest.inside.tally c.in-Some.list.words) (sym c.args.arena.now.room) (work g (goal.at.put-result-requires-clause-own g c).After-guest).own

pub put-result-requires-clause-next : goal.put-result-requires-clause-next
put-result-requires-clause-next g c = inl (plain g (goal.at.put-result-requires-clause-next g c).After-guest)

pub put-result-requires-clause-commits : goal.put-result-requires-clause-commits
put-result-requires-clause-commits g c = plain_counts c.args.self.now.words c.args.w _ refl c.requires.word

pub invariant_of-self : goal.invariant_of-self
invariant_of-self g c =
    let at = (goal.at.invariant_of-self g c).After-guest in
    let work = work g at in
    let known = known_stays c.self.inside.enrolled c.in-Some.list.words c.put-result.new.seen.words (outcome_commits _ _ _ _ _ c.args.w (plain g at) work.keeps c.put-result.ensures.outcome) work.keeper.known in
    let done = work_put work c.args.arena.now.room c.put-result.ensures.table c.put-result.ensures.seat c.put-result.ensures.own c.put-result.ensures.outcome known in
    (done.0, c.self.invariant.1, (c.put-result.ensures.chain ∙ c.args.arena.now.room, done.1))

pub returns-clause-longer : goal.returns-clause-longer
returns-clause-longer g c = subst (λ l. IsPrefix l c.put-result.new.seen.words) (here g (goal.at.returns-clause-longer g c).After-guest) (outcome_longer _ _ _ _ _ c.args.w c.put-result.ensures.outcome)

pub returns-clause-formed : goal.returns-clause-formed
returns-clause-formed g c = c.put-result.ensures.own.log.formed

pub returns-clause-made : goal.returns-clause-made
returns-clause-made g c = subst (λ m. CountsWord m c.put-result.new.tally.made c.put-result.new.seen.words c.args.w) (ap (λ v. v.made) c.guest.view_is) (outcome_counts _ _ _ _ _ c.args.w c.put-result.ensures.outcome)

pub returns-clause-mine : goal.returns-clause-mine
returns-clause-mine g c = outcome_mine _ _ _ _ _ c.args.w (plain g (goal.at.returns-clause-mine g c).After-guest) c.put-result.ensures.outcome ∙ ap (λ v. v.mine) c.guest.view_is

pub returns-clause-session : goal.returns-clause-session
returns-clause-session g c = outcome_session _ _ _ _ _ c.args.w c.put-result.ensures.outcome ∙ ap (λ v. v.session) c.guest.view_is

pub returns-clause-commits : goal.returns-clause-commits
returns-clause-commits g c =
    let at = (goal.at.returns-clause-commits g c).After-guest in
    outcome_commits _ _ _ _ _ c.args.w (plain g at) (work g at).keeps c.put-result.ensures.outcome ∙ ap commits_of (here g at)

pub returns-clause-ended : goal.returns-clause-ended
returns-clause-ended g c = ap (λ m. m.0.ended) c.put-result.ensures.seat ∙ ap (λ v. v.ended) c.self.view_is
