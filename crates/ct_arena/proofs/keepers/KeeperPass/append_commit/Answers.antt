use Rattle.std.{proofs.Common.{◌≡◌, ◌+◌, ◌<◌, ◌^◌, length, ap, sym, subst, ◌∙◌, Some, inr, arith, refl}, specs.Prelude.{IsTrue, IfOk, OnOk, [], ◌∷◌, ◌++◌}}
use Rattle.ct_word.{specs.WellFormed.is_place_of, proofs.Growth.place_within, specs.Reading.commits_of}
use Rattle.ct_arena.{specs.Own.IsOwn, specs.Counts.{commit_word, commit_of}, specs.Seen.StandsLast, specs.declared.tally.Tally.Tally}
use Rattle.ct_arena.proofs.Handover.{IsAtWork, at_work, words_with, work_put, known_put, both_ok, ok_then, ok_more, err_then}
use Rattle.ct_arena.proofs.Keeping.{commit_counts, outcome_longer, outcome_none, IsCommitted, outcome_commit}
use Rattle.ct_arena.proofs.keepers.KeeperPass.append_commit.Goals.{After-guest, After-put-result}
use mathlib.Core.List.{IsPrefix}
use Rattle.ct_word.specs.declared.kinds.Class.TheVariants as class
use Rattle.ct_arena.proofs.keepers.KeeperPass.append_commit.Given as given
use Rattle.ct_arena.proofs.keepers.KeeperPass.append_commit.Goals as goal

-- the keeper works with the guest's list
work : (g : given.Over) (c : After-guest g) → IsAtWork g.N.Site.log c.self.inside.token.table_id c.self.inside.token.me c.self.inside.words.items c.in-Some.list.words c.self.inside.enrolled c.self.inside.guest c.guest.inside.tally
work g c =
    at_work g.N.Site.log c.self.inside.token.table_id c.self.inside.token.me c.self.inside.words.items c.self.inside.list c.in-Some.list c.self.inside.enrolled c.self.inside.guest c.guest.inside.tally
    c.in-Some.is (ap (λ v. v.guest) c.self.view_is ∙ c.requires.guest ∙ sym (ap Some c.guest.view_is)) c.self.invariant.0 c.self.invariant.2

number : (g : given.Over) (c : After-guest g) → c.guest.inside.tally.mine < 2 ^ 18
number g c = rw (ap (λ v. v.mine) c.guest.view_is) c.requires.number

here : (g : given.Over) (c : After-guest g) → c.in-Some.list.words ≡ c.args.self.now.words
here g c = words_with c.self.inside.words.items c.self.inside.list c.in-Some.list c.args.self.now.words c.in-Some.is (ap (λ v. v.words) c.self.view_is)

list : (g : given.Over) (c : After-guest g) → IsTrue (is_place_of c.in-Some.list.words class.ChangeList c.args.changes)
list g c = rw (here g c) c.requires.changes

within : (g : given.Over) (c : After-guest g) → c.args.changes < length c.in-Some.list.words
within g c = place_within c.in-Some.list.words class.ChangeList c.args.changes (list g c)

small : (g : given.Over) (c : After-guest g) → c.args.changes < 2 ^ 28
small g c = let work = work g c in omega (arith, within g c, work.own.log.room, work.keeper.named.most)

-- what was put where the answer is a place
done : (g : given.Over) (c : After-put-result g) → IsAtWork g.N.Site.log c.self.inside.token.table_id c.self.inside.token.me c.self.inside.words.items c.in-Some.list.words c.self.inside.enrolled c.self.inside.guest c.guest.inside.tally
    → c.guest.inside.tally.mine < 2 ^ 18 → c.args.changes < length c.in-Some.list.words
    → IfOk c.put-result.result (λ place. IsCommitted c.guest.inside.tally c.put-result.new.tally c.in-Some.list.words c.put-result.new.seen.words c.args.changes place)
done g c work number within =
    both_ok c.put-result.result _ _ _ c.put-result.ensures.stands c.put-result.ensures.last
    (λ place stands last. outcome_commit c.args.arena.now.cap _ c.guest.inside.tally c.put-result.new.tally c.in-Some.list.words c.put-result.new.seen.words c.pack-w.result c.args.changes place
    work.keeps c.put-result.ensures.own work.own.most number (omega (arith, within, work.own.log.room, work.keeper.named.most)) within c.pack-w.ensures.word stands last c.put-result.ensures.outcome)

pub put-result-requires-clause-seat : goal.put-result-requires-clause-seat
put-result-requires-clause-seat g c = (work g (goal.at.put-result-requires-clause-seat g c).After-guest).seat

pub put-result-requires-clause-next : goal.put-result-requires-clause-next
put-result-requires-clause-next g c =
    let at = (goal.at.put-result-requires-clause-next g c).After-guest in
    let work = work g at in
    inr (record { changes = c.args.changes; keeper = work.keeps; session = work.own.most; number = number g at; small = small g at; list = list g at; word = c.pack-w.ensures.word })

pub put-result-requires-clause-own : goal.put-result-requires-clause-own
put-result-requires-clause-own g c =
    subst (λ n. IsOwn n c.guest.inside.tally c.in-Some.list.words) (sym c.args.arena.now.room) (work g (goal.at.put-result-requires-clause-own g c).After-guest).own

pub put-result-requires-clause-commits : goal.put-result-requires-clause-commits
put-result-requires-clause-commits g c =
    let at = (goal.at.put-result-requires-clause-commits g c).After-guest in
    commit_counts c.guest.inside.tally.session c.guest.inside.tally.mine c.args.changes c.pack-w.result _ refl (work g at).own.most (number g at) (small g at) c.pack-w.ensures.word

pub invariant_of-self : goal.invariant_of-self
invariant_of-self g c =
    let at = (goal.at.invariant_of-self g c).After-guest in
    let work = work g at in
    let known = known_put c.self.inside.enrolled _ _ _ _ _ c.pack-w.result c.args.changes work.keeps work.own.most (number g at) (small g at) c.pack-w.ensures.word work.own.least work.enrolled c.put-result.ensures.outcome work.keeper.known in
    let after = work_put work c.args.arena.now.room c.put-result.ensures.table c.put-result.ensures.seat c.put-result.ensures.own c.put-result.ensures.outcome known in
    (after.0, c.self.invariant.1, (c.put-result.ensures.chain ∙ c.args.arena.now.room, after.1))

pub returns-clause-ok : goal.returns-clause-ok
returns-clause-ok g c =
    let at = goal.at.returns-clause-ok g c in
    subst (λ (t : Tally). IfOk c.put-result.result (λ place. StandsLast c.put-result.new.seen.words place (commit_word t.session t.mine c.args.changes))) c.guest.view_is
    (ok_more c.put-result.result _ _ (λ p h. h.stands) (done g at.After-put-result (work g at.After-guest) (number g at.After-guest) (within g at.After-guest)))

pub returns-clause-commits : goal.returns-clause-commits
returns-clause-commits g c =
    let at = goal.at.returns-clause-commits g c in
    subst (λ l. OnOk c.put-result.result (commits_of c.put-result.new.seen.words ≡ commits_of l ++ commit_of l c.args.guest.now.session c.args.guest.now.mine c.args.changes ∷ [])) (here g at.After-guest)
    (subst (λ (t : Tally). OnOk c.put-result.result (commits_of c.put-result.new.seen.words ≡ commits_of c.in-Some.list.words ++ commit_of c.in-Some.list.words t.session t.mine c.args.changes ∷ [])) c.guest.view_is
    (ok_then c.put-result.result _ _ (λ p h. h.commits) (done g at.After-put-result (work g at.After-guest) (number g at.After-guest) (within g at.After-guest))))

pub returns-clause-counted : goal.returns-clause-counted
returns-clause-counted g c =
    let at = goal.at.returns-clause-counted g c in
    subst (λ (t : Tally). OnOk c.put-result.result (c.put-result.new.tally ≡ record { session = t.session; made = t.made + 1; mine = t.mine + 1 })) c.guest.view_is
    (ok_then c.put-result.result _ _ (λ p h. h.counted) (done g at.After-put-result (work g at.After-guest) (number g at.After-guest) (within g at.After-guest)))

pub returns-clause-grows : goal.returns-clause-grows
returns-clause-grows g c =
    let at = goal.at.returns-clause-grows g c in
    subst (λ l. OnOk c.put-result.result (length l < length c.put-result.new.seen.words)) (here g at.After-guest) (ok_then c.put-result.result _ _ (λ p h. h.grows) (done g at.After-put-result (work g at.After-guest) (number g at.After-guest) (within g at.After-guest)))

pub returns-clause-none : goal.returns-clause-none
returns-clause-none g c =
    let at = (goal.at.returns-clause-none g c).After-guest in
    err_then c.put-result.result _ (λ e. outcome_none _ _ _ _ _ c.pack-w.result (work g at).keeps (c.put-result.ensures.full.0 e).1 c.put-result.ensures.outcome ∙ ap commits_of (here g at))

pub returns-clause-ended : goal.returns-clause-ended
returns-clause-ended g c = ap (λ m. m.0.ended) c.put-result.ensures.seat ∙ ap (λ v. v.ended) c.self.view_is

pub returns-clause-longer : goal.returns-clause-longer
returns-clause-longer g c =
    subst (λ l. IsPrefix l c.put-result.new.seen.words) (here g (goal.at.returns-clause-longer g c).After-guest) (outcome_longer _ _ _ _ _ c.pack-w.result c.put-result.ensures.outcome)

pub returns-clause-formed : goal.returns-clause-formed
returns-clause-formed g c = c.put-result.ensures.own.log.formed

pub overflow_mul-numbered : goal.overflow_mul-numbered
overflow_mul-numbered g c = let at = (goal.at.overflow_mul-numbered g c).After-guest in omega (arith, (work g at).own.most, number g at)

pub overflow_add-numbered : goal.overflow_add-numbered
overflow_add-numbered g c = let at = (goal.at.overflow_add-numbered g c).After-guest in omega (arith, (work g at).own.most, number g at)

pub pack-w-requires-clause-left : goal.pack-w-requires-clause-left
pack-w-requires-clause-left g c = let at = (goal.at.pack-w-requires-clause-left g c).After-guest in omega (arith, (work g at).own.most, number g at)

pub pack-w-requires-clause-right : goal.pack-w-requires-clause-right
pack-w-requires-clause-right g c = small g (goal.at.pack-w-requires-clause-right g c).After-guest
