use Rattle.std.proofs.Common.{◌≡◌, ap, subst, ◌∙◌, Some, None, inl, inr, ⊎_elim, refl, arith}
use Rattle.ct_word.specs.Reading.{commits_of}
use Rattle.ct_arena.{specs.Kept.IsKeeper, specs.Sharing.longer, proofs.Entering.{longer_either, IsEntered}}
use Rattle.ct_arena.{proofs.Handover.{keeper_entered, keeper_alone_as, words_alone}, proofs.keepers.KeeperPass.enter.Goals.{After-as_slice, After-take_longer}}
use mathlib.Core.List.{IsPrefix}
use Rattle.ct_arena.proofs.keepers.KeeperPass.enter.Given as given
use Rattle.ct_arena.proofs.keepers.KeeperPass.enter.Goals as goal

none : (g : given.Over) (c : After-as_slice g) → c.self.inside.guest ≡ None
none g c = ap (λ v. v.guest) c.self.view_is ∙ c.requires

-- the keeper's list is its own
keeper : (g : given.Over) (c : After-as_slice g) → IsKeeper g.N.Site.log c.self.inside.token.table_id c.self.inside.token.me c.as_slice.result.now c.self.inside.enrolled c.self.inside.guest
keeper g c =
    keeper_alone_as g.N.Site.log c.self.inside.token.table_id c.self.inside.token.me c.self.inside.words.items c.as_slice.result.now c.self.inside.list c.self.inside.enrolled c.self.inside.guest c.as_slice.ensures.value
    (none g c) c.self.invariant.2 c.self.invariant.0

here : (g : given.Over) (c : After-as_slice g) → c.as_slice.result.now ≡ c.args.self.now.words
here g c =
    c.as_slice.ensures.value ∙ words_alone g.N.Site.log.cap c.self.inside.words.items c.self.inside.list c.self.inside.guest c.args.self.now.words (none g c) c.self.invariant.2 (ap (λ v. v.words) c.self.view_is)

done : (g : given.Over) (c : After-take_longer g) → IsKeeper g.N.Site.log c.self.inside.token.table_id c.self.inside.token.me c.as_slice.result.now c.self.inside.enrolled c.self.inside.guest → c.self.inside.guest ≡ None
    → IsKeeper g.N.Site.log c.take_in.new.keeper.table_id c.take_in.new.keeper.me c.take_longer.new.list.words c.self.inside.enrolled (Some c.pass.inside.tally)
    × IsEntered g.N.Site.log.cap c.self.inside.enrolled c.pass.inside.tally c.as_slice.result.now c.pass.inside.seen.words c.take_longer.new.list.words
done g c keeper none =
    keeper_entered g.N.Site.log c.self.inside.token.table_id c.take_in.new.keeper.table_id c.pass.inside.token.table_id c.self.inside.token.me c.pass.inside.token.me c.take_in.new.keeper.me c.as_slice.result.now c.pass.inside.seen.words
    c.take_longer.new.list.words c.self.inside.enrolled c.self.inside.guest c.pass.inside.tally keeper none c.pass.invariant.0 c.take_in.ensures.taken c.take_in.ensures.table c.take_longer.ensures.words

pub take_in-requires-clause-guest : goal.take_in-requires-clause-guest
take_in-requires-clause-guest g c = ap (λ m. m.0.guest) c.self.invariant.0.seat ∙ ap (λ v. v.guest) c.self.view_is ∙ c.requires

pub take_in-requires-clause-bare : goal.take_in-requires-clause-bare
take_in-requires-clause-bare g c = ap (λ m. m.0.ended) c.pass.invariant.0.seat

pub take_longer-requires-clause-room : goal.take_longer-requires-clause-room
take_longer-requires-clause-room g c = omega (arith, (keeper g (goal.at.take_longer-requires-clause-room g c).After-as_slice).list.room, c.pass.invariant.1)

pub take_longer-requires-clause-formed : goal.take_longer-requires-clause-formed
take_longer-requires-clause-formed g c = (keeper g (goal.at.take_longer-requires-clause-formed g c).After-as_slice).list.formed

pub take_longer-requires-clause-front : goal.take_longer-requires-clause-front
take_longer-requires-clause-front g c =
    let at = goal.at.take_longer-requires-clause-front g c in
    (keeper_entered g.N.Site.log c.self.inside.token.table_id c.take_in.new.keeper.table_id c.pass.inside.token.table_id c.self.inside.token.me c.pass.inside.token.me c.take_in.new.keeper.me c.as_slice.result.now c.pass.inside.seen.words
    (longer c.as_slice.result.now c.pass.inside.seen.words) c.self.inside.enrolled c.self.inside.guest c.pass.inside.tally (keeper g at.After-as_slice) (none g at.After-as_slice) c.pass.invariant.0 c.take_in.ensures.taken c.take_in.ensures.table refl).1.seen

pub invariant_of-self : goal.invariant_of-self
invariant_of-self g c =
    let at = goal.at.invariant_of-self g c in
    let done = done g at.After-take_longer (keeper g at.After-as_slice) (none g at.After-as_slice) in
    (done.0, c.self.invariant.1, (c.take_longer.ensures.room ∙ c.pass.invariant.1, subst (λ l. IsPrefix l c.take_longer.new.list.words) c.as_slice.ensures.value done.1.longer))

pub returns-clause-longer : goal.returns-clause-longer
returns-clause-longer g c =
    let at = goal.at.returns-clause-longer g c in
    subst (λ l. IsPrefix l c.take_longer.new.list.words) (here g at.After-as_slice) (done g at.After-take_longer (keeper g at.After-as_slice) (none g at.After-as_slice)).1.longer

pub returns-clause-seen : goal.returns-clause-seen
returns-clause-seen g c =
    let at = goal.at.returns-clause-seen g c in
    subst (λ l. IsPrefix l c.take_longer.new.list.words) (ap (λ v. v.words) c.pass.view_is) (done g at.After-take_longer (keeper g at.After-as_slice) (none g at.After-as_slice)).1.seen

pub returns-clause-commits : goal.returns-clause-commits
returns-clause-commits g c =
    let at = goal.at.returns-clause-commits g c in
    (done g at.After-take_longer (keeper g at.After-as_slice) (none g at.After-as_slice)).1.commits ∙ ap commits_of (here g at.After-as_slice)

pub returns-clause-ended : goal.returns-clause-ended
returns-clause-ended g c = ap (λ m. m.0.ended) c.take_in.ensures.taken.is ∙ ap (λ v. v.ended) c.self.view_is

pub returns-clause-either : goal.returns-clause-either
returns-clause-either g c =
    ⊎_elim (λ e. inl (e ∙ here g (goal.at.returns-clause-either g c).After-as_slice)) (λ e. inr (e ∙ ap (λ v. v.words) c.pass.view_is))
    (longer_either c.as_slice.result.now c.pass.inside.seen.words c.take_longer.new.list.words c.take_longer.ensures.words)
