use Rattle.std.proofs.Common.{ap, sym, subst, ◌∙◌}
use Rattle.ct_word.{specs.Reading.commits_of, proofs.Prefixes.commits_prefix}
use Rattle.ct_keeper.{specs.Latest.IsLatest, proofs.Standing.still}
use mathlib.Core.List.{IsPrefix}
use Rattle.ct_keeper.proofs.keeper.Keeper.meet.Goals as goal

pub invariant_of-self : goal.invariant_of-self
invariant_of-self g c =
    let k = c.self.inside in
    let left = c.leave.ensures.left in (
      ap (λ p. p.guest) left,
      ap (λ p. p.enrolled) left ∙ c.enter-guest.ensures.enrolled ∙ c.self.invariant.1,
      ap (λ p. p.ended) left ∙ c.enter-guest.ensures.ended ∙ c.self.invariant.2,
      subst (λ ws. IsLatest ws k.latest) (sym (ap (λ p. p.words) left))
          (still k.pass.words c.enter-guest.new.self.words k.latest c.self.invariant.3 c.enter-guest.ensures.longer c.words.ensures.formed c.enter-guest.ensures.commits),
    )

pub returns-clause-known : goal.returns-clause-known
returns-clause-known g c =
    let pass = c.args.pass in
    let words = c.enter-guest.new.self.words in
    subst (IsPrefix (commits_of pass.words)) (c.enter-guest.ensures.commits ∙ ap (λ o. commits_of o.words) c.self.view_is)
    (commits_prefix pass.words words c.enter-guest.ensures.seen)
