use Rattle.std.proofs.Common.{◌∷◌, ◌++◌, length}
use Rattle.ct_condition.{specs.Tallies.numbers_in, proofs.CommitWords.commits_stay}
use Rattle.ct_condition.proofs.seated.SeatedInterner.intern.Goals as goal

pub returns-clause-kept : goal.returns-clause-kept
returns-clause-kept g c =
    let same = commits_stay c.args.self.now.keeper.now.words c.intern.new.self.words c.intern.ensures.longer c.intern.ensures.commits in
    λ i. c.intern.ensures.session i ∷ c.intern.ensures.mine i ∷ c.intern.ensures.enrolled i ∷ length (c.intern.ensures.ended i) ∷ (numbers_in (c.intern.ensures.ended i) ++ same i)
