use Rattle.std.{proofs.Common.{◌≡◌, ◌∙◌, subst, sym, true}, proofs.lemmas.List.Elements.All-nil}
use Rattle.ct_word.{specs.Condition.holds_at, specs.Reading.condition_at}
use Rattle.ct_condition.specs.Worth.{AreWorths}
use Rattle.ct_certain.specs.Certain.{IsKeptWorld}
use Rattle.ct_deciding_tests.proofs.tests.listing.all_zero.Goals as goal

pub returns : goal.returns
returns g c =
    let words = c.args.pass.now.words in
    let are = subst (λ ws. AreWorths ws c.new-world.result c.in_ok-all.all) c.words.ensures.words c.in_ok-all.ensures in
    let holds = sym (c.holds.ensures words c.new-world.result are c.requires) ∙ c.if-not-holds.false in
    subst (IsKeptWorld words c.args.global) (sym c.new-world.ensures) (record { holds = subst (λ v. holds_at v (condition_at words c.args.global) ≡ true) c.new-world.ensures holds; values = All-nil _ })
