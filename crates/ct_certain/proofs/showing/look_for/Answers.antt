use Rattle.std.{proofs.Common.{◌≡◌, Bor, Option, Some, None, sym, subst, take}, specs.{Prelude.IfSome, Option.option_copied}, proofs.lemmas.{Option.IfSome_then, Result.IfOk-weaker}}
use Rattle.ct_word.specs.WellFormed.{IsWellFormed}
use Rattle.ct_condition.proofs.Reached.{formed_before}
use Rattle.ct_certain.{specs.Answered.{IsAnswer, IsNearOwn, IsPool}, proofs.{Earlier.{answer_before, front, row_later}, Nearby.own_grows}}
use Rattle.ct_certain.proofs.showing.look_for.Goals as goal

pub reach-requires-clause-asked : goal.reach-requires-clause-asked
reach-requires-clause-asked g c =
    let old = g.I.Interner.list c.args.pass.now in
    row_later (take c.args.count old) old (front c.args.count old) c.words.ensures.formed c.args.global c.args.row.now c.requires.asked

pub approach-requires-clause-formed : goal.approach-requires-clause-formed
approach-requires-clause-formed g c =
    let old = g.I.Interner.list c.args.pass.now in
    subst IsWellFormed (sym c.first_words.ensures) (formed_before (take c.args.count old) old (front c.args.count old) c.words.ensures.formed)

as_lent : {A : Type 0} (P : A → Type 0) (o : Option (Bor A)) (p : Option A) → option_copied o ≡ p → IfSome p P → IfSome o (λ n. P n.now)
as_lent P None p e h = tt
as_lent P (Some b) p e h = subst (λ q. IfSome q P) (sym e) h

pub reach-requires-clause-near : goal.reach-requires-clause-near
reach-requires-clause-near g c =
    let old = g.I.Interner.list c.args.pass.now in
    let words = take c.args.count old in
    let near = c.near_of-near.ensures words c.args.global (subst (λ ws. IsPool ws c.args.global c.approach.new.pool) c.first_words.ensures c.in_ok-approach.ensures) in
    as_lent (IsNearOwn old c.args.global) c.as_ref.result c.near_of-near.result c.as_ref.ensures.value
    (IfSome_then c.near_of-near.result near (λ n is. own_grows words old (front c.args.count old) c.words.ensures.formed (formed_before words old (front c.args.count old) c.words.ensures.formed) c.args.global n is))

pub returns-clause-answer : goal.returns-clause-answer
returns-clause-answer g c =
    let old = g.I.Interner.list c.args.pass.now in
    let words = take c.args.count old in
    IfOk-weaker c.reach.result (IsAnswer old c.args.global c.args.row.now) (IsAnswer words c.args.global c.args.row.now)
    (answer_before words old (front c.args.count old) c.words.ensures.formed c.args.global c.args.row.now c.requires.asked) c.reach.ensures.answer
