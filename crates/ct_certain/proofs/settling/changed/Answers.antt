use Rattle.std.{proofs.Common.{◌≡◌, ◌∷◌, true, sym, subst}, specs.Prelude.IfSome, proofs.lemmas.Option.IfSome_then, proofs.lemmas.Result.IfOk-weaker}
use Rattle.ct_near.{specs.Conjuncts.AreBeside, specs.Near.IsRepairedNear, proofs.Runs.run_condition}
use Rattle.ct_certain.proofs.Asking.{beside_holds}
use Rattle.ct_word.{specs.Condition.holds_at, specs.Reading.condition_at}
use Rattle.ct_certain.proofs.settling.changed.Goals as goal

pub repaired_near-requires-clause-own : goal.repaired_near-requires-clause-own
repaired_near-requires-clause-own c = λ p h.
    let words = c.args.words.now in
    let beside = subst (AreBeside words c.args.root c.args.global) (sym c.as_slice.ensures.value)
    (subst (λ o. IfSome o (λ others. AreBeside words c.args.root c.args.global others.now.items)) c.in-Some.is c.requires.own) in
    run_condition words c.requires.formed c.args.root c.requires.condition p (beside.each p h)

pub returns : goal.returns
returns c =
    let words = c.args.words.now in
    let own = c.as_slice.result.now in
    let beside = subst (AreBeside words c.args.root c.args.global) (sym c.as_slice.ensures.value)
    (subst (λ o. IfSome o (λ others. AreBeside words c.args.root c.args.global others.now.items)) c.in-Some.is c.requires.own) in
    IfOk-weaker c.repaired_near.result (λ o. IfSome o (IsRepairedNear words (c.args.global ∷ own) c.args.near.now.world.now)) (λ o. IfSome o (λ v. holds_at v (condition_at words c.args.root) ≡ true))
    (λ o made. IfSome_then o made (λ v is. beside_holds words c.args.root c.args.global own c.args.near.now.world.now v beside is)) c.repaired_near.ensures.near
