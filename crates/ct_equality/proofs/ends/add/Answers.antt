use Rattle.std.{proofs.Common.{◌∙◌, ◌+◌, ◌++◌, ◌∷◌, [], false, sym, ap, subst, Some, arith}, proofs.lemmas.Option.{slice_get-get_or, get_or_from_slice_get}}
use Rattle.ct_equality.{specs.Ends.AreEnds, proofs.TrueEnds.{ends_more, ends_skip, no_pair}}
use Rattle.ct_equality.proofs.ends.add.Goals as goal

pub returns-in_ok-push-2-clause-ends : goal.returns-in_ok-push-2-clause-ends
returns-in_ok-push-2-clause-ends c =
    let atoms = c.args.atoms.now in
    let truth = c.args.truth.now in
    let k = c.args.k in
    let s = c.in-Same.s in
    let t = c.in-Same.t in
    let keys_is = ap (λ x. x.keys) c.push-in-Same-2.ensures ∙ ap (λ l. l ++ t ∷ []) (ap (λ x. x.keys) c.push.ensures) in
    let others_is = c.in_ok-push-2.ensures.items ∙ ap (λ l. l ++ s ∷ []) c.in_ok-push.ensures.items in
    let there = slice_get-get_or atoms k _ c.requires.within ∙ ap Some c.in-Same.is in
    let holds = slice_get-get_or truth k false (omega (arith, c.requires.within, c.requires.truths)) ∙ ap Some c.if-not-truth-k.false in
    subst (λ l. AreEnds atoms truth (k + 1) l c.push-in-Same-3.new.self.items) (sym keys_is) (subst (λ l. AreEnds atoms truth (k + 1) ((c.args.ends.now.keys.keys ++ s ∷ []) ++ t ∷ []) l) (sym others_is)
    (ends_more atoms truth k c.args.ends.now.keys.keys c.args.ends.now.others.items c.requires.ends c.requires.ordered s t there holds))

pub returns-in_default-clause-ends : goal.returns-in_default-clause-ends
returns-in_default-clause-ends c =
    let atoms = c.args.atoms.now in
    ends_skip atoms c.args.truth.now c.args.k c.args.ends.now.keys.keys c.args.ends.now.others.items c.requires.ends
    (λ p t e f. no_pair _ p t (get_or_from_slice_get atoms c.args.k _ _ e) c.in_default.not-Same)
