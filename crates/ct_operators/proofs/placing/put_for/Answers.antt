use Rattle.std.proofs.Common.{◌≡◌, ℕ, ◌<◌, ◌≤◌, List, length, get_or, ap, ◌∙◌, arith, Err, inl, inr}
use Rattle.std.{proofs.lemmas.Bool.cases_lt, proofs.lemmas.List.Sorted.searched, proofs.lemmas.List.get_or_default}
use Rattle.ct_worlds.specs.Truths.{AreRising}
use Rattle.ct_operators.proofs.placing.put_for.Goals as goal

rises : (ps : List ℕ) → AreRising ps → (i j : ℕ) → i ≤ j → j < length ps → get_or ps i 0 ≤ get_or ps j 0
rises ps up i j le lt = elim (cases_lt i j) [ inl less ↦ omega (arith, up i j 0 less lt) | inr not_less ↦ let same : i ≡ j = omega (arith, le, not_less) in omega (arith, ap (λ k. get_or ps k 0) same) ]

pub unreachable-requires : goal.unreachable-requires
unreachable-requires c =
    let ps = c.args.places.now in
    let h = c.requires.among in
    let at : get_or ps h.0 0 ≡ c.args.place = get_or_default ps h.0 0 c.args.place h.1 ∙ h.2 in
    let s = searched ps c.args.place (Err c.in-Err.field-0) c.in-Err.ensures.position (rises ps c.requires.rising) in
    elim (cases_lt h.0 c.in-Err.field-0) [ inl left ↦ omega (arith, s.1 h.0 left, at) | inr right ↦ omega (arith, s.2 h.0 right h.1, at) ]
