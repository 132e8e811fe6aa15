use Rattle.std.proofs.Common.{◌≡◌, [], ◌∷◌, ◌++◌, append-nil, ap, sym, subst, ◌∙◌}
use Rattle.ct_questions.specs.Candidates.{proof_of}
use Rattle.ct_questions.proofs.tuples.list_candidate.Goals as goal

pub returns-in-World : goal.returns-in-World
returns-in-World c =
    let list = c.args.list.now.items in
    sym (append-nil list) ∙ ap (λ d. list ++ proof_of c.args.candidate.now d) (sym c.in-World.is)

pub returns-in_ok-push-in-Refuted : goal.returns-in_ok-push-in-Refuted
returns-in_ok-push-in-Refuted c =
    let list = c.args.list.now.items in
    c.in_ok-push-in-Refuted.ensures.items
    ∙ (λ i. list ++ (record { tuple = c.in_ok-tuple-in-Refuted.ensures i; proof = record { root = c.args.candidate.now.root; derivation = c.in_ok-derivation-in-Refuted.ensures i } }) ∷ [])
    ∙ ap (λ d. list ++ proof_of c.args.candidate.now d) (sym c.in-Refuted.is)
