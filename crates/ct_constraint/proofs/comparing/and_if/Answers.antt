use Rattle.std.{proofs.Common.{Bool, true, false, not, ◌≡◌, ◌&&◌, ◌||◌, refl, ap, sym, ◌∙◌, inl}, proofs.lemmas.Result.IfOk-weaker}
use Rattle.ct_condition.{specs.Truth.{HasTruth, truth_at, and_at}, proofs.Truths.{itself, in_place}, proofs.Writes.writes_none}
use Rattle.ct_constraint.proofs.comparing.and_if.Goals as goal

and_true : (b : Bool) → b ≡ (b && true)
and_true true = refl
and_true false = refl

pub returns-then-counts-clause-truth : goal.returns-then-counts-clause-truth
returns-then-counts-clause-truth g c =
    let old = g.I.Interner.list c.args.pass.now in
    let new = g.I.Interner.list c.and.new.pass in
    let x = c.args.c in
    let y = c.args.d in
    IfOk-weaker c.and.result (λ p. HasTruth new p (and_at old x y)) (λ p. HasTruth new p (λ v row. truth_at old x v row && (not c.args.counts || truth_at old y v row)))
    (λ p h. in_place new p (and_at old x y) (λ v row. truth_at old x v row && (not c.args.counts || truth_at old y v row)) h
    (λ v row. ap (λ b. truth_at old x v row && (not b || truth_at old y v row)) (sym c.if-counts.true))) c.and.ensures.truth

pub returns-else-counts-clause-truth : goal.returns-else-counts-clause-truth
returns-else-counts-clause-truth g c =
    let old = g.I.Interner.list c.args.pass.now in
    let x = c.args.c in
    let y = c.args.d in
    in_place old x (truth_at old x) (λ v row. truth_at old x v row && (not c.args.counts || truth_at old y v row)) (itself old x c.words.ensures.small c.requires.left)
    (λ v row. and_true (truth_at old x v row) ∙ ap (λ b. truth_at old x v row && (not b || truth_at old y v row)) (sym c.if-counts.false))

pub returns-else-counts-clause-terms : goal.returns-else-counts-clause-terms
returns-else-counts-clause-terms g c = λ t h. inl h

pub returns-else-counts-clause-writes : goal.returns-else-counts-clause-writes
returns-else-counts-clause-writes g c = writes_none _ c.words.ensures.formed c.words.ensures.room
