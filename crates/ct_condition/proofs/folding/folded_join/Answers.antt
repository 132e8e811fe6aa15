use Rattle.std.proofs.Common.{not, subst}
use Rattle.ct_word.specs.Connective.{unit}
use Rattle.ct_condition.{specs.Truth.HasTruth, proofs.Folds.{settled_left, settled_right, unit_left, unit_right, with_itself, denied_left, denied_right}}
use Rattle.ct_condition.proofs.folding.folded_join.Goals.{then-c-settled-via-then-c-settled, then-c-settled-via-else-c-settled+then-d-settled, then-d-unit-via-then-d-unit, then-d-unit-via-else-d-unit+then-c-d, then-negates-via-then-negates, then-negates-via-else-negates+then-negates-2, After-literal-unit, After-literal-settled}
use Rattle.ct_condition.proofs.folding.folded_join.Goals as goal

says_nothing : (c : After-literal-unit) → HasTruth c.args.words.now c.literal-unit.result (λ v row. unit c.args.connective)
says_nothing c = subst (λ b. HasTruth c.args.words.now c.literal-unit.result (λ v row. b)) c.unit.ensures c.literal-unit.ensures.truth

settles : (c : After-literal-settled) → HasTruth c.args.words.now c.literal-settled.result (λ v row. not (unit c.args.connective))
settles c = subst (λ b. HasTruth c.args.words.now c.literal-settled.result (λ v row. not b)) c.unit-2.ensures c.literal-settled.ensures.truth

pub returns-then-c-settled-clause-truth : goal.returns-then-c-settled-clause-truth
returns-then-c-settled-clause-truth c = elim c.then-c-settled.branch [
  | then-c-settled-via-then-c-settled w ↦ settled_left c.args.words.now c.args.connective _ c.args.c c.args.d (settles (goal.at.returns-then-c-settled-clause-truth c).After-literal-settled) w.if-c-settled.true
  | then-c-settled-via-else-c-settled+then-d-settled w ↦ settled_right c.args.words.now c.args.connective _ c.args.c c.args.d (settles (goal.at.returns-then-c-settled-clause-truth c).After-literal-settled) w.if-d-settled.true
]

pub returns-then-c-unit-clause-truth : goal.returns-then-c-unit-clause-truth
returns-then-c-unit-clause-truth c = unit_left c.args.words.now c.args.connective _ c.args.c c.args.d c.requires.small c.requires.right (says_nothing (goal.at.returns-then-c-unit-clause-truth c).After-literal-unit) c.if-c-unit.true

pub returns-then-d-unit-clause-truth : goal.returns-then-d-unit-clause-truth
returns-then-d-unit-clause-truth c = elim c.then-d-unit.branch [
  | then-d-unit-via-then-d-unit w ↦ unit_right c.args.words.now c.args.connective _ c.args.c c.args.d c.requires.small c.requires.left (says_nothing (goal.at.returns-then-d-unit-clause-truth c).After-literal-unit) w.if-d-unit.true
  | then-d-unit-via-else-d-unit+then-c-d w ↦ with_itself c.args.words.now c.args.connective c.args.c c.args.d c.requires.small c.requires.left w.if-c-d.true
]

pub returns-then-negates-clause-truth : goal.returns-then-negates-clause-truth
returns-then-negates-clause-truth c = elim c.then-negates.branch [
  | then-negates-via-then-negates w ↦ denied_left c.args.words.now c.args.connective _ c.args.c c.args.d (settles (goal.at.returns-then-negates-clause-truth c).After-literal-settled) (c.negates.ensures.negates w.if-negates.true)
  | then-negates-via-else-negates+then-negates-2 w ↦ denied_right c.args.words.now c.args.connective _ c.args.c c.args.d (settles (goal.at.returns-then-negates-clause-truth c).After-literal-settled) (w.negates-else-negates.ensures.negates w.if-negates-2.true)
]
