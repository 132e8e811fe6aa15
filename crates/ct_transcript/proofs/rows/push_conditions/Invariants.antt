use Rattle.std.{proofs.Common.{◌≡◌, ◌++◌, take}, specs.Prelude.map}
use Rattle.ct_rewrite.specs.declared.answer.AnswerRow.{AnswerRow}
use Rattle.ct_transcript.proofs.rows.push_conditions.Given as goal

abbrev pub invariant-loop-row : goal.invariant-loop-row
invariant-loop-row l =
    l.references.items ≡ l.initial.references.items ++ map (λ (r : AnswerRow). r.cond) (take l.row-index l.rows)
