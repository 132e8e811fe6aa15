use Rattle.std.{proofs.Common.{◌≡◌, ◌∷◌, ◌-◌, length, take}, specs.Prelude.string_bytes, specs.Str.IsCharBoundary}
use Rattle.ct_lex.specs.Spelling.{doubled}
use Rattle.ct_lex.proofs.front.literal.Given as goal

abbrev pub invariant-loop-kept : goal.invariant-loop-kept
invariant-loop-kept l = (take l.from l.text ≡ 39 ∷ doubled (string_bytes l.kept)) × IsCharBoundary l.text l.from

abbrev pub decreases-loop-kept : goal.decreases-loop-kept
decreases-loop-kept l = length l.text - l.from
