use Rattle.std.proofs.Common.{◌≡◌, drop, None}
use Rattle.ct_derivation.{specs.Propagation.look, specs.Accepts.over_atoms}
use Rattle.ct_checker.proofs.propagation.examine.Given as goal

-- what is left of the clause decides
abbrev pub invariant-loop-literal : goal.invariant-loop-literal
invariant-loop-literal l = look over_atoms l.marks.falses l.rest (drop l.literal-index l.clause) ≡ look over_atoms l.marks.falses None l.clause
