use Rattle.std.proofs.Common.{◌≡◌, drop, length, ◌+◌}
use Rattle.ct_derivation.{specs.Propagation.meets, specs.Accepts.{over_atoms, clauses_of}}
use Rattle.ct_checker.proofs.propagation.meets.Given as goal

-- what is left of the hints decides
abbrev pub invariant-loop-hint : goal.invariant-loop-hint
invariant-loop-hint l =
    (meets over_atoms (clauses_of l.earlier) l.marks.falses (drop l.hint-index l.hints) ≡ meets over_atoms (clauses_of l.earlier) l.clause l.hints)
    × (length l.marks.falses ≡ length l.clause + l.hint-index) × (l.marks.room ≡ l.fn.marks.room)
