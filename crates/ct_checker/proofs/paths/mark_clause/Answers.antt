use Rattle.std.proofs.Common.{ℕ, suc, ◌<◌, ◌≤◌, false, List, length, get_or, drop, drop-cons, ap, sym, subst, arith}
use Rattle.ct_derivation.specs.declared.literals.Lit.{Lit}
use Rattle.ct_checker.{specs.Added.{added, added_all}, proofs.Added.grows}
use Rattle.ct_derivation.specs.declared.literals.Atom.TheVariants as atom
use Rattle.ct_checker.proofs.paths.mark_clause.Goals as goal

next_fits : (ls clause : List Lit) (i : ℕ) (d : Lit) → i < length clause → length (added ls (get_or clause i d)) ≤ length (added_all ls (drop i clause))
next_fits ls clause i d lt =
    subst (λ ms. length (added ls (get_or clause i d)) ≤ length (added_all ls ms)) (sym (drop-cons clause i d lt))
    (grows (added ls (get_or clause i d)) (drop (suc i) clause))

pub add-requires : goal.add-requires
add-requires c =
    let next = next_fits c.loop-literal.marks.falses c.args.clause.now c.loop-literal.literal-index (record { positive = false; atom = atom.Node 0 }) c.loop-literal-test.true in
    omega (arith, next, ap length c.loop-literal.invariant.0, c.loop-literal.invariant.1, c.requires)
