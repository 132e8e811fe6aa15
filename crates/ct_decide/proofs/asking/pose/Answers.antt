use Rattle.std.{proofs.Common.{◌≡◌, ◌≤◌, ◌++◌, true, ℕ, length, arith, refl, ap, ◌∙◌, sym, subst}, specs.List.list_all}
use Rattle.ct_derivation.specs.Variables.{LARGEST, is_clause}
use Rattle.ct_trail.specs.Log.{added_in}
use Rattle.ct_decide.{proofs.Askings.begun, proofs.Wider.wider_clauses}
use Rattle.ct_decide.proofs.asking.pose.Goals as goal

pub add_all-requires : goal.add_all-requires
add_all-requires c =
    let p = c.args.posed in
    subst (λ (n : ℕ). list_all (is_clause n) p.clauses.items ≡ true) (sym (ap (λ s. s.vars) c.in_ok-solver.ensures))
    (wider_clauses (length p.atoms.items) c.variables-vars.result (omega (arith, ap length c.as_slice.ensures.value, c.as_slice.ensures.len, c.len-own.ensures, c.variables-vars.ensures.enough)) p.clauses.items c.requires.within)

pub returns : goal.returns
returns c =
    let p = c.args.posed in
    let solver = c.in_ok-solver.ensures in
    let vars = c.in_ok-add_all.ensures.vars ∙ ap (λ s. s.vars) solver in
    begun c.args.words.now c.args.aim p _ c.requires refl
    (c.in_ok-add_all.ensures.added ∙ ap (λ s. added_in s.entries ++ p.clauses.items) solver)
    refl (sym vars)
    (subst (λ (n : ℕ). length p.atoms.items ≤ n) (sym vars) (omega (arith, ap length c.as_slice.ensures.value, c.as_slice.ensures.len, c.len-own.ensures, c.variables-vars.ensures.enough)))
    (subst (λ (n : ℕ). n ≤ LARGEST) (sym vars) c.variables-vars.ensures.few)
