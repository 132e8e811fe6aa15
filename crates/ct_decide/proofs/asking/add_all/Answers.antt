use Rattle.std.{proofs.Common.{◌≡◌, ◌++◌, true, length, ap, ◌∙◌, sym, subst, arith}, proofs.lemmas.Bool.and_parts, specs.List.list_all}
use Rattle.std.specs.Vec.Iter.{into_iter_items}
use Rattle.ct_derivation.specs.Variables.{is_clause}
use Rattle.ct_trail.specs.Log.{added_in}
use Rattle.ct_decide.proofs.Askings.{added_one}
use Rattle.ct_decide.proofs.asking.add_all.Goals as goal

pub add-requires : goal.add-requires
add-requires c =
    let i = c.loop-clause.invariant in
    let steps = c.in-Some.ensures.steps in
    let all = subst (λ cs. list_all (is_clause c.args.solver.now.vars) cs ≡ true) steps.0 i.within in
    subst (λ n. is_clause n c.in-Some.clause ≡ true) (sym i.vars) (and_parts (is_clause c.args.solver.now.vars c.in-Some.clause) _ all).0

pub loop-clause-preserved : goal.loop-clause-preserved
loop-clause-preserved c =
    let i = c.loop-clause.invariant in
    let steps = c.in-Some.ensures.steps in
    let all = subst (λ cs. list_all (is_clause c.args.solver.now.vars) cs ≡ true) steps.0 i.within in
    let new = c.in_ok-add.ensures.added in
    record {
      vars = ap (λ s. s.vars) new ∙ i.vars;
      added =
          ap (λ s. added_in s.entries ++ into_iter_items c.next.new.self) new
          ∙ added_one c.loop-clause.solver.entries c.in-Some.clause (into_iter_items c.next.new.self)
          ∙ ap (λ cs. added_in c.loop-clause.solver.entries ++ cs) (sym steps.0) ∙ i.added;
      within = (and_parts (is_clause c.args.solver.now.vars c.in-Some.clause) _ all).1;
      count = omega (arith, i.count, steps.1, ap (λ l. length l) steps.0);
    }
