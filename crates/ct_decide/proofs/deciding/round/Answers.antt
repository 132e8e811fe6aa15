use Rattle.std.proofs.Common.{◌<◌, ℕ, Bool, List, subst}
use Rattle.ct_trail.specs.Log.{added_in}
use Rattle.ct_sat.specs.Log.{IsModelOf}
use Rattle.ct_equality.specs.Assigned.{IsFalsePath}
use Rattle.ct_decide.{specs.Asking.{RulesOut, left}, proofs.Askings.{with_solver, only_learns, after_step, same_left}, proofs.Worlds.false_over}
use Rattle.ct_decide.proofs.deciding.round.Goals as goal

pub refuted-requires-clause-asking : goal.refuted-requires-clause-asking
refuted-requires-clause-asking c = after_step c.args.words.now c.args.aim c.args.asking.now c.step.new.self c.in_ok-step.ensures.learns c.requires.asking

pub closed-requires-clause-asking : goal.closed-requires-clause-asking
closed-requires-clause-asking c = after_step c.args.words.now c.args.aim c.args.asking.now c.step.new.self c.in_ok-step.ensures.learns c.requires.asking

pub rule_out-requires-clause-asking : goal.rule_out-requires-clause-asking
rule_out-requires-clause-asking c = after_step c.args.words.now c.args.aim c.args.asking.now c.step.new.self c.in_ok-step.ensures.learns c.requires.asking

pub rule_out-requires-clause-over : goal.rule_out-requires-clause-over
rule_out-requires-clause-over c = false_over c.args.words.now c.args.asking.now.atoms.items c.as_slice.result.now c.in-Path.path (rw c.in-Path.is at c.in_ok-world-in-Model.ensures)

pub returns : goal.returns
returns c =
    let words = c.args.words.now in
    let old = c.args.asking.now in
    let middle = with_solver old c.step.new.self in
    let new = c.rule_out.new.asking in
    let added = c.in_ok-rule_out-in-Path.ensures in
    let model : IsModelOf middle.solver.vars (added_in middle.solver.entries) c.in-Model.model = rw c.in-Model.is at c.in_ok-step.ensures.found in
    let path_false : IsFalsePath words old.atoms.items c.in-Model.model c.in-Path.path = rw (c.as_slice.ensures, c.in-Path.is) at c.in_ok-world-in-Model.ensures in
    let out = subst (λ (m : List Bool). RulesOut words c.in-Path.path m middle new) c.as_slice-in-Path.ensures added.out in (
      added.asking,
      subst (λ (n : ℕ). left new < n) (same_left old middle (only_learns old c.step.new.self c.in_ok-step.ensures.learns)) (out (record { model = model; path_false = path_false })),
    )
