use Rattle.std.proofs.Common.{◌<◌, ap, ◌∙◌, length, get_or, arith}
use Rattle.ct_trail.specs.Literal.{is_clause}
use Rattle.ct_sat.{specs.Log.State, proofs.Verdicts.{item_within, given_more}}
use Rattle.ct_sat.proofs.solving.make.Goals as goal

pub add-requires : goal.add-requires
add-requires c =
    let items = c.as_slice-clause-items.ensures in
    let lt : c.loop-clause.clause-index < length c.args.cnf.now.clauses = omega (arith, ap length items) in
    ap (λ (s : State). is_clause s.vars c.in_ok-copy.field-0) c.loop-clause.invariant ∙ ap (is_clause c.args.cnf.now.vars) c.in_ok-copy.ensures
    ∙ item_within c.args.cnf.now.vars c.args.cnf.now.clauses c.loop-clause.clause-index c.clause-item.result c.requires.clauses lt
    (c.clause-item.is ∙ ap (λ x. get_or x c.loop-clause.clause-index c.clause-item.result) items)

pub loop-clause-preserved : goal.loop-clause-preserved
loop-clause-preserved c =
    let items = c.as_slice-clause-items.ensures in
    let lt : c.loop-clause.clause-index < length c.args.cnf.now.clauses = omega (arith, ap length items) in
    given_more c.loop-clause.solver c.add.new.self c.args.cnf.now.vars c.args.cnf.now.clauses c.loop-clause.clause-index c.clause-item.result c.in_ok-copy.field-0 c.loop-clause.invariant lt
    (c.clause-item.is ∙ ap (λ x. get_or x c.loop-clause.clause-index c.clause-item.result) items) c.in_ok-copy.ensures c.in_ok-add.ensures.added
