use Rattle.std.proofs.Common.{ap, ◌∙◌, subst, arith, length}
use Rattle.ct_trail.{specs.Literal.{Clause, is_clause}, specs.Look.LookOf, proofs.Boards.{few, look_here, seen_here}}
use Rattle.ct_trail.proofs.board.Board.look.Goals as goal

pub look_at-requires-clause-vars : goal.look_at-requires-clause-vars
look_at-requires-clause-vars c = omega (arith, few c.args.self.now c.self.inside.vars c.self.inside.top c.self.inside.entries.items c.self.inside.trail.items c.self.inside.truths.items c.self.view_is c.self.invariant, ap length c.as_slice.ensures.value)

pub look_at-requires-clause-within : goal.look_at-requires-clause-within
look_at-requires-clause-within c =
    ap (λ x. is_clause (length x) c.clause.result.now) c.as_slice.ensures.value ∙ ap (is_clause (length c.self.inside.truths.items)) c.clause.ensures
    ∙ look_here c.args.self.now c.self.inside.vars c.self.inside.top c.self.inside.entries.items c.self.inside.trail.items c.self.inside.truths.items c.self.view_is c.self.invariant c.args.k c.index.result.now (omega arith) c.index.ensures

pub returns : goal.returns
returns c =
    seen_here c.args.self.now c.self.inside.vars c.self.inside.top c.self.inside.entries.items c.self.inside.trail.items c.self.inside.truths.items c.self.view_is c.self.invariant c.args.k c.index.result.now c.as_slice.result.now c.look_at.result (omega arith) c.index.ensures c.as_slice.ensures.value
    (subst (λ (x : Clause). LookOf c.as_slice.result.now x c.look_at.result) c.clause.ensures c.look_at.ensures)
