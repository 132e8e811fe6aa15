use Rattle.std.proofs.Common.{ap, ◌∙◌, sym, length, arith}
use Rattle.ct_trail.{specs.Literal.is_literal, specs.Standing.Standing, proofs.Boards.{few, within_top, open_here}}
use Rattle.ct_trail.proofs.board.Board.is_open.Goals as goal

pub look_up-requires-clause-vars : goal.look_up-requires-clause-vars
look_up-requires-clause-vars c = omega (arith, few c.args.self.now c.self.inside.vars c.self.inside.top c.self.inside.entries.items c.self.inside.trail.items c.self.inside.truths.items c.self.view_is c.self.invariant, ap length c.as_slice.ensures.value)

pub look_up-requires-clause-within : goal.look_up-requires-clause-within
look_up-requires-clause-within c =
    ap (λ x. is_literal (length x) c.args.literal.now) c.as_slice.ensures.value ∙ within_top c.args.self.now c.self.inside.vars c.self.inside.top c.self.inside.entries.items c.self.inside.trail.items c.self.inside.truths.items c.self.view_is c.self.invariant c.args.literal.now (sym c.is_within.ensures ∙ c.if-not-is_within.false)

pub returns-in-Open-clause-without_truth : goal.returns-in-Open-clause-without_truth
returns-in-Open-clause-without_truth c = λ e.
    open_here c.args.self.now c.self.inside.vars c.self.inside.top c.self.inside.entries.items c.self.inside.trail.items c.self.inside.truths.items c.self.view_is c.self.invariant c.args.literal.now c.as_slice.result.now c.as_slice.ensures.value (sym c.look_up.ensures ∙ c.in-Open.is) (sym c.is_within.ensures ∙ c.if-not-is_within.false)

pub returns-in-Open-clause-within : goal.returns-in-Open-clause-within
returns-in-Open-clause-within c = λ e.
    ap (λ (s : Standing). is_literal s.top c.args.literal.now) (sym c.self.view_is) ∙ sym c.is_within.ensures ∙ c.if-not-is_within.false
