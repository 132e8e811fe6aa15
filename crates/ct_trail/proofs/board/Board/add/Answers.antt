use Rattle.std.proofs.Common.{ap, ◌∙◌, sym, subst}
use Rattle.ct_trail.{specs.Literal.{is_clause, LARGEST}, specs.Standing.IsStanding, proofs.Logs.clause_wider, proofs.Boards.added_on}
use Rattle.ct_trail.proofs.board.Board.add.Goals as goal

pub greatest-requires : goal.greatest-requires
greatest-requires c =
    let s : IsStanding c.args.self.now = subst IsStanding c.self.view_is c.self.invariant.0 in
    clause_wider c.args.self.now.vars LARGEST c.as_slice.result.now s.vars (ap (is_clause c.args.self.now.vars) c.as_slice.ensures ∙ c.requires)

pub invariant_of-self-2 : goal.invariant_of-self-2
invariant_of-self-2 c =
    added_on c.args.self.now c.self.inside.vars c.self.inside.top c.self.inside.entries.items c.self.inside.trail.items c.self.inside.truths.items c.self.view_is c.self.invariant c.args.clause c.greatest.result c.push.new.self.items c.greater-top.result c.requires
    (ap (is_clause c.greatest.result) (sym c.as_slice.ensures) ∙ c.greatest.ensures.within)
    (λ k e. c.greatest.ensures.least k (ap (is_clause k) c.as_slice.ensures ∙ e))
    c.greater-top.ensures c.in_ok-push.ensures.items
