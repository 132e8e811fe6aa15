use Rattle.ct_trail.proofs.Boards.{few, within, put_on, put_is, put_worth}
use Rattle.ct_trail.proofs.board.Board.put.Goals as goal

pub put_last-requires-clause-vars : goal.put_last-requires-clause-vars
put_last-requires-clause-vars c = few c.args.self.now c.self.inside.vars c.self.inside.top c.self.inside.entries.items c.self.inside.trail.items c.self.inside.truths.items c.self.view_is c.self.invariant

pub put_last-requires-clause-within : goal.put_last-requires-clause-within
put_last-requires-clause-within c = within c.args.self.now c.self.inside.vars c.self.inside.top c.self.inside.entries.items c.self.inside.trail.items c.self.inside.truths.items c.self.view_is c.self.invariant c.args.literal.now c.requires.within

pub invariant_of-self-2 : goal.invariant_of-self-2
invariant_of-self-2 c =
    put_on c.args.self.now c.self.inside.vars c.self.inside.top c.self.inside.entries.items c.self.inside.trail.items c.self.inside.truths.items c.self.view_is c.self.invariant c.args.literal.now c.args.reason c.put_last.new.trail.items c.put_last.new.truths.items c.requires.by c.requires.within c.in_ok-put_last.ensures.trail c.in_ok-put_last.ensures.truths

pub returns-clause-is : goal.returns-clause-is
returns-clause-is c = put_is c.args.self.now c.self.inside.vars c.self.inside.top c.self.inside.entries.items c.self.inside.trail.items c.self.inside.truths.items c.self.view_is c.self.invariant c.args.literal.now c.args.reason c.put_last.new.trail.items c.in_ok-put_last.ensures.trail

pub returns-clause-worth : goal.returns-clause-worth
returns-clause-worth c = put_worth c.args.self.now c.self.inside.vars c.self.inside.top c.self.inside.entries.items c.self.inside.trail.items c.self.inside.truths.items c.self.view_is c.self.invariant c.args.literal.now c.args.reason c.put_last.new.trail.items c.requires.by c.in_ok-put_last.ensures.trail
