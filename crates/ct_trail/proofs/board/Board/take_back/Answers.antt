use Rattle.ct_trail.proofs.Boards.{few, last_here, taken}
use Rattle.ct_trail.proofs.board.Board.take_back.Goals as goal

pub take_last-requires-clause-vars : goal.take_last-requires-clause-vars
take_last-requires-clause-vars c = few c.args.self.now c.self.inside.vars c.self.inside.top c.self.inside.entries.items c.self.inside.trail.items c.self.inside.truths.items c.self.view_is c.self.invariant

pub take_last-requires-clause-within : goal.take_last-requires-clause-within
take_last-requires-clause-within c = last_here c.args.self.now c.self.inside.vars c.self.inside.top c.self.inside.entries.items c.self.inside.trail.items c.self.inside.truths.items c.self.view_is c.self.invariant

pub invariant_of-self : goal.invariant_of-self
invariant_of-self c =
    let done = taken c.args.self.now c.self.inside.vars c.self.inside.top c.self.inside.entries.items c.self.inside.trail.items c.self.inside.truths.items c.self.view_is c.self.invariant c.take_last.new.trail.items c.take_last.new.truths.items c.take_last.ensures in (done.0, done.1)

pub returns : goal.returns
returns c = (taken c.args.self.now c.self.inside.vars c.self.inside.top c.self.inside.entries.items c.self.inside.trail.items c.self.inside.truths.items c.self.view_is c.self.invariant c.take_last.new.trail.items c.take_last.new.truths.items c.take_last.ensures).2
