use Rattle.ct_trail.{specs.declared.log.Rup.Rup, proofs.Boards.{top_in, trail_of, false_of, learned_on, learned_is}}
use Rattle.ct_trail.proofs.board.Board.learn.Goals as goal

pub learn_from-requires : goal.learn_from-requires
learn_from-requires c = record {
  top = top_in c.args.self.now c.self.inside.vars c.self.inside.top c.self.inside.entries.items c.self.inside.trail.items c.self.inside.truths.items c.self.view_is c.self.invariant;
  trail = trail_of c.args.self.now c.self.inside.vars c.self.inside.top c.self.inside.entries.items c.self.inside.trail.items c.self.inside.truths.items c.self.view_is c.self.invariant c.as_slice.result.now c.as_slice-2.result.now c.as_slice.ensures.value c.as_slice-2.ensures.value;
  falsified = false_of c.args.self.now c.self.inside.vars c.self.inside.top c.self.inside.entries.items c.self.inside.trail.items c.self.inside.truths.items c.self.view_is c.self.invariant c.as_slice.result.now c.as_slice-2.result.now c.as_slice.ensures.value c.as_slice-2.ensures.value c.args.k c.requires;
}

pub invariant_of-self-2 : goal.invariant_of-self-2
invariant_of-self-2 c =
    let step : Rup = record { clause = c.from_vec-clause.result; hints = c.from_vec-hints.result } in (
      learned_on c.args.self.now c.self.inside.vars c.self.inside.top c.self.inside.entries.items c.self.inside.trail.items c.self.inside.truths.items c.self.view_is c.self.invariant c.as_slice.result.now c.as_slice-2.result.now c.as_slice.ensures.value c.as_slice-2.ensures.value c.in_ok-lesson.lesson c.in_ok-lesson.ensures step c.from_vec-clause.ensures c.from_vec-hints.ensures c.push.new.self.items c.in_ok-push.ensures.items,
      c.self.invariant.1,
    )

pub returns-clause-ok : goal.returns-clause-ok
returns-clause-ok c =
    let step : Rup = record { clause = c.from_vec-clause.result; hints = c.from_vec-hints.result } in
    learned_is c.args.self.now c.self.inside.vars c.self.inside.top c.self.inside.entries.items c.self.inside.trail.items c.self.inside.truths.items c.self.view_is c.self.invariant c.as_slice.result.now c.as_slice-2.result.now c.as_slice.ensures.value c.as_slice-2.ensures.value c.in_ok-lesson.lesson c.in_ok-lesson.ensures step c.from_vec-clause.ensures c.from_vec-hints.ensures c.push.new.self.items c.in_ok-push.ensures.items
