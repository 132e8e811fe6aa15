use Rattle.std.proofs.Common.{◌≡◌, true, ap, sym, ◌∙◌, subst, length}
use Rattle.ct_trail.specs.{Literal.{numbered, is_clause}, Log.clauses_in, Learning.IsReturnOf, Analysis.AreWithin, Marks.kept_of}
use Rattle.ct_trail.proofs.{Lessons.lesson_follows, Returns.kept_within, Trails.within_of}
use Rattle.ct_derivation.specs.Propagation.{follows}
use Rattle.ct_trail.proofs.learning.learn_by.Goals as goal

pub kept-requires-clause-trail : goal.kept-requires-clause-trail
kept-requires-clause-trail c =
    subst (λ n. AreWithin n c.args.trail.now) (sym c.analyse-back.auto.marks) (within_of (clauses_in c.args.entries.now) (length c.args.marks.now) c.args.trail.now c.requires.trail)

pub reasons-requires-clause-trail : goal.reasons-requires-clause-trail
reasons-requires-clause-trail c =
    subst (λ n. AreWithin n c.args.trail.now) (sym c.analyse-back.auto.marks) (within_of (clauses_in c.args.entries.now) (length c.args.marks.now) c.args.trail.now c.requires.trail)

pub returns : goal.returns
returns c =
    let vars = length c.args.marks.now in
    let log = clauses_in c.args.entries.now in
    let trail = c.args.trail.now in
    let marks = c.analyse-back.new.marks in
    let lesson : follows numbered log (kept_of marks trail) c.in_ok-hints.hints.items ≡ true =
    ap (follows numbered log (kept_of marks trail)) c.in_ok-hints.ensures
    ∙ lesson_follows log marks c.args.conflict c.requires.falsified.place vars trail c.requires.trail c.analyse-back.ensures.closed c.analyse-back.ensures.marked c.requires.falsified.none in
    record {
      follows = ap (λ x. follows numbered log x c.in_ok-hints.hints.items) c.in_ok-clause.ensures ∙ lesson;
      within = ap (is_clause vars) c.in_ok-clause.ensures ∙ kept_within marks vars trail (within_of log vars trail c.requires.trail).each;
      returns = subst (λ x. IsReturnOf vars trail x c.analyse-back.result) (sym c.in_ok-clause.ensures) c.analyse-back.ensures.returns;
    }
