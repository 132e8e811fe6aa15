use Rattle.std.{proofs.Common.{refl, sym, ◌∙◌, take, get_or, length, pos}, proofs.lemmas.List.take_more}
use Rattle.ct_trail.{specs.Assignment.falsified, proofs.Literals.literal_at, proofs.Looks.{look_on, look_opened, satisfied_at}}
use Rattle.ct_trail.proofs.look.look_at.Goals.{in-Open, in-False}
use Rattle.ct_trail.proofs.look.look_at.Goals as goal

pub loop-l-init : goal.loop-l-init
unfolding falsified
loop-l-init c = refl

pub look_up-requires-clause-within : goal.look_up-requires-clause-within
look_up-requires-clause-within c =
    literal_at (length c.args.truths.now) c.args.clause.now c.loop-l.l-index (pos 0) c.requires.within c.loop-l-test.true

pub returns-in-True : goal.returns-in-True
returns-in-True c =
    satisfied_at c.args.truths.now c.args.clause.now c.loop-l.l-index (pos 0) c.loop-l-test.true (sym c.look_up.ensures ∙ c.in-True.is)

pub loop-l-preserved : goal.loop-l-preserved
loop-l-preserved c =
    let ts = c.args.truths.now in
    let l = get_or c.args.clause.now c.loop-l.l-index (pos 0) in
    let front = take c.loop-l.l-index c.args.clause.now in
    let within = literal_at (length ts) c.args.clause.now c.loop-l.l-index (pos 0) c.requires.within c.loop-l-test.true in
    rw (take_more c.args.clause.now c.loop-l.l-index (pos 0) c.loop-l-test.true)
    (elim c.match-look_up.branch [
      | in-Open w ↦ rw (w.look-is, w.with_open-look.ensures) (look_opened ts front l c.loop-l.look c.loop-l.invariant (record { without_truth = sym c.look_up.ensures ∙ w.in-Open.is; within = within }))
      | in-False w ↦ rw w.look-is (look_on ts front l c.loop-l.look c.loop-l.invariant (sym c.look_up.ensures ∙ w.in-False.is))
    ])
