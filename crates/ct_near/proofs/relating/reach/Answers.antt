use Rattle.std.proofs.Common.{◌≡◌, subst, sym}
use Rattle.ct_near.{specs.Related.{HasEntry, Reaches}, proofs.Sharing.{reaches_more, reaches_weaker}}
use Rattle.ct_near.proofs.relating.reach.Goals as goal
use Rattle.ct_near.proofs.relating.reach.Goals.{then-entry-place+in_ok-ask, else-entry-place}

pub loop-preserved : goal.loop-preserved
loop-preserved c =
    let entries = c.args.index.now.entries.items in
    let old = c.args.reached.now in
    let entry = c.in-Some.entry in
    elim c.if-entry-place.branch [
      | then-entry-place+in_ok-ask w ↦
          subst (Reaches (HasEntry entries c.args.place) old) (sym w.reached-is)
          (reaches_more (HasEntry entries c.args.place) old c.loop.reached w.ask.new.reached c.loop.invariant
          (reaches_weaker (λ k. k ≡ entry.conjunct) (HasEntry entries c.args.place) c.loop.reached w.ask.new.reached
          (λ k same. record { entry = entry; among = c.in-Some.ensures; null = w.if-entry-place.true; conjunct = sym same }) w.in_ok-ask.ensures))
      | else-entry-place w ↦ subst (Reaches (HasEntry entries c.args.place) old) (sym w.reached-is) c.loop.invariant
    ]
