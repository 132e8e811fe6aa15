use Rattle.std.{proofs.Common.{refl, subst, sym}, specs.Prelude.{Contains, IfSome}}
use Rattle.ct_near.{specs.Related.{HasEntry, Reaches, SharesWith}, proofs.Sharing.{reaches_more, reaches_weaker}}
use Rattle.ct_near.proofs.relating.reach_from.Goals as goal
use Rattle.ct_near.proofs.relating.reach_from.Goals.{in-Some+then-entry-conjunct+in_ok-reach, in-Some+else-entry-conjunct, in_default}

pub loop-number-preserved : goal.loop-number-preserved
loop-number-preserved c =
    let entries = c.args.index.now.entries.items in
    let conjunct = c.args.conjunct in
    let old = c.args.reached.now in
    let mid = c.loop-number.reached in
    elim c.match-entry_with.branch [
      | in-Some+then-entry-conjunct+in_ok-reach w ↦
          let entry = w.in-Some.entry in
          let among = subst (λ o. IfSome o (λ e. Contains entries e)) w.in-Some.is c.entry_with.ensures in
          subst (Reaches (SharesWith entries conjunct) old) (sym w.reached-is)
          (reaches_more (SharesWith entries conjunct) old mid w.reach.new.reached c.loop-number.invariant
          (reaches_weaker (HasEntry entries entry.null) (SharesWith entries conjunct) mid w.reach.new.reached
          (λ k has. record { place = entry.null; one = record { entry = entry; among = among; null = refl; conjunct = w.if-entry-conjunct.true }; other = has }) w.in_ok-reach.ensures))
      | in-Some+else-entry-conjunct w ↦ subst (Reaches (SharesWith entries conjunct) old) (sym w.reached-is) c.loop-number.invariant
      | in_default w ↦ subst (Reaches (SharesWith entries conjunct) old) (sym w.reached-is) c.loop-number.invariant
    ]
