use Rattle.std.{proofs.Common.{◌∙◌, get_or, inl, inr, refl, subst, sym}, proofs.lemmas.List.Elements.Contains-get_or}
use Rattle.ct_word.proofs.Growth.{place_within}
use Rattle.ct_worlds.specs.Below.{AreBelow}
use Rattle.ct_word.specs.declared.kinds.Class.TheVariants as class
use Rattle.ct_near.{specs.Related.{HasEntry, Reaches, SharesOwn}, proofs.Sharing.{reaches_more, reaches_weaker, shares_own}}
use Rattle.ct_near.proofs.relating.reach_own.Goals as goal
use Rattle.ct_near.proofs.relating.reach_own.Goals.{in-Equal+in_ok-reach+in_ok-reach-2, in_default}

pub shape_at-requires : goal.shape_at-requires
shape_at-requires c =
    let words = c.args.words.now in
    let places = c.as_slice-places.result.now in
    let are = subst (AreBelow words c.args.own.now) (sym c.as_slice-places.ensures.value) c.in_ok-below.ensures in
    let place = get_or places c.loop-place.place-index 0 in
    place_within words class.Cond place (are.each place (Contains-get_or places c.loop-place.place-index 0 c.loop-place-test.true)).condition

pub loop-place-preserved : goal.loop-place-preserved
loop-place-preserved c =
    let words = c.args.words.now in
    let own = c.args.own.now in
    let entries = c.args.index.now.entries.items in
    let old = c.args.reached.now in
    let mid = c.loop-place.reached in
    let places = c.as_slice-places.result.now in
    let place = get_or places c.loop-place.place-index 0 in
    let are = subst (AreBelow words own) (sym c.as_slice-places.ensures.value) c.in_ok-below.ensures in
    let below = are.each place (Contains-get_or places c.loop-place.place-index 0 c.loop-place-test.true) in
    elim c.match-shape_at.branch [
      | in-Equal+in_ok-reach+in_ok-reach-2 w ↦
          let a = w.in-Equal.left in
          let b = w.in-Equal.right in
          let is = sym c.shape_at.ensures ∙ w.in-Equal.is in
          let one = w.reach.new.reached in
          let two = w.reach-in-Equal.new.reached in
          subst (Reaches (SharesOwn words own entries) old) (sym w.reached-is)
          (reaches_more (SharesOwn words own entries) old one two
          (reaches_more (SharesOwn words own entries) old mid one c.loop-place.invariant
          (reaches_weaker (HasEntry entries a) (SharesOwn words own entries) mid one (shares_own words own entries place a b a below is (inl refl)) w.in_ok-reach.ensures))
          (reaches_weaker (HasEntry entries b) (SharesOwn words own entries) one two (shares_own words own entries place a b b below is (inr refl)) w.in_ok-reach-2.ensures))
      | in_default w ↦ subst (Reaches (SharesOwn words own entries) old) (sym w.reached-is) c.loop-place.invariant
    ]
