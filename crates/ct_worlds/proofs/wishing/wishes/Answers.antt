use Rattle.std.{proofs.Common.{◌-◌, get_or, subst, sym, arith}, specs.Prelude.{All, IfSome}, proofs.lemmas.List.Elements.{All-push, Contains-get_or}}
use Rattle.ct_word.proofs.Growth.{place_within}
use Rattle.ct_worlds.{specs.Repaired.{IsWishAt, IsWishBelow}, proofs.Drawing.wish_below}
use Rattle.ct_word.specs.declared.kinds.Class.TheVariants as class
use Rattle.ct_worlds.proofs.wishing.wishes.Goals as goal

pub wish_at-requires : goal.wish_at-requires
wish_at-requires c =
    let test = c.loop-next-test.true in
    let within = c.loop-next.invariant.within in
    let at = c.loop-next.next - 1 in
    let place = get_or c.args.places.now at 0 in
    place_within c.args.words.now class.Cond place (c.requires.places.each place (Contains-get_or c.args.places.now at 0 (omega (arith, test, within)))).condition

pub loop-next-preserved-in-Continue-branch-2 : goal.loop-next-preserved-in-Continue-branch-2
loop-next-preserved-in-Continue-branch-2 c =
    let test = c.loop-next-test.true in
    let within = c.loop-next.invariant.within in
    let words = c.args.words.now in
    let at = c.loop-next.next - 1 in
    let place = get_or c.args.places.now at 0 in
    let listed = Contains-get_or c.args.places.now at 0 (omega (arith, test, within)) in
    let wish = c.in-Some.wish in
    let is = subst (λ o. IfSome o (IsWishAt words place)) c.in-Some.is c.wish_at.ensures in
    let below = wish_below words c.args.conditions.now c.args.places.now c.requires.formed c.requires.places place listed wish is in
    record {
      wishes = subst (All (IsWishBelow words c.args.conditions.now)) (sym c.in_ok-push.ensures.items)
          (All-push (IsWishBelow words c.args.conditions.now) c.loop-next.wishes.items wish c.loop-next.invariant.wishes below);
      within = omega (arith, within);
    }
