use Rattle.std.proofs.Common.{◌≡◌, ◌∙◌, ◌++◌, ◌∷◌, [], length, ap, sym, arith}
use Rattle.ct_equality.proofs.Trees.{exploring_none, explored_more, single}
use Rattle.ct_equality.proofs.Rooms.{few}
use Rattle.ct_equality.proofs.paths.explore.Goals as goal

pub push-requires-clause-room : goal.push-requires-clause-room
push-requires-clause-room c =
    let atoms = c.args.atoms.now in
    let truth = c.args.truth.now in
    let root = c.args.root in
    let made = c.in_ok-make.ensures in
    omega (arith, few atoms truth (root ∷ []) (0 ∷ []) (single atoms truth root c.requires.root), c.requires.count, ap (λ x. length x.words) made, ap (λ x. x.room) made)

pub loop-at-init : goal.loop-at-init
loop-at-init c =
    let made = c.in_ok-make.ensures in
    let root = c.args.root in
    let room_is : c.push.new.self.room ≡ c.args.count = ap (λ x. x.room) c.push.ensures ∙ ap (λ x. x.room) made in
    record {
      exploring = rw (c.in_ok-vec.ensures.items, c.in_ok-vec-2.ensures.items) (exploring_none c.args.atoms.now c.args.truth.now root c.requires.root);
      room = record {
        same = ap (λ x. x.words) c.push.ensures ∙ ap (λ l. l ++ root ∷ []) (ap (λ x. x.words) made) ∙ sym c.in_ok-vec.ensures.items;
        enough = omega (arith, room_is, c.requires.count);
        short = omega (arith, room_is, c.ranges.count.fits);
      };
    }

pub loop-at-preserved : goal.loop-at-preserved
loop-at-preserved c =
    let grown = c.in_ok-grow.ensures in
    let inv = c.loop-at.invariant in
    record {
      exploring = explored_more c.args.atoms.now c.args.truth.now c.args.root c.loop-at.at c.loop-at.tree.places.items c.loop-at.tree.origins.items _ _ inv.exploring (omega (arith, c.len.ensures, c.loop-at.tree.places.ok.0, c.loop-at-test.true))
          grown.tree grown.extends grown.reached;
      room = grown.room;
    }

pub loop-at-smaller : goal.loop-at-smaller
loop-at-smaller c =
    omega (arith, few c.args.atoms.now c.args.truth.now c.loop-at.tree.places.items c.loop-at.tree.origins.items c.loop-at.invariant.exploring.tree, c.len.ensures, c.loop-at.tree.places.ok.0, c.loop-at-test.true)
