use Rattle.std.proofs.Common.{◌≡◌, ◌<◌, ◌+◌, ◌∙◌, min, get_or, length, subst, sym, arith}
use Rattle.ct_join.proofs.Walk.{IsWalk, walk_done, walk_ends, walk_more, constant_at, place_past}
use Rattle.ct_join.proofs.finding.find_constant.Goals.{then-null-place, else-null-place}
use Rattle.ct_join.proofs.finding.find_constant.Goals as goal

pub returns-then-place-end : goal.returns-then-place-end
returns-then-place-end c =
    let is : c.min-place.result ≡ min c.loop-at.constant (get_or c.args.nulls.now c.loop-at.index (length c.args.keys.now)) = omega (arith, c.min-place.ensures, c.null_at-null.ensures) in
    walk_ends c.args.number c.args.keys.now c.args.nulls.now c.args.found.now.items c.loop-at.found.items c.loop-at.at c.loop-at.constant c.loop-at.index c.loop-at.invariant c.min-place.result is
    c.if-place-end.true

pub number_past-constant-requires-clause-first : goal.number_past-constant-requires-clause-first
number_past-constant-requires-clause-first c =
    let is : c.min-place.result ≡ min c.loop-at.constant (get_or c.args.nulls.now c.loop-at.index (length c.args.keys.now)) = omega (arith, c.min-place.ensures, c.null_at-null.ensures) in
    constant_at c.args.number c.args.keys.now c.args.nulls.now c.args.found.now.items c.loop-at.found.items c.loop-at.at c.loop-at.constant c.loop-at.index c.loop-at.invariant c.min-place.result is

pub loop-at-smaller : goal.loop-at-smaller
loop-at-smaller c =
    let is : c.min-place.result ≡ min c.loop-at.constant (get_or c.args.nulls.now c.loop-at.index (length c.args.keys.now)) = omega (arith, c.min-place.ensures, c.null_at-null.ensures) in
    let past = place_past c.args.number c.args.keys.now c.args.nulls.now c.args.found.now.items c.loop-at.found.items c.loop-at.at c.loop-at.constant c.loop-at.index c.loop-at.invariant c.min-place.result is in
    omega (arith, c.loop-at-test.true, past)

pub loop-at-preserved : goal.loop-at-preserved
loop-at-preserved c =
    let n = c.args.number in
    let keys = c.args.keys.now in
    let nulls = c.args.nulls.now in
    let was = c.args.found.now.items in
    let now = c.loop-at.found.items in
    let place = c.min-place.result in
    let null = get_or nulls c.loop-at.index (length keys) in
    let is : place ≡ min c.loop-at.constant null = omega (arith, c.min-place.ensures, c.null_at-null.ensures) in
    let lt : place < length keys = omega (arith, is, c.loop-at.invariant.later.within, c.if-place-end.false) in
    subst (λ l. IsWalk n keys nulls was l (place + 1) c.number_past-constant.result c.if-null-place.index) (sym c.in_ok-push.ensures.items)
    (elim c.if-null-place.branch [
      | then-null-place w ↦
          walk_more n keys nulls was now c.loop-at.at c.loop-at.constant c.loop-at.index c.loop-at.invariant place c.number_past-constant.result c.if-null-place.index is lt c.number_past-constant.ensures
          (λ here. w.index-is) (λ other. absurd (other (sym c.null_at-null.ensures ∙ w.if-null-place.true)))
      | else-null-place w ↦
          walk_more n keys nulls was now c.loop-at.at c.loop-at.constant c.loop-at.index c.loop-at.invariant place c.number_past-constant.result c.if-null-place.index is lt c.number_past-constant.ensures
          (λ here. absurd (w.if-null-place.false (c.null_at-null.ensures ∙ here))) (λ other. w.index-is)
    ])

pub returns : goal.returns
returns c =
    walk_done c.args.number c.args.keys.now c.args.nulls.now c.args.found.now.items c.loop-at.found.items c.loop-at.at c.loop-at.constant c.loop-at.index c.loop-at.invariant
    (omega (arith, c.loop-at-test.false))
