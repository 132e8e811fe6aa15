use Rattle.std.proofs.Common.{◌≡◌, ◌+◌, take, set, get_or, ap, sym, subst, ◌∙◌, arith, inl, inr}
use Rattle.std.{specs.Prelude.{IsTrue, Contains}, proofs.lemmas.Bool.cases_lt, proofs.lemmas.Result.err_from_is_err_and}
use Rattle.std.{proofs.lemmas.List.{take_all, take_more, get_or-set_other, get_or-set_same, length-set}, proofs.lemmas.List.Elements.Contains-get_or}
use Rattle.ct_word.{specs.WellFormed.is_place_of, proofs.Prefixes.{place_in_prefix, place_within}}
use Rattle.ct_condition.{proofs.OnRows.places_in_prefix, proofs.Writes.{writes_both, writes_within, writes_as}}
use Rattle.ct_worlds.specs.Shape.{shape_at, parts_of}
use Rattle.ct_operators.specs.Placing.{IsPut, step_of, steps}
use Rattle.ct_operators.proofs.Putting.{put_now, put_later, put_before, put_is, shape_later, steps_more, steps_within, number_before, of_first, among_first}
use Rattle.ct_word.specs.declared.kinds.Class.TheVariants as class
use Rattle.ct_operators.proofs.placing.on_row.Goals as goal

pub over_parts-requires-clause-cond : goal.over_parts-requires-clause-cond
over_parts-requires-clause-cond g c =
    let old = g.I.Interner.list c.args.pass.now in
    let now = g.I.Interner.list c.loop-number.pass in
    let places = c.args.places.now in
    let number = c.loop-number.number in
    let p = get_or places number 0 in
    let grown = c.loop-number.invariant.writes.longer in
    let e : IsTrue (is_place_of old class.Cond p) = c.requires.parts.first.each p (Contains-get_or places number 0 c.loop-number-test.true) in
    place_in_prefix old now class.Cond p grown e

pub over_parts-requires-clause-cells : goal.over_parts-requires-clause-cells
over_parts-requires-clause-cells g c =
    places_in_prefix _ _ c.args.cells.now c.loop-number.invariant.writes.longer c.requires.cells

pub over_parts-requires-clause-listed : goal.over_parts-requires-clause-listed
over_parts-requires-clause-listed g c =
    let old = g.I.Interner.list c.args.pass.now in
    let now = g.I.Interner.list c.loop-number.pass in
    let places = c.args.places.now in
    let number = c.loop-number.number in
    let p = get_or places number 0 in
    let grown = c.loop-number.invariant.writes.longer in
    let e : IsTrue (is_place_of old class.Cond p) = c.requires.parts.first.each p (Contains-get_or places number 0 c.loop-number-test.true) in
    let same = shape_later old now p grown (place_within old class.Cond p e) in
    λ q h. of_first places number q (c.requires.parts.first.parts number 0 q c.loop-number-test.true (subst (λ s. Contains (parts_of s) q) same h))

pub over_parts-requires-clause-put : goal.over_parts-requires-clause-put
over_parts-requires-clause-put g c =
    let old = g.I.Interner.list c.args.pass.now in
    let now = g.I.Interner.list c.loop-number.pass in
    let places = c.args.places.now in
    let number = c.loop-number.number in
    let p = get_or places number 0 in
    let grown = c.loop-number.invariant.writes.longer in
    let e : IsTrue (is_place_of old class.Cond p) = c.requires.parts.first.each p (Contains-get_or places number 0 c.loop-number-test.true) in
    let same = shape_later old now p grown (place_within old class.Cond p e) in
    λ i lt h. c.loop-number.invariant.put i lt (c.requires.parts.first.parts number 0 (get_or places i 0) c.loop-number-test.true (subst (λ s. Contains (parts_of s) (get_or places i 0)) same h))

pub returns-in_err-placed-clause-writes : goal.returns-in_err-placed-clause-writes
returns-in_err-placed-clause-writes g c =
    let old = g.I.Interner.list c.args.pass.now in
    let now = g.I.Interner.list c.loop-number.pass in
    let places = c.args.places.now in
    let number = c.loop-number.number in
    let p = get_or places number 0 in
    let grown = c.loop-number.invariant.writes.longer in
    let e : IsTrue (is_place_of old class.Cond p) = c.requires.parts.first.each p (Contains-get_or places number 0 c.loop-number-test.true) in
    let same = shape_later old now p grown (place_within old class.Cond p e) in
    let sum : steps old (take number places) + step_of (shape_at now p) ≡ steps old (take (number + 1) places) =
    ap (λ s. steps old (take number places) + step_of s) same ∙ sym (steps_more old (take number places) p) ∙ ap (steps old) (sym (take_more places number 0 c.loop-number-test.true)) in
    let few = steps_within old places (number + 1) in
    rw (err_from_is_err_and c.from_residual.result c.from_residual.ensures.1).1
    (writes_within _ (omega (arith, sum, few, c.requires.parts.short)) (writes_both c.loop-number.invariant.writes c.in_err-placed.ensures.writes))

pub loop-number-preserved : goal.loop-number-preserved
loop-number-preserved g c =
    let old = g.I.Interner.list c.args.pass.now in
    let now = g.I.Interner.list c.loop-number.pass in
    let places = c.args.places.now in
    let number = c.loop-number.number in
    let p = get_or places number 0 in
    let grown = c.loop-number.invariant.writes.longer in
    let e : IsTrue (is_place_of old class.Cond p) = c.requires.parts.first.each p (Contains-get_or places number 0 c.loop-number-test.true) in
    let same = shape_later old now p grown (place_within old class.Cond p e) in
    let sum : steps old (take number places) + step_of (shape_at now p) ≡ steps old (take (number + 1) places) =
    ap (λ s. steps old (take number places) + step_of s) same ∙ sym (steps_more old (take number places) p) ∙ ap (steps old) (sym (take_more places number 0 c.loop-number-test.true)) in
    let new = g.I.Interner.list c.over_parts.new.pass in
    let cells = c.args.cells.now in
    let put = c.loop-number.put in
    let placed = c.in_ok-placed.placed in
    let longer = c.in_ok-placed.ensures.writes.longer in
    let formed = c.loop-number.invariant.writes.formed in
    let terms = places_in_prefix old now cells grown c.requires.cells in
    record {
      put = λ i lt h.
          elim (cases_lt i number) [
            | inl less ↦
                let q = get_or places i 0 in
                let was = place_in_prefix old now class.Cond q grown (c.requires.parts.first.each q (Contains-get_or places i 0 lt)) in
                subst (IsPut new cells q) (sym (get_or-set_other put number i placed 0 (λ same. omega (arith, same, less))))
                (put_later now new longer formed cells terms q was (get_or put i 0) (c.loop-number.invariant.put i lt (among_first places number i less lt)))
            | inr more ↦
                let at : number ≡ i = omega (arith, more, number_before places (number + 1) i c.requires.parts.first.rising lt h) in
                subst (λ k. IsPut new cells (get_or places k 0) (get_or (set put number placed) k 0)) at
                (subst (IsPut new cells p) (sym (get_or-set_same put number placed 0 (omega (arith, c.loop-number.invariant.long, c.loop-number-test.true))))
                (put_now now new longer formed cells terms p (place_in_prefix old now class.Cond p grown e) placed c.in_ok-placed.ensures.holds c.in_ok-placed.ensures.terms))
          ];
      writes = writes_as sum (writes_both c.loop-number.invariant.writes c.in_ok-placed.ensures.writes);
      long = omega (arith, length-set put number placed, c.loop-number.invariant.long);
    }

pub returns-clause-holds : goal.returns-clause-holds
returns-clause-holds g c =
    let old = g.I.Interner.list c.args.pass.now in
    let now = g.I.Interner.list c.loop-number.pass in
    let places = c.args.places.now in
    let number = c.loop-number.number in
    let grown = c.loop-number.invariant.writes.longer in
    let cells = c.args.cells.now in
    let cond = c.args.cond in
    let all = take_all number places (omega (arith, c.loop-number-test.false)) in
    let put = put_is now cells places c.loop-number.put (Contains (take number places)) cond c.put_for.result c.loop-number.invariant.put (subst (λ l. Contains l cond) (sym all) c.requires.parts.among) c.put_for.ensures in
    (put_before old now grown c.words.ensures.formed cells c.requires.cells cond c.requires.cond c.put_for.result put).0

pub returns-clause-terms : goal.returns-clause-terms
returns-clause-terms g c =
    let old = g.I.Interner.list c.args.pass.now in
    let now = g.I.Interner.list c.loop-number.pass in
    let places = c.args.places.now in
    let number = c.loop-number.number in
    let grown = c.loop-number.invariant.writes.longer in
    let cells = c.args.cells.now in
    let cond = c.args.cond in
    let all = take_all number places (omega (arith, c.loop-number-test.false)) in
    let put = put_is now cells places c.loop-number.put (Contains (take number places)) cond c.put_for.result c.loop-number.invariant.put (subst (λ l. Contains l cond) (sym all) c.requires.parts.among) c.put_for.ensures in
    (put_before old now grown c.words.ensures.formed cells c.requires.cells cond c.requires.cond c.put_for.result put).1

pub returns-clause-writes : goal.returns-clause-writes
returns-clause-writes g c =
    let old = g.I.Interner.list c.args.pass.now in
    let places = c.args.places.now in
    let number = c.loop-number.number in
    let few = steps_within old places number in
    writes_within _ (omega (arith, few, c.requires.parts.short)) c.loop-number.invariant.writes
