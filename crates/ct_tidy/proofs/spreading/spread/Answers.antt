use Rattle.std.{proofs.Common.{◌≡◌, ◌∙◌, ◌+◌, ◌-◌, ◌<◌, length, get_or, true, false, refl, ap, sym, arith}, proofs.lemmas.Option.slice_get-get_or}
use Rattle.ct_tidy.{specs.Marks.is_marked, specs.Spread.places_in_table, proofs.Counted.{own_value, spread_counted, spread_nulls, spread_once, spreading_first, spreading_skip, spreading_turn}}
use Rattle.ct_tidy.proofs.spreading.spread.Goals as goal

pub loop-place-init : goal.loop-place-init
loop-place-init c =
    let words = c.args.words.now in
    spreading_first words c.requires.formed (places_in_table c.args.global c.args.rows.now) (length words) c.in_ok-marks.marks.items c.new-world.result.items c.in_ok-marks.ensures c.new-world.ensures.items refl

pub spread_at-requires-clause-room : goal.spread_at-requires-clause-room
spread_at-requires-clause-room c = omega (arith, c.loop-place.invariant.short, c.loop-place-test.true, c.requires.small)

pub loop-place-preserved-in-Continue-branch-2 : goal.loop-place-preserved-in-Continue-branch-2
loop-place-preserved-in-Continue-branch-2 c =
    let words = c.args.words.now in
    let i = c.loop-place.place - 1 in
    let next : i + 1 ≡ c.loop-place.place = omega (arith, c.loop-place-test.true) in
    let lt : i < length words = omega (arith, c.loop-place-test.true, c.loop-place.invariant.short) in
    let marked : is_marked c.loop-place.marks.items i ≡ true = ap (λ ms. is_marked ms i) (sym c.as_slice.ensures.value) ∙ sym c.is_marked.ensures ∙ c.if-is_marked.true in
    spreading_turn words c.requires.formed (places_in_table c.args.global c.args.rows.now) c.loop-place.place i next c.loop-place.marks.items c.loop-place.world.items c.loop-place.invariant
    (get_or words i 0) c.mark_parts.new.marks.items c.spread_at.new.world.items (slice_get-get_or words i 0 lt) marked c.mark_parts.ensures c.in_ok-spread_at.ensures

pub loop-place-preserved : goal.loop-place-preserved
loop-place-preserved c =
    let i = c.loop-place.place - 1 in
    let next : i + 1 ≡ c.loop-place.place = omega (arith, c.loop-place-test.true) in
    let not_marked : is_marked c.loop-place.marks.items i ≡ false = ap (λ ms. is_marked ms i) (sym c.as_slice.ensures.value) ∙ sym c.is_marked.ensures ∙ c.if-is_marked.false in
    spreading_skip c.args.words.now c.requires.formed (places_in_table c.args.global c.args.rows.now) c.loop-place.place i next c.loop-place.marks.items c.loop-place.world.items c.loop-place.invariant not_marked

pub returns-clause-nulls : goal.returns-clause-nulls
returns-clause-nulls c =
    spread_nulls c.args.words.now c.requires.formed (places_in_table c.args.global c.args.rows.now) c.loop-place.place c.loop-place.marks.items c.loop-place.world.items c.from_vec.result c.from_vec.ensures c.loop-place.invariant
    (omega (arith, c.loop-place-test.false))

pub returns-clause-apart : goal.returns-clause-apart
returns-clause-apart c = λ n listed.
    own_value c.from_vec.result (spread_counted c.args.words.now c.requires.formed (places_in_table c.args.global c.args.rows.now) c.loop-place.place c.loop-place.marks.items c.loop-place.world.items c.from_vec.result c.from_vec.ensures c.loop-place.invariant) n listed

pub returns-clause-numbered : goal.returns-clause-numbered
returns-clause-numbered c =
    spread_counted c.args.words.now c.requires.formed (places_in_table c.args.global c.args.rows.now) c.loop-place.place c.loop-place.marks.items c.loop-place.world.items c.from_vec.result c.from_vec.ensures c.loop-place.invariant

pub returns-clause-once : goal.returns-clause-once
returns-clause-once c =
    spread_once c.args.words.now c.requires.formed (places_in_table c.args.global c.args.rows.now) c.loop-place.place c.loop-place.marks.items c.loop-place.world.items c.from_vec.result c.from_vec.ensures c.loop-place.invariant

pub returns-clause-short : goal.returns-clause-short
returns-clause-short c = omega (arith, ap length c.from_vec.ensures, c.loop-place.invariant.short, c.requires.small)
