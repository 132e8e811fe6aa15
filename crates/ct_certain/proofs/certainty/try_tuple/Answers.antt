use Rattle.std.{proofs.Common.{◌≡◌, true, length, ap, sym, subst, ◌∙◌}, specs.Prelude.All}
use Rattle.ct_word.{specs.WellFormed.is_place_of, proofs.Prefixes.place_in_prefix}
use Rattle.ct_operators.{specs.Tables.IsRow, proofs.Growing.rows_grow}
use Rattle.ct_certain.{specs.Answered.IsSettled, specs.Missing.{IsSeen, is_in_each, nothing}, proofs.Candidates.{each_own, lacked_by, missing_once, seen_later}}
use Rattle.ct_certain.proofs.Certainties.{takes_nothing, takes_one}
use Rattle.ct_word.specs.declared.kinds.Class.TheVariants as class
use Rattle.ct_certain.proofs.certainty.try_tuple.Goals as goal

pub returns-then-not-is_everywhere-clause-takes : goal.returns-then-not-is_everywhere-clause-takes
returns-then-not-is_everywhere-clause-takes g c =
    let words = g.I.Interner.list c.args.pass.now in
    let rows = c.args.table.now.rows in
    nothing (missing_once words c.args.global rows c.args.tuple.now
    (lacked_by words c.args.global rows c.args.pool.now.items c.args.tuple.now c.requires.pool (ap (λ ss. is_in_each ss c.args.tuple.now) (sym c.as_slice.ensures.value) ∙ sym c.is_everywhere.ensures ∙ c.if-not-is_everywhere.true)))

pub see-requires-clause-global : goal.see-requires-clause-global
see-requires-clause-global g c =
    let old = g.I.Interner.list c.args.pass.now in
    let new = g.I.Interner.list c.ask_tuple.new.pass in
    subst (λ ws. is_place_of ws class.Cond c.args.global ≡ true) (sym c.words-words.ensures.words) (place_in_prefix old new class.Cond c.args.global c.in_ok-root.ensures.writes.longer c.requires.asked.global_is)

pub see-requires-clause-rows : goal.see-requires-clause-rows
see-requires-clause-rows g c =
    let old = g.I.Interner.list c.args.pass.now in
    let new = g.I.Interner.list c.ask_tuple.new.pass in
    let rows = c.args.table.now.rows in
    let width = length c.args.table.now.columns in
    let later = rows_grow old new c.in_ok-root.ensures.writes.longer c.requires.asked.formed width rows c.requires.asked.rows in
    subst (λ rs. All (λ r. IsRow c.words-words.result.now (length r.cells) r) rs) (sym c.as_slice-in-World.ensures)
    (subst (λ ws. All (λ r. IsRow ws (length r.cells) r) rows) (sym c.words-words.ensures.words) (each_own new width rows later.each))

pub see-requires-clause-pool : goal.see-requires-clause-pool
see-requires-clause-pool g c =
    let old = g.I.Interner.list c.args.pass.now in
    let new = g.I.Interner.list c.ask_tuple.new.pass in
    let rows = c.args.table.now.rows in
    let later = seen_later old new c.args.global (length c.args.table.now.columns) rows c.args.tuple.now c.requires.asked c.in_ok-root.ensures.writes.longer c.args.pool.now.items c.requires.pool in
    subst (λ rs. All (IsSeen c.words-words.result.now c.args.global rs) c.args.pool.now.items) (sym c.as_slice-in-World.ensures)
    (subst (λ ws. All (IsSeen ws c.args.global rows) c.args.pool.now.items) (sym c.words-words.ensures.words) later)

pub returns-in_ok-see-in-World-clause-pool : goal.returns-in_ok-see-in-World-clause-pool
returns-in_ok-see-in-World-clause-pool g c =
    let pool = c.see.new.pool.items in
    subst (λ ws. All (IsSeen ws c.args.global c.args.table.now.rows) pool) c.words-words.ensures.words
    (subst (λ rs. All (IsSeen c.words-words.result.now c.args.global rs) pool) c.as_slice-in-World.ensures c.in_ok-see-in-World.ensures)

pub returns-in_ok-see-in-World-clause-takes : goal.returns-in_ok-see-in-World-clause-takes
returns-in_ok-see-in-World-clause-takes g c =
    let old = g.I.Interner.list c.args.pass.now in
    let new = g.I.Interner.list c.ask_tuple.new.pass in
    takes_nothing old c.args.global c.args.table.now.rows new c.args.tuple.now c.args.list.now.rows.items c.in_ok-root.root c.in-World.world
    c.in_ok-root.ensures.root (subst (IsSettled new c.in_ok-root.root) c.in-World.is c.in_ok-root.ensures.settled)

pub returns-in_ok-list_tuple-in-Refuted-clause-pool : goal.returns-in_ok-list_tuple-in-Refuted-clause-pool
returns-in_ok-list_tuple-in-Refuted-clause-pool g c =
    let old = g.I.Interner.list c.args.pass.now in
    let new = g.I.Interner.list c.ask_tuple.new.pass in
    seen_later old new c.args.global (length c.args.table.now.columns) c.args.table.now.rows c.args.tuple.now c.requires.asked c.in_ok-root.ensures.writes.longer c.args.pool.now.items c.requires.pool

pub returns-in_ok-list_tuple-in-Refuted-clause-takes : goal.returns-in_ok-list_tuple-in-Refuted-clause-takes
returns-in_ok-list_tuple-in-Refuted-clause-takes g c =
    let old = g.I.Interner.list c.args.pass.now in
    let new = g.I.Interner.list c.ask_tuple.new.pass in
    takes_one old c.args.global c.args.table.now.rows new c.args.tuple.now c.args.list.now.rows.items c.list_tuple.new.list.rows.items c.in_ok-root.root c.in-Refuted.derivation
    c.in_ok-root.ensures.root (subst (IsSettled new c.in_ok-root.root) c.in-Refuted.is c.in_ok-root.ensures.settled)
    c.in_ok-list_tuple-in-Refuted.ensures
