use Rattle.std.{proofs.Common.{◌+◌, [], ◌∷◌, ◌++◌, ◌≡◌, ◌∙◌, length, map, take, refl, ap, sym, subst, arith}, specs.Prelude.All}
use Rattle.std.{proofs.lemmas.List.{take_all, append-nil, append_assoc, map_more, length-map}, proofs.lemmas.List.Elements.{All-get_or}, proofs.lemmas.Result.err_from_is_err_and}
use Rattle.ct_word.specs.declared.values.CRow.{CRow}
use Rattle.ct_condition.proofs.Writes.{writes_none, writes_within, writes_more, writes_last}
use Rattle.ct_operators.{specs.Tables.IsRow, specs.Merging.AreGathered, specs.Projection.picked_row, proofs.Gathered.known_once}
use Rattle.ct_algebra.{specs.Picking.HasCells, proofs.Picks.{picked_is, has_later}}
use Rattle.ct_algebra.proofs.picking.gather.Goals.{After-words-in-loop-row}
use Rattle.ct_algebra.proofs.picking.gather.Goals as goal

-- the row of a turn
this : (g : _) (c : After-words-in-loop-row g) → HasCells (g.I.Interner.list c.loop-row.pass) c.args.columns.now c.row-item.result
this g c =
    has_later (g.I.Interner.list c.args.pass.now) (g.I.Interner.list c.loop-row.pass) c.args.columns.now c.row-item.result c.loop-row.invariant.writes.longer c.words.ensures.formed
    (subst (HasCells (g.I.Interner.list c.args.pass.now) c.args.columns.now) (sym c.row-item.is)
    (All-get_or (HasCells (g.I.Interner.list c.args.pass.now) c.args.columns.now) c.args.rows.now c.loop-row.row-index c.row-item.result c.loop-row-test.true c.requires.rows))

pub loop-row-init : goal.loop-row-init
loop-row-init g c = record {
  gathers = λ done so_far. subst (λ d. AreGathered (g.I.Interner.list c.args.pass.now) (length c.args.columns.now) d c.args.gathering.now) (sym (append-nil done)) so_far;
  writes = writes_none _ c.words.ensures.formed c.words.ensures.room;
}

pub pick-requires : goal.pick-requires
pick-requires g c = (this g (goal.at.pick-requires g c).After-words-in-loop-row).1

pub add-requires-clause-rows : goal.add-requires-clause-rows
add-requires-clause-rows g c =
    subst (λ n. All (IsRow (g.I.Interner.list c.loop-row.pass) n) c.loop-row.gathering) (sym (ap (λ (r : CRow). length r.cells) c.in_ok-some.ensures ∙ length-map c.args.columns.now _))
    (c.loop-row.invariant.gathers c.requires.gathered.0 c.requires.gathered.1).gathers.each

pub add-requires-clause-row : goal.add-requires-clause-row
add-requires-clause-row g c =
    let ks = c.args.columns.now in
    let now = g.I.Interner.list c.loop-row.pass in
    let is = picked_is now ks c.row-item.result (this g (goal.at.add-requires-clause-row g c).After-words-in-loop-row) in
    subst (λ (r : CRow). IsRow now (length r.cells) r) (sym c.in_ok-some.ensures)
    (record { terms = is.terms; condition = is.condition; width_is = refl; plain = is.plain })

pub loop-row-preserved : goal.loop-row-preserved
loop-row-preserved g c =
    let old = g.I.Interner.list c.args.pass.now in
    let now = g.I.Interner.list c.loop-row.pass in
    let new = g.I.Interner.list c.add.new.pass in
    let ks = c.args.columns.now in
    let rows = c.args.rows.now in
    let i = c.loop-row.row-index in
    let r = c.row-item.result in
    let some = c.in_ok-some.some in
    let wide : length some.cells ≡ length ks = ap (λ (r : CRow). length r.cells) c.in_ok-some.ensures ∙ length-map ks _ in
    let more : map (picked_row ks) (take i rows) ++ some ∷ [] ≡ map (picked_row ks) (take (i + 1) rows) =
    ap (λ x. map (picked_row ks) (take i rows) ++ x ∷ []) (c.in_ok-some.ensures ∙ ap (picked_row ks) c.row-item.is) ∙ sym (map_more (picked_row ks) rows i r c.loop-row-test.true) in
    record {
      gathers = λ done so_far.
          let before = done ++ map (picked_row ks) (take i rows) in
          subst (λ d. AreGathered new (length ks) d c.add.new.self) (append_assoc done (map (picked_row ks) (take i rows)) (some ∷ []) ∙ ap (λ l. done ++ l) more)
          (subst (λ n. AreGathered new n (before ++ some ∷ []) c.add.new.self) wide
          (c.in_ok-add.ensures.gathers before (subst (λ n. AreGathered now n before c.loop-row.gathering) (sym wide) (c.loop-row.invariant.gathers done so_far))));
      writes = writes_more 1 i c.loop-row.invariant.writes (writes_within 1 (known_once some.cells c.loop-row.gathering) c.in_ok-add.ensures.writes);
    }

pub returns-clause-gathers : goal.returns-clause-gathers
returns-clause-gathers g c done so_far =
    subst (λ rs. AreGathered (g.I.Interner.list c.loop-row.pass) (length c.args.columns.now) (done ++ map (picked_row c.args.columns.now) rs) c.loop-row.gathering)
    (take_all c.loop-row.row-index c.args.rows.now c.loop-row-test.false) (c.loop-row.invariant.gathers done so_far)

pub returns-clause-writes : goal.returns-clause-writes
returns-clause-writes g c = writes_within (length c.args.rows.now) (omega (arith, c.loop-row.auto.row-index-end)) c.loop-row.invariant.writes

pub returns-in_err-some-clause-writes : goal.returns-in_err-some-clause-writes
returns-in_err-some-clause-writes g c =
    let exit = err_from_is_err_and c.from_residual.result c.from_residual.ensures.1 in
    rw (exit.1, exit.2) (writes_within (length c.args.rows.now) (omega (arith, c.loop-row.auto.row-index-end)) c.loop-row.invariant.writes)

pub returns-in_err-add-clause-writes : goal.returns-in_err-add-clause-writes
returns-in_err-add-clause-writes g c =
    let exit = err_from_is_err_and c.from_residual-in_err-add.result c.from_residual-in_err-add.ensures.1 in
    rw (exit.1, exit.2) (writes_within (length c.args.rows.now) (omega arith) (writes_last 1 c.loop-row.row-index c.loop-row.invariant.writes (length c.args.rows.now) c.loop-row-test.true
    (writes_within 1 (known_once c.in_ok-some.some.cells c.loop-row.gathering) c.in_err-add.ensures.writes)))
