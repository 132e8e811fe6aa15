use Rattle.std.{proofs.Common.{length, [], ◌∷◌, sym, subst}, specs.Prelude.{IsTrue}, proofs.lemmas.List.Elements.{All-head, All-tail, All-weaker}}
use Rattle.ct_word.{specs.WellFormed.is_place_of, specs.declared.values.CRow.CRow, proofs.Prefixes.place_in_prefix}
use Rattle.ct_condition.proofs.OnRows.{places_in_prefix}
use Rattle.ct_operators.{specs.Tables.IsRow, proofs.Growing.is_row_grows}
use Rattle.ct_update.{specs.Updating.{updated_places, PutsIn}, proofs.Updates.{puts_both, places_stay}}
use Rattle.ct_word.specs.declared.kinds.Class.TheVariants as class
use Rattle.ct_update.proofs.putting.put_halves.Goals as goal

pub put_as_it_was-requires-clause-rows : goal.put_as_it_was-requires-clause-rows
put_as_it_was-requires-clause-rows g c = c.requires.gathered.1.gathers.each

pub put_as_it_was-requires-clause-row : goal.put_as_it_was-requires-clause-row
put_as_it_was-requires-clause-row g c =
    let r = c.args.row.now in
    let now = g.I.Interner.list c.args.pass.now in
    All-head (IsRow now (length r.cells)) (record { cells = r.cells; cond = c.args.conds.0 }) (record { cells = updated_places now c.args.sets.now r.cells; cond = c.args.conds.1 } ∷ []) c.requires.halves

pub put_with_sets-requires-clause-rows : goal.put_with_sets-requires-clause-rows
put_with_sets-requires-clause-rows g c = (c.in_ok-put_as_it_was.ensures.puts c.requires.gathered.0 c.requires.gathered.1).gathers.each

pub put_with_sets-requires-clause-terms : goal.put_with_sets-requires-clause-terms
put_with_sets-requires-clause-terms g c =
    let old = g.I.Interner.list c.args.pass.now in
    let now = g.I.Interner.list c.put_as_it_was.new.pass in
    All-weaker (λ s. IsTrue (is_place_of old class.Term s.1)) (λ s. IsTrue (is_place_of now class.Term s.1)) (λ s. place_in_prefix old now class.Term s.1 c.in_ok-put_as_it_was.ensures.writes.longer) c.args.sets.now c.requires.terms

pub put_with_sets-requires-clause-cells : goal.put_with_sets-requires-clause-cells
put_with_sets-requires-clause-cells g c =
    let r = c.args.row.now in
    let old = g.I.Interner.list c.args.pass.now in
    places_in_prefix old (g.I.Interner.list c.put_as_it_was.new.pass) r.cells c.in_ok-put_as_it_was.ensures.writes.longer
    (All-head (IsRow old (length r.cells)) (record { cells = r.cells; cond = c.args.conds.0 }) (record { cells = updated_places old c.args.sets.now r.cells; cond = c.args.conds.1 } ∷ []) c.requires.halves).terms

pub put_with_sets-requires-clause-row : goal.put_with_sets-requires-clause-row
put_with_sets-requires-clause-row g c =
    let r = c.args.row.now in
    let old = g.I.Interner.list c.args.pass.now in
    let now = g.I.Interner.list c.put_as_it_was.new.pass in
    let sets = c.args.sets.now in
    let width = length r.cells in
    let longer = c.in_ok-put_as_it_was.ensures.writes.longer in
    let one : CRow = record { cells = r.cells; cond = c.args.conds.0 } in
    let other : CRow = record { cells = updated_places old sets r.cells; cond = c.args.conds.1 } in
    subst (λ cells. IsRow now width (record { cells = cells; cond = c.args.conds.1 })) (sym (places_stay old now longer sets r.cells c.requires.terms))
    (is_row_grows old now longer c.words.ensures.formed width other (All-head (IsRow old width) other [] (All-tail (IsRow old width) one (other ∷ []) c.requires.halves)))

pub returns-clause-puts : goal.returns-clause-puts
returns-clause-puts g c =
    let r = c.args.row.now in
    let old = g.I.Interner.list c.args.pass.now in
    let mid = g.I.Interner.list c.put_as_it_was.new.pass in
    let new = g.I.Interner.list c.put_with_sets.new.pass in
    let sets = c.args.sets.now in
    let width = length r.cells in
    let stays : CRow = record { cells = r.cells; cond = c.args.conds.0 } in
    puts_both old mid new width (stays ∷ []) (record { cells = updated_places old sets r.cells; cond = c.args.conds.1 } ∷ []) c.args.gathering.now c.put_as_it_was.new.gathering c.put_with_sets.new.gathering
    c.in_ok-put_as_it_was.ensures.puts
    (subst (λ cells. PutsIn mid new width (record { cells = cells; cond = c.args.conds.1 } ∷ []) c.put_as_it_was.new.gathering c.put_with_sets.new.gathering)
    (places_stay old mid c.in_ok-put_as_it_was.ensures.writes.longer sets r.cells c.requires.terms) c.in_ok-put_with_sets.ensures.puts)
