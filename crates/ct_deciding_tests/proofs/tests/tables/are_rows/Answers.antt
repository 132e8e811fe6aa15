use Rattle.std.{proofs.Common.{subst, ◌∷◌}, specs.Prelude.All, specs.List.Contains, proofs.lemmas.List.take_all}
use Rattle.std.proofs.lemmas.List.Elements.{All-more, All-weaker, All-contains_itself}
use Rattle.ct_word.specs.Stands.{HasNoColumn}
use Rattle.ct_operators.specs.Tables.{IsRow}
use Rattle.ct_deciding_tests.proofs.tests.tables.are_rows.Goals as goal

pub loop-row-preserved : goal.loop-row-preserved
loop-row-preserved c =
    let words = c.args.words.now in
    let row = c.row-item.result in
    let fits = c.is_row.ensures c.if-not-is_row.false in
    let places = row.cond ∷ row.cells in
    let plain : All (HasNoColumn words) places =
    All-weaker (Contains places) (HasNoColumn words) (λ p h. c.no_columns.ensures c.if-not-no_columns.false p) places (All-contains_itself places) in
    let is : IsRow words c.args.width row = record { terms = fits.0; condition = fits.1; width_is = fits.2; plain = plain } in
    All-more (IsRow c.args.words.now c.args.width) c.args.rows.now c.loop-row.row-index c.row-item.result c.loop-row-test.true c.loop-row.invariant
    (subst (IsRow words c.args.width) c.row-item.is is)

pub returns : goal.returns
returns c e = subst (All (IsRow c.args.words.now c.args.width)) (take_all c.loop-row.row-index c.args.rows.now c.loop-row-test.false) c.loop-row.invariant
