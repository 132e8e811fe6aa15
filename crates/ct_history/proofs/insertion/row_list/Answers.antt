use Rattle.std.{proofs.lemmas.List.Sums.{sum_by_more_le, sum_by_more, sum_by-take-le}, proofs.Common.{◌++◌, ◌∷◌, [], ◌∙◌, ap, arith, subst, sym}}
use Rattle.std.proofs.lemmas.List.Elements.{All-get_or}
use Rattle.ct_word.{specs.Reading.{as_row_list, plain_crow}}
use Rattle.ct_history.{specs.Encodes.row_words, specs.Rows.{AreRowsAt, IsRowOf}, proofs.Rows.{no_row_later, row_later, rows_one}}
use Rattle.ct_condition.proofs.Writes.{writes_both, writes_within}
use Rattle.ct_history.proofs.Frames.{refused}
use Rattle.ct_history.proofs.insertion.row_list.Goals as goal

pub loop-row-preserved : goal.loop-row-preserved
loop-row-preserved g c =
    let first = c.args.pass.now.words in
    let old = c.loop-row.pass.words in
    let new = c.add_row.new.pass.words in
    let rows = c.args.rows.now in
    let at = c.loop-row.row-index in
    let row = c.row-item.result in
    let so_far = c.loop-row.invariant in
    let added = c.in_ok-place-2.ensures in
    record {
      rows = subst (AreRowsAt new c.in_ok-place-2.place)
          (ap (λ p. as_row_list p ++ plain_crow old row ∷ []) so_far.rows.stands ∙ sym (rows_one first old rows at row so_far.writes.longer c.requires.rows c.loop-row-test.true c.row-item.is)) added.rows;
      start = no_row_later old new c.in_ok-place.start added.writes.longer so_far.start;
      writes =
          (let more = sum_by_more row_words rows at row c.loop-row-test.true in
          let same = ap row_words c.row-item.is in
          writes_within _ (omega (arith, more, same)) (writes_both so_far.writes added.writes));
    }

pub add_row-requires-clause-row : goal.add_row-requires-clause-row
add_row-requires-clause-row g c =
    let first = c.args.pass.now.words in
    let row = c.row-item.result in
    row_later first c.loop-row.pass.words c.loop-row.invariant.writes.longer row
    (subst (IsRowOf first) (sym c.row-item.is) (All-get_or (IsRowOf first) c.args.rows.now c.loop-row.row-index row c.loop-row-test.true c.requires.rows))

pub returns-in_err-place-clause-writes : goal.returns-in_err-place-clause-writes
returns-in_err-place-clause-writes g c = refused _ c.from_residual.result c.from_residual.ensures.1 (omega arith) c.in_err-place.ensures.writes

pub returns-in_err-place-2-clause-writes : goal.returns-in_err-place-2-clause-writes
returns-in_err-place-2-clause-writes g c =
    let most = sum_by_more_le row_words c.args.rows.now c.loop-row.row-index c.row-item.result c.loop-row-test.true in
    let same = ap row_words c.row-item.is in
    refused _ c.from_residual-in_err-place-2.result c.from_residual-in_err-place-2.ensures.1 (omega (arith, most, same)) (writes_both c.loop-row.invariant.writes c.in_err-place-2.ensures.writes)

pub returns-clause-writes : goal.returns-clause-writes
returns-clause-writes g c = writes_within _ (omega (arith, sum_by-take-le row_words c.args.rows.now c.loop-row.row-index)) c.loop-row.invariant.writes
