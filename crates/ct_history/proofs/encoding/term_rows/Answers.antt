use Rattle.std.{proofs.lemmas.List.Sums.{sum_by_more_le, sum_by_more, sum_by-take-le}, proofs.Common.{◌++◌, ◌∷◌, [], ◌∙◌, ap, arith, subst, sym}, proofs.lemmas.List.map_more}
use Rattle.ct_word.{proofs.Prefixes.{place_in_prefix}, specs.Reading.{as_cond, as_row_list, condition_at}}
use Rattle.ct_history.{specs.Encodes.term_row_words, specs.Rows.{AreRowsAt, row_under}, proofs.Lists.meaning_kept, proofs.Rows.no_row_later}
use Rattle.ct_word.specs.declared.kinds.Class.TheVariants as class
use Rattle.ct_condition.proofs.Writes.{writes_both, writes_within}
use Rattle.ct_history.proofs.Frames.{refused}
use Rattle.ct_history.proofs.encoding.term_rows.Goals as goal

pub loop-row-preserved : goal.loop-row-preserved
loop-row-preserved g c =
    let first = c.args.pass.now.words in
    let old = c.loop-row.pass.words in
    let new = c.add_terms.new.pass.words in
    let rows = c.args.rows.now in
    let at = c.loop-row.row-index in
    let row = c.row-item.result in
    let under = row_under (condition_at first c.args.cond) in
    let so_far = c.loop-row.invariant in
    let added = c.in_ok-place-2.ensures in
    let cells = c.as_slice.ensures ∙ c.row-item.is in
    record {
      rows = subst (AreRowsAt new c.in_ok-place-2.place)
          ((λ i. as_row_list (so_far.rows.stands i) ++ row_under (as_cond (meaning_kept first old class.Cond c.args.cond so_far.writes.longer c.requires.cond i)) (cells i) ∷ [])
          ∙ sym (map_more under rows at row c.loop-row-test.true)) added.rows;
      start = no_row_later old new c.in_ok-place.start added.writes.longer so_far.start;
      writes =
          (let more = sum_by_more term_row_words rows at row c.loop-row-test.true in
          let same = ap term_row_words cells in
          writes_within _ (omega (arith, more, same)) (writes_both so_far.writes added.writes));
    }

pub add_terms-requires-clause-cond : goal.add_terms-requires-clause-cond
add_terms-requires-clause-cond g c = grind (arith, place_in_prefix)

pub returns-in_err-place-clause-writes : goal.returns-in_err-place-clause-writes
returns-in_err-place-clause-writes g c = refused _ c.from_residual.result c.from_residual.ensures.1 (omega arith) c.in_err-place.ensures.writes

pub returns-in_err-place-2-clause-writes : goal.returns-in_err-place-2-clause-writes
returns-in_err-place-2-clause-writes g c =
    let most = sum_by_more_le term_row_words c.args.rows.now c.loop-row.row-index c.row-item.result c.loop-row-test.true in
    let same = ap term_row_words (c.as_slice.ensures ∙ c.row-item.is) in
    refused _ c.from_residual-in_err-place-2.result c.from_residual-in_err-place-2.ensures.1 (omega (arith, most, same)) (writes_both c.loop-row.invariant.writes c.in_err-place-2.ensures.writes)

pub returns-clause-writes : goal.returns-clause-writes
returns-clause-writes g c = writes_within _ (omega (arith, sum_by-take-le term_row_words c.args.rows.now c.loop-row.row-index)) c.loop-row.invariant.writes
