use Rattle.std.{proofs.lemmas.List.Sums.{sum_by_more_le, sum_by_more, sum_by-take-le}, proofs.Common.{◌∙◌, arith, ap, sym, take, Some, ◌++◌, ◌∷◌, []}}
use Rattle.std.proofs.lemmas.List.{take_more}
use Rattle.ct_word.{specs.Reading.IsRow, proofs.Prefixes.prefix_of_prefix}
use Rattle.ct_query.specs.Bounds.{literal_words}
use Rattle.ct_history.{proofs.Encoded.{term_added, cell_counted}, proofs.Frames.refused}
use Rattle.ct_condition.proofs.Writes.{writes_none, writes_both, writes_within}
use Rattle.ct_history.proofs.encoding.term_cells.Goals as goal

pub loop-cell-preserved : goal.loop-cell-preserved
loop-cell-preserved g c =
    let old = c.loop-cell.pass.words in
    let mid = c.term.new.pass.words in
    let new = c.put.new.pass.words in
    let cells = c.args.cells.now in
    let at = c.loop-cell.cell-index in
    let cell = c.cell-item.result in
    let grown = prefix_of_prefix old mid new c.in_ok-item.ensures.longer c.in_ok-place.ensures.longer in
    record {
      stands =
          term_added old mid new (take at cells) cell c.loop-cell.place c.in_ok-item.item c.in_ok-place.place
          c.loop-cell.invariant.stands c.loop-cell.invariant.class grown
          c.in_ok-item.ensures.stands c.in_ok-item.ensures.place c.in_ok-place.ensures.longer c.in_ok-place.ensures.stands
          ∙ ap (λ ts. Some (IsRow ts)) (ap (λ t. take at cells ++ t ∷ []) c.cell-item.is ∙ sym (take_more cells at cell c.loop-cell-test.true));
      class = c.in_ok-place.ensures.place;
      small = c.in_ok-place.ensures.small;
      writes =
          (let more = sum_by_more literal_words cells at cell c.loop-cell-test.true in
          let words = cell_counted cells at cell c.loop-cell-test.true c.cell-item.is c.requires.cells in
          writes_within _ (omega (arith, more, words)) (writes_both c.loop-cell.invariant.writes (writes_both c.in_ok-item.ensures.writes c.in_ok-place.ensures.writes)));
    }

pub loop-cell-init : goal.loop-cell-init
loop-cell-init g c = record {
  stands = c.requires.start.stands;
  class = c.requires.start.class;
  small = c.requires.start.small;
  writes = writes_none _ c.words.ensures.formed c.words.ensures.room;
}

pub returns-in_err-item-clause-writes : goal.returns-in_err-item-clause-writes
returns-in_err-item-clause-writes g c =
    let cells = c.args.cells.now in
    let at = c.loop-cell.cell-index in
    let most = sum_by_more_le literal_words cells at c.cell-item.result c.loop-cell-test.true in
    let words = cell_counted cells at c.cell-item.result c.loop-cell-test.true c.cell-item.is c.requires.cells in
    refused _ c.from_residual.result c.from_residual.ensures.1 (omega (arith, most, words, c.loop-cell-test.true)) (writes_both c.loop-cell.invariant.writes c.in_err-item.ensures.writes)

pub returns-in_err-place-clause-writes : goal.returns-in_err-place-clause-writes
returns-in_err-place-clause-writes g c =
    let cells = c.args.cells.now in
    let at = c.loop-cell.cell-index in
    let most = sum_by_more_le literal_words cells at c.cell-item.result c.loop-cell-test.true in
    let words = cell_counted cells at c.cell-item.result c.loop-cell-test.true c.cell-item.is c.requires.cells in
    refused _ c.from_residual-in_err-place.result c.from_residual-in_err-place.ensures.1 (omega (arith, most, words, c.loop-cell-test.true)) (writes_both c.loop-cell.invariant.writes (writes_both c.in_ok-item.ensures.writes c.in_err-place.ensures.writes))

pub returns-clause-writes : goal.returns-clause-writes
returns-clause-writes g c = writes_within _ (omega (arith, sum_by-take-le literal_words c.args.cells.now c.loop-cell.cell-index)) c.loop-cell.invariant.writes
