use Rattle.std.{proofs.Common.{arith, ◌∙◌, ap, sym, map, take, get_or, Some}, proofs.lemmas.List.map_more, proofs.lemmas.List.Elements.All-get_or}
use Rattle.std.specs.Prelude.{IsTrue}
use Rattle.ct_word.{specs.Reading.{IsRow, term_at}, specs.WellFormed.is_place_of, proofs.Prefixes.prefix_of_prefix}
use Rattle.ct_history.proofs.Rows.{cell_added}
use Rattle.ct_word.specs.declared.kinds.Class.TheVariants as class
use Rattle.ct_condition.proofs.Writes.{writes_none, writes_both, writes_within}
use Rattle.ct_history.proofs.Frames.{refused}
use Rattle.ct_history.proofs.insertion.cells.Goals as goal

pub loop-cell-preserved : goal.loop-cell-preserved
loop-cell-preserved g c =
    let first = c.args.pass.now.words in
    let old = c.loop-cell.pass.words in
    let new = c.put.new.pass.words in
    let cells = c.args.cells.now in
    let at = c.loop-cell.cell-index in
    let cell = get_or cells at 0 in
    let longer = prefix_of_prefix first old new c.loop-cell.invariant.writes.longer c.in_ok-place.ensures.longer in
    record {
      stands =
          cell_added first old new (map (term_at first) (take at cells)) c.loop-cell.place cell c.in_ok-place.place
          c.loop-cell.invariant.stands c.loop-cell.invariant.class c.in_ok-place.ensures.longer
          (All-get_or (λ p. IsTrue (is_place_of first class.Term p)) cells at 0 c.loop-cell-test.true c.requires.terms) longer c.in_ok-place.ensures.stands
          ∙ ap (λ ts. Some (IsRow ts)) (sym (map_more (term_at first) cells at 0 c.loop-cell-test.true));
      class = c.in_ok-place.ensures.place;
      small = c.in_ok-place.ensures.small;
      writes = writes_both c.loop-cell.invariant.writes c.in_ok-place.ensures.writes;
    }

pub loop-cell-init : goal.loop-cell-init
loop-cell-init g c = record {
  stands = c.requires.start.stands;
  class = c.requires.start.class;
  small = c.requires.start.small;
  writes = writes_none _ c.words.ensures.formed c.words.ensures.room;
}

pub returns-in_err-place-clause-writes : goal.returns-in_err-place-clause-writes
returns-in_err-place-clause-writes g c = refused _ c.from_residual.result c.from_residual.ensures.1 (omega arith) (writes_both c.loop-cell.invariant.writes c.in_err-place.ensures.writes)

pub returns-clause-writes : goal.returns-clause-writes
returns-clause-writes g c = writes_within _ (omega arith) c.loop-cell.invariant.writes
