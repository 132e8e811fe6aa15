use Rattle.std.proofs.Common.{◌<◌, ◌++◌, [], length, map, get_or, refl, ap, sym, ◌∙◌, subst, arith}
use Rattle.std.{specs.Prelude.{IfSome}}
use Rattle.csv.specs.Records.{AllText}
use Rattle.ct_word.specs.Reading.{term_at}
use Rattle.ct_rewrite.{specs.Nodes.{read_nodes, node_condition}, proofs.Nodes.node_read}
use Rattle.ct_csv.{specs.Csv.AreTexts, specs.Exported.{is_false, IsFieldOf, fields_with, condition_text}, specs.Writing.bytes_of}
use Rattle.ct_csv.proofs.Recorded.{form_of, false_is, left_row, kept_row, none_written, row_written, one_row, position_within}
use Rattle.ct_csv.proofs.writing.write_rows.Goals as goal

pub loop-i-preserved-then-is_false : goal.loop-i-preserved-then-is_false
loop-i-preserved-then-is_false c =
    let j = c.args.underscores in
    let nodes = c.args.nodes.now in
    let i = c.loop-i.i in
    let k = get_or c.args.positions.now i 0 in
    let more : i < length c.args.positions.now = omega (arith, c.loop-i-test.true, c.requires.as_many) in
    let at = node_read _ nodes _ k _ c.requires.ordered refl refl (position_within nodes c.args.positions.now i more c.requires.placed) c.index-nodes-position.is in
    let none = ap is_false at.value ∙ false_is (read_nodes [] nodes) _ ∙ sym c.is_false.ensures ∙ c.if-is_false.true in
    let form = form_of c.args.words.now nodes c.index-rows-i.result.cells k in
    let old = bytes_of c.loop-i.writer in (
      c.loop-i.invariant.0,
      one_row j c.args.words.now nodes c.args.rows.now c.args.positions.now i c.index-rows-i.result _ c.index-rows-i.result.cells (bytes_of c.args.writer.now) old old c.loop-i-test.true more c.index-rows-i.is refl
          c.loop-i.invariant.1 (none_written j form old none) (subst AreTexts (sym (left_row j form none)) tt),
      c.loop-i.invariant.2,
    )

pub field_at-requires-clause-before : goal.field_at-requires-clause-before
field_at-requires-clause-before c = subst (λ o. IfSome o (IsFieldOf c.args.underscores c.args.nodes.now)) (sym c.take.ensures.value) c.loop-i.invariant.2

pub loop-i-preserved : goal.loop-i-preserved
loop-i-preserved c =
    let j = c.args.underscores in
    let nodes = c.args.nodes.now in
    let i = c.loop-i.i in
    let k = get_or c.args.positions.now i 0 in
    let more : i < length c.args.positions.now = omega (arith, c.loop-i-test.true, c.requires.as_many) in
    let at = node_read _ nodes _ k _ c.requires.ordered refl refl (position_within nodes c.args.positions.now i more c.requires.placed) c.index-nodes-position.is in
    let some = ap is_false at.value ∙ false_is (read_nodes [] nodes) _ ∙ sym c.is_false.ensures ∙ c.if-is_false.false in
    let cells = c.as_slice-cells.result.now in
    let form = form_of c.args.words.now nodes cells k in
    let old = bytes_of c.loop-i.writer in
    let text = c.as_str.ensures.value ∙ c.in_ok-field.ensures.text ∙ ap (λ p. condition_text j (node_condition nodes p)) c.in_ok-field.ensures.position in
    let fields = ap (fields_with j (map (term_at c.args.words.now) cells)) text in (
      c.in_ok-write_row.ensures.ready,
      one_row j c.args.words.now nodes c.args.rows.now c.args.positions.now i c.index-rows-i.result _ cells (bytes_of c.args.writer.now) old (bytes_of c.write_row.new.writer) c.loop-i-test.true more c.index-rows-i.is
          c.as_slice-cells.ensures c.loop-i.invariant.1
          (c.in_ok-write_row.ensures.bytes ∙ ap (λ b. old ++ b) (row_written j form (fields_with j (map (term_at c.args.words.now) cells) c.as_str.result.now) some fields))
          (subst AreTexts (sym (kept_row j form some)) (subst AllText fields c.in_ok-write_row.ensures.texts, tt)),
      c.in_ok-field.ensures.text,
    )
