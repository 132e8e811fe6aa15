use Rattle.std.{proofs.Common.{[]}, proofs.lemmas.List.Elements.{All-cons, All-nil}}
use Rattle.ct_history.{specs.Rows.IsRowOf, proofs.Rows.row_later}
use Rattle.ct_log_tests.proofs.tests.encoded.asserted.Goals as goal

pub encode-place-requires-clause-rows : goal.encode-place-requires-clause-rows
encode-place-requires-clause-rows g c =
    let now = c.no_changes.new.pass.words in
    let row = c.in_ok-is_two.field-0 in
    All-cons (IsRowOf now) row [] (row_later c.is_two.new.pass.words now c.in_ok-list.ensures.longer row c.in_ok-is_two.ensures.row) (All-nil (IsRowOf now))
