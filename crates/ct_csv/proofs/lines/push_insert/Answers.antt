use Rattle.ct_csv.proofs.Appended.{six}
use Rattle.ct_csv.proofs.lines.push_insert.Goals as goal

pub returns-clause-ok : goal.returns-clause-ok
returns-clause-ok c =
    six _ _ _ _ _ _ _ _ _ _ _ _ _ c.in_ok-push_str.ensures.bytes c.in_ok-push_str-2.ensures.bytes c.in_ok-push_str-3.ensures.bytes
    c.in_ok-push_cells.ensures.ok c.in_ok-push_condition.ensures.ok c.in_ok-push_text.ensures
