use Rattle.std.{proofs.Common.{◌++◌, ◌∙◌, ap}, specs.Prelude.{codes, string_bytes}, proofs.lemmas.Result.on_ok_weaker}
use Rattle.ct_print.{specs.TermText.{in_parentheses, with_commas}, proofs.Joins.both_written}
use Rattle.ct_transcript.{specs.NodeText.with_names, specs.Text.{rows_text, set_text}}
use Rattle.ct_transcript.proofs.history.push_change.Goals as goal

pub returns-in_ok-push_about-in-Create : goal.returns-in_ok-push_about-in-Create
returns-in_ok-push_about-in-Create c =
    let columns = ap (λ ns. string_bytes c.push_about.new.out ++ in_parentheses (with_commas (λ n. n) ns)) c.as_slice.ensures in
    rw c.in-Create.is
    (on_ok_weaker c.push_names.result (λ put. both_written (codes "create table " ++ c.in-Create.name ++ codes " ") _ _ _ _ c.in_ok-push_about-in-Create.ensures (put ∙ columns)) c.push_names.ensures)

pub returns-in_ok-push_about-in-Insert : goal.returns-in_ok-push_about-in-Insert
returns-in_ok-push_about-in-Insert c =
    let shown = ap (λ rs. string_bytes c.push_about-in-Insert.new.out ++ rows_text c.args.nodes.now (with_names c.args.nodes.now c.args.names.now) rs) c.as_slice-in-Insert.ensures in
    rw c.in-Insert.is
    (on_ok_weaker c.push_rows.result (λ put. both_written (codes "insert into " ++ c.in-Insert.name ++ codes " ") _ _ _ _ c.in_ok-push_about-in-Insert.ensures (put ∙ shown)) c.push_rows.ensures)

pub returns-in_ok-push_about-in-Delete : goal.returns-in_ok-push_about-in-Delete
returns-in_ok-push_about-in-Delete c =
    rw c.in-Delete.is
    (on_ok_weaker c.push_root.result (λ put. both_written (codes "delete from " ++ c.in-Delete.name ++ codes " where ") _ _ _ _ c.in_ok-push_about-in-Delete.ensures put) c.push_root.ensures)

pub returns-in_ok-push_str-in-Update : goal.returns-in_ok-push_str-in-Update
returns-in_ok-push_str-in-Update c =
    let shown = ap (λ ss. string_bytes c.push_about-in-Update.new.out ++ with_commas set_text ss) c.as_slice-in-Update.ensures in
    let start = codes "update " ++ c.in-Update.name ++ codes " set " in
    let set = both_written start (with_commas set_text c.in-Update.sets) _ _ _ c.in_ok-push_about-in-Update.ensures (c.in_ok-push_sets-in-Update.ensures ∙ shown) in
    let asked = both_written (start ++ with_commas set_text c.in-Update.sets) (codes " where ") _ _ _ set c.in_ok-push_str-in-Update.ensures.bytes in
    rw c.in-Update.is
    (on_ok_weaker c.push_root-in-Update.result
    (λ put. both_written (start ++ with_commas set_text c.in-Update.sets ++ codes " where ") _ _ _ _ asked put)
    c.push_root-in-Update.ensures)
