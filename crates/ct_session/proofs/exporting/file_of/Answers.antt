use Rattle.std.proofs.Common.{◌≡◌, ◌≤◌, length, refl, sym, subst, Some, None}
use Rattle.ct_operators.specs.declared.table.CTable.{CTable}
use Rattle.ct_table.{specs.Denotes.find_table, specs.Shared.view_of, specs.Snapshot.commits_to}
use Rattle.ct_csv.specs.Exported.{CanBeExported, IsExported, IsTooWide, WhyNoExport}
use Rattle.ct_session.proofs.Exports.{unknown, found_table, can_be, some_of}
use Rattle.ct_session.proofs.exporting.file_of.Goals as goal

pub returns-in_default-clause-error : goal.returns-in_default-clause-error
returns-in_default-clause-error c =
    let words = c.args.words.now in
    let db = c.args.db.now in
    (refl, unknown words (commits_to words c.args.at) db c.requires.denotes c.args.name.now (subst (λ n. find_table db n ≡ None) c.in_ok-text.ensures c.in_default.ensures))

pub export-requires-clause-table : goal.export-requires-clause-table
export-requires-clause-table c =
    let words = c.args.words.now in
    let db = c.args.db.now in
    let t = view_of c.in_ok-text.text c.in-Some.shared.now in
    let found = subst (λ n. find_table db n ≡ Some t) c.in_ok-text.ensures c.in-Some.ensures in
    let some = some_of c.is_empty.result c.in_ok-table.table.columns c.is_empty.ensures c.if-is_empty.false in
    subst (λ (x : CTable). CanBeExported words x.columns x.rows) (sym c.in_ok-table.ensures)
    (can_be words (commits_to words c.args.at) db c.requires.denotes c.args.name.now t found c.requires.formed (subst (λ (x : CTable). 1 ≤ length x.columns) c.in_ok-table.ensures some))

pub returns-in-Ok-clause-ok : goal.returns-in-Ok-clause-ok
returns-in-Ok-clause-ok c =
    let words = c.args.words.now in
    let db = c.args.db.now in
    let t = view_of c.in_ok-text.text c.in-Some.shared.now in
    let found = subst (λ n. find_table db n ≡ Some t) c.in_ok-text.ensures c.in-Some.ensures in
    record {
      columns = t.columns;
      rows = t.rows;
      of_table = found_table words (commits_to words c.args.at) db c.requires.denotes c.args.name.now t found;
      exported = subst (λ (x : CTable). IsExported words x.columns x.rows c.in-Ok.bytes.items) c.in_ok-table.ensures c.in-Ok.ensures.ok;
    }

pub returns-in-Err-TooWide-clause-error : goal.returns-in-Err-TooWide-clause-error
returns-in-Err-TooWide-clause-error c =
    let words = c.args.words.now in
    let db = c.args.db.now in
    let t = view_of c.in_ok-text.text c.in-Some.shared.now in
    let found = subst (λ n. find_table db n ≡ Some t) c.in_ok-text.ensures c.in-Some.ensures in
    let wide = subst (WhyNoExport words c.in_ok-table.table.rows) c.in-Err-TooWide.field-0-is c.in-Err-TooWide.ensures.error in
    record {
      columns = t.columns;
      rows = t.rows;
      of_table = found_table words (commits_to words c.args.at) db c.requires.denotes c.args.name.now t found;
      wide = subst (λ (x : CTable). IsTooWide words x.rows c.in-Err-TooWide.row) c.in_ok-table.ensures wide;
    }
