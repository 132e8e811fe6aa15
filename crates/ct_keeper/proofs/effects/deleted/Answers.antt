use Rattle.std.proofs.Common.{length, ap, subst, ◌∙◌}
use Rattle.ct_query.specs.Fits.{AreColumnsBelow}
use Rattle.ct_word.specs.Reading.{condition_at}
use Rattle.ct_operators.specs.declared.table.CTable.{CTable}
use Rattle.ct_table.{specs.Denotes.with_table, specs.Shared.view_of}
use Rattle.ct_keeper.{proofs.Finding.{not_missing, width_found, rows_of_found, column_below}}
use Rattle.ct_keeper.proofs.effects.deleted.Goals as goal

pub unreachable-requires : goal.unreachable-requires
unreachable-requires g c = not_missing c.args.db.now c.args.name.now c.requires.fitting.0 c.in_default.ensures

pub delete-spared-requires-clause-rows : goal.delete-spared-requires-clause-rows
delete-spared-requires-clause-rows g c =
    rows_of_found (g.I.Interner.list c.args.pass.now) c.args.db.now c.args.name.now (view_of c.args.name.now c.in-Some.table.now) c.requires.tables c.in-Some.ensures

pub delete-spared-requires-clause-columns : goal.delete-spared-requires-clause-columns
delete-spared-requires-clause-columns g c =
    let words = g.I.Interner.list c.args.pass.now in
    let t = view_of c.args.name.now c.in-Some.table.now in
    column_below words c.words.ensures.formed (length t.columns) c.args.cond c.requires.written
    (subst (λ n. AreColumnsBelow n (condition_at words c.args.cond)) (width_found c.args.db.now c.args.name.now t c.in-Some.ensures) c.requires.fitting.1)

pub returns-clause-does : goal.returns-clause-does
returns-clause-does g c = λ global.
    let db = c.args.db.now in
    let name = c.args.name.now in
    let out = c.in_ok-rest.rest in
    let made = c.in_ok-table.ensures in
    record {
      table = view_of name c.in-Some.table.now;
      rows = out.rows;
      is_found = c.in-Some.ensures;
      after_is = λ i. with_table db (record { name = c.in_ok-name.ensures.cases i; columns = (ap (λ (u : CTable). u.columns) made ∙ c.in_ok-rest.ensures.columns) i; rows = (made i).rows });
      true_of = record {
        are = c.in_ok-rest.ensures.rows;
        tuples = c.in_ok-rest.ensures.tuples;
        part = c.in_ok-rest.ensures.part;
        terms = c.in_ok-rest.ensures.terms;
      };
    }
