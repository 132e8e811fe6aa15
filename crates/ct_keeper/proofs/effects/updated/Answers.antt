use Rattle.std.proofs.Common.{length, map, ap, subst, ◌∙◌}
use Rattle.ct_query.specs.Fits.{AreSets, AreColumnsBelow}
use Rattle.ct_word.specs.Reading.{condition_at}
use Rattle.ct_history.specs.Written.{plain_set}
use Rattle.ct_operators.specs.declared.table.CTable.{CTable}
use Rattle.ct_update.specs.Revising.{revised}
use Rattle.ct_table.{specs.Denotes.with_table, specs.Shared.view_of}
use Rattle.ct_keeper.{proofs.Finding.{not_missing, width_found, rows_of_found, positions_below, column_named, columns_revised}}
use Rattle.ct_keeper.proofs.effects.updated.Goals as goal

pub unreachable-requires : goal.unreachable-requires
unreachable-requires g c = not_missing c.args.db.now c.args.name.now c.requires.fitting.0 c.in_default.ensures

pub revise-made-requires-clause-rows : goal.revise-made-requires-clause-rows
revise-made-requires-clause-rows g c =
    rows_of_found (g.I.Interner.list c.args.pass.now) c.args.db.now c.args.name.now (view_of c.args.name.now c.in-Some.table.now) c.requires.tables c.in-Some.ensures

pub revise-made-requires-clause-update : goal.revise-made-requires-clause-update
revise-made-requires-clause-update g c =
    let words = g.I.Interner.list c.args.pass.now in
    let t = view_of c.args.name.now c.in-Some.table.now in
    let width = width_found c.args.db.now c.args.name.now t c.in-Some.ensures in
    let sets = c.args.sets.now in
    let are : AreSets (length t.columns) (map (plain_set words) sets) = subst (λ n. AreSets n (map (plain_set words) sets)) width c.requires.fitting.1 in
    let below : AreColumnsBelow (length t.columns) (condition_at words c.args.cond) = subst (λ n. AreColumnsBelow n (condition_at words c.args.cond)) width c.requires.fitting.2 in
    record {
      positions = positions_below words c.words.ensures.formed (length t.columns) sets are.within;
      terms = c.requires.sets;
      condition = c.requires.written;
      columns = column_named words c.words.ensures.formed (length t.columns) sets c.args.cond c.requires.sets c.requires.written are below;
    }

pub returns-clause-does : goal.returns-clause-does
returns-clause-does g c = λ global.
    let db = c.args.db.now in
    let name = c.args.name.now in
    let t = c.in-Some.table.now in
    let out = c.in_ok-revision.revision in
    let made = c.in_ok-table.ensures in
    record {
      table = view_of name t;
      rows = (revised t out).rows;
      is_found = c.in-Some.ensures;
      after_is = λ i. with_table db (record { name = c.in_ok-name.ensures.cases i; columns = (ap (λ (u : CTable). u.columns) made ∙ columns_revised t out c.in_ok-revision.ensures.fits) i; rows = (made i).rows });
      true_of = record {
        are = c.in_ok-revision.ensures.rows;
        tuples = c.in_ok-revision.ensures.tuples;
        part = c.in_ok-revision.ensures.part;
        terms = c.in_ok-revision.ensures.terms;
      };
    }
