use Rattle.std.proofs.Common.{All, length, map, subst, refl, sym}
use Rattle.ct_word.specs.Reading.{plain_crow}
use Rattle.ct_query.specs.Fits.{FitsRow}
use Rattle.ct_table.{specs.Denotes.find_table, specs.Growing.rows_after, specs.Pending.put_into, specs.Shared.view_of}
use Rattle.ct_keeper.{specs.Effects.{AreInserted, Gets}, proofs.Finding.{not_missing, width_found, rows_of_found, rows_put, rows_fit}}
use Rattle.ct_keeper.proofs.effects.inserted.Goals as goal

pub unreachable-requires : goal.unreachable-requires
unreachable-requires g c = not_missing c.args.db.now c.args.name.now c.requires.fitting.0 c.in_default.ensures

pub insertions-requires-clause-table : goal.insertions-requires-clause-table
insertions-requires-clause-table g c =
    rows_of_found (g.I.Interner.list c.args.pass.now) c.args.db.now c.args.name.now (view_of c.args.name.now c.in-Some.table.now) c.requires.tables c.in-Some.ensures

pub insertions-requires-clause-rows : goal.insertions-requires-clause-rows
insertions-requires-clause-rows g c =
    let words = g.I.Interner.list c.args.pass.now in
    rows_fit words c.words.ensures.formed (length c.in-Some.table.now.columns) c.args.rows.now c.requires.written
    (subst (λ n. All (FitsRow n) (map (plain_crow words) c.args.rows.now))
    (width_found c.args.db.now c.args.name.now (view_of c.args.name.now c.in-Some.table.now) c.in-Some.ensures) c.requires.fitting.1)

pub returns-clause-does : goal.returns-clause-does
returns-clause-does g c = λ global.
    let old = g.I.Interner.list c.args.pass.now in
    let new = g.I.Interner.list c.insertions.new.pass in
    let db = c.args.db.now in
    let name = c.args.name.now in
    let t = view_of name c.in-Some.table.now in
    let puts = c.in_ok-puts.puts.items in
    let more = c.args.rows.now in
    subst (λ n. Gets db (put_into db n puts (find_table db n)) (find_table db name) (λ t rows. AreInserted old new (length t.columns) t.rows more rows)) (sym c.in_ok-name.ensures.cases)
    (record {
      table = t;
      rows = rows_after t.rows puts;
      is_found = c.in-Some.ensures;
      after_is = rows_put db name t puts c.in-Some.ensures refl;
      true_of = record {
        each = rows_fit old c.words.ensures.formed (length t.columns) more c.requires.written
            (subst (λ n. All (FitsRow n) (map (plain_crow old) more)) (width_found db name t c.in-Some.ensures) c.requires.fitting.1);
        are = c.in_ok-puts.ensures.inserted.are;
        tuples = c.in_ok-puts.ensures.inserted.tuples;
        part = c.in_ok-puts.ensures.inserted.part;
        terms = c.in_ok-puts.ensures.inserted.terms;
      };
    })
