use Rattle.std.{proofs.Common.{length, sym, subst}}
use Rattle.ct_condition.proofs.Reached.{formed_before}
use Rattle.ct_operators.{specs.Tables.AreRows, proofs.Growing.rows_grow}
use Rattle.ct_questions.specs.Roots.{AreRowRoots}
use Rattle.ct_statement.proofs.workers.possible_beside.Goals as goal

pub possible_decided-requires-clause-rows : goal.possible_decided-requires-clause-rows
possible_decided-requires-clause-rows g c κs within =
    let old = c.args.pass.now.words in
    let new = c.possible_questions.new.pass.words in
    let w = c.possible_questions.ensures.writes in
    let rows = c.args.table.now.rows in
    let n = length c.args.table.now.columns in
    subst (λ ws. AreRows ws n rows) (sym c.words-words.ensures.words)
    (rows_grow old new w.longer (formed_before old new w.longer w.formed) n rows c.requires.rows)

pub possible_decided-requires-clause-roots : goal.possible_decided-requires-clause-roots
possible_decided-requires-clause-roots g c κs within =
    let old = c.args.pass.now.words in
    let global = c.args.global in
    let rows = c.args.table.now.rows in
    let are = subst (AreRowRoots old c.possible_questions.new.pass.words global rows) (sym c.as_slice.ensures) c.in_ok-roots.ensures.roots in
    (old, global, subst (λ ws. AreRowRoots old ws global rows c.as_slice.result.now) (sym c.words-words.ensures.words) are)

pub returns-in-Ok-clause-lists : goal.returns-in-Ok-clause-lists
returns-in-Ok-clause-lists g c =
    let old = c.args.pass.now.words in
    let global = c.args.global in
    let rows = c.args.table.now.rows in
    let are = subst (AreRowRoots old c.possible_questions.new.pass.words global rows) (sym c.as_slice.ensures) c.in_ok-roots.ensures.roots in
    c.in-Ok.ensures old global (subst (λ ws. AreRowRoots old ws global rows c.as_slice.result.now) (sym c.words-words.ensures.words) are)
