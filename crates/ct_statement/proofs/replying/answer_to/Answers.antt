use Rattle.std.{proofs.Common.{◌∙◌, List, [], false, ap, arith, length, refl, subst, sym}, specs.{Arc.arc_value, Prelude.{None, IsTrue}}}
use Rattle.ct_word.specs.WellFormed.{is_place_of}
use Rattle.ct_query.{specs.Bounds.bound, specs.Patterns.count, specs.Schema.schema, specs.Views.query_of}
use Rattle.ct_condition.proofs.Writes.{writes_both, writes_within}
use Rattle.ct_condition.specs.Writes.{PassWrites}
use Rattle.ct_rewrite.specs.declared.answer.{CertainRow.CertainRow, PossibleRow.PossibleRow}
use Rattle.ct_operators.specs.Tables.{AreRows}
use Rattle.ct_table.proofs.Snapshots.{kept_grows}
use Rattle.ct_certain.specs.Certain.{IsKeptWorld}
use Rattle.ct_statement.{specs.Answered.Answers, specs.Making.{says_full, widths_in}, specs.Printed.IsPrinted, specs.Sight.{actions_before, history_of}, specs.Unmet.IsUnmet}
use Rattle.ct_statement.proofs.{Evaluating.{certain_fails, few_counted, possible_fails}, Frames.unlisted_full, KeptWorlds.world_taken, Making.asks_certain, Meaning.answer_means}
use Rattle.ct_statement.proofs.{Questions.{certain_right, possible_right}, Wanting.unasked_unmet}
use Rattle.ct_word.specs.declared.kinds.Class.TheVariants as class
use Rattle.ct_query.specs.Plain as plain
use Rattle.ct_query.specs.declared.action.Ask.TheVariants as ask
use Rattle.ct_statement.specs.declared.replying.Answered.TheVariants as answered
use Rattle.ct_statement.proofs.replying.answer_to.Goals as goal

pub returns-in-Err-clause-err : goal.returns-in-Err-clause-err
returns-in-Err-clause-err g c =
    unasked_unmet (history_of c.args.pass.now.words c.args.sight.now) (actions_before c.args.sight.now) g.N.Site.log.cap c.answered.new.pass.words c.args.kind c.args.columns (query_of c.args.query.now) c.in-Err.why
    c.in-Err.ensures.err

pub returns-in-Err-clause-writes : goal.returns-in-Err-clause-writes
returns-in-Err-clause-writes g c = writes_within _ (omega arith) c.in-Err.ensures.writes

-- the rows
pub answer_of-requires-clause-global : goal.answer_of-requires-clause-global
answer_of-requires-clause-global g c = subst (λ ws. IsTrue (is_place_of ws class.Cond c.args.sight.now.global)) (sym c.words-words.ensures.words) c.in-Ok.ensures.ok.condition.place

pub answer_of-requires-clause-rows : goal.answer_of-requires-clause-rows
answer_of-requires-clause-rows g c =
    subst (λ ws. AreRows ws (length c.args.columns) c.as_slice-rows.result.now) (sym c.words-words.ensures.words)
    (subst (λ rs. AreRows c.answered.new.pass.words (length c.args.columns) rs) (sym c.as_slice-rows.ensures)
    (subst (λ n. AreRows c.answered.new.pass.words n c.in-Ok.table.rows) (c.in-Ok.ensures.width ∙ sym c.requires.named) c.in-Ok.ensures.ok.are))

pub returns-in_ok-answer-in-Rows-clause-ok : goal.returns-in_ok-answer-in-Rows-clause-ok
returns-in_ok-answer-in-Rows-clause-ok g c =
    let old = c.args.pass.now.words in
    let s = c.args.sight.now in
    let h = history_of old s in
    let actions = actions_before s in
    let q = query_of c.args.query.now in
    let table = c.in-Ok.table in
    let new = c.answered.new.pass.words in
    let answer = c.in_ok-answer-in-Rows.answer in
    let printed = subst (λ rs. IsPrinted c.words-words.result.now c.args.columns s.global rs answer) c.as_slice-rows.ensures c.in_ok-answer-in-Rows.ensures in
    subst (λ k. Answers h actions new k c.args.columns q (answered.Rows answer)) (sym c.in-Rows.is)
    (answer_means new s.global h actions q (length table.columns) table.rows c.in-Ok.ensures.ok c.args.columns answer (subst (λ ws. IsPrinted ws c.args.columns s.global table.rows answer) c.words-words.ensures.words printed))

pub returns-in_ok-answer-in-Rows-clause-writes : goal.returns-in_ok-answer-in-Rows-clause-writes
returns-in_ok-answer-in-Rows-clause-writes g c = writes_within _ (omega arith) c.in-Ok.ensures.writes

-- the possible ones
pub possible-requires-clause-global : goal.possible-requires-clause-global
possible-requires-clause-global g c κs within = c.in-Ok.ensures.ok.condition.place

pub possible-requires-clause-plain : goal.possible-requires-clause-plain
possible-requires-clause-plain g c κs within = c.in-Ok.ensures.ok.condition.plain

pub returns-in-Ok-possible-clause-ok : goal.returns-in-Ok-possible-clause-ok
returns-in-Ok-possible-clause-ok g c =
    let old = c.args.pass.now.words in
    let s = c.args.sight.now in
    let h = history_of old s in
    let actions = actions_before s in
    let q = query_of c.args.query.now in
    let table = c.in-Ok.table in
    let list = c.in-Ok-possible.list in
    subst (λ k. Answers h actions c.possible.new.pass.words k c.args.columns q (answered.Possible c.args.columns list)) (sym c.in-Possible.is)
    (refl, possible_right c.answered.new.pass.words s.global h actions q (length table.columns) table.rows c.in-Ok.ensures.ok list c.in-Ok-possible.ensures.lists)

pub returns-in-Err-possible-clause-err : goal.returns-in-Err-possible-clause-err
returns-in-Err-possible-clause-err g c =
    let old = c.args.pass.now.words in
    let s = c.args.sight.now in
    let h = history_of old s in
    let actions = actions_before s in
    let q = query_of c.args.query.now in
    let table = c.in-Ok.table in
    subst (λ k. IsUnmet h actions g.N.Site.log.cap c.possible.new.pass.words (plain.Asks k c.args.columns q) c.unlisted.result) (sym c.in-Possible.is)
    (subst (IsUnmet h actions g.N.Site.log.cap c.possible.new.pass.words (plain.Asks ask.Possible c.args.columns q)) (sym c.unlisted.ensures)
    (possible_fails old h actions s.tables c.requires.sight.denotes (List PossibleRow) c.answered.new.pass c.possible.new.pass q c.args.columns (length table.rows) c.in-Ok.ensures.few c.in-Err-possible.e c.in-Err-possible.ensures.writes))

pub returns-in-Ok-possible-clause-writes : goal.returns-in-Ok-possible-clause-writes
returns-in-Ok-possible-clause-writes g c =
    let old = c.args.pass.now.words in
    let s = c.args.sight.now in
    let h = history_of old s in
    let actions = actions_before s in
    let q = query_of c.args.query.now in
    let table = c.in-Ok.table in
    let few = few_counted old h actions s.tables c.requires.sight.denotes q (length table.rows) c.in-Ok.ensures.few in
    subst (λ k. PassWrites g.N.Site.log.cap c.args.pass.now c.possible.new.pass (bound (count h actions) (widths_in (schema h actions).tables) None (plain.Asks k [] q)) false) (sym c.in-Possible.is)
    (writes_within _ (omega (arith, few)) (writes_both c.in-Ok.ensures.writes c.in-Ok-possible.ensures.writes))

pub returns-in-Err-possible-clause-writes : goal.returns-in-Err-possible-clause-writes
returns-in-Err-possible-clause-writes g c =
    let old = c.args.pass.now.words in
    let s = c.args.sight.now in
    let h = history_of old s in
    let actions = actions_before s in
    let q = query_of c.args.query.now in
    let table = c.in-Ok.table in
    let few = few_counted old h actions s.tables c.requires.sight.denotes q (length table.rows) c.in-Ok.ensures.few in
    let refused = ap says_full c.unlisted.ensures ∙ unlisted_full (List PossibleRow) c.in-Err-possible.e in
    subst (λ k. PassWrites g.N.Site.log.cap c.args.pass.now c.possible.new.pass (bound (count h actions) (widths_in (schema h actions).tables) None (plain.Asks k [] q)) (says_full c.unlisted.result)) (sym c.in-Possible.is)
    (subst (PassWrites g.N.Site.log.cap c.args.pass.now c.possible.new.pass (bound (count h actions) (widths_in (schema h actions).tables) None (plain.Asks ask.Possible [] q))) (sym refused)
    (writes_within _ (omega (arith, few)) (writes_both c.in-Ok.ensures.writes c.in-Err-possible.ensures.writes)))

-- the certain tuples
pub certain-listed-requires-clause-global : goal.certain-listed-requires-clause-global
certain-listed-requires-clause-global g c κs within = c.in-Ok.ensures.ok.condition.place

pub certain-listed-requires-clause-plain : goal.certain-listed-requires-clause-plain
certain-listed-requires-clause-plain g c κs within = c.in-Ok.ensures.ok.condition.plain

pub certain-listed-requires-clause-kept : goal.certain-listed-requires-clause-kept
certain-listed-requires-clause-kept g c κs within =
    let old = c.args.pass.now.words in
    let s = c.args.sight.now in
    let new = c.answered.new.pass.words in
    let h = history_of old s in
    let actions = actions_before s in
    let kept = arc_value s.kept in
    subst (IsKeptWorld new s.global) (sym c.deref.ensures)
    (world_taken new h actions s.global kept c.in-Ok.ensures.ok.condition (kept_grows old new c.answered.ensures.writes.longer c.words-words.ensures.formed h actions kept c.requires.sight.world))

pub returns-in-Ok-listed-clause-ok : goal.returns-in-Ok-listed-clause-ok
returns-in-Ok-listed-clause-ok g c =
    let old = c.args.pass.now.words in
    let s = c.args.sight.now in
    let h = history_of old s in
    let actions = actions_before s in
    let q = query_of c.args.query.now in
    let table = c.in-Ok.table in
    let list = c.in-Ok-listed.list in
    let new = c.certain-listed.new.pass.words in
    subst (λ k. Answers h actions new k c.args.columns q (answered.Certain c.args.columns list)) (sym c.in-Certain.is)
    (refl, certain_right c.answered.new.pass.words s.global h actions q (length table.columns) table.rows c.in-Ok.ensures.ok new _ list c.in-Ok-listed.ensures.lists)

pub returns-in-Err-listed-clause-err : goal.returns-in-Err-listed-clause-err
returns-in-Err-listed-clause-err g c =
    let old = c.args.pass.now.words in
    let s = c.args.sight.now in
    let h = history_of old s in
    let actions = actions_before s in
    let q = query_of c.args.query.now in
    let table = c.in-Ok.table in
    let new = c.certain-listed.new.pass.words in
    subst (λ k. IsUnmet h actions g.N.Site.log.cap new (plain.Asks k c.args.columns q) c.unlisted-in-Err-listed.result) (sym c.in-Certain.is)
    (subst (IsUnmet h actions g.N.Site.log.cap new (plain.Asks ask.Certain c.args.columns q)) (sym c.unlisted-in-Err-listed.ensures)
    (certain_fails old h actions s.tables c.requires.sight.denotes (List CertainRow) c.answered.new.pass c.certain-listed.new.pass q c.args.columns (length table.rows) c.in-Ok.ensures.few (length table.columns) c.in-Err-listed.e c.in-Err-listed.ensures.writes))

pub returns-in-Ok-listed-clause-writes : goal.returns-in-Ok-listed-clause-writes
returns-in-Ok-listed-clause-writes g c =
    let old = c.args.pass.now.words in
    let s = c.args.sight.now in
    let h = history_of old s in
    let actions = actions_before s in
    let q = query_of c.args.query.now in
    let table = c.in-Ok.table in
    let few = few_counted old h actions s.tables c.requires.sight.denotes q (length table.rows) c.in-Ok.ensures.few in
    subst (λ k. PassWrites g.N.Site.log.cap c.args.pass.now c.certain-listed.new.pass (bound (count h actions) (widths_in (schema h actions).tables) None (plain.Asks k [] q)) false) (sym c.in-Certain.is)
    (asks_certain (count h actions) (schema h actions).tables q (length table.rows) (length table.columns) few c.in-Ok.ensures.width c.words.ensures.counted c.words.ensures.small (writes_both c.in-Ok.ensures.writes c.in-Ok-listed.ensures.writes))

pub returns-in-Err-listed-clause-writes : goal.returns-in-Err-listed-clause-writes
returns-in-Err-listed-clause-writes g c =
    let old = c.args.pass.now.words in
    let s = c.args.sight.now in
    let h = history_of old s in
    let actions = actions_before s in
    let q = query_of c.args.query.now in
    let table = c.in-Ok.table in
    let few = few_counted old h actions s.tables c.requires.sight.denotes q (length table.rows) c.in-Ok.ensures.few in
    let refused = ap says_full c.unlisted-in-Err-listed.ensures ∙ unlisted_full (List CertainRow) c.in-Err-listed.e in
    subst (λ k. PassWrites g.N.Site.log.cap c.args.pass.now c.certain-listed.new.pass (bound (count h actions) (widths_in (schema h actions).tables) None (plain.Asks k [] q)) (says_full c.unlisted-in-Err-listed.result)) (sym c.in-Certain.is)
    (subst (PassWrites g.N.Site.log.cap c.args.pass.now c.certain-listed.new.pass (bound (count h actions) (widths_in (schema h actions).tables) None (plain.Asks ask.Certain [] q))) (sym refused)
    (asks_certain (count h actions) (schema h actions).tables q (length table.rows) (length table.columns) few c.in-Ok.ensures.width c.words.ensures.counted c.words.ensures.small (writes_both c.in-Ok.ensures.writes c.in-Err-listed.ensures.writes)))
