use Rattle.std.{proofs.Common.{ℕ, List, ◌∙◌, length, ap, sym, subst, arith}, specs.Prelude.{All, IsTrue, IfOk}, specs.List.filter}
use Rattle.std.{proofs.lemmas.Result.{IfOk-weaker, err_from_is_err_and}, proofs.lemmas.List.Elements.All-weaker}
use Rattle.ct_word.{specs.WellFormed.{is_place_of}, specs.Reading.condition_at, proofs.Prefixes.{prefix_of_prefix, place_in_prefix}}
use Rattle.ct_query.specs.Bounds.{ops}
use Rattle.ct_condition.proofs.Writes.{writes_both, writes_within}
use Rattle.ct_operators.{specs.Tables.{IsRow}, specs.Merging.{IsGathered, is_possible}}
use Rattle.ct_update.specs.Updating.{Updates, all_halves}
use Rattle.ct_update.proofs.Updates.{halves_stay, words_of_both, builds_later, updated_values, updated_part, updated_from}
use Rattle.ct_word.specs.declared.kinds.Class.TheVariants as class
use Rattle.ct_update.proofs.updating.update.Goals.{After-gathered}
use Rattle.ct_update.proofs.updating.update.Goals as goal

pub gathered-requires-clause-terms : goal.gathered-requires-clause-terms
gathered-requires-clause-terms g c =
    let old = g.I.Interner.list c.args.pass.now in
    let now = g.I.Interner.list c.splits.new.pass in
    All-weaker (λ s. IsTrue (is_place_of old class.Term s.1)) (λ s. IsTrue (is_place_of now class.Term s.1)) (λ s. place_in_prefix old now class.Term s.1 c.in_ok-conds.ensures.writes.longer) c.args.sets.now c.requires.update.terms

pub gathered-requires-clause-long : goal.gathered-requires-clause-long
gathered-requires-clause-long g c =
    ap (λ (l : List (ℕ × ℕ)). length l) c.as_slice.ensures.value ∙ (c.in_ok-conds.ensures.split c.args.sets.now c.requires.update).long

pub gathered-requires-clause-halves : goal.gathered-requires-clause-halves
gathered-requires-clause-halves g c =
    let old = g.I.Interner.list c.args.pass.now in
    let now = g.I.Interner.list c.splits.new.pass in
    let width = length (g.T.RowSource.table c.args.table.now).columns in
    let rows = (g.T.RowSource.table c.args.table.now).rows in
    let sets = c.args.sets.now in
    let conds = c.in_ok-conds.conds.items in
    subst (λ bs. All (IsRow now width) (all_halves now sets rows bs)) (sym c.as_slice.ensures.value)
    (subst (All (IsRow now width)) (sym (halves_stay old now c.in_ok-conds.ensures.writes.longer sets c.requires.update.terms rows conds)) (c.in_ok-conds.ensures.split sets c.requires.update).updates.each)

-- what came of all rows
updates : (g : _) (c : After-gathered g) → Updates (g.I.Interner.list c.args.pass.now) (g.I.Interner.list c.gathered.new.pass) (length (g.T.RowSource.table c.args.table.now).columns) c.args.sets.now c.args.cond
    (g.T.RowSource.table c.args.table.now).rows (all_halves (g.I.Interner.list c.args.pass.now) c.args.sets.now (g.T.RowSource.table c.args.table.now).rows c.in_ok-conds.conds.items)
updates g c =
    builds_later (g.I.Interner.list c.args.pass.now) (g.I.Interner.list c.splits.new.pass) (g.I.Interner.list c.gathered.new.pass) c.gathered.ensures.writes.longer c.in_ok-conds.ensures.writes.formed
    (length (g.T.RowSource.table c.args.table.now).columns) _ _ _ _ (c.in_ok-conds.ensures.split c.args.sets.now c.requires.update).updates

-- and what is gathered of it
gathers : (g : _) (c : After-gathered g) → IfOk c.gathered.result (λ out. IsGathered (g.I.Interner.list c.gathered.new.pass) (length (g.T.RowSource.table c.args.table.now).columns)
    (filter is_possible (all_halves (g.I.Interner.list c.args.pass.now) c.args.sets.now (g.T.RowSource.table c.args.table.now).rows c.in_ok-conds.conds.items)) out.rows)
gathers g c =
    let old = g.I.Interner.list c.args.pass.now in
    let now = g.I.Interner.list c.splits.new.pass in
    let new = g.I.Interner.list c.gathered.new.pass in
    let width = length (g.T.RowSource.table c.args.table.now).columns in
    let rows = (g.T.RowSource.table c.args.table.now).rows in
    let sets = c.args.sets.now in
    subst (λ l. IfOk c.gathered.result (λ out. IsGathered new width (filter is_possible l) out.rows))
    (ap (all_halves now sets rows) c.as_slice.ensures.value ∙ halves_stay old now c.in_ok-conds.ensures.writes.longer sets c.requires.update.terms rows c.in_ok-conds.conds.items) c.gathered.ensures.gathered

pub returns-clause-rows : goal.returns-clause-rows
returns-clause-rows g c = IfOk-weaker c.gathered.result _ _ (λ out is. is.are) (gathers g (goal.at.returns-clause-rows g c).After-gathered)

pub returns-clause-tuples : goal.returns-clause-tuples
returns-clause-tuples g c v =
    let at = (goal.at.returns-clause-tuples g c).After-gathered in
    let begins = prefix_of_prefix _ _ _ c.words.ensures.begins (updates g at).grown in
    IfOk-weaker c.gathered.result _ _ (λ out is. updated_values _ _ _ _ _ _ _ _ (updates g at) is begins c.gathered.ensures.writes.formed v) (gathers g at)

pub returns-clause-part : goal.returns-clause-part
returns-clause-part g c =
    let at = (goal.at.returns-clause-part g c).After-gathered in
    IfOk-weaker c.gathered.result _ _ (λ out is. updated_part _ _ _ _ _ _ _ _ (updates g at) is) (gathers g at)

pub returns-clause-order : goal.returns-clause-order
returns-clause-order g c =
    let at = (goal.at.returns-clause-order g c).After-gathered in
    IfOk-weaker c.gathered.result _ _ (λ out is. record { halves = _; updates = updates g at; order = is.order }) (gathers g at)

pub returns-clause-terms : goal.returns-clause-terms
returns-clause-terms g c =
    let at = (goal.at.returns-clause-terms g c).After-gathered in
    IfOk-weaker c.gathered.result _ _ (λ out is. updated_from _ _ _ _ _ _ _ _ (updates g at) is) (gathers g at)

pub returns-clause-writes : goal.returns-clause-writes
returns-clause-writes g c = writes_within _ (omega (arith, words_of_both (length (g.T.RowSource.table c.args.table.now).rows) (ops (condition_at (g.I.Interner.list c.args.pass.now) c.args.cond)))) (writes_both c.in_ok-conds.ensures.writes c.gathered.ensures.writes)

pub returns-in_err-conds-clause-writes : goal.returns-in_err-conds-clause-writes
returns-in_err-conds-clause-writes g c =
    let exit = err_from_is_err_and c.from_residual.result c.from_residual.ensures.1 in
    rw (exit.1, exit.2) (writes_within _ (omega (arith, words_of_both (length (g.T.RowSource.table c.args.table.now).rows) (ops (condition_at (g.I.Interner.list c.args.pass.now) c.args.cond)))) c.in_err-conds.ensures.writes)
