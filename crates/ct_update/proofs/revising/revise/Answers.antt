use Rattle.std.{proofs.Common.{ℕ, List, ◌∙◌, length, ap, sym, subst, arith}, specs.Prelude.{All, IsTrue, IfSome}, specs.List.filter}
use Rattle.std.{proofs.lemmas.Result.err_from_is_err_and, proofs.lemmas.List.Elements.All-weaker}
use Rattle.ct_word.{specs.WellFormed.{is_place_of}, specs.Reading.condition_at, proofs.Prefixes.{prefix_of_prefix, place_in_prefix}}
use Rattle.ct_query.specs.{Bounds.ops, Updates.with_items}
use Rattle.ct_condition.proofs.Writes.{writes_both, writes_within}
use Rattle.ct_operators.{specs.Tables.{IsRow, AreRows}, specs.Merging.{IsGathered, is_possible}, proofs.Growing.rows_grow}
use Rattle.ct_update.{specs.Updating.{all_halves}, specs.Revising.AreReplaced}
use Rattle.ct_update.proofs.{Updates.{halves_stay, words_of_both, builds_later, updated_values, updated_part, updated_from}, Replacing.{replaced_over, replaced_gathers}}
use Rattle.ct_word.specs.declared.kinds.Class.TheVariants as class
use Rattle.ct_update.proofs.revising.revise.Goals as goal

pub replaced-requires-clause-rows : goal.replaced-requires-clause-rows
replaced-requires-clause-rows g c =
    let old = g.I.Interner.list c.args.pass.now in
    let now = g.I.Interner.list c.splits.new.pass in
    let width = length (g.T.RowSource.table c.args.table.now).columns in
    let rows = (g.T.RowSource.table c.args.table.now).rows in
    subst (λ ws. AreRows ws width rows) (sym c.words-2.ensures.words) (rows_grow old now c.in_ok-conds.ensures.writes.longer c.words.ensures.formed width rows c.requires.rows)

pub replaced-requires-clause-terms : goal.replaced-requires-clause-terms
replaced-requires-clause-terms g c =
    let old = g.I.Interner.list c.args.pass.now in
    let now = g.I.Interner.list c.splits.new.pass in
    subst (λ ws. All (λ s. IsTrue (is_place_of ws class.Term s.1)) c.args.sets.now) (sym c.words-2.ensures.words)
    (All-weaker (λ s. IsTrue (is_place_of old class.Term s.1)) (λ s. IsTrue (is_place_of now class.Term s.1)) (λ s. place_in_prefix old now class.Term s.1 c.in_ok-conds.ensures.writes.longer) c.args.sets.now c.requires.update.terms)

pub replaced-requires-clause-long : goal.replaced-requires-clause-long
replaced-requires-clause-long g c = ap (λ (l : List (ℕ × ℕ)). length l) c.as_slice.ensures.value ∙ (c.in_ok-conds.ensures.split c.args.sets.now c.requires.update).long

pub replaced-requires-clause-halves : goal.replaced-requires-clause-halves
replaced-requires-clause-halves g c =
    let old = g.I.Interner.list c.args.pass.now in
    let now = g.I.Interner.list c.splits.new.pass in
    let width = length (g.T.RowSource.table c.args.table.now).columns in
    let rows = (g.T.RowSource.table c.args.table.now).rows in
    let sets = c.args.sets.now in
    let conds = c.in_ok-conds.conds.items in
    let split = c.in_ok-conds.ensures.split sets c.requires.update in
    let same = halves_stay old now c.in_ok-conds.ensures.writes.longer sets c.requires.update.terms rows conds in
    subst (λ ws. All (IsRow ws width) (all_halves ws sets rows c.as_slice.result.now)) (sym c.words-2.ensures.words)
    (subst (λ bs. All (IsRow now width) (all_halves now sets rows bs)) (sym c.as_slice.ensures.value) (subst (All (IsRow now width)) (sym same) split.updates.each))

pub gathered-requires-clause-terms : goal.gathered-requires-clause-terms
gathered-requires-clause-terms g c =
    let old = g.I.Interner.list c.args.pass.now in
    let now = g.I.Interner.list c.splits.new.pass in
    (All-weaker (λ s. IsTrue (is_place_of old class.Term s.1)) (λ s. IsTrue (is_place_of now class.Term s.1)) (λ s. place_in_prefix old now class.Term s.1 c.in_ok-conds.ensures.writes.longer) c.args.sets.now c.requires.update.terms)

pub gathered-requires-clause-long : goal.gathered-requires-clause-long
gathered-requires-clause-long g c = ap (λ (l : List (ℕ × ℕ)). length l) c.as_slice-2.ensures.value ∙ (c.in_ok-conds.ensures.split c.args.sets.now c.requires.update).long

pub gathered-requires-clause-halves : goal.gathered-requires-clause-halves
gathered-requires-clause-halves g c =
    let old = g.I.Interner.list c.args.pass.now in
    let now = g.I.Interner.list c.splits.new.pass in
    let width = length (g.T.RowSource.table c.args.table.now).columns in
    let rows = (g.T.RowSource.table c.args.table.now).rows in
    let sets = c.args.sets.now in
    let conds = c.in_ok-conds.conds.items in
    let split = c.in_ok-conds.ensures.split sets c.requires.update in
    let same = halves_stay old now c.in_ok-conds.ensures.writes.longer sets c.requires.update.terms rows conds in
    (subst (λ bs. All (IsRow now width) (all_halves now sets rows bs)) (sym c.as_slice-2.ensures.value) (subst (All (IsRow now width)) (sym same) split.updates.each))

pub returns-in-Some-clause-rows : goal.returns-in-Some-clause-rows
returns-in-Some-clause-rows g c =
    let old = g.I.Interner.list c.args.pass.now in
    let now = g.I.Interner.list c.splits.new.pass in
    let width = length (g.T.RowSource.table c.args.table.now).columns in
    let rows = (g.T.RowSource.table c.args.table.now).rows in
    let sets = c.args.sets.now in
    let conds = c.in_ok-conds.conds.items in
    let split = c.in_ok-conds.ensures.split sets c.requires.update in
    let same = halves_stay old now c.in_ok-conds.ensures.writes.longer sets c.requires.update.terms rows conds in
    let edits = c.in-Some.edits.items in
    let are = replaced_over c.words-2.result.now now sets rows c.as_slice.result.now conds edits c.words-2.ensures.words c.as_slice.ensures.value
    (subst (λ o. IfSome o (λ es. AreReplaced c.words-2.result.now sets rows c.as_slice.result.now es.items)) c.in-Some.is c.in_ok-edits.ensures) in
    let is = subst (λ l. IsGathered now width (filter is_possible l) (with_items edits rows)) same (replaced_gathers now width sets rows conds edits (subst (All (IsRow now width)) (sym same) split.updates.each) are) in
    let updates = split.updates in
    is.are

pub returns-in-Some-clause-tuples : goal.returns-in-Some-clause-tuples
returns-in-Some-clause-tuples g c v =
    let old = g.I.Interner.list c.args.pass.now in
    let now = g.I.Interner.list c.splits.new.pass in
    let width = length (g.T.RowSource.table c.args.table.now).columns in
    let rows = (g.T.RowSource.table c.args.table.now).rows in
    let sets = c.args.sets.now in
    let conds = c.in_ok-conds.conds.items in
    let split = c.in_ok-conds.ensures.split sets c.requires.update in
    let same = halves_stay old now c.in_ok-conds.ensures.writes.longer sets c.requires.update.terms rows conds in
    let edits = c.in-Some.edits.items in
    let are = replaced_over c.words-2.result.now now sets rows c.as_slice.result.now conds edits c.words-2.ensures.words c.as_slice.ensures.value
    (subst (λ o. IfSome o (λ es. AreReplaced c.words-2.result.now sets rows c.as_slice.result.now es.items)) c.in-Some.is c.in_ok-edits.ensures) in
    let is = subst (λ l. IsGathered now width (filter is_possible l) (with_items edits rows)) same (replaced_gathers now width sets rows conds edits (subst (All (IsRow now width)) (sym same) split.updates.each) are) in
    let updates = split.updates in
    updated_values _ _ _ _ _ _ _ _ updates is (prefix_of_prefix _ _ _ c.words.ensures.begins updates.grown) c.in_ok-conds.ensures.writes.formed v

pub returns-in-Some-clause-part : goal.returns-in-Some-clause-part
returns-in-Some-clause-part g c =
    let old = g.I.Interner.list c.args.pass.now in
    let now = g.I.Interner.list c.splits.new.pass in
    let width = length (g.T.RowSource.table c.args.table.now).columns in
    let rows = (g.T.RowSource.table c.args.table.now).rows in
    let sets = c.args.sets.now in
    let conds = c.in_ok-conds.conds.items in
    let split = c.in_ok-conds.ensures.split sets c.requires.update in
    let same = halves_stay old now c.in_ok-conds.ensures.writes.longer sets c.requires.update.terms rows conds in
    let edits = c.in-Some.edits.items in
    let are = replaced_over c.words-2.result.now now sets rows c.as_slice.result.now conds edits c.words-2.ensures.words c.as_slice.ensures.value
    (subst (λ o. IfSome o (λ es. AreReplaced c.words-2.result.now sets rows c.as_slice.result.now es.items)) c.in-Some.is c.in_ok-edits.ensures) in
    let is = subst (λ l. IsGathered now width (filter is_possible l) (with_items edits rows)) same (replaced_gathers now width sets rows conds edits (subst (All (IsRow now width)) (sym same) split.updates.each) are) in
    let updates = split.updates in
    updated_part _ _ _ _ _ _ _ _ updates is

pub returns-in-Some-clause-order : goal.returns-in-Some-clause-order
returns-in-Some-clause-order g c =
    let old = g.I.Interner.list c.args.pass.now in
    let now = g.I.Interner.list c.splits.new.pass in
    let width = length (g.T.RowSource.table c.args.table.now).columns in
    let rows = (g.T.RowSource.table c.args.table.now).rows in
    let sets = c.args.sets.now in
    let conds = c.in_ok-conds.conds.items in
    let split = c.in_ok-conds.ensures.split sets c.requires.update in
    let same = halves_stay old now c.in_ok-conds.ensures.writes.longer sets c.requires.update.terms rows conds in
    let edits = c.in-Some.edits.items in
    let are = replaced_over c.words-2.result.now now sets rows c.as_slice.result.now conds edits c.words-2.ensures.words c.as_slice.ensures.value
    (subst (λ o. IfSome o (λ es. AreReplaced c.words-2.result.now sets rows c.as_slice.result.now es.items)) c.in-Some.is c.in_ok-edits.ensures) in
    let is = subst (λ l. IsGathered now width (filter is_possible l) (with_items edits rows)) same (replaced_gathers now width sets rows conds edits (subst (All (IsRow now width)) (sym same) split.updates.each) are) in
    let updates = split.updates in
    record { halves = _; updates = updates; order = is.order }

pub returns-in-Some-clause-terms : goal.returns-in-Some-clause-terms
returns-in-Some-clause-terms g c =
    let old = g.I.Interner.list c.args.pass.now in
    let now = g.I.Interner.list c.splits.new.pass in
    let width = length (g.T.RowSource.table c.args.table.now).columns in
    let rows = (g.T.RowSource.table c.args.table.now).rows in
    let sets = c.args.sets.now in
    let conds = c.in_ok-conds.conds.items in
    let split = c.in_ok-conds.ensures.split sets c.requires.update in
    let same = halves_stay old now c.in_ok-conds.ensures.writes.longer sets c.requires.update.terms rows conds in
    let edits = c.in-Some.edits.items in
    let are = replaced_over c.words-2.result.now now sets rows c.as_slice.result.now conds edits c.words-2.ensures.words c.as_slice.ensures.value
    (subst (λ o. IfSome o (λ es. AreReplaced c.words-2.result.now sets rows c.as_slice.result.now es.items)) c.in-Some.is c.in_ok-edits.ensures) in
    let is = subst (λ l. IsGathered now width (filter is_possible l) (with_items edits rows)) same (replaced_gathers now width sets rows conds edits (subst (All (IsRow now width)) (sym same) split.updates.each) are) in
    let updates = split.updates in
    updated_from _ _ _ _ _ _ _ _ updates is

pub returns-clause-rows : goal.returns-clause-rows
returns-clause-rows g c =
    let old = g.I.Interner.list c.args.pass.now in
    let now = g.I.Interner.list c.splits.new.pass in
    let width = length (g.T.RowSource.table c.args.table.now).columns in
    let rows = (g.T.RowSource.table c.args.table.now).rows in
    let sets = c.args.sets.now in
    let conds = c.in_ok-conds.conds.items in
    let split = c.in_ok-conds.ensures.split sets c.requires.update in
    let same = halves_stay old now c.in_ok-conds.ensures.writes.longer sets c.requires.update.terms rows conds in
    let new = g.I.Interner.list c.gathered.new.pass in
    let is = subst (λ l. IsGathered new width (filter is_possible l) c.in_ok-table.table.rows) (ap (all_halves now sets rows) c.as_slice-2.ensures.value ∙ same) c.in_ok-table.ensures.gathered in
    let updates = builds_later old now new c.in_ok-table.ensures.writes.longer c.in_ok-conds.ensures.writes.formed width _ _ _ _ split.updates in
    is.are

pub returns-clause-tuples : goal.returns-clause-tuples
returns-clause-tuples g c v =
    let old = g.I.Interner.list c.args.pass.now in
    let now = g.I.Interner.list c.splits.new.pass in
    let width = length (g.T.RowSource.table c.args.table.now).columns in
    let rows = (g.T.RowSource.table c.args.table.now).rows in
    let sets = c.args.sets.now in
    let conds = c.in_ok-conds.conds.items in
    let split = c.in_ok-conds.ensures.split sets c.requires.update in
    let same = halves_stay old now c.in_ok-conds.ensures.writes.longer sets c.requires.update.terms rows conds in
    let new = g.I.Interner.list c.gathered.new.pass in
    let is = subst (λ l. IsGathered new width (filter is_possible l) c.in_ok-table.table.rows) (ap (all_halves now sets rows) c.as_slice-2.ensures.value ∙ same) c.in_ok-table.ensures.gathered in
    let updates = builds_later old now new c.in_ok-table.ensures.writes.longer c.in_ok-conds.ensures.writes.formed width _ _ _ _ split.updates in
    updated_values _ _ _ _ _ _ _ _ updates is (prefix_of_prefix _ _ _ c.words.ensures.begins updates.grown) c.in_ok-table.ensures.writes.formed v

pub returns-clause-part : goal.returns-clause-part
returns-clause-part g c =
    let old = g.I.Interner.list c.args.pass.now in
    let now = g.I.Interner.list c.splits.new.pass in
    let width = length (g.T.RowSource.table c.args.table.now).columns in
    let rows = (g.T.RowSource.table c.args.table.now).rows in
    let sets = c.args.sets.now in
    let conds = c.in_ok-conds.conds.items in
    let split = c.in_ok-conds.ensures.split sets c.requires.update in
    let same = halves_stay old now c.in_ok-conds.ensures.writes.longer sets c.requires.update.terms rows conds in
    let new = g.I.Interner.list c.gathered.new.pass in
    let is = subst (λ l. IsGathered new width (filter is_possible l) c.in_ok-table.table.rows) (ap (all_halves now sets rows) c.as_slice-2.ensures.value ∙ same) c.in_ok-table.ensures.gathered in
    let updates = builds_later old now new c.in_ok-table.ensures.writes.longer c.in_ok-conds.ensures.writes.formed width _ _ _ _ split.updates in
    updated_part _ _ _ _ _ _ _ _ updates is

pub returns-clause-order : goal.returns-clause-order
returns-clause-order g c =
    let old = g.I.Interner.list c.args.pass.now in
    let now = g.I.Interner.list c.splits.new.pass in
    let width = length (g.T.RowSource.table c.args.table.now).columns in
    let rows = (g.T.RowSource.table c.args.table.now).rows in
    let sets = c.args.sets.now in
    let conds = c.in_ok-conds.conds.items in
    let split = c.in_ok-conds.ensures.split sets c.requires.update in
    let same = halves_stay old now c.in_ok-conds.ensures.writes.longer sets c.requires.update.terms rows conds in
    let new = g.I.Interner.list c.gathered.new.pass in
    let is = subst (λ l. IsGathered new width (filter is_possible l) c.in_ok-table.table.rows) (ap (all_halves now sets rows) c.as_slice-2.ensures.value ∙ same) c.in_ok-table.ensures.gathered in
    let updates = builds_later old now new c.in_ok-table.ensures.writes.longer c.in_ok-conds.ensures.writes.formed width _ _ _ _ split.updates in
    record { halves = _; updates = updates; order = is.order }

pub returns-clause-terms : goal.returns-clause-terms
returns-clause-terms g c =
    let old = g.I.Interner.list c.args.pass.now in
    let now = g.I.Interner.list c.splits.new.pass in
    let width = length (g.T.RowSource.table c.args.table.now).columns in
    let rows = (g.T.RowSource.table c.args.table.now).rows in
    let sets = c.args.sets.now in
    let conds = c.in_ok-conds.conds.items in
    let split = c.in_ok-conds.ensures.split sets c.requires.update in
    let same = halves_stay old now c.in_ok-conds.ensures.writes.longer sets c.requires.update.terms rows conds in
    let new = g.I.Interner.list c.gathered.new.pass in
    let is = subst (λ l. IsGathered new width (filter is_possible l) c.in_ok-table.table.rows) (ap (all_halves now sets rows) c.as_slice-2.ensures.value ∙ same) c.in_ok-table.ensures.gathered in
    let updates = builds_later old now new c.in_ok-table.ensures.writes.longer c.in_ok-conds.ensures.writes.formed width _ _ _ _ split.updates in
    updated_from _ _ _ _ _ _ _ _ updates is

pub returns-in-Some-clause-fits : goal.returns-in-Some-clause-fits
returns-in-Some-clause-fits g c =
    (subst (λ o. IfSome o (λ es. AreReplaced c.words-2.result.now c.args.sets.now (g.T.RowSource.table c.args.table.now).rows c.as_slice.result.now es.items)) c.in-Some.is c.in_ok-edits.ensures).within

pub returns-in-Some-clause-writes : goal.returns-in-Some-clause-writes
returns-in-Some-clause-writes g c = writes_within _ (omega (arith, words_of_both (length (g.T.RowSource.table c.args.table.now).rows) (ops (condition_at (g.I.Interner.list c.args.pass.now) c.args.cond)))) c.in_ok-conds.ensures.writes

pub returns-clause-writes : goal.returns-clause-writes
returns-clause-writes g c = writes_within _ (omega (arith, words_of_both (length (g.T.RowSource.table c.args.table.now).rows) (ops (condition_at (g.I.Interner.list c.args.pass.now) c.args.cond)))) (writes_both c.in_ok-conds.ensures.writes c.in_ok-table.ensures.writes)

pub returns-in_err-conds-clause-writes : goal.returns-in_err-conds-clause-writes
returns-in_err-conds-clause-writes g c =
    let exit = err_from_is_err_and c.from_residual.result c.from_residual.ensures.1 in
    rw (exit.1, exit.2) (writes_within _ (omega (arith, words_of_both (length (g.T.RowSource.table c.args.table.now).rows) (ops (condition_at (g.I.Interner.list c.args.pass.now) c.args.cond)))) c.in_err-conds.ensures.writes)

pub returns-in_err-edits-clause-writes : goal.returns-in_err-edits-clause-writes
returns-in_err-edits-clause-writes g c =
    let exit = err_from_is_err_and c.from_residual-in_err-edits.result c.from_residual-in_err-edits.ensures.1 in
    rw (exit.1, exit.2) (writes_within _ (omega (arith, words_of_both (length (g.T.RowSource.table c.args.table.now).rows) (ops (condition_at (g.I.Interner.list c.args.pass.now) c.args.cond)))) c.in_ok-conds.ensures.writes)

pub returns-in_err-table-clause-writes : goal.returns-in_err-table-clause-writes
returns-in_err-table-clause-writes g c =
    let exit = err_from_is_err_and c.from_residual-in_err-table.result c.from_residual-in_err-table.ensures.1 in
    rw (exit.1, exit.2) (writes_within _ (omega (arith, words_of_both (length (g.T.RowSource.table c.args.table.now).rows) (ops (condition_at (g.I.Interner.list c.args.pass.now) c.args.cond)))) (writes_both c.in_ok-conds.ensures.writes c.in_err-table.ensures.writes))
