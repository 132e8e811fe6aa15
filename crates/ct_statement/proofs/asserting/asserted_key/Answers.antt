use Rattle.std.{proofs.Common.{inl, inr, ap, Ok, Err, ℕ, ◌≡◌, ◌≤◌, ◌<◌, ◌*◌, Some, false, length, sym, subst}, specs.Prelude.{All, IsSome, Result}, proofs.lemmas.Bool.cases_lt, proofs.lemmas.Result.err_from_is_err_and}
use Rattle.ct_query.specs.Assertions.{is_key}
use Rattle.ct_condition.proofs.Writes.{writes_none, writes_within}
use Rattle.ct_condition.specs.Writes.{PassWrites}
use Rattle.ct_operators.{specs.Building.HoldsWhere, specs.Tables.{value_of_rows}}
use Rattle.ct_table.{specs.Denotes.find_table, specs.Shared.view_of}
use Rattle.ct_algebra.specs.Evaluates.{limit}
use Rattle.ct_statement.specs.Sight.{actions_before, history_of}
use Rattle.ct_query.specs.Plain as plain
use Rattle.ct_transcript.specs.declared.reply.Refusal.{Refusal}
use Rattle.ct_table.specs.Counting.{rows_of_found}
use Rattle.ct_statement.{specs.Making.says_full, specs.Unmet.IsUnmet}
use Rattle.ct_statement.proofs.Asserts.{found_there, table_rows, table_width, key_words, key_asserted, key_too_large}
use Rattle.ct_statement.proofs.asserting.asserted_key.Goals as goal

-- a number that is not past the limit
not_past : (n : ℕ) → (limit < n → ⊥) → n ≤ limit
not_past n few = elim (cases_lt limit n) [ inl many ↦ absurd (few many) | inr within ↦ within ]

-- a result that is there is no refusal
is_ok : {T E : Type 0} {x : T} {e : E} → ◌≡◌ {A = Result T E} (Ok x) (Err e) → ⊥
is_ok e = cc

pub table_for_key-requires : goal.table_for_key-requires
table_for_key-requires g c =
    let old = c.args.pass.now.words in
    let s = c.args.sight.now in
    record { there = subst (λ db. IsSome (find_table db c.args.name.now)) (sym c.db.ensures) (found_there (history_of old s) (actions_before s) old s.tables c.requires.sight.denotes c.args.name.now c.requires.fits.0) }

pub returns-in-Err-clause-err : goal.returns-in-Err-clause-err
returns-in-Err-clause-err g c =
    let old = c.args.pass.now.words in
    let s = c.args.sight.now in
    let name = c.args.name.now in
    let h = history_of old s in
    let why = c.in-Err.why in
    let unmet : Refusal → Type 0 = IsUnmet h (actions_before s) g.N.Site.log.cap old (plain.Act (plain.AssertKey name c.args.columns.now)) in
    elim c.in-Err.ensures.err [
      | inl e ↦
          let many = subst (λ db. limit < rows_of_found (find_table db name) * rows_of_found (find_table db name)) c.db.ensures (c.in-Err.ensures.too_large.0 (ap (λ x. Err x) e)) in
          subst unmet (sym e) (key_too_large h (actions_before s) old s.tables c.requires.sight.denotes name c.args.columns.now many)
      | inr e ↦ subst unmet (sym e) tt
    ]

pub key-requires-clause-rows : goal.key-requires-clause-rows
key-requires-clause-rows g c =
    let old = c.args.pass.now.words in
    let s = c.args.sight.now in
    let name = c.args.name.now in
    let table = c.in-Ok.table in
    let found = subst (λ db. find_table db name ≡ Some (view_of name table)) c.db.ensures c.in-Ok.ensures.table in
    table_rows (history_of old s) (actions_before s) old s.tables c.requires.sight.denotes name (view_of name table) found

pub key-requires-clause-columns : goal.key-requires-clause-columns
key-requires-clause-columns g c =
    let old = c.args.pass.now.words in
    let s = c.args.sight.now in
    let name = c.args.name.now in
    let table = c.in-Ok.table in
    let found = subst (λ db. find_table db name ≡ Some (view_of name table)) c.db.ensures c.in-Ok.ensures.table in
    let wide = table_width (history_of old s) (actions_before s) old s.tables c.requires.sight.denotes name (view_of name table) found in
    subst (λ ks. All (λ k. k < length table.columns) ks) (sym c.as_slice.ensures)
    (subst (λ n. All (λ k. k < n) c.args.columns.now) wide c.requires.fits.1)

pub returns-in-Ok-key-clause-row : goal.returns-in-Ok-key-clause-row
returns-in-Ok-key-clause-row g c =
    let old = c.args.pass.now.words in
    let new = c.key.new.pass.words in
    let s = c.args.sight.now in
    let name = c.args.name.now in
    let table = c.in-Ok.table in
    let found = subst (λ db. find_table db name ≡ Some (view_of name table)) c.db.ensures c.in-Ok.ensures.table in
    let place = c.in-Ok-key.place in
    let columns = c.args.columns.now in
    let holds = subst (λ ks. HoldsWhere new place (λ v. is_key ks (value_of_rows old v table.rows))) c.as_slice.ensures c.in-Ok-key.ensures.holds in
    key_asserted (history_of old s) (actions_before s) old s.tables c.requires.sight.denotes name (view_of name table) found new columns place c.in_ok-one_row-in-Ok-key.field-0
    c.in_ok-one_row-in-Ok-key.ensures holds
    c.in-Ok-key.ensures.terms

pub returns-in-Ok-key-clause-within : goal.returns-in-Ok-key-clause-within
returns-in-Ok-key-clause-within g c =
    let name = c.args.name.now in
    subst (λ db. rows_of_found (find_table db name) * rows_of_found (find_table db name) ≤ limit) c.db.ensures
    (not_past (rows_of_found (find_table c.db.result.now name) * rows_of_found (find_table c.db.result.now name)) (λ many. is_ok (c.in-Ok.ensures.too_large.1 many)))

pub returns-in-Err-clause-writes : goal.returns-in-Err-clause-writes
returns-in-Err-clause-writes g c =
    let pass = c.args.pass.now in
    let unwritten : says_full c.in-Err.why ≡ false = elim c.in-Err.ensures.err [ inl e ↦ ap says_full e | inr e ↦ ap says_full e ] in
    subst (PassWrites g.N.Site.log.cap pass pass _) (sym unwritten) (writes_none pass c.words.ensures.formed c.words.ensures.room)

pub returns-in-Ok-key-clause-writes : goal.returns-in-Ok-key-clause-writes
returns-in-Ok-key-clause-writes g c =
    let old = c.args.pass.now.words in
    let s = c.args.sight.now in
    let name = c.args.name.now in
    let table = c.in-Ok.table in
    let found = subst (λ db. find_table db name ≡ Some (view_of name table)) c.db.ensures c.in-Ok.ensures.table in
    let few = key_words (history_of old s) (actions_before s) old s.tables c.requires.sight.denotes name (view_of name table) found in
    writes_within _ few c.in-Ok-key.ensures.writes

pub returns-in_err-one_row-in-Ok-key-clause-writes : goal.returns-in_err-one_row-in-Ok-key-clause-writes
returns-in_err-one_row-in-Ok-key-clause-writes g c =
    let old = c.args.pass.now.words in
    let s = c.args.sight.now in
    let name = c.args.name.now in
    let table = c.in-Ok.table in
    let found = subst (λ db. find_table db name ≡ Some (view_of name table)) c.db.ensures c.in-Ok.ensures.table in
    let few = key_words (history_of old s) (actions_before s) old s.tables c.requires.sight.denotes name (view_of name table) found in
    let p = err_from_is_err_and c.from_residual.result c.from_residual.ensures.1 in
    rw (p.1, p.2) (writes_within _ few c.in-Ok-key.ensures.writes)

pub returns-clause-writes : goal.returns-clause-writes
returns-clause-writes g c =
    let old = c.args.pass.now.words in
    let s = c.args.sight.now in
    let name = c.args.name.now in
    let table = c.in-Ok.table in
    let found = subst (λ db. find_table db name ≡ Some (view_of name table)) c.db.ensures c.in-Ok.ensures.table in
    let few = key_words (history_of old s) (actions_before s) old s.tables c.requires.sight.denotes name (view_of name table) found in
    writes_within _ few c.in-Err-key.ensures.writes
