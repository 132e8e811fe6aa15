use Rattle.ct_word.{specs.Condition.holds_at, specs.Reading.condition_at}
use Rattle.std.{proofs.Common.{ℕ, List, ◌&&◌, ◌≡◌, ◌≤◌, ◌+◌, ◌*◌, ◌∙◌, arith, refl, length, take, subst, sym, ap, [], ◌∷◌, ◌++◌, inl, inr}, proofs.lemmas.Bool.false≢true, proofs.lemmas.Result.err_from_is_err_and}
use Rattle.std.{proofs.lemmas.List.take_all, specs.Prelude.{◌⊎◌}}
use Rattle.ct_word.specs.declared.values.Term.{Term}
use Rattle.ct_condition.{specs.Terms.TermsFrom, proofs.Writes.{writes_none, writes_both, writes_of, writes_made}}
use Rattle.ct_join.specs.Pairs.{partners}
use Rattle.ct_operators.{proofs.Adding.{made_more, made_within}, specs.Terms.TermOfRows, proofs.Reaching.{row_itself, row_wider, row_before}}
use Rattle.ct_operators.proofs.Selecting.{Turn, turn, Selects, selects_none, selects_more, selects_as_many, selected_rows, selected_values}
use Rattle.ct_operators.specs.Judging.{passes, FitsTest, Further, first_words, test_words}
use Rattle.ct_operators.{specs.Nearness.{row_key, AreKeys, Narrows}, proofs.Narrowing.{narrows, key_later}, proofs.Putting.written_back, proofs.Holding.holds_as, proofs.Tests.{no_column, fits_later, words_later, judged_before, further_before}}
use Rattle.ct_operators.proofs.selection.sifted.Goals.{then-not-is_false+in_ok-push_under, else-not-is_false, After-narrowed-near, After-from_vec}
use Rattle.ct_operators.proofs.selection.sifted.Goals as goal

-- the row of a turn
this : (g : _) (c : After-narrowed-near g)
    → Turn (g.I.Interner.list c.args.pass.now) (g.I.Interner.list c.loop-nth.pass) (length (g.T.RowSource.table c.args.table.now).columns) (g.T.RowSource.table c.args.table.now).rows c.loop-nth.nth c.row-row.result.now
this g c =
    turn _ _ _ _ _ _ c.loop-nth.invariant.selects.grown c.words-known.ensures.formed c.requires.rows.each _ refl (omega (arith, c.loop-nth-test.true, c.len-nth-end.ensures)) c.row-row.ensures

-- the test of this row alone
near : (g : _) (c : After-narrowed-near g) → Narrows (g.I.Interner.list c.args.pass.now) (length (g.T.RowSource.table c.args.table.now).columns) c.row-row.result.now.cells c.args.test c.narrowed-near.result
near g c =
    let old = g.I.Interner.list c.args.pass.now in
    let now = g.I.Interner.list c.loop-nth.pass in
    let at = this g c in
    let width = length (g.T.RowSource.table c.args.table.now).columns in
    let r = c.row-row.result.now in
    let keys = c.as_slice-keyed.result.now in
    let keyed : AreKeys old c.args.test keys =
    subst (AreKeys old c.args.test) (sym c.as_slice-keyed.ensures.value) (subst (λ ws. AreKeys ws c.args.test c.in_ok-keys.keys.items) c.words-known.ensures.words c.in_ok-keys.ensures.keys) in
    let later : row_key c.words-log.result.now r.cells ≡ row_key old r.cells =
    ap (λ ws. row_key ws r.cells) c.words-log.ensures.words ∙ key_later old now c.loop-nth.invariant.selects.grown 0 r.cells at.was.terms in
    subst (Narrows old width r.cells c.args.test) (sym c.narrowed-near.ensures)
    (narrows old c.words-known.ensures.formed width r.cells at.was.width_is c.args.test c.requires.fits keys c.as_slice-places.result keyed
    (λ some. c.as_slice-places.ensures.value ∙ c.in_ok-find_near.ensures some ∙ ap (λ k. partners k keys) later))

-- the words that a row takes at most
each : (g : _) (c : After-narrowed-near g) → test_words (g.I.Interner.list c.loop-nth.pass) (length c.row-row.result.now.cells) c.narrowed-near.result
    ≤ test_words (g.I.Interner.list c.args.pass.now) (length (g.T.RowSource.table c.args.table.now).columns) c.args.test
each g c =
    let now = g.I.Interner.list c.loop-nth.pass in
    let same = ap (λ n. test_words now n c.narrowed-near.result) (this g c).was.width_is
    ∙ words_later (g.I.Interner.list c.args.pass.now) now c.loop-nth.invariant.selects.grown c.words-known.ensures.formed (length (g.T.RowSource.table c.args.table.now).columns) c.narrowed-near.result (near g c).fits in
    omega (arith, same, (near g c).most)

-- and all that were made after it
made : (g : _) (c : After-narrowed-near g) (new : ℕ)
    → new ≤ g.I.Interner.made c.loop-nth.pass + (first_words (g.I.Interner.list c.loop-nth.pass) c.narrowed-near.result + (test_words (g.I.Interner.list c.loop-nth.pass) (length c.row-row.result.now.cells) c.narrowed-near.result + 1))
    → new ≤ g.I.Interner.made c.args.pass.now + (first_words (g.I.Interner.list c.args.pass.now) c.args.test + length (g.T.RowSource.table c.args.table.now).rows * (test_words (g.I.Interner.list c.args.pass.now) (length (g.T.RowSource.table c.args.table.now).columns) c.args.test + 1))
made g c new more =
    let most = made_within (test_words (g.I.Interner.list c.args.pass.now) (length (g.T.RowSource.table c.args.table.now).columns) c.args.test + 1) c.loop-nth.nth
    (g.I.Interner.made c.args.pass.now + first_words (g.I.Interner.list c.args.pass.now) c.args.test) (g.I.Interner.made c.loop-nth.pass + first_words (g.I.Interner.list c.loop-nth.pass) c.args.test)
    new c.loop-nth.invariant.made (omega (arith, each g c, (near g c).first (g.I.Interner.list c.loop-nth.pass), more)) (length (g.T.RowSource.table c.args.table.now).rows) (this g c).within in
    omega (arith, most)

pub loop-nth-init : goal.loop-nth-init
loop-nth-init g c =
    let old = g.I.Interner.list c.args.pass.now in
    let width = length (g.T.RowSource.table c.args.table.now).columns in
    let source : Term → Type 0 = λ t. TermOfRows old (g.T.RowSource.table c.args.table.now).rows t ⊎ Further old c.args.test t in
    record {
      selects = subst (Selects old old width (passes old c.args.test) source []) (sym c.new-out.ensures.items) (selects_none old width (passes old c.args.test) source);
      long = c.in_ok-put.ensures;
      writes = writes_none _ c.words-known.ensures.formed c.words-known.ensures.room;
      made = omega arith;
    }

pub judged-requires-clause-row : goal.judged-requires-clause-row
judged-requires-clause-row g c = (turn _ _ _ _ _ _ c.loop-nth.invariant.selects.grown c.words-known.ensures.formed c.requires.rows.each _ refl (omega (arith, c.loop-nth-test.true, c.len-nth-end.ensures)) c.row-row.ensures).itself

pub judged-requires-clause-fits : goal.judged-requires-clause-fits
judged-requires-clause-fits g c =
    let now = g.I.Interner.list c.loop-nth.pass in
    let turn = (goal.at.judged-requires-clause-fits g c).After-narrowed-near in
    subst (λ n. FitsTest now n c.narrowed-near.result) (sym (this g turn).was.width_is)
    (fits_later (g.I.Interner.list c.args.pass.now) now c.loop-nth.invariant.selects.grown c.words-known.ensures.formed (length (g.T.RowSource.table c.args.table.now).columns) c.narrowed-near.result (near g turn).fits)

pub judged-requires-clause-long : goal.judged-requires-clause-long
judged-requires-clause-long g c =
    ap (λ (l : List ℕ). length l) c.as_mut_slice.ensures.value ∙ c.loop-nth.invariant.long
    ∙ ap (λ (l : List ℕ). length l) (sym (near g (goal.at.judged-requires-clause-long g c).After-narrowed-near).parts)

pub loop-nth-preserved : goal.loop-nth-preserved
loop-nth-preserved g c =
    let old = g.I.Interner.list c.args.pass.now in
    let now = g.I.Interner.list c.loop-nth.pass in
    let new = g.I.Interner.list c.judged.new.pass in
    let width = length (g.T.RowSource.table c.args.table.now).columns in
    let x = c.args.test in
    let rows = (g.T.RowSource.table c.args.table.now).rows in
    let i = c.loop-nth.nth in
    let r = c.row-row.result.now in
    let out = c.loop-nth.out.items in
    let place = c.in_ok-place.place in
    let so_far = c.loop-nth.invariant.selects in
    let formed = c.words-known.ensures.formed in
    let turn = (goal.at.loop-nth-preserved g c).After-narrowed-near in
    let at = this g turn in
    let part = near g turn in
    let chosen = holds_as new place _ _ (λ v. ap (λ b. holds_at v (condition_at old r.cond) && b) (part.passes_as v))
    (judged_before old now so_far.grown formed width new c.narrowed-near.result part.fits r place at.was c.in_ok-place.ensures.holds) in
    let source : Term → Type 0 = λ t. TermOfRows old rows t ⊎ Further old x t in
    let plain = no_column old width rows c.requires.rows.each x c.requires.fits in
    let origin = row_wider old (TermOfRows old rows) source (λ t h. inl h) r (row_itself old rows r at.among) in
    let from : TermsFrom new place source = λ t h. elim (c.in_ok-place.ensures.terms t h) [
      | inl b ↦ inl (record { row = r; among = at.among; below = row_before old now so_far.grown formed width r t at.was b })
      | inr y ↦ inr (part.further t (further_before old now so_far.grown formed width c.narrowed-near.result part.fits r.cells at.was.width_is t y))
    ] in
    let more = selects_more old now new width (passes old x) source plain (take i rows) out so_far c.judged.ensures.writes.longer c.words-log.ensures.formed r at.was origin place chosen from in
    let as_many = selects_as_many old now new width (passes old x) source plain (take i rows) out so_far c.judged.ensures.writes.longer c.words-log.ensures.formed r at.was origin place chosen from in
    record {
      selects = subst (λ d. Selects old new width (passes old x) source d c.if-not-is_false.out.items) at.done (elim c.if-not-is_false.branch [
        | then-not-is_false+in_ok-push_under w ↦
            subst (Selects old new width (passes old x) source (take i rows ++ r ∷ [])) (sym w.in_ok-push_under.ensures ∙ ap (λ v. v.items) (sym w.out-is))
            (more (λ p. false≢true (sym w.if-not-is_false.true ∙ c.is_false.ensures.decides.1 p)))
        | else-not-is_false w ↦
            subst (Selects old new width (passes old x) source (take i rows ++ r ∷ [])) (ap (λ v. v.items) (sym w.out-is)) (as_many (c.is_false.ensures.never w.if-not-is_false.false))
      ]);
      long =
          let e = c.judged.ensures.long ∙ ap (λ (l : List ℕ). length l) c.as_mut_slice.ensures.value in
          written_back c.loop-nth.put.len c.judged.new.put c.loop-nth.put.items e c.loop-nth.put.ok.0 ∙ c.loop-nth.invariant.long;
      writes = writes_of (writes_both c.loop-nth.invariant.writes c.in_ok-place.ensures.writes) (omega (arith, made g turn _ (writes_made c.in_ok-place.ensures.writes)));
      made =
          made_more (test_words old width x + 1) i (g.I.Interner.made c.args.pass.now + first_words old x) (g.I.Interner.made c.loop-nth.pass + first_words now x)
          (g.I.Interner.made c.judged.new.pass + first_words new x) c.loop-nth.invariant.made
          (omega (arith, each g turn, part.first now, part.first new, writes_made c.in_ok-place.ensures.writes, c.in_ok-place.ensures.placed));
    }

-- what was selected of all rows
all : (g : _) (c : After-from_vec g)
    → Selects (g.I.Interner.list c.args.pass.now) (g.I.Interner.list c.loop-nth.pass) (length (g.T.RowSource.table c.args.table.now).columns) (passes (g.I.Interner.list c.args.pass.now) c.args.test)
    (λ t. TermOfRows (g.I.Interner.list c.args.pass.now) (g.T.RowSource.table c.args.table.now).rows t ⊎ Further (g.I.Interner.list c.args.pass.now) c.args.test t) (g.T.RowSource.table c.args.table.now).rows c.from_vec.result
all g c =
    let old = g.I.Interner.list c.args.pass.now in
    let rows = (g.T.RowSource.table c.args.table.now).rows in
    let source : Term → Type 0 = λ t. TermOfRows old rows t ⊎ Further old c.args.test t in
    subst (λ d. Selects old (g.I.Interner.list c.loop-nth.pass) (length (g.T.RowSource.table c.args.table.now).columns) (passes old c.args.test) source d c.from_vec.result)
    (take_all c.loop-nth.nth rows (omega (arith, c.loop-nth-test.false, c.len-nth-end.ensures)))
    (subst (Selects old (g.I.Interner.list c.loop-nth.pass) (length (g.T.RowSource.table c.args.table.now).columns) (passes old c.args.test) source (take c.loop-nth.nth rows)) (sym c.from_vec.ensures) c.loop-nth.invariant.selects)

pub returns-clause-rows : goal.returns-clause-rows
returns-clause-rows g c = selected_rows _ _ _ _ _ (g.T.RowSource.table c.args.table.now).rows c.from_vec.result c.requires.rows (all g (goal.at.returns-clause-rows g c).After-from_vec)

pub returns-clause-tuples : goal.returns-clause-tuples
returns-clause-tuples g c v = selected_values _ _ _ _ _ (g.T.RowSource.table c.args.table.now).rows c.from_vec.result (all g (goal.at.returns-clause-tuples g c).After-from_vec) v

pub returns-clause-part : goal.returns-clause-part
returns-clause-part g c = (all g (goal.at.returns-clause-part g c).After-from_vec).part

pub returns-clause-terms : goal.returns-clause-terms
returns-clause-terms g c = (all g (goal.at.returns-clause-terms g c).After-from_vec).from

pub returns-clause-writes : goal.returns-clause-writes
returns-clause-writes g c = c.loop-nth.invariant.writes

pub returns-in_err-place-clause-writes : goal.returns-in_err-place-clause-writes
returns-in_err-place-clause-writes g c =
    let exit = err_from_is_err_and c.from_residual-in_err-place.result c.from_residual-in_err-place.ensures.1 in
    let one = c.in_err-place.ensures.writes in
    let most = made g (goal.at.returns-in_err-place-clause-writes g c).After-narrowed-near (g.I.Interner.made c.judged.new.pass + 1) (omega (arith, one.made)) in
    rw (exit.1, exit.2) (writes_of (writes_both c.loop-nth.invariant.writes one) (omega (arith, most)))

pub returns-in_err-push_under-clause-writes : goal.returns-in_err-push_under-clause-writes
returns-in_err-push_under-clause-writes g c =
    let exit = err_from_is_err_and c.from_residual-in_err-push_under.result c.from_residual-in_err-push_under.ensures.1 in
    let one = c.in_ok-place.ensures.writes in
    let most = made g (goal.at.returns-in_err-push_under-clause-writes g c).After-narrowed-near _ (writes_made one) in
    rw (exit.1, exit.2) (writes_of (writes_both c.loop-nth.invariant.writes one) (omega (arith, most)))

pub returns-in_err-find_near-clause-writes : goal.returns-in_err-find_near-clause-writes
returns-in_err-find_near-clause-writes g c =
    let exit = err_from_is_err_and c.from_residual-in_err-find_near.result c.from_residual-in_err-find_near.ensures.1 in
    rw (exit.1, exit.2) c.loop-nth.invariant.writes

pub returns-in_err-columns-clause-writes : goal.returns-in_err-columns-clause-writes
returns-in_err-columns-clause-writes g c =
    let exit = err_from_is_err_and c.from_residual.result c.from_residual.ensures.1 in
    rw (exit.1, exit.2) (writes_none _ c.words-known.ensures.formed c.words-known.ensures.room)

pub returns-in_err-put-clause-writes : goal.returns-in_err-put-clause-writes
returns-in_err-put-clause-writes g c =
    let exit = err_from_is_err_and c.from_residual-in_err-put.result c.from_residual-in_err-put.ensures.1 in
    rw (exit.1, exit.2) (writes_none _ c.words-known.ensures.formed c.words-known.ensures.room)

pub returns-in_err-keys-clause-writes : goal.returns-in_err-keys-clause-writes
returns-in_err-keys-clause-writes g c =
    let exit = err_from_is_err_and c.from_residual-in_err-keys.result c.from_residual-in_err-keys.ensures.1 in
    rw (exit.1, exit.2) (writes_none _ c.words-known.ensures.formed c.words-known.ensures.room)

pub returns-in_err-index-clause-writes : goal.returns-in_err-index-clause-writes
returns-in_err-index-clause-writes g c =
    let exit = err_from_is_err_and c.from_residual-in_err-index.result c.from_residual-in_err-index.ensures.1 in
    rw (exit.1, exit.2) (writes_none _ c.words-known.ensures.formed c.words-known.ensures.room)
