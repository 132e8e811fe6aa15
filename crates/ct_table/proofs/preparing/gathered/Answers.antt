use Rattle.std.{proofs.Common.{◌≡◌, ◌+◌, ◌∷◌, [], ◌++◌, None, Some, length, take, refl, ap, sym, subst, ◌∙◌}, proofs.lemmas.Result.err_from_is_err_and}
use Rattle.std.proofs.lemmas.List.{take_all, append_assoc, append-nil}
use Rattle.ct_condition.proofs.Writes.{writes_none, writes_as, writes_more, writes_last}
use Rattle.ct_operators.{specs.Merging.{rows_of, Gathers}, proofs.Adding.mul_one, proofs.Selecting.turn, proofs.Merges.gathers_more}
use Rattle.ct_table.{specs.Growing.{put_each, Apart, Fits, AreGathered}, proofs.Joining.gathers_rows}
use Rattle.ct_table.proofs.preparing.gathered.Goals as goal

pub loop-row-init : goal.loop-row-init
loop-row-init g c =
    let old = g.I.Interner.list c.args.pass.now in
    let width = length c.args.stored.now.columns in
    let es = c.args.stored.now.entries in
    record {
      writes = writes_none _ c.words.ensures.formed c.words.ensures.room;
      gathers = subst (λ l. Gathers old old width (rows_of es ++ []) (rows_of (put_each es l))) (sym c.new-pending.ensures.empty)
          (subst (λ l. Gathers old old width l (rows_of es)) (sym (append-nil (rows_of es))) (gathers_rows old width (rows_of es) c.requires.table));
      apart = subst Apart (sym c.new-pending.ensures.empty) tt;
      fits = subst (Fits es) (sym c.new-pending.ensures.empty) (λ k x d found there. let bad : None ≡ Some x = found in cc);
    }

pub insert_row-requires-clause-row : goal.insert_row-requires-clause-row
insert_row-requires-clause-row g c =
    (turn _ _ _ _ _ _ c.loop-row.invariant.writes.longer c.words.ensures.formed c.requires.rows c.args.rows.now refl c.loop-row-test.true c.row-item-in-loop-row.is).itself

pub loop-row-preserved : goal.loop-row-preserved
loop-row-preserved g c =
    let old = g.I.Interner.list c.args.pass.now in
    let now = g.I.Interner.list c.loop-row.pass in
    let new = g.I.Interner.list c.insert_row.new.pass in
    let width = length c.args.stored.now.columns in
    let es = c.args.stored.now.entries in
    let all = c.args.rows.now in
    let i = c.loop-row.row-index in
    let r = c.row-item-in-loop-row.result in
    let so_far = c.loop-row.invariant in
    let at = turn old now width all i r so_far.writes.longer c.words.ensures.formed c.requires.rows all refl c.loop-row-test.true c.row-item-in-loop-row.is in
    let done : (rows_of es ++ take i all) ++ r ∷ [] ≡ rows_of es ++ take (i + 1) all = append_assoc (rows_of es) (take i all) (r ∷ []) ∙ ap (λ l. rows_of es ++ l) at.done in
    record {
      writes = writes_more _ i so_far.writes c.in_ok-insert_row.ensures.writes;
      gathers = subst (λ d. Gathers old new width d (rows_of (put_each es c.insert_row.new.pending.entries))) done
          (gathers_more old now new width (rows_of es ++ take i all) (rows_of (put_each es c.loop-row.pending.entries)) so_far.gathers c.in_ok-insert_row.ensures.writes.longer so_far.writes.formed r at.was
          (rows_of (put_each es c.insert_row.new.pending.entries)) c.in_ok-insert_row.ensures.merged);
      apart = c.in_ok-insert_row.ensures.apart;
      fits = c.in_ok-insert_row.ensures.fits;
    }

pub returns-in_err-insert_row-clause-writes : goal.returns-in_err-insert_row-clause-writes
returns-in_err-insert_row-clause-writes g c =
    let exit = err_from_is_err_and c.from_residual.result c.from_residual.ensures.1 in
    rw (exit.1, exit.2) (writes_as (mul_one (length c.args.rows.now)) (writes_last _ _ c.loop-row.invariant.writes _ c.loop-row-test.true c.in_err-insert_row.ensures.writes))

pub returns-clause-gathered : goal.returns-clause-gathered
returns-clause-gathered g c =
    let es = c.args.stored.now.entries in
    let ps = c.loop-row.pending.entries in
    let old = g.I.Interner.list c.args.pass.now in
    let new = g.I.Interner.list c.loop-row.pass in
    let width = length c.args.stored.now.columns in
    let all : take c.loop-row.row-index c.args.rows.now ≡ c.args.rows.now = take_all c.loop-row.row-index c.args.rows.now c.loop-row-test.false in
    subst (AreGathered old new width es c.args.rows.now) (sym c.in_ok-ready.ensures)
    (record { gathers = subst (λ d. Gathers old new width (rows_of es ++ d) (rows_of (put_each es ps))) all c.loop-row.invariant.gathers; apart = c.loop-row.invariant.apart; fits = c.loop-row.invariant.fits })
