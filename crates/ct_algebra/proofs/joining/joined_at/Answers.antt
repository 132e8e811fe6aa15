use Rattle.std.{proofs.Common.{◌+◌, [], ◌∷◌, ◌++◌, ◌∙◌, length, take, get_or, refl, ap, sym, subst, arith, inl, inr}, specs.Prelude.{All, Contains}, proofs.lemmas.List.{take_all, get_or_default}}
use Rattle.std.{proofs.lemmas.List.Elements.{All-cons}, proofs.lemmas.Result.err_from_is_err_and}
use Rattle.ct_word.{specs.declared.values.CRow.CRow, specs.Stands.HasNoColumn}
use Rattle.ct_query.{specs.Fits.FitsRows, specs.Pred.condition_of}
use Rattle.ct_condition.{proofs.Placed.terms_fewer, proofs.Writes.{writes_none, writes_more, writes_all, writes_last}}
use Rattle.ct_operators.{proofs.Selecting.{Turn, turn}, proofs.Growing.is_row_grows}
use Rattle.ct_operators.proofs.Reaching.{none_of_rows, plain_rows, row_itself, row_wider, foremost, behind}
use Rattle.ct_operators.specs.Terms.{TermOfRows, RowFrom}
use Rattle.ct_algebra.{specs.Joining.{MakesPairs, TermOfJoin, rows_at, row_under}, proofs.Making.{makes_none, worth_none, pair_put, row_more, placed_more}, proofs.joining.joined_at.Goals.{After-row-other}}
use Rattle.ct_algebra.proofs.joining.joined_at.Goals as goal

-- the other row of a turn
this : (g : _) (c : After-row-other g)
    → Turn (g.I.Interner.list c.args.pass.now) (g.I.Interner.list c.loop-place.pass) (length c.args.right.now.columns) c.args.right.now.rows (get_or c.args.places.now c.loop-place.place-index 0) c.row-other.result.now
this g c =
    turn _ _ _ _ _ _ c.loop-place.invariant.made.grown c.words.ensures.formed c.requires.right.each c.args.right.now.rows refl (c.requires.places c.loop-place.place-index 0 c.loop-place-test.true) c.row-other.ensures

pub loop-place-init : goal.loop-place-init
loop-place-init g c =
    let old = g.I.Interner.list c.args.pass.now in
    let width = length c.args.left.now.cells + length c.args.right.now.columns in
    let cond = condition_of c.args.asked.pred.now in
    let l = c.args.left.now in
    let source = TermOfJoin old cond (l ∷ c.args.right.now.rows) in
    record {
      made = subst (MakesPairs old old width cond (l ∷ []) [] source) (sym c.new-out.ensures.items) (makes_none old width _ _ source (worth_none old cond l));
      writes = writes_none _ c.words.ensures.formed c.words.ensures.room;
    }

pub row-other-requires : goal.row-other-requires
row-other-requires g c = c.requires.places c.loop-place.place-index 0 c.loop-place-test.true

pub paired-requires-clause-left : goal.paired-requires-clause-left
paired-requires-clause-left g c = is_row_grows _ _ c.loop-place.invariant.made.grown c.words.ensures.formed _ _ c.requires.left

pub paired-requires-clause-right : goal.paired-requires-clause-right
paired-requires-clause-right g c = (this g (goal.at.paired-requires-clause-right g c).After-row-other).itself

pub paired-requires-clause-cells : goal.paired-requires-clause-cells
paired-requires-clause-cells g c = c.as_slice.ensures.value ∙ c.in_ok-fill.ensures

pub paired-requires-clause-predicate : goal.paired-requires-clause-predicate
paired-requires-clause-predicate g c =
    let at = this g (goal.at.paired-requires-clause-predicate g c).After-row-other in
    subst (λ n. FitsRows (length c.args.left.now.cells + n) (condition_of c.args.asked.pred.now)) (sym at.was.width_is) c.requires.predicate

pub paired-requires-clause-placed : goal.paired-requires-clause-placed
paired-requires-clause-placed g c =
    omega (arith, terms_fewer (g.I.Interner.list c.args.pass.now) (g.I.Interner.list c.loop-place.pass) c.loop-place.invariant.made.grown (condition_of c.args.asked.pred.now), c.requires.placed)

pub loop-place-preserved : goal.loop-place-preserved
loop-place-preserved g c =
    let old = g.I.Interner.list c.args.pass.now in
    let now = g.I.Interner.list c.loop-place.pass in
    let new = g.I.Interner.list c.paired.new.pass in
    let m = length c.args.left.now.cells in
    let n = length c.args.right.now.columns in
    let cond = condition_of c.args.asked.pred.now in
    let l = c.args.left.now in
    let rows = c.args.right.now.rows in
    let places = c.args.places.now in
    let i = c.loop-place.place-index in
    let r = c.row-other.result.now in
    let so_far = c.loop-place.invariant.made in
    let at = this g (goal.at.loop-place-preserved g c).After-row-other in
    let source = TermOfJoin old cond (l ∷ rows) in
    let plain = none_of_rows old (l ∷ rows) (All-cons (λ r. All (HasNoColumn old) (r.cond ∷ r.cells)) l rows c.requires.left.plain (plain_rows old n rows c.requires.right.each)) in
    let from : (x : CRow) → Contains (l ∷ rows) x → RowFrom old source x = λ x among. row_wider old (TermOfRows old (l ∷ rows)) source (λ t h. inl h) x (row_itself old (l ∷ rows) x among) in
    record {
      made = subst (λ rs. MakesPairs old new (m + n) cond (l ∷ []) rs source c.push_possible.new.to.items)
          (placed_more rows l r places i (get_or places i 0) c.loop-place-test.true (get_or_default places i 0 (get_or places i 0) c.loop-place-test.true) at.within c.row-other.ensures)
          (subst (MakesPairs old new (m + n) cond (l ∷ []) (rows_at rows l (take i places) ++ r ∷ []) source)
          (sym (c.in_ok-push_possible.ensures ∙ ap (λ cells. c.loop-place.out.items ++ row_under cells c.in_ok-cond.cond) c.in_ok-fill.ensures))
          (row_more old cond now new c.words-in-loop-place.ensures.formed (m + n) source l r (rows_at rows l (take i places)) c.loop-place.out.items _ so_far
          (pair_put old cond now new so_far.grown c.in_ok-cond.ensures.writes.longer c.words.ensures.formed m n source (λ k h. elim h [ inl a ↦ plain k a | inr b ↦ b.1 k refl ]) (λ t h. inr h) l r c.requires.left at.was
          (from l (foremost l rows)) (from r (behind l rows r at.among)) c.in_ok-cond.cond c.in_ok-cond.ensures.holds
          c.in_ok-cond.ensures.terms
          c.words-in-loop-place-2.ensures.begins c.words-in-loop-place-2.ensures.formed)));
      writes = writes_more _ i c.loop-place.invariant.writes c.in_ok-cond.ensures.writes;
    }

pub returns-clause-rows : goal.returns-clause-rows
returns-clause-rows g c =
    let old = g.I.Interner.list c.args.pass.now in
    let l = c.args.left.now in
    let rows = c.args.right.now.rows in
    let cond = condition_of c.args.asked.pred.now in
    subst (λ js. MakesPairs old (g.I.Interner.list c.loop-place.pass) (length l.cells + length c.args.right.now.columns) cond (l ∷ []) (rows_at rows l js) (TermOfJoin old cond (l ∷ rows)) c.loop-place.out.items)
    (take_all c.loop-place.place-index c.args.places.now c.loop-place-test.false) c.loop-place.invariant.made

pub returns-clause-writes : goal.returns-clause-writes
returns-clause-writes g c = writes_all _ _ c.loop-place.invariant.writes _ c.loop-place.auto.place-index-end

pub returns-in_err-fill-clause-writes : goal.returns-in_err-fill-clause-writes
returns-in_err-fill-clause-writes g c =
    let exit = err_from_is_err_and c.from_residual.result c.from_residual.ensures.1 in
    rw (exit.1, exit.2) (writes_all _ _ c.loop-place.invariant.writes _ c.loop-place.auto.place-index-end)

pub returns-in_err-cond-clause-writes : goal.returns-in_err-cond-clause-writes
returns-in_err-cond-clause-writes g c =
    let exit = err_from_is_err_and c.from_residual-in_err-cond.result c.from_residual-in_err-cond.ensures.1 in
    rw (exit.1, exit.2) (writes_last _ _ c.loop-place.invariant.writes _ c.loop-place-test.true c.in_err-cond.ensures.writes)

pub returns-in_err-push_possible-clause-writes : goal.returns-in_err-push_possible-clause-writes
returns-in_err-push_possible-clause-writes g c =
    let exit = err_from_is_err_and c.from_residual-in_err-push_possible.result c.from_residual-in_err-push_possible.ensures.1 in
    rw (exit.1, exit.2) (writes_last _ _ c.loop-place.invariant.writes _ c.loop-place-test.true c.in_ok-cond.ensures.writes)
