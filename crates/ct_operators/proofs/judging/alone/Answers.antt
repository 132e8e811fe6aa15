use Rattle.std.{proofs.Common.{ℕ, List, not, ◌&&◌, ◌∷◌, ◌++◌, length, take, ap, sym, subst, refl, arith, inl, inr}, specs.Prelude.{All, IsTrue, ◌⊎◌}}
use Rattle.std.{proofs.lemmas.List.take_all, proofs.lemmas.Result.err_from_is_err_and}
use Rattle.ct_word.{specs.Condition.holds_at, specs.Reading.condition_at, specs.WellFormed.is_place_of, specs.declared.values.Term.Term}
use Rattle.ct_word.proofs.Prefixes.{prefix_of_prefix, place_in_prefix, place_within}
use Rattle.ct_operators.{specs.Others.others_of, specs.Tables.IsRow, specs.Building.HoldsWhere, specs.Matching.{same_worth, is_among}, proofs.Selecting.{Turn, turn}}
use Rattle.ct_operators.{specs.Terms.{TermOfRow, TermOfRows}, proofs.Growing.is_row_grows, proofs.Comparing.{alone_none, alone_more, alone_never}}
use Rattle.ct_operators.{proofs.Reaching.{from_two, from_later, shown_from, some_among, foremost, behind}, proofs.judging.alone.Goals.After-shown_as}
use Rattle.ct_condition.{proofs.Writes.{writes_none, writes_both, writes_within, writes_more, writes_all, writes_last}, specs.Terms.{TermsFrom, BelowSome}}
use Rattle.ct_word.specs.declared.kinds.Class.TheVariants as class
use Rattle.ct_operators.proofs.judging.alone.Goals as goal

-- the other row of a turn
this : (g : _) (c : After-shown_as g)
    → Turn (g.I.Interner.list c.args.pass.now) (g.I.Interner.list c.loop-index.pass) (length c.args.row.now.cells) (others_of c.args.others) c.loop-index.index c.nth.result.now
this g c =
    turn _ _ _ _ _ _ c.loop-index.invariant.writes.longer c.words.ensures.formed c.requires.others (others_of c.args.others) refl (omega (arith, c.loop-index-test.true, c.len-index-end.ensures)) c.nth.ensures

pub loop-index-init : goal.loop-index-init
loop-index-init g c =
    let row = c.args.row.now in
    record {
      writes = writes_none _ c.words.ensures.formed c.words.ensures.room;
      holds = alone_none _ row.cells row.cond c.requires.row.condition;
      from = λ t h. inl (record { place = row.cond; among = foremost row.cond row.cells; below = h });
    }

pub shown_as-requires-clause-cells : goal.shown_as-requires-clause-cells
shown_as-requires-clause-cells g c =
    subst (All (λ p. IsTrue (is_place_of (g.I.Interner.list c.loop-index.pass) class.Term p))) (sym c.as_slice.ensures)
    (is_row_grows _ _ c.loop-index.invariant.writes.longer c.words.ensures.formed _ _ c.requires.row).terms

pub shown_as-requires-clause-other : goal.shown_as-requires-clause-other
shown_as-requires-clause-other g c =
    subst (λ cs. IsRow (g.I.Interner.list c.loop-index.pass) (length cs) c.nth.result.now) (sym c.as_slice.ensures) (turn _ _ _ _ _ _ c.loop-index.invariant.writes.longer c.words.ensures.formed c.requires.others (others_of c.args.others) refl (omega (arith, c.loop-index-test.true, c.len-index-end.ensures)) c.nth.ensures).is

pub not-requires : goal.not-requires
not-requires g c = record { condition = c.in_ok-there.ensures.holds.class }

pub and-requires-clause-left : goal.and-requires-clause-left
and-requires-clause-left g c =
    place_in_prefix _ _ class.Cond c.loop-index.cond (prefix_of_prefix _ _ _ c.in_ok-there.ensures.writes.longer c.not.ensures.longer) c.loop-index.invariant.holds.class

pub and-requires-clause-right : goal.and-requires-clause-right
and-requires-clause-right g c = c.in_ok-absent.ensures.truth.class

pub loop-index-preserved : goal.loop-index-preserved
loop-index-preserved g c =
    let old = g.I.Interner.list c.args.pass.now in
    let now = g.I.Interner.list c.loop-index.pass in
    let m1 = g.I.Interner.list c.shown_as.new.pass in
    let m2 = g.I.Interner.list c.not.new.pass in
    let new = g.I.Interner.list c.and.new.pass in
    let row = c.args.row.now in
    let width = length row.cells in
    let others = (others_of c.args.others) in
    let i = c.loop-index.index in
    let s = c.nth.result.now in
    let grown = c.loop-index.invariant.writes.longer in
    let t = this g (goal.at.loop-index-preserved g c).After-shown_as in
    let source : Term → Type 0 = λ t. TermOfRow old row t ⊎ TermOfRows old others t in
    record {
      holds = subst (λ d. HoldsWhere new c.in_ok-cond.cond (λ v. holds_at v (condition_at old row.cond) && not (is_among old d row.cells v))) t.done
          (alone_more old now width grown (take i others) s t.was row.cells c.requires.row.terms m1 m2 new (λ v. holds_at v (condition_at old row.cond)) c.in_ok-there.ensures.writes.longer c.not.ensures.longer
          c.loop-index.cond c.in_ok-there.there c.in_ok-absent.absent c.in_ok-cond.cond c.loop-index.invariant.holds
          (subst (λ cs. HoldsWhere m1 c.in_ok-there.there (λ v. holds_at v (condition_at now s.cond) && same_worth now s.cells cs v)) c.as_slice.ensures c.in_ok-there.ensures.holds)
          c.in_ok-absent.ensures.truth c.in_ok-cond.ensures.truth);
      writes =
          writes_more _ i c.loop-index.invariant.writes (writes_within _ (omega (arith, ap (λ (l : List ℕ). length l) c.as_slice.ensures)) (writes_both c.in_ok-there.ensures.writes (writes_both c.in_ok-absent.ensures.writes c.in_ok-cond.ensures.writes)));
      from = from_two m2 new c.loop-index.cond c.in_ok-absent.absent c.in_ok-cond.cond source
          (from_later now m2 (prefix_of_prefix now m1 m2 c.in_ok-there.ensures.writes.longer c.not.ensures.longer) c.loop-index.invariant.writes.formed c.loop-index.cond source
          (place_within now class.Cond c.loop-index.cond c.loop-index.invariant.holds.class) c.loop-index.invariant.from)
          (λ u h. elim (shown_from old now grown c.words.ensures.formed width s others row.cells c.requires.row.terms t.was t.among u
          (subst (λ cs. TermsFrom m1 c.in_ok-there.there (BelowSome now (s.cond ∷ (s.cells ++ cs)))) c.as_slice.ensures c.in_ok-there.ensures.terms u (c.in_ok-absent.ensures.terms u h))) [
            | inl b ↦ inl (some_among old row.cells (row.cond ∷ row.cells) u (behind row.cond row.cells) b)
            | inr x ↦ inr x
          ])
          c.in_ok-cond.ensures.terms;
    }

pub returns-then-cond-eq-FALSE_PLACE-clause-holds : goal.returns-then-cond-eq-FALSE_PLACE-clause-holds
returns-then-cond-eq-FALSE_PLACE-clause-holds g c =
    alone_never (g.I.Interner.list c.args.pass.now) _ (others_of c.args.others) c.loop-index.index c.loop-index.cond c.args.row.now.cells (λ v. holds_at v (condition_at (g.I.Interner.list c.args.pass.now) c.args.row.now.cond))
    (prefix_of_prefix _ _ _ c.words.ensures.begins c.loop-index.invariant.writes.longer) c.loop-index.invariant.writes.formed c.if-cond-eq-FALSE_PLACE.true c.loop-index.invariant.holds

pub returns-clause-holds : goal.returns-clause-holds
returns-clause-holds g c =
    let old = g.I.Interner.list c.args.pass.now in
    let row = c.args.row.now in
    subst (λ d. HoldsWhere (g.I.Interner.list c.loop-index.pass) c.loop-index.cond (λ v. holds_at v (condition_at old row.cond) && not (is_among old d row.cells v)))
    (take_all c.loop-index.index (others_of c.args.others) (omega (arith, c.loop-index-test.false, c.len-index-end.ensures))) c.loop-index.invariant.holds

pub returns-in_err-there-clause-writes : goal.returns-in_err-there-clause-writes
returns-in_err-there-clause-writes g c =
    rw (err_from_is_err_and c.from_residual.result c.from_residual.ensures.1).1 (writes_last _ _ c.loop-index.invariant.writes _ (omega (arith, c.loop-index-test.true, c.len-index-end.ensures)) (writes_within _ (omega (arith, ap (λ (l : List ℕ). length l) c.as_slice.ensures)) c.in_err-there.ensures.writes))

pub returns-in_err-absent-clause-writes : goal.returns-in_err-absent-clause-writes
returns-in_err-absent-clause-writes g c =
    rw (err_from_is_err_and c.from_residual-in_err-absent.result c.from_residual-in_err-absent.ensures.1).1 (writes_last _ _ c.loop-index.invariant.writes _ (omega (arith, c.loop-index-test.true, c.len-index-end.ensures)) (writes_within _ (omega (arith, ap (λ (l : List ℕ). length l) c.as_slice.ensures)) (writes_both c.in_ok-there.ensures.writes c.in_err-absent.ensures.writes)))

pub returns-in_err-cond-clause-writes : goal.returns-in_err-cond-clause-writes
returns-in_err-cond-clause-writes g c =
    rw (err_from_is_err_and c.from_residual-in_err-cond.result c.from_residual-in_err-cond.ensures.1).1 (writes_last _ _ c.loop-index.invariant.writes _ (omega (arith, c.loop-index-test.true, c.len-index-end.ensures)) (writes_within _ (omega (arith, ap (λ (l : List ℕ). length l) c.as_slice.ensures)) (writes_both c.in_ok-there.ensures.writes (writes_both c.in_ok-absent.ensures.writes c.in_err-cond.ensures.writes))))

pub returns-clause-writes : goal.returns-clause-writes
returns-clause-writes g c = writes_all _ _ c.loop-index.invariant.writes _ (omega (arith, c.loop-index.auto.index-end, c.len-index-end.ensures))
