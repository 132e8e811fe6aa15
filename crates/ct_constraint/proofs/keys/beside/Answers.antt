use Rattle.std.{proofs.Common.{◌<◌, [], ◌∷◌, length, take, sym, subst, refl, arith, inl}, specs.Prelude.{◌⊎◌, All}}
use Rattle.std.{proofs.lemmas.List.take_all, proofs.lemmas.Result.err_from_is_err_and}
use Rattle.ct_word.{specs.declared.values.Term.Term, proofs.Prefixes.{prefix_of_prefix, place_in_prefix, place_within}}
use Rattle.ct_condition.{proofs.Denied.below_literal, proofs.Writes.{writes_none, writes_both, writes_within, writes_as, writes_more, writes_all, writes_last}}
use Rattle.ct_operators.{specs.Tables.{IsRow, value_of_rows}, specs.Building.HoldsWhere, specs.Terms.{TermOfRow, TermOfRows}, proofs.Selecting.{Turn, turn}}
use Rattle.ct_operators.proofs.{Holding.holds_true, Growing.is_row_grows, Reaching.{from_two, from_later}}
use Rattle.ct_query.specs.Assertions.{keep_apart}
use Rattle.ct_constraint.{proofs.Apart.beside_never, proofs.Turns.{never_more, beside_turn, beside_from}}
use Rattle.ct_constraint.proofs.keys.beside.Goals.{After-apart}
use Rattle.ct_word.specs.declared.kinds.Class.TheVariants as class
use Rattle.ct_constraint.proofs.keys.beside.Goals as goal

-- the other row of a turn
this : (g : _) (c : After-apart g)
    → Turn (g.I.Interner.list c.args.pass.now) (g.I.Interner.list c.loop-other.pass) (length c.args.row.now.cells) c.args.others.now c.loop-other.other-index c.other-item.result
this g c =
    turn _ _ _ _ _ _ c.loop-other.invariant.writes.longer c.words.ensures.formed c.requires.others c.args.others.now refl c.loop-other-test.true c.other-item.is

pub loop-other-init : goal.loop-other-init
loop-other-init g c = record {
  writes = writes_none _ c.words.ensures.formed c.words.ensures.room;
  holds = holds_true _ c.words.ensures.begins c.words.ensures.formed;
  from = λ t h. absurd (below_literal _ c.words.ensures.formed c.words.ensures.begins 0 (inl refl) t h);
}

pub apart-requires-clause-left : goal.apart-requires-clause-left
apart-requires-clause-left g c =
    (turn _ _ _ _ _ _ c.loop-other.invariant.writes.longer c.words.ensures.formed c.requires.others c.args.others.now refl c.loop-other-test.true c.other-item.is).itself

pub apart-requires-clause-right : goal.apart-requires-clause-right
apart-requires-clause-right g c =
    let t = turn _ _ _ _ _ _ c.loop-other.invariant.writes.longer c.words.ensures.formed c.requires.others c.args.others.now refl c.loop-other-test.true c.other-item.is in
    subst (λ n. IsRow (g.I.Interner.list c.loop-other.pass) n c.args.row.now) (sym t.was.width_is) (is_row_grows _ _ c.loop-other.invariant.writes.longer c.words.ensures.formed _ _ c.requires.row)

pub apart-requires-clause-columns : goal.apart-requires-clause-columns
apart-requires-clause-columns g c =
    let t = turn _ _ _ _ _ _ c.loop-other.invariant.writes.longer c.words.ensures.formed c.requires.others c.args.others.now refl c.loop-other-test.true c.other-item.is in
    subst (λ n. All (λ k. k < n) c.args.columns.now) (sym t.was.width_is) c.requires.columns

pub and-requires-clause-left : goal.and-requires-clause-left
and-requires-clause-left g c = place_in_prefix _ _ class.Cond c.loop-other.all c.in_ok-one.ensures.writes.longer c.loop-other.invariant.holds.class

pub and-requires-clause-right : goal.and-requires-clause-right
and-requires-clause-right g c = c.in_ok-one.ensures.holds.class

pub loop-other-preserved : goal.loop-other-preserved
loop-other-preserved g c =
    let old = g.I.Interner.list c.args.pass.now in
    let now = g.I.Interner.list c.loop-other.pass in
    let mid = g.I.Interner.list c.apart.new.pass in
    let new = g.I.Interner.list c.and.new.pass in
    let row = c.args.row.now in
    let width = length row.cells in
    let others = c.args.others.now in
    let i = c.loop-other.other-index in
    let s = c.other-item.result in
    let columns = c.args.columns.now in
    let grown = c.loop-other.invariant.writes.longer in
    let longer = c.in_ok-one.ensures.writes.longer in
    let t = this g (goal.at.loop-other-preserved g c).After-apart in
    let source : Term → Type 0 = λ t. TermOfRow old row t ⊎ TermOfRows old others t in
    record {
      writes = writes_more _ i c.loop-other.invariant.writes (writes_as (omega (arith, t.was.width_is)) (writes_both c.in_ok-one.ensures.writes c.in_ok-all.ensures.writes));
      holds = subst (λ d. HoldsWhere new c.in_ok-all.all (λ v. keep_apart columns (value_of_rows old v d) (value_of_rows old v (row ∷ [])))) t.done
          (beside_turn columns old now mid new width grown longer (take i others) s row c.loop-other.all c.in_ok-one.one c.in_ok-all.all t.was c.requires.row c.loop-other.invariant.holds c.in_ok-one.ensures.holds
          c.in_ok-all.ensures.truth);
      from = from_two mid new c.loop-other.all c.in_ok-one.one c.in_ok-all.all source
          (from_later now mid longer c.loop-other.invariant.writes.formed c.loop-other.all source (place_within now class.Cond c.loop-other.all c.loop-other.invariant.holds.class) c.loop-other.invariant.from)
          (λ u h. beside_from old now grown c.words.ensures.formed width others s row t.was c.requires.row t.among u (c.in_ok-one.ensures.terms u h))
          c.in_ok-all.ensures.terms;
    }

pub returns-then-all-eq-FALSE_PLACE-clause-holds : goal.returns-then-all-eq-FALSE_PLACE-clause-holds
returns-then-all-eq-FALSE_PLACE-clause-holds g c =
    let old = g.I.Interner.list c.args.pass.now in
    never_more _ c.loop-other.all _ _ (prefix_of_prefix _ _ _ c.words.ensures.begins c.loop-other.invariant.writes.longer) c.loop-other.invariant.writes.formed c.if-all-eq-FALSE_PLACE.true
    (λ v. beside_never c.args.columns.now old v c.args.others.now c.loop-other.other-index c.args.row.now) c.loop-other.invariant.holds

pub returns-clause-holds : goal.returns-clause-holds
returns-clause-holds g c =
    let old = g.I.Interner.list c.args.pass.now in
    subst (λ d. HoldsWhere (g.I.Interner.list c.loop-other.pass) c.loop-other.all (λ v. keep_apart c.args.columns.now (value_of_rows old v d) (value_of_rows old v (c.args.row.now ∷ []))))
    (take_all c.loop-other.other-index c.args.others.now c.loop-other-test.false) c.loop-other.invariant.holds

pub returns-clause-writes : goal.returns-clause-writes
returns-clause-writes g c = writes_all _ _ c.loop-other.invariant.writes _ c.loop-other.auto.other-index-end

pub returns-in_err-one-clause-writes : goal.returns-in_err-one-clause-writes
returns-in_err-one-clause-writes g c =
    let t = this g (goal.at.returns-in_err-one-clause-writes g c).After-apart in
    rw (err_from_is_err_and c.from_residual.result c.from_residual.ensures.1).1 (writes_last _ _ c.loop-other.invariant.writes _ c.loop-other-test.true (writes_within _ (omega (arith, t.was.width_is)) c.in_err-one.ensures.writes))

pub returns-in_err-all-clause-writes : goal.returns-in_err-all-clause-writes
returns-in_err-all-clause-writes g c =
    let t = this g (goal.at.returns-in_err-all-clause-writes g c).After-apart in
    rw (err_from_is_err_and c.from_residual-in_err-all.result c.from_residual-in_err-all.ensures.1).1
    (writes_last _ _ c.loop-other.invariant.writes _ c.loop-other-test.true (writes_within _ (omega (arith, t.was.width_is)) (writes_both c.in_ok-one.ensures.writes c.in_err-all.ensures.writes)))
