use Rattle.std.{proofs.Common.{length, take, subst, refl, arith, inr}, specs.Prelude.{◌⊎◌}, proofs.lemmas.List.take_all}
use Rattle.std.proofs.lemmas.Result.{err_from_is_err_and}
use Rattle.ct_word.{specs.declared.values.Term.Term, proofs.Prefixes.{place_in_prefix, place_within}}
use Rattle.ct_condition.{proofs.Writes.{writes_none, writes_both, writes_within, writes_more, writes_all, writes_last}, specs.Terms.BelowSome}
use Rattle.ct_condition.{proofs.Denied.below_literal, proofs.OnRows.places_in_prefix}
use Rattle.ct_operators.{specs.Others.others_of, specs.Building.HoldsWhere, specs.Matching.is_among, proofs.Selecting.{Turn, turn}, specs.Terms.TermOfRows, proofs.Holding.holds_false}
use Rattle.ct_operators.{proofs.Comparing.any_more, proofs.Reaching.{from_two, from_later, shown_from}, proofs.judging.among.Goals.After-shown_as}
use Rattle.ct_word.specs.declared.kinds.Class.TheVariants as class
use Rattle.ct_operators.proofs.judging.among.Goals as goal

-- the other row of a turn
this : (g : _) (c : After-shown_as g)
    → Turn (g.I.Interner.list c.args.pass.now) (g.I.Interner.list c.loop-index.pass) (length c.args.cells.now) (others_of c.args.others) c.loop-index.index c.nth.result.now
this g c =
    turn _ _ _ _ _ _ c.loop-index.invariant.writes.longer c.words.ensures.formed c.requires.others (others_of c.args.others) refl (omega (arith, c.loop-index-test.true, c.len-index-end.ensures)) c.nth.ensures

pub loop-index-init : goal.loop-index-init
loop-index-init g c = record {
  writes = writes_none _ c.words.ensures.formed c.words.ensures.room;
  holds = holds_false _ c.words.ensures.begins c.words.ensures.formed;
  from = λ t h. absurd (below_literal _ c.words.ensures.formed c.words.ensures.begins 1 (inr refl) t h);
}

pub shown_as-requires-clause-cells : goal.shown_as-requires-clause-cells
shown_as-requires-clause-cells g c = places_in_prefix _ _ c.args.cells.now c.loop-index.invariant.writes.longer c.requires.cells

pub shown_as-requires-clause-other : goal.shown_as-requires-clause-other
shown_as-requires-clause-other g c =
    (turn _ _ _ _ _ _ c.loop-index.invariant.writes.longer c.words.ensures.formed c.requires.others (others_of c.args.others) refl (omega (arith, c.loop-index-test.true, c.len-index-end.ensures)) c.nth.ensures).is

pub or-requires-clause-left : goal.or-requires-clause-left
or-requires-clause-left g c =
    place_in_prefix (g.I.Interner.list c.loop-index.pass) (g.I.Interner.list c.shown_as.new.pass) class.Cond c.loop-index.any c.in_ok-there.ensures.writes.longer c.loop-index.invariant.holds.class

pub or-requires-clause-right : goal.or-requires-clause-right
or-requires-clause-right g c = c.in_ok-there.ensures.holds.class

pub loop-index-preserved : goal.loop-index-preserved
loop-index-preserved g c =
    let old = g.I.Interner.list c.args.pass.now in
    let now = g.I.Interner.list c.loop-index.pass in
    let m1 = g.I.Interner.list c.shown_as.new.pass in
    let new = g.I.Interner.list c.or.new.pass in
    let cells = c.args.cells.now in
    let width = length cells in
    let others = (others_of c.args.others) in
    let i = c.loop-index.index in
    let s = c.nth.result.now in
    let grown = c.loop-index.invariant.writes.longer in
    let t = this g (goal.at.loop-index-preserved g c).After-shown_as in
    let source : Term → Type 0 = λ t. BelowSome old cells t ⊎ TermOfRows old others t in
    record {
      holds = subst (λ d. HoldsWhere new c.in_ok-any.any (is_among old d cells)) t.done
          (any_more old now width grown (take i others) s t.was cells c.requires.cells m1 new c.in_ok-there.ensures.writes.longer c.loop-index.any c.in_ok-there.there c.in_ok-any.any c.loop-index.invariant.holds
          c.in_ok-there.ensures.holds c.in_ok-any.ensures.truth);
      writes = writes_more _ i c.loop-index.invariant.writes (writes_both c.in_ok-there.ensures.writes c.in_ok-any.ensures.writes);
      from = from_two m1 new c.loop-index.any c.in_ok-there.there c.in_ok-any.any source
          (from_later now m1 c.in_ok-there.ensures.writes.longer c.loop-index.invariant.writes.formed c.loop-index.any source
          (place_within now class.Cond c.loop-index.any c.loop-index.invariant.holds.class) c.loop-index.invariant.from)
          (λ u h. shown_from old now grown c.words.ensures.formed width s others cells c.requires.cells t.was t.among u (c.in_ok-there.ensures.terms u h)) c.in_ok-any.ensures.terms;
    }

pub returns-clause-holds : goal.returns-clause-holds
returns-clause-holds g c =
    subst (λ d. HoldsWhere (g.I.Interner.list c.loop-index.pass) c.loop-index.any (is_among (g.I.Interner.list c.args.pass.now) d c.args.cells.now))
    (take_all c.loop-index.index (others_of c.args.others) (omega (arith, c.loop-index-test.false, c.len-index-end.ensures))) c.loop-index.invariant.holds

pub returns-in_err-there-clause-writes : goal.returns-in_err-there-clause-writes
returns-in_err-there-clause-writes g c =
    rw (err_from_is_err_and c.from_residual.result c.from_residual.ensures.1).1 (writes_last _ _ c.loop-index.invariant.writes _ (omega (arith, c.loop-index-test.true, c.len-index-end.ensures)) (writes_within _ (omega arith) c.in_err-there.ensures.writes))

pub returns-in_err-any-clause-writes : goal.returns-in_err-any-clause-writes
returns-in_err-any-clause-writes g c =
    rw (err_from_is_err_and c.from_residual-in_err-any.result c.from_residual-in_err-any.ensures.1).1
    (writes_last _ _ c.loop-index.invariant.writes _ (omega (arith, c.loop-index-test.true, c.len-index-end.ensures)) (writes_both c.in_ok-there.ensures.writes c.in_err-any.ensures.writes))

pub returns-clause-writes : goal.returns-clause-writes
returns-clause-writes g c = writes_all _ _ c.loop-index.invariant.writes _ (omega (arith, c.loop-index.auto.index-end, c.len-index-end.ensures))
