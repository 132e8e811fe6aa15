use Rattle.std.{proofs.Common.{◌≡◌, ◌≤◌, ◌<◌, ◌+◌, ◌*◌, [], ◌∷◌, length, take, ap, sym, subst, refl, ◌∙◌, arith, inl}, specs.Prelude.{◌⊎◌, All}}
use Rattle.std.{proofs.lemmas.List.{take_all, length-take-le}, proofs.lemmas.List.Elements.{All-take, All-weaker}, proofs.lemmas.Result.err_from_is_err_and}
use Rattle.ct_word.{proofs.Prefixes.{prefix_of_prefix, place_in_prefix, place_within}}
use Rattle.ct_condition.{proofs.Denied.below_literal, proofs.Writes.{writes_none, writes_both, writes_within}}
use Rattle.ct_operators.{specs.Tables.{IsRow, value_of_rows}, specs.Building.HoldsWhere, specs.Terms.{TermOfRow, TermOfRows}, proofs.Selecting.{Turn, turn}}
use Rattle.ct_operators.proofs.{Holding.holds_true, Growing.is_row_grows, Reaching.{from_two, from_later}}
use Rattle.ct_query.specs.Assertions.{is_key, keep_apart}
use Rattle.ct_constraint.proofs.Apart.{key_never}
use Rattle.ct_constraint.proofs.Turns.{never_more, key_turn, key_from, key_words, key_all}
use Rattle.ct_word.specs.declared.kinds.Class.TheVariants as class
use Rattle.ct_constraint.proofs.keys.key.Goals.{After-beside}
use Rattle.ct_constraint.proofs.keys.key.Goals as goal

-- the row of a turn
this : (g : _) (c : After-beside g)
    → Turn (g.I.Interner.list c.args.pass.now) (g.I.Interner.list c.loop-i.pass) (length c.args.table.now.columns) c.args.table.now.rows c.loop-i.i c.index-rows-i.result
this g c =
    turn _ _ _ _ _ _ c.loop-i.invariant.writes.longer c.words.ensures.formed c.requires.rows.each _ c.as_slice-rows.ensures c.loop-i-test.true c.index-rows-i.is

-- the rows before it
before : (g : _) (c : After-beside g) → take c.loop-i.i c.as_slice-rows.result.now ≡ take c.loop-i.i c.args.table.now.rows
before g c = ap (take c.loop-i.i) c.as_slice-rows.ensures

pub loop-i-init : goal.loop-i-init
loop-i-init g c = record {
  writes = writes_none _ c.words.ensures.formed c.words.ensures.room;
  holds = holds_true _ c.words.ensures.begins c.words.ensures.formed;
  from = λ t h. absurd (below_literal _ c.words.ensures.formed c.words.ensures.begins 0 (inl refl) t h);
}

pub beside-requires : goal.beside-requires
beside-requires g c =
    let old = g.I.Interner.list c.args.pass.now in
    let now = g.I.Interner.list c.loop-i.pass in
    let width = length c.args.table.now.columns in
    let t = turn _ _ _ _ _ _ c.loop-i.invariant.writes.longer c.words.ensures.formed c.requires.rows.each _ c.as_slice-rows.ensures c.loop-i-test.true c.index-rows-i.is in
    record {
      row = t.itself;
      others = subst (λ n. All (IsRow now n) (take c.loop-i.i c.as_slice-rows.result.now)) (sym t.was.width_is)
          (subst (λ rs. All (IsRow now width) (take c.loop-i.i rs)) (sym c.as_slice-rows.ensures)
          (All-weaker (IsRow old width) (IsRow now width) (is_row_grows old now c.loop-i.invariant.writes.longer c.words.ensures.formed width) (take c.loop-i.i c.args.table.now.rows)
          (All-take (IsRow old width) c.loop-i.i c.args.table.now.rows c.requires.rows.each)));
      columns = subst (λ n. All (λ k. k < n) c.args.columns.now) (sym t.was.width_is) c.requires.columns;
    }

pub and-requires-clause-left : goal.and-requires-clause-left
and-requires-clause-left g c = place_in_prefix _ _ class.Cond c.loop-i.all c.in_ok-one.ensures.writes.longer c.loop-i.invariant.holds.class

pub and-requires-clause-right : goal.and-requires-clause-right
and-requires-clause-right g c = c.in_ok-one.ensures.holds.class

pub loop-i-preserved : goal.loop-i-preserved
loop-i-preserved g c =
    let old = g.I.Interner.list c.args.pass.now in
    let now = g.I.Interner.list c.loop-i.pass in
    let mid = g.I.Interner.list c.beside.new.pass in
    let new = g.I.Interner.list c.and.new.pass in
    let width = length c.args.table.now.columns in
    let rows = c.args.table.now.rows in
    let columns = c.args.columns.now in
    let i = c.loop-i.i in
    let r = c.index-rows-i.result in
    let grown = c.loop-i.invariant.writes.longer in
    let longer = c.in_ok-one.ensures.writes.longer in
    let turn = (goal.at.loop-i-preserved g c).After-beside in
    let t = this g turn in
    let source = TermOfRows old rows in
    let done = All-take (IsRow old width) i rows c.requires.rows.each in
    record {
      writes = writes_within _ (key_words i width _ _ (ap (λ l. length l) (before g turn) ∙ length-take-le i rows (omega (arith, t.within))) t.was.width_is)
          (writes_both c.loop-i.invariant.writes (writes_both c.in_ok-one.ensures.writes c.in_ok-all.ensures.writes));
      holds = subst (λ d. HoldsWhere new c.in_ok-all.all (λ v. is_key columns (value_of_rows old v d))) t.done
          (key_turn columns old now mid new width grown longer (take i rows) r c.loop-i.all c.in_ok-one.one c.in_ok-all.all done t.was c.loop-i.invariant.holds
          (subst (λ d. HoldsWhere mid c.in_ok-one.one (λ v. keep_apart columns (value_of_rows now v d) (value_of_rows now v (r ∷ [])))) (before g turn) c.in_ok-one.ensures.holds)
          c.in_ok-all.ensures.truth);
      from = from_two mid new c.loop-i.all c.in_ok-one.one c.in_ok-all.all source
          (from_later now mid longer c.loop-i.invariant.writes.formed c.loop-i.all source (place_within now class.Cond c.loop-i.all c.loop-i.invariant.holds.class) c.loop-i.invariant.from)
          (λ u h. key_from old now grown c.words.ensures.formed width rows i r done t.was t.among u
          (subst (λ d. TermOfRow now r u ⊎ TermOfRows now d u) (before g turn) (c.in_ok-one.ensures.terms u h)))
          c.in_ok-all.ensures.terms;
    }

pub returns-then-all-eq-FALSE_PLACE-clause-holds : goal.returns-then-all-eq-FALSE_PLACE-clause-holds
returns-then-all-eq-FALSE_PLACE-clause-holds g c =
    let old = g.I.Interner.list c.args.pass.now in
    never_more _ c.loop-i.all _ _ (prefix_of_prefix _ _ _ c.words.ensures.begins c.loop-i.invariant.writes.longer) c.loop-i.invariant.writes.formed c.if-all-eq-FALSE_PLACE.true
    (λ v. key_never c.args.columns.now old v c.args.table.now.rows c.loop-i.i) c.loop-i.invariant.holds

pub returns-clause-holds : goal.returns-clause-holds
returns-clause-holds g c =
    let old = g.I.Interner.list c.args.pass.now in
    subst (λ d. HoldsWhere (g.I.Interner.list c.loop-i.pass) c.loop-i.all (λ v. is_key c.args.columns.now (value_of_rows old v d)))
    (take_all c.loop-i.i c.args.table.now.rows (subst (λ l. length l ≤ c.loop-i.i) c.as_slice-rows.ensures c.loop-i-test.false)) c.loop-i.invariant.holds

pub returns-clause-writes : goal.returns-clause-writes
returns-clause-writes g c =
    let end : c.loop-i.i ≤ length c.args.table.now.rows = subst (λ l. c.loop-i.i ≤ length l) c.as_slice-rows.ensures c.loop-i.auto.i-end in
    writes_within _ (key_all c.loop-i.i (length c.args.table.now.rows) (2 * length c.args.table.now.columns + 3) end) c.loop-i.invariant.writes

pub returns-in_err-one-clause-writes : goal.returns-in_err-one-clause-writes
returns-in_err-one-clause-writes g c =
    let turn = (goal.at.returns-in_err-one-clause-writes g c).After-beside in
    let t = this g turn in
    let width = length c.args.table.now.columns in
    let words = key_words c.loop-i.i width _ _ (ap (λ l. length l) (before g turn) ∙ length-take-le c.loop-i.i c.args.table.now.rows (omega (arith, t.within))) t.was.width_is in
    rw (err_from_is_err_and c.from_residual.result c.from_residual.ensures.1).1
    (writes_within _ (key_all (c.loop-i.i + 1) (length c.args.table.now.rows) (2 * width + 3) (omega (arith, t.within)))
    (writes_within _ (omega (arith, words)) (writes_both c.loop-i.invariant.writes c.in_err-one.ensures.writes)))

pub returns-in_err-all-clause-writes : goal.returns-in_err-all-clause-writes
returns-in_err-all-clause-writes g c =
    let turn = (goal.at.returns-in_err-all-clause-writes g c).After-beside in
    let t = this g turn in
    let width = length c.args.table.now.columns in
    let words = key_words c.loop-i.i width _ _ (ap (λ l. length l) (before g turn) ∙ length-take-le c.loop-i.i c.args.table.now.rows (omega (arith, t.within))) t.was.width_is in
    rw (err_from_is_err_and c.from_residual-in_err-all.result c.from_residual-in_err-all.ensures.1).1
    (writes_within _ (key_all (c.loop-i.i + 1) (length c.args.table.now.rows) (2 * width + 3) (omega (arith, t.within)))
    (writes_within _ words (writes_both c.loop-i.invariant.writes (writes_both c.in_ok-one.ensures.writes c.in_err-all.ensures.writes))))
