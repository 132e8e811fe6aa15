use Rattle.std.{proofs.Common.{◌≡◌, ◌≤◌, ◌+◌, ◌∙◌, ◌++◌, ◌∷◌, [], false, length, take, ap, sym, subst, refl, rules, arith}, specs.Prelude.All}
use Rattle.std.{proofs.lemmas.List.{length_push}, proofs.lemmas.Iterator.Adapters.YieldsList-from_vec, proofs.lemmas.Result.err_from_is_err_and}
use Rattle.std.proofs.lemmas.Iterator.Consumers.{YieldsList-turn, YieldsList-end}
use Rattle.ct_word.{specs.Value.same_cells, specs.Sublist.IsSublist}
use Rattle.ct_query.specs.Database.{SameSet}
use Rattle.ct_operators.{specs.Tables.{IsRow, AreRows, value_of_rows, cells_of, firsts}, specs.Merging.{Gathers, known, repeats}, proofs.Selecting.{Turn, turn}}
use Rattle.ct_operators.proofs.Merges.{gathers_none, gathers_more, gathers_all, kept_rows, kept_values, kept_order, kept_from, repeats_more, repeats_within}
use Rattle.ct_condition.{specs.Writes.Writes, proofs.Writes.{writes_none, writes_both, writes_within}}
use Rattle.ct_operators.{specs.Terms.{TermOfRows, RowsFrom}, proofs.merging.merged.Goals.{After-add, After-words-2}}
use Rattle.ct_operators.proofs.merging.merged.Goals as goal

-- the row of a turn
this : (g : _) (c : After-add g)
    → Turn (g.I.Interner.list c.args.pass.now) (g.I.Interner.list c.loop-row.pass) (length c.args.columns) c.args.rows.items (length c.loop-row.yielded) c.in-Some.row
this g c =
    let t = YieldsList-turn (YieldsList-from_vec c.args.rows.items (search rules) (search rules)) c.loop-row.yielded _ c.loop-row.yielded_by _ c.next.new.self c.in-Some.row c.in-Some.is c.next.ensures.steps in
    turn _ _ _ _ _ _ c.loop-row.invariant.gathers.grown c.words.ensures.formed c.requires.rows c.args.rows.items refl t.0 t.1

pub loop-row-init : goal.loop-row-init
loop-row-init g c =
    let old = g.I.Interner.list c.args.pass.now in
    let width = length c.args.columns in
    record {
      gathers = subst (λ es. Gathers old old width [] es) (sym c.in_ok-gathered.ensures) (gathers_none old width);
      writes = writes_none _ c.words.ensures.formed c.words.ensures.room;
    }

pub add-requires-clause-rows : goal.add-requires-clause-rows
add-requires-clause-rows g c =
    let t = YieldsList-turn (YieldsList-from_vec c.args.rows.items (search rules) (search rules)) c.loop-row.yielded _ c.loop-row.yielded_by _ c.next.new.self c.in-Some.row c.in-Some.is c.next.ensures.steps in
    let at = turn _ _ _ _ _ _ c.loop-row.invariant.gathers.grown c.words.ensures.formed c.requires.rows c.args.rows.items refl t.0 t.1 in
    subst (λ n. All (IsRow (g.I.Interner.list c.loop-row.pass) n) c.loop-row.gathered) (sym at.was.width_is) c.loop-row.invariant.gathers.each

pub add-requires-clause-row : goal.add-requires-clause-row
add-requires-clause-row g c =
    let t = YieldsList-turn (YieldsList-from_vec c.args.rows.items (search rules) (search rules)) c.loop-row.yielded _ c.loop-row.yielded_by _ c.next.new.self c.in-Some.row c.in-Some.is c.next.ensures.steps in
    (turn _ _ _ _ _ _ c.loop-row.invariant.gathers.grown c.words.ensures.formed c.requires.rows c.args.rows.items refl t.0 t.1).itself

pub loop-row-preserved : goal.loop-row-preserved
loop-row-preserved g c =
    let old = g.I.Interner.list c.args.pass.now in
    let now = g.I.Interner.list c.loop-row.pass in
    let new = g.I.Interner.list c.add.new.pass in
    let width = length c.args.columns in
    let all = c.args.rows.items in
    let n = length c.loop-row.yielded in
    let r = c.in-Some.row in
    let so_far = c.loop-row.invariant.gathers in
    let at = this g (goal.at.loop-row-preserved g c).After-add in
    let done : take n all ++ r ∷ [] ≡ take (length (c.loop-row.yielded ++ r ∷ [])) all = at.done ∙ ap (λ k. take k all) (sym (length_push c.loop-row.yielded r)) in
    record {
      gathers = subst (λ d. Gathers old new width d c.add.new.self) done
          (gathers_more old now new width (take n all) c.loop-row.gathered so_far c.add.ensures.writes.longer c.loop-row.invariant.writes.formed r at.was
          c.add.new.self c.in_ok-add.ensures.merged);
      writes = subst (λ d. Writes g.I.Interner.list g.I.Interner.made g.I.Interner.kept g.I.Interner.lent g.N.Site.log.cap c.args.pass.now c.add.new.pass (repeats old d) false) done
          (writes_within _ (repeats_more old now width (take n all) c.loop-row.gathered so_far c.loop-row.invariant.writes.formed r at.was)
          (writes_both c.loop-row.invariant.writes c.in_ok-add.ensures.writes));
    }

-- all rows were gone over
ended : (g : _) (c : After-words-2 g) → length c.args.rows.items ≤ length c.loop-row.yielded
ended g c =
    let e = YieldsList-end (YieldsList-from_vec c.args.rows.items (search rules) (search rules)) c.loop-row.yielded _ c.loop-row.yielded_by _ c.next.new.self c.in-None.is c.next.ensures.steps in
    omega (arith, e.1)

all : (g : _) (c : After-words-2 g)
    → Gathers (g.I.Interner.list c.args.pass.now) (g.I.Interner.list c.loop-row.pass) (length c.args.columns) c.args.rows.items c.loop-row.gathered
all g c = gathers_all _ _ _ (length c.loop-row.yielded) c.args.rows.items _ (ended g c) c.loop-row.invariant.gathers

pub returns-clause-rows : goal.returns-clause-rows
returns-clause-rows g c =
    subst (AreRows (g.I.Interner.list c.loop-row.pass) (length c.args.columns)) (sym c.in_ok-finish.ensures.rows)
    (kept_rows _ _ _ _ _ c.words-2.ensures.begins c.words-2.ensures.formed (all g (goal.at.returns-clause-rows g c).After-words-2))

pub returns-clause-terms : goal.returns-clause-terms
returns-clause-terms g c =
    subst (λ rs. RowsFrom (g.I.Interner.list c.loop-row.pass) rs (TermOfRows (g.I.Interner.list c.args.pass.now) c.args.rows.items)) (sym c.in_ok-finish.ensures.rows)
    (kept_from _ _ _ _ _ c.words-2.ensures.begins c.words-2.ensures.formed (all g (goal.at.returns-clause-terms g c).After-words-2))

pub returns-clause-tuples : goal.returns-clause-tuples
returns-clause-tuples g c v =
    subst (λ rs. SameSet (value_of_rows (g.I.Interner.list c.loop-row.pass) v rs) (value_of_rows (g.I.Interner.list c.args.pass.now) v c.args.rows.items)) (sym c.in_ok-finish.ensures.rows)
    (kept_values _ _ _ _ _ c.words-2.ensures.begins c.words-2.ensures.formed (all g (goal.at.returns-clause-tuples g c).After-words-2) v)

pub returns-clause-order : goal.returns-clause-order
returns-clause-order g c =
    subst (λ rs. IsSublist (cells_of (g.I.Interner.list c.loop-row.pass) rs) (firsts same_cells (cells_of (g.I.Interner.list c.args.pass.now) c.args.rows.items))) (sym c.in_ok-finish.ensures.rows)
    (kept_order _ _ _ _ _ c.words-2.ensures.begins c.words-2.ensures.formed (all g (goal.at.returns-clause-order g c).After-words-2))

pub returns-clause-writes : goal.returns-clause-writes
returns-clause-writes g c = writes_within _ (repeats_within (g.I.Interner.list c.args.pass.now) (length c.loop-row.yielded) c.args.rows.items) c.loop-row.invariant.writes

pub returns-in_err-finish-clause-writes : goal.returns-in_err-finish-clause-writes
returns-in_err-finish-clause-writes g c =
    let exit = err_from_is_err_and c.from_residual-in_err-finish.result c.from_residual-in_err-finish.ensures.1 in
    rw (exit.1, exit.2) (writes_within _ (repeats_within (g.I.Interner.list c.args.pass.now) (length c.loop-row.yielded) c.args.rows.items) c.loop-row.invariant.writes)

pub returns-in_err-add-clause-writes : goal.returns-in_err-add-clause-writes
returns-in_err-add-clause-writes g c =
    let exit = err_from_is_err_and c.from_residual-in_err-add.result c.from_residual-in_err-add.ensures.1 in
    let old = g.I.Interner.list c.args.pass.now in
    let all = c.args.rows.items in
    let n = length c.loop-row.yielded in
    let at = this g (goal.at.returns-in_err-add-clause-writes g c).After-add in
    let more = repeats_more old (g.I.Interner.list c.loop-row.pass) (length c.args.columns) (take n all) c.loop-row.gathered c.loop-row.invariant.gathers c.loop-row.invariant.writes.formed c.in-Some.row at.was in
    let most : repeats old (take n all) + known c.in-Some.row.cells c.loop-row.gathered ≤ repeats old all = omega (arith, more, ap (repeats old) at.done, repeats_within old (n + 1) all) in
    rw (exit.1, exit.2) (writes_within _ most (writes_both c.loop-row.invariant.writes c.in_err-add.ensures.writes))

pub returns-in_err-gathered-clause-writes : goal.returns-in_err-gathered-clause-writes
returns-in_err-gathered-clause-writes g c =
    let exit = err_from_is_err_and c.from_residual.result c.from_residual.ensures.1 in
    rw (exit.1, exit.2) (writes_none _ c.words.ensures.formed c.words.ensures.room)
