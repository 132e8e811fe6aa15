use Rattle.std.{proofs.Common.{◌+◌, [], ◌∷◌, ◌++◌, length, map, take, refl, sym, subst, arith}, specs.Prelude.All, proofs.lemmas.List.take_all}
use Rattle.std.{proofs.lemmas.List.Elements.All-cons, proofs.lemmas.Result.err_from_is_err_and}
use Rattle.ct_word.{specs.Reading.term_at, proofs.Prefixes.place_in_prefix, specs.Stands.HasNoColumn}
use Rattle.ct_operators.{specs.Tables.{cells_of, value_of_rows}, specs.Building.Builds, proofs.Selecting.{Turn, turn}, proofs.Pairing.{no_pairs, pairs_more}}
use Rattle.ct_operators.{proofs.Adding.mul_one, specs.Terms.TermOfRows, proofs.products.pair_row.Goals.After-and}
use Rattle.ct_operators.proofs.Reaching.{none_of_rows, plain_rows, row_itself, foremost, behind}
use Rattle.ct_query.specs.Rows.{joins}
use Rattle.ct_condition.proofs.Writes.{writes_none, writes_as, writes_more, writes_all, writes_last}
use Rattle.ct_word.specs.declared.kinds.Class.TheVariants as class
use Rattle.ct_operators.proofs.products.pair_row.Goals as goal

-- the other row of a turn
this : (g : _) (c : After-and g)
    → Turn (g.I.Interner.list c.args.pass.now) (g.I.Interner.list c.loop-nth.pass) (length (g.R.RowSource.table c.args.right.now).columns) (g.R.RowSource.table c.args.right.now).rows c.loop-nth.nth c.row-other.result.now
this g c =
    turn _ _ _ _ _ _ c.loop-nth.invariant.builds.grown c.words.ensures.formed c.requires.right.each _ refl (omega (arith, c.loop-nth-test.true, c.len-nth-end.ensures)) c.row-other.ensures

pub loop-nth-init : goal.loop-nth-init
loop-nth-init g c =
    let old = g.I.Interner.list c.args.pass.now in
    let m = length c.args.row.now.cells in
    let n = length (g.R.RowSource.table c.args.right.now).columns in
    let l = c.args.row.now in
    record {
      builds = subst (λ out. Builds old old (m + n) [] (λ v. joins (value_of_rows old v (l ∷ [])) []) (TermOfRows old (l ∷ (g.R.RowSource.table c.args.right.now).rows)) out) (sym c.new-pairs.ensures.items) (no_pairs old l m n (TermOfRows old (l ∷ (g.R.RowSource.table c.args.right.now).rows)));
      writes = writes_none _ c.words.ensures.formed c.words.ensures.room;
    }

pub and-requires-clause-left : goal.and-requires-clause-left
and-requires-clause-left g c =
    place_in_prefix (g.I.Interner.list c.args.pass.now) (g.I.Interner.list c.loop-nth.pass) class.Cond c.args.row.now.cond c.loop-nth.invariant.builds.grown c.requires.row.condition

pub and-requires-clause-right : goal.and-requires-clause-right
and-requires-clause-right g c = (turn _ _ _ _ _ _ c.loop-nth.invariant.builds.grown c.words.ensures.formed c.requires.right.each _ refl (omega (arith, c.loop-nth-test.true, c.len-nth-end.ensures)) c.row-other.ensures).is.condition

pub loop-nth-preserved : goal.loop-nth-preserved
loop-nth-preserved g c =
    let old = g.I.Interner.list c.args.pass.now in
    let new = g.I.Interner.list c.and.new.pass in
    let m = length c.args.row.now.cells in
    let n = length (g.R.RowSource.table c.args.right.now).columns in
    let l = c.args.row.now in
    let rows = (g.R.RowSource.table c.args.right.now).rows in
    let i = c.loop-nth.nth in
    let s = c.row-other.result.now in
    let out = c.loop-nth.pairs.items in
    let so_far = c.loop-nth.invariant.builds in
    let at = this g (goal.at.loop-nth-preserved g c).After-and in
    let source = TermOfRows old (l ∷ rows) in
    record {
      builds = subst (λ d. Builds old new (m + n) (map (λ c. map (term_at old) l.cells ++ c) (cells_of old d)) (λ v. joins (value_of_rows old v (l ∷ [])) (value_of_rows old v d)) source c.push_joined.new.to.items) at.done
          (subst (λ r. Builds old new (m + n) (map (λ c. map (term_at old) l.cells ++ c) (cells_of old (take i rows ++ s ∷ []))) (λ v. joins (value_of_rows old v (l ∷ [])) (value_of_rows old v (take i rows ++ s ∷ []))) source r)
          (sym c.in_ok-push_joined.ensures)
          (pairs_more old l m n (g.I.Interner.list c.loop-nth.pass) new c.words-in-loop-nth.ensures.formed source
          (none_of_rows old (l ∷ rows) (All-cons (λ r. All (HasNoColumn old) (r.cond ∷ r.cells)) l rows c.requires.row.plain (plain_rows old n rows c.requires.right.each)))
          (take i rows) out so_far c.and.ensures.longer c.requires.row (row_itself old (l ∷ rows) l (foremost l rows)) s at.was (row_itself old (l ∷ rows) s (behind l rows s at.among))
          c.in_ok-cond.cond c.in_ok-cond.ensures.truth c.in_ok-cond.ensures.terms));
      writes = writes_more _ i c.loop-nth.invariant.writes c.in_ok-cond.ensures.writes;
    }

pub returns-clause-pairs : goal.returns-clause-pairs
returns-clause-pairs g c =
    let old = g.I.Interner.list c.args.pass.now in
    let new = g.I.Interner.list c.loop-nth.pass in
    let m = length c.args.row.now.cells in
    let n = length (g.R.RowSource.table c.args.right.now).columns in
    let l = c.args.row.now in
    let rows = (g.R.RowSource.table c.args.right.now).rows in
    let i = c.loop-nth.nth in
    subst (λ d. Builds old new (m + n) (map (λ c. map (term_at old) l.cells ++ c) (cells_of old d)) (λ v. joins (value_of_rows old v (l ∷ [])) (value_of_rows old v d)) (TermOfRows old (l ∷ rows)) c.loop-nth.pairs.items)
    (take_all i rows (omega (arith, c.loop-nth-test.false, c.len-nth-end.ensures))) c.loop-nth.invariant.builds

pub returns-clause-writes : goal.returns-clause-writes
returns-clause-writes g c =
    writes_as (mul_one _) (writes_all 1 _ c.loop-nth.invariant.writes _ (omega (arith, c.loop-nth.auto.nth-end, c.len-nth-end.ensures)))

pub returns-in_err-cond-clause-writes : goal.returns-in_err-cond-clause-writes
returns-in_err-cond-clause-writes g c =
    let exit = err_from_is_err_and c.from_residual.result c.from_residual.ensures.1 in
    rw (exit.1, exit.2) (writes_as (mul_one _) (writes_last 1 _ c.loop-nth.invariant.writes _ (this g (goal.at.returns-in_err-cond-clause-writes g c).After-and).within c.in_err-cond.ensures.writes))

pub returns-in_err-push_joined-clause-writes : goal.returns-in_err-push_joined-clause-writes
returns-in_err-push_joined-clause-writes g c =
    let exit = err_from_is_err_and c.from_residual-in_err-push_joined.result c.from_residual-in_err-push_joined.ensures.1 in
    rw (exit.1, exit.2) (writes_as (mul_one _) (writes_last 1 _ c.loop-nth.invariant.writes _ (this g (goal.at.returns-in_err-push_joined-clause-writes g c).After-and).within c.in_ok-cond.ensures.writes))
