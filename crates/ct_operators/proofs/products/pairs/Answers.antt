use Rattle.std.{proofs.Common.{◌+◌, [], ◌∷◌, ◌++◌, length, map, take, refl, sym, subst, arith}, proofs.lemmas.List.take_all, proofs.lemmas.Result.err_from_is_err_and}
use Rattle.ct_word.specs.Reading.{term_at}
use Rattle.ct_operators.{specs.Tables.{cells_of, value_of_rows}, specs.Building.Builds, proofs.Selecting.{Turn, turn}, proofs.Growing.rows_grow}
use Rattle.ct_operators.{proofs.Building.builds_none, proofs.Pairing.{pairs_before, all_pairs_more}, specs.Terms.TermOfRows, proofs.Reaching.of_either}
use Rattle.ct_operators.proofs.products.pairs.Goals.{After-pair_row}
use Rattle.ct_query.specs.Rows.{joins}
use Rattle.ct_condition.proofs.Writes.{writes_none, writes_more, writes_all, writes_last}
use Rattle.ct_operators.proofs.products.pairs.Goals as goal

-- the row of a turn
this : (g : _) (c : After-pair_row g)
    → Turn (g.I.Interner.list c.args.pass.now) (g.I.Interner.list c.loop-nth.pass) (length (g.L.RowSource.table c.args.left.now).columns) (g.L.RowSource.table c.args.left.now).rows c.loop-nth.nth c.row-row.result.now
this g c =
    turn _ _ _ _ _ _ c.loop-nth.invariant.builds.grown c.words.ensures.formed c.requires.left.each _ refl (omega (arith, c.loop-nth-test.true, c.len-nth-end.ensures)) c.row-row.ensures

pub loop-nth-init : goal.loop-nth-init
loop-nth-init g c =
    let old = g.I.Interner.list c.args.pass.now in
    let width = length (g.L.RowSource.table c.args.left.now).columns + length (g.R.RowSource.table c.args.right.now).columns in
    record {
      builds = subst (λ out. Builds old old width [] (λ v. []) (TermOfRows old ((g.L.RowSource.table c.args.left.now).rows ++ (g.R.RowSource.table c.args.right.now).rows)) out) (sym c.new-pairs.ensures.items) (builds_none old width (TermOfRows old ((g.L.RowSource.table c.args.left.now).rows ++ (g.R.RowSource.table c.args.right.now).rows)));
      writes = writes_none _ c.words.ensures.formed c.words.ensures.room;
    }

pub pair_row-requires-clause-row : goal.pair_row-requires-clause-row
pair_row-requires-clause-row g c = (turn _ _ _ _ _ _ c.loop-nth.invariant.builds.grown c.words.ensures.formed c.requires.left.each _ refl (omega (arith, c.loop-nth-test.true, c.len-nth-end.ensures)) c.row-row.ensures).itself

pub pair_row-requires-clause-right : goal.pair_row-requires-clause-right
pair_row-requires-clause-right g c =
    rows_grow (g.I.Interner.list c.args.pass.now) (g.I.Interner.list c.loop-nth.pass) c.loop-nth.invariant.builds.grown c.words.ensures.formed (length (g.R.RowSource.table c.args.right.now).columns) (g.R.RowSource.table c.args.right.now).rows c.requires.right

pub loop-nth-preserved : goal.loop-nth-preserved
loop-nth-preserved g c =
    let old = g.I.Interner.list c.args.pass.now in
    let now = g.I.Interner.list c.loop-nth.pass in
    let new = g.I.Interner.list c.pair_row.new.pass in
    let m = length (g.L.RowSource.table c.args.left.now).columns in
    let n = length (g.R.RowSource.table c.args.right.now).columns in
    let rows = (g.L.RowSource.table c.args.left.now).rows in
    let others = (g.R.RowSource.table c.args.right.now).rows in
    let i = c.loop-nth.nth in
    let l = c.row-row.result.now in
    let added = c.in_ok-more.more.items in
    let so_far = c.loop-nth.invariant.builds in
    let at = this g (goal.at.loop-nth-preserved g c).After-pair_row in
    let more : Builds now new (m + n) (map (λ c. map (term_at now) l.cells ++ c) (cells_of now others)) (λ v. joins (value_of_rows now v (l ∷ [])) (value_of_rows now v others)) (TermOfRows now (l ∷ others)) added =
    subst (λ k. Builds now new (k + n) (map (λ c. map (term_at now) l.cells ++ c) (cells_of now others)) (λ v. joins (value_of_rows now v (l ∷ [])) (value_of_rows now v others)) (TermOfRows now (l ∷ others)) added)
    at.was.width_is c.in_ok-more.ensures.pairs in
    let source = TermOfRows old (rows ++ others) in
    record {
      builds = subst (λ d. Builds old new (m + n) (joins (cells_of old d) (cells_of old others)) (λ v. joins (value_of_rows old v d) (value_of_rows old v others)) source c.append.new.self.items) at.done
          (subst (λ r. Builds old new (m + n) (joins (cells_of old (take i rows ++ l ∷ [])) (cells_of old others)) (λ v. joins (value_of_rows old v (take i rows ++ l ∷ [])) (value_of_rows old v others)) source r)
          (sym c.in_ok-append.ensures.items)
          (all_pairs_more old now new c.words-in-loop-nth.ensures.formed m n source (take i rows) others c.loop-nth.pairs.items added l so_far
          (pairs_before old now new m n others added l (TermOfRows now (l ∷ others)) source
          (of_either old now so_far.grown c.words.ensures.formed m n rows others l at.was at.among c.requires.right.each) so_far.grown at.was c.requires.right.each more)));
      writes = writes_more _ i c.loop-nth.invariant.writes c.in_ok-more.ensures.writes;
    }

pub returns-clause-pairs : goal.returns-clause-pairs
returns-clause-pairs g c =
    let old = g.I.Interner.list c.args.pass.now in
    let new = g.I.Interner.list c.loop-nth.pass in
    let width = length (g.L.RowSource.table c.args.left.now).columns + length (g.R.RowSource.table c.args.right.now).columns in
    let rows = (g.L.RowSource.table c.args.left.now).rows in
    let others = (g.R.RowSource.table c.args.right.now).rows in
    let i = c.loop-nth.nth in
    subst (λ d. Builds old new width (joins (cells_of old d) (cells_of old others)) (λ v. joins (value_of_rows old v d) (value_of_rows old v others)) (TermOfRows old (rows ++ others)) c.loop-nth.pairs.items)
    (take_all i rows (omega (arith, c.loop-nth-test.false, c.len-nth-end.ensures))) c.loop-nth.invariant.builds

pub returns-clause-writes : goal.returns-clause-writes
returns-clause-writes g c = writes_all _ _ c.loop-nth.invariant.writes _ (omega (arith, c.loop-nth.auto.nth-end, c.len-nth-end.ensures))

pub returns-in_err-more-clause-writes : goal.returns-in_err-more-clause-writes
returns-in_err-more-clause-writes g c =
    let exit = err_from_is_err_and c.from_residual.result c.from_residual.ensures.1 in
    rw (exit.1, exit.2) (writes_last _ _ c.loop-nth.invariant.writes _ (this g (goal.at.returns-in_err-more-clause-writes g c).After-pair_row).within c.in_err-more.ensures.writes)

pub returns-in_err-append-clause-writes : goal.returns-in_err-append-clause-writes
returns-in_err-append-clause-writes g c =
    let exit = err_from_is_err_and c.from_residual-in_err-append.result c.from_residual-in_err-append.ensures.1 in
    rw (exit.1, exit.2) (writes_last _ _ c.loop-nth.invariant.writes _ (this g (goal.at.returns-in_err-append-clause-writes g c).After-pair_row).within c.in_ok-more.ensures.writes)
