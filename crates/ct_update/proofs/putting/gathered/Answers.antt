use Rattle.std.{proofs.Common.{◌<◌, ◌≤◌, ◌∙◌, [], ◌++◌, length, take, get_or, ap, sym, subst, arith}, specs.Prelude.{All, IsTrue}, specs.List.filter}
use Rattle.std.{proofs.lemmas.List.{take_all, get_or_default}, proofs.lemmas.List.Elements.{All-weaker}, proofs.lemmas.Result.err_from_is_err_and}
use Rattle.ct_word.{specs.WellFormed.is_place_of, proofs.Prefixes.place_in_prefix}
use Rattle.ct_condition.proofs.Writes.{writes_none, writes_more, writes_last, writes_all}
use Rattle.ct_operators.{specs.Merging.{AreGathered, is_possible}, proofs.Gathered.gathered_none}
use Rattle.ct_update.{specs.Updating.{halves_of, all_halves}, proofs.Updates.{Turned, turned}}
use Rattle.ct_word.specs.declared.kinds.Class.TheVariants as class
use Rattle.ct_update.proofs.putting.gathered.Goals.{After-row-row}
use Rattle.ct_update.proofs.putting.gathered.Goals as goal

-- the row of a turn
this : (g : _) (c : After-row-row g)
    → Turned (g.I.Interner.list c.args.pass.now) (g.I.Interner.list c.loop-nth.pass) (length (g.T.RowSource.table c.args.table.now).columns) c.args.sets.now (g.T.RowSource.table c.args.table.now).rows c.args.conds.now
    c.loop-nth.nth c.row-row.result.now (get_or c.args.conds.now c.loop-nth.nth (0, 0))
this g c =
    let rows = (g.T.RowSource.table c.args.table.now).rows in
    let conds = c.args.conds.now in
    let i = c.loop-nth.nth in
    let lt : i < length rows = omega (arith, c.loop-nth-test.true, c.len-nth-end.ensures) in
    turned (g.I.Interner.list c.args.pass.now) (g.I.Interner.list c.loop-nth.pass) c.loop-nth.invariant.writes.longer c.words.ensures.formed (length (g.T.RowSource.table c.args.table.now).columns) c.args.sets.now c.requires.terms rows conds
    c.requires.long c.requires.halves i lt c.row-row.result.now c.row-row.ensures (get_or conds i (0, 0)) (get_or_default conds i (0, 0) (get_or conds i (0, 0)) (omega (arith, lt, c.requires.long)))

pub loop-nth-init : goal.loop-nth-init
loop-nth-init g c =
    let old = g.I.Interner.list c.args.pass.now in
    let width = length (g.T.RowSource.table c.args.table.now).columns in
    record {
      gathered = subst (AreGathered old width []) (sym c.in_ok-gathering.ensures) (gathered_none old width);
      writes = writes_none _ c.words.ensures.formed c.words.ensures.room;
    }

pub put_halves-requires-clause-gathered : goal.put_halves-requires-clause-gathered
put_halves-requires-clause-gathered g c =
    let now = g.I.Interner.list c.loop-nth.pass in
    let i = c.loop-nth.nth in
    let done = filter is_possible (all_halves (g.I.Interner.list c.args.pass.now) c.args.sets.now (take i (g.T.RowSource.table c.args.table.now).rows) (take i c.args.conds.now)) in
    (done, subst (λ n. AreGathered now n done c.loop-nth.gathering) (sym (this g (goal.at.put_halves-requires-clause-gathered g c).After-row-row).width_is) c.loop-nth.invariant.gathered)

pub put_halves-requires-clause-positions : goal.put_halves-requires-clause-positions
put_halves-requires-clause-positions g c =
    subst (λ n. All (λ s. s.0 < n) c.args.sets.now) (sym (this g (goal.at.put_halves-requires-clause-positions g c).After-row-row).width_is) c.requires.positions

pub put_halves-requires-clause-terms : goal.put_halves-requires-clause-terms
put_halves-requires-clause-terms g c =
    let old = g.I.Interner.list c.args.pass.now in
    let now = g.I.Interner.list c.loop-nth.pass in
    All-weaker (λ s. IsTrue (is_place_of old class.Term s.1)) (λ s. IsTrue (is_place_of now class.Term s.1)) (λ s. place_in_prefix old now class.Term s.1 c.loop-nth.invariant.writes.longer) c.args.sets.now c.requires.terms

pub put_halves-requires-clause-halves : goal.put_halves-requires-clause-halves
put_halves-requires-clause-halves g c = (this g (goal.at.put_halves-requires-clause-halves g c).After-row-row).own

pub loop-nth-preserved : goal.loop-nth-preserved
loop-nth-preserved g c =
    let old = g.I.Interner.list c.args.pass.now in
    let now = g.I.Interner.list c.loop-nth.pass in
    let new = g.I.Interner.list c.put_halves.new.pass in
    let rows = (g.T.RowSource.table c.args.table.now).rows in
    let sets = c.args.sets.now in
    let i = c.loop-nth.nth in
    let r = c.row-row.result.now in
    let b = get_or c.args.conds.now i (0, 0) in
    let after = c.put_halves.new.gathering in
    let done = filter is_possible (all_halves old sets (take i rows) (take i c.args.conds.now)) in
    let at = this g (goal.at.loop-nth-preserved g c).After-row-row in
    record {
      gathered =
          subst (λ d. AreGathered new (length (g.T.RowSource.table c.args.table.now).columns) d after) (ap (λ l. done ++ filter is_possible l) at.over ∙ sym at.more)
          (subst (λ n. AreGathered new n (done ++ filter is_possible (halves_of now sets r b)) after) at.width_is
          (c.in_ok-put_halves.ensures.puts done (subst (λ n. AreGathered now n done c.loop-nth.gathering) (sym at.width_is) c.loop-nth.invariant.gathered)));
      writes = writes_more _ i c.loop-nth.invariant.writes c.in_ok-put_halves.ensures.writes;
    }

pub returns-clause-gathered : goal.returns-clause-gathered
returns-clause-gathered g c =
    let old = g.I.Interner.list c.args.pass.now in
    let now = g.I.Interner.list c.loop-nth.pass in
    let width = length (g.T.RowSource.table c.args.table.now).columns in
    let rows = (g.T.RowSource.table c.args.table.now).rows in
    let conds = c.args.conds.now in
    let n = c.loop-nth.nth in
    let end : length rows ≤ n = omega (arith, c.loop-nth-test.false, c.len-nth-end.ensures) in
    let done = filter is_possible (all_halves old c.args.sets.now rows conds) in
    c.in_ok-finish.ensures.gathered now width done c.words-2.ensures.begins c.words-2.ensures.formed
    (subst (λ d. AreGathered now width d c.loop-nth.gathering)
    (λ i. filter is_possible (all_halves old c.args.sets.now (take_all n rows end i) (take_all n conds (omega (arith, end, c.requires.long)) i))) c.loop-nth.invariant.gathered)

pub returns-clause-writes : goal.returns-clause-writes
returns-clause-writes g c = writes_all _ _ c.loop-nth.invariant.writes _ (omega (arith, c.loop-nth.auto.nth-end, c.len-nth-end.ensures))

pub returns-in_err-put_halves-clause-writes : goal.returns-in_err-put_halves-clause-writes
returns-in_err-put_halves-clause-writes g c =
    let exit = err_from_is_err_and c.from_residual-in_err-put_halves.result c.from_residual-in_err-put_halves.ensures.1 in
    rw (exit.1, exit.2) (writes_last _ _ c.loop-nth.invariant.writes _ (this g (goal.at.returns-in_err-put_halves-clause-writes g c).After-row-row).within c.in_err-put_halves.ensures.writes)
