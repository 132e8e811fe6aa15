use Rattle.std.{proofs.Common.{◌≡◌, ◌≤◌, ◌+◌, ◌*◌, [], ◌∷◌, ◌++◌, ◌∙◌, length, map, take, refl, ap, sym, subst, arith, inl, inr}, specs.Prelude.All}
use Rattle.std.{proofs.lemmas.List.{take_all, length-map, map-append}, proofs.lemmas.Result.err_from_is_err_and}
use Rattle.std.proofs.Math.Nat.{mul-add}
use Rattle.ct_word.specs.declared.values.CRow.{CRow}
use Rattle.ct_query.{specs.Fits.FitsRows, specs.Pred.condition_of}
use Rattle.ct_condition.{proofs.Placed.terms_fewer, proofs.Writes.{writes_none, writes_as, writes_both, writes_within, writes_more, writes_all, writes_last}}
use Rattle.ct_operators.{specs.Merging.AreGathered, specs.Projection.picked_row, proofs.Gathered.gathered_later}
use Rattle.ct_operators.{proofs.Selecting.{Turn, turn}, proofs.Growing.rows_grow, proofs.Adding.{in_all, mul_one}, proofs.Reaching.of_either}
use Rattle.ct_algebra.{specs.Equals.HasEqual, specs.Keyed.{key_of}, specs.Joining.{MakesPairs, TermOfJoin, pair_words}, specs.Picking.{PicksPairs}}
use Rattle.ct_algebra.{proofs.Making.{row_before, rows_more}, proofs.Telling.{keys_grow, right_columns}}
use Rattle.ct_algebra.proofs.Picks.{makes_later, have_cells, few_pairs, picks_none}
use Rattle.ct_algebra.proofs.picking.gathered.Goals.{After-words-in-loop-nth, After-as_slice-in-loop-nth}
use Rattle.ct_algebra.proofs.picking.gathered.Goals as goal
use Rattle.ct_plan.specs.declared.sides.Side.TheVariants as side

-- the row of a turn
this : (g : _) (c : After-words-in-loop-nth g)
    → Turn (g.I.Interner.list c.args.pass.now) (g.I.Interner.list c.loop-nth.pass) (length c.args.left.now.columns) c.args.left.now.rows c.loop-nth.nth c.row-row.result.now
this g c =
    turn _ _ _ _ _ _ c.loop-nth.invariant.picks.made.grown c.words.ensures.formed c.requires.left.each _ refl (omega (arith, c.loop-nth-test.true, c.len-nth-end.ensures)) c.row-row.ensures

pub keys_of-requires : goal.keys_of-requires
keys_of-requires g c =
    right_columns (g.I.Interner.list c.args.pass.now) (condition_of c.args.asked.pred.now) (length c.args.left.now.columns) (length c.args.right.now.columns) c.args.asked.equals.now c.args.right.now.rows c.requires.equals c.requires.predicate.columns c.requires.right.each

pub make-requires : goal.make-requires
make-requires g c = record {
  few = omega (arith, ap (λ ks. length ks) (c.as_slice.ensures.value ∙ c.in_ok-keys.ensures) ∙ length-map c.args.right.now.rows _, c.requires.few);
}

pub loop-nth-init : goal.loop-nth-init
loop-nth-init g c =
    let old = g.I.Interner.list c.args.pass.now in
    let width = length c.args.left.now.columns + length c.args.right.now.columns in
    let cond = condition_of c.args.asked.pred.now in
    let source = TermOfJoin old cond (c.args.left.now.rows ++ c.args.right.now.rows) in
    record {
      picks = subst (PicksPairs old old width c.args.columns.now cond [] c.args.right.now.rows source) (sym c.in_ok-gathering.ensures) (picks_none old width c.args.columns.now cond c.args.right.now.rows source);
      writes = writes_none _ c.words.ensures.formed c.words.ensures.room;
    }

pub joined_row-requires-clause-left : goal.joined_row-requires-clause-left
joined_row-requires-clause-left g c = (this g (goal.at.joined_row-requires-clause-left g c).After-words-in-loop-nth).itself

pub joined_row-requires-clause-right : goal.joined_row-requires-clause-right
joined_row-requires-clause-right g c =
    rows_grow (g.I.Interner.list c.args.pass.now) (g.I.Interner.list c.loop-nth.pass) c.loop-nth.invariant.picks.made.grown c.words.ensures.formed (length c.args.right.now.columns) c.args.right.now.rows c.requires.right

pub joined_row-requires-clause-predicate : goal.joined_row-requires-clause-predicate
joined_row-requires-clause-predicate g c =
    subst (λ m. FitsRows (m + length c.args.right.now.columns) (condition_of c.args.asked.pred.now)) (sym (this g (goal.at.joined_row-requires-clause-predicate g c).After-words-in-loop-nth).was.width_is) c.requires.predicate

pub joined_row-requires-clause-equals : goal.joined_row-requires-clause-equals
joined_row-requires-clause-equals g c =
    subst (λ m. All (HasEqual m (condition_of c.args.asked.pred.now)) c.args.asked.equals.now) (sym (this g (goal.at.joined_row-requires-clause-equals g c).After-words-in-loop-nth).was.width_is) c.requires.equals

pub joined_row-requires-clause-placed : goal.joined_row-requires-clause-placed
joined_row-requires-clause-placed g c =
    omega (arith, terms_fewer (g.I.Interner.list c.args.pass.now) (g.I.Interner.list c.loop-nth.pass) c.loop-nth.invariant.picks.made.grown (condition_of c.args.asked.pred.now), c.requires.placed)

pub joined_row-requires-clause-keys : goal.joined_row-requires-clause-keys
joined_row-requires-clause-keys g c =
    let old = g.I.Interner.list c.args.pass.now in
    let n = length c.args.right.now.columns in
    let es = c.args.asked.equals.now in
    let rows = c.args.right.now.rows in
    c.in_ok-index.ensures ∙ c.as_slice.ensures.value ∙ c.in_ok-keys.ensures
    ∙ (λ i. map (λ (r : CRow). key_of (c.words-2.ensures.words i) side.Right es r.cells) rows)
    ∙ keys_grow old (g.I.Interner.list c.loop-nth.pass) c.loop-nth.invariant.picks.made.grown n es rows
    (right_columns old (condition_of c.args.asked.pred.now) (length c.args.left.now.columns) n es rows c.requires.equals c.requires.predicate.columns c.requires.right.each) c.requires.right.each

-- the pairs of a row
added : (g : _) (c : After-as_slice-in-loop-nth g)
    → Turn (g.I.Interner.list c.args.pass.now) (g.I.Interner.list c.loop-nth.pass) (length c.args.left.now.columns) c.args.left.now.rows c.loop-nth.nth c.row-row.result.now
    → MakesPairs (g.I.Interner.list c.loop-nth.pass) (g.I.Interner.list c.joined_row.new.pass) (length c.args.left.now.columns + length c.args.right.now.columns) (condition_of c.args.asked.pred.now)
    (c.row-row.result.now ∷ []) c.args.right.now.rows (TermOfJoin (g.I.Interner.list c.loop-nth.pass) (condition_of c.args.asked.pred.now) (c.row-row.result.now ∷ c.args.right.now.rows)) c.as_slice-in-loop-nth.result.now
added g c at =
    let now = g.I.Interner.list c.loop-nth.pass in
    let new = g.I.Interner.list c.joined_row.new.pass in
    let m = length c.args.left.now.columns in
    let n = length c.args.right.now.columns in
    let cond = condition_of c.args.asked.pred.now in
    let others = c.args.right.now.rows in
    let l = c.row-row.result.now in
    subst (MakesPairs now new (m + n) cond (l ∷ []) others (TermOfJoin now cond (l ∷ others))) (sym c.as_slice-in-loop-nth.ensures.value)
    (subst (λ k. MakesPairs now new (k + n) cond (l ∷ []) others (TermOfJoin now cond (l ∷ others)) c.in_ok-pairs.pairs.items) at.was.width_is c.in_ok-pairs.ensures.rows)

pub gather-requires-clause-rows : goal.gather-requires-clause-rows
gather-requires-clause-rows g c =
    have_cells (g.I.Interner.list c.joined_row.new.pass) (length c.args.left.now.columns + length c.args.right.now.columns) c.args.columns.now c.requires.columns c.as_slice-in-loop-nth.result.now
    (added g (goal.at.gather-requires-clause-rows g c).After-as_slice-in-loop-nth (this g (goal.at.gather-requires-clause-rows g c).After-words-in-loop-nth)).each

pub gather-requires-clause-gathered : goal.gather-requires-clause-gathered
gather-requires-clause-gathered g c =
    let picks = c.loop-nth.invariant.picks in (
      map (picked_row c.args.columns.now) picks.done,
      gathered_later _ _ c.in_ok-pairs.ensures.writes.longer c.words-in-loop-nth.ensures.formed _ _ _ picks.gathered,
    )

-- the words of a turn
turn_words : (g : _) (c : After-as_slice-in-loop-nth g)
    → Turn (g.I.Interner.list c.args.pass.now) (g.I.Interner.list c.loop-nth.pass) (length c.args.left.now.columns) c.args.left.now.rows c.loop-nth.nth c.row-row.result.now
    → length c.args.right.now.rows * pair_words (condition_of c.args.asked.pred.now) + length c.as_slice-in-loop-nth.result.now
    ≤ length c.args.right.now.rows * (pair_words (condition_of c.args.asked.pred.now) + 1)
turn_words g c at =
    let n = length c.args.right.now.rows in
    let w = pair_words (condition_of c.args.asked.pred.now) in
    let few = few_pairs _ _ _ (condition_of c.args.asked.pred.now) _ _ _ _ (added g c at) in
    let all : n * (w + 1) ≡ n * w + n = mul-add n w 1 ∙ ap (λ k. n * w + k) (mul_one n) in
    omega (arith, few, all)

pub loop-nth-preserved : goal.loop-nth-preserved
loop-nth-preserved g c =
    let old = g.I.Interner.list c.args.pass.now in
    let now = g.I.Interner.list c.loop-nth.pass in
    let mid = g.I.Interner.list c.joined_row.new.pass in
    let new = g.I.Interner.list c.gather.new.pass in
    let m = length c.args.left.now.columns in
    let n = length c.args.right.now.columns in
    let ks = c.args.columns.now in
    let cond = condition_of c.args.asked.pred.now in
    let rows = c.args.left.now.rows in
    let others = c.args.right.now.rows in
    let i = c.loop-nth.nth in
    let l = c.row-row.result.now in
    let pairs = c.as_slice-in-loop-nth.result.now in
    let picks = c.loop-nth.invariant.picks in
    let at = this g (goal.at.loop-nth-preserved g c).After-words-in-loop-nth in
    let source = TermOfJoin old cond (rows ++ others) in
    record {
      picks = subst (λ d. PicksPairs old new (m + n) ks cond d others source c.gather.new.gathering) at.done (record {
        done = picks.done ++ pairs;
        made = makes_later old mid new (m + n) _ _ source (picks.done ++ pairs) c.in_ok-pairs.ensures.writes.formed c.in_ok-gather.ensures.writes.longer
            (rows_more old cond now mid c.words-in-loop-nth.ensures.formed (m + n) source l others (take i rows) picks.done pairs picks.made
            (row_before old cond now mid m n (TermOfJoin now cond (l ∷ others)) source l others pairs
            (λ t h. elim h [
              | inl a ↦ inl (of_either old now picks.made.grown c.words.ensures.formed m n rows others l at.was at.among c.requires.right.each t a)
              | inr b ↦ inr b
            ]) picks.made.grown at.was c.requires.right.each (added g (goal.at.loop-nth-preserved g c).After-as_slice-in-loop-nth at)));
        gathered = subst (λ d. AreGathered new (length ks) d c.gather.new.gathering) (sym (map-append (picked_row ks) picks.done pairs))
            (c.in_ok-gather.ensures.gathers (map (picked_row ks) picks.done)
            (gathered_later now mid c.in_ok-pairs.ensures.writes.longer c.words-in-loop-nth.ensures.formed (length ks) _ _ picks.gathered));
      });
      writes = writes_more _ i c.loop-nth.invariant.writes
          (writes_within _ (turn_words g (goal.at.loop-nth-preserved g c).After-as_slice-in-loop-nth at) (writes_both c.in_ok-pairs.ensures.writes c.in_ok-gather.ensures.writes));
    }

pub returns-clause-rows : goal.returns-clause-rows
returns-clause-rows g c =
    let old = g.I.Interner.list c.args.pass.now in
    let rows = c.args.left.now.rows in
    let others = c.args.right.now.rows in
    let cond = condition_of c.args.asked.pred.now in
    subst (λ d. PicksPairs old (g.I.Interner.list c.loop-nth.pass) (length c.args.left.now.columns + length c.args.right.now.columns) c.args.columns.now cond d others (TermOfJoin old cond (rows ++ others)) c.loop-nth.gathering)
    (take_all c.loop-nth.nth rows (omega (arith, c.loop-nth-test.false, c.len-nth-end.ensures))) c.loop-nth.invariant.picks

pub returns-clause-writes : goal.returns-clause-writes
returns-clause-writes g c =
    writes_as (in_all (length c.args.left.now.rows) (length c.args.right.now.rows) (pair_words (condition_of c.args.asked.pred.now) + 1))
    (writes_all _ _ c.loop-nth.invariant.writes _ (omega (arith, c.loop-nth.auto.nth-end, c.len-nth-end.ensures)))

pub returns-in_err-pairs-clause-writes : goal.returns-in_err-pairs-clause-writes
returns-in_err-pairs-clause-writes g c =
    let exit = err_from_is_err_and c.from_residual-in_err-pairs.result c.from_residual-in_err-pairs.ensures.1 in
    let n = length c.args.right.now.rows in
    let w = pair_words (condition_of c.args.asked.pred.now) in
    let all : n * (w + 1) ≡ n * w + n = mul-add n w 1 ∙ ap (λ k. n * w + k) (mul_one n) in
    rw (exit.1, exit.2) (writes_as (in_all (length c.args.left.now.rows) n (w + 1)) (writes_last _ _ c.loop-nth.invariant.writes _ (this g (goal.at.returns-in_err-pairs-clause-writes g c).After-words-in-loop-nth).within
    (writes_within (n * (w + 1)) (omega (arith, all)) c.in_err-pairs.ensures.writes)))

pub returns-in_err-gather-clause-writes : goal.returns-in_err-gather-clause-writes
returns-in_err-gather-clause-writes g c =
    let exit = err_from_is_err_and c.from_residual-in_err-gather.result c.from_residual-in_err-gather.ensures.1 in
    let at = this g (goal.at.returns-in_err-gather-clause-writes g c).After-words-in-loop-nth in
    rw (exit.1, exit.2) (writes_as (in_all (length c.args.left.now.rows) (length c.args.right.now.rows) (pair_words (condition_of c.args.asked.pred.now) + 1))
    (writes_last _ _ c.loop-nth.invariant.writes _ at.within
    (writes_within _ (turn_words g (goal.at.returns-in_err-gather-clause-writes g c).After-as_slice-in-loop-nth at) (writes_both c.in_ok-pairs.ensures.writes c.in_err-gather.ensures.writes))))

pub returns-in_err-keys-clause-writes : goal.returns-in_err-keys-clause-writes
returns-in_err-keys-clause-writes g c =
    let exit = err_from_is_err_and c.from_residual.result c.from_residual.ensures.1 in
    rw (exit.1, exit.2) (writes_none _ c.words.ensures.formed c.words.ensures.room)

pub returns-in_err-index-clause-writes : goal.returns-in_err-index-clause-writes
returns-in_err-index-clause-writes g c =
    let exit = err_from_is_err_and c.from_residual-in_err-index.result c.from_residual-in_err-index.ensures.1 in
    rw (exit.1, exit.2) (writes_none _ c.words.ensures.formed c.words.ensures.room)

pub returns-in_err-gathering-clause-writes : goal.returns-in_err-gathering-clause-writes
returns-in_err-gathering-clause-writes g c =
    let exit = err_from_is_err_and c.from_residual-in_err-gathering.result c.from_residual-in_err-gathering.ensures.1 in
    rw (exit.1, exit.2) (writes_none _ c.words.ensures.formed c.words.ensures.room)
