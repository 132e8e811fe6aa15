use Rattle.std.{proofs.Common.{◌+◌, [], ◌∷◌, ◌++◌, ◌∙◌, length, map, take, refl, ap, sym, subst, arith, inl, inr}, specs.Prelude.All}
use Rattle.std.{proofs.lemmas.List.{take_all, length-map}, proofs.lemmas.Result.err_from_is_err_and}
use Rattle.ct_word.specs.declared.values.CRow.{CRow}
use Rattle.ct_query.{specs.Fits.FitsRows, specs.Pred.condition_of}
use Rattle.ct_condition.{proofs.Placed.terms_fewer, proofs.Writes.{writes_none, writes_as, writes_more, writes_all, writes_last}}
use Rattle.ct_operators.{proofs.Selecting.{Turn, turn}, proofs.Growing.rows_grow, proofs.Adding.in_all, proofs.Reaching.of_either}
use Rattle.ct_algebra.{specs.Equals.HasEqual, specs.Keyed.{key_of}, specs.Joining.{MakesPairs, TermOfJoin, pair_words}}
use Rattle.ct_algebra.{proofs.Making.{makes_none, row_before, rows_more}, proofs.Telling.{keys_grow, right_columns}}
use Rattle.ct_algebra.proofs.joining.joined.Goals.{After-words-in-loop-nth}
use Rattle.ct_algebra.proofs.joining.joined.Goals as goal
use Rattle.ct_plan.specs.declared.sides.Side.TheVariants as side

-- the row of a turn
this : (g : _) (c : After-words-in-loop-nth g)
    → Turn (g.I.Interner.list c.args.pass.now) (g.I.Interner.list c.loop-nth.pass) (length c.args.left.now.columns) c.args.left.now.rows c.loop-nth.nth c.row-row.result.now
this g c =
    turn _ _ _ _ _ _ c.loop-nth.invariant.made.grown c.words.ensures.formed c.requires.left.each _ refl (omega (arith, c.loop-nth-test.true, c.len-nth-end.ensures)) c.row-row.ensures

pub keys_of-requires : goal.keys_of-requires
keys_of-requires g c =
    right_columns (g.I.Interner.list c.args.pass.now) (condition_of c.args.asked.pred.now) (length c.args.left.now.columns) (length c.args.right.now.columns) c.args.asked.equals.now c.args.right.now.rows c.requires.equals c.requires.predicate.columns c.requires.right.each

pub make-requires : goal.make-requires
make-requires g c = record {
  few = omega (arith, ap (λ ks. length ks) (c.as_slice.ensures.value ∙ c.in_ok-keys.ensures) ∙ length-map c.args.right.now.rows _, c.requires.few);
}

pub loop-nth-init : goal.loop-nth-init
loop-nth-init g c =
    let old = g.I.Interner.list c.args.pass.now in
    let width = length c.args.left.now.columns + length c.args.right.now.columns in
    let cond = condition_of c.args.asked.pred.now in
    let source = TermOfJoin old cond (c.args.left.now.rows ++ c.args.right.now.rows) in
    record {
      made = subst (MakesPairs old old width cond [] c.args.right.now.rows source) (sym c.new-out.ensures.items) (makes_none old width _ _ source (λ v. refl));
      writes = writes_none _ c.words.ensures.formed c.words.ensures.room;
    }

pub joined_row-requires-clause-left : goal.joined_row-requires-clause-left
joined_row-requires-clause-left g c = (this g (goal.at.joined_row-requires-clause-left g c).After-words-in-loop-nth).itself

pub joined_row-requires-clause-right : goal.joined_row-requires-clause-right
joined_row-requires-clause-right g c =
    rows_grow (g.I.Interner.list c.args.pass.now) (g.I.Interner.list c.loop-nth.pass) c.loop-nth.invariant.made.grown c.words.ensures.formed (length c.args.right.now.columns) c.args.right.now.rows c.requires.right

pub joined_row-requires-clause-predicate : goal.joined_row-requires-clause-predicate
joined_row-requires-clause-predicate g c =
    subst (λ m. FitsRows (m + length c.args.right.now.columns) (condition_of c.args.asked.pred.now)) (sym (this g (goal.at.joined_row-requires-clause-predicate g c).After-words-in-loop-nth).was.width_is) c.requires.predicate

pub joined_row-requires-clause-equals : goal.joined_row-requires-clause-equals
joined_row-requires-clause-equals g c =
    subst (λ m. All (HasEqual m (condition_of c.args.asked.pred.now)) c.args.asked.equals.now) (sym (this g (goal.at.joined_row-requires-clause-equals g c).After-words-in-loop-nth).was.width_is) c.requires.equals

pub joined_row-requires-clause-placed : goal.joined_row-requires-clause-placed
joined_row-requires-clause-placed g c =
    omega (arith, terms_fewer (g.I.Interner.list c.args.pass.now) (g.I.Interner.list c.loop-nth.pass) c.loop-nth.invariant.made.grown (condition_of c.args.asked.pred.now), c.requires.placed)

pub joined_row-requires-clause-keys : goal.joined_row-requires-clause-keys
joined_row-requires-clause-keys g c =
    let old = g.I.Interner.list c.args.pass.now in
    let n = length c.args.right.now.columns in
    let es = c.args.asked.equals.now in
    let rows = c.args.right.now.rows in
    c.in_ok-index.ensures ∙ c.as_slice.ensures.value ∙ c.in_ok-keys.ensures
    ∙ (λ i. map (λ (r : CRow). key_of (c.words-2.ensures.words i) side.Right es r.cells) rows)
    ∙ keys_grow old (g.I.Interner.list c.loop-nth.pass) c.loop-nth.invariant.made.grown n es rows
    (right_columns old (condition_of c.args.asked.pred.now) (length c.args.left.now.columns) n es rows c.requires.equals c.requires.predicate.columns c.requires.right.each) c.requires.right.each

pub loop-nth-preserved : goal.loop-nth-preserved
loop-nth-preserved g c =
    let old = g.I.Interner.list c.args.pass.now in
    let now = g.I.Interner.list c.loop-nth.pass in
    let new = g.I.Interner.list c.joined_row.new.pass in
    let m = length c.args.left.now.columns in
    let n = length c.args.right.now.columns in
    let cond = condition_of c.args.asked.pred.now in
    let rows = c.args.left.now.rows in
    let others = c.args.right.now.rows in
    let i = c.loop-nth.nth in
    let l = c.row-row.result.now in
    let added = c.in_ok-more.more.items in
    let so_far = c.loop-nth.invariant.made in
    let at = this g (goal.at.loop-nth-preserved g c).After-words-in-loop-nth in
    let source = TermOfJoin old cond (rows ++ others) in
    let more : MakesPairs now new (m + n) cond (l ∷ []) others (TermOfJoin now cond (l ∷ others)) added =
    subst (λ k. MakesPairs now new (k + n) cond (l ∷ []) others (TermOfJoin now cond (l ∷ others)) added) at.was.width_is c.in_ok-more.ensures.rows in
    record {
      made = subst (λ d. MakesPairs old new (m + n) cond d others source c.append.new.self.items) at.done
          (subst (MakesPairs old new (m + n) cond (take i rows ++ l ∷ []) others source) (sym c.in_ok-append.ensures.items)
          (rows_more old cond now new c.words-in-loop-nth.ensures.formed (m + n) source l others (take i rows) c.loop-nth.out.items added so_far
          (row_before old cond now new m n (TermOfJoin now cond (l ∷ others)) source l others added
          (λ t h. elim h [
            | inl a ↦ inl (of_either old now so_far.grown c.words.ensures.formed m n rows others l at.was at.among c.requires.right.each t a)
            | inr b ↦ inr b
          ]) so_far.grown at.was c.requires.right.each more)));
      writes = writes_more _ i c.loop-nth.invariant.writes c.in_ok-more.ensures.writes;
    }

pub returns-clause-rows : goal.returns-clause-rows
returns-clause-rows g c =
    let old = g.I.Interner.list c.args.pass.now in
    let rows = c.args.left.now.rows in
    let others = c.args.right.now.rows in
    let cond = condition_of c.args.asked.pred.now in
    subst (λ d. MakesPairs old (g.I.Interner.list c.loop-nth.pass) (length c.args.left.now.columns + length c.args.right.now.columns) cond d others (TermOfJoin old cond (rows ++ others)) c.loop-nth.out.items)
    (take_all c.loop-nth.nth rows (omega (arith, c.loop-nth-test.false, c.len-nth-end.ensures))) c.loop-nth.invariant.made

pub returns-clause-writes : goal.returns-clause-writes
returns-clause-writes g c = writes_as (in_all (length c.args.left.now.rows) (length c.args.right.now.rows) (pair_words (condition_of c.args.asked.pred.now))) (writes_all _ _ c.loop-nth.invariant.writes _ (omega (arith, c.loop-nth.auto.nth-end, c.len-nth-end.ensures)))

pub returns-in_err-more-clause-writes : goal.returns-in_err-more-clause-writes
returns-in_err-more-clause-writes g c =
    let exit = err_from_is_err_and c.from_residual-in_err-more.result c.from_residual-in_err-more.ensures.1 in
    rw (exit.1, exit.2) (writes_as (in_all (length c.args.left.now.rows) (length c.args.right.now.rows) (pair_words (condition_of c.args.asked.pred.now))) (writes_last _ _ c.loop-nth.invariant.writes _ (this g (goal.at.returns-in_err-more-clause-writes g c).After-words-in-loop-nth).within c.in_err-more.ensures.writes))

pub returns-in_err-append-clause-writes : goal.returns-in_err-append-clause-writes
returns-in_err-append-clause-writes g c =
    let exit = err_from_is_err_and c.from_residual-in_err-append.result c.from_residual-in_err-append.ensures.1 in
    rw (exit.1, exit.2) (writes_as (in_all (length c.args.left.now.rows) (length c.args.right.now.rows) (pair_words (condition_of c.args.asked.pred.now))) (writes_last _ _ c.loop-nth.invariant.writes _ (this g (goal.at.returns-in_err-append-clause-writes g c).After-words-in-loop-nth).within c.in_ok-more.ensures.writes))

pub returns-in_err-keys-clause-writes : goal.returns-in_err-keys-clause-writes
returns-in_err-keys-clause-writes g c =
    let exit = err_from_is_err_and c.from_residual.result c.from_residual.ensures.1 in
    rw (exit.1, exit.2) (writes_none _ c.words.ensures.formed c.words.ensures.room)

pub returns-in_err-index-clause-writes : goal.returns-in_err-index-clause-writes
returns-in_err-index-clause-writes g c =
    let exit = err_from_is_err_and c.from_residual-in_err-index.result c.from_residual-in_err-index.ensures.1 in
    rw (exit.1, exit.2) (writes_none _ c.words.ensures.formed c.words.ensures.room)
