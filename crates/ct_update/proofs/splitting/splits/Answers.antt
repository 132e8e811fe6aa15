use Rattle.std.{proofs.Common.{ℕ, List, ◌≡◌, ◌∙◌, [], ◌∷◌, ◌++◌, length, take, ap, sym, subst, refl, arith}, specs.Prelude.{All}}
use Rattle.std.{proofs.lemmas.List.take_all, proofs.lemmas.List.Elements.All-weaker, proofs.lemmas.Result.err_from_is_err_and}
use Rattle.ct_word.specs.Reading.{condition_at}
use Rattle.ct_word.proofs.Prefixes.{place_in_prefix, place_within, condition_in_prefix}
use Rattle.ct_query.specs.Bounds.{ops}
use Rattle.ct_worlds.specs.Below.{AreBelow}
use Rattle.ct_condition.proofs.Writes.{writes_none, writes_within, writes_more, writes_last, writes_all}
use Rattle.ct_operators.{specs.Placing.ArePartsOf, proofs.Selecting.{Turn, turn}}
use Rattle.ct_operators.{proofs.Steps.parts_below, proofs.Putting.{parts_later, written_back}}
use Rattle.ct_update.{specs.Needing.IsNeeded, specs.Updating.{AreSplit}, proofs.Equalities.needed_later, proofs.Updates.{split_none, split_more}}
use Rattle.ct_word.specs.declared.kinds.Class.TheVariants as class
use Rattle.ct_update.proofs.splitting.splits.Goals.{After-words-in-loop-nth}
use Rattle.ct_update.proofs.splitting.splits.Goals as goal

-- the row of a turn
this : (g : _) (c : After-words-in-loop-nth g)
    → Turn (g.I.Interner.list c.args.pass.now) (g.I.Interner.list c.loop-nth.pass) (length (g.T.RowSource.table c.args.table.now).columns) (g.T.RowSource.table c.args.table.now).rows c.loop-nth.nth c.row-row.result.now
this g c = turn _ _ _ _ _ _ c.loop-nth.invariant.writes.longer c.words.ensures.formed c.requires.rows.each _ refl (omega (arith, c.loop-nth-test.true, c.len-nth-end.ensures)) c.row-row.ensures

pub loop-nth-init : goal.loop-nth-init
loop-nth-init g c =
    let old = g.I.Interner.list c.args.pass.now in
    let width = length (g.T.RowSource.table c.args.table.now).columns in
    record {
      split = λ sets fits. subst (AreSplit old old width sets c.args.cond []) (sym c.in_ok-conds.ensures.items) (split_none old width sets c.args.cond);
      long = omega (arith, c.in_ok-put.ensures, c.len.ensures);
      writes = writes_none _ c.words.ensures.formed c.words.ensures.room;
    }

pub split-requires-clause-row : goal.split-requires-clause-row
split-requires-clause-row g c = (this g (goal.at.split-requires-clause-row g c).After-words-in-loop-nth).itself

pub split-requires-clause-cond : goal.split-requires-clause-cond
split-requires-clause-cond g c = place_in_prefix _ _ class.Cond c.args.cond c.loop-nth.invariant.writes.longer c.requires.cond

pub split-requires-clause-parts : goal.split-requires-clause-parts
split-requires-clause-parts g c =
    let old = g.I.Interner.list c.args.pass.now in
    let now = g.I.Interner.list c.loop-nth.pass in
    let cond = c.args.cond in
    let places = c.in_ok-places.places.items in
    subst (ArePartsOf now cond) (sym c.as_slice.ensures.value)
    (parts_later old now cond places c.loop-nth.invariant.writes.longer c.requires.cond
    (parts_below old cond places c.words.ensures.formed c.requires.cond (subst (λ ws. AreBelow ws (cond ∷ []) places) c.words-2.ensures.words c.in_ok-places.ensures)))

pub split-requires-clause-pairs : goal.split-requires-clause-pairs
split-requires-clause-pairs g c =
    let old = g.I.Interner.list c.args.pass.now in
    let now = g.I.Interner.list c.loop-nth.pass in
    let cond = c.args.cond in
    let pairs = c.in_ok-pairs.pairs.items in
    subst (All (IsNeeded now cond)) (sym c.as_slice-in-loop-nth.ensures.value)
    (All-weaker (IsNeeded old cond) (IsNeeded now cond) (needed_later old now c.loop-nth.invariant.writes.longer cond c.requires.cond) pairs
    (subst (λ ws. All (IsNeeded ws cond) pairs) c.words-3.ensures.words c.in_ok-pairs.ensures))

pub split-requires-clause-long : goal.split-requires-clause-long
split-requires-clause-long g c =
    ap (λ (l : List ℕ). length l) c.as_mut_slice.ensures.value ∙ c.loop-nth.invariant.long ∙ ap (λ (l : List ℕ). length l) (sym c.as_slice.ensures.value)

-- the words of a condition stay as many
ops_same : (g : _) (c : After-words-in-loop-nth g) → ops (condition_at (g.I.Interner.list c.loop-nth.pass) c.args.cond) ≡ ops (condition_at (g.I.Interner.list c.args.pass.now) c.args.cond)
ops_same g c =
    ap ops (condition_in_prefix (g.I.Interner.list c.args.pass.now) (g.I.Interner.list c.loop-nth.pass) c.args.cond c.loop-nth.invariant.writes.longer (place_within (g.I.Interner.list c.args.pass.now) class.Cond c.args.cond c.requires.cond))

pub loop-nth-preserved : goal.loop-nth-preserved
loop-nth-preserved g c =
    let old = g.I.Interner.list c.args.pass.now in
    let now = g.I.Interner.list c.loop-nth.pass in
    let new = g.I.Interner.list c.split.new.pass in
    let width = length (g.T.RowSource.table c.args.table.now).columns in
    let cond = c.args.cond in
    let rows = (g.T.RowSource.table c.args.table.now).rows in
    let i = c.loop-nth.nth in
    let r = c.row-row.result.now in
    let both = c.in_ok-both.both in
    let turn = (goal.at.loop-nth-preserved g c).After-words-in-loop-nth in
    let at = this g turn in
    record {
      split = λ sets fits.
          subst (λ d. AreSplit old new width sets cond d c.push.new.self.items) at.done
          (subst (AreSplit old new width sets cond (take i rows ++ r ∷ [])) (sym c.in_ok-push.ensures.items)
          (split_more old now new c.in_ok-both.ensures.writes.longer c.words.ensures.formed c.words-in-loop-nth.ensures.formed width sets cond fits (take i rows) c.loop-nth.conds.items (c.loop-nth.invariant.split sets fits) r at.was both
          c.in_ok-both.ensures.stays c.in_ok-both.ensures.goes c.in_ok-both.ensures.terms));
      long =
          let e = c.in_ok-both.ensures.long ∙ ap (λ (l : List ℕ). length l) c.as_mut_slice.ensures.value in
          written_back c.loop-nth.put.len c.split.new.put c.loop-nth.put.items e c.loop-nth.put.ok.0 ∙ c.loop-nth.invariant.long;
      writes = writes_more _ i c.loop-nth.invariant.writes (writes_within _ (omega (arith, ops_same g turn)) c.in_ok-both.ensures.writes);
    }

pub returns-clause-split : goal.returns-clause-split
returns-clause-split g c sets fits =
    subst (λ d. AreSplit (g.I.Interner.list c.args.pass.now) (g.I.Interner.list c.loop-nth.pass) (length (g.T.RowSource.table c.args.table.now).columns) sets c.args.cond d c.loop-nth.conds.items)
    (take_all c.loop-nth.nth (g.T.RowSource.table c.args.table.now).rows (omega (arith, c.loop-nth-test.false, c.len-nth-end.ensures))) (c.loop-nth.invariant.split sets fits)

pub returns-clause-writes : goal.returns-clause-writes
returns-clause-writes g c = writes_all _ _ c.loop-nth.invariant.writes _ (omega (arith, c.loop-nth.auto.nth-end, c.len-nth-end.ensures))

pub returns-in_err-both-clause-writes : goal.returns-in_err-both-clause-writes
returns-in_err-both-clause-writes g c =
    let exit = err_from_is_err_and c.from_residual-in_err-both.result c.from_residual-in_err-both.ensures.1 in
    let turn = (goal.at.returns-in_err-both-clause-writes g c).After-words-in-loop-nth in
    rw (exit.1, exit.2) (writes_last _ _ c.loop-nth.invariant.writes _ (this g turn).within (writes_within _ (omega (arith, ops_same g turn)) c.in_err-both.ensures.writes))

pub returns-in_err-push-clause-writes : goal.returns-in_err-push-clause-writes
returns-in_err-push-clause-writes g c =
    let exit = err_from_is_err_and c.from_residual-in_err-push.result c.from_residual-in_err-push.ensures.1 in
    let turn = (goal.at.returns-in_err-push-clause-writes g c).After-words-in-loop-nth in
    rw (exit.1, exit.2) (writes_last _ _ c.loop-nth.invariant.writes _ (this g turn).within (writes_within _ (omega (arith, ops_same g turn)) c.in_ok-both.ensures.writes))
