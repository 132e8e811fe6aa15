use Rattle.std.{proofs.Common.{◌≡◌, ◌<◌, true, ◌∙◌, length, ap, sym, subst, refl, inr}, specs.Prelude.All, proofs.lemmas.Bool.false≢true, proofs.lemmas.Result.IfOk-weaker, proofs.lemmas.List.Elements.All-weaker}
use Rattle.ct_word.proofs.Prefixes.{prefix_same}
use Rattle.ct_query.{specs.Pred.condition_of}
use Rattle.ct_condition.{specs.Truth.{HasTruth, and_at}, specs.Terms.{TermsFrom, BelowEither}, proofs.Writes.{writes_none, writes_as}, proofs.Denied.below_literal}
use Rattle.ct_operators.specs.Building.{HoldsWhere}
use Rattle.ct_algebra.{specs.declared.equals.Equal.Equal, specs.Equals.{HasEqual, differ_in}, specs.Joining.{pair_holds, pair_words, TermOfPair}}
use Rattle.ct_algebra.{proofs.Pairs.{pair_never, both_hold, both_from, other_words}, proofs.Telling.{differ_never, not_apart}, proofs.joining.paired.Goals.{After-differ_in}}
use Rattle.ct_algebra.proofs.joining.paired.Goals as goal

-- the columns of the right row
within : (g : _) (c : After-differ_in g) → All (λ (e : Equal). e.right < length c.args.right.now.cells) c.args.asked.equals.now
within g c =
    All-weaker (HasEqual (length c.args.left.now.cells) (condition_of c.args.asked.pred.now)) (λ e. e.right < length c.args.right.now.cells)
    (λ e h. h.right (length c.args.right.now.cells) c.requires.predicate.columns) c.args.asked.equals.now c.requires.equals

pub differ_in-requires-clause-left : goal.differ_in-requires-clause-left
differ_in-requires-clause-left g c =
    subst (λ ps. All (λ (e : Equal). e.left < length ps) c.args.asked.equals.now) (sym c.as_slice.ensures)
    (All-weaker (HasEqual (length c.args.left.now.cells) (condition_of c.args.asked.pred.now)) (λ e. e.left < length c.args.left.now.cells) (λ e h. h.left) c.args.asked.equals.now c.requires.equals)

pub differ_in-requires-clause-right : goal.differ_in-requires-clause-right
differ_in-requires-clause-right g c =
    subst (λ ps. All (λ (e : Equal). e.right < length ps) c.args.asked.equals.now) (sym c.as_slice-2.ensures)
    (All-weaker (HasEqual (length c.args.left.now.cells) (condition_of c.args.asked.pred.now)) (λ e. e.right < length c.args.right.now.cells)
    (λ e h. h.right (length c.args.right.now.cells) c.requires.predicate.columns) c.args.asked.equals.now c.requires.equals)

pub returns-then-differ_in-clause-holds : goal.returns-then-differ_in-clause-holds
returns-then-differ_in-clause-holds g c =
    let old = g.I.Interner.list c.args.pass.now in
    let l = c.args.left.now in
    let r = c.args.right.now in
    let es = c.args.asked.equals.now in
    let e : differ_in old es l.cells r.cells ≡ true =
    (λ i. differ_in (sym c.words.ensures.words i) es (sym c.as_slice.ensures i) (sym c.as_slice-2.ensures i)) ∙ sym c.differ_in.ensures ∙ c.if-differ_in.true in
    pair_never old old (condition_of c.args.asked.pred.now) l r c.words.ensures.begins c.words.ensures.formed
    (differ_never old l.cells r.cells (length l.cells) (condition_of c.args.asked.pred.now) es c.requires.equals refl (length r.cells) refl (within g (goal.at.returns-then-differ_in-clause-holds g c).After-differ_in) c.words.ensures.formed e)

pub returns-then-differ_in-clause-terms : goal.returns-then-differ_in-clause-terms
returns-then-differ_in-clause-terms g c t h = absurd (below_literal (g.I.Interner.list c.args.pass.now) c.words.ensures.formed c.words.ensures.begins 1 (inr refl) t h)

pub returns-then-differ_in-clause-writes : goal.returns-then-differ_in-clause-writes
returns-then-differ_in-clause-writes g c = writes_none _ c.words.ensures.formed c.words.ensures.room

pub returns-in-True-clause-holds : goal.returns-in-True-clause-holds
returns-in-True-clause-holds g c =
    let old = g.I.Interner.list c.args.pass.now in
    let new = g.I.Interner.list c.and.new.pass in
    let l = c.args.left.now in
    let r = c.args.right.now in
    IfOk-weaker c.and.result (λ p. HasTruth new p (and_at old l.cond r.cond)) (λ p. HoldsWhere new p (pair_holds old (condition_of c.args.asked.pred.now) l r))
    (λ p. both_hold old (condition_of c.args.asked.pred.now) l r c.requires.left c.requires.right c.words.ensures.formed new p (ap condition_of c.in-True.is)) c.and.ensures.truth

pub returns-in-True-clause-terms : goal.returns-in-True-clause-terms
returns-in-True-clause-terms g c =
    let old = g.I.Interner.list c.args.pass.now in
    let new = g.I.Interner.list c.and.new.pass in
    let l = c.args.left.now in
    let r = c.args.right.now in
    IfOk-weaker c.and.result (λ p. TermsFrom new p (BelowEither old l.cond r.cond)) (λ p. TermsFrom new p (TermOfPair old (condition_of c.args.asked.pred.now) l r))
    (λ p. both_from old (condition_of c.args.asked.pred.now) l r c.requires.left c.requires.right c.words.ensures.formed old new p (prefix_same old)) c.and.ensures.terms

pub returns-in-True-clause-writes : goal.returns-in-True-clause-writes
returns-in-True-clause-writes g c = writes_as (sym (ap (λ p. pair_words (condition_of p)) c.in-True.is)) c.and.ensures.writes

pub returns-in_default-clause-writes : goal.returns-in_default-clause-writes
returns-in_default-clause-writes g c = writes_as (other_words c.args.asked.pred.now c.in_default.not-True) c.met.ensures.writes

pub returns-in-True-clause-apart : goal.returns-in-True-clause-apart
returns-in-True-clause-apart g c h =
    absurd (false≢true (not_apart _ _ c.args.asked.equals.now _ _ _ _ c.differ_in.result c.words.ensures.words c.as_slice.ensures c.as_slice-2.ensures c.differ_in.ensures c.if-differ_in.false h))

pub returns-in_default-clause-apart : goal.returns-in_default-clause-apart
returns-in_default-clause-apart g c h =
    absurd (false≢true (not_apart _ _ c.args.asked.equals.now _ _ _ _ c.differ_in.result c.words.ensures.words c.as_slice.ensures c.as_slice-2.ensures c.differ_in.ensures c.if-differ_in.false h))
