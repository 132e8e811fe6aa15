use Rattle.std.proofs.Common.{◌≡◌, ◌∙◌, Err, length, take, take_all, get_or, refl, ap, sym, subst, arith, inl, inr, ◌≤◌, ◌<◌, ◌+◌}
use Rattle.std.{specs.Prelude.{is_some, ◌⊎◌}, proofs.lemmas.Result.{IfOk-weaker, err_from_is_err_and}, proofs.lemmas.List.Elements.All-get_or}
use Rattle.std.proofs.lemmas.List.Sums.{get_or-le-sum_by}
use Rattle.ct_word.{proofs.Prefixes.{place_within, place_in_prefix}, specs.Condition.Not}
use Rattle.ct_query.{specs.declared.query.Pred.{Pred, And, Or, Same}, specs.Pred.condition_of, specs.Bounds.ops, specs.Fields.AreFittingOn}
use Rattle.ct_condition.{specs.Runs.under, specs.Truth.{HasTruth, ops_at}, specs.Rows.{on_row, new_words, words_on}, proofs.Runs.{one_more, none_under}}
use Rattle.ct_condition.{specs.Folding.{folded_join, literal_place, unit_place}, proofs.Truths.in_place, proofs.Placed.{new_fewer, on_ok}}
use Rattle.ct_condition.{proofs.Denied.{below_literal, is_literal}, proofs.Depth.{parts_of, parts_under}, proofs.OnRows.places_in_prefix}
use Rattle.ct_condition.proofs.Counted.{words_under, new_under, placed_more, run_more, run_stops, run_ends, unit_folds, folds_ok}
use Rattle.ct_condition.{proofs.Trees.{fit_under, under_on_row, item_on_row}, proofs.Reached.formed_before, proofs.Named.{run_terms, not_terms, under_terms}}
use Rattle.ct_condition.proofs.Ops.{literal_ops, ops_kept, join_first, run_ops_more, ops_under}
use Rattle.ct_condition.proofs.Writes.{writes_none, writes_both, writes_of, writes_within, writes_as, writes_made, writes_fewer}
use Rattle.ct_condition.proofs.predicates.+pred.Goals.{run-In_err-next, run-In_err-place, run-After-loop-p}
use Rattle.ct_word.specs.declared.kinds.Class.TheVariants as class
use Rattle.ct_word.specs.declared.connectives.Connective.TheVariants as connective
use Rattle.ct_condition.proofs.predicates.+pred.Given as given
use Rattle.ct_condition.proofs.predicates.+pred.Goals as goal

pub run-loop-p-preserved : goal.run-loop-p-preserved
run-loop-p-preserved g t c =
    let j = c.args.connective in
    let first = g.I.Interner.list c.args.pass.now in
    let old = g.I.Interner.list c.loop-p.pass in
    let mid = g.I.Interner.list c.pred.new.pass in
    let new = g.I.Interner.list c.join.new.pass in
    let cells = c.args.row.now in
    let p = c.p-item.result in
    record {
      truth =
          one_more j (λ (q : Pred). on_row first (condition_of q) cells) c.args.list.now c.loop-p.p-index p c.loop-p-test.true old mid new c.loop-p.place c.in_ok-next.next c.in_ok-place.place
          c.in_ok-next.ensures.longer
          (item_on_row first old mid c.in_ok-next.next cells p (get_or c.args.list.now c.loop-p.p-index p) c.loop-p.invariant.writes.longer c.requires.row c.p-item.is c.in_ok-next.ensures.truth)
          c.loop-p.invariant.truth c.in_ok-place.ensures.truth;
      terms =
          run_terms first old mid new cells c.loop-p.invariant.writes.longer c.in_ok-next.ensures.longer (formed_before mid new c.in_ok-place.ensures.writes.longer c.in_ok-place.ensures.writes.formed) c.requires.row
          c.args.list.now c.loop-p.p-index p c.loop-p-test.true c.p-item.is c.loop-p.place c.in_ok-next.next c.in_ok-place.place
          (place_within old class.Cond c.loop-p.place c.loop-p.invariant.truth.class) c.loop-p.invariant.terms c.in_ok-next.ensures.terms c.in_ok-place.ensures.terms;
      ops =
          let k = ops_kept old mid c.in_ok-next.ensures.longer c.loop-p.place (place_within old class.Cond c.loop-p.place c.loop-p.invariant.truth.class) in
          let step = c.in_ok-place.ensures.ops in
          run_ops_more c.args.list.now c.loop-p.p-index p c.loop-p-test.true c.p-item.is (ops_at old c.loop-p.place) (ops_at mid c.in_ok-next.next) (ops_at new c.in_ok-place.place)
          c.loop-p.invariant.ops c.in_ok-next.ensures.ops
          (λ e. join_first j _ mid new c.loop-p.place c.in_ok-next.next c.in_ok-place.place _ (c.loop-p.invariant.first e) refl c.in_ok-place.ensures.folds) (omega arith);
      writes =
          let more = run_more first old cells c.loop-p.invariant.writes.longer c.args.list.now c.loop-p.p-index p c.loop-p-test.true c.p-item.is
          (g.I.Interner.made c.args.pass.now) (g.I.Interner.made c.loop-p.pass) (g.I.Interner.made c.pred.new.pass) (g.I.Interner.made c.join.new.pass)
          (writes_made c.loop-p.invariant.writes) (writes_made c.in_ok-next.ensures.writes) (λ e. c.in_ok-place.ensures.unmade (ap is_some (unit_folds j mid c.loop-p.place c.in_ok-next.next (c.loop-p.invariant.first e))))
          (writes_made c.in_ok-place.ensures.writes) in
          writes_of (writes_both c.loop-p.invariant.writes (writes_both c.in_ok-next.ensures.writes c.in_ok-place.ensures.writes)) (omega (arith, more));
      placed =
          placed_more old mid new cells c.in_ok-next.ensures.longer c.in_ok-place.ensures.writes.longer c.args.list.now c.loop-p.p-index p c.loop-p-test.true c.p-item.is
          c.loop-p.invariant.placed c.in_ok-next.ensures.placed;
      first = λ e. absurd (omega arith);
    }

pub run-loop-p-init : goal.run-loop-p-init
run-loop-p-init g t c =
    let first = g.I.Interner.list c.args.pass.now in
    let place = c.literal-place.result in
    let unit_is : place ≡ unit_place c.args.connective = c.literal-place.ensures.place ∙ ap literal_place c.unit.ensures in
    let literal : (place ≡ 0) ⊎ (place ≡ 1) = subst (λ n. (n ≡ 0) ⊎ (n ≡ 1)) (sym c.literal-place.ensures.place) (is_literal c.unit.result) in
    record {
      truth =
          in_place first place (λ v r. c.unit.result) _ (subst (λ ws. HasTruth ws place (λ v r. c.unit.result)) c.words.ensures.words c.literal-place.ensures.truth)
          (λ v r. c.unit.ensures ∙ none_under c.args.connective _);
      terms = λ t h. absurd (below_literal first c.words.ensures.formed c.words.ensures.begins place literal t h);
      ops = let z = literal_ops first c.words.ensures.formed c.words.ensures.begins place literal in omega arith;
      writes = writes_none _ c.words.ensures.formed c.words.ensures.room;
      placed = refl;
      first = λ e. unit_is;
    }

pub run-pred-requires : goal.run-pred-requires
run-pred-requires g t c κs within =
    let ps = c.args.list.now in
    let p = c.p-item.result in
    let i = c.loop-p.p-index in
    let less = get_or-le-sum_by parts_of ps i p c.loop-p-test.true in
    let same = ap parts_of c.p-item.is in
    let fields = subst (λ q. AreFittingOn (length c.args.row.now) (condition_of q)) (sym c.p-item.is) (All-get_or (λ q. AreFittingOn (length c.args.row.now) (condition_of q)) ps i p c.loop-p-test.true c.requires.fields) in
    (omega (arith, less, same, c.decreases), (within.0, (within.1, (fields, places_in_prefix (g.I.Interner.list c.args.pass.now) (g.I.Interner.list c.loop-p.pass) c.args.row.now c.loop-p.invariant.writes.longer c.requires.row))))

pub run-join-requires-clause-left : goal.run-join-requires-clause-left
run-join-requires-clause-left g t c =
    place_in_prefix (g.I.Interner.list c.loop-p.pass) (g.I.Interner.list c.pred.new.pass) class.Cond c.loop-p.place c.in_ok-next.ensures.longer c.loop-p.invariant.truth.class

-- an item or its connective for which there is no room
stops : (g : given.Over) (t : _) (c : run-In_err-next g t) → g.I.Interner.made c.pred.new.pass < g.I.Interner.made c.args.pass.now + words_on (g.I.Interner.list c.args.pass.now) c.args.row.now (condition_of (under c.args.connective c.args.list.now))
stops g t c =
    rw (words_under (g.I.Interner.list c.args.pass.now) c.args.row.now c.args.connective c.args.list.now)
    (run_stops (g.I.Interner.list c.args.pass.now) (g.I.Interner.list c.loop-p.pass) c.args.row.now c.loop-p.invariant.writes.longer c.args.list.now c.loop-p.p-index c.p-item.result c.loop-p-test.true c.p-item.is
    (g.I.Interner.made c.args.pass.now) (g.I.Interner.made c.loop-p.pass) (g.I.Interner.made c.pred.new.pass) 0 (writes_made c.loop-p.invariant.writes) c.in_err-next.ensures.err)

ends : (g : given.Over) (t : _) (c : run-In_err-place g t) → g.I.Interner.made c.join.new.pass < g.I.Interner.made c.args.pass.now + words_on (g.I.Interner.list c.args.pass.now) c.args.row.now (condition_of (under c.args.connective c.args.list.now))
ends g t c =
    let mid = g.I.Interner.list c.pred.new.pass in
    rw (words_under (g.I.Interner.list c.args.pass.now) c.args.row.now c.args.connective c.args.list.now)
    (run_ends (g.I.Interner.list c.args.pass.now) (g.I.Interner.list c.loop-p.pass) c.args.row.now c.loop-p.invariant.writes.longer c.args.list.now c.loop-p.p-index c.p-item.result c.loop-p-test.true c.p-item.is
    (g.I.Interner.made c.args.pass.now) (g.I.Interner.made c.loop-p.pass) (g.I.Interner.made c.pred.new.pass) (g.I.Interner.made c.join.new.pass) (writes_made c.loop-p.invariant.writes)
    (λ e. folds_ok (folded_join c.args.connective mid c.loop-p.place c.in_ok-next.next) _ mid (g.I.Interner.list c.join.new.pass) (Err c.in_err-place.field-0.0) c.in_err-place.field-0.0
    (ap is_some (unit_folds c.args.connective mid c.loop-p.place c.in_ok-next.next (c.loop-p.invariant.first e))) c.in_err-place.ensures.folds refl)
    (writes_made c.in_ok-next.ensures.writes) c.in_err-place.ensures.err)

pub run-returns-in_err-next-clause-writes : goal.run-returns-in_err-next-clause-writes
run-returns-in_err-next-clause-writes g t c =
    let lt = stops g t (goal.at.run-returns-in_err-next-clause-writes g t c).In_err-next in
    rw (err_from_is_err_and c.from_residual.result c.from_residual.ensures.1).1 (writes_of (writes_both c.loop-p.invariant.writes c.in_err-next.ensures.writes) (omega (arith, lt)))

pub run-returns-in_err-place-clause-writes : goal.run-returns-in_err-place-clause-writes
run-returns-in_err-place-clause-writes g t c =
    let lt = ends g t (goal.at.run-returns-in_err-place-clause-writes g t c).In_err-place in
    rw (err_from_is_err_and c.from_residual-in_err-place.result c.from_residual-in_err-place.ensures.1).1
    (writes_of (writes_both c.loop-p.invariant.writes (writes_both c.in_ok-next.ensures.writes c.in_err-place.ensures.writes)) (omega (arith, lt)))

-- all items are put
whole : (g : given.Over) (t : _) (c : run-After-loop-p g t) → take c.loop-p.p-index c.args.list.now ≡ c.args.list.now
whole g t c = take_all c.loop-p.p-index c.args.list.now c.loop-p-test.false

pub run-returns-clause-truth : goal.run-returns-clause-truth
run-returns-clause-truth g t c =
    under_on_row c.args.connective (g.I.Interner.list c.args.pass.now) (g.I.Interner.list c.loop-p.pass) c.loop-p.place c.args.list.now c.args.row.now (rw (whole g t c) at c.loop-p.invariant.truth)

pub run-returns-clause-terms : goal.run-returns-clause-terms
run-returns-clause-terms g t c = under_terms c.args.connective (g.I.Interner.list c.args.pass.now) (g.I.Interner.list c.loop-p.pass) c.args.row.now c.loop-p.place c.args.list.now c.loop-p.invariant.terms

pub run-returns-clause-ops : goal.run-returns-clause-ops
run-returns-clause-ops g t c = rw (ops_under c.args.connective c.args.list.now) (rw (whole g t c) at c.loop-p.invariant.ops)

pub run-returns-clause-writes : goal.run-returns-clause-writes
run-returns-clause-writes g t c =
    rw (words_under (g.I.Interner.list c.args.pass.now) c.args.row.now c.args.connective c.args.list.now) (rw (whole g t c) at c.loop-p.invariant.writes)

pub run-returns-clause-placed : goal.run-returns-clause-placed
run-returns-clause-placed g t c = new_under (g.I.Interner.list c.loop-p.pass) c.args.row.now c.args.connective c.args.list.now ∙ (rw (whole g t c) at c.loop-p.invariant.placed)

pub pred-run-requires : goal.pred-run-requires
pred-run-requires g t c κs within =
    let cs = c.as_slice.result.now in
    let is : c.args.p.now ≡ And cs = cc in
    (omega (arith, c.decreases, parts_under connective.And c.args.p.now cs is), (within.0, (within.1, (fit_under (length c.args.row.now) connective.And c.args.p.now cs is c.requires.fields, c.requires.row))))

pub pred-run-requires-in-Or : goal.pred-run-requires-in-Or
pred-run-requires-in-Or g t c κs within =
    let cs = c.as_slice-in-Or.result.now in
    let is : c.args.p.now ≡ Or cs = cc in
    (omega (arith, c.decreases, parts_under connective.Or c.args.p.now cs is), (within.0, (within.1, (fit_under (length c.args.row.now) connective.Or c.args.p.now cs is c.requires.fields, c.requires.row))))

pub pred-returns-in-True-clause-terms : goal.pred-returns-in-True-clause-terms
pred-returns-in-True-clause-terms g t c =
    λ x h. absurd (below_literal (g.I.Interner.list c.args.pass.now) c.words.ensures.formed c.words.ensures.begins c.literal.result (inl c.literal.ensures.place) x h)

pub pred-returns-in-False-clause-terms : goal.pred-returns-in-False-clause-terms
pred-returns-in-False-clause-terms g t c =
    λ x h. absurd (below_literal (g.I.Interner.list c.args.pass.now) c.words-in-False.ensures.formed c.words-in-False.ensures.begins c.literal-in-False.result (inr c.literal-in-False.ensures.place) x h)

pub pred-returns-in_ok-place-in-Not-clause-terms : goal.pred-returns-in_ok-place-in-Not-clause-terms
pred-returns-in_ok-place-in-Not-clause-terms g t c =
    let q = c.deref.result.now in
    let is : Not (condition_of q) ≡ condition_of c.args.p.now = ap (λ b. Not (condition_of b)) c.deref.ensures ∙ ap condition_of (sym c.in-Not.is) in
    IfOk-weaker c.not.result _ _
    (λ place from. not_terms (g.I.Interner.list c.args.pass.now) (g.I.Interner.list c.pred.new.pass) (g.I.Interner.list c.not.new.pass) c.args.row.now c.in_ok-place-in-Not.place place (condition_of q) (condition_of c.args.p.now) is c.in_ok-place-in-Not.ensures.terms from) c.not.ensures.terms

pub pred-returns-in-Same-clause-writes : goal.pred-returns-in-Same-clause-writes
pred-returns-in-Same-clause-writes g t c =
    let is : Same c.in-Same.s c.in-Same.t ≡ c.args.p.now = cc in
    writes_as (ap (λ q. words_on (g.I.Interner.list c.args.pass.now) c.args.row.now (condition_of q)) is) c.same.ensures.writes

pub pred-returns-in-Same-clause-made : goal.pred-returns-in-Same-clause-made
pred-returns-in-Same-clause-made g t c = writes_made (pred-returns-in-Same-clause-writes g t c)

pub pred-returns-in-Same-clause-err : goal.pred-returns-in-Same-clause-err
pred-returns-in-Same-clause-err g t c = writes_fewer _ (pred-returns-in-Same-clause-writes g t c)

pub pred-returns-in_ok-place-in-Not-clause-writes : goal.pred-returns-in_ok-place-in-Not-clause-writes
pred-returns-in_ok-place-in-Not-clause-writes g t c =
    let is : Not (condition_of c.deref.result.now) ≡ condition_of c.args.p.now = ap (λ b. Not (condition_of b)) c.deref.ensures ∙ ap condition_of (sym c.in-Not.is) in
    writes_within _ (omega (arith, ap (words_on (g.I.Interner.list c.args.pass.now) c.args.row.now) is)) (writes_both c.in_ok-place-in-Not.ensures.writes c.not.ensures.writes)

pub pred-returns-in_err-place-in-Not-clause-writes : goal.pred-returns-in_err-place-in-Not-clause-writes
pred-returns-in_err-place-in-Not-clause-writes g t c =
    let is : Not (condition_of c.deref.result.now) ≡ condition_of c.args.p.now = ap (λ b. Not (condition_of b)) c.deref.ensures ∙ ap condition_of (sym c.in-Not.is) in
    rw (err_from_is_err_and c.from_residual.result c.from_residual.ensures.1).1
    (writes_within _ (omega (arith, ap (words_on (g.I.Interner.list c.args.pass.now) c.args.row.now) is)) c.in_err-place-in-Not.ensures.writes)

pub pred-returns-in-Same-clause-placed : goal.pred-returns-in-Same-clause-placed
pred-returns-in-Same-clause-placed g t c =
    let is : c.args.p.now ≡ Same c.in-Same.s c.in-Same.t = cc in
    let words = ap (λ q. new_words (g.I.Interner.list c.same.new.pass) c.args.row.now (condition_of q)) is in
    rw words c.same.ensures.placed

pub pred-returns-in_ok-place-in-Not-clause-placed : goal.pred-returns-in_ok-place-in-Not-clause-placed
pred-returns-in_ok-place-in-Not-clause-placed g t c =
    let new = g.I.Interner.list c.not.new.pass in
    let cells = c.args.row.now in
    let inner = c.deref.result.now in
    let is : new_words new cells (condition_of c.args.p.now) ≡ new_words new cells (condition_of inner) =
    ap (λ q. new_words new cells (condition_of q)) c.in-Not.is ∙ ap (λ q. new_words new cells (condition_of q)) (sym c.deref.ensures) in
    on_ok c.not.result (omega (arith, new_fewer (g.I.Interner.list c.pred.new.pass) new cells c.not.ensures.longer (condition_of inner), is, c.in_ok-place-in-Not.ensures.placed))

pub pred-returns-in-True-clause-ops : goal.pred-returns-in-True-clause-ops
pred-returns-in-True-clause-ops g t c =
    let z = literal_ops (g.I.Interner.list c.args.pass.now) c.words.ensures.formed c.words.ensures.begins c.literal.result (inl c.literal.ensures.place) in omega arith

pub pred-returns-in-False-clause-ops : goal.pred-returns-in-False-clause-ops
pred-returns-in-False-clause-ops g t c =
    let z = literal_ops (g.I.Interner.list c.args.pass.now) c.words-in-False.ensures.formed c.words-in-False.ensures.begins c.literal-in-False.result (inr c.literal-in-False.ensures.place) in omega arith

pub pred-returns-in_ok-place-in-Not-clause-ops : goal.pred-returns-in_ok-place-in-Not-clause-ops
pred-returns-in_ok-place-in-Not-clause-ops g t c =
    let new = g.I.Interner.list c.not.new.pass in
    let q = c.deref.result.now in
    let is : Not (condition_of q) ≡ condition_of c.args.p.now = ap (λ b. Not (condition_of b)) c.deref.ensures ∙ ap condition_of (sym c.in-Not.is) in
    let same : ops (condition_of q) + 1 ≡ ops (condition_of c.args.p.now) = ap ops is in
    IfOk-weaker c.not.result (λ place. ops_at new place ≤ ops_at (g.I.Interner.list c.pred.new.pass) c.in_ok-place-in-Not.place + 1) (λ place. ops_at new place ≤ ops (condition_of c.args.p.now))
    (λ place le. omega (arith, le, c.in_ok-place-in-Not.ensures.ops, same)) c.not.ensures.ops
