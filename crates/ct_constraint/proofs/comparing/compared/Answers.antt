use Rattle.std.{proofs.Common.{◌≡◌, ◌<◌, ◌*◌, ◌++◌, ◌&&◌, not, nat_eq, length, get_or, ap, subst, refl, arith, inl}, specs.Prelude.IsTrue, proofs.lemmas.Result.err_from_is_err_and}
use Rattle.std.proofs.lemmas.List.Elements.{All-get_or, Contains-get_or}
use Rattle.ct_word.{specs.WellFormed.is_place_of, proofs.Prefixes.{prefix_of_prefix, place_in_prefix, place_within}}
use Rattle.ct_condition.{specs.Folding.are_apart, specs.Terms.{TermsFrom, BelowSome}, proofs.Denied.below_literal, proofs.Writes.{writes_none, writes_both, writes_within, writes_as, writes_more, writes_last}}
use Rattle.ct_operators.{specs.Building.HoldsWhere, specs.Placing.tuple_of, proofs.Holding.{holds_true, holds_later}, proofs.Reaching.{from_two, from_later, pair_below}}
use Rattle.ct_constraint.{specs.Comparing.{is_in, same_below}, proofs.Turns.{cells_same, counted, below_more}}
use Rattle.ct_word.specs.declared.kinds.Class.TheVariants as class
use Rattle.ct_constraint.proofs.comparing.compared.Goals as goal

pub loop-k-init : goal.loop-k-init
loop-k-init g c = record {
  writes = writes_none _ c.words.ensures.formed c.words.ensures.room;
  inside = holds_true _ c.words.ensures.begins c.words.ensures.formed;
  outside = holds_true _ c.words.ensures.begins c.words.ensures.formed;
  inside_from = λ t h. absurd (below_literal _ c.words.ensures.formed c.words.ensures.begins 0 (inl refl) t h);
  outside_from = λ t h. absurd (below_literal _ c.words.ensures.formed c.words.ensures.begins 0 (inl refl) t h);
}

pub eq-requires-clause-left : goal.eq-requires-clause-left
eq-requires-clause-left g c =
    place_in_prefix _ _ class.Term (get_or c.args.left.now c.loop-k.k 0) c.loop-k.invariant.writes.longer
    (All-get_or (λ p. IsTrue (is_place_of (g.I.Interner.list c.args.pass.now) class.Term p)) c.args.left.now c.loop-k.k 0 c.loop-k-test.true c.requires.left)

pub eq-requires-clause-right : goal.eq-requires-clause-right
eq-requires-clause-right g c =
    place_in_prefix _ _ class.Term (get_or c.args.right.now c.loop-k.k 0) c.loop-k.invariant.writes.longer
    (All-get_or (λ p. IsTrue (is_place_of (g.I.Interner.list c.args.pass.now) class.Term p)) c.args.right.now c.loop-k.k 0 (omega (arith, c.loop-k-test.true, c.requires.lengths)) c.requires.right)

pub and_if-requires-clause-left : goal.and_if-requires-clause-left
and_if-requires-clause-left g c = place_in_prefix _ _ class.Cond c.loop-k.inside c.in_ok-same.ensures.writes.longer c.loop-k.invariant.inside.class

pub and_if-requires-clause-right : goal.and_if-requires-clause-right
and_if-requires-clause-right g c = c.in_ok-same.ensures.truth.class

pub and_if-requires-in-loop-k-clause-left : goal.and_if-requires-in-loop-k-clause-left
and_if-requires-in-loop-k-clause-left g c =
    place_in_prefix _ _ class.Cond c.loop-k.outside (prefix_of_prefix _ _ _ c.in_ok-same.ensures.writes.longer c.in_ok-inside.ensures.writes.longer) c.loop-k.invariant.outside.class

pub and_if-requires-in-loop-k-clause-right : goal.and_if-requires-in-loop-k-clause-right
and_if-requires-in-loop-k-clause-right g c = place_in_prefix _ _ class.Cond c.in_ok-same.same c.in_ok-inside.ensures.writes.longer c.in_ok-same.ensures.truth.class

pub loop-k-preserved : goal.loop-k-preserved
loop-k-preserved g c =
    let old = g.I.Interner.list c.args.pass.now in
    let now = g.I.Interner.list c.loop-k.pass in
    let m1 = g.I.Interner.list c.eq.new.pass in
    let m2 = g.I.Interner.list c.and_if.new.pass in
    let new = g.I.Interner.list c.and_if-in-loop-k.new.pass in
    let ps = c.args.left.now in
    let qs = c.args.right.now in
    let k = c.loop-k.k in
    let same = c.in_ok-same.same in
    let grown = c.loop-k.invariant.writes.longer in
    let formed = c.loop-k.invariant.writes.formed in
    let first = c.in_ok-same.ensures.writes.longer in
    let second = c.in_ok-inside.ensures.writes.longer in
    let third = c.in_ok-outside.ensures.writes.longer in
    let both = prefix_of_prefix now m1 m2 first second in
    let in_right : k < length qs = omega (arith, c.loop-k-test.true, c.requires.lengths) in
    let cells = cells_same old now m1 ps qs k same grown c.requires.left c.requires.right c.loop-k-test.true in_right c.in_ok-same.ensures.truth in
    let counts = c.is_asked_among-is_key.result in
    let tells = counted old now grown ps qs c.args.columns.now c.requires.left c.requires.right c.requires.may k c.loop-k-test.true in_right counts
    (subst (λ ws. counts ≡ (not (nat_eq (get_or ps k 0) (get_or qs k 0)) && (not (are_apart ws (get_or ps k 0) (get_or qs k 0)) && is_in c.args.columns.now k))) c.words-in-loop-k.ensures.words c.is_asked_among-is_key.ensures) in
    let source = BelowSome old (ps ++ qs) in
    let at_left = All-get_or (λ p. IsTrue (is_place_of old class.Term p)) ps k 0 c.loop-k-test.true c.requires.left in
    let at_right = All-get_or (λ p. IsTrue (is_place_of old class.Term p)) qs k 0 in_right c.requires.right in
    let same_from : TermsFrom m1 same source = λ u h. pair_below old now grown c.words.ensures.formed ps qs (get_or ps k 0) (get_or qs k 0) (Contains-get_or ps k 0 c.loop-k-test.true) (Contains-get_or qs k 0 in_right)
    (place_within old class.Term (get_or ps k 0) at_left) (place_within old class.Term (get_or qs k 0) at_right) u (c.in_ok-same.ensures.terms u h) in
    let same_later = from_later m1 m2 second c.in_ok-same.ensures.writes.formed same source (place_within m1 class.Cond same c.in_ok-same.ensures.truth.class) same_from in
    let inside_now = from_later now m1 first formed c.loop-k.inside source (place_within now class.Cond c.loop-k.inside c.loop-k.invariant.inside.class) c.loop-k.invariant.inside_from in
    let outside_now = from_later now m2 both formed c.loop-k.outside source (place_within now class.Cond c.loop-k.outside c.loop-k.invariant.outside.class) c.loop-k.invariant.outside_from in
    let inside_then = from_two m1 m2 c.loop-k.inside same c.in_ok-inside.inside source inside_now same_from c.in_ok-inside.ensures.terms in
    record {
      writes = writes_more _ k c.loop-k.invariant.writes (writes_both c.in_ok-same.ensures.writes (writes_both c.in_ok-inside.ensures.writes c.in_ok-outside.ensures.writes));
      inside = holds_later m2 new c.in_ok-inside.inside _ third
          (below_more old now m1 m2 ps qs (is_in c.args.columns.now) k c.loop-k.inside same c.in_ok-inside.inside counts (λ v. (tells v).0) first c.loop-k.invariant.inside cells c.in_ok-inside.ensures.truth);
      outside = below_more old now m2 new ps qs (λ k. not (is_in c.args.columns.now k)) k c.loop-k.outside same c.in_ok-outside.outside (not counts) (λ v. (tells v).1) both
          c.loop-k.invariant.outside (holds_later m1 m2 same _ second cells) c.in_ok-outside.ensures.truth;
      inside_from = from_later m2 new third c.in_ok-inside.ensures.writes.formed c.in_ok-inside.inside source (place_within m2 class.Cond c.in_ok-inside.inside c.in_ok-inside.ensures.truth.class) inside_then;
      outside_from = from_two m2 new c.loop-k.outside same c.in_ok-outside.outside source outside_now same_later c.in_ok-outside.ensures.terms;
    }

pub returns-clause-inside : goal.returns-clause-inside
returns-clause-inside g c =
    let old = g.I.Interner.list c.args.pass.now in
    let end : c.loop-k.k ≡ length c.args.left.now = omega (arith, c.loop-k-test.false, c.loop-k.auto.k-end) in
    subst (λ n. HoldsWhere (g.I.Interner.list c.loop-k.pass) c.loop-k.inside (λ v. same_below n (is_in c.args.columns.now) (tuple_of old c.args.left.now v) (tuple_of old c.args.right.now v))) end c.loop-k.invariant.inside

pub returns-clause-outside : goal.returns-clause-outside
returns-clause-outside g c =
    let old = g.I.Interner.list c.args.pass.now in
    let end : c.loop-k.k ≡ length c.args.left.now = omega (arith, c.loop-k-test.false, c.loop-k.auto.k-end) in
    subst (λ n. HoldsWhere (g.I.Interner.list c.loop-k.pass) c.loop-k.outside (λ v. same_below n (λ k. not (is_in c.args.columns.now k)) (tuple_of old c.args.left.now v) (tuple_of old c.args.right.now v))) end
    c.loop-k.invariant.outside

pub returns-clause-writes : goal.returns-clause-writes
returns-clause-writes g c =
    let end : c.loop-k.k ≡ length c.args.left.now = omega (arith, c.loop-k-test.false, c.loop-k.auto.k-end) in
    writes_as (ap (λ n. n * 3) end) c.loop-k.invariant.writes

pub returns-in_err-same-clause-writes : goal.returns-in_err-same-clause-writes
returns-in_err-same-clause-writes g c =
    rw (err_from_is_err_and c.from_residual.result c.from_residual.ensures.1).1 (writes_last _ _ c.loop-k.invariant.writes _ c.loop-k-test.true (writes_within _ (omega arith) c.in_err-same.ensures.writes))

pub returns-in_err-inside-clause-writes : goal.returns-in_err-inside-clause-writes
returns-in_err-inside-clause-writes g c =
    rw (err_from_is_err_and c.from_residual-in_err-inside.result c.from_residual-in_err-inside.ensures.1).1
    (writes_last _ _ c.loop-k.invariant.writes _ c.loop-k-test.true (writes_within _ (omega arith) (writes_both c.in_ok-same.ensures.writes c.in_err-inside.ensures.writes)))

pub returns-in_err-outside-clause-writes : goal.returns-in_err-outside-clause-writes
returns-in_err-outside-clause-writes g c =
    rw (err_from_is_err_and c.from_residual-in_err-outside.result c.from_residual-in_err-outside.ensures.1).1
    (writes_last _ _ c.loop-k.invariant.writes _ c.loop-k-test.true (writes_both c.in_ok-same.ensures.writes (writes_both c.in_ok-inside.ensures.writes c.in_err-outside.ensures.writes)))
