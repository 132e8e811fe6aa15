use Rattle.std.{proofs.Common.{◌≡◌, ◌≤◌, ◌<◌, ℕ, length, take, get_or, sym, subst, refl, rules, arith, ◌+◌, ◌-◌, ◌*◌, ◌++◌, inl}, specs.Prelude.IsTrue}
use Rattle.std.{specs.Option.IsSome, proofs.lemmas.List.{take_all, length_push}, proofs.lemmas.List.Elements.All-contains}
use Rattle.std.{proofs.lemmas.Result.err_from_is_err_and, proofs.lemmas.Slice.Zip.{zip_turn, zip_end}}
use Rattle.ct_word.{specs.WellFormed.is_place_of, proofs.Prefixes.{place_in_prefix, place_within}}
use Rattle.ct_condition.{specs.Folding.folded_and, specs.Terms.BelowSome, proofs.Denied.below_literal, proofs.Writes.{writes_none, writes_both, writes_within}}
use Rattle.ct_operators.{specs.Building.HoldsWhere, specs.Matching.same_worth, proofs.Holding.holds_true, proofs.Comparing.equal_more}
use Rattle.ct_operators.{proofs.Adding.{true_first, pair_more}, proofs.Reaching.{from_two, from_later, pair_below}}
use Rattle.ct_operators.proofs.matching.cells_equal.Goals.{In-Some, In-None}
use Rattle.ct_word.specs.declared.kinds.Class.TheVariants as class
use Rattle.ct_operators.proofs.matching.cells_equal.Goals as goal

-- the cells of a turn
turn : (g : _) (c : In-Some g) → (length c.loop-s.yielded < length c.args.left.now) × (length c.loop-s.yielded < length c.args.right.now)
    × ((d : ℕ) → c.in-Some.s.now ≡ get_or c.args.left.now (length c.loop-s.yielded) d) × ((d : ℕ) → c.in-Some.t.now ≡ get_or c.args.right.now (length c.loop-s.yielded) d)
turn g c = zip_turn c.args.left.now c.args.right.now c.loop-s.yielded _ _ c.next.new.self _ (search rules) (search rules) c.loop-s.yielded_by (c.in-Some.s, c.in-Some.t) c.in-Some.is c.next.ensures.steps

-- all cells were gone over
ended : (g : _) (c : In-None g) → (length c.loop-s.yielded ≡ length c.args.left.now) × (length c.loop-s.yielded ≡ length c.args.right.now)
ended g c =
    let e = zip_end c.args.left.now c.args.right.now c.loop-s.yielded _ _ c.next.new.self _ (search rules) (search rules) c.loop-s.yielded_by c.in-None.is c.next.ensures.steps in
    (omega (arith, e, c.requires.lengths), omega (arith, e, c.requires.lengths))

pub loop-s-init : goal.loop-s-init
loop-s-init g c = record {
  writes = writes_none _ c.words.ensures.formed c.words.ensures.room;
  holds = holds_true _ c.words.ensures.begins c.words.ensures.formed;
  spare = omega arith;
  none = λ z. refl;
  from = λ t h. absurd (below_literal _ c.words.ensures.formed c.words.ensures.begins 0 (inl refl) t h);
}

pub eq-requires-clause-left : goal.eq-requires-clause-left
eq-requires-clause-left g c =
    let t = turn g (goal.at.eq-requires-clause-left g c).In-Some in
    place_in_prefix _ _ class.Term c.in-Some.s.now c.loop-s.invariant.writes.longer
    (All-contains (λ p. IsTrue (is_place_of (g.I.Interner.list c.args.pass.now) class.Term p)) c.args.left.now c.in-Some.s.now c.requires.left (length c.loop-s.yielded, t.0, sym (t.2 c.in-Some.s.now)))

pub eq-requires-clause-right : goal.eq-requires-clause-right
eq-requires-clause-right g c =
    let t = turn g (goal.at.eq-requires-clause-right g c).In-Some in
    place_in_prefix _ _ class.Term c.in-Some.t.now c.loop-s.invariant.writes.longer
    (All-contains (λ p. IsTrue (is_place_of (g.I.Interner.list c.args.pass.now) class.Term p)) c.args.right.now c.in-Some.t.now c.requires.right (length c.loop-s.yielded, t.1, sym (t.3 c.in-Some.t.now)))

pub and-requires-clause-left : goal.and-requires-clause-left
and-requires-clause-left g c =
    place_in_prefix (g.I.Interner.list c.loop-s.pass) (g.I.Interner.list c.eq.new.pass) class.Cond c.loop-s.all c.eq.ensures.longer c.loop-s.invariant.holds.class

pub and-requires-clause-right : goal.and-requires-clause-right
and-requires-clause-right g c = c.in_ok-same.ensures.truth.class

pub loop-s-preserved : goal.loop-s-preserved
loop-s-preserved g c =
    let old = g.I.Interner.list c.args.pass.now in
    let now = g.I.Interner.list c.loop-s.pass in
    let mid = g.I.Interner.list c.eq.new.pass in
    let new = g.I.Interner.list c.and.new.pass in
    let ps = c.args.left.now in
    let qs = c.args.right.now in
    let n = length c.loop-s.yielded in
    let p = c.in-Some.s.now in
    let q = c.in-Some.t.now in
    let t = turn g (goal.at.loop-s-preserved g c).In-Some in
    let source = BelowSome old (ps ++ qs) in
    record {
      holds = subst (λ k. HoldsWhere new c.in_ok-all.all (same_worth old (take k ps) (take k qs))) (sym (length_push c.loop-s.yielded (c.in-Some.s, c.in-Some.t)))
          (equal_more old now mid new ps qs n p q c.loop-s.all c.in_ok-same.same c.in_ok-all.all c.loop-s.invariant.writes.longer c.eq.ensures.longer c.requires.left c.requires.right t.0 t.1 (t.2 p) (t.3 q)
          c.loop-s.invariant.holds c.in_ok-same.ensures.truth c.in_ok-all.ensures.truth);
      writes = writes_within _ (omega (arith, length_push c.loop-s.yielded (c.in-Some.s, c.in-Some.t))) (writes_both c.loop-s.invariant.writes (writes_both c.in_ok-same.ensures.writes c.in_ok-all.ensures.writes));
      spare = subst (λ k. g.I.Interner.made c.and.new.pass ≤ g.I.Interner.made c.args.pass.now + (2 * k - 1)) (sym (length_push c.loop-s.yielded (c.in-Some.s, c.in-Some.t)))
          (pair_more n (g.I.Interner.made c.args.pass.now) (g.I.Interner.made c.loop-s.pass) (g.I.Interner.made c.eq.new.pass) (g.I.Interner.made c.and.new.pass) c.loop-s.invariant.spare
          c.eq.ensures.made c.and.ensures.made
          (λ z. c.and.ensures.unmade (subst (λ x. IsSome (folded_and mid x c.in_ok-same.same)) (sym (c.loop-s.invariant.none z)) (true_first mid c.in_ok-same.same))));
      from = from_two mid new c.loop-s.all c.in_ok-same.same c.in_ok-all.all source
          (from_later now mid c.eq.ensures.longer c.loop-s.invariant.writes.formed c.loop-s.all source (place_within now class.Cond c.loop-s.all c.loop-s.invariant.holds.class) c.loop-s.invariant.from)
          (λ u h. pair_below old now c.loop-s.invariant.writes.longer c.words.ensures.formed ps qs p q (n, t.0, sym (t.2 p)) (n, t.1, sym (t.3 q))
          (place_within old class.Term p (All-contains (λ p. IsTrue (is_place_of old class.Term p)) ps p c.requires.left (n, t.0, sym (t.2 p))))
          (place_within old class.Term q (All-contains (λ p. IsTrue (is_place_of old class.Term p)) qs q c.requires.right (n, t.1, sym (t.3 q)))) u (c.in_ok-same.ensures.terms u h))
          c.in_ok-all.ensures.terms;
      none = λ z. absurd (omega (arith, z, length_push c.loop-s.yielded (c.in-Some.s, c.in-Some.t)));
    }

pub returns-clause-holds : goal.returns-clause-holds
returns-clause-holds g c =
    let old = g.I.Interner.list c.args.pass.now in
    let new = g.I.Interner.list c.loop-s.pass in
    let ps = c.args.left.now in
    let qs = c.args.right.now in
    let n = length c.loop-s.yielded in
    let e = ended g (goal.at.returns-clause-holds g c).In-None in
    let long : length ps ≤ n = omega (arith, e, c.requires.lengths) in
    subst (λ xs. HoldsWhere new c.loop-s.all (same_worth old xs qs)) (take_all n ps long)
    (subst (λ ys. HoldsWhere new c.loop-s.all (same_worth old (take n ps) ys)) (take_all n qs (omega (arith, e, c.requires.lengths))) c.loop-s.invariant.holds)

pub returns-clause-writes : goal.returns-clause-writes
returns-clause-writes g c =
    writes_within _ (omega (arith, ended g (goal.at.returns-clause-writes g c).In-None, c.requires.lengths)) c.loop-s.invariant.writes

pub returns-clause-spare : goal.returns-clause-spare
returns-clause-spare g c =
    omega (arith, ended g (goal.at.returns-clause-spare g c).In-None, c.requires.lengths, c.loop-s.invariant.spare)

pub returns-clause-none : goal.returns-clause-none
returns-clause-none g c z =
    c.loop-s.invariant.none (omega (arith, ended g (goal.at.returns-clause-none g c).In-None, c.requires.lengths, z))

pub returns-in_err-same-clause-writes : goal.returns-in_err-same-clause-writes
returns-in_err-same-clause-writes g c =
    let t = turn g (goal.at.returns-in_err-same-clause-writes g c).In-Some in
    rw (err_from_is_err_and c.from_residual.result c.from_residual.ensures.1).1 (writes_within _ (omega (arith, t.0)) (writes_both c.loop-s.invariant.writes c.in_err-same.ensures.writes))

pub returns-in_err-all-clause-writes : goal.returns-in_err-all-clause-writes
returns-in_err-all-clause-writes g c =
    let t = turn g (goal.at.returns-in_err-all-clause-writes g c).In-Some in
    rw (err_from_is_err_and c.from_residual-in_err-all.result c.from_residual-in_err-all.ensures.1).1
    (writes_within _ (omega (arith, t.0)) (writes_both c.loop-s.invariant.writes (writes_both c.in_ok-same.ensures.writes c.in_err-all.ensures.writes)))
