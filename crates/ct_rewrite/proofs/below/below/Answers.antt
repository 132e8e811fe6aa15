use Rattle.std.{proofs.Common.{◌≡◌, ◌<◌, ◌∷◌, ℕ, List, [], length, false, sym, ap, ◌∙◌, subst, arith}, specs.List.list_any, specs.Ordering.nat_cmp, specs.BTreeMap.is_at, specs.Prelude.reverse}
use Rattle.std.proofs.{lemmas.List.{reverse-append, nil_from_length}, lemmas.Bool.false≢true}
use Rattle.ct_rewrite.{specs.Below.{has_in, IsPassedTo}, proofs.Passing.{taken, passing_starts, passing_more, passed_inside, passed_roots, passed_closed}}
use Rattle.ct_rewrite.proofs.below.below.Goals as goal

-- a set without places has none
none_in : (ks : List ℕ) (p : ℕ) → ks ≡ [] → list_any (is_at (nat_cmp p)) ks ≡ false
none_in ks p e = ap (list_any (is_at (nat_cmp p))) e

no_keys : (ks : List ℕ) → (0 < length ks → ⊥) → ks ≡ []
no_keys ks h = nil_from_length ks (omega (arith, h))

pub loop-place-init : goal.loop-place-init
loop-place-init g c =
    rw c.new-passed.ensures.items
    (passing_starts (g.G.Graph.is_in c.args.graph.now) (g.G.Graph.parts c.args.graph.now) c.args.roots.now c.args.bound (has_in c.new-waiting.result) (has_in c.add.new.places)
    c.requires.downward c.requires.roots (λ p. none_in c.new-waiting.result.keys p c.new-waiting.ensures.empty) c.in_ok-add.ensures)

pub loop-place-preserved : goal.loop-place-preserved
loop-place-preserved g c =
    let is_in = g.G.Graph.is_in c.args.graph.now in
    let parts = g.G.Graph.parts c.args.graph.now in
    let roots = c.args.roots.now in
    let place = c.in-Some.place in
    let gone = taken c.loop-place.waiting c.pop_last.new.self place c.in-Some.ensures.member c.in-Some.ensures.greatest c.in-Some.ensures.updates in
    let more = passing_more is_in parts roots c.loop-place.bound (has_in c.loop-place.waiting) (has_in c.pop_last.new.self) (has_in c.add_parts.new.places) (reverse c.loop-place.passed.items) place c.args.bound
    c.requires.downward c.loop-place.invariant gone c.in_ok-add_parts.ensures in
    subst (IsPassedTo is_in parts roots place (has_in c.add_parts.new.places)) (sym (ap reverse c.in_ok-push.ensures.items ∙ reverse-append c.loop-place.passed.items (place ∷ []))) more

pub returns-clause-inside : goal.returns-clause-inside
returns-clause-inside g c =
    rw c.reverse.ensures.items
    (passed_inside (g.G.Graph.is_in c.args.graph.now) (g.G.Graph.parts c.args.graph.now) c.args.roots.now c.loop-place.bound (has_in c.loop-place.waiting) (reverse c.loop-place.passed.items)
    c.loop-place.invariant (λ p. none_in c.loop-place.waiting.keys p (no_keys c.loop-place.waiting.keys (λ lt. false≢true (c.in_default.ensures.variant.1 lt)))))

pub returns-clause-roots : goal.returns-clause-roots
returns-clause-roots g c =
    rw c.reverse.ensures.items
    (passed_roots (g.G.Graph.is_in c.args.graph.now) (g.G.Graph.parts c.args.graph.now) c.args.roots.now c.loop-place.bound (has_in c.loop-place.waiting) (reverse c.loop-place.passed.items)
    c.loop-place.invariant (λ p. none_in c.loop-place.waiting.keys p (no_keys c.loop-place.waiting.keys (λ lt. false≢true (c.in_default.ensures.variant.1 lt)))))

pub returns-clause-closed : goal.returns-clause-closed
returns-clause-closed g c =
    rw c.reverse.ensures.items
    (passed_closed (g.G.Graph.is_in c.args.graph.now) (g.G.Graph.parts c.args.graph.now) c.args.roots.now c.loop-place.bound (has_in c.loop-place.waiting) (reverse c.loop-place.passed.items)
    c.loop-place.invariant (λ p. none_in c.loop-place.waiting.keys p (no_keys c.loop-place.waiting.keys (λ lt. false≢true (c.in_default.ensures.variant.1 lt)))))

pub returns-clause-rising : goal.returns-clause-rising
returns-clause-rising g c = rw c.reverse.ensures.items c.loop-place.invariant.rising
