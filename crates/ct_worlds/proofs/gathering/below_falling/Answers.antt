use Rattle.std.{proofs.Common.{◌≡◌, ◌<◌, ℕ, List, [], ◌∷◌, length, false, sym, ap, ◌∙◌, refl, subst, arith}, specs.List.list_any, specs.Ordering.nat_cmp, specs.BTreeMap.is_at, specs.Prelude.reverse}
use Rattle.std.proofs.{lemmas.List.{reverse-append, nil_from_length}, lemmas.Bool.false≢true}
use Rattle.ct_worlds.{specs.Gathering.{has, IsPassedTo}, proofs.Passing.{taken, passing_starts, passing_more, passing_ends}}
use Rattle.ct_worlds.proofs.gathering.below_falling.Goals as goal

-- a set without places has none
none_in : (ks : List ℕ) (p : ℕ) → ks ≡ [] → list_any (is_at (nat_cmp p)) ks ≡ false
none_in ks p e = ap (list_any (is_at (nat_cmp p))) e

no_keys : (ks : List ℕ) → (0 < length ks → ⊥) → ks ≡ []
no_keys ks h = nil_from_length ks (omega (arith, h))

pub loop-place-init : goal.loop-place-init
loop-place-init c =
    rw c.new-passed.ensures.items
    (passing_starts c.args.words.now c.args.roots.now c.requires.formed (length c.args.words.now) (has c.new-waiting.result) (has c.add.new.places) refl c.requires.roots
    (λ p. none_in c.new-waiting.result.keys p c.new-waiting.ensures.empty) c.in_ok-add.ensures)

pub loop-place-preserved : goal.loop-place-preserved
loop-place-preserved c =
    let words = c.args.words.now in
    let roots = c.args.roots.now in
    let place = c.in-Some.place in
    let gone = taken c.loop-place.waiting c.pop_last.new.self place c.in-Some.ensures.member c.in-Some.ensures.greatest c.in-Some.ensures.updates in
    let more = passing_more words roots c.requires.formed c.loop-place.bound (has c.loop-place.waiting) (has c.pop_last.new.self) (has c.add_parts.new.places) (reverse c.loop-place.passed.items) place
    c.loop-place.invariant gone c.in_ok-add_parts.ensures in
    subst (IsPassedTo words roots place (has c.add_parts.new.places)) (sym (ap reverse c.in_ok-push.ensures.items ∙ reverse-append c.loop-place.passed.items (place ∷ []))) more

pub returns : goal.returns
returns c =
    passing_ends c.args.words.now c.args.roots.now c.requires.formed c.loop-place.bound (has c.loop-place.waiting) (reverse c.loop-place.passed.items) c.loop-place.invariant
    (λ p. none_in c.loop-place.waiting.keys p (no_keys c.loop-place.waiting.keys (λ lt. false≢true (c.in_default.ensures.variant.1 lt))))
