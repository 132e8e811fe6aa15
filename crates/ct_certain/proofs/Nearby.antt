-- Known worlds and the conjuncts of the global condition, as words are added; what a question has from them.
use Rattle.std.proofs.Common.{◌≡◌, ◌⊎◌, ◌<◌, ℕ, List, [], ◌∷◌, length, get_or, ap, sym, subst, ◌∙◌, inl, inr}
use Rattle.std.{specs.Prelude.{IsTrue, Contains}, proofs.lemmas.List.Elements.{All-weaker, Contains-append_left, Contains-get_or}}
use Rattle.ct_word.{specs.Value.World, specs.Condition.holds_at, specs.Reading.condition_at, specs.Stands.TermBelow, specs.WellFormed.{IsWellFormed, is_place_of}}
use Rattle.ct_word.proofs.Prefixes.{condition_in_prefix, get_in_prefix, place_in_prefix, place_within, term_in_prefix}
use Rattle.ct_condition.proofs.Reached.{terms_after, terms_before}
use Rattle.ct_near.{specs.Conjuncts.{AreConjuncts, AreTopDown, IsAnd, IsInRun, IsNamed, first, more, none, part}, specs.declared.index.Conjuncts.Conjuncts, proofs.Runs.run_condition}
use Rattle.ct_worlds.specs.Shape.{shape_of_word}
use Rattle.ct_certain.specs.{Answered.{IsNear, IsNearOwn}, declared.settling.Near.Near}
use mathlib.Core.List.{IsPrefix}
use Rattle.ct_word.specs.declared.kinds.Class.TheVariants as class
use Rattle.ct_word.specs.declared.values.Term.TheVariants as term

module _ (old new : List ℕ) (longer : IsPrefix old new) (formed : IsWellFormed new) (formed_old : IsWellFormed old) where
  and_grows : (p a b : ℕ) → p < length old → IsAnd old p a b → IsAnd new p a b
  and_grows p a b lt is = ap shape_of_word (get_in_prefix old new p longer lt) ∙ is

  and_was : (p a b : ℕ) → p < length old → IsAnd new p a b → IsAnd old p a b
  and_was p a b lt is = sym (ap shape_of_word (get_in_prefix old new p longer lt)) ∙ is

  module _ (root : ℕ) (placed : IsTrue (is_place_of old class.Cond root)) where
    within : (p : ℕ) → IsInRun old root p → p < length old
    within p run = place_within old class.Cond p (run_condition old formed_old root placed p run)

    run_grows : (p : ℕ) → IsInRun old root p → IsInRun new root p
    run_grows p first = first
    run_grows p (part {p = q} a b before is of) = part a b (run_grows q before) (and_grows q a b (within q before) is) of

    run_was : (p : ℕ) → IsInRun new root p → IsInRun old root p
    run_was p first = first
    run_was p (part {p = q} a b before is of) = let r = run_was q before in part a b r (and_was q a b (within q r) is) of

    same : (v : World) (p : ℕ) → IsInRun old root p → holds_at v (condition_at new p) ≡ holds_at v (condition_at old p)
    same v p run = ap (holds_at v) (condition_in_prefix old new p longer (within p run))

    named_grows : (ands : List ℕ) (p : ℕ) → ((q : ℕ) → Contains ands q → IsInRun old root q) → IsNamed old ands p → IsNamed new ands p
    named_grows ands p runs n = record { and = n.and; among = n.among; left = n.left; right = n.right; is = and_grows n.and n.left n.right (within n.and (runs n.and n.among)) n.is; of = n.of }

    order_grows : (ands : List ℕ) → ((q : ℕ) → Contains ands q → IsInRun old root q) → AreTopDown old root ands → AreTopDown new root ands
    order_grows ands runs none = none
    order_grows ands runs (more before p is order one) = more before p is (order_grows before earlier order) (by one) where
      earlier : (q : ℕ) → Contains before q → IsInRun old root q
      earlier q h = runs q (subst (λ l. Contains l q) (sym is) (Contains-append_left before (p ∷ []) q h))

      by : (p ≡ root) ⊎ IsNamed old before p → (p ≡ root) ⊎ IsNamed new before p
      by (inl e) = inl e
      by (inr n) = inr (named_grows before p earlier n)

    pub conjuncts_grow : (c : Conjuncts) → AreConjuncts old root c → AreConjuncts new root c
    conjuncts_grow c are = record {
      condition = place_in_prefix old new class.Cond root longer placed;
      enough = λ v all. same v root first ∙ are.enough v (λ p h. sym (same v p (are.each p h)) ∙ all p h);
      each = λ p h. run_grows p (are.each p h);
      ends = λ p h a b is. are.ends p h a b (and_was p a b (within p (are.each p h)) is);
      all = λ p run. are.all p (run_was p run);
      only = λ e h.
          let o = are.only e h in
          let place = get_or c.places.items e.conjunct 0 in
          record {
            conjunct = o.conjunct;
            null = o.null;
            there = record {
              placed = place_in_prefix old new class.Term e.null longer o.there.placed;
              null = term_in_prefix old new e.null longer (place_within old class.Term e.null o.there.placed) ∙ o.there.null;
            };
            below = terms_after old new longer formed_old place (term.Null o.null) (within place (are.each place (Contains-get_or c.places.items e.conjunct 0 o.conjunct))) o.below;
          };
      ands = λ p h. let a = are.ands p h in record { run = run_grows p a.run; left = a.left; right = a.right; is = and_grows p a.left a.right (within p a.run) a.is };
      places_once = are.places_once;
      ands_once = are.ands_once;
      ands_order = order_grows c.ands.items (λ q h. (are.ands q h).run) are.ands_order;
      nulls = λ number n lt h.
          let c_is = within (get_or c.places.items number 0) (are.each (get_or c.places.items number 0) (Contains-get_or c.places.items number 0 lt)) in
          let l = are.nulls number n lt (terms_before old new longer formed (get_or c.places.items number 0) (term.Null n) c_is h) in
          record {
            entry = l.entry;
            among = l.among;
            conjunct = l.conjunct;
            placed = place_in_prefix old new class.Term l.entry.null longer l.placed;
            null = term_in_prefix old new l.entry.null longer (place_within old class.Term l.entry.null l.placed) ∙ l.null;
          };
    }

-- a near world stays one
pub near_grows : (old new : List ℕ) → IsPrefix old new → IsWellFormed new → IsWellFormed old → (global : ℕ) (n : Near) → IsNear old global n → IsNear new global n
near_grows old new longer formed formed_old global n is = record {
  conjuncts = conjuncts_grow old new longer formed formed_old global is.conjuncts.condition n.conjuncts.now is.conjuncts;
  holds = ap (holds_at n.world.now) (condition_in_prefix old new global longer (place_within old class.Cond global is.conjuncts.condition)) ∙ is.holds;
}

-- and so does one whose nulls stand below the global condition
pub own_grows : (old new : List ℕ) → IsPrefix old new → IsWellFormed new → IsWellFormed old → (global : ℕ) (n : Near) → IsNearOwn old global n → IsNearOwn new global n
own_grows old new longer formed formed_old global n is = record {
  near = near_grows old new longer formed formed_old global n is.near;
  own = All-weaker (λ p. TermBelow old global (term.Null p.0)) (λ p. TermBelow new global (term.Null p.0))
      (λ p. terms_after old new longer formed_old global (term.Null p.0) (place_within old class.Cond global is.near.conjuncts.condition)) n.world.now is.own;
}
