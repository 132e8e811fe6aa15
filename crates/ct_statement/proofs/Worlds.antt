-- Worlds in which the conditions at two places hold, and why there is none.
use Rattle.std.proofs.Common.{◌≡◌, ℕ, List, [], ◌∷◌, map, Some, None, true, ◌&&◌, refl, sym, subst, ap₂, ◌∙◌, inl, inr, arith}
use Rattle.std.{specs.Prelude.IsTrue, specs.List.{All}}
use Rattle.std.proofs.lemmas.List.Elements.{All-weaker, All-from_recursion, All-contains, All-map}
use Rattle.ct_word.{specs.declared.values.Value.Value, specs.Value.World, specs.Condition.holds_at, specs.Reading.condition_at, specs.WellFormed.IsWellFormed}
use Rattle.ct_derivation.{specs.declared.steps.Derivation.Derivation, specs.Accepts.Accepts, proofs.Sound.root_refuted}
use Rattle.ct_worlds.specs.Repaired.{IsMade}
use Rattle.ct_near.specs.Near.{IsRepairedNear}
use Rattle.ct_table.specs.Snapshot.{IsKeptValue, other, constant}
use Rattle.ct_statement.specs.Narrowing.{IsBoth, IsWorldFor, IsWorldless}
use Rattle.ct_transcript.specs.declared.reply.Refusal.TheVariants as refusal

-- a derivation that is accepted leaves none
pub world_refuted : (words : List ℕ) (place : ℕ) (d : Derivation) → IsWellFormed words → Accepts words place d
    → IsWorldless words place (refusal.Inconsistent (record { root = place; derivation = d }))
world_refuted words place d formed accepted = (refl, accepted, root_refuted words place d formed accepted)

-- the kept world is one where the asserted condition holds in it
pub world_stays : (words : List ℕ) (global own place : ℕ) (kept : World) → IsBoth words global own place → IsTrue (holds_at kept (condition_at words global))
    → holds_at kept (condition_at words own) ≡ true → IsWorldFor words place kept None
world_stays words global own place kept b was holds = record {
  holds = b.holds kept ∙ ap₂ (λ x y. x && y) was holds;
  values = λ all. all;
}

-- the values of a world that was made from the kept one are such as are kept
value_made : (words places : List ℕ) (kept : World) → All (λ p. IsKeptValue words p.1) kept → (x : Value) → IsMade words places kept x → IsKeptValue words x
value_made words places kept all x (inl old) = All-contains (IsKeptValue words) (map (λ p. p.1) kept) x (All-map (IsKeptValue words) (λ p. p.1) kept all) old
value_made words places kept all x (inr (inl b)) = constant x b.below.0 b.below.2
value_made words places kept all x (inr (inr n)) = subst (IsKeptValue words) (sym n.value) (other n.number n.short)

-- a world that was made from the kept one, in which a condition holds
pub world_near : (words : List ℕ) (place : ℕ) (kept world : World) → IsRepairedNear words (place ∷ []) kept world → IsWorldFor words place kept (Some world)
world_near words place kept world made = record {
  holds = made.holds place (0, omega arith, refl);
  values = λ all. All-weaker (λ p. IsMade words (place ∷ []) kept p.1) (λ p. IsKeptValue words p.1) (λ p. value_made words (place ∷ []) kept all p.1) world
      (All-from_recursion (λ p. IsMade words (place ∷ []) kept p.1) world made.values);
}

-- one in which both conditions hold
pub world_made : (words : List ℕ) (global own place : ℕ) (kept world : World) → IsBoth words global own place → IsRepairedNear words (global ∷ own ∷ []) kept world
    → IsWorldFor words place kept (Some world)
world_made words global own place kept world b made = record {
  holds = b.holds world ∙ ap₂ (λ x y. x && y) (made.holds global (0, omega arith, refl)) (made.holds own (1, omega arith, refl));
  values = λ all. All-weaker (λ p. IsMade words (global ∷ own ∷ []) kept p.1) (λ p. IsKeptValue words p.1) (λ p. value_made words (global ∷ own ∷ []) kept all p.1) world
      (All-from_recursion (λ p. IsMade words (global ∷ own ∷ []) kept p.1) world made.values);
}
