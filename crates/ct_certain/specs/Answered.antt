-- The answer to a question, and a pool of worlds.
use Rattle.std.specs.Prelude.{◌≡◌, ℕ, Bool, true, false, ◌&&◌, List, [], ◌∷◌, ◌++◌, Option, Some, None, IfSome, IsTrue, All, nat_eq}
use Rattle.std.specs.Map.{lookup}
use Rattle.ct_word.specs.declared.kinds.Class.TheVariants as class
use Rattle.ct_word.specs.declared.values.CRow.{CRow}
use Rattle.ct_word.specs.declared.values.Term.TheVariants as term
use Rattle.ct_word.specs.Value.{World}
use Rattle.ct_word.specs.Condition.{holds_at}
use Rattle.ct_word.specs.Reading.{condition_at}
use Rattle.ct_word.specs.Stands.{HasNoColumn, TermBelow}
use Rattle.ct_word.specs.WellFormed.{is_place_of}
use Rattle.ct_derivation.specs.Accepts.{Accepts}
use Rattle.ct_derivation.specs.declared.steps.Derivation.{Derivation}
use Rattle.ct_cut.specs.Cut.{IsCut}
use Rattle.ct_decide.specs.declared.deciding.Decision.{Decision}
use Rattle.ct_decide.specs.declared.deciding.Decision.TheVariants as decision
use Rattle.ct_condition.specs.Terms.{BelowEither}
use Rattle.ct_condition.specs.Worth.{AreWorths}
use Rattle.ct_near.specs.Conjuncts.{AreConjuncts}
use Rattle.ct_rewrite.specs.Tidy.{IsTidy}
use Rattle.ct_rewrite.specs.declared.answer.PossibleRow.{PossibleRow}
use Rattle.ct_tidy.specs.Nulls.{AreNullsOf}
use Rattle.ct_certain.specs.Possible.{is_shown, shown_row}
use Rattle.ct_certain.specs.declared.pool.Known.{Known}
use Rattle.ct_certain.specs.declared.pool.Pool.{Pool}
use Rattle.ct_certain.specs.declared.settling.Near.{Near}

-- a derivation is accepted, so that a condition holds at no valuation, and is cut
abbrev pub IsRefutation : List ℕ → ℕ → Derivation → Type 0
IsRefutation words root d = Accepts words root d × IsCut words root d

-- a world at which a condition holds, or such a derivation
abbrev pub IsSettled : List ℕ → ℕ → Decision → Type 0
IsSettled words root (decision.World v) = holds_at v (condition_at words root) ≡ true
IsSettled words root (decision.Refuted d) = IsRefutation words root d

-- the same, where each null of the world stands below the condition or the global one
abbrev pub IsSettledOwn : List ℕ → ℕ → ℕ → Decision → Type 0
IsSettledOwn words root global (decision.World v) = (holds_at v (condition_at words root) ≡ true) × All (λ p. BelowEither words global root (term.Null p.0)) v
IsSettledOwn words root global (decision.Refuted d) = IsRefutation words root d

-- a root is the place of a condition below which no column stands, and which holds at the valuations that pass a test
pub record Asks (words : List ℕ) (root : ℕ) (test : World → Bool) : Type 0 where
  pub class : IsTrue (is_place_of words class.Cond root)
  pub plain : HasNoColumn words root
  pub holds : (v : World) → holds_at v (condition_at words root) ≡ test v

-- a global condition and a row are of these words, and no column stands below the conditions
pub record AreOf (words : List ℕ) (global : ℕ) (r : CRow) : Type 0 where
  pub global_is : IsTrue (is_place_of words class.Cond global)
  pub global_plain : HasNoColumn words global
  pub condition : IsTrue (is_place_of words class.Cond r.cond)
  pub plain : HasNoColumn words r.cond
  pub terms : All (λ p. IsTrue (is_place_of words class.Term p)) r.cells

-- at a tidy world the global condition holds, and another one, and each of its nulls stands below one of the two
pub record IsFound (words : List ℕ) (global c : ℕ) (v : World) : Type 0 where
  pub tidy : IsTidy v
  pub holds : IsTrue (holds_at v (condition_at words global) && holds_at v (condition_at words c))
  pub own : All (λ p. BelowEither words global c (term.Null p.0)) v

-- such a world for the condition of a row, or no world shows the row
abbrev pub IsAnswer : List ℕ → ℕ → CRow → Option World → Type 0
IsAnswer words global r (Some v) = IsFound words global r.cond v
IsAnswer words global r None = (v : World) → is_shown words global r v ≡ false

-- a tidy world at which the global condition holds, with what the words are worth there
pub record IsKnown (words : List ℕ) (global : ℕ) (k : Known) : Type 0 where
  pub tidy : IsTidy k.world
  pub holds : IsTrue (holds_at k.world (condition_at words global))
  pub worths : AreWorths words k.world k.worths

-- a condition holds at no valuation together with the global one
abbrev pub IsNever : List ℕ → ℕ → ℕ → Type 0
IsNever words global c = (v : World) → (holds_at v (condition_at words global) && holds_at v (condition_at words c)) ≡ false

-- each null of a world stands below a condition
abbrev pub IsWithin : List ℕ → ℕ → World → Type 0
IsWithin words c v = All (λ p. TermBelow words c (term.Null p.0)) v

-- a known world whose nulls stand below the global condition
pub record IsWithinGlobal (words : List ℕ) (global : ℕ) (k : Known) : Type 0 where
  pub known : IsKnown words global k
  pub own : IsWithin words global k.world

-- each condition has a world at which it and the global one hold, if it has one
abbrev pub AreFound : List ℕ → ℕ → List (ℕ × World) → Type 0
AreFound words global entries = (c : ℕ) → IfSome (lookup (nat_eq c) entries) (IsFound words global c)

-- the world near which others are made, others that are known, those that were found for conditions, conditions that hold at
-- none, and the nulls below the global condition, and its conjuncts
pub record IsPool (words : List ℕ) (global : ℕ) (p : Pool) : Type 0 where
  pub near : IfSome p.near (IsWithinGlobal words global)
  pub worlds : All (IsKnown words global) p.worlds.items
  pub found : AreFound words global p.found.entries
  pub never : All (IsNever words global) p.never.keys
  pub nulls : AreNullsOf (TermBelow words global) p.nulls.keys
  pub conjuncts : AreConjuncts words global p.conjuncts

-- at a known world the global condition holds, whose conjuncts are given
pub record IsNear (words : List ℕ) (global : ℕ) (n : Near) : Type 0 where
  pub conjuncts : AreConjuncts words global n.conjuncts.now
  pub holds : IsTrue (holds_at n.world.now (condition_at words global))

-- and its nulls stand below the global condition
pub record IsNearOwn (words : List ℕ) (global : ℕ) (n : Near) : Type 0 where
  pub near : IsNear words global n
  pub own : IsWithin words global n.world.now

-- the list with a row where some world shows it, as it was where none does
pub data Adds (words : List ℕ) (global : ℕ) (r : CRow) (old : List PossibleRow) : List PossibleRow → Type 0 where
  nothing : ((v : World) → is_shown words global r v ≡ false) → Adds words global r old old
  one : (v : World) → IsTidy v → IsTrue (is_shown words global r v) → Adds words global r old (old ++ shown_row words r v ∷ [])
