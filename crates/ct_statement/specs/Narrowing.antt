-- What one step finds: the effect of an action, and a world where another global condition comes.
use Rattle.std.specs.Prelude.{◌≡◌, ◌&&◌, ℕ, List, Option, Some, None, IsTrue, All, false}
use Rattle.ct_word.specs.declared.kinds.Class.TheVariants as class
use Rattle.ct_word.specs.Value.{World}
use Rattle.ct_word.specs.Condition.{holds_at}
use Rattle.ct_word.specs.Reading.{condition_at}
use Rattle.ct_word.specs.Stands.{HasNoColumn}
use Rattle.ct_word.specs.WellFormed.{is_place_of}
use Rattle.ct_decide.specs.declared.error.DecideError.{DecideError}
use Rattle.ct_decide.specs.declared.error.DecideError.TheVariants as fault
use Rattle.ct_derivation.specs.Accepts.{AcceptsProof}
use Rattle.ct_query.specs.Plain.{PlainAction}
use Rattle.ct_query.specs.Agrees.{AgreesWith}
use Rattle.ct_history.specs.declared.written.Written.{Written}
use Rattle.ct_history.specs.declared.written.Written.TheVariants as written
use Rattle.ct_history.specs.Written.{IsWritten, plain_written}
use Rattle.ct_table.specs.Snapshot.{IsKeptValue}
use Rattle.ct_operators.specs.declared.error.TableError.{TableError}
use Rattle.ct_operators.specs.declared.error.TableError.TheVariants as table
use Rattle.ct_keeper.specs.declared.effects.Effect.{Effect}
use Rattle.ct_keeper.specs.declared.effects.Effect.TheVariants as effect
use Rattle.ct_keeper.specs.Doing.{HasTermsFor}
use Rattle.ct_keeper.specs.Effects.{DoesChange}
use Rattle.ct_transcript.specs.declared.reply.Refusal.{Refusal}
use Rattle.ct_transcript.specs.declared.reply.Refusal.TheVariants as refusal
use Rattle.ct_statement.specs.declared.sight.Sight.{Sight}
use Rattle.ct_statement.specs.Sight.{actions_before, history_of}
use Rattle.ct_statement.specs.Proposals.{kept_after}

-- an effect is that of this change, which agrees with an action
pub record IsEffectFor (old new : List ℕ) (s : Sight) (a : PlainAction) (change : Written) (e : Effect) : Type 0 where
  pub placed : IsWritten old change
  pub does : DoesChange old new s.tables s.global change e
  pub agrees : AgreesWith (history_of old s) (actions_before s) a (plain_written old change)
  pub terms : HasTermsFor (history_of old s) (actions_before s) a (plain_written old change)

-- a place can be decided: it is one of a condition, below which no column stands
pub record IsDecidable (words : List ℕ) (place : ℕ) : Type 0 where
  pub condition : IsTrue (is_place_of words class.Cond place)
  pub plain : HasNoColumn words place

-- a place holds where two conditions do, and can be decided
pub record IsBoth (words : List ℕ) (global own place : ℕ) : Type 0 where
  pub global_is : IsTrue (is_place_of words class.Cond global)
  pub own_is : IsTrue (is_place_of words class.Cond own)
  pub holds : (v : World) → holds_at v (condition_at words place) ≡ (holds_at v (condition_at words global) && holds_at v (condition_at words own))
  pub decidable : IsDecidable words place

-- the condition that a change asserts
abbrev pub asserted : Written → Option ℕ
asserted (written.Assert cond) = Some cond
asserted _ = None

-- a place is that of both the global condition and another one
abbrev pub IsBothWith : List ℕ → ℕ → Option ℕ → ℕ → Type 0
IsBothWith words global (Some own) place = IsBoth words global own place
IsBothWith words global None place = ⊥

-- the place of another global condition, where an effect has one, is that of both the global condition and the asserted one
abbrev pub CanNarrow : List ℕ → ℕ → Written → Effect → Type 0
CanNarrow words global change (effect.Grows growth) = Unit {0}
CanNarrow words global change (effect.Narrows place) = IsBothWith words global (asserted change) place

-- the condition at a place holds in the world that is kept then, and its values are such as are kept
pub record IsWorldFor (words : List ℕ) (place : ℕ) (kept : World) (other : Option World) : Type 0 where
  pub holds : IsTrue (holds_at (kept_after kept other) (condition_at words place))
  pub values : All (λ p. IsKeptValue words p.1) kept → All (λ p. IsKeptValue words p.1) (kept_after kept other)

-- why there is no world for the condition at a place: a proof refutes it, or memory is wanting
abbrev pub IsWorldless : List ℕ → ℕ → Refusal → Type 0
IsWorldless words place (refusal.Inconsistent proof) = (proof.root ≡ place) × AcceptsProof words proof × ((v : World) → holds_at v (condition_at words place) ≡ false)
IsWorldless words place refusal.Memory = Unit {0}
IsWorldless words place _ = ⊥

-- the world that is kept after an effect: the same after a growth
abbrev pub IsKeptFor : List ℕ → Effect → World → Option World → Type 0
IsKeptFor words (effect.Grows growth) kept other = other ≡ None
IsKeptFor words (effect.Narrows place) kept other = IsWorldFor words place kept other

-- why there is none; after a growth there is one
abbrev pub IsUnkept : List ℕ → Effect → Refusal → Type 0
IsUnkept words (effect.Grows growth) why = ⊥
IsUnkept words (effect.Narrows place) why = IsWorldless words place why

-- the refusal of a question that is not decided
abbrev pub undecided : DecideError → Refusal
undecided fault.Memory = refusal.Memory

-- the refusal of a change whose effect is not made
abbrev pub unapplied : TableError → Refusal
unapplied table.Full = refusal.Full
unapplied table.Memory = refusal.Memory
