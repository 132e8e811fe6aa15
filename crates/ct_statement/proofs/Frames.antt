-- What a call wrote, where its clauses say it one by one, and where a refusal is said in other words.
use Rattle.std.{proofs.Common.{◌≡◌, ℕ, ◌+◌, ◌<◌, ◌≤◌, Bool, true, false, ◌∷◌, [], length, refl, ap₂, arith}, specs.Prelude.Err, proofs.lemmas.Bool.false≢true}
use Rattle.ct_word.specs.WellFormed.{IsWellFormed}
use Rattle.ct_arena.specs.Seen.{Seen}
use Rattle.ct_condition.specs.Writes.{charge, PassWrites}
use Rattle.ct_algebra.specs.declared.error.EvalError.{EvalError}
use Rattle.ct_certain.{specs.Faults.is_full, specs.declared.error.CertainError.CertainError}
use Rattle.ct_statement.{specs.Asking.{unanswered, unlisted}, specs.Making.says_full}
use Rattle.ct_algebra.specs.declared.error.EvalError.TheVariants as eval
use Rattle.ct_certain.specs.declared.error.CertainError.TheVariants as fault
use mathlib.Core.List.{IsPrefix}

-- a call that made at most so many words, and fewer where the log was full
pub gathered : {cap n : ℕ} {old new : Seen} (refused : Bool) → IsPrefix old.words new.words → IsWellFormed new.words → length new.words ≤ cap → (refused ≡ true → length new.words ≡ cap) → old.made ≤ new.made
    → new.made ≤ old.made + n → (refused ≡ true → new.made < old.made + n) → new.session ≡ old.session → new.mine ≡ old.mine → PassWrites cap old new n refused
gathered {n = n} {old} {new} refused longer formed room full rises most fewer session mine =
    record { longer = longer; formed = formed; room = room; full = full; rises = rises; made = charged refused fewer; kept = ap₂ (λ s m. s ∷ m ∷ []) session mine; lent = refl } where
      charged : (b : Bool) → (b ≡ true → new.made < old.made + n) → new.made + charge b ≤ old.made + n
      charged true lt = let less = lt refl in omega (arith, less)
      charged false lt = omega (arith, most)

-- a refusal for what is below tells of a full log where its own error does
pub unanswered_full : (e : EvalError) → says_full (unanswered e) ≡ true → e ≡ eval.Full
unanswered_full eval.Full h = refl
unanswered_full eval.TooLarge h = absurd (false≢true h)
unanswered_full eval.Memory h = absurd (false≢true h)

pub unlisted_full : (T : Type 0) (e : CertainError) → says_full (unlisted e) ≡ is_full {T = T} (Err e)
unlisted_full T fault.Full = refl
unlisted_full T fault.Memory = refl
