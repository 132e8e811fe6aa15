-- At which valuations conditions hold that are made of others.
use Rattle.std.{proofs.Common.{◌≡◌, ℕ, Bool, true, false, not, ◌&&◌, ◌||◌, List, [], refl, ap, ◌∙◌}, specs.Prelude.{Result, IfOk, IsTrue}}
use Rattle.std.proofs.lemmas.Result.{IfOk-weaker}
use Rattle.ct_word.{specs.Value.{World, at, same_value}, specs.Condition.holds_at, specs.WellFormed.{IsWellFormed, is_place_of}}
use Rattle.ct_word.{specs.Reading.{condition_at, term_at}, proofs.Prefixes.{place_in_prefix, condition_in_prefix, place_within}}
use Rattle.ct_arena.specs.Counts.{opening}
use Rattle.ct_condition.{specs.Truth.{HasTruth, equal_at, not_at, and_at, or_at}, proofs.Truths.{true_at, false_at}}
use Rattle.ct_operators.specs.Building.{HoldsWhere}
use mathlib.Core.List.{IsPrefix}
use Rattle.ct_word.specs.declared.kinds.Class.TheVariants as class

pub holds_as : (ws : List ℕ) (p : ℕ) (s t : World → Bool) → ((v : World) → s v ≡ t v) → HoldsWhere ws p s → HoldsWhere ws p t
holds_as ws p s t e h = record { class = h.class; holds = λ v. h.holds v ∙ e v }

-- a condition that stands there already
pub holds_itself : (ws : List ℕ) (p : ℕ) → IsTrue (is_place_of ws class.Cond p) → HoldsWhere ws p (λ v. holds_at v (condition_at ws p))
holds_itself ws p e = record { class = e; holds = λ v. refl }

-- as words are added
pub holds_later : (now new : List ℕ) (p : ℕ) (t : World → Bool) → IsPrefix now new → HoldsWhere now p t → HoldsWhere new p t
holds_later now new p t longer h = record {
  class = place_in_prefix now new class.Cond p longer h.class;
  holds = λ v. ap (holds_at v) (condition_in_prefix now new p longer (place_within now class.Cond p h.class)) ∙ h.holds v;
}

pub holds_true : (ws : List ℕ) → IsPrefix opening ws → IsWellFormed ws → HoldsWhere ws 0 (λ v. true)
holds_true ws begins wf = let h = true_at ws begins wf in record { class = h.class; holds = λ v. h.truth_is v [] }

pub holds_false : (ws : List ℕ) → IsPrefix opening ws → IsWellFormed ws → HoldsWhere ws 1 (λ v. false)
holds_false ws begins wf = let h = false_at ws begins wf in record { class = h.class; holds = λ v. h.truth_is v [] }

pub holds_equal : (now new : List ℕ) (a b p : ℕ) → HasTruth new p (equal_at now a b) → HoldsWhere new p (λ v. same_value (at v [] (term_at now a)) (at v [] (term_at now b)))
holds_equal now new a b p h = record { class = h.class; holds = λ v. h.truth_is v [] }

pub holds_not : (now new : List ℕ) (c p : ℕ) (s : World → Bool) → HoldsWhere now c s → HasTruth new p (not_at now c) → HoldsWhere new p (λ v. not (s v))
holds_not now new c p s k h = record { class = h.class; holds = λ v. h.truth_is v [] ∙ ap not (k.holds v) }

pub holds_and : (now new : List ℕ) (c d p : ℕ) (s t : World → Bool) → HoldsWhere now c s → HoldsWhere now d t → HasTruth new p (and_at now c d) → HoldsWhere new p (λ v. s v && t v)
holds_and now new c d p s t k l h = record { class = h.class; holds = λ v. h.truth_is v [] ∙ (λ i. k.holds v i && l.holds v i) }

pub holds_or : (now new : List ℕ) (c d p : ℕ) (s t : World → Bool) → HoldsWhere now c s → HoldsWhere now d t → HasTruth new p (or_at now c d) → HoldsWhere new p (λ v. s v || t v)
holds_or now new c d p s t k l h = record { class = h.class; holds = λ v. h.truth_is v [] ∙ (λ i. k.holds v i || l.holds v i) }

-- a condition that stands there already, joined with one over more words
pub holds_beside : (old mid new : List ℕ) (c d : ℕ) (t : World → Bool) {E : Type 0} (r : Result ℕ E) → IsPrefix old mid → IsTrue (is_place_of old class.Cond c) → HoldsWhere mid d t
    → IfOk r (λ p. HasTruth new p (and_at mid c d)) → IfOk r (λ p. HoldsWhere new p (λ v. holds_at v (condition_at old c) && t v))
holds_beside old mid new c d t r longer e other =
    IfOk-weaker r (λ p. HasTruth new p (and_at mid c d)) (λ p. HoldsWhere new p (λ v. holds_at v (condition_at old c) && t v))
    (λ p. holds_and mid new c d p (λ v. holds_at v (condition_at old c)) t (holds_later old mid c _ longer (holds_itself old c e)) other)
