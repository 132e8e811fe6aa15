-- Questions and their answers.
use Rattle.std.proofs.Common.{◌≡◌, ℕ, Bool, ◌&&◌, true, List, [], ◌∷◌, map, ap, sym, subst, ◌∙◌, inl, inr}
use Rattle.std.{specs.Prelude.{◌⊎◌, All, Contains, Some, None}, proofs.lemmas.Bool.and_from}
use Rattle.std.proofs.lemmas.List.Elements.{All-contains, All-contains_itself, All-from_recursion, All-weaker}
use Rattle.ct_word.{specs.declared.values.CRow.CRow, specs.declared.values.Null.Null, specs.Value.{World, value_of_null}, specs.Condition.{holds, holds_at}}
use Rattle.ct_word.{specs.Reading.condition_at, specs.Stands.{HasNoColumn, TermBelow}, specs.WellFormed.IsWellFormed, proofs.Prefixes.{condition_in_prefix, place_in_prefix, place_within}}
use Rattle.ct_word.proofs.Items.{first_item, later_item, mapped_item, item_cases, sole_item, unmapped_item}
use Rattle.ct_derivation.{specs.Accepts.Accepts, proofs.Sound.root_refuted}
use Rattle.ct_condition.{specs.Truth.{HasTruth, and_at}, specs.Terms.{TermsFrom, BelowEither}, proofs.Reached.{either_before, terms_before}}
use Rattle.ct_near.specs.{Conjuncts.AreBeside, Near.{IsNullNear, IsRepairedNear}}
use Rattle.ct_decide.specs.{Decided.{DecisionNear, DecisionOf}, declared.deciding.Decision.Decision}
use Rattle.ct_rewrite.specs.Tidy.{IsTidy}
use Rattle.ct_tidy.proofs.Ordered.{listed_by}
use Rattle.ct_certain.{specs.Answered.{AreOf, Asks, IsAnswer, IsFound, IsSettled, IsSettledOwn, IsWithin}, specs.Possible.is_shown}
use Rattle.ct_certain.proofs.Agreed.{truth_agreed}
use mathlib.Core.List.{IsPrefix}
use Rattle.ct_word.specs.declared.kinds.Class.TheVariants as class
use Rattle.ct_word.specs.declared.values.Term.TheVariants as term
use Rattle.ct_decide.specs.declared.deciding.Decision.TheVariants as decision

-- a world put into order
module _ (found world : World) (same : (n : Null) → value_of_null world n ≡ value_of_null found n) where
  -- a condition that holds at it holds at the one in order
  pub in_order : (words : List ℕ) (root : ℕ) → holds_at found (condition_at words root) ≡ true → holds_at world (condition_at words root) ≡ true
  in_order words root holds = truth_agreed world found [] (condition_at words root) (λ n h. same n) ∙ holds

  -- what its nulls are, those of the one in order are
  pub nulls_in_order : (P : Null → Type 0) → IsTidy world → All (λ p. P p.0) found → All (λ p. P p.0) world
  nulls_in_order P tidy all = All-weaker (Contains world) (λ p. P p.0) (λ p h.
      let q = unmapped_item (λ r. r.0) found p.0 (listed_by found world tidy same p.0 (mapped_item (λ r. r.0) world p h)) in
      subst P q.2 (All-contains (λ r. P r.0) found q.0 all q.1)) world (All-contains_itself world)

-- the nulls of a world that was made near one whose nulls stand below the global condition
module _ (words : List ℕ) (global : ℕ) (near : World) (within : IsWithin words global near) where
  of_near : (n : Null) → Contains (map (λ p. p.0) near) n → TermBelow words global (term.Null n)
  of_near n h =
      let q = unmapped_item (λ r. r.0) near n h in
      subst (λ m. TermBelow words global (term.Null m)) q.2 (All-contains (λ r. TermBelow words global (term.Null r.0)) near q.0 within q.1)

  either_null : (c : ℕ) (places : List ℕ) → ((p : ℕ) → Contains places p → (p ≡ global) ⊎ (p ≡ c)) → (n : Null) → IsNullNear words places near n → BelowEither words global c (term.Null n)
  either_null c places are n (inl old) = inl (of_near n old)
  either_null c places are n (inr b) = elim (are b.root b.among) [
    | inl e ↦ inl (subst (λ p. TermBelow words p (term.Null n)) e b.below)
    | inr e ↦ inr (subst (λ p. TermBelow words p (term.Null n)) e b.below)
  ]

  -- one at which two conditions hold, in order
  pub changed_found : (c : ℕ) (found world : World) → IsRepairedNear words (global ∷ c ∷ []) near found → ((n : Null) → value_of_null world n ≡ value_of_null found n) → IsTidy world → IsFound words global c world
  changed_found c found world made same tidy = record {
    tidy = tidy;
    holds = and_from (holds_at world (condition_at words global)) (holds_at world (condition_at words c))
        (in_order found world same words global (made.holds global (first_item (c ∷ []) global)))
        (in_order found world same words c (made.holds c (later_item (c ∷ []) global c (first_item [] c))));
    own = nulls_in_order found world same (λ n. BelowEither words global c (term.Null n)) tidy
        (All-weaker (λ p. IsNullNear words (global ∷ c ∷ []) near p.0) (λ p. BelowEither words global c (term.Null p.0)) (λ p. either_null c (global ∷ c ∷ []) two p.0) found
        (All-from_recursion (λ p. IsNullNear words (global ∷ c ∷ []) near p.0) found made.nulls));
  } where
    two : (p : ℕ) → Contains (global ∷ c ∷ []) p → (p ≡ global) ⊎ (p ≡ c)
    two p h = elim (item_cases (c ∷ []) global p h) [ inl e ↦ inl (sym e) | inr i ↦ inr (sym (sole_item c p i)) ]

  -- a decision near it
  pub near_within : (root : ℕ) (d : Decision) → DecisionNear words root near d → IsSettledOwn words root global d
  near_within root (decision.World v) is = (
    is.holds root (first_item [] root),
    All-weaker (λ p. IsNullNear words (root ∷ []) near p.0) (λ p. BelowEither words global root (term.Null p.0)) (λ p. either_null root (root ∷ []) (λ p h. inr (sym (sole_item root p h))) p.0) v
        (All-from_recursion (λ p. IsNullNear words (root ∷ []) near p.0) v is.nulls),
  )
  near_within root (decision.Refuted d) is = is

-- and one where none is near
pub decided_within : (words : List ℕ) (root global : ℕ) (d : Decision) → DecisionOf words root d → IsSettledOwn words root global d
decided_within words root global (decision.World v) is = (
  is.holds,
  All-weaker (λ p. TermBelow words root (term.Null p.0)) (λ p. BelowEither words global root (term.Null p.0)) (λ p h. inr h) v (All-from_recursion (λ p. TermBelow words root (term.Null p.0)) v is.nulls),
)
decided_within words root global (decision.Refuted d) is = is

-- a decision near a world settles its question
pub settled_near : (words : List ℕ) (root : ℕ) (near : World) (d : Decision) → DecisionNear words root near d → IsSettled words root d
settled_near words root near (decision.World v) is = is.holds root (first_item [] root)
settled_near words root near (decision.Refuted d) is = is

-- a world that was made so that a condition and those beside it hold
pub beside_holds : (words : List ℕ) (root one : ℕ) (own : List ℕ) (near v : World) → AreBeside words root one own → IsRepairedNear words (one ∷ own) near v → holds_at v (condition_at words root) ≡ true
beside_holds words root one own near v beside made = beside.enough v (made.holds one (first_item own one)) (λ p h. made.holds p (later_item own one p h))

-- a root, as words are added
pub asks_later : (old new : List ℕ) → IsPrefix old new → IsWellFormed new → (root : ℕ) (test : World → Bool) → Asks old root test → Asks new root test
asks_later old new longer formed root test is =
    let lt = place_within old class.Cond root is.class in
    record {
      class = place_in_prefix old new class.Cond root longer is.class;
      plain = λ k h. is.plain k (terms_before old new longer formed root (term.Column k) lt h);
      holds = λ v. ap (holds_at v) (condition_in_prefix old new root longer lt) ∙ is.holds v;
    }

-- the root of the question whether a row is shown, put by words after these
module _ (words old new : List ℕ) (grown : IsPrefix words old) (formed : IsWellFormed old) (global : ℕ) (r : CRow) (are : AreOf words global r) (root : ℕ) where
  pub root_shows : HasTruth new root (and_at old global r.cond) → (v : World) → holds_at v (condition_at new root) ≡ is_shown words global r v
  root_shows truth v = truth.truth_is v []
      ∙ (λ i. holds v [] (condition_in_prefix words old global grown (place_within words class.Cond global are.global_is) i) && holds v [] (condition_in_prefix words old r.cond grown (place_within words class.Cond r.cond are.condition) i))

  pub root_terms : TermsFrom new root (BelowEither old global r.cond) → TermsFrom new root (BelowEither words global r.cond)
  root_terms from t h = either_before words old grown formed global r.cond t (place_within words class.Cond global are.global_is) (place_within words class.Cond r.cond are.condition) (from t h)

  pub root_plain : TermsFrom new root (BelowEither old global r.cond) → HasNoColumn new root
  root_plain from k h = elim (root_terms from (term.Column k) h) [
    | inl a ↦ are.global_plain k a
    | inr b ↦ are.plain k b
  ]

  module _ (longer : IsPrefix words new) (ends : IsWellFormed new) (truth : HasTruth new root (and_at old global r.cond)) where
    own_null : TermsFrom new root (BelowEither old global r.cond) → (n : Null) → BelowEither new global root (term.Null n) → BelowEither words global r.cond (term.Null n)
    own_null from n (inl a) = inl (terms_before words new longer ends global (term.Null n) (place_within words class.Cond global are.global_is) a)
    own_null from n (inr b) = root_terms from (term.Null n) b

    pub shown_answer : TermsFrom new root (BelowEither old global r.cond) → (found v : World) → IsSettledOwn new root global (decision.World found) → ((n : Null) → value_of_null v n ≡ value_of_null found n) → IsTidy v
        → IsAnswer words global r (Some v)
    shown_answer from found v is same tidy = record {
      tidy = tidy;
      holds = sym (root_shows truth v) ∙ in_order found v same new root is.0;
      own = nulls_in_order found v same (λ n. BelowEither words global r.cond (term.Null n)) tidy
          (All-weaker (λ p. BelowEither new global root (term.Null p.0)) (λ p. BelowEither words global r.cond (term.Null p.0)) (λ p. own_null from p.0) found is.1);
    }

    pub none_answer : (d : _) → Accepts new root d → IsAnswer words global r None
    none_answer d is v = sym (root_shows truth v) ∙ root_refuted new root d ends is v
