-- The conjuncts that are reached share nulls.
use Rattle.std.proofs.Common.{◌≡◌, ℕ, zero, suc, ◌<◌, ◌⊎◌, true, false, List, [], ◌∷◌, ◌++◌, get_or, length, replicate, set, ap, sym, ◌∙◌, subst, inl, inr}
use Rattle.std.{specs.Prelude.{Contains}, proofs.lemmas.Bool.{cases_eq, false≢true}, proofs.lemmas.List.{get_or-set_other, length-set}, proofs.lemmas.List.Elements.{Contains-get_or, Contains-push_cases}}
use Rattle.ct_word.{specs.Reading.term_at, specs.Stands.TermBelow, specs.WellFormed.{IsWellFormed}}
use Rattle.ct_near.{specs.declared.index.{Conjuncts.Conjuncts, Entry.Entry}, specs.declared.relating.Reached.Reached, specs.Conjuncts.{AreConjuncts, IsConjunct}, specs.Entries.IsEntryOf, proofs.{Entries.one_of_pair, Runs.below_below}}
use Rattle.ct_near.specs.Related.{AreRelated, HasEntry, IsReachedNull, IsRelatedAt, Reaches, SharesOwn, SharesWith, ours, theirs}
use Rattle.ct_worlds.{specs.Below.IsReached, specs.Shape.{shape_at, terms_of}, proofs.Shaped.term_stands}
use Rattle.ct_word.specs.declared.values.Term.TheVariants as term
use Rattle.ct_worlds.specs.declared.shape.Shape.TheVariants as shape

module _ (P : ℕ → Type 0) where
  pub reaches_same : (old new : Reached) → new.is_asked.items ≡ old.is_asked.items → new.waiting.items ≡ old.waiting.items → Reaches P old new
  reaches_same old new e f = record {
    asked = λ k h. inl (subst (λ l. get_or l k false ≡ true) e h);
    waiting = λ k h. inl (subst (λ l. Contains l k) f h);
    room = ap length e;
  }

  pub reaches_more : (old mid new : Reached) → Reaches P old mid → Reaches P mid new → Reaches P old new
  reaches_more old mid new a b = record {
    asked = λ k h. elim (b.asked k h) [ inl there ↦ a.asked k there | inr one ↦ inr one ];
    waiting = λ k h. elim (b.waiting k h) [ inl there ↦ a.waiting k there | inr one ↦ inr one ];
    room = b.room ∙ a.room;
  }

  pub reaches_weaker : (Q : ℕ → Type 0) (old new : Reached) → ((k : ℕ) → P k → Q k) → Reaches P old new → Reaches Q old new
  reaches_weaker Q old new weaker a = record {
    asked = λ k h. elim (a.asked k h) [ inl there ↦ inl there | inr one ↦ inr (weaker k one) ];
    waiting = λ k h. elim (a.waiting k h) [ inl there ↦ inl there | inr one ↦ inr (weaker k one) ];
    room = a.room;
  }

-- one more is asked
pub asks_one : (conjunct : ℕ) (old new : Reached) → new.is_asked.items ≡ set old.is_asked.items conjunct true → new.waiting.items ≡ old.waiting.items ++ conjunct ∷ [] → Reaches (λ k. k ≡ conjunct) old new
asks_one conjunct old new e f = record {
  asked = λ k h. elim (cases_eq k conjunct) [
    | inl same ↦ inr same
    | inr ne ↦ inl (sym (get_or-set_other old.is_asked.items conjunct k true false ne) ∙ subst (λ l. get_or l k false ≡ true) e h)
  ];
  waiting = λ k h. elim (Contains-push_cases old.waiting.items conjunct k (subst (λ l. Contains l k) f h)) [ inl there ↦ inl there | inr same ↦ inr (sym same) ];
  room = ap length e ∙ length-set old.is_asked.items conjunct true;
}

-- an equality below the conditions names a null of theirs
pub shares_own : (words own : List ℕ) (entries : List Entry) (place a b q : ℕ) → IsReached words own place → shape_at words place ≡ shape.Equal a b → (q ≡ a) ⊎ (q ≡ b) → (k : ℕ) → HasEntry entries q k → SharesOwn words own entries k
shares_own words own entries place a b q reached is of k has = record { place = place; reached = reached; spot = q; named = subst (λ s. Contains (terms_of s) q) (sym is) (one_of_pair a b q of); has = has }

pub none_asked : (n k : ℕ) → get_or (replicate n false) k false ≡ true → ⊥
none_asked zero k h = false≢true h
none_asked (suc n) zero h = false≢true h
none_asked (suc n) (suc k) h = none_asked n k h

module _ (words : List ℕ) (root : ℕ) (own : List ℕ) (c : Conjuncts) (formed : IsWellFormed words) (are : AreConjuncts words root c) where
  abbrev places : List ℕ
  places = c.places.items

  abbrev entries : List Entry
  entries = c.index.entries.items

  conjunct_at : (k : ℕ) → k < length places → IsConjunct words root (get_or places k 0)
  conjunct_at k lt = let h = Contains-get_or places k 0 lt in record { run = are.each (get_or places k 0) h; end = are.ends (get_or places k 0) h }

  pub related_by : (k : ℕ) (e : Entry) → e.conjunct ≡ k → (is : IsEntryOf words places e) → IsReachedNull words root own is.null → IsRelatedAt words root own places k
  related_by k e same is reached =
      subst (IsRelatedAt words root own places) same (record { within = is.conjunct; is = record { conjunct = conjunct_at e.conjunct is.conjunct; null = is.null; reached = reached; below = is.below } })

  own_related : (k : ℕ) → SharesOwn words own entries k → IsRelatedAt words root own places k
  own_related k s =
      let e = are.only s.has.entry s.has.among in
      let r = s.reached in
      let t = term_stands words s.place s.spot (term.Null e.null) formed r.condition s.named (ap (term_at words) (sym s.has.null) ∙ e.there.null) in
      related_by k s.has.entry s.has.conjunct e (ours r.root r.among (t.0, below_below words r.root s.place t.0 r.below t.1, t.2))

  with_related : (j k : ℕ) → IsRelatedAt words root own places j → SharesWith entries j k → IsRelatedAt words root own places k
  with_related j k at s =
      let one = are.only s.one.entry s.one.among in
      let other = are.only s.other.entry s.other.among in
      let same : term.Null one.null ≡ term.Null other.null = sym one.there.null ∙ ap (term_at words) (s.one.null ∙ sym s.other.null) ∙ other.there.null in
      let here = subst (λ i. TermBelow words (get_or places i 0) (term.Null one.null)) s.one.conjunct one.below in
      related_by k s.other.entry s.other.conjunct other (theirs (get_or places j 0) at.is.null at.is.conjunct at.is.reached at.is.below (subst (TermBelow words (get_or places j 0)) same here))

  pub own_reached : (old new : Reached) → AreRelated words root own places old → Reaches (SharesOwn words own entries) old new → AreRelated words root own places new
  own_reached old new so_far r = record {
    asked = λ k h. elim (r.asked k h) [ inl there ↦ so_far.asked k there | inr one ↦ own_related k one ];
    waiting = λ k h. elim (r.waiting k h) [ inl there ↦ so_far.waiting k there | inr one ↦ own_related k one ];
  }

  pub with_reached : (j : ℕ) (old new : Reached) → IsRelatedAt words root own places j → AreRelated words root own places old → Reaches (SharesWith entries j) old new → AreRelated words root own places new
  with_reached j old new at so_far r = record {
    asked = λ k h. elim (r.asked k h) [ inl there ↦ so_far.asked k there | inr one ↦ with_related j k at one ];
    waiting = λ k h. elim (r.waiting k h) [ inl there ↦ so_far.waiting k there | inr one ↦ with_related j k at one ];
  }
