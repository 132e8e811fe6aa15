-- Nulls that are listed with conjuncts.
use Rattle.std.proofs.Common.{◌≡◌, ◌⊎◌, ℕ, true, false, List, [], ◌∷◌, ◌++◌, Option, Some, refl, ap, sym, ◌∙◌, subst, inl, inr}
use Rattle.std.{specs.Prelude.{IsTrue, Contains, slice_get}, proofs.lemmas.Bool.false≢true, proofs.lemmas.List.{append-nil, append_assoc}, proofs.lemmas.List.Elements.{Contains-append_cases, Contains-append_left, Contains-push}}
use Rattle.ct_word.{specs.declared.kinds.Kind.Kind, specs.declared.values.{Null.Null, Value.Value}, specs.Reading.{Meaning, as_term, as_text, by_kind, meanings, term_at}, specs.WellFormed.{IsWellFormed, has_class, is_place_of}, specs.Word.{kind_of, left_of, right_of}}
use Rattle.ct_word.proofs.{Items.{no_item, sole_item}, Places.is_word, Splits.meaning_at}
use Rattle.ct_near.{specs.declared.index.Entry.Entry, specs.Entries.{Extends, IsEntryAmong, IsListed, is_null_kind, is_null_word}}
use Rattle.ct_word.specs.declared.kinds.Class.TheVariants as class
use Rattle.ct_word.specs.declared.kinds.Kind.TheVariants as kind
use Rattle.ct_word.specs.declared.values.Null.TheVariants as null
use Rattle.ct_word.specs.declared.values.Term.TheVariants as term

-- no entry was lost
abbrev pub Keeps : List Entry → List Entry → Type 0
Keeps old new = (e : Entry) → Contains old e → Contains new e

module _ (P : Entry → Type 0) where
  pub extends_keeps : (old new : List Entry) → Extends P old new → Keeps old new
  extends_keeps old new x e h = subst (λ l. Contains l e) (sym x.is) (Contains-append_left old x.more e h)

  pub extends_cases : (old new : List Entry) → Extends P old new → (e : Entry) → Contains new e → Contains old e ⊎ P e
  extends_cases old new x e h = elim (Contains-append_cases old x.more e (subst (λ l. Contains l e) x.is h)) [ inl there ↦ inl there | inr one ↦ inr (x.each e one) ]

  pub extends_same : (old new : List Entry) → new ≡ old → Extends P old new
  extends_same old new e = record { more = []; is = e ∙ sym (append-nil old); each = λ x h. absurd (no_item x h) }

  pub extends_one : (old new : List Entry) (e : Entry) → new ≡ old ++ e ∷ [] → P e → Extends P old new
  extends_one old new e is h = record { more = e ∷ []; is = is; each = λ x i. subst P (sole_item e x i) h }

  pub extends_more : (old mid new : List Entry) → Extends P old mid → Extends P mid new → Extends P old new
  extends_more old mid new x y = record {
    more = x.more ++ y.more;
    is = y.is ∙ ap (λ l. l ++ y.more) x.is ∙ append_assoc old x.more y.more;
    each = λ e h. elim (Contains-append_cases x.more y.more e h) [ inl one ↦ x.each e one | inr two ↦ y.each e two ];
  }

  pub extends_weaker : (Q : Entry → Type 0) (old new : List Entry) → ((e : Entry) → P e → Q e) → Extends P old new → Extends Q old new
  extends_weaker Q old new weaker x = record { more = x.more; is = x.is; each = λ e h. weaker e (x.each e h) }

pub keeps_listed : (words : List ℕ) (old new : List Entry) (number : ℕ) (n : Null) → Keeps old new → IsListed words old number n → IsListed words new number n
keeps_listed words old new number n keeps is = record { entry = is.entry; among = keeps is.entry is.among; conjunct = is.conjunct; placed = is.placed; null = is.null }

-- the last entry is of a null
pub listed_last : (words : List ℕ) (old new : List Entry) (place number next : ℕ) → new ≡ old ++ (record { null = place; conjunct = number; next = next }) ∷ [] → IsTrue (is_place_of words class.Term place)
    → (n : Null) → term_at words place ≡ term.Null n → IsListed words new number n
listed_last words old new place number next is placed n e =
    let entry : Entry = record { null = place; conjunct = number; next = next } in
    record { entry = entry; among = subst (λ l. Contains l entry) (sym is) (Contains-push old entry); conjunct = refl; placed = placed; null = e }

-- a word of a null stands for one
null_by : (o : Option Kind) (ms : List Meaning) (a b : ℕ) → is_null_kind o ≡ true → (n : Null) × (as_term (Some (by_kind o ms a b)) ≡ term.Null n)
null_by (Some kind.NamedNull) ms a b e = (null.Named (as_text (slice_get ms a)), refl)
null_by (Some kind.FreshNull) ms a b e = (null.Fresh a b, refl)
null_by _ ms a b e = absurd (false≢true e)

no_value : (x : Value) (n : Null) → term.Value x ≡ term.Null n → ⊥
no_value x n e = cc

-- and no other word of a term does
null_of : (o : Option Kind) (ms : List Meaning) (a b : ℕ) (n : Null) → has_class o class.Term ≡ true → as_term (Some (by_kind o ms a b)) ≡ term.Null n → is_null_kind o ≡ true
null_of (Some kind.NamedNull) ms a b n c e = refl
null_of (Some kind.FreshNull) ms a b n c e = refl
null_of (Some kind.Number) ms a b n c e = absurd (cc)
null_of (Some kind.TextConstant) ms a b n c e = absurd (cc)
null_of (Some kind.OtherValue) ms a b n c e = absurd (cc)
null_of (Some kind.Column) ms a b n c e = absurd (cc)
null_of _ ms a b n c e = absurd (false≢true c)

module _ (words : List ℕ) (formed : IsWellFormed words) (place : ℕ) (placed : IsTrue (is_place_of words class.Term place)) where
  pub null_there : is_null_word (slice_get words place) ≡ true → (n : Null) × (term_at words place ≡ term.Null n)
  null_there e =
      let w = is_word (slice_get words place) class.Term placed in
      let r = null_by (kind_of w.0) (meanings words) (left_of w.0) (right_of w.0) (sym (ap is_null_word w.1) ∙ e) in
      (r.0, ap as_term (meaning_at words formed place w.0 w.1) ∙ r.1)

  pub no_null_there : (n : Null) → is_null_word (slice_get words place) ≡ false → term_at words place ≡ term.Null n → ⊥
  no_null_there n e is =
      let w = is_word (slice_get words place) class.Term placed in
      let b = null_of (kind_of w.0) (meanings words) (left_of w.0) (right_of w.0) n w.2 (sym (ap as_term (meaning_at words formed place w.0 w.1)) ∙ is) in
      false≢true (sym e ∙ ap is_null_word w.1 ∙ b)

-- the last entry is of the null at its place
pub entry_last : (words : List ℕ) (place number next : ℕ) → IsWellFormed words → IsTrue (is_place_of words class.Term place) → is_null_word (slice_get words place) ≡ true
    → IsEntryAmong words number (λ q. q ≡ place) (record { null = place; conjunct = number; next = next })
entry_last words place number next formed placed is =
    let n = null_there words formed place placed is in
    record { conjunct = refl; of = refl; null = n.0; there = record { placed = placed; null = n.1 } }
