-- What the place of a well formed word stands for.
use Rattle.std.proofs.Common.{◌≡◌, ℕ, zero, suc, ◌<◌, true, false, ◌&&◌, List, [], ◌∷◌, ◌++◌, length, Option, Some, None, nat_eq, refl, ap, ◌∙◌, sym, arith, append_assoc, append-nil, inl, inr}
use Rattle.std.{specs.Prelude.slice_get, specs.List.list_any, proofs.lemmas.Option.none-some}
use Rattle.std.proofs.lemmas.Bool.{and_parts, or_left, or_right, both_ways, eq-eqb, not-true, cases_order}
use Rattle.ct_word.{specs.declared.kinds.Kind.Kind, specs.Word.{kind_of, left_of, right_of}, specs.Reading.{meaning_of, by_kind, meanings}}
use Rattle.ct_word.{specs.WellFormed.{fields_of, fits, is_formed_as, is_word_after, each_follows, IsWellFormed}, proofs.Stands.stands_for_word}
pub use Rattle.ct_word.proofs.Growth.{place_within}
pub use Rattle.ct_word.proofs.Items.{get_front}

abbrev value_in : {X : Type 0} → X → Option X → X
value_in d None = d
value_in d (Some x) = x

pub some-injective : {X : Type 0} (x y : X) → Some x ≡ Some y → x ≡ y
some-injective x y e = ap (value_in x) e

-- a list at one of its items
pub record Split (ws : List ℕ) (p w : ℕ) : Type 0 where
  pub front : List ℕ
  pub back : List ℕ
  pub is : ws ≡ front ++ w ∷ back
  pub long : length front ≡ p

pub split_at : (ws : List ℕ) (p w : ℕ) → slice_get ws p ≡ Some w → Split ws p w
split_at [] p w e = absurd (none-some w e)
split_at (x ∷ ws) zero w e = record { front = []; back = ws; is = ap (λ y. y ∷ ws) (some-injective x w e); long = refl }
split_at (x ∷ ws) (suc p) w e =
    let s = split_at ws p w e in
    record { front = x ∷ s.front; back = s.back; is = ap (λ ys. x ∷ ys) s.is; long = omega (arith, s.long) }

-- the fields of a word of this kind are as the table asks
pub formed_fields : (front : List ℕ) (k : Kind) (a b : ℕ) → is_formed_as (Some k) front a b ≡ true → (fits front (fields_of k).0 a ≡ true) × (fits front (fields_of k).1 b ≡ true)
formed_fields front k a b e = and_parts _ _ (and_parts (fits front (fields_of k).0 a && fits front (fields_of k).1 b) _ e).0

-- each word of a well formed list fits those before it and is none of them
follows_split : (seen front : List ℕ) (w : ℕ) (back : List ℕ) → each_follows seen (front ++ w ∷ back) ≡ true → is_word_after (seen ++ front) w ≡ true
follows_split seen [] w back e = rw (append-nil seen) (and_parts _ _ e).0
follows_split seen (x ∷ front) w back e = rw (sym (append_assoc seen (x ∷ []) front)) (follows_split (seen ++ x ∷ []) front w back (and_parts _ _ e).1)

module _ (ws : List ℕ) (wf : IsWellFormed ws) (p w : ℕ) (at : slice_get ws p ≡ Some w) where
  follows_at : (s : Split ws p w) → is_word_after s.front w ≡ true
  follows_at s = follows_split [] s.front w s.back (sym (ap (each_follows []) s.is) ∙ wf)

  pub formed_at : (s : Split ws p w) → is_formed_as (kind_of w) s.front (left_of w) (right_of w) ≡ true
  unfolding is_word_after
  formed_at s = (and_parts _ _ (follows_at s)).0

  pub new_at : (s : Split ws p w) → list_any (nat_eq w) s.front ≡ false
  unfolding is_word_after
  new_at s = not-true _ (and_parts (is_formed_as (kind_of w) s.front (left_of w) (right_of w)) _ (follows_at s)).1

  -- the meaning of a place by the meanings of its word's fields
  pub meaning_at : slice_get (meanings ws) p ≡ Some (by_kind (kind_of w) (meanings ws) (left_of w) (right_of w))
  unfolding meaning_of
  meaning_at = stands_for_word ws p w wf at

member_of : (ws : List ℕ) (k w : ℕ) → slice_get ws k ≡ Some w → list_any (nat_eq w) ws ≡ true
member_of [] k w e = absurd (none-some w e)
member_of (x ∷ ws) zero w e = or_left (nat_eq w x) _ (eq-eqb w x (sym (some-injective x w e)))
member_of (x ∷ ws) (suc k) w e = or_right (nat_eq w x) _ (member_of ws k w e)

module _ (ws : List ℕ) (wf : IsWellFormed ws) where
  -- no word stands at two places
  apart : (p q w : ℕ) → p < q → slice_get ws p ≡ Some w → slice_get ws q ≡ Some w → ⊥
  apart p q w lt e f =
      let s = split_at ws q w f in
      let e2 : slice_get s.front p ≡ Some w = sym (get_front s.front (w ∷ s.back) p (omega (arith, s.long, lt))) ∙ ap (λ xs. slice_get xs p) (sym s.is) ∙ e in
      both_ways _ (new_at ws wf q w f s) (member_of s.front p w e2)

  pub one_place : (p q w : ℕ) → slice_get ws p ≡ Some w → slice_get ws q ≡ Some w → p ≡ q
  one_place p q w e f =
      elim (cases_order p q) [ inl s ↦ s | inr o ↦ elim o [ inl l ↦ absurd (apart p q w l e f) | inr l ↦ absurd (apart q p w l f e) ] ]
