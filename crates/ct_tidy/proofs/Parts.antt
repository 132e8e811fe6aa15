-- Worlds cut to some of their nulls; sorted ones.
use Rattle.std.proofs.Common.{◌≡◌, Bool, true, false, not, ◌&&◌, List, [], ◌∷◌, filter, cond, refl, ap, sym, ◌∙◌, inl, inr, if◌then◌else◌}
use Rattle.std.{specs.Prelude.{All}, specs.List.list_all, specs.List.Sorted.IsStableBy, proofs.lemmas.Bool.{and_from, and_parts, cases_Bool, false≢true}}
use Rattle.std.proofs.lemmas.List.Elements.{All-cons, All-nil}
use Rattle.ct_word.{specs.declared.values.Null.Null}
use Rattle.ct_word.{specs.Value.{World, same_null, same_value, other_zero, value_of_null}, proofs.Alike.null_decides}
use Rattle.ct_rewrite.specs.Tidy.{IsTidy, null_before, are_ascending, has_no_zero}
use Rattle.ct_tidy.proofs.Ordered.{null_ranks}

-- what is kept of a list
all_kept : {X : Type 0} (test keep : X → Bool) (xs : List X) → list_all test xs ≡ true → list_all test (filter keep xs) ≡ true
all_kept test keep [] e = refl
all_kept test keep (x ∷ xs) e = let parts = and_parts (test x) (list_all test xs) e in by (keep x) parts.0 (all_kept test keep xs parts.1) where
  by : (b : Bool) → test x ≡ true → list_all test (filter keep xs) ≡ true → list_all test (cond b (x ∷ filter keep xs) (filter keep xs)) ≡ true
  by true first rest = and_from (test x) (list_all test (filter keep xs)) first rest
  by false first rest = rest

pub kept_all : {X : Type 0} (P : X → Type 0) (keep : X → Bool) → ((x : X) → keep x ≡ true → P x) → (xs : List X) → All P (filter keep xs)
kept_all P keep holds [] = All-nil P
kept_all P keep holds (x ∷ xs) = by (keep x) refl (kept_all P keep holds xs) where
  by : (b : Bool) → keep x ≡ b → All P (filter keep xs) → All P (cond b (x ∷ filter keep xs) (filter keep xs))
  by true e rest = All-cons P x (filter keep xs) (holds x e) rest
  by false e rest = rest

module _ (keep : Null → Bool) where
  abbrev part : World → World
  part v = filter (λ p. keep p.0) v

  part_ascends : (v : World) → are_ascending v ≡ true → are_ascending (part v) ≡ true
  part_ascends [] e = refl
  part_ascends (p ∷ v) e = let parts = and_parts (list_all (λ r. null_before p.0 r.0) v) (are_ascending v) e in by (keep p.0) parts.0 (part_ascends v parts.1) where
    by : (b : Bool) → list_all (λ r. null_before p.0 r.0) v ≡ true → are_ascending (part v) ≡ true → are_ascending (cond b (p ∷ part v) (part v)) ≡ true
    by true first rest = and_from (list_all (λ r. null_before p.0 r.0) (part v)) (are_ascending (part v)) (all_kept (λ r. null_before p.0 r.0) (λ r. keep r.0) v first) rest
    by false first rest = rest

  pub part_tidy : (v : World) → IsTidy v → IsTidy (part v)
  part_tidy v tidy =
      let parts = and_parts (are_ascending v) (has_no_zero v) tidy in
      and_from (are_ascending (part v)) (has_no_zero (part v)) (part_ascends v parts.0) (all_kept (λ p. not (same_value p.1 other_zero)) (λ p. keep p.0) v parts.1)

  -- a null that is kept has the value that it had
  pub part_gives : (v : World) (n : Null) → keep n ≡ true → value_of_null (part v) n ≡ value_of_null v n
  part_gives [] n k = refl
  part_gives (p ∷ v) n k = by (keep p.0) (same_null p.0 n) refl refl (part_gives v n k) where
    by : (b s : Bool) → keep p.0 ≡ b → same_null p.0 n ≡ s → value_of_null (part v) n ≡ value_of_null v n
        → value_of_null (cond b (p ∷ part v) (part v)) n ≡ value_of_null (p ∷ v) n
    by true s kept same rest = ap (λ x. if same_null p.0 n then p.1 else x) rest
    by false true kept same rest = absurd (false≢true (sym kept ∙ ap keep ((null_decides p.0 n).0 same) ∙ k))
    by false false kept same rest = rest ∙ sym (ap (λ b. if b then p.1 else value_of_null v n) same)

-- a null is not before itself
not_before_itself : (n : Null) → null_before n n ≡ false
not_before_itself n = elim (cases_Bool (null_before n n)) [ inl t ↦ null_ranks.one_way n n t | inr f ↦ f ]

-- whether two nulls are the same in the order
abbrev ties_with : Null → Null → Bool
ties_with n m = not (null_before n m) && not (null_before m n)

-- pairs that are sorted, those of one null as they stood, give each null the value that it had
pub sorted_gives : (v w : World) → IsStableBy (λ p q. null_before p.0 q.0) v w → (n : Null) → value_of_null w n ≡ value_of_null v n
sorted_gives v w stable n =
    let own = and_from (not (null_before n n)) (not (null_before n n)) (ap not (not_before_itself n)) (ap not (not_before_itself n)) in
    sym (part_gives (ties_with n) w n own) ∙ ap (λ l. value_of_null l n) (stable (n, other_zero)) ∙ part_gives (ties_with n) v n own
