-- Pieces written one after another, with a separator between.
use Rattle.std.{proofs.Common.{◌≡◌, ℕ, ◌+◌, ◌<◌, List, [], ◌∷◌, ◌++◌, length, take, get_or, ap, ◌∙◌, arith, append_assoc, append-nil}, specs.List.join_by}
use Rattle.std.{proofs.lemmas.Grind.{flat_map-append, take_at_read}, proofs.lemmas.List.length-take-le, proofs.Math.Dec.eqb-suc-zero}
use Rattle.ct_print.specs.Written.{separator_before}

join_push : {X : Type 0} (f : X → List ℕ) (sep : List ℕ) (xs : List X) (x : X) → join_by f sep (xs ++ x ∷ []) ≡ join_by f sep xs ++ (separator_before (length xs) sep ++ f x)
join_push f sep [] x = append-nil (f x)
join_push f sep (y ∷ ys) x = rw (flat_map-append (λ z. sep ++ f z) ys (x ∷ [])) (simp (append_assoc, append-nil, eqb-suc-zero))

pub join_more : {X : Type 0} (f : X → List ℕ) (sep : List ℕ) (xs : List X) (i : ℕ) (d : X) → i < length xs → join_by f sep (take (i + 1) xs) ≡ join_by f sep (take i xs) ++ (separator_before i sep ++ f (get_or xs i d))
join_more f sep xs i d h =
    let at : take (i + 1) xs ≡ take i xs ++ get_or xs i d ∷ [] = (take_at_read xs i d h).1 in
    let len : length (take i xs) ≡ i = length-take-le i xs (omega arith) in
    ap (join_by f sep) at ∙ join_push f sep (take i xs) (get_or xs i d) ∙ ap (λ n. join_by f sep (take i xs) ++ (separator_before n sep ++ f (get_or xs i d))) len

-- what is written by the piece at a position follows what is written by those before it
pub join_written : {X : Type 0} (f : X → List ℕ) (sep : List ℕ) (xs : List X) (i : ℕ) (x d : X) (start before mid after : List ℕ) → i < length xs → x ≡ get_or xs i d → before ≡ start ++ join_by f sep (take i xs) → mid ≡ before ++ separator_before i sep → after ≡ mid ++ f x → after ≡ start ++ join_by f sep (take (i + 1) xs)
join_written f sep xs i x d start before mid after h e p q r =
    r ∙ ap (λ b. b ++ f x) (q ∙ ap (λ b. b ++ separator_before i sep) p)
    ∙ ap (λ y. ((start ++ join_by f sep (take i xs)) ++ separator_before i sep) ++ f y) e ∙ rw (join_more f sep xs i d h) (simp append_assoc)

-- two texts written one after the other
pub both_written : (t x out mid new : List ℕ) → mid ≡ out ++ t → new ≡ mid ++ x → new ≡ out ++ (t ++ x)
both_written t x out mid new p q = q ∙ rw p (append_assoc out t x)
