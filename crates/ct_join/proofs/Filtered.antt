-- All pairs, filtered, are the partners of one left key after another.
use Rattle.std.proofs.Common.{◌≡◌, ℕ, zero, suc, ◌+◌, ◌<◌, Bool, true, false, cond, List, [], ◌∷◌, ◌++◌, length, map, get_or, refl, sym, ap, ◌∙◌, append_assoc, append-nil, arith}
use Rattle.std.{specs.Prelude.{filter, flat_map}, specs.List.range_with_len}
use Rattle.std.{proofs.lemmas.List.get_or_default, proofs.lemmas.List.Elements.filter-append, proofs.lemmas.List.Concat.flat_map-append}
use Rattle.ct_join.{specs.declared.keys.Key.Key, specs.Pairs.{may_agree, key_at, places_below, candidates, partners}}
use Rattle.ct_join.specs.declared.keys.Key.TheVariants as key

module _ {A B : Type 0} where
  filter_of_map : (p : B → Bool) (f : A → B) (xs : List A) → filter p (map f xs) ≡ map f (filter (λ x. p (f x)) xs)
  filter_of_map p f [] = refl
  filter_of_map p f (x ∷ xs) = ap (λ l. cond (p (f x)) (f x ∷ l) l) (filter_of_map p f xs) ∙ by_test (p (f x)) where
    by_test : (b : Bool) → cond b (f x ∷ map f (filter (λ x. p (f x)) xs)) (map f (filter (λ x. p (f x)) xs)) ≡ map f (cond b (x ∷ filter (λ x. p (f x)) xs) (filter (λ x. p (f x)) xs))
    by_test true = refl
    by_test false = refl

range_more : (a n : ℕ) → range_with_len a (n + 1) ≡ range_with_len a n ++ (a + n) ∷ []
range_more a zero = let same : a ≡ a + zero = omega arith in ap (λ k. k ∷ []) same
range_more a (suc n) =
    let longer : suc n + 1 ≡ suc (n + 1) = omega arith in
    let last : a + 1 + n ≡ a + suc n = omega arith in
    ap (range_with_len a) longer ∙ ap (λ l. a ∷ l) (range_more (a + 1) n) ∙ ap (λ k. a ∷ range_with_len (a + 1) n ++ k ∷ []) last

pub places_more : (n : ℕ) → places_below (n + 1) ≡ places_below n ++ n ∷ []
places_more n = let last : 0 + n ≡ n = omega arith in range_more 0 n ∙ ap (λ k. places_below n ++ k ∷ []) last

-- the pairs of one left place
abbrev pub pairs_at : List Key → List Key → ℕ → List (ℕ × ℕ)
pairs_at left right i = map (λ j. (i, j)) (partners (key_at left i) right)

module _ (left right : List Key) where
  filter_places : (places : List ℕ)
      → filter (λ p. may_agree (key_at left p.0) (key_at right p.1)) (flat_map (λ i. map (λ j. (i, j)) (places_below (length right))) places) ≡ flat_map (pairs_at left right) places
  filter_places [] = refl
  filter_places (i ∷ places) =
      filter-append (λ p. may_agree (key_at left p.0) (key_at right p.1)) (map (λ j. (i, j)) (places_below (length right))) (flat_map (λ i. map (λ j. (i, j)) (places_below (length right))) places)
      ∙ (λ t. filter_of_map (λ (p : ℕ × ℕ). may_agree (key_at left p.0) (key_at right p.1)) (λ j. (i, j)) (places_below (length right)) t ++ filter_places places t)

  pub candidates_are : candidates left right ≡ flat_map (pairs_at left right) (places_below (length left))
  candidates_are = filter_places (places_below (length left))

  -- one more place
  pub one_more : (n : ℕ) → flat_map (pairs_at left right) (places_below (n + 1)) ≡ flat_map (pairs_at left right) (places_below n) ++ pairs_at left right n
  one_more n =
      ap (flat_map (pairs_at left right)) (places_more n) ∙ flat_map-append (pairs_at left right) (places_below n) (n ∷ [])
      ∙ ap (λ l. flat_map (pairs_at left right) (places_below n) ++ l) (append-nil (pairs_at left right n))

-- a null may be of one value with every key
pub all_pass : (places : List ℕ) → filter (λ j. true) places ≡ places
all_pass [] = refl
all_pass (p ∷ places) = ap (λ l. p ∷ l) (all_pass places)

-- the pairs of one more left place
pub pairs_more : (left right : List Key) (n : ℕ) (k : Key) (found : List ℕ) (out more : List (ℕ × ℕ)) → n < length left → k ≡ get_or left n k → found ≡ partners k right
    → more ≡ out ++ map (λ j. (n, j)) found → out ≡ flat_map (pairs_at left right) (places_below n) → more ≡ flat_map (pairs_at left right) (places_below (n + 1))
pairs_more left right n k found out more lt is partners_are after before =
    after ∙ (λ t. before t ++ map (λ j. (n, j)) (partners_are t)) ∙ ap (λ x. flat_map (pairs_at left right) (places_below n) ++ map (λ j. (n, j)) (partners x right)) (is ∙ get_or_default left n k key.Null lt)
    ∙ sym (one_more left right n)

pub pairs_done : (left right : List Key) (n : ℕ) (out : List (ℕ × ℕ)) → n ≡ length left → out ≡ flat_map (pairs_at left right) (places_below n) → out ≡ candidates left right
pairs_done left right n out is e = e ∙ ap (λ m. flat_map (pairs_at left right) (places_below m)) is ∙ sym (candidates_are left right)

-- one more place, where all places are taken
pub place_added : (was now more : List ℕ) (n : ℕ) → now ≡ was ++ places_below n → more ≡ now ++ n ∷ [] → more ≡ was ++ places_below (n + 1)
place_added was now more n before after =
    after ∙ ap (λ l. l ++ n ∷ []) before ∙ append_assoc was (places_below n) (n ∷ []) ∙ ap (λ l. was ++ l) (sym (places_more n))

pub places_whole : (keys : List Key) (was now : List ℕ) (n : ℕ) → n ≡ length keys → now ≡ was ++ places_below n → now ≡ was ++ partners key.Null keys
places_whole keys was now n is e = e ∙ ap (λ m. was ++ places_below m) is ∙ ap (λ l. was ++ l) (sym (all_pass (places_below (length keys))))
