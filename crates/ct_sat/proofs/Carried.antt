-- A translation of the literals of some variables that keeps sameness and opposites keeps each answer of reverse unit propagation.
use Rattle.std.proofs.Common.{◌≡◌, ℕ, zero, suc, Bool, true, false, ◌&&◌, ◌||◌, List, [], ◌∷◌, ◌++◌, map, Option, Some, None, nat_lt, refl, ap, ◌∙◌, sym, arith, ℤ, neg_ℤ}
use Rattle.std.{specs.Prelude.{slice_get, option_map}, specs.List.list_all, specs.Ordering.int_eq, proofs.lemmas.List.{map-append, length-map}}
use Rattle.std.{proofs.lemmas.List.Folds.list_all-append, proofs.lemmas.Option.slice_get-map, proofs.lemmas.Bool.{and_parts, and_from, cond_both}}
use Rattle.ct_derivation.specs.Propagation.{Literals, Look, Unfit, Falsified, Forces, is_among, by_rest, look, look_at, meets, are_hints, follows}
use Rattle.ct_trail.{specs.Literal.{Clause, numbered, is_literal, is_clause}, proofs.Literals.opposite_literal}

-- the translation keeps sameness and opposites of the literals of the variables to `vars`; at 0 it can't, which is its own opposite
pub record CarriesLiterals (vars : ℕ) (to : Literals) (f : ℤ → to.literal) : Type 0 where
  pub same : (a b : ℤ) → is_literal vars a ≡ true → is_literal vars b ≡ true → to.same (f a) (f b) ≡ int_eq a b
  pub opposite : (a : ℤ) → is_literal vars a ≡ true → to.opposite (f a) ≡ f (neg_ℤ a)

module _ (vars : ℕ) (to : Literals) (f : ℤ → to.literal) (c : CarriesLiterals vars to f) where
  abbrev IsWithin : Clause → Type 0
  IsWithin ls = list_all (is_literal vars) ls ≡ true

  abbrev IsRestWithin : Option ℤ → Type 0
  IsRestWithin None = Unit {0}
  IsRestWithin (Some l) = is_literal vars l ≡ true

  abbrev IsLookWithin : Look ℤ → Type 0
  IsLookWithin (Forces l) = is_literal vars l ≡ true
  IsLookWithin _ = Unit {0}

  abbrev IsClauseWithin : Option Clause → Type 0
  IsClauseWithin None = Unit {0}
  IsClauseWithin (Some ls) = IsWithin ls

  abbrev carried : Look ℤ → Look to.literal
  carried Unfit = Unfit
  carried Falsified = Falsified
  carried (Forces l) = Forces (f l)

  among_carried : (ls : Clause) (l : ℤ) → IsWithin ls → is_literal vars l ≡ true → is_among to (map f ls) (f l) ≡ is_among numbered ls l
  among_carried [] l w v = refl
  among_carried (m ∷ ls) l w v =
      let parts = and_parts (is_literal vars m) (list_all (is_literal vars) ls) w in
      ap (λ b. b || is_among to (map f ls) (f l)) (c.same l m v parts.0) ∙ ap (λ b. int_eq l m || b) (among_carried ls l parts.1 v)

  opposite_carried : (ls : Clause) (l : ℤ) → IsWithin ls → is_literal vars l ≡ true → is_among to (map f ls) (to.opposite (f l)) ≡ is_among numbered ls (neg_ℤ l)
  opposite_carried ls l w v = ap (is_among to (map f ls)) (c.opposite l v) ∙ among_carried ls (neg_ℤ l) w (opposite_literal vars l v)

  rest_carried : (o : Option ℤ) → by_rest (option_map f o) ≡ carried (by_rest o)
  rest_carried None = refl
  rest_carried (Some l) = refl

  look_carried : (falses : Clause) (rest : Option ℤ) (ls : Clause) → IsWithin falses → IsRestWithin rest → IsWithin ls → look to (map f falses) (option_map f rest) (map f ls) ≡ carried (look numbered falses rest ls)
  look_carried falses rest [] w r v = rest_carried rest
  look_carried falses None (l ∷ ls) w r v =
      let parts = and_parts (is_literal vars l) (list_all (is_literal vars) ls) v in
      grind (arith, among_carried falses l w parts.0, opposite_carried falses l w parts.0, look_carried falses None ls w r parts.1, look_carried falses (Some l) ls w parts.0 parts.1)
  look_carried falses (Some m) (l ∷ ls) w r v =
      let parts = and_parts (is_literal vars l) (list_all (is_literal vars) ls) v in
      grind (arith, among_carried falses l w parts.0, opposite_carried falses l w parts.0, c.same m l r parts.0, look_carried falses (Some m) ls w r parts.1)

  rest_within : (o : Option ℤ) → IsRestWithin o → IsLookWithin (by_rest o)
  rest_within None r = tt
  rest_within (Some l) r = r

  look_within : (falses : Clause) (rest : Option ℤ) (ls : Clause) → IsRestWithin rest → IsWithin ls → IsLookWithin (look numbered falses rest ls)
  look_within falses rest [] r v = rest_within rest r
  look_within falses None (l ∷ ls) r v =
      let parts = and_parts (is_literal vars l) (list_all (is_literal vars) ls) v in
      cond_both (is_among numbered falses l) _ _ IsLookWithin (λ _. look_within falses None ls r parts.1)
      (λ _. cond_both (is_among numbered falses (neg_ℤ l)) Unfit _ IsLookWithin (λ _. tt) (λ _. look_within falses (Some l) ls parts.0 parts.1))
  look_within falses (Some m) (l ∷ ls) r v =
      let parts = and_parts (is_literal vars l) (list_all (is_literal vars) ls) v in
      cond_both (is_among numbered falses l) _ _ IsLookWithin (λ _. look_within falses (Some m) ls r parts.1)
      (λ _. cond_both (is_among numbered falses (neg_ℤ l)) Unfit _ IsLookWithin (λ _. tt)
      (λ _. cond_both (int_eq m l) _ Unfit IsLookWithin (λ _. look_within falses (Some m) ls r parts.1) (λ _. tt)))

  at_carried : (falses : Clause) (o : Option Clause) → IsWithin falses → IsClauseWithin o → look_at to (map f falses) (option_map (map f) o) ≡ carried (look_at numbered falses o)
  at_carried falses None w v = refl
  at_carried falses (Some ls) w v = look_carried falses None ls w tt v

  at_within : (falses : Clause) (o : Option Clause) → IsClauseWithin o → IsLookWithin (look_at numbered falses o)
  at_within falses None v = tt
  at_within falses (Some ls) v = look_within falses None ls tt v

  log_within : (log : List Clause) (k : ℕ) → list_all (is_clause vars) log ≡ true → IsClauseWithin (slice_get log k)
  unfolding is_clause
  log_within [] k e = tt
  log_within (ls ∷ log) zero e = (and_parts (is_clause vars ls) (list_all (is_clause vars) log) e).0
  log_within (ls ∷ log) (suc k) e = log_within log k (and_parts (is_clause vars ls) (list_all (is_clause vars) log) e).1

  abbrev after_to : List Clause → Clause → List ℕ → Look to.literal → Bool
  after_to log falses hs k = elim k [ Unfit ↦ false | Falsified ↦ true | Forces l ↦ meets to (map (map f) log) (map f falses ++ to.opposite l ∷ []) hs ]

  abbrev after_numbered : List Clause → Clause → List ℕ → Look ℤ → Bool
  after_numbered log falses hs k = elim k [ Unfit ↦ false | Falsified ↦ true | Forces l ↦ meets numbered log (falses ++ neg_ℤ l ∷ []) hs ]

  on_look : (log : List Clause) (falses : Clause) (hs : List ℕ)
      → ((l : ℤ) → is_literal vars l ≡ true → meets to (map (map f) log) (map f falses ++ to.opposite (f l) ∷ []) hs ≡ meets numbered log (falses ++ neg_ℤ l ∷ []) hs)
      → (k : Look ℤ) → IsLookWithin k → after_to log falses hs (carried k) ≡ after_numbered log falses hs k
  on_look log falses hs next Unfit w = refl
  on_look log falses hs next Falsified w = refl
  on_look log falses hs next (Forces l) w = next l w

  meets_carried : (log : List Clause) (falses : Clause) (hs : List ℕ) → list_all (is_clause vars) log ≡ true → IsWithin falses → meets to (map (map f) log) (map f falses) hs ≡ meets numbered log falses hs
  meets_carried log falses [] e w = refl
  meets_carried log falses (h ∷ hs) e w =
      ap (after_to log falses hs) (ap (look_at to (map f falses)) (slice_get-map (map f) log h) ∙ at_carried falses (slice_get log h) w (log_within log h e))
      ∙ on_look log falses hs
      (λ l v. ap (λ x. meets to (map (map f) log) (map f falses ++ x ∷ []) hs) (c.opposite l v)
      ∙ ap (λ xs. meets to (map (map f) log) xs hs) (sym (map-append f falses (neg_ℤ l ∷ [])))
      ∙ meets_carried log (falses ++ neg_ℤ l ∷ []) hs e
      (list_all-append (is_literal vars) falses (neg_ℤ l ∷ []) ∙ and_from _ _ w (and_from _ true (opposite_literal vars l v) refl)))
      (look_at numbered falses (slice_get log h)) (at_within falses (slice_get log h) (log_within log h e))

  hints_carried : (log : List Clause) (hs : List ℕ) → are_hints (map (map f) log) hs ≡ are_hints log hs
  hints_carried log hs = ap (λ n. list_all (λ h. nat_lt h n) hs) (length-map log (map f))

  pub follows_carried : (log : List Clause) (ls : Clause) (hs : List ℕ) → list_all (is_clause vars) log ≡ true → is_clause vars ls ≡ true → follows to (map (map f) log) (map f ls) hs ≡ follows numbered log ls hs
  unfolding is_clause
  follows_carried log ls hs e w =
      ap (λ b. b && meets to (map (map f) log) (map f ls) hs) (hints_carried log hs) ∙ ap (λ b. are_hints log hs && b) (meets_carried log ls hs e w)
