-- A translation of literals that keeps sameness and opposites keeps each answer of reverse unit propagation.
use Rattle.std.proofs.Common.{◌≡◌, ℕ, Bool, true, false, ◌&&◌, ◌||◌, List, [], ◌∷◌, ◌++◌, map, Option, Some, None, nat_lt, refl, ap, ◌∙◌, sym, if◌then◌else◌}
use Rattle.std.{specs.Prelude.{slice_get, option_map}, specs.List.list_all, proofs.lemmas.List.{map-append, length-map}, proofs.lemmas.Option.slice_get-map}
use Rattle.ct_derivation.specs.Propagation.{Literals, Look, Unfit, Falsified, Forces, is_among, by_rest, look, look_at, meets, are_hints, follows, Carries}

module _ (from to : Literals) (f : from.literal → to.literal) (c : Carries from to f) where
  abbrev carried : Look from.literal → Look to.literal
  carried Unfit = Unfit
  carried Falsified = Falsified
  carried (Forces l) = Forces (f l)

  among_carried : (ls : List from.literal) (l : from.literal) → is_among to (map f ls) (f l) ≡ is_among from ls l
  among_carried [] l = refl
  among_carried (m ∷ ls) l = ap (λ b. b || is_among to (map f ls) (f l)) (c.same l m) ∙ ap (λ b. from.same l m || b) (among_carried ls l)

  rest_carried : (o : Option from.literal) → by_rest (option_map f o) ≡ carried (by_rest o)
  rest_carried None = refl
  rest_carried (Some l) = refl

  branch : (a b : Bool) (x y z : Look from.literal) → carried (if a then x else (if b then y else z)) ≡ (if a then carried x else (if b then carried y else carried z))
  branch true b x y z = refl
  branch false true x y z = refl
  branch false false x y z = refl

  branch_one : (a : Bool) (x y : Look from.literal) → carried (if a then x else y) ≡ (if a then carried x else carried y)
  branch_one true x y = refl
  branch_one false x y = refl

  look_carried : (falses : List from.literal) (rest : Option from.literal) (ls : List from.literal) → look to (map f falses) (option_map f rest) (map f ls) ≡ carried (look from falses rest ls)
  look_carried falses rest [] = rest_carried rest
  look_carried falses None (l ∷ ls) =
      rw (c.opposite l, among_carried falses l, among_carried falses (from.opposite l), look_carried falses None ls, look_carried falses (Some l) ls)
      (sym (branch (is_among from falses l) (is_among from falses (from.opposite l)) (look from falses None ls) Unfit (look from falses (Some l) ls)))
  look_carried falses (Some m) (l ∷ ls) =
      rw (c.opposite l, among_carried falses l, among_carried falses (from.opposite l), look_carried falses (Some m) ls, c.same m l)
      (ap (λ z. if is_among from falses l then carried (look from falses (Some m) ls) else (if is_among from falses (from.opposite l) then Unfit else z)) (sym (branch_one (from.same m l) (look from falses (Some m) ls) Unfit))
      ∙ sym (branch (is_among from falses l) (is_among from falses (from.opposite l)) (look from falses (Some m) ls) Unfit (if from.same m l then look from falses (Some m) ls else Unfit)))

  at_carried : (falses : List from.literal) (o : Option (List from.literal)) → look_at to (map f falses) (option_map (map f) o) ≡ carried (look_at from falses o)
  at_carried falses None = refl
  at_carried falses (Some ls) = look_carried falses None ls

  abbrev after_to : List (List from.literal) → List from.literal → List ℕ → Look to.literal → Bool
  after_to log falses hs k = elim k [ Unfit ↦ false | Falsified ↦ true | Forces l ↦ meets to (map (map f) log) (map f falses ++ to.opposite l ∷ []) hs ]

  abbrev after_from : List (List from.literal) → List from.literal → List ℕ → Look from.literal → Bool
  after_from log falses hs k = elim k [ Unfit ↦ false | Falsified ↦ true | Forces l ↦ meets from log (falses ++ from.opposite l ∷ []) hs ]

  on_look : (log : List (List from.literal)) (falses : List from.literal) (hs : List ℕ)
      → ((l : from.literal) → meets to (map (map f) log) (map f falses ++ to.opposite (f l) ∷ []) hs ≡ meets from log (falses ++ from.opposite l ∷ []) hs)
      → (k : Look from.literal) → after_to log falses hs (carried k) ≡ after_from log falses hs k
  on_look log falses hs rest Unfit = refl
  on_look log falses hs rest Falsified = refl
  on_look log falses hs rest (Forces l) = rest l

  pub meets_carried : (log : List (List from.literal)) (falses : List from.literal) (hs : List ℕ) → meets to (map (map f) log) (map f falses) hs ≡ meets from log falses hs
  meets_carried log falses [] = refl
  meets_carried log falses (h ∷ hs) =
      ap (after_to log falses hs) (ap (look_at to (map f falses)) (slice_get-map (map f) log h) ∙ at_carried falses (slice_get log h))
      ∙ on_look log falses hs
      (λ l. ap (λ x. meets to (map (map f) log) (map f falses ++ x ∷ []) hs) (c.opposite l)
      ∙ ap (λ xs. meets to (map (map f) log) xs hs) (sym (map-append f falses (from.opposite l ∷ [])))
      ∙ meets_carried log (falses ++ from.opposite l ∷ []) hs)
      (look_at from falses (slice_get log h))

  pub follows_carried : (log : List (List from.literal)) (clause : List from.literal) (hs : List ℕ) → follows to (map (map f) log) (map f clause) hs ≡ follows from log clause hs
  follows_carried log clause hs =
      ap (λ n. list_all (λ h. nat_lt h n) hs && meets to (map (map f) log) (map f clause) hs) (length-map log (map f))
      ∙ ap (λ b. are_hints log hs && b) (meets_carried log clause hs)
