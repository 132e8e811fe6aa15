-- Where the hints meet a falsified clause, some literal of the clause is true: over any kind of literals.
use Rattle.std.proofs.Common.{◌≡◌, ℕ, Bool, true, false, not, ◌||◌, List, [], ◌∷◌, ◌++◌, Option, Some, None, refl, ap, ◌∙◌, sym, inl, inr}
use Rattle.std.{specs.Prelude.slice_get, specs.List.list_any, proofs.lemmas.List.Folds.list_any-append}
use Rattle.std.proofs.lemmas.Bool.{or_cases, or_from, or_parts, and_parts, false≢true, both_ways, cases_Bool, cond_both, not_from_true}
use Rattle.ct_derivation.specs.Propagation.{Literals, Look, Unfit, Falsified, Forces, is_among, by_rest, look, look_at, meets, are_hints, follows}

-- an assignment of truths to literals
pub record IsAssignment (k : Literals) (t : k.literal → Bool) : Type 0 where
  pub same : (l m : k.literal) → k.same l m ≡ true → t l ≡ t m
  pub opposite : (l : k.literal) → t (k.opposite l) ≡ not (t l)

module _ (k : Literals) (t : k.literal → Bool) (a : IsAssignment k t) where
  abbrev pub holds : List k.literal → Bool
  holds ls = list_any t ls

  -- each of these literals is false
  abbrev AllFalse : List k.literal → Type 0
  AllFalse ls = (l : k.literal) → is_among k ls l ≡ true → t l ≡ false

  abbrev pub Holds : Option (List k.literal) → Type 0
  Holds None = Unit {0}
  Holds (Some ls) = holds ls ≡ true

  -- each clause of the log holds
  abbrev pub AllHold : List (List k.literal) → Type 0
  AllHold log = (n : ℕ) → Holds (slice_get log n)

  -- what a look tells of the clause, the literals of the list being false
  abbrev Told : Option k.literal → List k.literal → Look k.literal → Type 0
  Told rest ls Unfit = Unit {0}
  Told None ls Falsified = holds ls ≡ false
  Told (Some m) ls Falsified = ⊥
  Told None ls (Forces l) = holds ls ≡ true → t l ≡ true
  Told (Some m) ls (Forces l) = (m ≡ l) × (holds ls ≡ true → t l ≡ true)

  -- a false literal in front changes nothing
  skipped : (rest : Option k.literal) (l : k.literal) (ls : List k.literal) (o : Look k.literal) → t l ≡ false → Told rest ls o → Told rest (l ∷ ls) o
  skipped rest l ls Unfit f d = tt
  skipped None l ls Falsified f d = or_from _ _ f d
  skipped (Some m) l ls Falsified f d = d
  skipped None l ls (Forces n) f d = λ e. elim (or_cases (t l) (holds ls) e) [ inl y ↦ absurd (both_ways _ f y) | inr y ↦ d y ]
  skipped (Some m) l ls (Forces n) f d = (d.0, λ e. elim (or_cases (t l) (holds ls) e) [ inl y ↦ absurd (both_ways _ f y) | inr y ↦ d.1 y ])

  -- the first literal that is not false, in front
  opened : (l : k.literal) (ls : List k.literal) (o : Look k.literal) → Told (Some l) ls o → Told None (l ∷ ls) o
  opened l ls Unfit d = tt
  opened l ls Falsified d = absurd d
  opened l ls (Forces n) d = λ e. elim (or_cases (t l) (holds ls) e) [ inl y ↦ ap t (sym d.0) ∙ y | inr y ↦ d.1 y ]

  -- that literal once more
  again : (m l : k.literal) (ls : List k.literal) (o : Look k.literal) → t m ≡ t l → Told (Some m) ls o → Told (Some m) (l ∷ ls) o
  again m l ls Unfit s d = tt
  again m l ls Falsified s d = d
  again m l ls (Forces n) s d = (d.0, λ e. elim (or_cases (t l) (holds ls) e) [ inl y ↦ ap t (sym d.0) ∙ s ∙ y | inr y ↦ d.1 y ])

  by_rest_told : (rest : Option k.literal) → Told rest [] (by_rest rest)
  by_rest_told None = refl
  by_rest_told (Some m) = (refl, λ e. absurd (false≢true e))

  look_told : (falses : List k.literal) → AllFalse falses → (rest : Option k.literal) (ls : List k.literal) → Told rest ls (look k falses rest ls)
  look_told falses all rest [] = by_rest_told rest
  look_told falses all None (l ∷ ls) =
      cond_both (is_among k falses l) _ _ (Told None (l ∷ ls)) (λ h. skipped None l ls _ (all l h) (look_told falses all None ls))
      (λ _. cond_both (is_among k falses (k.opposite l)) _ _ (Told None (l ∷ ls)) (λ _. tt)
      (λ _. opened l ls _ (look_told falses all (Some l) ls)))
  look_told falses all (Some m) (l ∷ ls) =
      cond_both (is_among k falses l) _ _ (Told (Some m) (l ∷ ls)) (λ h. skipped (Some m) l ls _ (all l h) (look_told falses all (Some m) ls))
      (λ _. cond_both (is_among k falses (k.opposite l)) _ _ (Told (Some m) (l ∷ ls)) (λ _. tt)
      (λ _. cond_both (k.same m l) _ _ (Told (Some m) (l ∷ ls)) (λ s. again m l ls _ (a.same m l s) (look_told falses all (Some m) ls)) (λ _. tt)))

  -- a member of a false clause is false
  member_false : (ls : List k.literal) (l : k.literal) → holds ls ≡ false → is_among k ls l ≡ true → t l ≡ false
  member_false [] l e h = absurd (false≢true h)
  member_false (m ∷ ls) l e h =
      let parts = or_parts (t m) (holds ls) e in
      elim (or_cases (k.same l m) (is_among k ls l) h) [ inl s ↦ a.same l m s ∙ parts.0 | inr y ↦ member_false ls l parts.1 y ]

  more_false : (falses : List k.literal) (l : k.literal) → AllFalse falses → t l ≡ true → AllFalse (falses ++ k.opposite l ∷ [])
  more_false falses l all d m h =
      elim (or_cases (is_among k falses m) (k.same m (k.opposite l) || false) (sym (list_any-append (k.same m) falses (k.opposite l ∷ [])) ∙ h)) [
        | inl y ↦ all m y
        | inr y ↦ elim (or_cases (k.same m (k.opposite l)) false y) [ inl s ↦ a.same m (k.opposite l) s ∙ a.opposite l ∙ not_from_true _ d | inr f ↦ absurd (false≢true f) ]
      ]

  module _ (log : List (List k.literal)) (hold : AllHold log) where
    -- the rest of the hints, where a clause's last literal is taken as true
    abbrev after : List k.literal → List ℕ → k.literal → Bool
    after falses hs l = meets k log (falses ++ k.opposite l ∷ []) hs

    on_look : (falses : List k.literal) (hs : List ℕ) (c : List k.literal) → AllFalse falses → holds c ≡ true
        → ((l : k.literal) → AllFalse (falses ++ k.opposite l ∷ []) → after falses hs l ≡ true → ⊥)
        → (o : Look k.literal) → Told None c o → (elim o [ Unfit ↦ false | Falsified ↦ true | Forces l ↦ after falses hs l ]) ≡ true → ⊥
    on_look falses hs c all d rest Unfit told e = false≢true e
    on_look falses hs c all d rest Falsified told e = both_ways _ told d
    on_look falses hs c all d rest (Forces l) told e = rest l (more_false falses l all (told d)) e

    at_hint : (falses : List k.literal) (hs : List ℕ) → AllFalse falses
        → ((l : k.literal) → AllFalse (falses ++ k.opposite l ∷ []) → after falses hs l ≡ true → ⊥)
        → (o : Option (List k.literal)) → Holds o → (elim (look_at k falses o) [ Unfit ↦ false | Falsified ↦ true | Forces l ↦ after falses hs l ]) ≡ true → ⊥
    at_hint falses hs all rest None h e = false≢true e
    at_hint falses hs all rest (Some c) h e = on_look falses hs c all h rest (look k falses None c) (look_told falses all None c) e

    meets_none : (hs : List ℕ) (falses : List k.literal) → AllFalse falses → meets k log falses hs ≡ true → ⊥
    meets_none [] falses all e = false≢true e
    meets_none (h ∷ hs) falses all e =
        at_hint falses hs all (λ l more met. meets_none hs (falses ++ k.opposite l ∷ []) more met) (slice_get log h) (hold h) e

    -- a clause that follows by reverse unit propagation holds where the log does
    pub follows_holds : (ls : List k.literal) (hs : List ℕ) → follows k log ls hs ≡ true → holds ls ≡ true
    follows_holds ls hs e =
        elim (cases_Bool (holds ls)) [ inl y ↦ y | inr f ↦ absurd (meets_none hs ls (λ l h. member_false ls l f h) (and_parts (are_hints log hs) _ e).1) ]
