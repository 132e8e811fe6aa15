-- The truth of conditions by those of their parts.
use Rattle.std.proofs.Common.{◌≡◌, ℕ, zero, suc, ◌+◌, ◌<◌, ◌≤◌, Bool, true, false, cond, not, List, [], ◌∷◌, ◌++◌, length, take, get_or, nat_eq, nat_cmp, refl, ap, sym, subst, ◌∙◌, arith, inl, inr}
use Rattle.std.{specs.Prelude.{Contains, Result, Ok, Err, MatchResult}, specs.List.Sorted.IsBinarySearchResult, proofs.lemmas.Bool.{cases_lt, eq-eqb, eqb-true}, proofs.lemmas.List.Sorted.searched}
use Rattle.std.{proofs.lemmas.List.Elements.Contains-push_cases, proofs.lemmas.List.{take_more, get_or_default, get_or-take, get_or_push, get_or_append_left, length-take}}
use Rattle.ct_word.{specs.Value.World, specs.Condition.holds_at, specs.Reading.condition_at, specs.Connective.join, proofs.Joins.joined_holds, proofs.Items.{first_item, later_item}}
use Rattle.ct_worlds.{specs.declared.shape.Shape.Shape, specs.Shape.{IsShaped, literal, parts_of}, specs.Truths.{AreRising, HaveTruths, found, truth_by}}
use Rattle.ct_worlds.specs.declared.shape.Shape.TheVariants as shape

literal_holds : (v : World) (b : Bool) → b ≡ holds_at v (literal b)
literal_holds v true = refl
literal_holds v false = refl

-- a condition has the truth of its shape
pub truth_is : (words : List ℕ) (v : World) (place : ℕ) (truths : ℕ → Bool) (s : Shape) → IsShaped words place s → HaveTruths words v (parts_of s) truths
    → truth_by words v truths s ≡ holds_at v (condition_at words place)
truth_is words v place truths (shape.Literal b) is have = literal_holds v b ∙ ap (holds_at v) (sym is.condition)
truth_is words v place truths (shape.Equal s t) is have = ap (holds_at v) (sym is.condition)
truth_is words v place truths (shape.Not p) is have = ap not (have p (first_item [] p)) ∙ ap (holds_at v) (sym is.condition)
truth_is words v place truths (shape.Joined j p q) is have =
    (λ i. join j (have p (first_item (q ∷ []) p) i) (have q (later_item (q ∷ []) p q (first_item [] q)) i))
    ∙ sym (joined_holds j v [] (condition_at words p) (condition_at words q)) ∙ ap (holds_at v) (sym is.condition)

not_same : (a b : ℕ) → (a ≡ b → ⊥) → nat_eq a b ≡ false
not_same a b other = by (nat_eq a b) refl where
  by : (t : Bool) → nat_eq a b ≡ t → t ≡ false
  by true e = absurd (other (eqb-true a b e))
  by false e = refl

rest_rises : (p : ℕ) (ps : List ℕ) → AreRising (p ∷ ps) → AreRising ps
rest_rises p ps up i j d lt within = up (suc i) (suc j) d (omega (arith, lt)) (omega (arith, within))

-- the truth beside one of the places
pub found_at : (ps : List ℕ) (bs : List Bool) (i q : ℕ) → AreRising ps → i < length ps → get_or ps i 0 ≡ q → found ps bs q ≡ get_or bs i false
found_at [] bs i q up lt e = absurd (omega (arith, lt))
found_at (p ∷ ps) [] i q up lt e = refl
found_at (p ∷ ps) (b ∷ bs) zero q up lt e = ap (λ t. cond t b (found ps bs q)) (eq-eqb p q e)
found_at (p ∷ ps) (b ∷ bs) (suc i) q up lt e =
    ap (λ t. cond t b (found ps bs q)) (not_same p q (λ same. omega (arith, up 0 (suc i) 0 (omega arith) lt, e, same)))
    ∙ found_at ps bs i q (rest_rises p ps up) (omega (arith, lt)) e

-- no truth stands beside another place
found_none : (ps : List ℕ) (bs : List Bool) (q : ℕ) → ((i : ℕ) → i < length ps → get_or ps i 0 ≡ q → ⊥) → found ps bs q ≡ false
found_none [] bs q other = refl
found_none (p ∷ ps) [] q other = refl
found_none (p ∷ ps) (b ∷ bs) q other =
    ap (λ t. cond t b (found ps bs q)) (not_same p q (other 0 (omega arith))) ∙ found_none ps bs q (λ i lt. other (suc i) (omega (arith, lt)))

rises : (ps : List ℕ) → AreRising ps → (i j : ℕ) → i ≤ j → j < length ps → get_or ps i 0 ≤ get_or ps j 0
rises ps up i j le lt = elim (cases_lt i j) [ inl less ↦ omega (arith, up i j 0 less lt) | inr not_less ↦ let same : i ≡ j = omega (arith, le, not_less) in omega (arith, ap (λ k. get_or ps k 0) same) ]

-- a search finds the truth of a place
pub found_by : (ps : List ℕ) (bs : List Bool) (q : ℕ) (r : Result ℕ ℕ) → AreRising ps → IsBinarySearchResult (λ y. nat_cmp y q) ps r
    → MatchResult r (λ i. get_or bs i false ≡ found ps bs q) (λ i. false ≡ found ps bs q)
found_by ps bs q (Ok i) up b = let s = searched ps q (Ok i) b (rises ps up) in sym (found_at ps bs i q up s.0 s.1)
found_by ps bs q (Err i) up b =
    let s = searched ps q (Err i) b (rises ps up) in
    sym (found_none ps bs q (λ k lt e. elim (cases_lt k i) [ inl left ↦ omega (arith, s.1 k left, e) | inr right ↦ omega (arith, s.2 k right lt, e) ]))

-- one more truth is kept
pub truths_more : (words : List ℕ) (v : World) (places ps : List ℕ) (i : ℕ) (known more : List Bool) (b : Bool) → AreRising places → ps ≡ places → i < length places → length known ≡ i
    → b ≡ holds_at v (condition_at words (get_or places i 0)) → more ≡ known ++ b ∷ [] → HaveTruths words v (take i places) (found ps known) → HaveTruths words v (take (i + 1) places) (found ps more)
truths_more words v places ps i known more b up same_places lt long is pushed so_far p h =
    (λ j. found (same_places j) (pushed j) p)
    ∙ elim (Contains-push_cases (take i places) (get_or places i 0) p (subst (λ l. Contains l p) (take_more places i 0 lt) h)) [
      | inl before ↦
          let j = before.0 in
          let under : j < i = omega (arith, before.1, length-take i places) in
          let within : j < length places = omega (arith, under, lt) in
          let at : get_or places j 0 ≡ p = get_or_default places j 0 p within ∙ sym (get_or-take i places j p under) ∙ before.2 in
          found_at places (known ++ b ∷ []) j p up within at ∙ get_or_append_left known (b ∷ []) false j (omega (arith, under, long)) ∙ sym (found_at places known j p up within at)
          ∙ ap (λ l. found l known p) (sym same_places) ∙ so_far p before
      | inr same ↦
          found_at places (known ++ b ∷ []) i p up lt same ∙ get_or_push known b false i (omega (arith, long)) ∙ is ∙ ap (λ x. holds_at v (condition_at words x)) same
    ]
