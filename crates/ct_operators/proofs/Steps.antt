-- How many words the conditions below one take, each once.
use Rattle.std.proofs.Common.{◌≡◌, ℕ, zero, suc, ◌+◌, ◌<◌, true, false, ◌||◌, List, [], ◌∷◌, ◌++◌, length, get_or, nat_eq, refl, ap, sym, subst, arith, inl, inr}
use Rattle.std.{specs.Prelude.{IsTrue, Contains, ◌⊎◌}, specs.List.{list_any, IsDistinct, AllByRecursion}, specs.Cmp.nat_eq_equiv}
use Rattle.std.proofs.lemmas.Bool.{or_left, or_right, or_cases, eq-eqb, eqb-true, false≢true, cases_Bool}
use Rattle.std.{proofs.lemmas.Map.Made.length-le_from_is_member, proofs.lemmas.List.length-append, proofs.lemmas.List.Elements.{Contains-append_left, Contains-append_right, Contains-append_cases}}
use Rattle.ct_word.{specs.WellFormed.{IsWellFormed, is_place_of}, specs.Stands.Below, specs.Condition.Condition, specs.Reading.condition_at, specs.Connective.joined}
use Rattle.ct_word.{specs.declared.connectives.Connective.Connective, proofs.Items.{first_item, later_item, item_cases, no_item}}
use Rattle.ct_query.specs.Bounds.{ops}
use Rattle.ct_worlds.specs.declared.shape.Shape.{Shape}
use Rattle.ct_worlds.{specs.Shape.{shape_at, parts_of, parts_at, IsShaped}, specs.Below.AreBelow, specs.Truths.AreRising}
use Rattle.ct_worlds.{proofs.Shaped.{shaped, part_earlier, IsClosed, conditions_below}, proofs.Listed.{parts_first, root_listed}}
use Rattle.ct_operators.{specs.Placing.{step_of, steps, ArePartsOf}}
use Rattle.ct_word.specs.declared.kinds.Class.TheVariants as class
use Rattle.ct_word.specs.declared.connectives.Connective.TheVariants as connective
use Rattle.ct_worlds.specs.declared.shape.Shape.TheVariants as shape

-- the equalities, NOTs and connectives of two conditions joined
pub ops_joined : (j : Connective) (c d : Condition) → ops (joined j c d) ≡ ops c + ops d + 1
ops_joined connective.And c d = omega arith
ops_joined connective.Or c d = omega arith

-- a literal has no parts
no_parts : (s : Shape) (q : ℕ) → step_of s ≡ 0 → Contains (parts_of s) q → ⊥
no_parts (shape.Literal b) q e h = no_item q h
no_parts (shape.Equal a b) q e h = no_item q h
no_parts (shape.Not p) q e h = omega (arith, e)
no_parts (shape.Joined j a b) q e h = omega (arith, e)

-- a condition is a literal, or one of these
abbrev IsListed : List ℕ → List ℕ → ℕ → Type 0
IsListed words xs q = (step_of (shape_at words q) ≡ 0) ⊎ Contains xs q

listed_wider : (words xs ys : List ℕ) (q : ℕ) → (Contains xs q → Contains ys q) → IsListed words xs q → IsListed words ys q
listed_wider words xs ys q wider (inl e) = inl e
listed_wider words xs ys q wider (inr h) = inr (wider h)

module _ (words : List ℕ) where
  -- a place that is no literal's, before those below its parts
  abbrev flat_by : (ℕ → List ℕ) → ℕ → Shape → List ℕ
  flat_by f p (shape.Literal b) = []
  flat_by f p (shape.Equal s t) = p ∷ []
  flat_by f p (shape.Not c) = p ∷ f c
  flat_by f p (shape.Joined j c d) = p ∷ (f c ++ f d)

  -- the conditions below a place that are no literals, once for each way that leads there
  flat : ℕ → ℕ → List ℕ
  flat zero p = []
  flat (suc n) p = flat_by (flat n) p (shape_at words p)

  module _ (formed : IsWellFormed words) where
    -- they are as many as the condition has operations
    flat_long : (n p : ℕ) → p < n → IsTrue (is_place_of words class.Cond p) → length (flat n p) ≡ ops (condition_at words p)
    unfolding flat
    flat_long zero p lt e = absurd (omega (arith, lt))
    flat_long (suc n) p lt e = by (shape_at words p) (shaped words p formed e) (λ q under placed. flat_long n q under placed) where
      by : (s : Shape) → IsShaped words p s → ((q : ℕ) → q < n → IsTrue (is_place_of words class.Cond q) → length (flat n q) ≡ ops (condition_at words q))
          → length (flat_by (flat n) p s) ≡ ops (condition_at words p)
      by (shape.Literal true) is each = sym (ap ops is.condition)
      by (shape.Literal false) is each = sym (ap ops is.condition)
      by (shape.Equal s t) is each = sym (ap ops is.condition)
      by (shape.Not c) is each =
          let part = is.parts.0 in
          let one = each c (omega (arith, lt, part.below)) part.placed in
          omega (arith, one, ap ops is.condition)
      by (shape.Joined j c d) is each =
          let left = is.parts.0 in
          let right = is.parts.1.0 in
          let one = each c (omega (arith, lt, left.below)) left.placed in
          let other = each d (omega (arith, lt, right.below)) right.placed in
          omega (arith, one, other, length-append (flat n c) (flat n d), ap ops is.condition, ops_joined j (condition_at words c) (condition_at words d))

    -- the place itself is one of them
    own : (n p : ℕ) → p < n → IsListed words (flat n p) p
    unfolding flat
    own zero p lt = absurd (omega (arith, lt))
    own (suc n) p lt = by (shape_at words p) where
      by : (s : Shape) → (step_of s ≡ 0) ⊎ Contains (flat_by (flat n) p s) p
      by (shape.Literal b) = inl refl
      by (shape.Equal s t) = inr (first_item [] p)
      by (shape.Not c) = inr (first_item (flat n c) p)
      by (shape.Joined j c d) = inr (first_item (flat n c ++ flat n d) p)

    -- and so are the parts of each
    parts_flat : (n p q r : ℕ) → p < n → IsTrue (is_place_of words class.Cond p) → Contains (flat n p) q → Contains (parts_at words q) r → IsListed words (flat n p) r
    unfolding flat
    parts_flat zero p q r lt e h part = absurd (omega (arith, lt))
    parts_flat (suc n) p q r lt e h part = by (λ c under placed x. parts_flat n c q r under placed x part) (shape_at words p) refl (shaped words p formed e) h where
      by : ((c : ℕ) → c < n → IsTrue (is_place_of words class.Cond c) → Contains (flat n c) q → IsListed words (flat n c) r) → (s : Shape) → shape_at words p ≡ s → IsShaped words p s
          → Contains (flat_by (flat n) p s) q → IsListed words (flat_by (flat n) p s) r
      by each (shape.Literal b) at is h = absurd (no_item q h)
      by each (shape.Equal s t) at is h = elim (item_cases [] p q h) [
        | inl same ↦ absurd (no_item r (subst (λ x. Contains (parts_of x) r) at (subst (λ x. Contains (parts_at words x) r) (sym same) part)))
        | inr later ↦ absurd (no_item q later)
      ]
      by each (shape.Not c) at is h = elim (item_cases (flat n c) p q h) [
        | inl same ↦
            elim (item_cases [] c r (subst (λ x. Contains (parts_of x) r) at (subst (λ x. Contains (parts_at words x) r) (sym same) part))) [
              | inl is_c ↦ listed_wider words (flat n c) (p ∷ flat n c) r (later_item (flat n c) p r) (subst (IsListed words (flat n c)) is_c (own n c (omega (arith, lt, is.parts.0.below))))
              | inr none ↦ absurd (no_item r none)
            ]
        | inr later ↦
            listed_wider words (flat n c) (p ∷ flat n c) r (later_item (flat n c) p r) (each c (omega (arith, lt, is.parts.0.below)) is.parts.0.placed later)
      ]
      by each (shape.Joined j c d) at is h =
          let left = is.parts.0 in
          let right = is.parts.1.0 in
          let under_c : c < n = omega (arith, lt, left.below) in
          let under_d : d < n = omega (arith, lt, right.below) in
          let all = flat n c ++ flat n d in
          let of_c : IsListed words (flat n c) r → IsListed words (p ∷ all) r = listed_wider words (flat n c) (p ∷ all) r (λ x. later_item all p r (Contains-append_left (flat n c) (flat n d) r x)) in
          let of_d : IsListed words (flat n d) r → IsListed words (p ∷ all) r = listed_wider words (flat n d) (p ∷ all) r (λ x. later_item all p r (Contains-append_right (flat n c) (flat n d) r x)) in
          elim (item_cases all p q h) [
            | inl same ↦
                elim (item_cases (d ∷ []) c r (subst (λ x. Contains (parts_of x) r) at (subst (λ x. Contains (parts_at words x) r) (sym same) part))) [
                  | inl is_c ↦ of_c (subst (IsListed words (flat n c)) is_c (own n c under_c))
                  | inr rest ↦ elim (item_cases [] d r rest) [ inl is_d ↦ of_d (subst (IsListed words (flat n d)) is_d (own n d under_d)) | inr none ↦ absurd (no_item r none) ]
                ]
            | inr later ↦ elim (Contains-append_cases (flat n c) (flat n d) q later) [
              | inl x ↦ of_c (each c under_c left.placed x)
              | inr x ↦ of_d (each d under_d right.placed x)
            ]
          ]

    -- each condition below a place is a literal or one of them
    below_flat : (p r : ℕ) → IsTrue (is_place_of words class.Cond p) → Below words p r → IsTrue (is_place_of words class.Cond r) → IsListed words (flat (suc p) p) r
    below_flat p r e b placed = (conditions_below words seen formed closed p r b (e, own (suc p) p (omega arith)) placed).1 where
      seen : ℕ → Type 0
      seen q = IsTrue (is_place_of words class.Cond q) × IsListed words (flat (suc p) p) q

      closed : IsClosed words seen
      closed = record {
        are = λ q h. h.0;
        parts = λ q t h part. (
          (part_earlier words q t formed h.0 part).placed,
          elim h.1 [ inl literal ↦ absurd (no_parts (shape_at words q) t literal part) | inr x ↦ parts_flat (suc p) p q t (omega arith) e x part ],
        );
      }

  -- those of some places that are no literals
  abbrev kept : Shape → ℕ → List ℕ → List ℕ
  kept (shape.Literal b) p xs = xs
  kept _ p xs = p ∷ xs

  big : List ℕ → List ℕ
  big [] = []
  big (p ∷ ps) = kept (shape_at words p) p (big ps)

  big_long : (ps : List ℕ) → length (big ps) ≡ steps words ps
  unfolding big steps
  big_long [] = refl
  big_long (p ∷ ps) = by (shape_at words p) (big_long ps) where
    by : (s : Shape) → length (big ps) ≡ steps words ps → length (kept s p (big ps)) ≡ step_of s + steps words ps
    by (shape.Literal b) rest = omega (arith, rest)
    by (shape.Equal a b) rest = omega (arith, rest)
    by (shape.Not a) rest = omega (arith, rest)
    by (shape.Joined j a b) rest = omega (arith, rest)

  big_all : (P : ℕ → Type 0) (ps : List ℕ) → AllByRecursion P ps → AllByRecursion P (big ps)
  unfolding big
  big_all P [] all = tt
  big_all P (p ∷ ps) all = by (shape_at words p) (big_all P ps all.1) where
    by : (s : Shape) → AllByRecursion P (big ps) → AllByRecursion P (kept s p (big ps))
    by (shape.Literal b) rest = rest
    by (shape.Equal a b) rest = (all.0, rest)
    by (shape.Not a) rest = (all.0, rest)
    by (shape.Joined j a b) rest = (all.0, rest)

  none_first : (p : ℕ) (xs : List ℕ) → ((i : ℕ) → i < length xs → p < get_or xs i 0) → AllByRecursion (λ y. nat_eq p y ≡ false) xs
  none_first p [] up = tt
  none_first p (x ∷ xs) up = (
    elim (cases_Bool (nat_eq p x)) [ inl same ↦ let lt = up 0 (omega arith) in absurd (omega (arith, lt, eqb-true p x same)) | inr ne ↦ ne ],
    none_first p xs (λ i lt. up (suc i) (omega (arith, lt))),
  )

  big_distinct : (ps : List ℕ) → AreRising ps → IsDistinct nat_eq (big ps)
  unfolding IsDistinct big
  big_distinct [] up = tt
  big_distinct (p ∷ ps) up = by (big_distinct ps (λ i j d lt within. up (suc i) (suc j) d (omega (arith, lt)) (omega (arith, within)))) (shape_at words p) where
    apart : AllByRecursion (λ y. nat_eq p y ≡ false) (big ps)
    apart = big_all (λ y. nat_eq p y ≡ false) ps (none_first p ps (λ i lt. up 0 (suc i) 0 (omega arith) (omega (arith, lt))))

    by : IsDistinct nat_eq (big ps) → (s : Shape) → IsDistinct nat_eq (kept s p (big ps))
    by rest (shape.Literal b) = rest
    by rest (shape.Equal a b) = (apart, rest)
    by rest (shape.Not a) = (apart, rest)
    by rest (shape.Joined j a b) = (apart, rest)

  any_of : (ks : List ℕ) (q : ℕ) → Contains ks q → list_any (nat_eq q) ks ≡ true
  any_of [] q h = absurd (no_item q h)
  any_of (k ∷ ks) q h = elim (item_cases ks k q h) [
    | inl e ↦ or_left _ _ (eq-eqb q k (sym e))
    | inr later ↦ or_right _ _ (any_of ks q later)
  ]

  big_among : (ps xs : List ℕ) → ((p : ℕ) → Contains ps p → IsListed words xs p) → (q : ℕ) → list_any (nat_eq q) (big ps) ≡ true → list_any (nat_eq q) xs ≡ true
  unfolding big
  big_among [] xs all q e = absurd (false≢true e)
  big_among (p ∷ ps) xs all q e = by (big_among ps xs (λ r h. all r (later_item ps p r h)) q) (shape_at words p) (all p (first_item ps p)) e where
    among : (list_any (nat_eq q) (big ps) ≡ true → list_any (nat_eq q) xs ≡ true) → (s : Shape) → step_of s ≡ 1 → (step_of s ≡ 0) ⊎ Contains xs p
        → (nat_eq q p || list_any (nat_eq q) (big ps)) ≡ true → list_any (nat_eq q) xs ≡ true
    among rest s one (inl none) e = absurd (omega (arith, one, none))
    among rest s one (inr h) e = elim (or_cases (nat_eq q p) (list_any (nat_eq q) (big ps)) e) [
      | inl here ↦ any_of xs q (subst (Contains xs) (sym (eqb-true q p here)) h)
      | inr later ↦ rest later
    ]

    by : (list_any (nat_eq q) (big ps) ≡ true → list_any (nat_eq q) xs ≡ true) → (s : Shape) → (step_of s ≡ 0) ⊎ Contains xs p → list_any (nat_eq q) (kept s p (big ps)) ≡ true
        → list_any (nat_eq q) xs ≡ true
    by rest (shape.Literal b) h e = rest e
    by rest (shape.Equal a b) h e = among rest (shape.Equal a b) refl h e
    by rest (shape.Not a) h e = among rest (shape.Not a) refl h e
    by rest (shape.Joined j a b) h e = among rest (shape.Joined j a b) refl h e

  -- the conditions below one, each once, take no more words than it has operations
  pub parts_below : (cond : ℕ) (places : List ℕ) → IsWellFormed words → IsTrue (is_place_of words class.Cond cond) → AreBelow words (cond ∷ []) places → ArePartsOf words cond places
  parts_below cond places formed e are = record {
    first = parts_first words (cond ∷ []) places formed are;
    among = root_listed words (cond ∷ []) places are cond (first_item [] cond) e;
    short =
        let few = length-le_from_is_member nat_eq_equiv (big places) (flat (suc cond) cond) (big_distinct places are.rising)
        (big_among places (flat (suc cond) cond) (λ p h.
        let r = are.each p h in
        below_flat formed cond p e (subst (λ x. Below words x p) (sym (elim (item_cases [] cond r.root r.among) [ inl same ↦ same | inr none ↦ absurd (no_item r.root none) ])) r.below) r.condition)) in
        omega (arith, few, big_long places, flat_long formed (suc cond) cond (omega arith) e);
  }
