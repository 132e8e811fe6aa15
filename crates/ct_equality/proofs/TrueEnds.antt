-- The ends of the true equalities, each with the other one.
use Rattle.std.proofs.Common.{◌≡◌, ◌<◌, ◌+◌, ℕ, Bool, true, List, [], ◌∷◌, ◌++◌, length, get_or, Some, nat_lt, refl, ap, sym, ◌∙◌, subst, inl, inr, ◌⊎◌, arith, length-append}
use Rattle.std.{specs.Prelude.slice_get, proofs.lemmas.List.{get_or_append_left, get_or_push}, proofs.lemmas.Bool.{cases_eq, cases_lt, cases_Bool}}
use Rattle.ct_derivation.{specs.declared.literals.Atom.Atom, specs.Path.pair_of}
use Rattle.ct_equality.{specs.Assigned.{IsLink, Gives, are_ordered}, specs.Ends.{StandsAsEnd, AreEnds}, proofs.Steps.{ordered_at, pair_below}, proofs.Joins.link_back}
use Rattle.ct_derivation.specs.declared.literals.Atom.TheVariants as atom

pub no_ends : (atoms : List Atom) (truth : List Bool) → AreEnds atoms truth 0 [] []
no_ends atoms truth = record { count = refl; links = λ i lt. absurd (omega (arith, lt)); all = λ k p t lt e f. absurd (omega (arith, lt)) }

-- one more end
module _ (keys others : List ℕ) (count : length others ≡ length keys) (x y : ℕ) where
  abbrev ks : List ℕ
  ks = keys ++ x ∷ []

  abbrev os : List ℕ
  os = others ++ y ∷ []

  key_kept : (i : ℕ) → i < length keys → get_or ks i 0 ≡ get_or keys i 0
  key_kept i lt = get_or_append_left keys (x ∷ []) 0 i lt

  other_kept : (i : ℕ) → i < length keys → get_or os i 0 ≡ get_or others i 0
  other_kept i lt = get_or_append_left others (y ∷ []) 0 i (omega (arith, count, lt))

  longer_keys : length ks ≡ length keys + 1
  longer_keys = let l = length-append keys (x ∷ []) in omega (arith, l)

  pub count_more : length os ≡ length ks
  count_more = let l = length-append others (y ∷ []) in let k = longer_keys in omega (arith, l, k, count)

  pub stands_more : (p t : ℕ) → StandsAsEnd keys others p t → StandsAsEnd ks os p t
  stands_more p t s = record {
    place = s.place;
    within = (let w = s.within in let k = longer_keys in omega (arith, w, k));
    key = key_kept s.place s.within ∙ s.key;
    other = other_kept s.place s.within ∙ s.other;
  }

  pub stands_new : StandsAsEnd ks os x y
  stands_new = record {
    place = length keys;
    within = (let k = longer_keys in omega (arith, k));
    key = get_or_push keys x 0 (length keys) refl;
    other = get_or_push others y 0 (length keys) count;
  }

  pub links_more : (atoms : List Atom) (truth : List Bool) → ((i : ℕ) → i < length keys → IsLink atoms truth (get_or keys i 0) (get_or others i 0)) → IsLink atoms truth x y
      → (i : ℕ) → i < length ks → IsLink atoms truth (get_or ks i 0) (get_or os i 0)
  links_more atoms truth links l i lt = elim (cases_lt i (length keys)) [
    | inl a ↦ rw (key_kept i a, other_kept i a) (links i a)
    | inr b ↦
        let at : i ≡ length keys = (let k = longer_keys in omega (arith, k, lt, b)) in
        let k : get_or ks i 0 ≡ x = ap (λ j. get_or ks j 0) at ∙ get_or_push keys x 0 (length keys) refl in
        let o : get_or os i 0 ≡ y = ap (λ j. get_or os j 0) at ∙ get_or_push others y 0 (length keys) count in
        rw (k, o) l
  ]

ends_are : (p t s u : ℕ) → pair_of p t ≡ atom.Same s u → ((p ≡ s) × (t ≡ u)) ⊎ ((p ≡ u) × (t ≡ s))
ends_are p t s u e = elim (cases_Bool (nat_lt p t)) [
  | inl a ↦ let f : atom.Same p t ≡ atom.Same s u = rw a at e in inl (cc, cc)
  | inr a ↦ let f : atom.Same t p ≡ atom.Same s u = rw a at e in inr (cc, cc)
]

module _ (atoms : List Atom) (truth : List Bool) (k : ℕ) (keys others : List ℕ) (ends : AreEnds atoms truth k keys others) where
  pub ends_skip : ((p t : ℕ) → slice_get atoms k ≡ Some (pair_of p t) → slice_get truth k ≡ Some true → ⊥) → AreEnds atoms truth (k + 1) keys others
  ends_skip never = record {
    count = ends.count;
    links = ends.links;
    all = λ j p t lt e f. elim (cases_eq j k) [
      | inl s ↦ absurd (never p t (ap (slice_get atoms) (sym s) ∙ e) (ap (slice_get truth) (sym s) ∙ f))
      | inr o ↦ ends.all j p t (omega (arith, lt, o)) e f
    ];
  }

  module _ (ordered : are_ordered atoms ≡ true) (s u : ℕ) (here_ : slice_get atoms k ≡ Some (atom.Same s u)) (yes_ : slice_get truth k ≡ Some true) where
    link : IsLink atoms truth s u
    link = subst (Gives atoms truth true) (sym (pair_below s u (ordered_at atoms k s u ordered here_))) (record { place = k; atom_at = here_; truth_at = yes_ })

    abbrev ks1 : List ℕ
    ks1 = keys ++ s ∷ []

    abbrev os1 : List ℕ
    os1 = others ++ u ∷ []

    count1 : length os1 ≡ length ks1
    count1 = count_more keys others ends.count s u

    later : (p t : ℕ) → StandsAsEnd ks1 os1 p t → StandsAsEnd (ks1 ++ u ∷ []) (os1 ++ s ∷ []) p t
    later p t st = stands_more ks1 os1 count1 u s p t st

    at_k : (p t : ℕ) → pair_of p t ≡ atom.Same s u → StandsAsEnd (ks1 ++ u ∷ []) (os1 ++ s ∷ []) p t
    at_k p t e = elim (ends_are p t s u e) [
      | inl q ↦ rw (q.0, q.1) (later s u (stands_new keys others ends.count s u))
      | inr q ↦ rw (q.0, q.1) (stands_new ks1 os1 count1 u s)
    ]

    pub ends_more : AreEnds atoms truth (k + 1) (ks1 ++ u ∷ []) (os1 ++ s ∷ [])
    ends_more = record {
      count = count_more ks1 os1 count1 u s;
      links = links_more ks1 os1 count1 u s atoms truth (links_more keys others ends.count s u atoms truth ends.links link) (link_back atoms truth s u link);
      all = λ j p t lt e f. elim (cases_eq j k) [
        | inl same ↦ at_k p t (let g = sym (ap (slice_get atoms) same) in cc)
        | inr o ↦ later p t (stands_more keys others ends.count s u p t (ends.all j p t (omega (arith, lt, o)) e f))
      ];
    }

-- a pair is an equality
pub no_pair : (a : Atom) (p t : ℕ) → a ≡ pair_of p t → ((x y : ℕ) → a ≡ atom.Same x y → ⊥) → ⊥
no_pair a p t e never = elim (cases_Bool (nat_lt p t)) [
  | inl l ↦ never p t (rw l at e)
  | inr l ↦ never t p (rw l at e)
]
