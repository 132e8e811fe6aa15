-- Growing a tree, and walking up in it.
use Rattle.std.proofs.Common.{◌≡◌, ◌≢◌, ◌<◌, ◌≤◌, ◌+◌, ℕ, suc, Bool, true, false, ◌||◌, List, [], ◌∷◌, ◌++◌, length, get_or, Some, nat_eq, refl, ap, sym, ◌∙◌, subst, inl, inr, arith, append_assoc, append-nil, length-append}
use Rattle.std.{specs.Prelude.slice_get, specs.List.IsDistinct, specs.Cmp.nat_eq_equiv, proofs.lemmas.Option.{slice_get_within, slice_get-get_or}}
use Rattle.std.{proofs.lemmas.Bool.{eqb-true, eq-eqb, false≢true, cases_eq, cases_lt, or_left, or_cases}, proofs.lemmas.Bool.Decides.nat_tests}
use Rattle.std.{proofs.lemmas.List.{get_or_append_left, get_or_push}, proofs.lemmas.List.Folds.{list_any-append, list_any_at}}
use Rattle.std.{proofs.lemmas.Map.Keys.IsDistinct-push}
use Rattle.ct_derivation.{specs.declared.literals.Atom.Atom, specs.Path.{end_of}}
use Rattle.ct_equality.{specs.Terms.{is_among, is_end_of}, specs.Assigned.{IsLink, Joined, here, step, AreLinks, IsWalk}, proofs.Steps.{left_end, right_end}, proofs.Joins.link_cases}
use Rattle.ct_chain.specs.Seen.{IsNoneFrom, IsLeastFrom}
use Rattle.ct_equality.specs.Ends.{AreEnds}
use Rattle.ct_equality.specs.Trees.{IsTree, Extends, LeadsInto, IsExplored, IsGrowing, IsExploring}

pub record StandsAt (places : List ℕ) (p : ℕ) : Type 0 where
  pub place : ℕ
  pub within : place < length places
  pub is : get_or places place 0 ≡ p

pub stands : (places : List ℕ) (p : ℕ) → is_among places p ≡ true → StandsAt places p
stands [] p e = absurd (false≢true e)
stands (q ∷ places) p e = elim (or_cases (nat_eq p q) (is_among places p) e) [
  | inl t ↦ record { place = 0; within = omega arith; is = sym (eqb-true p q t) }
  | inr r ↦ let s = stands places p r in record { place = suc s.place; within = (let w = s.within in omega (arith, w)); is = s.is }
]

pub among_at : (places : List ℕ) (i : ℕ) → i < length places → is_among places (get_or places i 0) ≡ true
among_at places i lt = list_any_at (nat_eq (get_or places i 0)) places i 0 lt (eq-eqb _ _ refl)

pub among_append : (xs ys : List ℕ) (p : ℕ) → is_among (xs ++ ys) p ≡ (is_among xs p || is_among ys p)
among_append xs ys p = list_any-append (nat_eq p) xs ys

pub among_more : (old new : List ℕ) (p : ℕ) → Extends old new → is_among old p ≡ true → is_among new p ≡ true
among_more old new p x e = ap (λ l. is_among l p) x.is ∙ among_append old x.more p ∙ or_left _ _ e

pub at_more : (old new : List ℕ) (i : ℕ) → Extends old new → i < length old → get_or new i 0 ≡ get_or old i 0
at_more old new i x lt = ap (λ l. get_or l i 0) x.is ∙ get_or_append_left old x.more 0 i lt

pub longer : (old new : List ℕ) → Extends old new → length old ≤ length new
longer old new x = let e = ap length x.is in let l = length-append old x.more in omega (arith, e, l)

pub extends_same : (xs : List ℕ) → Extends xs xs
extends_same xs = record { more = []; is = sym (append-nil xs) }

pub extends_on : (old mid new : List ℕ) → Extends old mid → Extends mid new → Extends old new
extends_on old mid new a b = record {
  more = a.more ++ b.more;
  is = b.is ∙ ap (λ l. l ++ b.more) a.is ∙ append_assoc old a.more b.more;
}

module _ (atoms : List Atom) (truth : List Bool) where
  -- a link leads from a term of the equalities
  pub link_end : (p q : ℕ) → IsLink atoms truth p q → is_end_of atoms p ≡ true
  link_end p q l = elim (link_cases atoms truth p q l) [
    | inl g ↦ left_end atoms g.place p q g.atom_at
    | inr g ↦ right_end atoms g.place q p g.atom_at
  ]

  -- so does a way of links to another term
  pub joined_end : {s t : ℕ} → Joined atoms truth s t → s ≢ t → is_end_of atoms s ≡ true
  joined_end here ne = absurd (ne refl)
  joined_end (step {s} t l r) ne = link_end s t l

  -- one more term
  module _ (places origins : List ℕ) (p o : ℕ) (t : IsTree atoms truth places origins) (new : is_among places p ≡ false)
      (within : o < length places) (link : IsLink atoms truth p (get_or places o 0)) where
    abbrev ps : List ℕ
    ps = places ++ p ∷ []

    abbrev os : List ℕ
    os = origins ++ o ∷ []

    long : length ps ≡ length places + 1
    long = let l = length-append places (p ∷ []) in omega (arith, l)

    at_old : (i : ℕ) → i < length places → get_or ps i 0 ≡ get_or places i 0
    at_old i lt = get_or_append_left places (p ∷ []) 0 i lt

    from_old : (i : ℕ) → i < length places → get_or os i 0 ≡ get_or origins i 0
    from_old i lt = get_or_append_left origins (o ∷ []) 0 i (let c = t.count in omega (arith, c, lt))

    at_new : get_or ps (length places) 0 ≡ p
    at_new = get_or_push places p 0 (length places) refl

    from_new : get_or os (length places) 0 ≡ o
    from_new = get_or_push origins o 0 (length places) t.count

    earlier_more : (i : ℕ) → 0 < i → i < length ps → get_or os i 0 < i
    earlier_more i pos lt = elim (cases_lt i (length places)) [
      | inl a ↦ let e = from_old i a in let f = t.earlier i pos a in omega (arith, e, f)
      | inr b ↦ let at : i ≡ length places = omega (arith, long, lt, b) in rw (at, from_new) within
    ]

    links_more : (i : ℕ) → 0 < i → i < length ps → IsLink atoms truth (get_or ps i 0) (get_or ps (get_or os i 0) 0)
    links_more i pos lt = elim (cases_lt i (length places)) [
      | inl a ↦
          let f = t.earlier i pos a in
          let e = at_old (get_or origins i 0) (omega (arith, f, a)) in
          rw (at_old i a, from_old i a, e) (t.links i pos a)
      | inr b ↦
          let at : i ≡ length places = omega (arith, long, lt, b) in
          rw (at, at_new, from_new, at_old o within) link
    ]

    pub tree_more : IsTree atoms truth ps os
    tree_more = record {
      count = (let a = long in let b = length-append origins (o ∷ []) in let c = t.count in omega (arith, a, b, c));
      some = (let a = long in omega (arith, a));
      once = IsDistinct-push nat_eq_equiv places p t.once new;
      ends = λ q e. grind (arith, nat_tests, among_append places (p ∷ []) q, t.ends q, link_end p (get_or places o 0) link);
      earlier = earlier_more;
      links = links_more;
    }

  distinct_nil : IsDistinct nat_eq []
  unfolding IsDistinct
  distinct_nil = tt

  pub single : (root : ℕ) → is_end_of atoms root ≡ true → IsTree atoms truth (root ∷ []) (0 ∷ [])
  single root end = record {
    count = refl;
    some = omega arith;
    once = IsDistinct-push nat_eq_equiv [] root distinct_nil refl;
    ends = λ q e. grind (arith, nat_tests);
    earlier = λ i pos l. absurd (omega (arith, pos, l));
    links = λ i pos l. absurd (omega (arith, pos, l));
  }

  pub place_below : (k : ℕ) (a : Atom) → slice_get atoms k ≡ Some a → k < length atoms
  place_below k a e = slice_get_within atoms k a e

  -- a set of terms that true equalities do not leave has all of a class
  pub spread : (places : List ℕ) → length atoms ≡ length truth → IsExplored atoms truth (length places) places
      → {s t : ℕ} → Joined atoms truth s t → is_among places s ≡ true → is_among places t ≡ true
  spread places same explored here e = e
  spread places same explored (step {s} t l r) e =
      let at = stands places s e in
      let link = subst (λ x. IsLink atoms truth x t) (sym at.is) l in
      spread places same explored r (explored at.place at.within link.place t (place_below link.place _ link.atom_at) link.atom_at link.truth_at)

  links_snoc : (s : ℕ) (us : List ℕ) (x : ℕ) → AreLinks atoms truth s us → IsLink atoms truth (end_of s us) x → AreLinks atoms truth s (us ++ x ∷ [])
  links_snoc s [] x ls l = (l, tt)
  links_snoc s (u ∷ us) x ls l = (ls.0, links_snoc u us x ls.1 l)

  end_snoc : (s : ℕ) (us : List ℕ) (x : ℕ) → end_of s (us ++ x ∷ []) ≡ x
  end_snoc s [] x = refl
  end_snoc s (u ∷ us) x = end_snoc u us x

  pub walk_on : (s t u : ℕ) (path : List ℕ) → IsWalk atoms truth s t path → IsLink atoms truth t u → IsWalk atoms truth s u (path ++ u ∷ [])
  walk_on s t u path w l = record {
    rest = w.rest ++ u ∷ [];
    is = ap (λ p. p ++ u ∷ []) w.is;
    links = links_snoc s w.rest u w.links (subst (λ x. IsLink atoms truth x u) (sym w.ends) l);
    ends = end_snoc s w.rest u;
  }

  module _ (keys others : List ℕ) (p from i : ℕ) (start old origins : List ℕ) (growing : IsGrowing atoms truth keys others p from start old origins) (least : IsLeastFrom keys p from i) where
    -- one more of the true equalities of a term has been followed
    pub grown : (new to : List ℕ) → IsTree atoms truth new to → Extends old new → is_among new (get_or others i 0) ≡ true → IsGrowing atoms truth keys others p (i + 1) start new to
    grown new to tree x there = record {
      tree = tree;
      extends = extends_on start old new growing.extends x;
      reached = λ j lt within e. elim (cases_lt j from) [
        | inl a ↦ among_more old new _ x (growing.reached j a within e)
        | inr b ↦ elim (cases_eq j i) [
          | inl s ↦ ap (λ k. is_among new (get_or others k 0)) s ∙ there
          | inr f ↦ absurd (least.least j b (omega (arith, lt, f)) (slice_get-get_or keys j 0 within ∙ ap Some e))
        ]
      ];
    }

  pub grown_none : (keys others : List ℕ) (p : ℕ) (places origins : List ℕ) → IsTree atoms truth places origins → IsGrowing atoms truth keys others p 0 places places origins
  grown_none keys others p places origins tree = record { tree = tree; extends = extends_same places; reached = λ j lt within e. absurd (omega (arith, lt)) }

  -- all true equalities of a term have been followed
  pub grown_all : (keys others : List ℕ) (p from : ℕ) (start places origins : List ℕ) → AreEnds atoms truth (length atoms) keys others
      → IsGrowing atoms truth keys others p from start places origins → IsNoneFrom keys p from → LeadsInto atoms truth (length atoms) p places
  grown_all keys others p from start places origins ends growing none k t lt e f =
      let at = ends.all k p t lt e f in
      elim (cases_lt at.place from) [
        | inl a ↦ ap (is_among places) (sym at.other) ∙ growing.reached at.place a at.within at.key
        | inr b ↦ absurd (none at.place b (slice_get-get_or keys at.place 0 at.within ∙ ap Some at.key))
      ]

  pub explored_more : (root n : ℕ) (old from new to : List ℕ) → IsExploring atoms truth root n old from → n < length old → IsTree atoms truth new to → Extends old new
      → LeadsInto atoms truth (length atoms) (get_or old n 0) new → IsExploring atoms truth root (n + 1) new to
  explored_more root n old from new to exploring lt tree x leads = record {
    tree = tree;
    first = at_more old new 0 x exploring.tree.some ∙ exploring.first;
    within = (let l = longer old new x in omega (arith, l, lt));
    explored = λ i below. elim (cases_eq i n) [
      | inl same ↦ subst (λ p. LeadsInto atoms truth (length atoms) p new) (sym (at_more old new i x (omega (arith, same, lt)) ∙ ap (λ j. get_or old j 0) same)) leads
      | inr other ↦
          subst (λ p. LeadsInto atoms truth (length atoms) p new) (sym (at_more old new i x (omega (arith, below, lt))))
          (λ k t l e f. among_more old new t x (exploring.explored i (omega (arith, below, other)) k t l e f))
    ];
  }

  pub exploring_none : (root : ℕ) → is_end_of atoms root ≡ true → IsExploring atoms truth root 0 (root ∷ []) (0 ∷ [])
  exploring_none root end = record { tree = single root end; first = refl; within = omega arith; explored = λ i below. absurd (omega (arith, below)) }
