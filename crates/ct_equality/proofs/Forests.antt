-- Terms that lead to earlier ones of their classes.
use Rattle.std.proofs.Common.{◌≡◌, ◌≢◌, ◌<◌, ◌≤◌, ◌+◌, ℕ, zero, suc, true, false, List, [], ◌∷◌, length, get_or, set, take, drop, ◌++◌, append-nil, Option, Some, None, nat_eq, nat_lt, if◌then◌else◌, refl, ap, sym, ◌∙◌, subst, inl, inr, ◌⊎◌, arith}
use Rattle.std.proofs.lemmas.List.{length-set, get_or-set_same, get_or-set_other}
use Rattle.std.{proofs.lemmas.Bool.{cases_eq, cases_lt, cases_Bool, eq-eqb, ne_eqb, both_ways, ltb-true, lt-ltb}}
use Rattle.ct_derivation.specs.Path.{is_constant}
use Rattle.ct_equality.specs.declared.classes.Member.{Member}
use Rattle.ct_equality.{specs.Members.{is_listed, class_of, moved, merged}, proofs.Members.{listed_merged, class_merged}, proofs.Joins.parted}
use Rattle.ct_equality.specs.Joining.{prefers, kept_of, gone_of, clash_of, joined_classes}
use Rattle.ct_equality.specs.Forest.{AreLow, IsWay, IsWayUp, IsSound, IsForest, IsStep, AreClassesTo}
use Rattle.ct_equality.specs.Indexed.{AreClassesAt}

pub way_none : (ps : List ℕ) (p : ℕ) → AreLow ps → p < length ps → IsWay ps ps p p
way_none ps p low lt = record { count = refl; low = low; within = lt; roots = λ i l. (λ e. e, λ e. e); led = λ f l. (l, refl) }

-- one more place of the way leads to the one after the next
module _ (old ps : List ℕ) (from at : ℕ) (way : IsWay old ps from at) (on : get_or ps at 0 ≢ at) where
  abbrev up : ℕ
  up = get_or ps at 0

  abbrev next : ℕ
  next = get_or ps up 0

  at_within : at < length ps
  at_within = let w = way.within in let c = way.count in omega (arith, w, c)

  up_below : up < at
  up_below = let l = way.low at at_within in omega (arith, l, on)

  pub next_below : next < at
  next_below = let l = way.low up (let a = up_below in let b = at_within in omega (arith, a, b)) in let u = up_below in omega (arith, l, u)

  new_cases : (i : ℕ) → ((i ≡ at) × (get_or (set ps at next) i 0 ≡ next)) ⊎ ((i ≢ at) × (get_or (set ps at next) i 0 ≡ get_or ps i 0))
  new_cases i = elim (cases_eq i at) [
    | inl s ↦ inl (s, ap (λ j. get_or (set ps at next) j 0) s ∙ get_or-set_same ps at next 0 at_within)
    | inr f ↦ inr (f, get_or-set_other ps at i next 0 f)
  ]

  new_count : length (set ps at next) ≡ length ps
  new_count = length-set ps at next

  pub way_on : IsWay old (set ps at next) from next
  way_on = record {
    count = new_count ∙ way.count;
    low = λ i lt. elim (new_cases i) [
      | inl a ↦ let e = a.1 in let s = a.0 in let b = next_below in omega (arith, e, s, b)
      | inr a ↦ let l = way.low i (let c = new_count in omega (arith, c, lt)) in let e = a.1 in omega (arith, l, e)
    ];
    within = (let b = next_below in let w = way.within in omega (arith, b, w));
    roots = λ i lt. elim (new_cases i) [
      | inl a ↦ (
        λ e. let r = (way.roots i lt).0 e in absurd (on (ap (λ j. get_or ps j 0) (sym a.0) ∙ r ∙ a.0)),
        λ e. let q = a.1 in let s = a.0 in let b = next_below in absurd (omega (arith, e, q, s, b)),
      )
      | inr a ↦ (λ e. a.1 ∙ (way.roots i lt).0 e, λ e. (way.roots i lt).1 (sym a.1 ∙ e))
    ];
    led = λ f l.
        let g = way.led f l in
        let same : f next ≡ f at = g.0 up (let u = up_below in let w = at_within in omega (arith, u, w)) ∙ g.0 at at_within in (
          λ i lt. elim (new_cases i) [
            | inl a ↦ ap f a.1 ∙ same ∙ ap f (sym a.0)
            | inr a ↦ ap f a.1 ∙ g.0 i (let c = new_count in omega (arith, c, lt))
          ],
          same ∙ g.1,
        );
  }

-- a way changes no class
module _ (us : List ℕ) (ms : List Member) (old new cs : List ℕ) (from at : ℕ) (way : IsWay old new from at) (forest : IsForest us ms old cs) where
  abbrev class_at : ℕ → ℕ
  class_at i = class_of ms (get_or us i 0)

  old_root : (i : ℕ) → i < length us → get_or new i 0 ≡ i → get_or old i 0 ≡ i
  old_root i lt e = (way.roots i (let c = forest.count in omega (arith, c, lt))).1 e

  pub forest_way : IsForest us ms new cs
  forest_way = record {
    count = way.count ∙ forest.count;
    led = (way.led class_at forest.led).0;
    roots = λ i lt e. forest.roots i lt (old_root i lt e);
    apart = λ i j a b e f. forest.apart i j a b (old_root i a e) (old_root j b f);
    within = forest.within;
  }

  -- the first term of a class has the term by which it goes
  pub class_first : get_or new at 0 ≡ at → class_of ms (get_or us from 0) ≡ get_or cs at 0
  class_first e =
      let lt : at < length us = let w = way.within in let c = forest.count in omega (arith, w, c) in
      sym (way.led class_at forest.led).1 ∙ forest.roots at lt (old_root at lt e)

-- two classes become one
module _ (us : List ℕ) (ms : List Member) (ps cs : List ℕ) (forest : IsForest us ms ps cs) (sound : IsSound ps cs) (lo hi gone kept : ℕ) (below : lo < hi) (within : hi < length ps)
    (lo_root : get_or ps lo 0 ≡ lo) (hi_root : get_or ps hi 0 ≡ hi) (apart : kept ≢ gone)
    (pair : ((get_or cs lo 0 ≡ kept) × (get_or cs hi 0 ≡ gone)) ⊎ ((get_or cs lo 0 ≡ gone) × (get_or cs hi 0 ≡ kept))) where
  abbrev at : ℕ → ℕ
  at i = class_of ms (get_or us i 0)

  abbrev new : List ℕ
  new = set ps hi lo

  abbrev ds : List ℕ
  ds = set cs lo kept

  hi_us : hi < length us
  hi_us = let c = forest.count in omega (arith, c, within)

  lo_us : lo < length us
  lo_us = let h = hi_us in omega (arith, h, below)

  lo_class : at lo ≡ get_or cs lo 0
  lo_class = forest.roots lo lo_us lo_root

  hi_class : at hi ≡ get_or cs hi 0
  hi_class = forest.roots hi hi_us hi_root

  listed_at : (c i : ℕ) → i < length us → at i ≡ c → is_listed ms c ≡ true
  listed_at c i lt e = ap (is_listed ms) (sym e) ∙ forest.within i lt

  gone_listed : is_listed ms gone ≡ true
  gone_listed = elim pair [ inl p ↦ listed_at gone hi hi_us (hi_class ∙ p.1) | inr p ↦ listed_at gone lo lo_us (lo_class ∙ p.0) ]

  kept_listed : is_listed ms kept ≡ true
  kept_listed = elim pair [ inl p ↦ listed_at kept lo lo_us (lo_class ∙ p.0) | inr p ↦ listed_at kept hi hi_us (hi_class ∙ p.1) ]

  after : (p : ℕ) → class_of (merged gone kept ms) p ≡ moved gone kept (class_of ms p)
  after p = class_merged gone kept ms gone_listed p

  gone_moves : moved gone kept gone ≡ kept
  gone_moves = rw (eq-eqb gone gone refl) refl

  stays : (c : ℕ) → c ≢ gone → moved gone kept c ≡ c
  stays c ne = rw (ne_eqb c gone ne) refl

  both_kept : (moved gone kept (at lo) ≡ kept) × (moved gone kept (at hi) ≡ kept)
  both_kept = elim pair [
    | inl p ↦ (ap (moved gone kept) (lo_class ∙ p.0) ∙ stays kept apart, ap (moved gone kept) (hi_class ∙ p.1) ∙ gone_moves)
    | inr p ↦ (ap (moved gone kept) (lo_class ∙ p.0) ∙ gone_moves, ap (moved gone kept) (hi_class ∙ p.1) ∙ stays kept apart)
  ]

  new_hi : get_or new hi 0 ≡ lo
  new_hi = get_or-set_same ps hi lo 0 within

  new_other : (i : ℕ) → i ≢ hi → get_or new i 0 ≡ get_or ps i 0
  new_other i ne = get_or-set_other ps hi i lo 0 ne

  not_hi : (i : ℕ) → get_or new i 0 ≡ i → i ≢ hi
  not_hi i e s = let q : get_or new i 0 ≡ lo = ap (λ j. get_or new j 0) s ∙ new_hi in omega (arith, e, q, s, below)

  was_root : (i : ℕ) → get_or new i 0 ≡ i → get_or ps i 0 ≡ i
  was_root i e = sym (new_other i (not_hi i e)) ∙ e

  ds_lo : get_or ds lo 0 ≡ kept
  ds_lo = get_or-set_same cs lo kept 0 (let c = sound.count in omega (arith, c, below, within))

  ds_other : (i : ℕ) → i ≢ lo → get_or ds i 0 ≡ get_or cs i 0
  ds_other i ne = get_or-set_other cs lo i kept 0 ne

  -- a third class goes by neither of the two terms
  third : (i : ℕ) → i < length us → get_or new i 0 ≡ i → i ≢ lo → (get_or cs i 0 ≢ gone) × (get_or cs i 0 ≢ kept)
  third i lt e ne =
      let is_lo : get_or cs i 0 ≡ get_or cs lo 0 → ⊥ = λ q. ne (forest.apart i lo lt lo_us (was_root i e) lo_root q) in
      let is_hi : get_or cs i 0 ≡ get_or cs hi 0 → ⊥ = λ q. not_hi i e (forest.apart i hi lt hi_us (was_root i e) hi_root q) in
      elim pair [
        | inl p ↦ (λ q. is_hi (q ∙ sym p.1), λ q. is_lo (q ∙ sym p.0))
        | inr p ↦ (λ q. is_lo (q ∙ sym p.0), λ q. is_hi (q ∙ sym p.1))
      ]

  pub forest_linked : IsForest us (merged gone kept ms) new ds
  forest_linked = record {
    count = length-set ps hi lo ∙ forest.count;
    led = λ i lt. elim (cases_eq i hi) [
      | inl s ↦ ap (λ j. class_of (merged gone kept ms) (get_or us j 0)) (ap (λ j. get_or new j 0) s ∙ new_hi) ∙ after (get_or us lo 0) ∙ both_kept.0 ∙ sym both_kept.1 ∙ sym (after (get_or us hi 0)) ∙ ap (λ j. class_of (merged gone kept ms) (get_or us j 0)) (sym s)
      | inr f ↦
          let e = length-set ps hi lo in
          ap (λ j. class_of (merged gone kept ms) (get_or us j 0)) (new_other i f) ∙ after (get_or us (get_or ps i 0) 0) ∙ ap (moved gone kept) (forest.led i (omega (arith, e, lt))) ∙ sym (after (get_or us i 0))
    ];
    roots = λ i lt e. elim (cases_eq i lo) [
      | inl s ↦ after (get_or us i 0) ∙ ap (λ j. moved gone kept (at j)) s ∙ both_kept.0 ∙ sym (ap (λ j. get_or ds j 0) s ∙ ds_lo)
      | inr f ↦ after (get_or us i 0) ∙ ap (moved gone kept) (forest.roots i lt (was_root i e)) ∙ stays (get_or cs i 0) (third i lt e f).0 ∙ sym (ds_other i f)
    ];
    apart = λ i j a b e f q. elim (cases_eq i lo) [
      | inl s ↦ elim (cases_eq j lo) [
        | inl t ↦ s ∙ sym t
        | inr g ↦ absurd ((third j b f g).1 (sym (ds_other j g) ∙ sym q ∙ ap (λ k. get_or ds k 0) s ∙ ds_lo))
      ]
      | inr g ↦ elim (cases_eq j lo) [
        | inl t ↦ absurd ((third i a e g).1 (sym (ds_other i g) ∙ q ∙ ap (λ k. get_or ds k 0) t ∙ ds_lo))
        | inr h ↦ forest.apart i j a b (was_root i e) (was_root j f) (sym (ds_other i g) ∙ q ∙ ds_other j h)
      ]
    ];
    within = λ i lt.
        listed_merged gone kept ms _ ∙ ap (is_listed ms) (after (get_or us i 0)) ∙ elim (cases_eq (at i) gone) [
          | inl s ↦ ap (λ c. is_listed ms (moved gone kept c)) s ∙ ap (is_listed ms) gone_moves ∙ kept_listed
          | inr f ↦ ap (is_listed ms) (stays (at i) f) ∙ forest.within i lt
        ];
  }

  pub sound_linked : IsSound new ds
  sound_linked = record {
    count = length-set cs lo kept ∙ sound.count ∙ sym (length-set ps hi lo);
    low = λ i lt. elim (cases_eq i hi) [
      | inl s ↦ let e : get_or new i 0 ≡ lo = ap (λ j. get_or new j 0) s ∙ new_hi in omega (arith, e, s, below)
      | inr f ↦ let e = new_other i f in let l = sound.low i (let c = length-set ps hi lo in omega (arith, c, lt)) in omega (arith, e, l)
    ];
  }

-- the classes of two terms are sought, and joined
module _ (words us : List ℕ) (ms : List Member) (old mid new cs : List ℕ) (s t a b : ℕ) (forest : IsForest us ms old cs) (up : IsWayUp old mid s a) (again : IsWayUp mid new t b) where
  after_first : IsForest us ms mid cs
  after_first = forest_way us ms old mid cs s a up.way forest

  after_both : IsForest us ms new cs
  after_both = forest_way us ms mid new cs t b again.way after_first

  class_s : class_of ms (get_or us s 0) ≡ get_or cs a 0
  class_s = class_first us ms old mid cs s a up.way forest up.root

  class_t : class_of ms (get_or us t 0) ≡ get_or cs b 0
  class_t = class_first us ms mid new cs t b again.way after_first again.root

  abbrev ca : ℕ
  ca = get_or cs a 0

  abbrev cb : ℕ
  cb = get_or cs b 0

  abbrev Step : Option (ℕ × ℕ) → List ℕ → List ℕ → Type 0
  Step r ps ds = IsStep words us ms (class_of ms (get_or us s 0)) (class_of ms (get_or us t 0)) r ps ds

  told : (r : Option (ℕ × ℕ)) (ps ds : List ℕ) → IsStep words us ms ca cb r ps ds → Step r ps ds
  told r ps ds st = rw (class_s, class_t) st

  pub step_same : nat_eq ca cb ≡ true → Step None new cs
  unfolding clash_of joined_classes
  step_same e =
      let j : joined_classes words ca cb ms ≡ ms = rw e refl in
      let c : clash_of words ca cb ≡ None = rw e refl in
      told None new cs (record { clash = sym c; forest = subst (λ l. IsForest us l new cs) (sym j) after_both })

  pub step_clash : nat_eq ca cb ≡ false → is_constant words (gone_of words ca cb) ≡ true → Step (Some (kept_of words ca cb, gone_of words ca cb)) new cs
  unfolding clash_of joined_classes
  step_clash e k =
      let j : joined_classes words ca cb ms ≡ ms = rw (e, k) refl in
      let c : clash_of words ca cb ≡ Some (kept_of words ca cb, gone_of words ca cb) = rw (e, k) refl in
      told _ new cs (record { clash = sym c; forest = subst (λ l. IsForest us l new cs) (sym j) after_both })

  abbrev lo : ℕ
  lo = if nat_lt a b then a else b

  abbrev hi : ℕ
  hi = if nat_lt a b then b else a

  a_within : a < length new
  a_within = let w = up.way.within in let c = up.way.count in let d = again.way.count in omega (arith, w, c, d)

  b_within : b < length new
  b_within = let w = again.way.within in let d = again.way.count in omega (arith, w, d)

  a_root : get_or new a 0 ≡ a
  a_root = (again.way.roots a (let w = up.way.within in let c = up.way.count in omega (arith, w, c))).0 up.root

  pair_of_classes : ((ca ≡ kept_of words ca cb) × (cb ≡ gone_of words ca cb)) ⊎ ((ca ≡ gone_of words ca cb) × (cb ≡ kept_of words ca cb))
  pair_of_classes = elim (cases_Bool (prefers words ca cb)) [ inl p ↦ inr (rw p refl, rw p refl) | inr p ↦ inl (rw p refl, rw p refl) ]

  pub step_linked : nat_eq ca cb ≡ false → is_constant words (gone_of words ca cb) ≡ false → IsSound new cs → Step None (set new hi lo) (set cs lo (kept_of words ca cb))
  unfolding clash_of joined_classes
  step_linked e n sound =
      let kept = kept_of words ca cb in
      let gone = gone_of words ca cb in
      let j : joined_classes words ca cb ms ≡ merged gone kept ms = rw (e, n) refl in
      let c : clash_of words ca cb ≡ None = rw (e, n) refl in
      let differ : kept ≢ gone = λ q. both_ways _ (parted words ca cb e) (eq-eqb kept gone q) in
      let linked : IsForest us (merged gone kept ms) (set new hi lo) (set cs lo kept) = elim (cases_Bool (nat_lt a b)) [
        | inl l ↦ rw l (forest_linked us ms new cs after_both sound a b gone kept (ltb-true a b l) b_within a_root again.root differ pair_of_classes)
        | inr l ↦ rw l (forest_linked us ms new cs after_both sound b a gone kept (below_by l) a_within again.root a_root differ (swapped pair_of_classes))
      ] in
      told None _ _ (record { clash = sym c; forest = subst (λ l. IsForest us l (set new hi lo) (set cs lo kept)) (sym j) linked }) where
        below_by : nat_lt a b ≡ false → b < a
        below_by l = elim (cases_lt b a) [
          | inl x ↦ x
          | inr x ↦ elim (cases_eq a b) [
            | inl s2 ↦ absurd (both_ways _ e (eq-eqb ca cb (ap (λ i. get_or cs i 0) s2)))
            | inr f ↦ absurd (both_ways _ l (lt-ltb a b (omega (arith, x, f))))
          ]
        ]

        swapped : {p q r u : ℕ} → ((p ≡ q) × (r ≡ u)) ⊎ ((p ≡ u) × (r ≡ q)) → ((r ≡ q) × (p ≡ u)) ⊎ ((r ≡ u) × (p ≡ q))
        swapped (inl x) = inr (x.1, x.0)
        swapped (inr x) = inl (x.1, x.0)

pub sound_way : (old mid cs : List ℕ) (from at : ℕ) → IsSound old cs → IsWay old mid from at → IsSound mid cs
sound_way old mid cs from at sound way = record { count = sound.count ∙ sym way.count; low = way.low }

drop_all : (ys : List ℕ) (n : ℕ) → length ys ≤ n → drop n ys ≡ []
drop_all [] zero e = refl
drop_all [] (suc n) e = refl
drop_all (y ∷ ys) zero e = absurd (omega (arith, e))
drop_all (y ∷ ys) (suc n) e = drop_all ys n (omega (arith, e))

take_all : (xs : List ℕ) (n : ℕ) → length xs ≤ n → take n xs ≡ xs
take_all [] zero e = refl
take_all [] (suc n) e = refl
take_all (x ∷ xs) zero e = absurd (omega (arith, e))
take_all (x ∷ xs) (suc n) e = ap (λ l. x ∷ l) (take_all xs n (omega (arith, e)))

-- what a slice of the whole leaves
pub written : (n : ℕ) (xs ys : List ℕ) → length xs ≡ length ys → n ≡ length ys → take n (xs ++ drop (length xs) ys) ≡ xs
written n xs ys e f = ap (λ l. take n (xs ++ l)) (drop_all ys (length xs) (omega (arith, e))) ∙ ap (take n) (append-nil xs) ∙ take_all xs n (omega (arith, e, f))

-- the same over the values that were read
module _ (words us : List ℕ) (ms : List Member) (old mid new cs : List ℕ) (s t i j x y : ℕ) (up : IsWayUp old mid s i) (again : IsWayUp mid new t j) (x_is : x ≡ get_or cs i 0) (y_is : y ≡ get_or cs j 0) (forest : IsForest us ms old cs) where
  abbrev Left : Option (ℕ × ℕ) → List ℕ → List ℕ → Type 0
  Left r ps ds = IsStep words us ms (class_of ms (get_or us s 0)) (class_of ms (get_or us t 0)) r ps ds

  differ : x ≢ y → nat_eq (get_or cs i 0) (get_or cs j 0) ≡ false
  differ ne = ne_eqb _ _ (λ q. ne (x_is ∙ q ∙ sym y_is))

  pub left_same : x ≡ y → Left None new cs
  left_same e = step_same words us ms old mid new cs s t i j forest up again (eq-eqb _ _ (sym x_is ∙ e ∙ y_is))

  module _ (kept gone : ℕ) (ne : x ≢ y) (kept_is : kept ≡ kept_of words x y) (gone_is : gone ≡ gone_of words x y) where
    kept_there : kept ≡ kept_of words (get_or cs i 0) (get_or cs j 0)
    kept_there = kept_is ∙ ap (λ z. kept_of words z y) x_is ∙ ap (kept_of words (get_or cs i 0)) y_is

    gone_there : gone ≡ gone_of words (get_or cs i 0) (get_or cs j 0)
    gone_there = gone_is ∙ ap (λ z. gone_of words z y) x_is ∙ ap (gone_of words (get_or cs i 0)) y_is

    pub left_clash : is_constant words gone ≡ true → Left (Some (kept, gone)) new cs
    left_clash k =
        subst (λ g. Left (Some (kept, g)) new cs) (sym gone_there) (subst (λ h. Left (Some (h, gone_of words (get_or cs i 0) (get_or cs j 0))) new cs) (sym kept_there)
        (step_clash words us ms old mid new cs s t i j forest up again (differ ne) (ap (is_constant words) (sym gone_there) ∙ k)))

    pub left_linked : is_constant words gone ≡ false → IsSound old cs → (ps ds : List ℕ) → ps ≡ set new (if nat_lt i j then j else i) (if nat_lt i j then i else j) → ds ≡ set cs (if nat_lt i j then i else j) kept → Left None ps ds
    left_linked k sound ps ds p d =
        let both = sound_way mid new cs t j (sound_way old mid cs s i sound up.way) again.way in
        let st = step_linked words us ms old mid new cs s t i j forest up again (differ ne) (ap (is_constant words) (sym gone_there) ∙ k) both in
        subst (λ l. Left None l ds) (sym p) (subst (λ l. Left None (set new (if nat_lt i j then j else i) (if nat_lt i j then i else j)) l) (sym (d ∙ ap (set cs (if nat_lt i j then i else j)) kept_there)) st)

-- the linked ones stay sound
pub sound_step : (ps cs : List ℕ) (a b k : ℕ) → IsSound ps cs → a < length ps → b < length ps → IsSound (set ps (if nat_lt a b then b else a) (if nat_lt a b then a else b)) (set cs (if nat_lt a b then a else b) k)
sound_step ps cs a b k sound wa wb = elim (cases_Bool (nat_lt a b)) [
  | inl l ↦ rw l (low_set a b (let x = ltb-true a b l in omega (arith, x)))
  | inr l ↦ rw l (low_set b a (elim (cases_lt a b) [ inl x ↦ absurd (both_ways _ l (lt-ltb a b x)) | inr x ↦ x ]))
] where
  low_set : (lo hi : ℕ) → lo ≤ hi → IsSound (set ps hi lo) (set cs lo k)
  low_set lo hi le = record {
    count = length-set cs lo k ∙ sound.count ∙ sym (length-set ps hi lo);
    low = λ i lt. let c = length-set ps hi lo in elim (cases_eq i hi) [
      | inl s ↦ let e : get_or (set ps hi lo) i 0 ≡ lo = ap (λ j. get_or (set ps hi lo) j 0) s ∙ get_or-set_same ps hi lo 0 (omega (arith, c, lt, s)) in omega (arith, e, s, le)
      | inr f ↦ let e = get_or-set_other ps hi i lo 0 f in let l = sound.low i (omega (arith, c, lt)) in omega (arith, e, l)
    ];
  }

pub classes_none : (parents chiefs : List ℕ) → AreClassesTo parents chiefs 0 chiefs
classes_none parents chiefs = record { count = refl; done = λ us ms f i lt l. absurd (omega (arith, lt)); rest = λ i le. refl }

-- a term has the class of the one that it leads to
pub classes_more : (parents chiefs classes : List ℕ) (n : ℕ) → IsSound parents chiefs → AreClassesTo parents chiefs n classes → n < length classes
    → AreClassesTo parents chiefs (n + 1) (set classes n (get_or classes (get_or parents n 0) 0))
classes_more parents chiefs classes n sound are within = record {
  count = length-set classes n _ ∙ are.count;
  done = λ us ms forest i lt l. elim (cases_eq i n) [
    | inl s ↦
        let low = sound.low n (let c = are.count in let d = sound.count in omega (arith, within, c, d)) in
        let up = get_or parents n 0 in
        let n_us : n < length us = subst (λ j. j < length us) s l in
        let n_ps : n < length parents = (let c = are.count in let d = sound.count in omega (arith, within, c, d)) in
        let value : get_or classes up 0 ≡ class_of ms (get_or us n 0) = elim (cases_eq up n) [
          | inl root ↦ ap (λ j. get_or classes j 0) root ∙ are.rest n (omega arith) ∙ sym (forest.roots n n_us root)
          | inr other ↦ are.done us ms forest up (omega (arith, low, other)) (omega (arith, low, n_us)) ∙ forest.led n n_ps
        ] in
        ap (λ j. get_or (set classes n (get_or classes up 0)) j 0) s ∙ get_or-set_same classes n _ 0 within ∙ value ∙ ap (λ j. class_of ms (get_or us j 0)) (sym s)
    | inr f ↦ get_or-set_other classes n i _ 0 f ∙ are.done us ms forest i (omega (arith, lt, f)) l
  ];
  rest = λ i le. get_or-set_other classes n i _ 0 (λ s. omega (arith, s, le)) ∙ are.rest i (omega (arith, le));
}

pub classes_all : (parents chiefs classes : List ℕ) → IsSound parents chiefs → AreClassesTo parents chiefs (length classes) classes
    → (us : List ℕ) (ms : List Member) → IsForest us ms parents chiefs → AreClassesAt us ms classes
classes_all parents chiefs classes sound are us ms forest =
    let long : length classes ≡ length us = are.count ∙ sound.count ∙ forest.count in
    record { count = long; each = λ i lt. are.done us ms forest i (omega (arith, long, lt)) lt }
