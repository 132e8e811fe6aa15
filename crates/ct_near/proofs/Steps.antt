-- Walks down from a condition, each place once.
use Rattle.std.proofs.Common.{◌≡◌, ◌⊎◌, ℕ, zero, suc, ◌+◌, ◌*◌, ◌^◌, ◌<◌, ◌≤◌, Bool, true, false, cond, List, [], ◌∷◌, ◌++◌, length, nat_eq, get_or, refl, ap, sym, ◌∙◌, subst, arith, inl, inr, replicate, set, Result, Ok, Err}
use Rattle.std.{specs.Prelude.{IsTrue, Contains, OnOk}, proofs.lemmas.Bool.{cases_eq, eq-eqb, eqb-true}, proofs.lemmas.List.{append-nil, get_or-set_other, get_or-set_same}, proofs.Math.Nat.{pow-succ'}, proofs.Math.Pow.{pow-lt}, proofs.lemmas.Nat.pow_pos}
use Rattle.std.proofs.lemmas.List.Elements.{Contains-append_cases, Contains-append_left, Contains-append_right, Contains-push, Contains-push_cases}
use Rattle.ct_word.{specs.WellFormed.{IsWellFormed, is_place_of}, proofs.Items.{first_item, later_item, no_item, sole_item}}
use Rattle.ct_worlds.{specs.declared.shape.Shape.Shape, specs.Shape.{parts_of, parts_at, shape_at}, proofs.Shaped.part_earlier}
use Rattle.ct_near.{specs.declared.index.{Entry.Entry, NullIndex.NullIndex}, specs.declared.walking.{Found.Found, Way.Way}, specs.Entries.{Extends, Lists}, proofs.Listing.{Keeps, extends_keeps, extends_same, keeps_listed}}
use Rattle.ct_near.specs.Walks.{AreOld, IsEntered, IsEntryAt, IsLedTo, IsMarked, IsNoted, IsUnder, IsWalked, IsWalking, next_at, onward, opened, start}
use Rattle.ct_word.specs.declared.connectives.Connective.TheVariants as connective
use Rattle.ct_word.specs.declared.kinds.Class.TheVariants as class
use Rattle.ct_worlds.specs.declared.shape.Shape.TheVariants as shape
use Rattle.ct_near.specs.declared.walking.Way.TheVariants as way

-- falls as a place is taken out of those that wait and its parts are put in
abbrev pub weight : List ℕ → ℕ
weight [] = 0
weight (p ∷ ps) = 2 ^ (p + p) + weight ps

pub weight_append : (ps qs : List ℕ) → weight (ps ++ qs) ≡ weight ps + weight qs
weight_append [] qs = omega arith
weight_append (p ∷ ps) qs = omega (arith, weight_append ps qs)

pow_two : (a p : ℕ) → a < p → 2 ^ (a + a) + 2 ^ (a + a) < 2 ^ (p + p)
pow_two a zero lt = absurd (omega (arith, lt))
pow_two a (suc p) lt =
    let half : 2 ^ (a + a) < 2 ^ suc (p + p) = pow-lt (omega (arith, lt)) in
    let same : 2 ^ (suc p + suc p) ≡ 2 * 2 ^ suc (p + p) = ap (λ n. 2 ^ n) (let e : suc p + suc p ≡ suc (suc (p + p)) = omega arith in e) ∙ pow-succ' 2 (suc (p + p)) in
    omega (arith, half, same)

weight_parts : (s : Shape) (p : ℕ) → ((q : ℕ) → Contains (parts_of s) q → q < p) → weight (parts_of s) < 2 ^ (p + p)
weight_parts (shape.Literal b) p less = pow_pos (p + p)
weight_parts (shape.Equal a b) p less = pow_pos (p + p)
weight_parts (shape.Not a) p less = let l = pow_two a p (less a (first_item [] a)) in omega (arith, l)
weight_parts (shape.Joined j a b) p less =
    let l = pow_two a p (less a (first_item (b ∷ []) a)) in
    let r = pow_two b p (less b (later_item (b ∷ []) a b (first_item [] b))) in
    omega (arith, l, r)

opened_and : (stop p a b q : ℕ) (e : Bool) → Contains (parts_of (cond e (shape.Literal false) (shape.Joined connective.And a b))) q → Contains (a ∷ b ∷ []) q
opened_and stop p a b q true h = absurd (no_item q h)
opened_and stop p a b q false h = h

-- what a walk goes on to is a part
opened_part : (w : Way) (p q : ℕ) (s : Shape) → Contains (parts_of (opened w p s)) q → Contains (parts_of s) q
opened_part (way.All conjunct) p q s h = h
opened_part (way.Ands stop) p q (shape.Joined connective.And a b) h = opened_and stop p a b q (nat_eq p stop) h
opened_part (way.Ands stop) p q (shape.Joined connective.Or a b) h = absurd (no_item q h)
opened_part (way.Ands stop) p q (shape.Literal b) h = absurd (no_item q h)
opened_part (way.Ands stop) p q (shape.Equal a b) h = absurd (no_item q h)
opened_part (way.Ands stop) p q (shape.Not a) h = absurd (no_item q h)

-- more zeros
zeros_alone : (n : ℕ) → AreOld (replicate n 0) 1
zeros_alone zero p = omega arith
zeros_alone (suc n) zero = omega arith
zeros_alone (suc n) (suc p) = zeros_alone n p

zeros_after : (xs zs : List ℕ) → AreOld xs 1 → AreOld zs 1 → AreOld (xs ++ zs) 1
zeros_after [] zs a b p = b p
zeros_after (x ∷ xs) zs a b zero = a zero
zeros_after (x ∷ xs) zs a b (suc p) = zeros_after xs zs (λ q. a (suc q)) b p

pub zeros_more : (n : ℕ) (old new : List ℕ) → new ≡ old ++ replicate n 0 → AreOld old 1 → AreOld new 1
zeros_more n old new is none = subst (λ l. AreOld l 1) (sym is) (zeros_after old (replicate n 0) none (zeros_alone n))

-- the mark of a walk is no greater than its number
pub marks_low : (marks : List ℕ) (place number : ℕ) → place < length marks → ((p : ℕ) → get_or marks p 0 ≤ number) → (p : ℕ) → get_or (set marks place number) p 0 ≤ number
marks_low marks place number lt low p = elim (cases_eq p place) [
  | inl same ↦ let e : get_or (set marks place number) p 0 ≡ number = ap (λ q. get_or (set marks place number) q 0) same ∙ get_or-set_same marks place number 0 lt in omega (arith, e)
  | inr ne ↦ let l = low p in omega (arith, l, get_or-set_other marks place p number 0 ne)
]

-- a walk goes into an And but for the place at which it stops
pub and_goes : (words : List ℕ) (stop place a b : ℕ) → shape_at words place ≡ shape.Joined connective.And a b → (place ≡ stop → ⊥) → next_at words (way.Ands stop) place ≡ a ∷ b ∷ []
and_goes words stop place a b is other = ap (λ s. parts_of (opened (way.Ands stop) place s)) is ∙ by (nat_eq place stop) refl where
  by : (e : Bool) → nat_eq place stop ≡ e → parts_of (cond (nat_eq place stop) (shape.Literal false) (shape.Joined connective.And a b)) ≡ a ∷ b ∷ []
  by true e = absurd (other (eqb-true place stop e))
  by false e = ap (λ t. parts_of (cond t (shape.Literal false) (shape.Joined connective.And a b))) e

-- and into no other condition
pub and_only : (words : List ℕ) (stop place : ℕ) → ((a b : ℕ) → shape_at words place ≡ shape.Joined connective.And a b → place ≡ stop) → next_at words (way.Ands stop) place ≡ []
and_only words stop place ends = by (shape_at words place) ends where
  here : (a b : ℕ) → place ≡ stop → parts_of (opened (way.Ands stop) place (shape.Joined connective.And a b)) ≡ []
  here a b same = ap (λ t. parts_of (cond t (shape.Literal false) (shape.Joined connective.And a b))) (ap (λ p. nat_eq p stop) same ∙ eq-eqb stop stop refl)

  by : (s : Shape) → ((a b : ℕ) → s ≡ shape.Joined connective.And a b → place ≡ stop) → parts_of (opened (way.Ands stop) place s) ≡ []
  by (shape.Joined connective.And a b) ends = here a b (ends a b refl)
  by (shape.Joined connective.Or a b) ends = refl
  by (shape.Literal b) ends = refl
  by (shape.Equal a b) ends = refl
  by (shape.Not a) ends = refl

-- an And is entered
pub entered_and : (words : List ℕ) (stop place a b : ℕ) (waiting new : List ℕ) (old more : Found) → next_at words (way.Ands stop) place ≡ a ∷ b ∷ [] → new ≡ waiting ++ a ∷ b ∷ []
    → more.inner.items ≡ old.inner.items ++ place ∷ [] → more.leaves.items ≡ old.leaves.items → more.index.entries.items ≡ old.index.entries.items → IsEntered words (way.Ands stop) place waiting new old more
entered_and words stop place a b waiting new old more next grown inner leaves entries = record {
  grown = grown ∙ ap (λ l. waiting ++ l) (sym next);
  inner = λ p h. elim (Contains-push_cases old.inner.items place p (subst (λ l. Contains l p) inner h)) [
    | inl there ↦ inl there
    | inr same ↦ inr (sym same, λ none. no_two (sym next ∙ ap (next_at words (way.Ands stop)) same ∙ none))
  ];
  leaves = λ p h. inl (subst (λ l. Contains l p) leaves h);
  kept = λ p h. record { leaf = λ none. subst (λ l. Contains l p) (sym leaves) (h.leaf none); inner = λ on. subst (λ l. Contains l p) (sym inner) (Contains-append_left old.inner.items (place ∷ []) p (h.inner on)) };
  noted = record { leaf = λ none. absurd (no_two (sym next ∙ none)); inner = λ on. subst (λ l. Contains l place) (sym inner) (Contains-push old.inner.items place) };
  entries = extends_same (IsEntryAt words (way.Ands stop) place) old.index.entries.items more.index.entries.items entries;
  pushed = inl (inner, leaves);
} where
  no_two : a ∷ b ∷ [] ≡ [] → ⊥
  no_two e = let long = ap length e in omega (arith, long)

-- the walk ends at a condition
pub entered_leaf : (words : List ℕ) (stop place : ℕ) (waiting : List ℕ) (old more : Found) → next_at words (way.Ands stop) place ≡ []
    → more.inner.items ≡ old.inner.items → more.leaves.items ≡ old.leaves.items ++ place ∷ [] → more.index.entries.items ≡ old.index.entries.items → IsEntered words (way.Ands stop) place waiting waiting old more
entered_leaf words stop place waiting old more none inner leaves entries = record {
  grown = sym (ap (λ l. waiting ++ l) none ∙ append-nil waiting);
  inner = λ p h. inl (subst (λ l. Contains l p) inner h);
  leaves = λ p h. elim (Contains-push_cases old.leaves.items place p (subst (λ l. Contains l p) leaves h)) [
    | inl there ↦ inl there
    | inr same ↦ inr (sym same, subst (λ x. next_at words (way.Ands stop) x ≡ []) same none)
  ];
  kept = λ p h. record { leaf = λ e. subst (λ l. Contains l p) (sym leaves) (Contains-append_left old.leaves.items (place ∷ []) p (h.leaf e)); inner = λ on. subst (λ l. Contains l p) (sym inner) (h.inner on) };
  noted = record { leaf = λ e. subst (λ l. Contains l place) (sym leaves) (Contains-push old.leaves.items place); inner = λ on. absurd (on none) };
  entries = extends_same (IsEntryAt words (way.Ands stop) place) old.index.entries.items more.index.entries.items entries;
  pushed = inr (none, inner, leaves);
}

-- the nulls that were listed still are
pub lists_still : (words : List ℕ) (old new : List Entry) (conjunct place : ℕ) → Keeps old new → Lists words old conjunct place → Lists words new conjunct place
lists_still words old new conjunct place keeps lists q h n is = keeps_listed words old new conjunct n keeps (lists q h n is)

-- on a walk into all conditions the nulls are listed
pub entered_any : {X E : Type 0} (words : List ℕ) (conjunct place : ℕ) (waiting new : List ℕ) (old : Found) (index : NullIndex) (r : Result X E) → OnOk r (new ≡ waiting ++ parts_at words place)
    → OnOk r (Extends (IsEntryAt words (way.All conjunct) place) old.index.entries.items index.entries.items) → OnOk r (Lists words index.entries.items conjunct place)
    → OnOk r (IsEntered words (way.All conjunct) place waiting new old (record { inner = old.inner; leaves = old.leaves; index = index }))
entered_any words conjunct place waiting new old index (Err e) grown added listed = tt
entered_any words conjunct place waiting new old index (Ok x) grown added listed = record {
  grown = grown;
  inner = λ p h. inl h;
  leaves = λ p h. inl h;
  kept = λ p h. lists_still words old.index.entries.items index.entries.items conjunct p (extends_keeps (IsEntryAt words (way.All conjunct) place) old.index.entries.items index.entries.items added) h;
  noted = listed;
  entries = added;
  pushed = tt;
}

module _ (words : List ℕ) (w : Way) where
  pub next_part : (p q : ℕ) → Contains (next_at words w p) q → Contains (parts_at words p) q
  next_part p q h = opened_part w p q (shape_at words p) h

  -- where a walk comes is a condition at or before the root
  pub led_under : (root p : ℕ) → IsWellFormed words → IsTrue (is_place_of words class.Cond root) → IsLedTo words w root p → IsUnder words root p
  led_under root p formed placed start = record { within = omega arith; placed = placed }
  led_under root p formed placed (onward {p = q} before h) =
      let u = led_under root q formed placed before in
      let e = part_earlier words q p formed u.placed (next_part q p h) in
      record { within = let l = u.within in let m = e.below in omega (arith, l, m); placed = e.placed }

  pub weight_next : (p : ℕ) → IsWellFormed words → IsTrue (is_place_of words class.Cond p) → weight (next_at words w p) < 2 ^ (p + p)
  weight_next p formed placed = weight_parts (opened w p (shape_at words p)) p (λ q h. (part_earlier words p q formed placed (next_part p q h)).below)

  -- one turn weighs less
  pub weight_less : (old rest new : List ℕ) (place : ℕ) → IsWellFormed words → IsTrue (is_place_of words class.Cond place) → old ≡ rest ++ place ∷ [] → new ≡ rest ++ next_at words w place
      → weight new < weight old
  weight_less old rest new place formed placed e f =
      let l = weight_next place formed placed in
      omega (arith, ap weight e, ap weight f, weight_append rest (place ∷ []), weight_append rest (next_at words w place), l)

  pub weight_rest : (old rest : List ℕ) (place : ℕ) → old ≡ rest ++ place ∷ [] → weight rest < weight old
  weight_rest old rest place e = let l = pow_pos (place + place) in omega (arith, ap weight e, weight_append rest (place ∷ []), l)

  module _ (root number : ℕ) where
    pub walking_starts : (marks : List ℕ) (found : Found) → AreOld marks number → found.inner.items ≡ [] → found.leaves.items ≡ [] → IsWalking words w root number marks (root ∷ []) found
    walking_starts marks found old no_inner no_leaves = record {
      ahead = λ p h. subst (IsLedTo words w root) (sole_item root p h) start;
      led = λ p e. absurd (none p e);
      begun = inr (first_item [] root);
      parts = λ p q e. absurd (none p e);
      noted = λ p e. absurd (none p e);
      leaves = λ p h. absurd (no_item p (subst (λ l. Contains l p) no_leaves h));
      inner = λ p h. absurd (no_item p (subst (λ l. Contains l p) no_inner h));
    } where
      none : (p : ℕ) → IsMarked marks number p → ⊥
      none p e = let lt = old p in omega (arith, lt, e)

    module _ (marks old rest : List ℕ) (place : ℕ) (found : Found) (so_far : IsWalking words w root number marks old found) (is : old ≡ rest ++ place ∷ []) where
      old_cases : (p : ℕ) → Contains old p → Contains rest p ⊎ (p ≡ place)
      old_cases p h = elim (Contains-append_cases rest (place ∷ []) p (subst (λ l. Contains l p) is h)) [ inl there ↦ inl there | inr last ↦ inr (sym (sole_item place p last)) ]

      was : (p : ℕ) → Contains rest p → Contains old p
      was p h = subst (λ l. Contains l p) (sym is) (Contains-append_left rest (place ∷ []) p h)

      pub place_led : IsLedTo words w root place
      place_led = so_far.ahead place (subst (λ l. Contains l place) (sym is) (Contains-append_right rest (place ∷ []) place (first_item [] place)))

      -- the walk was at the place already
      pub walking_skips : IsMarked marks number place → IsWalking words w root number marks rest found
      walking_skips marked = record {
        ahead = λ p h. so_far.ahead p (was p h);
        led = so_far.led;
        begun = by root so_far.begun;
        parts = λ p q e h. by q (so_far.parts p q e h);
        noted = so_far.noted;
        leaves = so_far.leaves;
        inner = so_far.inner;
      } where
        by : (p : ℕ) → IsMarked marks number p ⊎ Contains old p → IsMarked marks number p ⊎ Contains rest p
        by p (inl e) = inl e
        by p (inr h) = elim (old_cases p h) [ inl there ↦ inr there | inr same ↦ inl (ap (λ q. get_or marks q 0) same ∙ marked) ]

      -- the walk comes to the place
      pub walking_goes : (new : List ℕ) (more : Found) → place < length marks → IsEntered words w place rest new found more → IsWalking words w root number (set marks place number) new more
      walking_goes new more lt entered = record {
        ahead = λ p h. elim (Contains-append_cases rest (next_at words w place) p (subst (λ l. Contains l p) entered.grown h)) [
          | inl there ↦ so_far.ahead p (was p there)
          | inr next ↦ onward place_led next
        ];
        led = λ p e. elim (before p e) [ inl same ↦ subst (IsLedTo words w root) (sym same) place_led | inr b ↦ so_far.led p b ];
        begun = by root so_far.begun;
        parts = λ p q e h. elim (before p e) [
          | inl same ↦ inr (put q (Contains-append_right rest (next_at words w place) q (subst (λ x. Contains (next_at words w x) q) same h)))
          | inr b ↦ by q (so_far.parts p q b h)
        ];
        noted = λ p e. elim (before p e) [
          | inl same ↦ subst (IsNoted words w more) (sym same) entered.noted
          | inr b ↦ entered.kept p (so_far.noted p b)
        ];
        leaves = λ p h. elim (entered.leaves p h) [ inl b ↦ so_far.leaves p b | inr new ↦ (subst (IsLedTo words w root) (sym new.0) place_led, new.1) ];
        inner = λ p h. elim (entered.inner p h) [ inl b ↦ so_far.inner p b | inr new ↦ (subst (IsLedTo words w root) (sym new.0) place_led, new.1) ];
      } where
        here : IsMarked (set marks place number) number place
        here = get_or-set_same marks place number 0 lt

        before : (p : ℕ) → IsMarked (set marks place number) number p → (p ≡ place) ⊎ IsMarked marks number p
        before p e = elim (cases_eq p place) [ inl same ↦ inl same | inr ne ↦ inr (sym (get_or-set_other marks place p number 0 ne) ∙ e) ]

        still : (p : ℕ) → IsMarked marks number p → IsMarked (set marks place number) number p
        still p e = elim (cases_eq p place) [ inl same ↦ subst (IsMarked (set marks place number) number) (sym same) here | inr ne ↦ get_or-set_other marks place p number 0 ne ∙ e ]

        put : (p : ℕ) → Contains (rest ++ next_at words w place) p → Contains new p
        put p h = subst (λ l. Contains l p) (sym entered.grown) h

        by : (p : ℕ) → IsMarked marks number p ⊎ Contains old p → IsMarked (set marks place number) number p ⊎ Contains new p
        by p (inl e) = inl (still p e)
        by p (inr h) = elim (old_cases p h) [
          | inl there ↦ inr (put p (Contains-append_left rest (next_at words w place) p there))
          | inr same ↦ inl (subst (IsMarked (set marks place number) number) (sym same) here)
        ]

    pub walking_ends : (marks waiting : List ℕ) (found : Found) → waiting ≡ [] → IsWalking words w root number marks waiting found → IsWalked words w root number marks found
    walking_ends marks waiting found none so_far = record {
      begun = by root so_far.begun;
      led = so_far.led;
      parts = λ p q e h. by q (so_far.parts p q e h);
      noted = so_far.noted;
      leaves = so_far.leaves;
      inner = so_far.inner;
    } where
      by : (p : ℕ) → IsMarked marks number p ⊎ Contains waiting p → IsMarked marks number p
      by p (inl e) = e
      by p (inr h) = absurd (no_item p (subst (λ l. Contains l p) none h))
