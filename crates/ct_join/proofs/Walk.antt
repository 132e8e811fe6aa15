-- Going over the places that pass a test, from one to the next.
use Rattle.std.proofs.Common.{◌≡◌, ◌≢◌, ℕ, zero, suc, ◌+◌, ◌-◌, ◌<◌, ◌≤◌, ◌^◌, min, Bool, true, false, ◌||◌, List, [], ◌∷◌, ◌++◌, length, map, get_or, drop, Some, refl, sym, ap, subst, ◌∙◌, ◌⊎◌, inl, inr, append_assoc, append-nil, get_or-drop, drop-drop, take, take_all, arith}
use Rattle.std.{specs.Prelude.{filter, if◌then◌else◌, nat_eq, slice_get}, specs.List.range_with_len}
use Rattle.std.{proofs.lemmas.List.{drop_more, drop_all, take_more, map_push, length_push, get_or-map, length-map}, proofs.lemmas.Bool.{cases_Bool, cases_lt, cases_eq, eq-eqb, ne_eqb}}
use Rattle.std.proofs.lemmas.Option.{slice_get-get_or, slice_get_within, get_or_from_slice_get}
use Rattle.ct_chain.specs.Seen.{IsNoneFrom, IsLeastFrom}
use Rattle.ct_join.{specs.declared.keys.Key.Key, specs.Pairs.{may_agree, key_at, partners}, specs.Indexed.{number_of, has_number, is_null, places_from, IsIndex, IsNext}}
use Rattle.ct_join.specs.declared.keys.Key.TheVariants as key

module _ (f : Key → Bool) (keys : List Key) where
  -- the places that pass from a place on
  abbrev pub rest : ℕ → List ℕ
  rest at = places_from f at (drop at keys)

  one_more : (at : ℕ) → at < length keys → rest at ≡ (if f (key_at keys at) then at ∷ rest (at + 1) else rest (at + 1))
  one_more at lt = ap (places_from f at) (drop_more keys at key.Null lt)

  passed : (at : ℕ) → at < length keys → f (key_at keys at) ≡ false → rest at ≡ rest (at + 1)
  passed at lt e = one_more at lt ∙ ap (λ b. if b then at ∷ rest (at + 1) else rest (at + 1)) e

  here : (at : ℕ) → at < length keys → f (key_at keys at) ≡ true → rest at ≡ at ∷ rest (at + 1)
  here at lt e = one_more at lt ∙ ap (λ b. if b then at ∷ rest (at + 1) else rest (at + 1)) e

  pub far : (at : ℕ) → length keys ≤ at → rest at ≡ []
  far at le = ap (places_from f at) (drop_all at keys le)

  skip : (d at : ℕ) → at + d ≤ length keys → ((p : ℕ) → at ≤ p → p < at + d → f (key_at keys p) ≡ false) → rest at ≡ rest (at + d)
  skip zero at le none = let same : at ≡ at + zero = omega arith in ap rest same
  skip (suc d) at le none =
      let same : at + 1 + d ≡ at + suc d = omega arith in
      passed at (omega arith) (none at (omega arith) (omega arith)) ∙ skip d (at + 1) (omega arith) (λ p past below. none p (omega arith) (omega arith)) ∙ ap rest same

  -- nothing passes between two places
  pub none_between : (at place : ℕ) → at ≤ place → place ≤ length keys → ((p : ℕ) → at ≤ p → p < place → f (key_at keys p) ≡ false) → rest at ≡ rest place
  none_between at place past within none =
      let same : at + (place - at) ≡ place = omega arith in
      skip (place - at) at (omega arith) (λ p from below. none p from (omega arith)) ∙ ap rest same

  pub to_next : (at place : ℕ) → IsNext f keys at place → place < length keys → rest at ≡ place ∷ rest (place + 1)
  to_next at place next lt = none_between at place next.past next.within next.none ∙ here place lt (next.stands lt)

  pub to_end : (at place : ℕ) → IsNext f keys at place → length keys ≤ place → rest at ≡ []
  to_end at place next le = none_between at place next.past next.within next.none ∙ far place le

  next_here : (at : ℕ) → at < length keys → f (key_at keys at) ≡ true → IsNext f keys at at
  next_here at lt e = record { past = omega arith; within = omega arith; none = λ p from below. absurd (omega arith); stands = λ _. e }

  next_past : (at place : ℕ) → f (key_at keys at) ≡ false → IsNext f keys (at + 1) place → IsNext f keys at place
  next_past at place e next = record {
    past = omega (arith, next.past);
    within = next.within;
    none = λ p from below. none p from below (cases_eq p at);
    stands = next.stands;
  } where
    none : (p : ℕ) → at ≤ p → p < place → (p ≡ at) ⊎ (p ≡ at → ⊥) → f (key_at keys p) ≡ false
    none p from below (inl same) = ap (λ q. f (key_at keys q)) same ∙ e
    none p from below (inr other) = next.none p (omega arith) below

  first_place : (d at : ℕ) → at + d ≡ length keys → IsNext f keys at (get_or (rest at) 0 (length keys))
  first_place zero at e =
      subst (λ l. IsNext f keys at (get_or l 0 (length keys))) (sym (far at (omega arith)))
      (record { past = omega arith; within = omega arith; none = λ p from below. absurd (omega arith); stands = λ lt. absurd (omega arith) })
  first_place (suc d) at e = by_test (cases_Bool (f (key_at keys at))) (first_place d (at + 1) (omega arith)) where
    by_test : (f (key_at keys at) ≡ true) ⊎ (f (key_at keys at) ≡ false) → IsNext f keys (at + 1) (get_or (rest (at + 1)) 0 (length keys)) → IsNext f keys at (get_or (rest at) 0 (length keys))
    by_test (inl t) later = subst (λ l. IsNext f keys at (get_or l 0 (length keys))) (sym (here at (omega arith) t)) (next_here at (omega arith) t)
    by_test (inr t) later = subst (λ l. IsNext f keys at (get_or l 0 (length keys))) (sym (passed at (omega arith) t)) (next_past at (get_or (rest (at + 1)) 0 (length keys)) t later)

  -- the first of the places that pass is the next one
  pub first_is_next : (at : ℕ) → at ≤ length keys → IsNext f keys at (get_or (rest at) 0 (length keys))
  first_is_next at le = first_place (length keys - at) at (omega arith)

  -- the next place is so from each place before it
  pub next_later : (at m place : ℕ) → IsNext f keys at place → at ≤ m → m ≤ place → IsNext f keys m place
  next_later at m place next from le = record { past = le; within = next.within; none = λ p past below. next.none p (omega arith) below; stands = next.stands }

  -- those that pass are the places of all keys, filtered
  filtered : (d at : ℕ) → at + d ≡ length keys → filter (λ j. f (key_at keys j)) (range_with_len at d) ≡ rest at
  filtered zero at e = sym (far at (omega arith))
  filtered (suc d) at e =
      ap (λ l. if f (key_at keys at) then at ∷ l else l) (filtered d (at + 1) (omega arith)) ∙ sym (one_more at (omega arith))

  pub all_filtered : filter (λ j. f (key_at keys j)) (range_with_len 0 (length keys)) ≡ rest 0
  all_filtered = filtered (length keys) 0 (omega arith)

-- the lesser of two next places is the next one that passes either test
module _ (f g h : Key → Bool) (either : (k : Key) → h k ≡ (f k || g k)) (keys : List Key) where
  or_none : (a b : Bool) → a ≡ false → b ≡ false → (a || b) ≡ false
  or_none a b e e' = (λ i. e i || e' i)

  or_left : (a b : Bool) → a ≡ true → (a || b) ≡ true
  or_left a b e = ap (λ x. x || b) e

  or_right : (a b : Bool) → b ≡ true → (a || b) ≡ true
  or_right true b e = refl
  or_right false b e = e

  pub lesser_next : (at c z : ℕ) → IsNext f keys at c → IsNext g keys at z → IsNext h keys at (min c z)
  lesser_next at c z one other = record {
    past = omega (arith, one.past, other.past);
    within = omega (arith, one.within);
    none = λ p from below. either (key_at keys p) ∙ or_none (f (key_at keys p)) (g (key_at keys p)) (one.none p from (omega arith)) (other.none p from (omega arith));
    stands = λ lt. stands lt (cases_lt z c);
  } where
    stands : min c z < length keys → (z < c) ⊎ (c ≤ z) → h (key_at keys (min c z)) ≡ true
    stands lt (inl less) =
        let is : min c z ≡ z = omega arith in
        ap (λ p. h (key_at keys p)) is ∙ either (key_at keys z) ∙ or_right (f (key_at keys z)) (g (key_at keys z)) (other.stands (omega arith))
    stands lt (inr le) =
        let is : min c z ≡ c = omega arith in
        ap (λ p. h (key_at keys p)) is ∙ either (key_at keys c) ∙ or_left (f (key_at keys c)) (g (key_at keys c)) (one.stands (omega arith))

or_false : (b : Bool) → b ≡ (b || false)
or_false true = refl
or_false false = refl

or_true : (b : Bool) → true ≡ (b || true)
or_true true = refl
or_true false = refl

-- a key may be of one value with a constant if it has its number or is a null
agrees : (n : ℕ) (k : Key) → may_agree (key.Constant n) k ≡ (has_number n k || is_null k)
agrees n (key.Constant m) = or_false (nat_eq n m)
agrees n key.Null = or_true (nat_eq n 0)

-- what the chain of numbers answers
module _ (keys : List Key) (numbers nulls : List ℕ) (index : IsIndex keys numbers nulls) (n from : ℕ) where
  number_at : (p : ℕ) → p < length keys → slice_get numbers p ≡ Some (number_of (key_at keys p))
  number_at p lt =
      ap (λ l. slice_get l p) index.numbered ∙ slice_get-get_or (map number_of keys) p 0 (omega (arith, length-map keys number_of)) ∙ ap Some (get_or-map number_of keys p key.Null 0 lt)

  other_number : (p : ℕ) → p < length keys → slice_get numbers p ≢ Some n → has_number n (key_at keys p) ≡ false
  other_number p lt differs = ne_eqb n (number_of (key_at keys p)) (λ e. differs (number_at p lt ∙ ap Some (sym e)))

  pub number_none : from ≤ length keys → IsNoneFrom numbers n from → IsNext (has_number n) keys from (length keys)
  number_none le none = record { past = le; within = omega arith; none = λ p past lt. other_number p lt (none p past); stands = λ lt. absurd (omega arith) }

  pub number_found : (place : ℕ) → IsLeastFrom numbers n from place → IsNext (has_number n) keys from place
  number_found place least =
      let lt : place < length keys = omega (arith, slice_get_within numbers place n least.stands, ap length index.numbered, length-map keys number_of) in
      record {
        past = least.past;
        within = omega arith;
        none = λ p past below. other_number p (omega arith) (least.least p past below);
        stands = λ _. eq-eqb n (number_of (key_at keys place)) (sym (get_or_from_slice_get numbers place n n least.stands) ∙ get_or_from_slice_get numbers place (number_of (key_at keys place)) n (number_at place lt));
      }

-- what a walk over the places of a constant and of the nulls keeps
pub record IsWalk (n : ℕ) (keys : List Key) (nulls was now : List ℕ) (at constant index : ℕ) : Type 0 where
  pub found : now ++ rest (may_agree (key.Constant n)) keys at ≡ was ++ rest (may_agree (key.Constant n)) keys 0
  pub within : at ≤ length keys
  pub later : IsNext (has_number n) keys at constant
  pub left : drop index nulls ≡ rest is_null keys at
  pub count : index ≤ at

module _ (n : ℕ) (keys : List Key) (nulls was now : List ℕ) (at constant index : ℕ) (walk : IsWalk n keys nulls was now at constant index) where
  null_next : IsNext is_null keys at (get_or nulls index (length keys))
  null_next =
      let same : index + 0 ≡ index = omega arith in
      subst (IsNext is_null keys at)
      (ap (λ l. get_or l 0 (length keys)) (sym walk.left) ∙ get_or-drop index nulls 0 (length keys) ∙ ap (λ k. get_or nulls k (length keys)) same)
      (first_is_next is_null keys at walk.within)

  next : IsNext (may_agree (key.Constant n)) keys at (min constant (get_or nulls index (length keys)))
  next = lesser_next (has_number n) is_null (may_agree (key.Constant n)) (agrees n) keys at constant (get_or nulls index (length keys)) walk.later null_next

  partners_are : rest (may_agree (key.Constant n)) keys 0 ≡ partners (key.Constant n) keys
  partners_are = sym (all_filtered (may_agree (key.Constant n)) keys)

  pub walk_done : length keys ≤ at → now ≡ was ++ partners (key.Constant n) keys
  walk_done le =
      sym (append-nil now) ∙ ap (λ l. now ++ l) (sym (far (may_agree (key.Constant n)) keys at le)) ∙ walk.found ∙ ap (λ l. was ++ l) partners_are

  pub walk_ends : (place : ℕ) → place ≡ min constant (get_or nulls index (length keys)) → place ≡ length keys → now ≡ was ++ partners (key.Constant n) keys
  walk_ends place is end =
      sym (append-nil now) ∙ ap (λ l. now ++ l) (sym (to_end (may_agree (key.Constant n)) keys at (min constant (get_or nulls index (length keys))) next (omega arith)))
      ∙ walk.found ∙ ap (λ l. was ++ l) partners_are

  -- the nulls after a place, where it is one or none
  nulls_after : (place index' : ℕ) → place ≡ min constant (get_or nulls index (length keys)) → place < length keys → (get_or nulls index (length keys) ≡ place → index' ≡ index + 1)
      → (get_or nulls index (length keys) ≢ place → index' ≡ index) → (get_or nulls index (length keys) ≡ place) ⊎ (get_or nulls index (length keys) ≡ place → ⊥) → drop index' nulls ≡ rest is_null keys (place + 1)
  nulls_after place index' is lt more same (inl here) =
      let null_lt : get_or nulls index (length keys) < length keys = omega arith in
      ap (λ k. drop k nulls) (more here) ∙ sym (drop-drop 1 index nulls) ∙ ap (drop 1) (walk.left ∙ to_next is_null keys at (get_or nulls index (length keys)) null_next null_lt)
      ∙ ap (λ p. rest is_null keys (p + 1)) here
  nulls_after place index' is lt more same (inr other) =
      ap (λ k. drop k nulls) (same other) ∙ walk.left
      ∙ none_between is_null keys at (place + 1) (omega (arith, next.past)) (omega arith) (λ p past below. null_next.none p past (omega (arith, other)))

  count_after : (place index' : ℕ) → place ≡ min constant (get_or nulls index (length keys)) → (get_or nulls index (length keys) ≡ place → index' ≡ index + 1)
      → (get_or nulls index (length keys) ≢ place → index' ≡ index) → (get_or nulls index (length keys) ≡ place) ⊎ (get_or nulls index (length keys) ≡ place → ⊥) → index' ≤ place + 1
  count_after place index' is more same (inl here) = omega (arith, more here, walk.count, next.past)
  count_after place index' is more same (inr other) = omega (arith, same other, walk.count, next.past)

  pub walk_more : (place constant' index' : ℕ) → place ≡ min constant (get_or nulls index (length keys)) → place < length keys → IsNext (has_number n) keys (place + 1) constant'
      → (get_or nulls index (length keys) ≡ place → index' ≡ index + 1) → (get_or nulls index (length keys) ≢ place → index' ≡ index)
      → IsWalk n keys nulls was (now ++ place ∷ []) (place + 1) constant' index'
  walk_more place constant' index' is lt found more same = record {
    found = append_assoc now (place ∷ []) (rest (may_agree (key.Constant n)) keys (place + 1))
        ∙ ap (λ l. now ++ l) (sym (to_next (may_agree (key.Constant n)) keys at place (subst (IsNext (may_agree (key.Constant n)) keys at) (sym is) next) lt)) ∙ walk.found;
    within = omega arith;
    later = found;
    left = nulls_after place index' is lt more same (cases_eq (get_or nulls index (length keys)) place);
    count = count_after place index' is more same (cases_eq (get_or nulls index (length keys)) place);
  }

  -- where the place is not that of the constant, the constant's comes later
  pub constant_later : (place : ℕ) → place ≡ min constant (get_or nulls index (length keys)) → constant ≢ place → IsNext (has_number n) keys (place + 1) constant
  constant_later place is differs = next_later (has_number n) keys at (place + 1) constant walk.later (omega (arith, next.past)) (omega (arith, differs))

  -- the place that is gone to is at or before the constant's
  pub constant_at : (place : ℕ) → place ≡ min constant (get_or nulls index (length keys)) → IsNext (has_number n) keys place constant
  constant_at place is = next_later (has_number n) keys at place constant walk.later (omega (arith, next.past)) (omega arith)

  pub place_past : (place : ℕ) → place ≡ min constant (get_or nulls index (length keys)) → at ≤ place
  place_past place is = omega (arith, next.past)

-- a walk begins at the first place
pub walk_begins : (n : ℕ) (keys : List Key) (numbers nulls was : List ℕ) (constant : ℕ) → IsIndex keys numbers nulls → IsNext (has_number n) keys 0 constant
    → IsWalk n keys nulls was was 0 constant 0
walk_begins n keys numbers nulls was constant index next = record { found = refl; within = omega arith; later = next; left = index.placed; count = omega arith }

-- the keys before a place are indexed
pub record IsPart (keys : List Key) (numbers nulls : List ℕ) (place : ℕ) : Type 0 where
  pub count : length numbers ≡ place
  pub numbered : numbers ≡ map number_of (take place keys)
  pub placed : nulls ++ places_from is_null place (drop place keys) ≡ places_from is_null 0 keys

pub none_indexed : (keys : List Key) (numbers nulls : List ℕ) → numbers ≡ [] → nulls ≡ [] → IsPart keys numbers nulls 0
none_indexed keys numbers nulls none none' = record { count = ap length none; numbered = none; placed = ap (λ l. l ++ places_from is_null 0 keys) none' }

pub one_indexed : (keys : List Key) (numbers nulls numbers' nulls' : List ℕ) (place : ℕ) (k : Key) → IsPart keys numbers nulls place → place < length keys → k ≡ get_or keys place k
    → numbers' ≡ numbers ++ number_of k ∷ [] → nulls' ≡ nulls ++ places_from is_null place (k ∷ []) → IsPart keys numbers' nulls' (place + 1)
one_indexed keys numbers nulls numbers' nulls' place k part lt is more more' = record {
  count = ap length more ∙ length_push numbers (number_of k) ∙ ap (λ n. n + 1) part.count;
  numbered =
      more ∙ ap (λ l. l ++ number_of k ∷ []) part.numbered ∙ ap (λ x. map number_of (take place keys) ++ number_of x ∷ []) is
      ∙ sym (map_push number_of (take place keys) (get_or keys place k)) ∙ ap (map number_of) (sym (take_more keys place k lt));
  placed =
      ap (λ l. l ++ places_from is_null (place + 1) (drop (place + 1) keys)) more' ∙ append_assoc nulls (places_from is_null place (k ∷ [])) (places_from is_null (place + 1) (drop (place + 1) keys))
      ∙ ap (λ l. nulls ++ l) (both (is_null k) ∙ ap (λ x. places_from is_null place (x ∷ drop (place + 1) keys)) is ∙ ap (places_from is_null place) (sym (drop_more keys place k lt))) ∙ part.placed;
} where
  both : (b : Bool) → ((if b then place ∷ [] else []) ++ places_from is_null (place + 1) (drop (place + 1) keys))
      ≡ (if b then place ∷ places_from is_null (place + 1) (drop (place + 1) keys) else places_from is_null (place + 1) (drop (place + 1) keys))
  both true = refl
  both false = refl

pub all_indexed : (keys : List Key) (numbers nulls : List ℕ) (place : ℕ) → length keys < 2 ^ 32 → length keys ≤ place → IsPart keys numbers nulls place → IsIndex keys numbers nulls
all_indexed keys numbers nulls place few le part = record {
  few = few;
  numbered = part.numbered ∙ ap (map number_of) (take_all place keys le);
  placed = sym (append-nil nulls) ∙ ap (λ l. nulls ++ places_from is_null place l) (sym (drop_all place keys le)) ∙ part.placed;
}
