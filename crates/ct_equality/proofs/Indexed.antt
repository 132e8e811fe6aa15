-- Finding members by the places of their terms.
use Rattle.std.proofs.Common.{◌≡◌, ◌≢◌, ◌<◌, ℕ, zero, suc, true, false, List, [], ◌∷◌, ◌++◌, length, map, get_or, set, Some, None, nat_eq, refl, ap, sym, ◌∙◌, subst, inl, inr, arith}
use Rattle.std.{specs.Prelude.slice_get, specs.List.Contains, specs.List.IsDistinct, proofs.lemmas.List.length-map, proofs.lemmas.List.Elements.Contains-get_or}
use Rattle.std.{proofs.lemmas.Option.{get_or_from_slice_get, slice_get_within}, proofs.lemmas.List.Quantifiers.all_pairs_push}
use Rattle.std.{proofs.lemmas.Bool.{cases_eq, cases_lt, eq-eqb, false≢true, ne_eqb, false_from_ne_true}, proofs.lemmas.Bool.Decides.{nat_tests, Decides-eqb}, proofs.lemmas.Map.Made.IsDistinct-from_AllPairs}
use Rattle.ct_chain.specs.Seen.{AreDistinct}
use Rattle.ct_equality.{specs.declared.classes.Member.Member, specs.Terms.is_among, proofs.Trees.{stands, among_at}}
use Rattle.ct_equality.specs.Members.{is_listed, class_of, number_of, is_taken, members_at, numbered}
use Rattle.ct_equality.specs.Indexed.{AreIndexed, classed}

-- a place stands once
pub one_place : (us : List ℕ) → AreDistinct us → (i j : ℕ) → i < length us → j < length us → get_or us i 0 ≡ get_or us j 0 → i ≡ j
one_place us d i j a b e = elim (cases_lt i j) [
  | inl l ↦ absurd (d i j 0 l b e)
  | inr g ↦ elim (cases_eq i j) [ inl s ↦ s | inr f ↦ absurd (d j i 0 (omega (arith, g, f)) a (sym e)) ]
]

-- a place that a list does not have is not among its places
pub not_among : (us : List ℕ) (p : ℕ) → (Contains us p → ⊥) → is_among us p ≡ false
not_among us p no_ = false_from_ne_true (is_among us p) (λ e. let s = stands us p e in no_ (subst (Contains us) s.is (Contains-get_or us s.place 0 s.within)))

pub among_there : (us : List ℕ) (i p : ℕ) → slice_get us i ≡ Some p → is_among us p ≡ true
among_there us i p e = subst (λ q. is_among us q ≡ true) (get_or_from_slice_get us i p 0 e) (among_at us i (slice_get_within us i p e))

pub met_more : (us : List ℕ) (p : ℕ) → AreDistinct us → (Contains us p → ⊥) → AreDistinct (us ++ p ∷ [])
met_more us p d no_ = all_pairs_push (λ x y. x ≢ y) us p d (λ k e lt q. no_ (subst (Contains us) q (Contains-get_or us k e lt)))

-- a member at the only place of its term
pub record IsFound (ms : List Member) (i p : ℕ) : Type 0 where
  pub within : i < length ms
  pub is : (d : Member) → (get_or ms i d).place ≡ p
  pub before : (j : ℕ) (d : Member) → j < length ms → j ≢ i → (get_or ms j d).place ≢ p

tail_found : (m : Member) (ms : List Member) (i p : ℕ) → IsFound (m ∷ ms) (suc i) p → IsFound ms i p
tail_found m ms i p f = record {
  within = (let w = f.within in omega (arith, w));
  is = f.is;
  before = λ j d lt ne. f.before (suc j) d (omega (arith, lt)) (λ e. ne (omega (arith, e)));
}

head_other : (m : Member) (ms : List Member) (i p : ℕ) → IsFound (m ∷ ms) (suc i) p → nat_eq m.place p ≡ false
head_other m ms i p f = ne_eqb m.place p (f.before 0 m (omega arith) (λ e. absurd (omega (arith, e))))

pub class_found : (ms : List Member) (i p : ℕ) (d : Member) → IsFound ms i p → class_of ms p ≡ (get_or ms i d).class
class_found [] i p d f = absurd (let w = f.within in omega (arith, w))
class_found (m ∷ ms) zero p d f = rw (eq-eqb m.place p (f.is d)) refl
class_found (m ∷ ms) (suc i) p d f = rw (head_other m ms i p f) (class_found ms i p d (tail_found m ms i p f))

pub number_found : (ms : List Member) (i p : ℕ) (d : Member) → IsFound ms i p → number_of ms p ≡ (get_or ms i d).number
number_found [] i p d f = absurd (let w = f.within in omega (arith, w))
number_found (m ∷ ms) zero p d f = rw (eq-eqb m.place p (f.is d)) refl
number_found (m ∷ ms) (suc i) p d f = rw (head_other m ms i p f) (number_found ms i p d (tail_found m ms i p f))

none_numbered : (p k : ℕ) (ms : List Member) → ((j : ℕ) (d : Member) → j < length ms → (get_or ms j d).place ≢ p) → numbered p k ms ≡ ms
none_numbered p k [] f = refl
none_numbered p k (m ∷ ms) f = rw (ne_eqb m.place p (f 0 m (omega arith))) (ap (λ l. m ∷ l) (none_numbered p k ms (λ j d lt. f (suc j) d (omega (arith, lt)))))

pub number_set : (ms : List Member) (i p k : ℕ) (d : Member) → IsFound ms i p → numbered p k ms ≡ set ms i (record { place = (get_or ms i d).place; class = (get_or ms i d).class; number = Some k })
number_set [] i p k d f = absurd (let w = f.within in omega (arith, w))
number_set (m ∷ ms) zero p k d f =
    rw (eq-eqb m.place p (f.is d)) (ap (λ l. record { place = m.place; class = m.class; number = Some k } ∷ l) (none_numbered p k ms (λ j e lt. f.before (suc j) e (omega (arith, lt)) (λ z. absurd (omega (arith, z))))))
number_set (m ∷ ms) (suc i) p k d f = rw (head_other m ms i p f) (ap (λ l. m ∷ l) (number_set ms i p k d (tail_found m ms i p f)))

places_at : (ms : List Member) (i : ℕ) (d : Member) → i < length ms → get_or (map (λ m. m.place) ms) i 0 ≡ (get_or ms i d).place
places_at [] i d lt = absurd (omega (arith, lt))
places_at (m ∷ ms) zero d lt = refl
places_at (m ∷ ms) (suc i) d lt = places_at ms i d (omega (arith, lt))

module _ (words : List ℕ) (ms : List Member) (are : AreIndexed words ms) where
  same_length : length words ≡ length ms
  same_length = ap length (sym are.places) ∙ length-map ms (λ m. m.place)

  place_is : (i : ℕ) (d : Member) → i < length ms → (get_or ms i d).place ≡ get_or words i 0
  place_is i d lt = sym (places_at ms i d lt) ∙ ap (λ l. get_or l i 0) are.places

  pub index_within : (i p : ℕ) → slice_get words i ≡ Some p → i < length ms
  index_within i p e = let w = slice_get_within words i p e in let l = same_length in omega (arith, w, l)

  pub found_at : (i p : ℕ) → slice_get words i ≡ Some p → IsFound ms i p
  found_at i p e =
      let lt = index_within i p e in
      let at = get_or_from_slice_get words i p 0 e in
      record {
        within = lt;
        is = λ d. place_is i d lt ∙ at;
        before = λ j d less ne q.
            ne (one_place words are.distinct j i (let l = same_length in omega (arith, less, l)) (slice_get_within words i p e) (sym (place_is j d less) ∙ q ∙ sym at));
      }

  listed_among : (us : List Member) (p : ℕ) → is_listed us p ≡ is_among (map (λ m. m.place) us) p
  listed_among [] p = refl
  listed_among (m ∷ us) p = grind (arith, nat_tests, listed_among us p)

  pub listed_is : (p : ℕ) → is_listed ms p ≡ is_among words p
  listed_is p = listed_among ms p ∙ ap (λ l. is_among l p) are.places

  pub numbered_indexed : (p k : ℕ) → AreIndexed words (numbered p k ms)
  numbered_indexed p k = record { places = same_places ms ∙ are.places; distinct = are.distinct } where
    same_places : (us : List Member) → map (λ m. m.place) (numbered p k us) ≡ map (λ m. m.place) us
    same_places [] = refl
    same_places (m ∷ us) = ap (λ l. m.place ∷ l) (same_places us)

pub unlisted_number : (ms : List Member) (p : ℕ) → is_listed ms p ≡ false → number_of ms p ≡ None
unlisted_number [] p e = refl
unlisted_number (m ∷ ms) p e = grind (arith, nat_tests, unlisted_number ms p)

-- each of these terms with its class
module _ (words : List ℕ) (ms : List Member) where
  pub classed_listed : (us : List ℕ) (p : ℕ) → is_listed (classed words ms us) p ≡ is_among us p
  classed_listed [] p = refl
  classed_listed (u ∷ us) p = grind (arith, nat_tests, classed_listed us p)

  pub classed_class : (us : List ℕ) (p : ℕ) → is_among us p ≡ true → class_of (classed words ms us) p ≡ class_of ms p
  classed_class [] p e = absurd (false≢true e)
  classed_class (u ∷ us) p e = grind (arith, nat_tests, classed_class us p)

  pub classed_number : (us : List ℕ) (p : ℕ) → number_of (classed words ms us) p ≡ number_of (members_at words us) p
  classed_number [] p = refl
  classed_number (u ∷ us) p = rw (classed_number us p)

  pub classed_taken : (us : List ℕ) (k : ℕ) → is_taken (classed words ms us) k ≡ is_taken (members_at words us) k
  classed_taken [] k = refl
  classed_taken (u ∷ us) k = rw (classed_taken us k)

  pub classed_places : (us : List ℕ) → map (λ m. m.place) (classed words ms us) ≡ us
  classed_places [] = refl
  classed_places (u ∷ us) = ap (λ l. u ∷ l) (classed_places us)

pub numbered_unlisted : (ms : List Member) (p k : ℕ) → is_listed ms p ≡ false → numbered p k ms ≡ ms
numbered_unlisted [] p k e = refl
numbered_unlisted (m ∷ ms) p k e = grind (arith, nat_tests, numbered_unlisted ms p k)

pub is_there : (us : List ℕ) (p : ℕ) → is_among us p ≡ true → (Contains us p → ⊥) → ⊥
is_there us p e no_ = false≢true (sym (not_among us p no_) ∙ e)

pub distinct_places : (us : List ℕ) → AreDistinct us → IsDistinct nat_eq us
distinct_places us d = IsDistinct-from_AllPairs Decides-eqb us d
