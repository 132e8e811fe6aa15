-- The least number of underscores whose mark is free.
use Rattle.std.proofs.Common.{◌≡◌, ℕ, zero, suc, ◌+◌, ◌<◌, ◌≤◌, ◌⊎◌, max, Bool, true, false, ◌&&◌, List, [], ◌∷◌, ◌++◌, length, take, get_or, replicate, refl, ap, sym, ◌∙◌, subst, arith, inl, inr, nat_eq}
use Rattle.std.{specs.Prelude.{nat_le, flat_map, All, IsTrue, IsFalse}, specs.List.{Contains, list_any}}
use Rattle.std.proofs.lemmas.{Bool.{Decides.nat_tests}, List.{length-replicate, take_more, get_or_default, append_assoc, append-nil}, Grind.flat_map-append}
use Rattle.std.proofs.lemmas.List.Elements.{All-append, All-cons, All-nil, All-head, All-tail, All-push, All-contains, All-contains_itself, All-weaker, Contains-append_left, Contains-append_right, Contains-append_cases, Contains-push}
use Rattle.ct_word.{specs.declared.values.Null.Null, specs.declared.values.Term.Term, specs.Value.{same_text, same_null}}
use Rattle.ct_word.specs.declared.values.CRow.{CRow}
use Rattle.ct_word.{specs.WellFormed.{IsWellFormed, is_place_of}, specs.Reading.{IsTerm, term_at}, specs.Stands.{itself, StandsAt, TermBelow}, proofs.Places.stands_term}
use Rattle.ct_condition.specs.Terms.{BelowSome}
use Rattle.ct_operators.{specs.Terms.TermOfRows, proofs.Reaching.term_alone}
use Rattle.ct_word.specs.declared.kinds.Class.TheVariants as class
use Rattle.ct_word.proofs.{Alike.null_decides, Items.{no_item, first_item, later_item, item_cases, sole_item}}
use Rattle.ct_word.specs.declared.values.Null.TheVariants as null
use Rattle.ct_word.specs.declared.values.Term.TheVariants as term
use Rattle.ct_csv.specs.{Renaming.{mark, is_unmarked, IsLeastFree}, Underscores.{run_of, free_of_name, free_of, free_of_all, null_in, free_of_terms, IsFreeWith}}

-- a name begins with a mark where its run is as long
run_marks : (i : ℕ) (w : List ℕ) → same_text (take i w) (replicate i 95) ≡ nat_le i (run_of w)
run_marks zero w = grind (arith, nat_tests)
run_marks (suc i) [] = grind (arith, nat_tests)
run_marks (suc i) (b ∷ w) = by (nat_eq b 95) refl (run_marks i w) where
  by : (e : Bool) → nat_eq b 95 ≡ e → same_text (take i w) (replicate i 95) ≡ nat_le i (run_of w) → same_text (take (suc i) (b ∷ w)) (replicate (suc i) 95) ≡ nat_le (suc i) (run_of (b ∷ w))
  by true is rest = rw is (rest ∙ grind (arith, nat_tests))
  by false is rest = rw is (grind (arith, nat_tests))

marked_is : (i b : ℕ) (w : List ℕ) → same_text (take (length (mark i)) (b ∷ w)) (mark i) ≡ (nat_eq b 110 && nat_le i (run_of w))
marked_is i b w = ap (λ n. nat_eq b 110 && same_text (take n w) (replicate i 95)) (length-replicate i 95) ∙ ap (λ e. nat_eq b 110 && e) (run_marks i w)

unmarked_is : (i : ℕ) (t : List ℕ) → 1 ≤ i → is_unmarked i (term.Null (null.Named t)) ≡ nat_le (free_of_name t) i
unmarked_is i [] h = grind (arith, nat_tests)
unmarked_is i (b ∷ w) h = by (nat_eq b 110) refl where
  by : (e : Bool) → nat_eq b 110 ≡ e → is_unmarked i (term.Null (null.Named (b ∷ w))) ≡ nat_le (free_of_name (b ∷ w)) i
  by true is = rw (marked_is i b w, is) (grind (arith, nat_tests))
  by false is = rw (marked_is i b w, is) (grind (arith, nat_tests))

-- the greatest of nulls
from_within : (ns : List Null) (m : ℕ) → m ≤ free_of_all m ns
from_within [] m = omega arith
from_within (n ∷ ns) m = omega (arith, from_within ns (max m (free_of n)))

each_within : (ns : List Null) (m : ℕ) (n : Null) → IsTrue (list_any (same_null n) ns) → free_of n ≤ free_of_all m ns
each_within [] m n h = absurd (grind arith)
each_within (x ∷ ns) m n h = by (same_null n x) refl (each_within ns (max m (free_of x)) n) where
  by : (e : Bool) → same_null n x ≡ e → (IsTrue (list_any (same_null n) ns) → free_of n ≤ free_of_all (max m (free_of x)) ns) → free_of n ≤ free_of_all (max m (free_of x)) ns
  by true is rest = let same = ap free_of ((null_decides n x).0 is) in omega (arith, from_within ns (max m (free_of x)), same)
  by false is rest = rest (rw is at h)

max_cases : (a b : ℕ) → (max a b ≡ a) ⊎ (max a b ≡ b)
max_cases a b = by (nat_le a b) refl where
  by : (e : Bool) → nat_le a b ≡ e → (max a b ≡ a) ⊎ (max a b ≡ b)
  by true is = inr (grind (arith, nat_tests))
  by false is = inl (grind (arith, nat_tests))

attained : (ns : List Null) (m : ℕ) → (free_of_all m ns ≡ m) ⊎ ((n : Null) × Contains ns n × (free_of n ≡ free_of_all m ns))
attained [] m = inl refl
attained (x ∷ ns) m =
    elim (attained ns (max m (free_of x))) [
      | inl e ↦ elim (max_cases m (free_of x)) [
        | inl old ↦ inl (e ∙ old)
        | inr new ↦ inr (x, first_item ns x, sym (e ∙ new))
      ]
      | inr found ↦ inr (found.0, later_item ns x found.0 found.1, found.2)
    ]

-- what a number is for the nulls that were looked at
pub record IsFreeSoFar {R : Type 0} (below : R → Term → Type 0) (rows seen : List R) (free : ℕ) : Type 0 where
  pub from_one : 1 ≤ free
  pub each : All (λ r. (n : Null) → below r (term.Null n) → free_of n ≤ free) seen
  pub some : (free ≡ 1) ⊎ ((r : R) × (n : Null) × Contains rows r × below r (term.Null n) × (free_of n ≡ free))

module _ {R : Type 0} (below : R → Term → Type 0) (rows : List R) where
  pub none_seen : IsFreeSoFar below rows [] 1
  none_seen = record { from_one = omega arith; each = All-nil _; some = inl refl }

  pub one_more : (seen : List R) (free : ℕ) (r : R) (ns : List Null) → IsFreeSoFar below rows seen free → Contains rows r
      → All (λ n. below r (term.Null n)) ns → ((n : Null) → below r (term.Null n) → IsTrue (list_any (same_null n) ns)) → IsFreeSoFar below rows (seen ++ r ∷ []) (free_of_all free ns)
  one_more seen free r ns so_far among each all =
      let grown = from_within ns free in
      record {
        from_one = omega (arith, so_far.from_one, grown);
        each =
            All-append (λ r. (n : Null) → below r (term.Null n) → free_of n ≤ free_of_all free ns) seen (r ∷ [])
            (All-weaker (λ r. (n : Null) → below r (term.Null n) → free_of n ≤ free) (λ r. (n : Null) → below r (term.Null n) → free_of n ≤ free_of_all free ns)
            (λ x f n b. omega (arith, f n b, grown)) seen so_far.each)
            (All-cons (λ r. (n : Null) → below r (term.Null n) → free_of n ≤ free_of_all free ns) r [] (λ n b. each_within ns free n (all n b)) (All-nil _));
        some = elim (attained ns free) [
          | inl e ↦ elim so_far.some [
            | inl one ↦ inl (e ∙ one)
            | inr old ↦ inr (old.0, old.1, old.2, old.3, old.4 ∙ sym e)
          ]
          | inr new ↦ inr (r, new.0, among, All-contains (λ n. below r (term.Null n)) ns new.0 each new.1, new.2)
        ];
      }

  -- all were looked at
  module _ (free : ℕ) (so_far : IsFreeSoFar below rows rows free) where
    unmarked : (r : R) (t : Term) → Contains rows r → below r t → IsTrue (is_unmarked free t)
    unmarked r (term.Column k) among b = refl
    unmarked r (term.Null (null.Named t)) among b =
        let le = All-contains (λ r. (n : Null) → below r (term.Null n) → free_of n ≤ free) rows r so_far.each among (null.Named t) b in
        unmarked_is free t so_far.from_one ∙ grind (arith, nat_tests, le)
    unmarked r (term.Null (null.Fresh s k)) among b = refl
    unmarked r (term.Value x) among b = refl

    pub taken : (i : ℕ) → 1 ≤ i → i < free → (r : R) × (t : Term) × Contains rows r × below r t × IsFalse (is_unmarked i t)
    taken i from lt = elim so_far.some [
      | inl one ↦ absurd (omega (arith, from, lt, one))
      | inr some ↦ by some.0 some.1 some.2 some.3 some.4
    ] where
      by : (r : R) (n : Null) → Contains rows r → below r (term.Null n) → free_of n ≡ free → (r : R) × (t : Term) × Contains rows r × below r t × IsFalse (is_unmarked i t)
      by r (null.Named t) among b e = (r, term.Null (null.Named t), among, b, unmarked_is i t from ∙ grind (arith, nat_tests, e, lt))
      by r (null.Fresh s k) among b e = absurd (omega (arith, from, lt, e))

-- the places of rows: of the condition of each, and of its cells
abbrev pub places_of_row : CRow → List ℕ
places_of_row r = r.cond ∷ r.cells

abbrev pub places_of_rows : List CRow → List ℕ
places_of_rows rows = flat_map places_of_row rows

one_row_more : (rows : List CRow) (r : CRow) → places_of_rows (rows ++ r ∷ []) ≡ places_of_rows rows ++ places_of_row r
one_row_more rows r = flat_map-append places_of_row rows (r ∷ []) ∙ ap (λ ps. places_of_rows rows ++ ps) (append-nil (places_of_row r))

pub place_of_row : (rows : List CRow) (r : CRow) (p : ℕ) → Contains rows r → Contains (places_of_row r) p → Contains (places_of_rows rows) p
place_of_row [] r p among h = absurd (no_item r among)
place_of_row (x ∷ rows) r p among h = elim (item_cases rows x r among) [
  | inl e ↦ Contains-append_left (places_of_row x) (places_of_rows rows) p (subst (λ z. Contains (places_of_row z) p) (sym e) h)
  | inr there ↦ Contains-append_right (places_of_row x) (places_of_rows rows) p (place_of_row rows r p there h)
]

row_of_place : (rows : List CRow) (p : ℕ) → Contains (places_of_rows rows) p → (r : CRow) × Contains rows r × Contains (places_of_row r) p
row_of_place [] p h = absurd (no_item p h)
row_of_place (x ∷ rows) p h = elim (Contains-append_cases (places_of_row x) (places_of_rows rows) p h) [
  | inl here ↦ (x, first_item rows x, here)
  | inr there ↦ let found = row_of_place rows p there in (found.0, later_item rows x found.0 found.1, found.2)
]

-- what a number is for the nulls below the first ones of these places
abbrev pub IsFreeBelow : List ℕ → List CRow → List ℕ → ℕ → Type 0
IsFreeBelow words rows seen free = IsFreeSoFar (TermBelow words) (places_of_rows rows) seen free

module _ (words : List ℕ) (formed : IsWellFormed words) (rows : List CRow) where
  -- a place that was looked at before
  pub seen_again : (seen : List ℕ) (free p : ℕ) → IsFreeBelow words rows seen free → Contains seen p → IsFreeBelow words rows (seen ++ p ∷ []) free
  seen_again seen free p so_far there = record {
    from_one = so_far.from_one;
    each = All-push (λ q. (n : Null) → TermBelow words q (term.Null n) → free_of n ≤ free) seen p so_far.each (All-contains (λ q. (n : Null) → TermBelow words q (term.Null n) → free_of n ≤ free) seen p so_far.each there);
    some = so_far.some;
  }

  -- a condition with the nulls below it
  pub condition_seen : (seen : List ℕ) (free new cond : ℕ) → IsFreeBelow words rows seen free → Contains (places_of_rows rows) cond → IsFreeWith words cond free new → IsFreeBelow words rows (seen ++ cond ∷ []) new
  condition_seen seen free new cond so_far among with =
      let here : (n : Null) → BelowSome words (cond ∷ []) (term.Null n) → TermBelow words cond (term.Null n) = λ n b. subst (λ p. TermBelow words p (term.Null n)) (sym (sole_item cond b.place b.among)) b.below in
      subst (λ m. IsFreeBelow words rows (seen ++ cond ∷ []) m) (sym with.is)
      (one_more (TermBelow words) (places_of_rows rows) seen free cond with.nulls so_far among
      (All-weaker (λ n. BelowSome words (cond ∷ []) (term.Null n)) (λ n. TermBelow words cond (term.Null n)) here with.nulls with.are.each)
      (λ n b. with.are.all n (record { place = cond; among = first_item [] cond; below = b })))

  -- a term
  term_seen : (seen : List ℕ) (free p : ℕ) → IsFreeBelow words rows seen free → Contains (places_of_rows rows) p → IsTrue (is_place_of words class.Term p)
      → IsFreeBelow words rows (seen ++ p ∷ []) (free_of_all free (null_in (term_at words p)))
  term_seen seen free p so_far among is =
      one_more (TermBelow words) (places_of_rows rows) seen free p (null_in (term_at words p)) so_far among
      (each (term_at words p) refl) (λ n b. all (term_at words p) n (term_alone words formed p (term.Null n) is b)) where
        each : (t : Term) → term_at words p ≡ t → All (λ n. TermBelow words p (term.Null n)) (null_in t)
        each (term.Null n) e = All-cons (λ m. TermBelow words p (term.Null m)) n [] (p, itself, subst (λ t. StandsAt words p (IsTerm t)) e (stands_term words p is)) (All-nil _)
        each (term.Column k) e = All-nil _
        each (term.Value x) e = All-nil _

        all : (t : Term) (n : Null) → term.Null n ≡ t → IsTrue (list_any (same_null n) (null_in t))
        all t n e = subst (λ u. IsTrue (list_any (same_null n) (null_in u))) e (rw ((null_decides n n).1 refl) refl)

  abbrev term_there : ℕ → Type 0
  term_there p = IsTrue (is_place_of words class.Term p)

  -- the terms at some places
  pub terms_seen : (ps seen : List ℕ) (free : ℕ) → IsFreeBelow words rows seen free → All (Contains (places_of_rows rows)) ps → All (λ p. IsTrue (is_place_of words class.Term p)) ps
      → IsFreeBelow words rows (seen ++ ps) (free_of_terms words free ps)
  terms_seen [] seen free so_far among are = subst (λ s. IsFreeBelow words rows s free) (sym (append-nil seen)) so_far
  terms_seen (p ∷ ps) seen free so_far among are =
      subst (λ s. IsFreeBelow words rows s (free_of_terms words free (p ∷ ps))) (append_assoc seen (p ∷ []) ps)
      (terms_seen ps (seen ++ p ∷ []) (free_of_all free (null_in (term_at words p))) (term_seen seen free p so_far (All-head (Contains (places_of_rows rows)) p ps among) (All-head term_there p ps are)) (All-tail (Contains (places_of_rows rows)) p ps among) (All-tail term_there p ps are))

  -- a row, whose condition was looked at with it or before
  pub row_seen : (i free mid new : ℕ) (r d : CRow) → i < length rows → r ≡ get_or rows i d → All (λ p. IsTrue (is_place_of words class.Term p)) r.cells
      → IsFreeBelow words rows (places_of_rows (take i rows) ++ r.cond ∷ []) mid → new ≡ free_of_terms words mid r.cells → IsFreeBelow words rows (places_of_rows (take (i + 1) rows)) new
  row_seen i free mid new r d lt at are so_far is =
      let there : Contains rows r = (i, lt, get_or_default rows i r d lt ∙ sym at) in
      let more : take (i + 1) rows ≡ take i rows ++ r ∷ [] = take_more rows i d lt ∙ ap (λ x. take i rows ++ x ∷ []) (sym at) in
      let seen = places_of_rows (take i rows) in
      subst (λ s. IsFreeBelow words rows s new) (sym (ap places_of_rows more ∙ one_row_more (take i rows) r))
      (subst (λ m. IsFreeBelow words rows (seen ++ r.cond ∷ r.cells) m) (sym is)
      (subst (λ s. IsFreeBelow words rows s (free_of_terms words mid r.cells)) (append_assoc seen (r.cond ∷ []) r.cells)
      (terms_seen r.cells (seen ++ r.cond ∷ []) mid so_far
      (All-weaker (Contains r.cells) (Contains (places_of_rows rows)) (λ p h. place_of_row rows r p there (later_item r.cells r.cond p h)) r.cells (All-contains_itself r.cells)) are)))

-- the condition of a row that was looked at
pub last_there : (rows : List CRow) (i : ℕ) (r d : CRow) → i < length rows → r ≡ get_or rows i d → Contains (places_of_rows (take (i + 1) rows)) r.cond
last_there rows i r d lt at =
    let more : take (i + 1) rows ≡ take i rows ++ r ∷ [] = take_more rows i d lt ∙ ap (λ x. take i rows ++ x ∷ []) (sym at) in
    subst (λ xs. Contains (places_of_rows xs) r.cond) (sym more) (place_of_row (take i rows ++ r ∷ []) r r.cond (Contains-push (take i rows) r) (first_item r.cells r.cond))

-- the nulls of rows
pub least_of : (words : List ℕ) (rows : List CRow) (free : ℕ) → IsFreeBelow words rows (places_of_rows rows) free → IsLeastFree free (TermOfRows words rows)
least_of words rows free so_far = record {
  from_one = so_far.from_one;
  free = λ t b. unmarked (TermBelow words) (places_of_rows rows) free so_far b.below.place t (place_of_row rows b.row b.below.place b.among b.below.among) b.below.below;
  least = λ i from lt.
      let some = taken (TermBelow words) (places_of_rows rows) free so_far i from lt in
      let row = row_of_place rows some.0 some.2 in
      (some.1, record { row = row.0; among = row.1; below = record { place = some.0; among = row.2; below = some.3 } }, some.4);
}
