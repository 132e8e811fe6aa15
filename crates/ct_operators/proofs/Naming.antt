-- A term stands below a place exactly where it is one of the terms of what the place stands for.
use Rattle.std.proofs.Common.{◌≡◌, ℕ, zero, suc, ◌<◌, true, List, [], ◌∷◌, ◌++◌, map, Option, Some, refl, ap, sym, subst, arith, inl, inr}
use Rattle.std.{specs.Prelude.{IsTrue, All, slice_get, flat_map}, specs.List.Contains, proofs.lemmas.Bool.false≢true}
use Rattle.std.proofs.lemmas.List.Elements.{All-contains, Contains-append_left, Contains-append_right, Contains-append_cases}
use Rattle.ct_word.{specs.declared.kinds.Kind.Kind, specs.declared.values.Term.Term, specs.declared.values.CRow.CRow, specs.Word.{kind_of, left_of, right_of}}
use Rattle.ct_word.{specs.Change.PlainRow, specs.Condition.{Condition, True, False, Same}, proofs.Items.unmapped_item, proofs.Places.stands_term}
use Rattle.ct_word.{specs.WellFormed.{IsWellFormed, has_class, is_place_of}, specs.Reading.{as_cond, condition_at, term_at, plain_crow}}
use Rattle.ct_word.specs.Stands.{itself, TermBelow, places_in}
use Rattle.ct_query.specs.Terms.{condition_terms}
use Rattle.ct_condition.{specs.Terms.{BelowSome}, proofs.Reached.{no_term_at, under_one, under_none}}
use Rattle.ct_worlds.{specs.Shape.{shape_of, shape_of_word, IsShaped, IsEarlier}, proofs.Shaped.shaped}
use Rattle.ct_operators.{specs.Tables.IsRow, specs.Terms.{TermOfRow, TermOfRows}}
use Rattle.ct_operators.proofs.Reaching.{behind, foremost, first_or_behind, at_or_under, word_of_place, named_by, under_named, word_apart, term_alone}
pub use Rattle.ct_word.proofs.Items.{mapped_item as mapped, flat_item as given}
use Rattle.ct_word.specs.declared.kinds.Kind.TheVariants as kind
use Rattle.ct_word.specs.declared.kinds.Class.TheVariants as class

-- the terms of a row
abbrev pub row_terms : PlainRow → List Term
row_terms r = r.cells ++ condition_terms r.condition

-- the cells of a row are places of terms, and its condition is a place of a condition
abbrev pub HasPlaces : List ℕ → CRow → Type 0
HasPlaces ws r = All (λ p. IsTrue (is_place_of ws class.Term p)) r.cells × IsTrue (is_place_of ws class.Cond r.cond)

module _ (ws : List ℕ) (formed : IsWellFormed ws) where
  -- what a condition says, by its word
  shaped_by : (p w : ℕ) → slice_get ws p ≡ Some w → IsTrue (is_place_of ws class.Cond p) → IsShaped ws p (shape_of (kind_of w) (left_of w) (right_of w))
  shaped_by p w there e = subst (λ o. IsShaped ws p (shape_of_word o)) there (shaped ws p formed e)

  -- a term below the condition at a place is one of the condition's
  named_within : (n p : ℕ) (t : Term) → p < n → IsTrue (is_place_of ws class.Cond p) → TermBelow ws p t → Contains (condition_terms (condition_at ws p)) t
  named_within zero p t lt e h = absurd (omega (arith, lt))
  named_within (suc n) p t lt e h = by_kind (kind_of word.0) refl word.2 (shaped_by p word.0 word.1 e) (λ c less at below. named_within n c t (omega (arith, less, lt)) at below) where
    word : (w : ℕ) × (slice_get ws p ≡ Some w) × (has_class (kind_of w) class.Cond ≡ true)
    word = word_of_place ws formed class.Cond p e

    under : (k : Kind) → kind_of word.0 ≡ Some k → BelowSome ws (places_in (Some k) (left_of word.0) (right_of word.0)) t
    under k is = elim (at_or_under ws p h.0 word.0 t word.1 h.1 h.2) [
      | inl s ↦ absurd (no_term_at ws class.Cond p t e (λ q. cc) s)
      | inr b ↦ named_by ws formed word.0 k is t b
    ]

    of_two : (a b : ℕ) → IsEarlier ws p a → IsEarlier ws p b
        → ((c : ℕ) → c < p → IsTrue (is_place_of ws class.Cond c) → TermBelow ws c t → Contains (condition_terms (condition_at ws c)) t)
        → BelowSome ws (a ∷ b ∷ []) t → Contains (condition_terms (condition_at ws a) ++ (condition_terms (condition_at ws b) ++ [])) t
    of_two a b left right before u = elim (first_or_behind a (b ∷ []) u.place u.among) [
      | inl q ↦
          Contains-append_left (condition_terms (condition_at ws a)) (condition_terms (condition_at ws b) ++ []) t
          (before a left.below left.placed (subst (λ x. TermBelow ws x t) (sym q) u.below))
      | inr i ↦
          Contains-append_right (condition_terms (condition_at ws a)) (condition_terms (condition_at ws b) ++ []) t
          (Contains-append_left (condition_terms (condition_at ws b)) [] t (before b right.below right.placed (under_one ws b t (record { place = u.place; among = i; below = u.below }))))
    ]

    by_kind : (o : Option Kind) → kind_of word.0 ≡ o → has_class o class.Cond ≡ true → IsShaped ws p (shape_of o (left_of word.0) (right_of word.0))
        → ((c : ℕ) → c < p → IsTrue (is_place_of ws class.Cond c) → TermBelow ws c t → Contains (condition_terms (condition_at ws c)) t)
        → Contains (condition_terms (condition_at ws p)) t
    by_kind (Some kind.True) is c parts before = absurd (under_none ws t (under kind.True is))
    by_kind (Some kind.False) is c parts before = absurd (under_none ws t (under kind.False is))
    by_kind (Some kind.Equal) is c parts before =
        let a = left_of word.0 in
        let b = right_of word.0 in
        let u = under kind.Equal is in
        subst (λ d. Contains (condition_terms d) t) (sym parts.condition) (elim (first_or_behind a (b ∷ []) u.place u.among) [
          | inl q ↦
              subst (λ x. Contains (term_at ws a ∷ term_at ws b ∷ []) x) (sym (term_alone ws formed a t parts.terms.0 (subst (λ x. TermBelow ws x t) (sym q) u.below)))
              (foremost (term_at ws a) (term_at ws b ∷ []))
          | inr i ↦
              subst (λ x. Contains (term_at ws a ∷ term_at ws b ∷ []) x)
              (sym (term_alone ws formed b t parts.terms.1.0 (under_one ws b t (record { place = u.place; among = i; below = u.below }))))
              (behind (term_at ws a) (term_at ws b ∷ []) (term_at ws b) (foremost (term_at ws b) []))
        ])
    by_kind (Some kind.Not) is c parts before =
        subst (λ d. Contains (condition_terms d) t) (sym parts.condition) (before (left_of word.0) parts.parts.0.below parts.parts.0.placed (under_one ws (left_of word.0) t (under kind.Not is)))
    by_kind (Some kind.And) is c parts before =
        subst (λ d. Contains (condition_terms d) t) (sym parts.condition) (of_two (left_of word.0) (right_of word.0) parts.parts.0 parts.parts.1.0 before (under kind.And is))
    by_kind (Some kind.Or) is c parts before =
        subst (λ d. Contains (condition_terms d) t) (sym parts.condition) (of_two (left_of word.0) (right_of word.0) parts.parts.0 parts.parts.1.0 before (under kind.Or is))
    by_kind _ is c parts before = absurd (false≢true c)

  pub condition_named : (p : ℕ) (t : Term) → IsTrue (is_place_of ws class.Cond p) → TermBelow ws p t → Contains (condition_terms (condition_at ws p)) t
  condition_named p t e h = named_within (suc p) p t (omega arith) e h

  -- a term of the condition at a place stands below the place
  reached_within : (n p : ℕ) (t : Term) → p < n → IsTrue (is_place_of ws class.Cond p) → Contains (condition_terms (condition_at ws p)) t → TermBelow ws p t
  reached_within zero p t lt e h = absurd (omega (arith, lt))
  reached_within (suc n) p t lt e h = by_kind (kind_of word.0) refl word.2 (shaped_by p word.0 word.1 e) (λ c less at among. reached_within n c t (omega (arith, less, lt)) at among) where
    word : (w : ℕ) × (slice_get ws p ≡ Some w) × (has_class (kind_of w) class.Cond ≡ true)
    word = word_of_place ws formed class.Cond p e

    said : (c : Condition) → condition_at ws p ≡ c → Contains (condition_terms c) t
    said c is = subst (λ d. Contains (condition_terms d) t) is h

    named_at : (a : ℕ) → IsTrue (is_place_of ws class.Term a) → term_at ws a ≡ t → TermBelow ws a t
    named_at a is_a q = subst (TermBelow ws a) q (a, itself, stands_term ws a is_a)

    up : (k : Kind) → kind_of word.0 ≡ Some k → (q : ℕ) → Contains (places_in (Some k) (left_of word.0) (right_of word.0)) q → TermBelow ws q t → TermBelow ws p t
    up k is q among = under_named ws formed p word.0 q k word.1 is among t

    left_up : (k : Kind) → kind_of word.0 ≡ Some k → places_in (Some k) (left_of word.0) (right_of word.0) ≡ left_of word.0 ∷ right_of word.0 ∷ [] → TermBelow ws (left_of word.0) t → TermBelow ws p t
    left_up k is two = up k is (left_of word.0) (subst (λ ps. Contains ps (left_of word.0)) (sym two) (foremost (left_of word.0) (right_of word.0 ∷ [])))

    right_up : (k : Kind) → kind_of word.0 ≡ Some k → places_in (Some k) (left_of word.0) (right_of word.0) ≡ left_of word.0 ∷ right_of word.0 ∷ [] → TermBelow ws (right_of word.0) t → TermBelow ws p t
    right_up k is two = up k is (right_of word.0) (subst (λ ps. Contains ps (right_of word.0)) (sym two) (behind (left_of word.0) (right_of word.0 ∷ []) (right_of word.0) (foremost (right_of word.0) [])))

    Before : Type 0
    Before = (c : ℕ) → c < p → IsTrue (is_place_of ws class.Cond c) → Contains (condition_terms (condition_at ws c)) t → TermBelow ws c t

    of_two : (a b : ℕ) → IsEarlier ws p a → IsEarlier ws p b → (TermBelow ws a t → TermBelow ws p t) → (TermBelow ws b t → TermBelow ws p t) → Before
        → Contains (condition_terms (condition_at ws a) ++ (condition_terms (condition_at ws b) ++ [])) t → TermBelow ws p t
    of_two a b left right first second before c =
        elim (Contains-append_cases (condition_terms (condition_at ws a)) (condition_terms (condition_at ws b) ++ []) t c) [
          | inl l ↦ first (before a left.below left.placed l)
          | inr r ↦ elim (Contains-append_cases (condition_terms (condition_at ws b)) [] t r) [
            | inl l ↦ second (before b right.below right.placed l)
            | inr z ↦ absurd (omega (arith, z.1))
          ]
        ]

    by_kind : (o : Option Kind) → kind_of word.0 ≡ o → has_class o class.Cond ≡ true → IsShaped ws p (shape_of o (left_of word.0) (right_of word.0)) → Before → TermBelow ws p t
    by_kind (Some kind.True) is c parts before =
        absurd (omega (arith, (said True (ap as_cond (word_apart ws formed p word.0 word.1 kind.True is).meaning)).1))
    by_kind (Some kind.False) is c parts before =
        absurd (omega (arith, (said False (ap as_cond (word_apart ws formed p word.0 word.1 kind.False is).meaning)).1))
    by_kind (Some kind.Equal) is c parts before =
        let a = left_of word.0 in
        let b = right_of word.0 in
        elim (first_or_behind (term_at ws a) (term_at ws b ∷ []) t (said (Same (term_at ws a) (term_at ws b)) parts.condition)) [
          | inl q ↦ left_up kind.Equal is refl (named_at a parts.terms.0 q)
          | inr r ↦ elim (first_or_behind (term_at ws b) [] t r) [
            | inl q ↦ right_up kind.Equal is refl (named_at b parts.terms.1.0 q)
            | inr z ↦ absurd (omega (arith, z.1))
          ]
        ]
    by_kind (Some kind.Not) is c parts before = up kind.Not is (left_of word.0) (foremost (left_of word.0) []) (before (left_of word.0) parts.parts.0.below parts.parts.0.placed (said _ parts.condition))
    by_kind (Some kind.And) is c parts before = of_two (left_of word.0) (right_of word.0) parts.parts.0 parts.parts.1.0 (left_up kind.And is refl) (right_up kind.And is refl) before (said _ parts.condition)
    by_kind (Some kind.Or) is c parts before = of_two (left_of word.0) (right_of word.0) parts.parts.0 parts.parts.1.0 (left_up kind.Or is refl) (right_up kind.Or is refl) before (said _ parts.condition)
    by_kind _ is c parts before = absurd (false≢true c)

  pub condition_reached : (p : ℕ) (t : Term) → IsTrue (is_place_of ws class.Cond p) → Contains (condition_terms (condition_at ws p)) t → TermBelow ws p t
  condition_reached p t e h = reached_within (suc p) p t (omega arith) e h

  -- a term below a row is one of the row's
  pub row_named : (r : CRow) (t : Term) → HasPlaces ws r → TermOfRow ws r t → Contains (row_terms (plain_crow ws r)) t
  row_named r t has b = elim (first_or_behind r.cond r.cells b.place b.among) [
    | inl e ↦
        Contains-append_right (map (term_at ws) r.cells) (condition_terms (condition_at ws r.cond)) t
        (condition_named r.cond t has.1 (subst (λ p. TermBelow ws p t) (sym e) b.below))
    | inr i ↦
        Contains-append_left (map (term_at ws) r.cells) (condition_terms (condition_at ws r.cond)) t
        (subst (Contains (map (term_at ws) r.cells)) (sym (term_alone ws formed b.place t (All-contains (λ p. IsTrue (is_place_of ws class.Term p)) r.cells b.place has.0 i) b.below))
        (mapped (term_at ws) r.cells b.place i))
  ]

  -- and a term of a row stands below it
  pub row_reached : (r : CRow) (t : Term) → HasPlaces ws r → Contains (row_terms (plain_crow ws r)) t → TermOfRow ws r t
  row_reached r t has h = elim (Contains-append_cases (map (term_at ws) r.cells) (condition_terms (condition_at ws r.cond)) t h) [
    | inl l ↦
        let cell = unmapped_item (term_at ws) r.cells t l in
        record {
          place = cell.0;
          among = behind r.cond r.cells cell.0 cell.1;
          below = subst (TermBelow ws cell.0) cell.2 (cell.0, itself, stands_term ws cell.0 (All-contains (λ p. IsTrue (is_place_of ws class.Term p)) r.cells cell.0 has.0 cell.1));
        }
    | inr c ↦ record { place = r.cond; among = foremost r.cond r.cells; below = condition_reached r.cond t has.1 c }
  ]

  -- a term below one of some rows is one of those of their list
  pub rows_named : (n : ℕ) (rs : List CRow) (t : Term) → All (IsRow ws n) rs → TermOfRows ws rs t → Contains (flat_map row_terms (map (plain_crow ws) rs)) t
  rows_named n rs t each h =
      let is = All-contains (IsRow ws n) rs h.row each h.among in
      given row_terms (map (plain_crow ws) rs) (plain_crow ws h.row) t (mapped (plain_crow ws) rs h.row h.among) (row_named h.row t (is.terms, is.condition) h.below)

  -- the same terms stand below rows of places that stand for the same rows
  pub rows_alike : (a b : List CRow) → All (HasPlaces ws) a → All (HasPlaces ws) b → map (plain_crow ws) a ≡ map (plain_crow ws) b → (u : Term) → TermOfRows ws a u → TermOfRows ws b u
  rows_alike a b first second e u h =
      let named = row_named h.row u (All-contains (HasPlaces ws) a h.row first h.among) h.below in
      let other = unmapped_item (plain_crow ws) b (plain_crow ws h.row) (subst (λ rs. Contains rs (plain_crow ws h.row)) e (mapped (plain_crow ws) a h.row h.among)) in
      record {
        row = other.0;
        among = other.1;
        below = row_reached other.0 u (All-contains (HasPlaces ws) b other.0 second other.1) (subst (λ r. Contains (row_terms r) u) (sym other.2) named);
      }
