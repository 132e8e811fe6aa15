-- Places that are marked.
use Rattle.std.proofs.Common.{◌≡◌, ◌⊎◌, ◌<◌, ◌+◌, ℕ, zero, suc, Bool, true, false, List, [], ◌∷◌, ◌++◌, length, replicate, set, drop, get_or, length-set, get_or-set_same, refl, ap, sym, subst, ◌∙◌, arith, inl, inr}
use Rattle.std.{specs.Prelude.flat_map, specs.List.Contains, proofs.lemmas.Bool.{cases_eq, false≢true}}
use Rattle.std.proofs.lemmas.List.{at_drop_more, get_or-set_other}
use Rattle.std.proofs.lemmas.List.Elements.{Contains-append_cases, Contains-append_left, Contains-append_right}
use Rattle.ct_word.{specs.declared.values.CRow.CRow, proofs.Items.{first_item, no_item, sole_item}}
use Rattle.ct_tidy.{specs.Marks.{is_marked, with_marks}, specs.Spread.{places_in_row}}

pub none_marked : (n p : ℕ) → is_marked (replicate n false) p ≡ false
none_marked zero p = refl
none_marked (suc n) zero = refl
none_marked (suc n) (suc p) = none_marked n p

marked_within : (ms : List Bool) (p : ℕ) → is_marked ms p ≡ true → p < length ms
marked_within [] p m = absurd (false≢true m)
marked_within (b ∷ ms) zero m = omega arith
marked_within (b ∷ ms) (suc p) m = let lt = marked_within ms p m in omega (arith, lt)

-- these places were marked, as far as there are marks for them, and no others
pub record AreMarked (added : List ℕ) (old new : List Bool) : Type 0 where
  pub long : length new ≡ length old
  pub put : (p : ℕ) → Contains added p → p < length old → is_marked new p ≡ true
  pub kept : (p : ℕ) → is_marked old p ≡ true → is_marked new p ≡ true
  pub only : (p : ℕ) → is_marked new p ≡ true → (is_marked old p ≡ true) ⊎ Contains added p

marked_none : (ms : List Bool) → AreMarked [] ms ms
marked_none ms = record { long = refl; put = λ p h. absurd (no_item p h); kept = λ p m. m; only = λ p m. inl m }

marked_one : (ms : List Bool) (p : ℕ) → AreMarked (p ∷ []) ms (set ms p true)
marked_one ms p = record {
  long = length-set ms p true;
  put = λ q h within. let same : q ≡ p = sym (sole_item p q h) in here q same (subst (λ k. k < length ms) same within);
  kept = λ q m. elim (cases_eq q p) [ inl same ↦ here q same (subst (λ k. k < length ms) same (marked_within ms q m)) | inr other ↦ get_or-set_other ms p q true false other ∙ m ];
  only = λ q m. elim (cases_eq q p) [
    | inl same ↦ inr (subst (Contains (p ∷ [])) (sym same) (first_item [] p))
    | inr other ↦ inl (sym (get_or-set_other ms p q true false other) ∙ m)
  ];
} where
  here : (q : ℕ) → q ≡ p → p < length ms → is_marked (set ms p true) q ≡ true
  here q same lt = ap (is_marked (set ms p true)) same ∙ get_or-set_same ms p true false lt

marked_more : (as' bs : List ℕ) (old mid new : List Bool) → AreMarked as' old mid → AreMarked bs mid new → AreMarked (as' ++ bs) old new
marked_more as' bs old mid new a b = record {
  long = b.long ∙ a.long;
  put = λ p h lt. elim (Contains-append_cases as' bs p h) [ inl one ↦ b.kept p (a.put p one lt) | inr two ↦ b.put p two (subst (λ n. p < n) (sym a.long) lt) ];
  kept = λ p m. b.kept p (a.kept p m);
  only = λ p m. elim (b.only p m) [
    | inr two ↦ inr (Contains-append_right as' bs p two)
    | inl before ↦ elim (a.only p before) [ inl first ↦ inl first | inr one ↦ inr (Contains-append_left as' bs p one) ]
  ];
}

pub marked_all : (added : List ℕ) (old : List Bool) → AreMarked added old (with_marks old added)
marked_all [] old = marked_none old
marked_all (p ∷ ps) old = marked_more (p ∷ []) ps old (set old p true) (with_marks (set old p true) ps) (marked_one old p) (marked_all ps (set old p true))

-- marks put one list after the other
marks_append : (ms : List Bool) (as' bs : List ℕ) → with_marks ms (as' ++ bs) ≡ with_marks (with_marks ms as') bs
marks_append ms [] bs = refl
marks_append ms (p ∷ ps) bs = marks_append (set ms p true) ps bs

-- one more row
pub row_turn : (rows : List CRow) (i : ℕ) (r : CRow) (ms : List Bool) → i < length rows → r ≡ get_or rows i r
    → with_marks (with_marks ms (places_in_row r)) (flat_map places_in_row (drop (i + 1) rows)) ≡ with_marks ms (flat_map places_in_row (drop i rows))
row_turn rows i r ms lt is =
    sym (marks_append ms (places_in_row r) (flat_map places_in_row (drop (i + 1) rows)))
    ∙ ap (λ x. with_marks ms (places_in_row x ++ flat_map places_in_row (drop (i + 1) rows))) is
    ∙ sym (at_drop_more (λ l. with_marks ms (flat_map places_in_row l)) rows i r lt)
