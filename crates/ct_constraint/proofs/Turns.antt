-- Conditions on cells and rows, as one more is compared.
use Rattle.std.proofs.Common.{◌≡◌, ℕ, ◌+◌, ◌*◌, ◌<◌, ◌≤◌, Bool, true, false, not, ◌&&◌, ◌||◌, List, [], ◌∷◌, ◌++◌, take, drop, length, get_or, nat_eq, refl, ap, sym, subst, ◌∙◌, add-one, arith, inl, inr}
use Rattle.std.{specs.Prelude.{◌⊎◌, All, Contains, IsTrue}, proofs.lemmas.Bool.{false≢true, or_right}, proofs.lemmas.Bool.Decides.{Decides-eqb, eqb_tells}, proofs.lemmas.List.{take-append-drop}}
use Rattle.std.proofs.Math.Nat.{mul-le-mul_right}
use Rattle.std.proofs.lemmas.List.Elements.{All-get_or, All-cons, All-nil, All-contains, Contains-append_left, Contains-append_cases}
use Rattle.ct_word.{specs.declared.values.Term.Term, specs.declared.values.CRow.CRow, specs.Value.{World, at, same_value, cell_at}}
use Rattle.ct_word.{specs.WellFormed.{IsWellFormed, is_place_of}, specs.Reading.{term_at, condition_at}, specs.Condition.holds_at}
use Rattle.ct_word.proofs.Prefixes.{prefix_of_prefix, get_in_prefix, term_in_prefix, place_within}
use Rattle.ct_arena.specs.Counts.{opening}
use Rattle.ct_condition.{specs.Folding.are_apart, specs.Truth.{HasTruth, truth_at, equal_at, not_at, and_at}, specs.Terms.{TermsFrom, BelowEither, BelowSome}}
use Rattle.ct_operators.{specs.Tables.{IsRow, value_of_rows}, specs.Terms.{TermOfRow, TermOfRows}, specs.Building.HoldsWhere, specs.Placing.tuple_of}
use Rattle.ct_operators.proofs.Holding.{holds_as, holds_false, holds_itself, holds_later, holds_equal, holds_not, holds_and}
use Rattle.ct_operators.{proofs.Selecting.cell_of_tuple, proofs.Growing.value_grows, proofs.Reaching.{foremost, behind, from_two, from_later, row_before, rows_before, rows_among}}
use Rattle.ct_query.specs.Assertions.{clash, keep_apart, is_key}
use Rattle.ct_word.{specs.Constant.is_constant_word, proofs.Alike.value_decides}
use Rattle.ct_constraint.{specs.Comparing.{MayAgree, is_in, same_below}, proofs.Agreeing.in_list, proofs.Apart.{key_more, beside_more, pair_apart}}
use mathlib.Core.List.{IsPrefix}
use Rattle.ct_word.specs.declared.kinds.Class.TheVariants as class

-- the equality of the cells at a position
pub cells_same : (old now new : List ℕ) (ps qs : List ℕ) (k place : ℕ) → IsPrefix old now → All (λ p. IsTrue (is_place_of old class.Term p)) ps → All (λ p. IsTrue (is_place_of old class.Term p)) qs
    → k < length ps → k < length qs → HasTruth new place (equal_at now (get_or ps k 0) (get_or qs k 0))
    → HoldsWhere new place (λ v. same_value (cell_at (tuple_of old ps v) k) (cell_at (tuple_of old qs v) k))
cells_same old now new ps qs k place grown a b lp lq h =
    let p = get_or ps k 0 in
    let q = get_or qs k 0 in
    let within_p = place_within old class.Term p (All-get_or (λ x. IsTrue (is_place_of old class.Term x)) ps k 0 lp a) in
    let within_q = place_within old class.Term q (All-get_or (λ x. IsTrue (is_place_of old class.Term x)) qs k 0 lq b) in
    holds_as new place (λ v. same_value (at v [] (term_at now p)) (at v [] (term_at now q))) (λ v. same_value (cell_at (tuple_of old ps v) k) (cell_at (tuple_of old qs v) k))
    (λ v. (λ i. same_value (at v [] (term_in_prefix old now p grown within_p i)) (at v [] (term_in_prefix old now q grown within_q i)))
    ∙ sym (λ i. same_value (cell_of_tuple old v ps k lp i) (cell_of_tuple old v qs k lq i)))
    (holds_equal now new p q place h)

settled : (a b x : Bool) → x ≡ true → (a || x) ≡ (b || x)
settled a b x e = or_right a x e ∙ sym (or_right b x e)

-- a test that counts where cells differ and are not apart, which those that pass another one are not
asked : (same apart test counts : Bool) → (test ≡ true → apart ≡ false) → counts ≡ (not same && (not apart && test)) → same ≡ false → counts ≡ test
asked true apart test counts may is differs = absurd (false≢true (sym differs))
asked false false test counts may is differs = is
asked false true false counts may is differs = is
asked false true true counts may is differs = absurd (false≢true (sym (may refl)))

module _ (old now : List ℕ) (grown : IsPrefix old now) (ps qs columns : List ℕ) (a : All (λ p. IsTrue (is_place_of old class.Term p)) ps) (b : All (λ p. IsTrue (is_place_of old class.Term p)) qs)
    (may : MayAgree old ps qs columns) (k : ℕ) (lp : k < length ps) (lq : k < length qs) (counts : Bool)
    (is : counts ≡ (not (nat_eq (get_or ps k 0) (get_or qs k 0)) && (not (are_apart now (get_or ps k 0) (get_or qs k 0)) && is_in columns k))) where
  -- whether the cells at a position are worth the same
  abbrev cells_agree : World → Bool
  cells_agree v = same_value (cell_at (tuple_of old ps v) k) (cell_at (tuple_of old qs v) k)

  equal_agree : get_or ps k 0 ≡ get_or qs k 0 → (v : World) → cells_agree v ≡ true
  equal_agree e v = (value_decides (cell_at (tuple_of old ps v) k) (cell_at (tuple_of old qs v) k)).1
      (cell_of_tuple old v ps k lp ∙ ap (λ p. at v [] (term_at old p)) e ∙ sym (cell_of_tuple old v qs k lq))

  not_apart : is_in columns k ≡ true → are_apart now (get_or ps k 0) (get_or qs k 0) ≡ false
  not_apart among =
      let p = get_or ps k 0 in
      let q = get_or qs k 0 in
      let within_p = place_within old class.Term p (All-get_or (λ x. IsTrue (is_place_of old class.Term x)) ps k 0 lp a) in
      let within_q = place_within old class.Term q (All-get_or (λ x. IsTrue (is_place_of old class.Term x)) qs k 0 lq b) in
      (λ i. not (nat_eq p q) && (is_constant_word (get_in_prefix old now p grown within_p i) && is_constant_word (get_in_prefix old now q grown within_q i)))
      ∙ All-contains (λ j. are_apart old (get_or ps j 0) (get_or qs j 0) ≡ false) columns k may ((in_list nat_eq Decides-eqb columns k).0 among)

  -- it tells where it matters whether a position is one of the columns
  pub counted : (v : World) → ((not counts || cells_agree v) ≡ (not (is_in columns k) || cells_agree v)) × ((not (not counts) || cells_agree v) ≡ (not (not (is_in columns k)) || cells_agree v))
  counted v = elim (eqb_tells (get_or ps k 0) (get_or qs k 0)) [
    | inl same ↦ (
      settled (not counts) (not (is_in columns k)) (cells_agree v) (equal_agree same.1 v),
      settled (not (not counts)) (not (not (is_in columns k))) (cells_agree v) (equal_agree same.1 v),
    )
    | inr differs ↦
        let tells = asked (nat_eq (get_or ps k 0) (get_or qs k 0)) (are_apart now (get_or ps k 0) (get_or qs k 0)) (is_in columns k) counts not_apart is differs.0 in
        (ap (λ c. not c || cells_agree v) tells, ap (λ c. not (not c) || cells_agree v) tells)
  ]

-- one more position
pub below_more : (old now mid new : List ℕ) (ps qs : List ℕ) (test : ℕ → Bool) (k c same place : ℕ) (counts : Bool)
    → ((v : World) → (not counts || same_value (cell_at (tuple_of old ps v) k) (cell_at (tuple_of old qs v) k)) ≡ (not (test k) || same_value (cell_at (tuple_of old ps v) k) (cell_at (tuple_of old qs v) k)))
    → IsPrefix now mid
    → HoldsWhere now c (λ v. same_below k test (tuple_of old ps v) (tuple_of old qs v)) → HoldsWhere mid same (λ v. same_value (cell_at (tuple_of old ps v) k) (cell_at (tuple_of old qs v) k))
    → HasTruth new place (λ v row. truth_at mid c v row && (not counts || truth_at mid same v row)) → HoldsWhere new place (λ v. same_below (k + 1) test (tuple_of old ps v) (tuple_of old qs v))
below_more old now mid new ps qs test k c same place counts e longer so_far one h =
    let moved = holds_later now mid c (λ v. same_below k test (tuple_of old ps v) (tuple_of old qs v)) longer so_far in
    record {
      class = h.class;
      holds = λ v. h.truth_is v []
          ∙ (λ i. moved.holds v i && (not counts || one.holds v i))
          ∙ ap (λ b. same_below k test (tuple_of old ps v) (tuple_of old qs v) && b) (e v)
          ∙ sym (ap (λ n. same_below n test (tuple_of old ps v) (tuple_of old qs v)) (add-one k));
    }

-- the word false, where what it stands for is false only where something else is
pub never_more : (ws : List ℕ) (place : ℕ) (s t : World → Bool) → IsPrefix opening ws → IsWellFormed ws → place ≡ 1 → ((v : World) → s v ≡ false → t v ≡ false)
    → HoldsWhere ws place s → HoldsWhere ws place t
never_more ws place s t begins formed is both h =
    holds_as ws place s t
    (λ v. let never = sym (h.holds v) ∙ ap (λ p. holds_at v (condition_at ws p)) is ∙ (holds_false ws begins formed).holds v in never ∙ sym (both v never)) h

-- two rows, from the condition that what they are worth clashes
pub pair_kept : (ks : List ℕ) (old m1 m2 m3 new : List ℕ) (l r : CRow) (c one both place : ℕ) → IsPrefix old m1 → IsPrefix m1 m2
    → IsTrue (is_place_of old class.Cond l.cond) → IsTrue (is_place_of old class.Cond r.cond) → HoldsWhere m1 c (λ v. clash ks (tuple_of old l.cells v) (tuple_of old r.cells v))
    → HasTruth m2 one (and_at m1 r.cond c) → HasTruth m3 both (and_at m2 l.cond one) → HasTruth new place (not_at m3 both)
    → HoldsWhere new place (λ v. keep_apart ks (value_of_rows old v (l ∷ [])) (value_of_rows old v (r ∷ [])))
pair_kept ks old m1 m2 m3 new l r c one both place first second left right clashes h1 h2 h3 =
    let shown_r = holds_later old m1 r.cond _ first (holds_itself old r.cond right) in
    let shown_l = holds_later old m2 l.cond _ (prefix_of_prefix old m1 m2 first second) (holds_itself old l.cond left) in
    let with_r = holds_and m1 m2 r.cond c one _ _ shown_r clashes h1 in
    let with_l = holds_and m2 m3 l.cond one both _ _ shown_l with_r h2 in
    holds_as new place _ _ (λ v. pair_apart ks old v l r) (holds_not m3 new both place _ with_l h3)

module _ (old m1 m2 m3 : List ℕ) (first : IsPrefix old m1) (second : IsPrefix m1 m2) (formed : IsWellFormed old) (l r : CRow) (c one both : ℕ)
    (left : IsTrue (is_place_of old class.Cond l.cond)) (right : IsTrue (is_place_of old class.Cond r.cond)) where
  abbrev OfEither : Term → Type 0
  OfEither t = TermOfRow old l t ⊎ TermOfRow old r t

  of_cells : (t : Term) → BelowSome old (l.cells ++ r.cells) t → OfEither t
  of_cells t b = elim (Contains-append_cases l.cells r.cells b.place b.among) [
    | inl a ↦ inl (record { place = b.place; among = behind l.cond l.cells b.place a; below = b.below })
    | inr a ↦ inr (record { place = b.place; among = behind r.cond r.cells b.place a; below = b.below })
  ]

  -- the terms below the condition that both are shown and clash
  pub pair_from : TermsFrom m1 c (BelowSome old (l.cells ++ r.cells)) → TermsFrom m2 one (BelowEither m1 r.cond c) → TermsFrom m3 both (BelowEither m2 l.cond one)
      → TermsFrom m3 both (λ t. TermOfRow old l t ⊎ TermOfRow old r t)
  pair_from of_c of_one of_both =
      from_two m2 m3 l.cond one both OfEither
      (from_later old m2 (prefix_of_prefix old m1 m2 first second) formed l.cond OfEither (place_within old class.Cond l.cond left) (λ t h. inl (record { place = l.cond; among = foremost l.cond l.cells; below = h })))
      (from_two m1 m2 r.cond c one OfEither
      (from_later old m1 first formed r.cond OfEither (place_within old class.Cond r.cond right) (λ t h. inr (record { place = r.cond; among = foremost r.cond r.cells; below = h })))
      (λ t h. of_cells t (of_c t h)) of_one)
      of_both

module _ (ks : List ℕ) (old now mid new : List ℕ) (width : ℕ) (grown : IsPrefix old now) (longer : IsPrefix now mid) where
  -- rows keep what they are worth as words are added
  kept_before : (place : ℕ) (rs ss : List CRow) → All (IsRow old width) rs → All (IsRow old width) ss
      → HoldsWhere mid place (λ v. keep_apart ks (value_of_rows now v rs) (value_of_rows now v ss)) → HoldsWhere mid place (λ v. keep_apart ks (value_of_rows old v rs) (value_of_rows old v ss))
  kept_before place rs ss a b = holds_as mid place _ _ (λ v i. keep_apart ks (value_grows old now grown v width rs a i) (value_grows old now grown v width ss b i))

  -- one more of the rows that are compared with another one
  pub beside_turn : (done : List CRow) (r row : CRow) (all one place : ℕ) → IsRow old width r → IsRow old width row
      → HoldsWhere now all (λ v. keep_apart ks (value_of_rows old v done) (value_of_rows old v (row ∷ [])))
      → HoldsWhere mid one (λ v. keep_apart ks (value_of_rows now v (r ∷ [])) (value_of_rows now v (row ∷ []))) → HasTruth new place (and_at mid all one)
      → HoldsWhere new place (λ v. keep_apart ks (value_of_rows old v (done ++ r ∷ [])) (value_of_rows old v (row ∷ [])))
  beside_turn done r row all one place is too so_far next h =
      holds_as new place _ _ (λ v. sym (beside_more ks old v done r row))
      (holds_and mid new all one place _ _ (holds_later now mid all _ longer so_far)
      (kept_before one (r ∷ []) (row ∷ []) (All-cons (IsRow old width) r [] is (All-nil (IsRow old width))) (All-cons (IsRow old width) row [] too (All-nil (IsRow old width))) next) h)

  -- one more row
  pub key_turn : (done : List CRow) (r : CRow) (all one place : ℕ) → All (IsRow old width) done → IsRow old width r → HoldsWhere now all (λ v. is_key ks (value_of_rows old v done))
      → HoldsWhere mid one (λ v. keep_apart ks (value_of_rows now v done) (value_of_rows now v (r ∷ []))) → HasTruth new place (and_at mid all one)
      → HoldsWhere new place (λ v. is_key ks (value_of_rows old v (done ++ r ∷ [])))
  key_turn done r all one place each is so_far next h =
      holds_as new place _ _ (λ v. sym (key_more ks old v done r))
      (holds_and mid new all one place _ _ (holds_later now mid all _ longer so_far) (kept_before one done (r ∷ []) each (All-cons (IsRow old width) r [] is (All-nil (IsRow old width))) next) h)

module _ (old now : List ℕ) (grown : IsPrefix old now) (formed : IsWellFormed old) (width : ℕ) where
  -- a term below a row, or below one of others
  pub beside_from : (others : List CRow) (r row : CRow) → IsRow old width r → IsRow old width row → Contains others r → (t : Term)
      → TermOfRow now r t ⊎ TermOfRow now row t → TermOfRow old row t ⊎ TermOfRows old others t
  beside_from others r row is too among t (inl h) = inr (record { row = r; among = among; below = row_before old now grown formed width r t is h })
  beside_from others r row is too among t (inr h) = inl (row_before old now grown formed width row t too h)

  -- a term below a row of a table, or below rows before it
  pub key_from : (rows : List CRow) (n : ℕ) (r : CRow) → All (IsRow old width) (take n rows) → IsRow old width r → Contains rows r → (t : Term)
      → TermOfRow now r t ⊎ TermOfRows now (take n rows) t → TermOfRows old rows t
  key_from rows n r each is among t (inl h) = record { row = r; among = among; below = row_before old now grown formed width r t is h }
  key_from rows n r each is among t (inr h) =
      rows_among old (take n rows) rows t (λ x i. subst (λ l. Contains l x) (take-append-drop n rows) (Contains-append_left (take n rows) (drop n rows) x i))
      (rows_before old now grown formed width (take n rows) t each h)

-- the words of a further row, which is compared with those before it
pub key_words : (i c m w : ℕ) → m ≡ i → w ≡ c → i * i * (2 * c + 3) + (m * (w * 3 + 6) + 1) ≤ (i + 1) * (i + 1) * (2 * c + 3)
key_words i c m w before wide =
    let words : i * i * (2 * c + 3) + (i * (c * 3 + 6) + 1) ≤ (i + 1) * (i + 1) * (2 * c + 3) = omega arith in
    subst (λ m. i * i * (2 * c + 3) + (m * (w * 3 + 6) + 1) ≤ (i + 1) * (i + 1) * (2 * c + 3)) (sym before)
    (subst (λ w. i * i * (2 * c + 3) + (i * (w * 3 + 6) + 1) ≤ (i + 1) * (i + 1) * (2 * c + 3)) (sym wide) words)

-- and of fewer rows than all
pub key_all : (i n each : ℕ) → i ≤ n → i * i * each ≤ n * n * each
key_all i n each le =
    let once : i * i ≤ n * i = mul-le-mul_right i le in
    let twice : i * n ≤ n * n = mul-le-mul_right n le in
    let swapped : n * i ≡ i * n = omega arith in
    mul-le-mul_right each (omega (arith, once, twice, swapped))
