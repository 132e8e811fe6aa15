-- The rows that a row meets by its key are all that may be worth what it is.
use Rattle.std.proofs.Common.{◌≡◌, ◌≢◌, ℕ, ◌+◌, ◌*◌, ◌<◌, ◌≤◌, Bool, true, false, not, ◌&&◌, ◌||◌, List, [], ◌∷◌, map, length, drop, get_or, cond, refl, ap, sym, subst, ◌∙◌, ◌⊎◌, inl, inr, arith}
use Rattle.std.{specs.Prelude.{IsTrue, All, filter, nat_eq, slice_get, if◌then◌else◌}, specs.Borrow.Bor}
use Rattle.std.proofs.lemmas.List.Elements.{All-head, All-tail, All-cons, All-nil, All-filter, All-weaker}
use Rattle.std.proofs.lemmas.List.{drop_more, drop_all, length-map}
use Rattle.std.{proofs.lemmas.Bool.{cases_lt, false≢true, eq-eqb, eqb-true, eqb-false, and_right}, proofs.Math.Nat.mul-le-mul_right}
use Rattle.ct_word.{specs.declared.values.Term.Term, specs.declared.values.CRow.CRow, specs.Value.{World, at, same_value}, specs.Constant.is_constant_word}
use Rattle.ct_word.{specs.WellFormed.{IsWellFormed, is_place_of}, specs.Reading.{term_at, condition_at}, specs.Condition.holds_at, proofs.Prefixes.{get_in_prefix, place_within}}
use Rattle.ct_condition.proofs.Truths.{constants_differ}
use Rattle.ct_join.{specs.declared.keys.Key.Key, specs.Pairs.{may_agree, partners}, specs.Indexed.places_from, specs.Mixing.mixed, proofs.Walk.all_filtered}
use Rattle.ct_operators.{specs.Tables.IsRow, specs.Terms.TermOfRows, specs.Matching.{same_worth, is_among}, specs.Others.{rows_at}, specs.Placing.tuple_of}
use Rattle.ct_operators.specs.Judging.{FitsTest}
use Rattle.ct_operators.specs.Nearness.{key_from, row_key, rows_in, AreKeys, at_found, narrowed, Narrows}
use Rattle.ct_operators.{specs.declared.judging.Test.Test, proofs.Merges.has_cons, proofs.Reaching.rows_among, proofs.Firsts.filtered_among}
use mathlib.Core.List.{IsPrefix}
use Rattle.ct_word.specs.declared.kinds.Class.TheVariants as class
use Rattle.ct_join.specs.declared.keys.Key.TheVariants as key
use Rattle.ct_operators.specs.declared.judging.Test.TheVariants as test
use Rattle.ct_operators.specs.declared.others.Others.TheVariants as others

-- a row that stands for none, and the first row and the others of a list
abbrev none : CRow
none = record { cells = []; cond = 1 }

abbrev first_of : List CRow → CRow
first_of [] = none
first_of (r ∷ rs) = r

abbrev others_in : List CRow → List CRow
others_in [] = []
others_in (r ∷ rs) = rs

-- the places of keys that pass a test are those of rows, and no more than the keys
module _ (f : Key → Bool) where
  places_within : (n at : ℕ) (ks : List Key) → at + length ks ≡ n → All (λ p. p < n) (places_from f at ks)
  places_within n at [] e = All-nil (λ p. p < n)
  places_within n at (k ∷ ks) e = by_test (f k) (places_within n (at + 1) ks (omega arith)) where
    by_test : (b : Bool) → All (λ p. p < n) (places_from f (at + 1) ks) → All (λ p. p < n) (if b then at ∷ places_from f (at + 1) ks else places_from f (at + 1) ks)
    by_test true later = All-cons (λ p. p < n) at (places_from f (at + 1) ks) (omega arith) later
    by_test false later = later

  places_few : (at : ℕ) (ks : List Key) → length (places_from f at ks) ≤ length ks
  places_few at [] = omega arith
  places_few at (k ∷ ks) = by_test (f k) (places_few (at + 1) ks) where
    by_test : (b : Bool) → length (places_from f (at + 1) ks) ≤ length ks → length (if b then at ∷ places_from f (at + 1) ks else places_from f (at + 1) ks) ≤ length (k ∷ ks)
    by_test true later = omega (arith, later)
    by_test false later = omega (arith, later)

  -- the rows there are those whose keys pass
  rows_found : (key_of : CRow → Key) (all : List CRow) (i : ℕ) (rest : List CRow) → rest ≡ drop i all → rows_at all (places_from f i (map key_of rest)) ≡ filter (λ r. f (key_of r)) rest
  rows_found key_of all i [] e = refl
  rows_found key_of all i (r ∷ rest) e = by_place (cases_lt i (length all)) (λ same. rows_found key_of all (i + 1) rest same) where
    by_test : (b : Bool) → get_or all i none ≡ r → rows_at all (places_from f (i + 1) (map key_of rest)) ≡ filter (λ r. f (key_of r)) rest
        → rows_at all (if b then i ∷ places_from f (i + 1) (map key_of rest) else places_from f (i + 1) (map key_of rest)) ≡ cond b (r ∷ filter (λ r. f (key_of r)) rest) (filter (λ r. f (key_of r)) rest)
    by_test true here later = λ i. here i ∷ later i
    by_test false here later = later

    by_place : (i < length all) ⊎ (length all ≤ i) → (rest ≡ drop (i + 1) all → rows_at all (places_from f (i + 1) (map key_of rest)) ≡ filter (λ r. f (key_of r)) rest)
        → rows_at all (places_from f i (map key_of (r ∷ rest))) ≡ filter (λ r. f (key_of r)) (r ∷ rest)
    by_place (inl lt) later =
        let whole : r ∷ rest ≡ get_or all i none ∷ drop (i + 1) all = e ∙ drop_more all i none lt in
        by_test (f (key_of r)) (sym (ap first_of whole)) (later (ap others_in whole))
    by_place (inr le) later = let bad : length (r ∷ rest) ≡ 0 = ap (λ (l : List CRow). length l) (e ∙ drop_all i all le) in absurd (omega (arith, bad))

-- rows that are left out change nothing, where none of them is ever worth the cells
among_filtered : (ws : List ℕ) (g : CRow → Bool) (cells : List ℕ) (v : World) (rs : List CRow) → All (λ r. g r ≡ false → same_worth ws r.cells cells v ≡ false) rs
    → is_among ws (filter g rs) cells v ≡ is_among ws rs cells v
among_filtered ws g cells v [] never = refl
among_filtered ws g cells v (r ∷ rs) never =
    by_test (g r) refl (among_filtered ws g cells v rs (All-tail (λ r. g r ≡ false → same_worth ws r.cells cells v ≡ false) r rs never)) where
      by_test : (b : Bool) → g r ≡ b → is_among ws (filter g rs) cells v ≡ is_among ws rs cells v → is_among ws (cond b (r ∷ filter g rs) (filter g rs)) cells v ≡ is_among ws (r ∷ rs) cells v
      by_test true e later = has_cons ws v r (filter g rs) (tuple_of ws cells v) ∙ ap (λ b. (holds_at v (condition_at ws r.cond) && same_worth ws r.cells cells v) || b) later ∙ sym (has_cons ws v r rs (tuple_of ws cells v))
      by_test false e later =
          later
          ∙ sym (has_cons ws v r rs (tuple_of ws cells v)
          ∙ ap (λ b. b || is_among ws rs cells v) (and_right (holds_at v (condition_at ws r.cond)) (same_worth ws r.cells cells v) (All-head (λ r. g r ≡ false → same_worth ws r.cells cells v ≡ false) r rs never e)))

agrees_null : (k : Key) → may_agree k key.Null ≡ true
agrees_null (key.Constant n) = refl
agrees_null key.Null = refl

-- cells whose keys are two different constants differ in one of them
keys_apart : (ws : List ℕ) → IsWellFormed ws → (v : World) (n : ℕ) (ps qs : List ℕ) → length ps ≡ length qs → may_agree (key_from ws n ps) (key_from ws n qs) ≡ false → same_worth ws qs ps v ≡ false
keys_apart ws formed v n [] [] long e = absurd (false≢true (sym e ∙ eq-eqb n n refl))
keys_apart ws formed v n [] (q ∷ qs) long e = absurd (omega (arith, long))
keys_apart ws formed v n (p ∷ ps) [] long e = absurd (omega (arith, long))
keys_apart ws formed v n (p ∷ ps) (q ∷ qs) long e =
    by_words (is_constant_word (slice_get ws p)) (is_constant_word (slice_get ws q)) refl refl e (λ apart. keys_apart ws formed v (mixed n p) ps qs (omega (arith, long)) apart) where
      by_place : (b : Bool) → nat_eq p q ≡ b → is_constant_word (slice_get ws p) ≡ true → is_constant_word (slice_get ws q) ≡ true
          → may_agree (key_from ws (mixed n p) ps) (key_from ws (mixed n q) qs) ≡ false
          → (may_agree (key_from ws (mixed n p) ps) (key_from ws (mixed n p) qs) ≡ false → same_worth ws qs ps v ≡ false) → same_worth ws (q ∷ qs) (p ∷ ps) v ≡ false
      by_place true same cp cq apart later =
          and_right (same_value (at v [] (term_at ws q)) (at v [] (term_at ws p))) (same_worth ws qs ps v)
          (later (ap (λ x. may_agree (key_from ws (mixed n p) ps) (key_from ws (mixed n x) qs)) (eqb-true p q same) ∙ apart))
      by_place false other cp cq apart later =
          ap (λ b. b && same_worth ws qs ps v) (sym (constants_differ ws q p formed (λ same. false≢true (sym other ∙ eq-eqb p q (sym same))) cq cp v []))

      by_words : (b c : Bool) → is_constant_word (slice_get ws p) ≡ b → is_constant_word (slice_get ws q) ≡ c
          → may_agree (if b then key_from ws (mixed n p) ps else key.Null) (if c then key_from ws (mixed n q) qs else key.Null) ≡ false
          → (may_agree (key_from ws (mixed n p) ps) (key_from ws (mixed n p) qs) ≡ false → same_worth ws qs ps v ≡ false) → same_worth ws (q ∷ qs) (p ∷ ps) v ≡ false
      by_words true true cp cq apart later = by_place (nat_eq p q) refl cp cq apart later
      by_words true false cp cq apart later = absurd (false≢true (sym apart ∙ agrees_null (key_from ws (mixed n p) ps)))
      by_words false c cp cq apart later = absurd (false≢true (sym apart))

-- a key stays as words are added
pub key_later : (old now : List ℕ) → IsPrefix old now → (n : ℕ) (cells : List ℕ) → All (λ p. IsTrue (is_place_of old class.Term p)) cells → key_from now n cells ≡ key_from old n cells
key_later old now grown n [] each = refl
key_later old now grown n (p ∷ ps) each =
    λ i. if is_constant_word (get_in_prefix old now p grown (place_within old class.Term p (All-head (λ p. IsTrue (is_place_of old class.Term p)) p ps each)) i)
    then key_later old now grown (mixed n p) ps (All-tail (λ p. IsTrue (is_place_of old class.Term p)) p ps each) i else key.Null

module _ (ws cells : List ℕ) (i n p : ℕ) (lt : i < length cells) (is : p ≡ get_or cells i p) where
  here : key_from ws n (drop i cells) ≡ key_from ws n (p ∷ drop (i + 1) cells)
  here = ap (key_from ws n) (drop_more cells i p lt) ∙ ap (λ q. key_from ws n (q ∷ drop (i + 1) cells)) (sym is)

  -- one more cell of a key
  pub key_more : is_constant_word (slice_get ws p) ≡ true → key_from ws (mixed n p) (drop (i + 1) cells) ≡ key_from ws n (drop i cells)
  key_more e = sym (here ∙ ap (λ b. if b then key_from ws (mixed n p) (drop (i + 1) cells) else key.Null) e)

  -- a cell that is no constant
  pub key_null : is_constant_word (slice_get ws p) ≡ false → key.Null ≡ key_from ws n (drop i cells)
  key_null e = sym (here ∙ ap (λ b. if b then key_from ws (mixed n p) (drop (i + 1) cells) else key.Null) e)

pub key_done : (ws cells : List ℕ) (i n : ℕ) → length cells ≤ i → key.Constant n ≡ key_from ws n (drop i cells)
key_done ws cells i n le = sym (ap (key_from ws n) (drop_all i cells le))

-- a test narrows to itself
itself : (ws : List ℕ) (width : ℕ) (cells : List ℕ) (x : Test) → FitsTest ws width x → Narrows ws width cells x x
itself ws width cells x f = record { fits = f; passes_as = λ v. refl; further = λ t h. h; first = λ ws. refl; most = omega arith; parts = refl }

module _ (ws : List ℕ) (formed : IsWellFormed ws) (width : ℕ) (cells : List ℕ) (wide : length cells ≡ width) where
  abbrev key_of : CRow → Key
  key_of r = row_key ws r.cells

  abbrev agrees : CRow → Bool
  agrees r = may_agree (row_key ws cells) (key_of r)

  -- the rows at the places that an index finds
  module _ (rs : List CRow) (each : All (IsRow ws width) rs) (ps : List ℕ) (are : ps ≡ partners (row_key ws cells) (map key_of rs)) where
    listed : ps ≡ places_from (may_agree (row_key ws cells)) 0 (map key_of rs)
    listed = are ∙ all_filtered (may_agree (row_key ws cells)) (map key_of rs)

    near : rows_at rs ps ≡ filter agrees rs
    near = ap (rows_at rs) listed ∙ rows_found (may_agree (row_key ws cells)) key_of rs 0 rs refl

    within : All (λ p. p < length rs) ps
    within = subst (All (λ p. p < length rs)) (sym listed) (places_within (may_agree (row_key ws cells)) (length rs) 0 (map key_of rs) (omega (arith, length-map rs key_of)))

    few : length (rows_at rs ps) ≤ length rs
    few =
        let fewer = places_few (may_agree (row_key ws cells)) 0 (map key_of rs) in
        let as_many : length (rows_at rs ps) ≡ length (places_from (may_agree (row_key ws cells)) 0 (map key_of rs)) =
        length-map ps (λ p. get_or rs p (record { cells = []; cond = 1 })) ∙ ap (λ (l : List ℕ). length l) listed in
        omega (arith, fewer, as_many, length-map rs key_of)

    same : (v : World) → is_among ws (rows_at rs ps) cells v ≡ is_among ws rs cells v
    same v =
        ap (λ l. is_among ws l cells v) near
        ∙ among_filtered ws agrees cells v rs
        (All-weaker (IsRow ws width) (λ r. agrees r ≡ false → same_worth ws r.cells cells v ≡ false) (λ r is. keys_apart ws formed v 0 cells r.cells (wide ∙ sym is.width_is)) rs each)

    rows : All (IsRow ws width) (rows_at rs ps)
    rows = subst (All (IsRow ws width)) (sym near) (All-filter agrees (IsRow ws width) rs each)

    below : (t : Term) → TermOfRows ws (rows_at rs ps) t → TermOfRows ws rs t
    below t h = rows_among ws (filter agrees rs) rs t (filtered_among agrees rs) (subst (λ l. TermOfRows ws l t) near h)

  -- a test narrowed to the rows that were found
  found_rows : (x : Test) → FitsTest ws width x → (ps : Bor (List ℕ)) → (rows_in x ≢ []) → ps.now ≡ partners (row_key ws cells) (map key_of (rows_in x)) → Narrows ws width cells x (at_found ps x)
  found_rows (test.Holds p) f ps some are = itself ws width cells (test.Holds p) f
  found_rows (test.Fails c qs) f ps some are = itself ws width cells (test.Fails c qs) f
  found_rows (test.Among (others.At rs qs)) f ps some are = absurd (some refl)
  found_rows (test.Apart (others.At rs qs)) f ps some are = absurd (some refl)
  found_rows (test.Among (others.All rs)) f ps some are = record {
    fits = (rows rs.now f.0 ps.now are, within rs.now f.0 ps.now are);
    passes_as = same rs.now f.0 ps.now are;
    further = below rs.now f.0 ps.now are;
    first = λ ws. refl;
    most = mul-le-mul_right (2 * width + 1) (few rs.now f.0 ps.now are);
    parts = refl;
  }
  found_rows (test.Apart (others.All rs)) f ps some are = record {
    fits = (rows rs.now f.0 ps.now are, within rs.now f.0 ps.now are);
    passes_as = λ v. ap not (same rs.now f.0 ps.now are v);
    further = below rs.now f.0 ps.now are;
    first = λ ws. refl;
    most = mul-le-mul_right (2 * width + 2) (few rs.now f.0 ps.now are);
    parts = refl;
  }

  pub narrows : (x : Test) → FitsTest ws width x → (keys : List Key) (ps : Bor (List ℕ)) → AreKeys ws x keys → (length keys ≢ 0 → ps.now ≡ partners (row_key ws cells) keys)
      → Narrows ws width cells x (narrowed keys ps x)
  narrows x f keys ps keyed found = by_case (nat_eq (length keys) 0) refl where
    by_keys : nat_eq (length keys) 0 ≡ false → AreKeys ws x keys → Narrows ws width cells x (at_found ps x)
    by_keys e (inl none) = absurd (eqb-false (length keys) 0 e (ap (λ (l : List Key). length l) none))
    by_keys e (inr are) =
        found_rows x f ps (λ none. eqb-false (length keys) 0 e (ap (λ (l : List Key). length l) (are ∙ ap (map key_of) none)))
        (found (eqb-false (length keys) 0 e) ∙ ap (partners (row_key ws cells)) are)

    by_case : (b : Bool) → nat_eq (length keys) 0 ≡ b → Narrows ws width cells x (if b then x else at_found ps x)
    by_case true e = itself ws width cells x f
    by_case false e = by_keys e keyed
