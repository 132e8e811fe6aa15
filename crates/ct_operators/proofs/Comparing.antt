-- Whether a row is worth the tuple of another, cell by cell and row by row.
use Rattle.std.proofs.Common.{◌≡◌, ℕ, zero, suc, ◌+◌, ◌<◌, Bool, true, false, not, ◌&&◌, ◌||◌, List, [], ◌∷◌, ◌++◌, map, length, take, drop, get_or, refl, ap, sym, subst, ◌∙◌, arith}
use Rattle.std.{specs.Prelude.{IsTrue, All}, proofs.lemmas.List.{append-nil, append_assoc, take-append-drop, map_more, map-append, length-map, length-take-le}}
use Rattle.std.{proofs.lemmas.List.Elements.All-get_or, proofs.lemmas.Bool.and_right}
use Rattle.ct_word.{specs.declared.values.Value.Value, specs.declared.values.CRow.CRow, specs.Value.{World, at, same_value, same_tuple, tuple_at}}
use Rattle.ct_word.{specs.Condition.holds_at, specs.WellFormed.{IsWellFormed, is_place_of}, specs.Reading.{term_at, condition_at}}
use Rattle.ct_word.proofs.Prefixes.{prefix_of_prefix, term_in_prefix, condition_in_prefix, place_within}
use Rattle.ct_arena.specs.Counts.{opening}
use Rattle.ct_query.{specs.Database.has_tuple, proofs.Sets.has_tuple-append}
use Rattle.ct_condition.specs.Truth.{HasTruth, equal_at, not_at, and_at, or_at}
use Rattle.ct_operators.{specs.Tables.{value_of_rows, IsRow}, specs.Matching.{same_worth, is_among}, specs.Building.HoldsWhere, proofs.Selecting.value-append}
use Rattle.ct_operators.{proofs.Merges.has_one, proofs.Growing.terms_grow}
use Rattle.ct_operators.proofs.Holding.{holds_as, holds_false, holds_itself, holds_later, holds_equal, holds_not, holds_and, holds_or}
use mathlib.Core.List.{IsPrefix}
use Rattle.ct_word.specs.declared.kinds.Class.TheVariants as class

and_true : (b : Bool) → (true && b) ≡ (b && true)
and_true true = refl
and_true false = refl

and_assoc : (a b c : Bool) → (a && (b && c)) ≡ ((a && b) && c)
and_assoc true b c = refl
and_assoc false b c = refl

-- one more value on both sides
same_tuple-push : (xs ys : List Value) (x y : Value) → length xs ≡ length ys → same_tuple (xs ++ x ∷ []) (ys ++ y ∷ []) ≡ (same_tuple xs ys && same_value x y)
same_tuple-push [] [] x y e = sym (and_true (same_value x y))
same_tuple-push [] (y' ∷ ys) x y e = absurd (omega arith)
same_tuple-push (x' ∷ xs) [] x y e = absurd (omega arith)
same_tuple-push (x' ∷ xs) (y' ∷ ys) x y e =
    ap (λ b. same_value x' y' && b) (same_tuple-push xs ys x y (omega arith)) ∙ and_assoc (same_value x' y') (same_tuple xs ys) (same_value x y)

worth_more : (ws : List ℕ) (v : World) (ps : List ℕ) (n p : ℕ) → n < length ps → p ≡ get_or ps n p
    → tuple_at v (map (term_at ws) (take (n + 1) ps)) ≡ tuple_at v (map (term_at ws) (take n ps)) ++ at v [] (term_at ws p) ∷ []
worth_more ws v ps n p lt e =
    ap (λ l. tuple_at v l) (map_more (term_at ws) ps n p lt)
    ∙ map-append (at v []) (map (term_at ws) (take n ps)) (term_at ws (get_or ps n p) ∷ [])
    ∙ ap (λ q. tuple_at v (map (term_at ws) (take n ps)) ++ at v [] (term_at ws q) ∷ []) (sym e)

long_tuple : (ws : List ℕ) (v : World) (ps : List ℕ) (n : ℕ) → n < length ps → length (tuple_at v (map (term_at ws) (take n ps))) ≡ n
long_tuple ws v ps n lt = length-map (map (term_at ws) (take n ps)) (at v []) ∙ length-map (take n ps) (term_at ws) ∙ length-take-le n ps (omega arith)

pub same_worth_more : (ws : List ℕ) (ps qs : List ℕ) (n p q : ℕ) (v : World) → n < length ps → n < length qs → p ≡ get_or ps n p → q ≡ get_or qs n q
    → (same_worth ws (take n ps) (take n qs) v && same_value (at v [] (term_at ws p)) (at v [] (term_at ws q))) ≡ same_worth ws (take (n + 1) ps) (take (n + 1) qs) v
same_worth_more ws ps qs n p q v lp lq ep eq =
    sym (same_tuple-push (tuple_at v (map (term_at ws) (take n ps))) (tuple_at v (map (term_at ws) (take n qs))) (at v [] (term_at ws p)) (at v [] (term_at ws q))
    (long_tuple ws v ps n lp ∙ sym (long_tuple ws v qs n lq)))
    ∙ sym (λ i. same_tuple (worth_more ws v ps n p lp ep i) (worth_more ws v qs n q lq eq i))

-- cells of which two are worth different values
pub worth_apart : (ws : List ℕ) (v : World) (ps qs : List ℕ) (n p q : ℕ) → n < length ps → n < length qs → p ≡ get_or ps n p → q ≡ get_or qs n q
    → same_value (at v [] (term_at ws p)) (at v [] (term_at ws q)) ≡ false → same_worth ws ps qs v ≡ false
worth_apart ws v [] qs n p q lp lq ep eq e = absurd (omega (arith, lp))
worth_apart ws v (x ∷ ps) [] n p q lp lq ep eq e = absurd (omega (arith, lq))
worth_apart ws v (x ∷ ps) (y ∷ qs) zero p q lp lq ep eq e =
    (λ i. same_value (at v [] (term_at ws (sym ep i))) (at v [] (term_at ws (sym eq i))) && same_worth ws ps qs v) ∙ ap (λ b. b && same_worth ws ps qs v) e
worth_apart ws v (x ∷ ps) (y ∷ qs) (suc n) p q lp lq ep eq e =
    and_right (same_value (at v [] (term_at ws x)) (at v [] (term_at ws y))) (same_worth ws ps qs v) (worth_apart ws v ps qs n p q (omega (arith, lp)) (omega (arith, lq)) ep eq e)

-- a row that is shown and worth the same, where its cells can't be
pub shown_never : (ws qs cs : List ℕ) (c : ℕ) → IsPrefix opening ws → IsWellFormed ws → ((v : World) → same_worth ws qs cs v ≡ false)
    → HoldsWhere ws 1 (λ v. holds_at v (condition_at ws c) && same_worth ws qs cs v)
shown_never ws qs cs c begins formed never =
    holds_as ws 1 (λ v. false) _ (λ v. sym (and_right (holds_at v (condition_at ws c)) (same_worth ws qs cs v) (never v))) (holds_false ws begins formed)

-- cells compared so far, and two more
pub equal_more : (old now mid new : List ℕ) (ps qs : List ℕ) (n p q all same place : ℕ) → IsPrefix old now → IsPrefix now mid
    → All (λ p. IsTrue (is_place_of old class.Term p)) ps → All (λ p. IsTrue (is_place_of old class.Term p)) qs
    → n < length ps → n < length qs → p ≡ get_or ps n p → q ≡ get_or qs n q
    → HoldsWhere now all (same_worth old (take n ps) (take n qs)) → HasTruth mid same (equal_at now p q) → HasTruth new place (and_at mid all same)
    → HoldsWhere new place (same_worth old (take (n + 1) ps) (take (n + 1) qs))
equal_more old now mid new ps qs n p q all same place grown longer a b lp lq ep eq so_far equal both =
    let within_p = place_within old class.Term p (subst (λ x. IsTrue (is_place_of old class.Term x)) (sym ep) (All-get_or (λ x. IsTrue (is_place_of old class.Term x)) ps n p lp a)) in
    let within_q = place_within old class.Term q (subst (λ x. IsTrue (is_place_of old class.Term x)) (sym eq) (All-get_or (λ x. IsTrue (is_place_of old class.Term x)) qs n q lq b)) in
    holds_as new place (λ v. same_worth old (take n ps) (take n qs) v && same_value (at v [] (term_at now p)) (at v [] (term_at now q))) (same_worth old (take (n + 1) ps) (take (n + 1) qs))
    (λ v. (λ i. same_worth old (take n ps) (take n qs) v && same_value (at v [] (term_in_prefix old now p grown within_p i)) (at v [] (term_in_prefix old now q grown within_q i)))
    ∙ same_worth_more old ps qs n p q v lp lq ep eq)
    (holds_and mid new all same place _ _ (holds_later now mid all _ longer so_far) (holds_equal now mid p q same equal) both)

-- one more row
pub among_more : (ws : List ℕ) (rs : List CRow) (r : CRow) (cells : List ℕ) (v : World)
    → is_among ws (rs ++ r ∷ []) cells v ≡ (is_among ws rs cells v || (holds_at v (condition_at ws r.cond) && same_worth ws r.cells cells v))
among_more ws rs r cells v =
    ap (λ l. has_tuple l (tuple_at v (map (term_at ws) cells))) (value-append ws v rs (r ∷ []))
    ∙ has_tuple-append (value_of_rows ws v rs) (value_of_rows ws v (r ∷ [])) (tuple_at v (map (term_at ws) cells))
    ∙ ap (λ b. is_among ws rs cells v || b) (has_one ws v r (tuple_at v (map (term_at ws) cells)))

pub same_worth_grows : (old now : List ℕ) (ps qs : List ℕ) (v : World) → IsPrefix old now → All (λ p. IsTrue (is_place_of old class.Term p)) ps
    → All (λ p. IsTrue (is_place_of old class.Term p)) qs → same_worth now ps qs v ≡ same_worth old ps qs v
same_worth_grows old now ps qs v grown a b = λ i. same_tuple (tuple_at v (terms_grow old now grown ps a i)) (tuple_at v (terms_grow old now grown qs b i))

-- shown and not among some, and not shown with one more
pub and_not_or : (a b c : Bool) → ((a && not b) && not c) ≡ (a && not (b || c))
and_not_or true true c = refl
and_not_or true false c = refl
and_not_or false b c = refl

-- what is false beside some rows is so beside more of them
among_rest : (ws : List ℕ) (done rest : List CRow) (cells : List ℕ) (v : World) (a : Bool) → (a && not (is_among ws done cells v)) ≡ false
    → (a && not (is_among ws (done ++ rest) cells v)) ≡ false
among_rest ws done [] cells v a e = ap (λ l. a && not (is_among ws l cells v)) (append-nil done) ∙ e
among_rest ws done (r ∷ rest) cells v a e =
    ap (λ l. a && not (is_among ws l cells v)) (sym (append_assoc done (r ∷ []) rest))
    ∙ among_rest ws (done ++ r ∷ []) rest cells v a
    (ap (λ b. a && not b) (among_more ws done r cells v)
    ∙ sym (and_not_or a (is_among ws done cells v) (holds_at v (condition_at ws r.cond) && same_worth ws r.cells cells v))
    ∙ ap (λ b. b && not (holds_at v (condition_at ws r.cond) && same_worth ws r.cells cells v)) e)

-- a row that is not shown, or is among the first rows, at every valuation
pub alone_never : (old now : List ℕ) (others : List CRow) (n place : ℕ) (cells : List ℕ) (shown : World → Bool) → IsPrefix opening now → IsWellFormed now → place ≡ 1
    → HoldsWhere now place (λ v. shown v && not (is_among old (take n others) cells v)) → HoldsWhere now place (λ v. shown v && not (is_among old others cells v))
alone_never old now others n place cells shown begins formed is so_far =
    let never = holds_false now begins formed in
    subst (λ p. HoldsWhere now p (λ v. shown v && not (is_among old others cells v))) (sym is)
    (holds_as now 1 (λ v. false) _
    (λ v. sym (ap (λ l. shown v && not (is_among old l cells v)) (sym (take-append-drop n others))
    ∙ among_rest old (take n others) (drop n others) cells v (shown v)
    (sym (so_far.holds v) ∙ ap (λ p. holds_at v (condition_at now p)) is ∙ never.holds v))) never)

-- none of no rows
pub alone_none : (ws : List ℕ) (cells : List ℕ) (p : ℕ) → IsTrue (is_place_of ws class.Cond p) → HoldsWhere ws p (λ v. holds_at v (condition_at ws p) && not (is_among ws [] cells v))
alone_none ws cells p e = holds_as ws p (λ v. holds_at v (condition_at ws p)) _ (λ v. and_true (holds_at v (condition_at ws p))) (holds_itself ws p e)

module _ (old now : List ℕ) (width : ℕ) (grown : IsPrefix old now) (done : List CRow) (s : CRow) (is : IsRow old width s) (cells : List ℕ)
    (terms : All (λ p. IsTrue (is_place_of old class.Term p)) cells) where
  -- the rows so far, and one that is met over more words
  met : (v : World) → (is_among old done cells v || (holds_at v (condition_at now s.cond) && same_worth now s.cells cells v)) ≡ is_among old (done ++ s ∷ []) cells v
  met v =
      (λ i. is_among old done cells v
      || (holds_at v (condition_in_prefix old now s.cond grown (place_within old class.Cond s.cond is.condition) i) && same_worth_grows old now s.cells cells v grown is.terms terms i))
      ∙ sym (among_more old done s cells v)

  -- a condition that excludes the rows so far, and one more
  pub alone_more : (m1 m2 new : List ℕ) (shown : World → Bool) → IsPrefix now m1 → IsPrefix m1 m2 → (c there absent place : ℕ)
      → HoldsWhere now c (λ v. shown v && not (is_among old done cells v)) → HoldsWhere m1 there (λ v. holds_at v (condition_at now s.cond) && same_worth now s.cells cells v)
      → HasTruth m2 absent (not_at m1 there) → HasTruth new place (and_at m2 c absent) → HoldsWhere new place (λ v. shown v && not (is_among old (done ++ s ∷ []) cells v))
  alone_more m1 m2 new shown first second c there absent place so_far here denied both =
      holds_as new place (λ v. (shown v && not (is_among old done cells v)) && not (holds_at v (condition_at now s.cond) && same_worth now s.cells cells v)) _
      (λ v. and_not_or (shown v) (is_among old done cells v) (holds_at v (condition_at now s.cond) && same_worth now s.cells cells v) ∙ ap (λ b. shown v && not b) (met v))
      (holds_and m2 new c absent place _ _ (holds_later now m2 c _ (prefix_of_prefix now m1 m2 first second) so_far) (holds_not m1 m2 there absent _ here denied) both)

  -- a condition that asks for one of the rows so far, or for one more
  pub any_more : (m1 new : List ℕ) → IsPrefix now m1 → (c there place : ℕ)
      → HoldsWhere now c (is_among old done cells) → HoldsWhere m1 there (λ v. holds_at v (condition_at now s.cond) && same_worth now s.cells cells v)
      → HasTruth new place (or_at m1 c there) → HoldsWhere new place (is_among old (done ++ s ∷ []) cells)
  any_more m1 new first c there place so_far here either =
      holds_as new place (λ v. is_among old done cells v || (holds_at v (condition_at now s.cond) && same_worth now s.cells cells v)) _ met
      (holds_or m1 new c there place _ _ (holds_later now m1 c _ first so_far) here either)
