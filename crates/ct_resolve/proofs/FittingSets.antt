-- Columns of a table by their names: positions that differ where the names do. What the sets of an update are resolved to
-- fits the table.
use Rattle.std.{proofs.Common.{◌≡◌, ◌+◌, ◌<◌, ◌≤◌, ℕ, Bool, true, false, not, List, [], ◌∷◌, length, map, refl, ap, sym, subst, ◌∙◌, arith}, specs.List.{IsDistinct, AllByRecursion, list_any}}
use Rattle.std.{specs.Prelude.{All, nat_eq, Option, Some, None, Ok, Err, IfOk, if◌then◌else◌}, specs.Cmp.Lexicographic.{same_text as same_bytes}}
use Rattle.std.{proofs.lemmas.Bool.{false≢true, not-true, or_parts, and_parts, eqb-true}, proofs.lemmas.List.append-nil, proofs.lemmas.Option.{none-some, same_Some}}
use Rattle.std.proofs.lemmas.List.Elements.{All-weaker}
use Rattle.ct_word.{specs.declared.values.Term.Term, specs.Value.same_text}
use Rattle.ct_query.{specs.declared.schema.Heading.Heading, specs.Fields.FitsFieldsOn, specs.Fits.{IsColumnBelow, AreSets}}
use Rattle.ct_parse.specs.declared.tree.Assignment.{Assignment}
use Rattle.ct_resolve.{specs.Found.{Found, and_then, each}, specs.Names.{place_from, placed, column_in, are_distinct}, specs.Conditions.term_at}
use Rattle.ct_resolve.{specs.Statements.{set_at, columns_set}, proofs.FoundParts.{and_then_has, each_has, itself}}
use Rattle.ct_resolve.{proofs.FittingConditions.{place_from_below, FitsTerm, term_fits}, proofs.WritingConditions.any_found_at_all}

-- a place is found from where the search began
first_from : (b : Bool) (o : Option ℕ) (j i : ℕ) → (o ≡ Some i → j + 1 ≤ i) → (if b then Some j else o) ≡ Some i → j ≤ i
first_from true o j i h e = omega (arith, same_Some j i e)
first_from false o j i h e = omega (arith, h e)

place_from_start : (j : ℕ) (ds : List (List ℕ)) (c : List ℕ) (i : ℕ) → place_from j ds c ≡ Some i → j ≤ i
place_from_start j [] c i e = absurd (none-some i e)
place_from_start j (d ∷ ds) c i e = first_from (same_text d c) (place_from (j + 1) ds c) j i (place_from_start (j + 1) ds c i) e

-- names at one place are the same
place_same : (j : ℕ) (ds : List (List ℕ)) (n m : List ℕ) (i : ℕ) → place_from j ds n ≡ Some i → place_from j ds m ≡ Some i → same_text n m ≡ true
place_same j [] n m i e f = absurd (none-some i e)
place_same j (d ∷ ds) n m i e f = by_tests (place_same (j + 1) ds n m i) (same_text d n) (same_text d m) refl refl e f where
  by_tests : (place_from (j + 1) ds n ≡ Some i → place_from (j + 1) ds m ≡ Some i → same_text n m ≡ true) → (b c : Bool) → same_text d n ≡ b → same_text d m ≡ c
      → (if b then Some j else place_from (j + 1) ds n) ≡ Some i → (if c then Some j else place_from (j + 1) ds m) ≡ Some i → same_text n m ≡ true
  by_tests rest true true p q e f = subst (λ x. same_text x m ≡ true) (same_bytes d n (sym p)) q
  by_tests rest true false p q e f = absurd (omega (arith, same_Some j i e, place_from_start (j + 1) ds m i f))
  by_tests rest false true p q e f = absurd (omega (arith, same_Some j i f, place_from_start (j + 1) ds n i e))
  by_tests rest false false p q e f = rest e f

placed_at : (o : Option ℕ) (k : ℕ) → placed o ≡ Ok k → o ≡ Some k
placed_at None k e = cc
placed_at (Some i) k e = cc

module _ (h : Heading) where
  column_same : (n m : List ℕ) (k : ℕ) → column_in h n ≡ Ok k → column_in h m ≡ Ok k → same_text n m ≡ true
  column_same n m k e f = place_same 0 h.columns n m k (placed_at (place_from 0 h.columns n) k e) (placed_at (place_from 0 h.columns m) k f)

  placed_below : (o : Option ℕ) → ((i : ℕ) → o ≡ Some i → i < length h.columns) → IfOk (placed o) (λ k. k < length h.columns)
  placed_below None below = tt
  placed_below (Some i) below = below i refl

  column_fits : (c : List ℕ) → IfOk (column_in h c) (λ k. k < length h.columns)
  column_fits c = placed_below (place_from 0 h.columns c) (λ i e. omega (arith, place_from_below 0 h.columns c i e))

  -- each name has its position
  abbrev AreAt : List (List ℕ) → List ℕ → Type 0
  AreAt [] [] = Unit {0}
  AreAt (n ∷ ns) (k ∷ ks) = (column_in h n ≡ Ok k) × AreAt ns ks
  AreAt _ _ = ⊥

  positions_at : (ns : List (List ℕ)) → IfOk (each (column_in h) ns) (AreAt ns)
  positions_at [] = tt
  positions_at (n ∷ ns) =
      and_then_has (λ k. column_in h n ≡ Ok k) (AreAt (n ∷ ns)) (column_in h n) (λ k. and_then (each (column_in h) ns) (λ ks. Ok (k ∷ ks))) (itself (column_in h n))
      (λ k e. and_then_has (AreAt ns) (AreAt (n ∷ ns)) (each (column_in h) ns) (λ ks. Ok (k ∷ ks)) (positions_at ns) (λ ks at. (e, at)))

  -- positions differ where the names do
  apart : (n m : List ℕ) (k l : ℕ) → column_in h n ≡ Ok k → column_in h m ≡ Ok l → same_text n m ≡ false → nat_eq k l ≡ false
  apart n m k l e f differ = by_test (nat_eq k l) refl where
    by_test : (b : Bool) → nat_eq k l ≡ b → nat_eq k l ≡ false
    by_test true same = absurd (false≢true (sym differ ∙ column_same n m k e (f ∙ ap Ok (sym (eqb-true k l same)))))
    by_test false same = same

  apart_from_all : (n : List ℕ) (k : ℕ) (ns : List (List ℕ)) (ks : List ℕ) → column_in h n ≡ Ok k → AreAt ns ks → list_any (same_text n) ns ≡ false → AllByRecursion (λ l. nat_eq k l ≡ false) ks
  apart_from_all n k [] [] e at none = tt
  apart_from_all n k (m ∷ ns) (l ∷ ks) e at none =
      let parts = or_parts (same_text n m) (list_any (same_text n) ns) none in
      (apart n m k l e at.0 parts.0, apart_from_all n k ns ks e at.1 parts.1)
  apart_from_all n k [] (l ∷ ks) e at none = absurd at
  apart_from_all n k (m ∷ ns) [] e at none = absurd at

  pub distinct_at : (ns : List (List ℕ)) (ks : List ℕ) → AreAt ns ks → are_distinct ns ≡ true → IsDistinct nat_eq ks
  unfolding IsDistinct
  distinct_at [] [] at d = tt
  distinct_at (n ∷ ns) (k ∷ ks) at d =
      let parts = and_parts (not (list_any (same_text n) ns)) (are_distinct ns) d in
      (apart_from_all n k ns ks at.0 at.1 (not-true (list_any (same_text n) ns) parts.0), distinct_at ns ks at.1 parts.1)
  distinct_at [] (k ∷ ks) at d = absurd at
  distinct_at (n ∷ ns) [] at d = absurd at

  -- what the columns of a key are found to be: columns of the table, in order
  pub record IsKey (ns : List (List ℕ)) (ks : List ℕ) : Type 0 where
    pub below : All (λ k. k < length h.columns) ks
    pub at : AreAt ns ks

  pub key_found : (ns : List (List ℕ)) → IfOk (each (column_in h) ns) (IsKey ns)
  key_found ns = together (each (column_in h) ns) (each_has (λ k. k < length h.columns) (column_in h) column_fits ns) (positions_at ns) where
    together : (m : Found (List ℕ)) → IfOk m (All (λ k. k < length h.columns)) → IfOk m (AreAt ns) → IfOk m (IsKey ns)
    together (Ok ks) below at = record { below = below; at = at }
    together (Err e) below at = tt

  -- a set is made on the columns of the table
  abbrev FitsSet : ℕ × Term → Type 0
  FitsSet b = (b.0 < length h.columns) × FitsTerm (length h.columns) b.1

  own_term_fits : (a : Assignment) → IfOk (term_at (h ∷ []) a.value) (FitsTerm (length h.columns))
  own_term_fits a = subst (λ n. IfOk (term_at (h ∷ []) a.value) (FitsTerm n)) (ap length (append-nil h.columns)) (term_fits (h ∷ []) a.value)

  set_fits : (a : Assignment) → IfOk (set_at h a) FitsSet
  set_fits a =
      and_then_has (λ k. k < length h.columns) FitsSet (column_in h a.column) (λ k. and_then (term_at (h ∷ []) a.value) (λ t. Ok (k, t))) (column_fits a.column)
      (λ k below. and_then_has (FitsTerm (length h.columns)) FitsSet (term_at (h ∷ []) a.value) (λ t. Ok (k, t)) (own_term_fits a) (λ t fits. (below, fits)))

  set_column : (a : Assignment) → IfOk (set_at h a) (λ b. column_in h a.column ≡ Ok b.0)
  set_column a =
      and_then_has (λ k. column_in h a.column ≡ Ok k) (λ b. column_in h a.column ≡ Ok b.0) (column_in h a.column) (λ k. and_then (term_at (h ∷ []) a.value) (λ t. Ok (k, t)))
      (itself (column_in h a.column))
      (λ k e. and_then_has (λ _. Unit {0}) (λ b. column_in h a.column ≡ Ok b.0) (term_at (h ∷ []) a.value) (λ t. Ok (k, t)) (any_found_at_all (term_at (h ∷ []) a.value)) (λ t _. e))

  abbrev AreSetAt : List Assignment → List (ℕ × Term) → Type 0
  AreSetAt bs sets = AreAt (columns_set bs) (map (λ b. b.0) sets)

  sets_at : (bs : List Assignment) → IfOk (each (set_at h) bs) (AreSetAt bs)
  sets_at [] = tt
  sets_at (a ∷ bs) =
      and_then_has (λ b. column_in h a.column ≡ Ok b.0) (AreSetAt (a ∷ bs)) (set_at h a) (λ b. and_then (each (set_at h) bs) (λ sets. Ok (b ∷ sets))) (set_column a)
      (λ b e. and_then_has (AreSetAt bs) (AreSetAt (a ∷ bs)) (each (set_at h) bs) (λ sets. Ok (b ∷ sets)) (sets_at bs) (λ sets at. (e, at)))

  -- what sets are found to be: made on the columns of the table, with their positions in order
  pub record AreMade (bs : List Assignment) (sets : List (ℕ × Term)) : Type 0 where
    pub fit : All FitsSet sets
    pub at : AreSetAt bs sets

  pub sets_made : (bs : List Assignment) → IfOk (each (set_at h) bs) (AreMade bs)
  sets_made bs = together (each (set_at h) bs) (each_has FitsSet (set_at h) set_fits bs) (sets_at bs) where
    together : (m : Found (List (ℕ × Term))) → IfOk m (All FitsSet) → IfOk m (AreSetAt bs) → IfOk m (AreMade bs)
    together (Ok sets) fit at = record { fit = fit; at = at }
    together (Err e) fit at = tt

  -- the numbers of the terms fit rows of the table
  pub fields_fit : (sets : List (ℕ × Term)) → All FitsSet sets → All (λ b. FitsFieldsOn (length h.columns) b.1) sets
  fields_fit sets fit = All-weaker FitsSet (λ b. FitsFieldsOn (length h.columns) b.1) (λ b f. f.1.0) sets fit

  pub are_sets : (bs : List Assignment) (sets : List (ℕ × Term)) → AreMade bs sets → are_distinct (columns_set bs) ≡ true → AreSets (length h.columns) sets
  are_sets bs sets made once = record {
    once = distinct_at (columns_set bs) (map (λ b. b.0) sets) made.at once;
    within = All-weaker FitsSet (λ b. b.0 < length h.columns) (λ b f. f.0) sets made.fit;
    columns = All-weaker FitsSet (λ b. IsColumnBelow (length h.columns) b.1) (λ b f. f.1.1) sets made.fit;
  }
