-- A query that conditions were moved down in still fits.
use Rattle.std.proofs.Common.{◌≡◌, ℕ, ◌+◌, ◌<◌, Bool, true, false, cond, List, [], ◌∷◌, ◌++◌, map, length, refl, sym, subst, ◌∙◌, arith}
use Rattle.std.{specs.Prelude.{filter, nat_lt, nat_le, All}, specs.List.AllByRecursion}
use Rattle.std.proofs.lemmas.Bool.{and_parts, ltb-true, leb-true}
use Rattle.ct_word.{specs.declared.values.Term.Term, specs.Condition.{Condition, Conditions, True, False, Same, Not, And, Or, none, also, listed}}
use Rattle.ct_query.specs.declared.schema.Heading.{Heading}
use Rattle.ct_query.specs.Plain.{PlainQuery, Table, Select, Project, Product, Union, Except, Intersect}
use Rattle.ct_query.specs.Fields.{FitsFieldsOn, AreFittingOn, AreAllFittingOn}
use Rattle.ct_query.specs.Size.{stopped, greatest}
use Rattle.ct_query.specs.Fits.{IsColumnBelow, AreColumnsBelow, AreAllColumnsBelow, FitsRows, Fits, width}
use Rattle.ct_plan.specs.Columns.{column_passes, columns_pass, all_columns_pass, is_column_of, columns_of, is_of, is_across, term_from, counted_from, all_counted_from}
use Rattle.ct_plan.{specs.Planned.{conjuncts, all_conjuncts, taken_apart, selected, placed}, proofs.Bare.placed_width}
use Rattle.ct_word.specs.declared.values.Term.TheVariants as term
use Rattle.ct_plan.specs.declared.sides.Side.TheVariants as side

-- what is true of all is true of some, and of what is made of them
module _ {A : Type 0} (t : A → Bool) (P Q : A → Type 0) (f : A → A) (each : (x : A) → t x ≡ true → P x → Q (f x)) where
  pub kept : (xs : List A) → AllByRecursion P xs → AllByRecursion Q (map f (filter t xs))
  kept [] all = tt
  kept (x ∷ xs) all = by_test (t x) refl (kept xs all.1) where
    by_test : (b : Bool) → t x ≡ b → AllByRecursion Q (map f (filter t xs)) → AllByRecursion Q (map f (cond b (x ∷ filter t xs) (filter t xs)))
    by_test true e rest = (each x e all.0, rest)
    by_test false e rest = rest

module _ {A : Type 0} (t : A → Bool) (P Q : A → Type 0) (each : (x : A) → t x ≡ true → P x → Q x) where
  pub kept_same : (xs : List A) → AllByRecursion P xs → AllByRecursion Q (filter t xs)
  kept_same [] all = tt
  kept_same (x ∷ xs) all = by_test (t x) refl (kept_same xs all.1) where
    by_test : (b : Bool) → t x ≡ b → AllByRecursion Q (filter t xs) → AllByRecursion Q (cond b (x ∷ filter t xs) (filter t xs))
    by_test true e rest = (each x e all.0, rest)
    by_test false e rest = rest

all_both : {A : Type 0} (P : A → Type 0) (xs ys : List A) → AllByRecursion P xs → AllByRecursion P ys → AllByRecursion P (xs ++ ys)
all_both P [] ys all more = more
all_both P (x ∷ xs) ys all more = (all.0, all_both P xs ys all.1 more)

-- columns of the left part
module _ (n m w : ℕ) (stops : w ≡ stopped n) where
  left_below : (t : Term) → column_passes (is_column_of side.Left w) t ≡ true → IsColumnBelow n t
  left_below (term.Column k) e = omega (arith, ltb-true k w e, stops)
  left_below (term.Null u) e = tt
  left_below (term.Value x) e = tt

  left_fields : (t : Term) → column_passes (is_column_of side.Left w) t ≡ true → FitsFieldsOn (n + m) t → FitsFieldsOn n t
  left_fields (term.Column k) e f = λ le. absurd (omega (arith, ltb-true k w e, stops, le))
  left_fields (term.Null u) e f = f
  left_fields (term.Value x) e f = f

  mutual
    lefts_below : (c : Condition) → is_of side.Left w c ≡ true → AreColumnsBelow n c
    lefts_below True e = tt
    lefts_below False e = tt
    lefts_below (Same s t) e = let both = and_parts (column_passes (is_column_of side.Left w) s) (column_passes (is_column_of side.Left w) t) e in (left_below s both.0, left_below t both.1)
    lefts_below (Not c) e = lefts_below c e
    lefts_below (And cs) e = all_lefts_below cs e
    lefts_below (Or cs) e = all_lefts_below cs e

    all_lefts_below : (cs : Conditions) → all_columns_pass (is_column_of side.Left w) cs ≡ true → AreAllColumnsBelow n cs
    all_lefts_below none e = tt
    all_lefts_below (also c cs) e = let both = and_parts (columns_pass (is_column_of side.Left w) c) (all_columns_pass (is_column_of side.Left w) cs) e in (lefts_below c both.0, all_lefts_below cs both.1)

  mutual
    lefts_fitting : (c : Condition) → is_of side.Left w c ≡ true → AreFittingOn (n + m) c → AreFittingOn n c
    lefts_fitting True e f = tt
    lefts_fitting False e f = tt
    lefts_fitting (Same s t) e f =
        let both = and_parts (column_passes (is_column_of side.Left w) s) (column_passes (is_column_of side.Left w) t) e in (left_fields s both.0 f.0, left_fields t both.1 f.1)
    lefts_fitting (Not c) e f = lefts_fitting c e f
    lefts_fitting (And cs) e f = all_lefts_fitting cs e f
    lefts_fitting (Or cs) e f = all_lefts_fitting cs e f

    all_lefts_fitting : (cs : Conditions) → all_columns_pass (is_column_of side.Left w) cs ≡ true → AreAllFittingOn (n + m) cs → AreAllFittingOn n cs
    all_lefts_fitting none e f = tt
    all_lefts_fitting (also c cs) e f =
        let both = and_parts (columns_pass (is_column_of side.Left w) c) (all_columns_pass (is_column_of side.Left w) cs) e in (lefts_fitting c both.0 f.0, all_lefts_fitting cs both.1 f.1)

  left_fits : (c : Condition) → is_of side.Left w c ≡ true → FitsRows (n + m) c → FitsRows n c
  left_fits c e f = record { fields = lefts_fitting c e f.fields; columns = lefts_below c e }

  -- columns of the right part, counted from there
  right_below : (t : Term) → column_passes (is_column_of side.Right w) t ≡ true → IsColumnBelow (n + m) t → IsColumnBelow m (term_from w t)
  right_below (term.Column k) e l =
      let both = and_parts (nat_le w k) (nat_lt w greatest) e in
      omega (arith, leb-true w k both.0, ltb-true w greatest both.1, stops, l)
  right_below (term.Null u) e l = tt
  right_below (term.Value x) e l = tt

  right_fields : (t : Term) → column_passes (is_column_of side.Right w) t ≡ true → IsColumnBelow (n + m) t → FitsFieldsOn (n + m) t → FitsFieldsOn m (term_from w t)
  right_fields (term.Column k) e l f =
      let both = and_parts (nat_le w k) (nat_lt w greatest) e in
      λ le. absurd (omega (arith, leb-true w k both.0, ltb-true w greatest both.1, stops, l, le))
  right_fields (term.Null u) e l f = f
  right_fields (term.Value x) e l f = f

  mutual
    rights_below : (c : Condition) → is_of side.Right w c ≡ true → AreColumnsBelow (n + m) c → AreColumnsBelow m (counted_from w c)
    rights_below True e l = tt
    rights_below False e l = tt
    rights_below (Same s t) e l =
        let both = and_parts (column_passes (is_column_of side.Right w) s) (column_passes (is_column_of side.Right w) t) e in (right_below s both.0 l.0, right_below t both.1 l.1)
    rights_below (Not c) e l = rights_below c e l
    rights_below (And cs) e l = all_rights_below cs e l
    rights_below (Or cs) e l = all_rights_below cs e l

    all_rights_below : (cs : Conditions) → all_columns_pass (is_column_of side.Right w) cs ≡ true → AreAllColumnsBelow (n + m) cs → AreAllColumnsBelow m (all_counted_from w cs)
    all_rights_below none e l = tt
    all_rights_below (also c cs) e l =
        let both = and_parts (columns_pass (is_column_of side.Right w) c) (all_columns_pass (is_column_of side.Right w) cs) e in (rights_below c both.0 l.0, all_rights_below cs both.1 l.1)

  mutual
    rights_fitting : (c : Condition) → is_of side.Right w c ≡ true → AreColumnsBelow (n + m) c → AreFittingOn (n + m) c → AreFittingOn m (counted_from w c)
    rights_fitting True e l f = tt
    rights_fitting False e l f = tt
    rights_fitting (Same s t) e l f =
        let both = and_parts (column_passes (is_column_of side.Right w) s) (column_passes (is_column_of side.Right w) t) e in (right_fields s both.0 l.0 f.0, right_fields t both.1 l.1 f.1)
    rights_fitting (Not c) e l f = rights_fitting c e l f
    rights_fitting (And cs) e l f = all_rights_fitting cs e l f
    rights_fitting (Or cs) e l f = all_rights_fitting cs e l f

    all_rights_fitting : (cs : Conditions) → all_columns_pass (is_column_of side.Right w) cs ≡ true → AreAllColumnsBelow (n + m) cs → AreAllFittingOn (n + m) cs → AreAllFittingOn m (all_counted_from w cs)
    all_rights_fitting none e l f = tt
    all_rights_fitting (also c cs) e l f =
        let both = and_parts (columns_pass (is_column_of side.Right w) c) (all_columns_pass (is_column_of side.Right w) cs) e in (rights_fitting c both.0 l.0 f.0, all_rights_fitting cs both.1 l.1 f.1)

  right_fits : (c : Condition) → is_of side.Right w c ≡ true → FitsRows (n + m) c → FitsRows m (counted_from w c)
  right_fits c e f = record { fields = rights_fitting c e f.columns f.fields; columns = rights_below c e f.columns }

module _ (n : ℕ) where
  alone : (c : Condition) → FitsRows n c → AllByRecursion (FitsRows n) (c ∷ [])
  alone c f = (f, tt)

  mutual
    conjuncts_fit : (c : Condition) → AreFittingOn n c → AreColumnsBelow n c → AllByRecursion (FitsRows n) (conjuncts c)
    conjuncts_fit True f l = tt
    conjuncts_fit False f l = alone False (record { fields = f; columns = l })
    conjuncts_fit (Same s t) f l = alone (Same s t) (record { fields = f; columns = l })
    conjuncts_fit (Not c) f l = alone (Not c) (record { fields = f; columns = l })
    conjuncts_fit (And cs) f l = all_conjuncts_fit cs f l
    conjuncts_fit (Or cs) f l = alone (Or cs) (record { fields = f; columns = l })

    all_conjuncts_fit : (cs : Conditions) → AreAllFittingOn n cs → AreAllColumnsBelow n cs → AllByRecursion (FitsRows n) (all_conjuncts cs)
    all_conjuncts_fit none f l = tt
    all_conjuncts_fit (also c cs) f l = all_both (FitsRows n) (conjuncts c) (all_conjuncts cs) (conjuncts_fit c f.0 l.0) (all_conjuncts_fit cs f.1 l.1)

  apart_fits : (c : Condition) (q : PlainQuery) → FitsRows n c → AllByRecursion (FitsRows n) (taken_apart c q)
  apart_fits c (Product a b) f = conjuncts_fit c f.fields f.columns
  apart_fits c _ f = alone c f

  listed_fitting : (cs : List Condition) → AllByRecursion (FitsRows n) cs → AreAllFittingOn n (listed cs)
  listed_fitting [] all = tt
  listed_fitting (c ∷ cs) all = (all.0.fields, listed_fitting cs all.1)

  listed_below : (cs : List Condition) → AllByRecursion (FitsRows n) cs → AreAllColumnsBelow n (listed cs)
  listed_below [] all = tt
  listed_below (c ∷ cs) all = (all.0.columns, listed_below cs all.1)

  listed_fits : (cs : List Condition) → AllByRecursion (FitsRows n) cs → FitsRows n (And (listed cs))
  listed_fits cs all = record { fields = listed_fitting cs all; columns = listed_below cs all }

module _ (s : List Heading) where
  selected_fits : (cs : List Condition) (q : PlainQuery) (n : ℕ) → width s q ≡ n → AllByRecursion (FitsRows n) cs → Fits s q → Fits s (selected cs q)
  selected_fits [] q n e all fit = fit
  selected_fits (c ∷ []) q n e all fit = (subst (λ k. FitsRows k c) (sym e) all.0, fit)
  selected_fits (c ∷ d ∷ cs) q n e all fit = (subst (λ k. FitsRows k (And (listed (c ∷ d ∷ cs)))) (sym e) (listed_fits n (c ∷ d ∷ cs) all), fit)

  pub placed_fits : (q : PlainQuery) (cs : List Condition) → Fits s q → AllByRecursion (FitsRows (width s q)) cs → Fits s (placed s cs q)
  placed_fits (Table t) cs fit all = selected_fits cs (Table t) (width s (Table t)) refl all fit
  placed_fits (Select c q) cs fit all =
      selected_fits cs (placed s (taken_apart c q) q) (width s q) (placed_width s q (taken_apart c q)) all
      (placed_fits q (taken_apart c q) fit.1 (apart_fits (width s q) c q fit.0))
  placed_fits (Project ks q) cs fit all =
      selected_fits cs (Project ks (placed s [] q)) (length ks) refl all
      (subst (λ n. All (λ k. k < n) ks) (sym (placed_width s q [])) fit.0, placed_fits q [] fit.1 tt)
  placed_fits (Product a b) cs fit all =
      let n = width s a in
      let m = width s b in
      let w = columns_of s a in
      let lefts = filter (is_of side.Left w) cs in
      let rights = map (counted_from w) (filter (is_of side.Right w) cs) in
      let left = placed_width s a lefts in
      let right = placed_width s b rights in
      selected_fits (filter (is_across w) cs) (Product (placed s lefts a) (placed s rights b)) (n + m) (λ i. left i + right i)
      (kept_same (is_across w) (FitsRows (n + m)) (FitsRows (n + m)) (λ c e f. f) cs all) (
        placed_fits a lefts fit.0 (kept_same (is_of side.Left w) (FitsRows (n + m)) (FitsRows n) (left_fits n m w refl) cs all),
        placed_fits b rights fit.1 (kept (is_of side.Right w) (FitsRows (n + m)) (FitsRows m) (counted_from w) (right_fits n m w refl) cs all),
      )
  placed_fits (Union a b) cs fit all =
      selected_fits cs (Union (placed s [] a) (placed s [] b)) (width s a) (placed_width s a []) all
      (placed_width s a [] ∙ fit.0 ∙ sym (placed_width s b []), placed_fits a [] fit.1 tt, placed_fits b [] fit.2 tt)
  placed_fits (Except a b) cs fit all =
      selected_fits cs (Except (placed s [] a) (placed s [] b)) (width s a) (placed_width s a []) all
      (placed_width s a [] ∙ fit.0 ∙ sym (placed_width s b []), placed_fits a [] fit.1 tt, placed_fits b [] fit.2 tt)
  placed_fits (Intersect a b) cs fit all =
      selected_fits cs (Intersect (placed s [] a) (placed s [] b)) (width s a) (placed_width s a []) all
      (placed_width s a [] ∙ fit.0 ∙ sym (placed_width s b []), placed_fits a [] fit.1 tt, placed_fits b [] fit.2 tt)
