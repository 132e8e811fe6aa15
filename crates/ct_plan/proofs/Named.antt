-- A query that conditions were moved down in names no other term, but for columns.
use Rattle.std.proofs.Common.{◌≡◌, ℕ, ◌-◌, ◌<◌, Bool, true, false, cond, List, [], ◌∷◌, ◌++◌, map, refl, sym, ap, subst, ◌∙◌, ◌⊎◌, inl, inr, append-nil, arith}
use Rattle.std.{specs.Prelude.{filter, flat_map, Contains}, proofs.lemmas.List.Elements.{Contains-append_left, Contains-append_right, Contains-append_cases}}
use Rattle.std.{proofs.lemmas.List.Concat.flat_map-append, proofs.lemmas.List.map-append}
use Rattle.ct_word.{specs.declared.values.Term.Term, specs.Condition.{Condition, Conditions, True, False, Same, Not, And, Or, none, also, listed}, proofs.Items.{unmapped_item, no_item}}
use Rattle.ct_query.specs.declared.schema.Heading.{Heading}
use Rattle.ct_query.{specs.Plain.{PlainQuery, Table, Select, Project, Product, Union, Except, Intersect}, specs.Fits.IsColumnBelow, specs.Terms.{condition_terms, all_terms, query_terms}}
use Rattle.ct_plan.specs.Columns.{columns_of, is_of, is_across, term_from, counted_from, all_counted_from}
use Rattle.ct_plan.specs.Planned.{conjuncts, all_conjuncts, taken_apart, selected, placed}
use Rattle.ct_word.specs.declared.values.Term.TheVariants as term
use Rattle.ct_plan.specs.declared.sides.Side.TheVariants as side

-- the terms of several conditions
abbrev pub run_terms : List Condition → List Term
run_terms cs = flat_map condition_terms cs

pub terms_listed : (cs : List Condition) → all_terms (listed cs) ≡ run_terms cs
terms_listed [] = refl
terms_listed (c ∷ cs) = ap (λ ts. condition_terms c ++ ts) (terms_listed cs)

pub terms_alone : (c : Condition) → run_terms (c ∷ []) ≡ condition_terms c
terms_alone c = append-nil (condition_terms c)

mutual
  conjunct_terms : (c : Condition) → run_terms (conjuncts c) ≡ condition_terms c
  conjunct_terms True = refl
  conjunct_terms False = refl
  conjunct_terms (Same s t) = terms_alone (Same s t)
  conjunct_terms (Not c) = terms_alone (Not c)
  conjunct_terms (And cs) = all_conjunct_terms cs
  conjunct_terms (Or cs) = terms_alone (Or cs)

  all_conjunct_terms : (cs : Conditions) → run_terms (all_conjuncts cs) ≡ all_terms cs
  all_conjunct_terms none = refl
  all_conjunct_terms (also c cs) =
      let first = conjunct_terms c in
      let rest = all_conjunct_terms cs in
      flat_map-append condition_terms (conjuncts c) (all_conjuncts cs) ∙ (λ i. first i ++ rest i)

pub apart_terms : (c : Condition) (q : PlainQuery) → run_terms (taken_apart c q) ≡ condition_terms c
apart_terms c (Product a b) = conjunct_terms c
apart_terms c _ = terms_alone c

-- terms counted from a column on
module _ (n : ℕ) where
  mutual
    terms_counted : (c : Condition) → condition_terms (counted_from n c) ≡ map (term_from n) (condition_terms c)
    terms_counted True = refl
    terms_counted False = refl
    terms_counted (Same s t) = refl
    terms_counted (Not c) = terms_counted c
    terms_counted (And cs) = all_terms_counted cs
    terms_counted (Or cs) = all_terms_counted cs

    all_terms_counted : (cs : Conditions) → all_terms (all_counted_from n cs) ≡ map (term_from n) (all_terms cs)
    all_terms_counted none = refl
    all_terms_counted (also c cs) =
        let first = terms_counted c in
        let rest = all_terms_counted cs in
        (λ i. first i ++ rest i) ∙ sym (map-append (term_from n) (condition_terms c) (all_terms cs))

  run_counted : (cs : List Condition) → run_terms (map (counted_from n) cs) ≡ map (term_from n) (run_terms cs)
  run_counted [] = refl
  run_counted (c ∷ cs) =
      let first = terms_counted c in
      let rest = run_counted cs in
      (λ i. first i ++ rest i) ∙ sym (map-append (term_from n) (condition_terms c) (run_terms cs))

  same_literal : (u t : Term) → IsColumnBelow 0 t → term_from n u ≡ t → u ≡ t
  same_literal (term.Column k) t l e = absurd (not_below (subst (IsColumnBelow 0) (sym e) l)) where
    not_below : k - n < 0 → ⊥
    not_below lt = omega arith
  same_literal (term.Null u) t l e = e
  same_literal (term.Value x) t l e = e

  of_counted : (cs : List Condition) (t : Term) → IsColumnBelow 0 t → Contains (run_terms (map (counted_from n) cs)) t → Contains (run_terms cs) t
  of_counted cs t l h =
      let from = unmapped_item (term_from n) (run_terms cs) t (subst (λ ts. Contains ts t) (run_counted cs) h) in
      subst (Contains (run_terms cs)) (same_literal from.0 t l from.2) from.1

of_filter : (f : Condition → Bool) (cs : List Condition) (t : Term) → Contains (run_terms (filter f cs)) t → Contains (run_terms cs) t
of_filter f [] t h = h
of_filter f (c ∷ cs) t h = by_test (f c) (of_filter f cs t) h where
  by_test : (b : Bool) → (Contains (run_terms (filter f cs)) t → Contains (run_terms cs) t) → Contains (run_terms (cond b (c ∷ filter f cs) (filter f cs))) t → Contains (condition_terms c ++ run_terms cs) t
  by_test true rest h =
      elim (Contains-append_cases (condition_terms c) (run_terms (filter f cs)) t h) [
        | inl first ↦ Contains-append_left (condition_terms c) (run_terms cs) t first
        | inr later ↦ Contains-append_right (condition_terms c) (run_terms cs) t (rest later)
      ]
  by_test false rest h = Contains-append_right (condition_terms c) (run_terms cs) t (rest h)

of_selected : (cs : List Condition) (q : PlainQuery) (t : Term) → Contains (query_terms (selected cs q)) t → Contains (run_terms cs) t ⊎ Contains (query_terms q) t
of_selected [] q t h = inr h
of_selected (c ∷ []) q t h =
    elim (Contains-append_cases (condition_terms c) (query_terms q) t h) [
      | inl first ↦ inl (subst (λ ts. Contains ts t) (sym (terms_alone c)) first)
      | inr later ↦ inr later
    ]
of_selected (c ∷ d ∷ cs) q t h =
    elim (Contains-append_cases (all_terms (listed (c ∷ d ∷ cs))) (query_terms q) t h) [
      | inl first ↦ inl (subst (λ ts. Contains ts t) (terms_listed (c ∷ d ∷ cs)) first)
      | inr later ↦ inr later
    ]

-- a term that is among the conditions or in a query
abbrev IsThere : List Condition → PlainQuery → Term → Type 0
IsThere cs q t = Contains (run_terms cs) t ⊎ Contains (query_terms q) t

-- it is so where it is among the conditions, or else in what they are put on
there : (cs : List Condition) (p q : PlainQuery) (t : Term) → (Contains (query_terms p) t → IsThere cs q t) → Contains (query_terms (selected cs p)) t → IsThere cs q t
there cs p q t inner h = elim (of_selected cs p t h) [ inl first ↦ inl first | inr later ↦ inner later ]

-- it is so in a query of two sides
either_side : (cs lefts rights : List Condition) (a b a' b' : PlainQuery) (t : Term) → (Contains (run_terms lefts) t → Contains (run_terms cs) t) → (Contains (run_terms rights) t → Contains (run_terms cs) t)
    → (Contains (query_terms a') t → IsThere lefts a t) → (Contains (query_terms b') t → IsThere rights b t)
    → Contains (query_terms a' ++ query_terms b') t → Contains (run_terms cs) t ⊎ Contains (query_terms a ++ query_terms b) t
either_side cs lefts rights a b a' b' t of_lefts of_rights left right h =
    elim (Contains-append_cases (query_terms a') (query_terms b') t h) [
      | inl first ↦ elim (left first) [ inl moved ↦ inl (of_lefts moved) | inr own ↦ inr (Contains-append_left (query_terms a) (query_terms b) t own) ]
      | inr later ↦ elim (right later) [ inl moved ↦ inl (of_rights moved) | inr own ↦ inr (Contains-append_right (query_terms a) (query_terms b) t own) ]
    ]

module _ (s : List Heading) (t : Term) (l : IsColumnBelow 0 t) where
  nowhere : (cs : List Condition) → Contains (run_terms []) t → Contains (run_terms cs) t
  nowhere cs h = absurd (no_item t h)

  from_query : (cs : List Condition) (q : PlainQuery) → IsThere [] q t → IsThere cs q t
  from_query cs q h = elim h [ inl moved ↦ inl (nowhere cs moved) | inr own ↦ inr own ]

  pub placed_terms : (q : PlainQuery) (cs : List Condition) → Contains (query_terms (placed s cs q)) t → IsThere cs q t
  placed_terms (Table name) cs h = of_selected cs (Table name) t h
  placed_terms (Select c q) cs h =
      there cs (placed s (taken_apart c q) q) (Select c q) t
      (λ i. elim (placed_terms q (taken_apart c q) i) [
        | inl own ↦ inr (Contains-append_left (condition_terms c) (query_terms q) t (subst (λ ts. Contains ts t) (apart_terms c q) own))
        | inr inner ↦ inr (Contains-append_right (condition_terms c) (query_terms q) t inner)
      ]) h
  placed_terms (Project ks q) cs h = there cs (Project ks (placed s [] q)) (Project ks q) t (λ i. from_query cs q (placed_terms q [] i)) h
  placed_terms (Product a b) cs h =
      let n = columns_of s a in
      let lefts = filter (is_of side.Left n) cs in
      let rights = filter (is_of side.Right n) cs in
      elim (of_selected (filter (is_across n) cs) (Product (placed s lefts a) (placed s (map (counted_from n) rights) b)) t h) [
        | inl own ↦ inl (of_filter (is_across n) cs t own)
        | inr inner ↦
            either_side cs lefts (map (counted_from n) rights) a b (placed s lefts a) (placed s (map (counted_from n) rights) b) t (of_filter (is_of side.Left n) cs t)
            (λ m. of_filter (is_of side.Right n) cs t (of_counted n rights t l m)) (placed_terms a lefts) (placed_terms b (map (counted_from n) rights)) inner
      ]
  placed_terms (Union a b) cs h =
      there cs (Union (placed s [] a) (placed s [] b)) (Union a b) t
      (either_side cs [] [] a b (placed s [] a) (placed s [] b) t (nowhere cs) (nowhere cs) (placed_terms a []) (placed_terms b [])) h
  placed_terms (Except a b) cs h =
      there cs (Except (placed s [] a) (placed s [] b)) (Except a b) t
      (either_side cs [] [] a b (placed s [] a) (placed s [] b) t (nowhere cs) (nowhere cs) (placed_terms a []) (placed_terms b [])) h
  placed_terms (Intersect a b) cs h =
      there cs (Intersect (placed s [] a) (placed s [] b)) (Intersect a b) t
      (either_side cs [] [] a b (placed s [] a) (placed s [] b) t (nowhere cs) (nowhere cs) (placed_terms a []) (placed_terms b [])) h

  pub planned_terms : (q : PlainQuery) → Contains (query_terms (placed s [] q)) t → Contains (query_terms q) t
  planned_terms q h = elim (placed_terms q [] h) [ inl moved ↦ absurd (no_item t moved) | inr own ↦ own ]
