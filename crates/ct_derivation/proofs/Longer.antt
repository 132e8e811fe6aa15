-- An accepted derivation is accepted over every longer list of words.
use Rattle.std.proofs.Common.{◌≡◌, ℕ, Bool, true, not, ◌&&◌, List, [], ◌∷◌, ◌++◌, Option, Some, None, nat_lt, nat_eq, refl, ap, sym, ◌∙◌, inl, inr, if◌then◌else◌}
use Rattle.std.{specs.Prelude.slice_get, specs.List.list_all, proofs.lemmas.Bool.{and_parts, and_from, false≢true, cases_Bool}}
use Rattle.ct_word.{specs.WellFormed.is_place_of, specs.Constant.is_constant_word, proofs.Items.{get_append, all_implied}}
use Rattle.ct_word.proofs.Prefixes.{get_in_prefix, place_in_prefix, place_within}
use Rattle.ct_derivation.{specs.declared.literals.Atom.Atom, specs.declared.literals.Lit.Lit, specs.declared.steps.Why.Why, specs.declared.steps.Step.Step}
use Rattle.ct_derivation.{specs.declared.steps.Derivation.Derivation, specs.Literal.Clause, specs.Definition.definition}
use Rattle.ct_derivation.specs.Path.{is_constant, end_of, no_links, moves, ends_clause, is_path, path_clause}
use Rattle.ct_derivation.specs.Accepts.{fits_atom, fits_lit, is_clause, gives, is_right, all_right, ends_empty, accepts, Accepts}
use mathlib.Core.List.{IsPrefix}
use Rattle.ct_word.specs.declared.kinds.Class.TheVariants as class
use Rattle.ct_derivation.specs.declared.literals.Atom.TheVariants as atom
use Rattle.ct_derivation.specs.declared.steps.Why.TheVariants as why

module _ (ws xs : List ℕ) (longer : IsPrefix ws xs) where
  atom_longer : (a : Atom) → fits_atom ws a ≡ true → fits_atom xs a ≡ true
  unfolding fits_atom
  atom_longer (atom.Node p) e = place_in_prefix ws xs class.Cond p longer e
  atom_longer (atom.Same s t) e =
      let parts = and_parts (is_place_of ws class.Term s && is_place_of ws class.Term t) (nat_lt s t) e in
      let places = and_parts (is_place_of ws class.Term s) (is_place_of ws class.Term t) parts.0 in
      and_from (is_place_of xs class.Term s && is_place_of xs class.Term t) (nat_lt s t)
      (and_from (is_place_of xs class.Term s) (is_place_of xs class.Term t) (place_in_prefix ws xs class.Term s longer places.0) (place_in_prefix ws xs class.Term t longer places.1))
      parts.1

  lit_longer : (l : Lit) → fits_lit ws l ≡ true → fits_lit xs l ≡ true
  unfolding fits_lit
  lit_longer l e = atom_longer l.atom e

  definition_longer : (p k : ℕ) (ls : Clause) (o : Option ℕ) → slice_get ws p ≡ o → is_clause (definition o p k) ls ≡ true → is_clause (definition (slice_get xs p) p k) ls ≡ true
  definition_longer p k ls None at e = absurd (false≢true e)
  definition_longer p k ls (Some w) at e =
      ap (λ o. is_clause (definition o p k) ls) (ap (λ l. slice_get l p) (sym longer.1) ∙ get_append ws longer.0 p w at) ∙ e

  constant_longer : (s : ℕ) → is_place_of ws class.Term s ≡ true → is_constant ws s ≡ is_constant xs s
  unfolding is_constant
  constant_longer s e = ap is_constant_word (sym (get_in_prefix ws xs s longer (place_within ws class.Term s e)))

  end_passes : (p : ℕ → Bool) (t : ℕ) (us : List ℕ) → list_all p (t ∷ us) ≡ true → p (end_of t us) ≡ true
  end_passes p t [] e = (and_parts (p t) _ e).0
  end_passes p t (u ∷ us) e = end_passes p u us (and_parts (p t) _ e).1

  -- a path of the words is one of the longer list, with one clause
  path_longer : (t : ℕ) (us : List ℕ) → is_path ws t us ≡ true → (is_path xs t us ≡ true) × (ends_clause ws t (end_of t us) ≡ ends_clause xs t (end_of t us))
  unfolding is_path ends_clause
  path_longer t us e =
      let parts = and_parts (moves t us && not (nat_eq t (end_of t us))) (list_all (is_place_of ws class.Term) (t ∷ us)) e in
      let start = (and_parts (is_place_of ws class.Term t) _ parts.1).0 in (
        and_from (moves t us && not (nat_eq t (end_of t us))) (list_all (is_place_of xs class.Term) (t ∷ us)) parts.0
            (all_implied (is_place_of ws class.Term) (is_place_of xs class.Term) (λ q. place_in_prefix ws xs class.Term q longer) (t ∷ us) parts.1),
        rw (constant_longer t start, constant_longer (end_of t us) (end_passes (is_place_of ws class.Term) t us parts.1)) refl,
      )

  clause_longer : (ts : List ℕ) (ls : Clause) → is_clause (path_clause ws ts) ls ≡ true → is_clause (path_clause xs ts) ls ≡ true
  clause_longer [] ls e = absurd (false≢true e)
  clause_longer (t ∷ us) ls e = elim (cases_Bool (is_path ws t us)) [
    | inl is ↦
        let there = path_longer t us is in
        ap (λ b. is_clause (if b then Some (no_links t us ++ ends_clause xs t (end_of t us)) else None) ls) there.0
        ∙ ap (λ c. is_clause (Some (no_links t us ++ c)) ls) (sym there.1)
        ∙ sym (ap (λ b. is_clause (if b then Some (no_links t us ++ ends_clause ws t (end_of t us)) else None) ls) is) ∙ e
    | inr not_one ↦ absurd (false≢true (sym (ap (λ b. is_clause (if b then Some (no_links t us ++ ends_clause ws t (end_of t us)) else None) ls) not_one) ∙ e))
  ]

  module _ (root : ℕ) where
    gives_longer : (earlier : List Step) (w : Why) (ls : Clause) → gives ws root earlier w ls ≡ true → gives xs root earlier w ls ≡ true
    unfolding gives
    gives_longer earlier why.Root ls e = e
    gives_longer earlier (why.Def p k) ls e = definition_longer p k ls (slice_get ws p) refl e
    gives_longer earlier (why.Path ts) ls e = clause_longer ts ls e
    gives_longer earlier (why.Rup hs) ls e = e

    right_longer : (earlier : List Step) (s : Step) → is_right ws root earlier s ≡ true → is_right xs root earlier s ≡ true
    unfolding is_right
    right_longer earlier s e =
        let parts = and_parts (list_all (fits_lit ws) s.clause) (gives ws root earlier s.why s.clause) e in
        and_from (list_all (fits_lit xs) s.clause) (gives xs root earlier s.why s.clause)
        (all_implied (fits_lit ws) (fits_lit xs) lit_longer s.clause parts.0) (gives_longer earlier s.why s.clause parts.1)

    all_longer : (earlier steps : List Step) → all_right ws root earlier steps ≡ true → all_right xs root earlier steps ≡ true
    all_longer earlier [] e = refl
    all_longer earlier (s ∷ steps) e =
        let parts = and_parts (is_right ws root earlier s) (all_right ws root (earlier ++ s ∷ []) steps) e in
        and_from (is_right xs root earlier s) (all_right xs root (earlier ++ s ∷ []) steps) (right_longer earlier s parts.0) (all_longer (earlier ++ s ∷ []) steps parts.1)

    pub accepted_longer : (d : Derivation) → Accepts ws root d → Accepts xs root d
    unfolding accepts
    accepted_longer d e =
        let parts = and_parts (is_place_of ws class.Cond root && all_right ws root [] d.steps) (ends_empty d.steps) e in
        let halves = and_parts (is_place_of ws class.Cond root) (all_right ws root [] d.steps) parts.0 in
        and_from (is_place_of xs class.Cond root && all_right xs root [] d.steps) (ends_empty d.steps)
        (and_from (is_place_of xs class.Cond root) (all_right xs root [] d.steps) (place_in_prefix ws xs class.Cond root longer halves.0) (all_longer [] d.steps halves.1))
        parts.1
