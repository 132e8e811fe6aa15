-- The clause of a definition or a path holds at every valuation.
use Rattle.std.proofs.Common.{◌≡◌, ℕ, zero, suc, Bool, true, false, not, ◌&&◌, ◌||◌, List, [], ◌∷◌, ◌++◌, Option, Some, None, nat_eq, nat_lt, refl, ap, ◌∙◌, sym, inl, inr, ◌⊎◌}
use Rattle.std.{specs.Prelude.slice_get, proofs.lemmas.List.Folds.list_any-append}
use Rattle.std.proofs.lemmas.Bool.{and_parts, or_left, or_right, eqb-false, false≢true, not-true, false_from_ne_true, cond_both, cases_Bool}
use Rattle.ct_word.{specs.declared.kinds.Kind.Kind, specs.declared.values.Value.Value, specs.Word.{kind_of, left_of, right_of}, specs.Condition.holds_at}
use Rattle.ct_word.{specs.Value.{World, at, same_value}, specs.Reading.{by_kind, meanings, as_cond, condition_at, term_at}, specs.WellFormed.IsWellFormed}
use Rattle.ct_word.{proofs.Alike.value_decides, proofs.Splits.meaning_at, proofs.Constants.one_constant}
use Rattle.ct_derivation.{specs.declared.literals.Lit.Lit, specs.Literal.{Clause, yes_of, no_of}, specs.Definition.{defining, definition}}
use Rattle.ct_derivation.{specs.Path.{pair_of, is_constant, end_of, no_links, moves, ends_clause, is_path, path_clause}, specs.Accepts.is_clause}
use Rattle.ct_derivation.{specs.Truth.{lit_holds, clause_holds}, proofs.Members.same_members_hold}
use Rattle.ct_word.specs.declared.kinds.Kind.TheVariants as kind
use Rattle.ct_derivation.specs.declared.literals.Atom.TheVariants as atom

-- the clauses of a condition, where p is its truth and a and b those of its fields
excluded : (p : Bool) → (p || (not p || false)) ≡ true
excluded true = refl
excluded false = refl

excluded_not : (p : Bool) → (not p || (p || false)) ≡ true
excluded_not true = refl
excluded_not false = refl

not_zero : (a : Bool) → (not (not a) || (not a || false)) ≡ true
not_zero true = refl
not_zero false = refl

and_zero : (a b : Bool) → (not (a && (b && true)) || (a || false)) ≡ true
and_zero true true = refl
and_zero true false = refl
and_zero false b = refl

and_one : (a b : Bool) → (not (a && (b && true)) || (b || false)) ≡ true
and_one true true = refl
and_one true false = refl
and_one false b = refl

and_two : (a b : Bool) → ((a && (b && true)) || (not a || (not b || false))) ≡ true
and_two true true = refl
and_two true false = refl
and_two false b = refl

or_zero : (a b : Bool) → (not (a || (b || false)) || (a || (b || false))) ≡ true
or_zero true b = refl
or_zero false true = refl
or_zero false false = refl

or_one : (a b : Bool) → ((a || (b || false)) || (not a || false)) ≡ true
or_one true b = refl
or_one false true = refl
or_one false false = refl

or_two : (a b : Bool) → ((a || (b || false)) || (not b || false)) ≡ true
or_two true b = refl
or_two false true = refl
or_two false false = refl

module _ (ws : List ℕ) (v : World) where
  abbrev pub Told : Option Clause → Type 0
  Told None = Unit {0}
  Told (Some ls) = clause_holds ws v ls ≡ true

  pub told_clause : (o : Option Clause) (ls : Clause) → Told o → is_clause o ls ≡ true → clause_holds ws v ls ≡ true
  told_clause None ls t e = absurd (false≢true e)
  told_clause (Some ms) ls t e = same_members_hold ws v ls ms e t

  abbrev truth : ℕ → Bool
  truth p = holds_at v (condition_at ws p)

  -- by the kind of the condition
  by_kind_told : (o : Option Kind) (k p a b : ℕ) → condition_at ws p ≡ as_cond (Some (by_kind o (meanings ws) a b)) → Told (defining o k p a b)
  unfolding clause_holds lit_holds
  by_kind_told (Some kind.True) zero p a b e = rw e refl
  by_kind_told (Some kind.False) zero p a b e = rw e refl
  by_kind_told (Some kind.Equal) zero p a b e = rw e (excluded_not _)
  by_kind_told (Some kind.Equal) (suc zero) p a b e = rw e (excluded _)
  by_kind_told (Some kind.Not) zero p a b e = rw e (not_zero _)
  by_kind_told (Some kind.Not) (suc zero) p a b e = rw e (excluded_not _)
  by_kind_told (Some kind.And) zero p a b e = rw e (and_zero (truth a) (truth b))
  by_kind_told (Some kind.And) (suc zero) p a b e = rw e (and_one (truth a) (truth b))
  by_kind_told (Some kind.And) (suc (suc zero)) p a b e = rw e (and_two (truth a) (truth b))
  by_kind_told (Some kind.Or) zero p a b e = rw e (or_zero (truth a) (truth b))
  by_kind_told (Some kind.Or) (suc zero) p a b e = rw e (or_one (truth a) (truth b))
  by_kind_told (Some kind.Or) (suc (suc zero)) p a b e = rw e (or_two (truth a) (truth b))
  by_kind_told _ _ p a b e = tt

  abbrev value_at : ℕ → Value
  value_at t = at v [] (term_at ws t)

  -- the literals of a pair, by the values of both terms
  yes_pair : (s t : ℕ) → value_at s ≡ value_at t → lit_holds ws v (yes_of (pair_of s t)) ≡ true
  unfolding lit_holds
  yes_pair s t e =
      cond_both (nat_lt s t) (atom.Same s t) (atom.Same t s) (λ a. lit_holds ws v (yes_of a) ≡ true)
      (λ _. (value_decides _ _).1 e) (λ _. (value_decides _ _).1 (sym e))

  differ : (s t : ℕ) → (value_at s ≡ value_at t → ⊥) → same_value (value_at s) (value_at t) ≡ false
  differ s t ne = false_from_ne_true _ (λ e. ne ((value_decides _ _).0 e))

  no_pair : (s t : ℕ) → (value_at s ≡ value_at t → ⊥) → lit_holds ws v (no_of (pair_of s t)) ≡ true
  unfolding lit_holds
  no_pair s t ne =
      cond_both (nat_lt s t) (atom.Same s t) (atom.Same t s) (λ a. lit_holds ws v (no_of a) ≡ true)
      (λ _. ap not (differ s t ne)) (λ _. ap not (differ t s (λ e. ne (sym e))))

  same_or : (s t : ℕ) → (value_at s ≡ value_at t) ⊎ (value_at s ≡ value_at t → ⊥)
  same_or s t =
      elim (cases_Bool (same_value (value_at s) (value_at t))) [ inl e ↦ inl ((value_decides _ _).0 e) | inr f ↦ inr (λ e. false≢true (sym f ∙ (value_decides _ _).1 e)) ]

  -- a link is broken, or both ends have one value
  links : (t : ℕ) (us : List ℕ) → (clause_holds ws v (no_links t us) ≡ true) ⊎ (value_at t ≡ value_at (end_of t us))
  unfolding clause_holds
  links t [] = inr refl
  links t (u ∷ us) =
      elim (same_or t u) [
        | inl e ↦ elim (links u us) [ inl y ↦ inl (or_right (lit_holds ws v (no_of (pair_of t u))) _ y) | inr f ↦ inr (e ∙ f) ]
        | inr ne ↦ inl (or_left _ (clause_holds ws v (no_links u us)) (no_pair t u ne))
      ]

  as_append : (ls ms : Clause) → clause_holds ws v (ls ++ ms) ≡ (clause_holds ws v ls || clause_holds ws v ms)
  unfolding clause_holds
  as_append ls ms = list_any-append (lit_holds ws v) ls ms

  pub single : (l : Lit) → lit_holds ws v l ≡ true → clause_holds ws v (l ∷ []) ≡ true
  unfolding clause_holds
  single l e = or_left (lit_holds ws v l) false e

  module _ (wf : IsWellFormed ws) where
    pub definition_told : (p k : ℕ) (o : Option ℕ) → slice_get ws p ≡ o → Told (definition o p k)
    definition_told p k None there = tt
    definition_told p k (Some w) there = by_kind_told (kind_of w) k p (left_of w) (right_of w) (ap as_cond (meaning_at ws wf p w there))

    ends_told : (s t : ℕ) → (s ≡ t → ⊥) → value_at s ≡ value_at t → clause_holds ws v (ends_clause ws s t) ≡ true
    unfolding ends_clause is_constant
    ends_told s t ne e =
        cond_both (is_constant ws s && is_constant ws t) [] (yes_of (pair_of s t) ∷ []) (λ ls. clause_holds ws v ls ≡ true)
        (λ both. let parts = and_parts (is_constant ws s) (is_constant ws t) both in absurd (ne (one_constant ws wf v s t parts.0 parts.1 e)))
        (λ _. single (yes_of (pair_of s t)) (yes_pair s t e))

    apart : (t : ℕ) (us : List ℕ) → is_path ws t us ≡ true → t ≡ end_of t us → ⊥
    unfolding is_path
    apart t us e = eqb-false t (end_of t us) (not-true _ (and_parts (moves t us) _ (and_parts (moves t us && not (nat_eq t (end_of t us))) _ e).0).1)

    pub path_told : (ts : List ℕ) → Told (path_clause ws ts)
    path_told [] = tt
    path_told (t ∷ us) =
        cond_both (is_path ws t us) (Some (no_links t us ++ ends_clause ws t (end_of t us))) None Told
        (λ ok.
        as_append (no_links t us) (ends_clause ws t (end_of t us))
        ∙ elim (links t us) [
          | inl y ↦ or_left _ _ y
          | inr e ↦ or_right (clause_holds ws v (no_links t us)) _ (ends_told t (end_of t us) (apart t us ok) e)
        ])
        (λ _. tt)
