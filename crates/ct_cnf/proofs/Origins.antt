-- Which origins are among those of an encoding.
use Rattle.std.proofs.Common.{◌≡◌, ℕ, zero, suc, ◌<◌, Bool, true, false, List, [], ◌∷◌, length, map, get_or, Option, Some, refl, ap, ◌∙◌, sym, subst, arith, inl, inr}
use Rattle.std.{specs.Prelude.{slice_get, Contains}, specs.List.{flat_map, list_all}, proofs.lemmas.Bool.{and_parts, false≢true}, proofs.lemmas.Option.{none-some, slice_get-get_or}}
use Rattle.ct_word.{specs.declared.kinds.Kind.Kind, specs.Word.{kind_of, left_of, right_of}}
use Rattle.ct_word.proofs.Items.{no_item, item_cases, first_item, later_item, mapped_item, unmapped_item, flat_item}
use Rattle.ct_derivation.{specs.declared.steps.Why.Why, specs.Literal.Clause, specs.Definition.{defining, definition}}
use Rattle.ct_cnf.{specs.declared.entries.Entry.Entry, specs.declared.numbers.Numbers.Numbers, specs.Encoding.{HasDefinitions, HasNoPaths}}
use Rattle.ct_cnf.specs.Lists.{why_of, equal_entries, not_entries, and_entries, or_entries, defining_entries, definition_entries, all_entries}
use Rattle.ct_cnf.{specs.Making.IsNumbering, proofs.Flat.unflat_item}
use Rattle.ct_word.specs.declared.kinds.Kind.TheVariants as kind
use Rattle.ct_derivation.specs.declared.steps.Why.TheVariants as why

-- each defining clause is named
named_definition : (n : Numbers) (o : Option Kind) (k p a b : ℕ) (c : Clause) → defining o k p a b ≡ Some c → Contains (map why_of (defining_entries n o p a b)) (why.Def p k)
unfolding equal_entries not_entries and_entries or_entries
named_definition n (Some kind.True) zero p a b c e = (0, omega arith, refl)
named_definition n (Some kind.False) zero p a b c e = (0, omega arith, refl)
named_definition n (Some kind.Equal) zero p a b c e = (0, omega arith, refl)
named_definition n (Some kind.Equal) (suc zero) p a b c e = (1, omega arith, refl)
named_definition n (Some kind.Not) zero p a b c e = (0, omega arith, refl)
named_definition n (Some kind.Not) (suc zero) p a b c e = (1, omega arith, refl)
named_definition n (Some kind.And) zero p a b c e = (0, omega arith, refl)
named_definition n (Some kind.And) (suc zero) p a b c e = (1, omega arith, refl)
named_definition n (Some kind.And) (suc (suc zero)) p a b c e = (2, omega arith, refl)
named_definition n (Some kind.Or) zero p a b c e = (0, omega arith, refl)
named_definition n (Some kind.Or) (suc zero) p a b c e = (1, omega arith, refl)
named_definition n (Some kind.Or) (suc (suc zero)) p a b c e = (2, omega arith, refl)
named_definition n _ k p a b c e = absurd (none-some c e)

-- no entry that defines a condition is a path
abbrev is_no_path : Why → Bool
is_no_path (why.Path ts) = false
is_no_path _ = true

without_path : (origins : List Why) → list_all is_no_path origins ≡ true → (ts : List ℕ) → Contains origins (why.Path ts) → ⊥
without_path [] e ts h = no_item (why.Path ts) h
without_path (w ∷ origins) e ts h =
    let parts = and_parts (is_no_path w) (list_all is_no_path origins) e in
    elim (item_cases origins w (why.Path ts) h) [ inl same ↦ false≢true (sym (ap is_no_path same) ∙ parts.0) | inr there ↦ without_path origins parts.1 ts there ]

defines : (n : Numbers) (o : Option Kind) (p a b : ℕ) → list_all is_no_path (map why_of (defining_entries n o p a b)) ≡ true
unfolding equal_entries not_entries and_entries or_entries
defines n (Some kind.True) p a b = refl
defines n (Some kind.False) p a b = refl
defines n (Some kind.Equal) p a b = refl
defines n (Some kind.Not) p a b = refl
defines n (Some kind.And) p a b = refl
defines n (Some kind.Or) p a b = refl
defines n _ p a b = refl

module _ (ws : List ℕ) (root : ℕ) (n : Numbers) (num : IsNumbering ws root n) where
  abbrev origins : List Why
  origins = map why_of (all_entries ws root n)

  pub has_root : Contains origins why.Root
  unfolding all_entries
  has_root = first_item _ why.Root

  -- an entry that defines a condition is among all
  from_definition : (p : ℕ) (e : Entry) → Contains n.conditions p → Contains (definition_entries ws n p) e → Contains (all_entries ws root n) e
  unfolding all_entries
  from_definition p e hp he =
      later_item (flat_map (definition_entries ws n) n.conditions) _ e (flat_item (definition_entries ws n) n.conditions p e hp he)

  named_at : (p k : ℕ) (c : Clause) → p < length ws → definition (slice_get ws p) p k ≡ Some c → Contains (map why_of (definition_entries ws n p)) (why.Def p k)
  unfolding definition_entries
  named_at p k c lt e =
      let w = get_or ws p 0 in
      named_definition n (kind_of w) k p (left_of w) (right_of w) c (ap (λ o. definition o p k) (sym (slice_get-get_or ws p 0 lt)) ∙ e)

  pub has_definitions : HasDefinitions ws root origins
  has_definitions p k c below e =
      let found = unmapped_item why_of (definition_entries ws n p) (why.Def p k) (named_at p k c (num.within p (num.all_conditions p below)) e) in
      subst (Contains origins) found.2
      (mapped_item why_of (all_entries ws root n) found.0 (from_definition p found.0 (num.all_conditions p below) found.1))

  no_path_at : (p : ℕ) (e : Entry) → Contains (definition_entries ws n p) e → (ts : List ℕ) → e.why ≡ why.Path ts → ⊥
  unfolding definition_entries
  no_path_at p e h ts is =
      let w = get_or ws p 0 in
      without_path (map why_of (definition_entries ws n p)) (defines n (kind_of w) p (left_of w) (right_of w)) ts
      (subst (Contains (map why_of (definition_entries ws n p))) is (mapped_item why_of (definition_entries ws n p) e h))

  pub has_no_paths : HasNoPaths origins
  unfolding all_entries
  has_no_paths ts h =
      let found = unmapped_item why_of (all_entries ws root n) (why.Path ts) h in
      elim (item_cases (flat_map (definition_entries ws n) n.conditions) _ found.0 found.1) [
        | inl e ↦ false≢true (ap is_no_path (sym found.2) ∙ ap is_no_path (sym (ap why_of e)))
        | inr there ↦ let f = unflat_item (definition_entries ws n) n.conditions found.0 there in no_path_at f.0 found.0 f.2 ts found.2
      ]
