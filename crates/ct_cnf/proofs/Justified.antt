-- Each clause is that of its origin.
use Rattle.std.proofs.Common.{◌≡◌, ℕ, zero, suc, ◌+◌, ℤ, true, ◌&&◌, List, [], ◌∷◌, ◌++◌, length, map, get_or, Option, Some, refl, ap, ◌∙◌, sym, subst, arith, inl, inr}
use Rattle.std.{specs.Prelude.{slice_get, Contains}, specs.List.{flat_map, list_all}, proofs.lemmas.Bool.{and_from, lt-ltb}}
use Rattle.std.{proofs.lemmas.Option.slice_get-get_or, proofs.lemmas.List.Elements.Contains-append_cases}
use Rattle.ct_word.{specs.declared.kinds.Kind.Kind, specs.Word.{kind_of, left_of, right_of}}
use Rattle.ct_word.proofs.Items.{no_item, item_cases, first_item, later_item}
use Rattle.ct_derivation.{specs.declared.literals.Atom.Atom, specs.declared.literals.Lit.Lit, specs.declared.steps.Why.Why}
use Rattle.ct_derivation.{specs.Definition.{defining, definition}, specs.Variables.{signed, is_literal}}
use Rattle.ct_cnf.{specs.declared.entries.Entry.Entry, specs.declared.numbers.Numbers.Numbers, specs.Making.IsNumbering}
use Rattle.ct_cnf.specs.Encoding.{atom_of, named, through, origin_clause, AreOrigins}
use Rattle.ct_cnf.specs.Lists.{yes_of, no_of, clause_of, why_of, entry, node_of, equal_entries, not_entries, and_entries, or_entries, defining_entries, definition_entries, all_entries, AreFieldsNumbered}
use Rattle.ct_cnf.proofs.Atoms.{IsAtomOf, node_found, same_found}
use Rattle.ct_word.specs.declared.kinds.Kind.TheVariants as kind
use Rattle.ct_derivation.specs.declared.literals.Atom.TheVariants as atom
use Rattle.ct_derivation.specs.declared.steps.Why.TheVariants as why
use Rattle.ct_derivation.specs.Literal as literal

-- something holds of each item
abbrev Each : {X : Type 0} → (X → Type 0) → List X → Type 0
Each {X} P xs = (x : X) → Contains xs x → P x

each_nil : {X : Type 0} (P : X → Type 0) → Each P []
each_nil P x h = absurd (no_item x h)

each_cons : {X : Type 0} (P : X → Type 0) (x : X) (xs : List X) → P x → Each P xs → Each P (x ∷ xs)
each_cons P x xs p e y h = elim (item_cases xs x y h) [ inl same ↦ subst P same p | inr there ↦ e y there ]

each_one : {X : Type 0} (P : X → Type 0) (x : X) → P x → Each P (x ∷ [])
each_one P x p = each_cons P x [] p (each_nil P)

each_two : {X : Type 0} (P : X → Type 0) (x y : X) → P x → P y → Each P (x ∷ y ∷ [])
each_two P x y p q = each_cons P x (y ∷ []) p (each_one P y q)

each_three : {X : Type 0} (P : X → Type 0) (x y z : X) → P x → P y → P z → Each P (x ∷ y ∷ z ∷ [])
each_three P x y z p q r = each_cons P x (y ∷ z ∷ []) p (each_two P y z q r)

each_append : {X : Type 0} (P : X → Type 0) (xs ys : List X) → Each P xs → Each P ys → Each P (xs ++ ys)
each_append P xs ys e f y h = elim (Contains-append_cases xs ys y h) [ inl l ↦ e y l | inr r ↦ f y r ]

each_flat : {X Y : Type 0} (P : Y → Type 0) (f : X → List Y) (xs : List X) → ((x : X) → Contains xs x → Each P (f x)) → Each P (flat_map f xs)
each_flat P f [] e = each_nil P
each_flat P f (x ∷ xs) e = each_append P (f x) (flat_map f xs) (e x (first_item xs x)) (each_flat P f xs (λ y h. e y (later_item xs x y h)))

module _ (ws : List ℕ) (root : ℕ) (n : Numbers) (num : IsNumbering ws root n) where
  abbrev atoms : List Atom
  atoms = n.atoms

  abbrev Found : ℕ → Atom → Type 0
  Found v a = IsAtomOf n.atoms v a

  -- an entry has the clause of its reason, over the variables
  pub record IsJust (e : Entry) : Type 0 where
    pub gives : origin_clause ws root e.why ≡ Some (through atoms e.clause)
    pub within : list_all (is_literal (length atoms)) e.clause ≡ true

  -- a number stands for a literal
  record IsLitOf (x : ℤ) (l : Lit) : Type 0 where
    is : named atoms (signed x) ≡ l
    within : is_literal (length atoms) x ≡ true

  yes_is : (v : ℕ) (a : Atom) → Found v a → IsLitOf (yes_of v) (literal.yes_of a)
  yes_is zero a f = absurd (omega (arith, f.low))
  yes_is (suc k) a f = record { is = ap literal.yes_of f.is; within = lt-ltb k (length atoms) (omega (arith, f.high)) }

  no_is : (v : ℕ) (a : Atom) → Found v a → IsLitOf (no_of v) (literal.no_of a)
  no_is zero a f = absurd (omega (arith, f.low))
  no_is (suc k) a f =
      let one : k + 1 ≡ suc k = omega arith in
      record {
        is = ap (λ v. literal.no_of (atom_of atoms v)) one ∙ ap literal.no_of f.is;
        within = lt-ltb k (length atoms) (omega (arith, f.high));
      }

  just_one : (x : ℤ) (l : Lit) (w : Why) → IsLitOf x l → origin_clause ws root w ≡ Some (l ∷ []) → IsJust (entry (x ∷ []) w)
  just_one x l w p e = record { gives = e ∙ sym (λ i. Some (p.is i ∷ [])); within = and_from (is_literal (length atoms) x) true p.within refl }

  just_two : (x y : ℤ) (l m : Lit) (w : Why) → IsLitOf x l → IsLitOf y m → origin_clause ws root w ≡ Some (l ∷ m ∷ []) → IsJust (entry (x ∷ y ∷ []) w)
  just_two x y l m w p q e = record {
    gives = e ∙ sym (λ i. Some (p.is i ∷ q.is i ∷ []));
    within = and_from (is_literal (length atoms) x) (is_literal (length atoms) y && true) p.within (and_from (is_literal (length atoms) y) true q.within refl);
  }

  just_three : (x y z : ℤ) (l m k : Lit) (w : Why) → IsLitOf x l → IsLitOf y m → IsLitOf z k → origin_clause ws root w ≡ Some (l ∷ m ∷ k ∷ []) → IsJust (entry (x ∷ y ∷ z ∷ []) w)
  just_three x y z l m k w p q r e = record {
    gives = e ∙ sym (λ i. Some (p.is i ∷ q.is i ∷ r.is i ∷ []));
    within = and_from (is_literal (length atoms) x) (is_literal (length atoms) y && (is_literal (length atoms) z && true)) p.within
        (and_from (is_literal (length atoms) y) (is_literal (length atoms) z && true) q.within (and_from (is_literal (length atoms) z) true r.within refl));
  }

  node : (p : ℕ) → Contains n.conditions p → Found (node_of n p) (atom.Node p)
  node p h = node_found ws root n num p h

  -- definitions
  module _ (p w : ℕ) (listed : Contains n.conditions p) (at : slice_get ws p ≡ Some w) (here : get_or ws p 0 ≡ w) where
    def_clause : (o : Option Kind) (k : ℕ) → kind_of w ≡ o → definition (slice_get ws p) p k ≡ defining o k p (left_of w) (right_of w)
    def_clause o k e = ap (λ s. definition s p k) at ∙ ap (λ q. defining q k p (left_of w) (right_of w)) e

    just_defining : (o : Option Kind) → kind_of w ≡ o → AreFieldsNumbered n o (left_of w) (right_of w) → Each IsJust (defining_entries n o p (left_of w) (right_of w))
    unfolding equal_entries not_entries and_entries or_entries
    just_defining (Some kind.True) e f =
        each_one IsJust _
        (just_one _ _ (why.Def p 0) (yes_is _ _ (node p listed)) (def_clause (Some kind.True) 0 e))
    just_defining (Some kind.False) e f =
        each_one IsJust _
        (just_one _ _ (why.Def p 0) (no_is _ _ (node p listed)) (def_clause (Some kind.False) 0 e))
    just_defining (Some kind.Equal) e f =
        let pair = same_found ws root n num p w listed here e in
        each_two IsJust _ _
        (just_two _ _ _ _ (why.Def p 0) (no_is _ _ (node p listed)) (yes_is _ _ pair) (def_clause (Some kind.Equal) 0 e))
        (just_two _ _ _ _ (why.Def p 1) (yes_is _ _ (node p listed)) (no_is _ _ pair) (def_clause (Some kind.Equal) 1 e))
    just_defining (Some kind.Not) e f =
        let a = node (left_of w) f in
        each_two IsJust _ _
        (just_two _ _ _ _ (why.Def p 0) (no_is _ _ (node p listed)) (no_is _ _ a) (def_clause (Some kind.Not) 0 e))
        (just_two _ _ _ _ (why.Def p 1) (yes_is _ _ (node p listed)) (yes_is _ _ a) (def_clause (Some kind.Not) 1 e))
    just_defining (Some kind.And) e f =
        let a = node (left_of w) f.0 in
        let b = node (right_of w) f.1 in
        each_three IsJust _ _ _
        (just_two _ _ _ _ (why.Def p 0) (no_is _ _ (node p listed)) (yes_is _ _ a) (def_clause (Some kind.And) 0 e))
        (just_two _ _ _ _ (why.Def p 1) (no_is _ _ (node p listed)) (yes_is _ _ b) (def_clause (Some kind.And) 1 e))
        (just_three _ _ _ _ _ _ (why.Def p 2) (yes_is _ _ (node p listed)) (no_is _ _ a) (no_is _ _ b) (def_clause (Some kind.And) 2 e))
    just_defining (Some kind.Or) e f =
        let a = node (left_of w) f.0 in
        let b = node (right_of w) f.1 in
        each_three IsJust _ _ _
        (just_three _ _ _ _ _ _ (why.Def p 0) (no_is _ _ (node p listed)) (yes_is _ _ a) (yes_is _ _ b) (def_clause (Some kind.Or) 0 e))
        (just_two _ _ _ _ (why.Def p 1) (yes_is _ _ (node p listed)) (no_is _ _ a) (def_clause (Some kind.Or) 1 e))
        (just_two _ _ _ _ (why.Def p 2) (yes_is _ _ (node p listed)) (no_is _ _ b) (def_clause (Some kind.Or) 2 e))
    just_defining _ e f = each_nil IsJust

  just_definition : (p : ℕ) → Contains n.conditions p → Each IsJust (definition_entries ws n p)
  unfolding definition_entries
  just_definition p h = just_defining p (get_or ws p 0) h (slice_get-get_or ws p 0 (num.within p h)) refl (kind_of (get_or ws p 0)) refl (num.fields p h)

  just_all : Each IsJust (all_entries ws root n)
  unfolding all_entries
  just_all =
      each_cons IsJust _ (flat_map (definition_entries ws n) n.conditions) (just_one _ _ why.Root (yes_is _ _ (node root num.top)) refl)
      (each_flat IsJust (definition_entries ws n) n.conditions (λ p h. just_definition p h))

  given : (es : List Entry) → Each IsJust es → map (origin_clause ws root) (map why_of es) ≡ map (λ ls. Some (through atoms ls)) (map clause_of es)
  given [] j = refl
  given (e ∷ es) j =
      let first = (j e (first_item es e)).gives in
      let rest = given es (λ x h. j x (later_item es e x h)) in
      λ i. first i ∷ rest i

  all_within : (es : List Entry) → Each IsJust es → list_all (list_all (is_literal (length atoms))) (map clause_of es) ≡ true
  all_within [] j = refl
  all_within (e ∷ es) j =
      and_from (list_all (is_literal (length atoms)) e.clause) (list_all (list_all (is_literal (length atoms))) (map clause_of es))
      (j e (first_item es e)).within (all_within es (λ x h. j x (later_item es e x h)))

  pub are_origins : AreOrigins ws root atoms (map clause_of (all_entries ws root n)) (map why_of (all_entries ws root n))
  are_origins = given (all_entries ws root n) just_all

  pub are_literals : list_all (list_all (is_literal (length atoms))) (map clause_of (all_entries ws root n)) ≡ true
  are_literals = all_within (all_entries ws root n) just_all
