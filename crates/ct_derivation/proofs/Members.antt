-- Literals that are written alike are one, and clauses with the same members have one truth.
use Rattle.std.{proofs.Common.{◌≡◌, ℕ, Bool, true, false, not, List, [], ◌∷◌, nat_eq, refl, ap, sym, ◌∙◌, subst, if◌then◌else◌, inl, inr}, specs.List.list_all}
use Rattle.std.{specs.Bool.Decides, specs.Cmp.IsEquivalence}
use Rattle.std.proofs.lemmas.Bool.{eqb-true, eq-eqb, and_from, and_parts, or_cases, or_parts, false≢true, both_ways, cases_Bool}
use Rattle.ct_word.specs.Value.{World}
use Rattle.ct_derivation.{specs.declared.literals.Atom.Atom, specs.declared.literals.Lit.Lit, specs.Truth.{atom_holds, lit_holds, clause_holds}}
use Rattle.ct_derivation.specs.Literal.{same_sign, same_atom, same_lit, has, same_members, negated}
use Rattle.ct_derivation.specs.declared.literals.Atom.TheVariants as atom

same_sign_is : (a b : Bool) → same_sign a b ≡ true → a ≡ b
same_sign_is true true e = refl
same_sign_is false false e = refl
same_sign_is _ _ e = absurd (false≢true e)

pub same_atom_is : (a b : Atom) → same_atom a b ≡ true → a ≡ b
same_atom_is (atom.Node p) (atom.Node q) e = ap atom.Node (eqb-true p q e)
same_atom_is (atom.Same s t) (atom.Same p q) e =
    let both = and_parts (nat_eq s p) (nat_eq t q) e in
    ap (λ x. atom.Same x t) (eqb-true s p both.0) ∙ ap (λ y. atom.Same p y) (eqb-true t q both.1)
same_atom_is _ _ e = absurd (false≢true e)

abbrev lit_of : Bool → Atom → Lit
lit_of b a = record { positive = b; atom = a }

pub same_lit_is : (l m : Lit) → same_lit l m ≡ true → l ≡ m
unfolding same_lit
same_lit_is l m e =
    let both = and_parts (same_sign l.positive m.positive) (same_atom l.atom m.atom) e in
    ap (λ b. lit_of b l.atom) (same_sign_is _ _ both.0) ∙ ap (λ a. lit_of m.positive a) (same_atom_is _ _ both.1)

-- each is written like itself
same_sign_self : (b : Bool) → same_sign b b ≡ true
same_sign_self true = refl
same_sign_self false = refl

pub same_atom_self : (a : Atom) → same_atom a a ≡ true
same_atom_self (atom.Node p) = eq-eqb p p refl
same_atom_self (atom.Same s t) = and_from (nat_eq s s) (nat_eq t t) (eq-eqb s s refl) (eq-eqb t t refl)

pub same_lit_self : (l : Lit) → same_lit l l ≡ true
unfolding same_lit
same_lit_self l = and_from (same_sign l.positive l.positive) (same_atom l.atom l.atom) (same_sign_self l.positive) (same_atom_self l.atom)

pub lit_decides : (l m : Lit) → Decides (same_lit l m) (l ≡ m)
lit_decides l m = (same_lit_is l m, λ e. subst (λ x. same_lit l x ≡ true) e (same_lit_self l))

both_or_none : (a b : Bool) → (a ≡ true → b ≡ true) → (b ≡ true → a ≡ true) → a ≡ b
both_or_none true b f g = sym (f refl)
both_or_none false true f g = g refl
both_or_none false false f g = refl

flipped : (l m : Lit) → same_lit l m ≡ true → same_lit m l ≡ true
flipped l m e = (lit_decides m l).1 (sym (same_lit_is l m e))

pub lit_laws : IsEquivalence same_lit
lit_laws = record {
  refl = same_lit_self;
  symm = λ l m. both_or_none _ _ (flipped l m) (flipped m l);
  congr = λ l m n e. ap (λ x. same_lit x n) (same_lit_is l m e);
}

signs : (b a : Bool) → (if not b then a else not a) ≡ not (if b then a else not a)
signs true a = refl
signs false true = refl
signs false false = refl

module _ (ws : List ℕ) (v : World) where
  pub negated_holds : (l : Lit) → lit_holds ws v (negated l) ≡ not (lit_holds ws v l)
  unfolding lit_holds
  negated_holds l = signs l.positive (atom_holds ws v l.atom)

  -- a member of a false clause is false
  member_false : (ls : List Lit) (l : Lit) → clause_holds ws v ls ≡ false → has ls l ≡ true → lit_holds ws v l ≡ false
  unfolding clause_holds has
  member_false [] l e h = absurd (false≢true h)
  member_false (m ∷ ls) l e h =
      let parts = or_parts (lit_holds ws v m) (clause_holds ws v ls) e in
      elim (or_cases (same_lit l m) (has ls l) h) [ inl s ↦ ap (lit_holds ws v) (same_lit_is l m s) ∙ parts.0 | inr t ↦ member_false ls l parts.1 t ]

  member_holds : (ls : List Lit) (l : Lit) → lit_holds ws v l ≡ true → has ls l ≡ true → clause_holds ws v ls ≡ true
  member_holds ls l e h = elim (cases_Bool (clause_holds ws v ls)) [ inl t ↦ t | inr f ↦ absurd (both_ways _ (member_false ls l f h) e) ]

  -- a clause that has the members of one that holds
  members_hold : (ls ms : List Lit) → list_all (has ms) ls ≡ true → clause_holds ws v ls ≡ true → clause_holds ws v ms ≡ true
  unfolding clause_holds
  members_hold [] ms a e = absurd (false≢true e)
  members_hold (l ∷ ls) ms a e =
      let parts = and_parts (has ms l) (list_all (has ms) ls) a in
      elim (or_cases (lit_holds ws v l) (clause_holds ws v ls) e) [ inl t ↦ member_holds ms l t parts.0 | inr t ↦ members_hold ls ms parts.1 t ]

  pub same_members_hold : (ls ms : List Lit) → same_members ls ms ≡ true → clause_holds ws v ms ≡ true → clause_holds ws v ls ≡ true
  unfolding same_members
  same_members_hold ls ms e t = members_hold ms ls (and_parts _ _ e).1 t
