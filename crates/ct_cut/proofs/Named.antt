-- Literals over variables and over the atoms of these.
use Rattle.std.proofs.Common.{◌≡◌, ℕ, zero, suc, ◌+◌, ◌-◌, true, List, length, get_or, nat_lt, ap, ◌∙◌, sym, subst, arith, pos, negsuc, neg_ℤ, ℤ}
use Rattle.std.{specs.Prelude.Contains, specs.Ordering.int_eq, specs.Cmp.both_ways, proofs.lemmas.Bool.Decides.Decides-int_eq}
use Rattle.std.{proofs.lemmas.Bool.{false≢true, ltb-true}, proofs.lemmas.List.Elements.Contains-get_or}
use Rattle.ct_derivation.{specs.declared.literals.Atom.Atom, specs.declared.literals.Lit.Lit, specs.Variables.signed, specs.Accepts.over_atoms}
use Rattle.ct_derivation.{specs.Literal.{yes_of, no_of, negated, same_lit}, proofs.Members.same_lit_is}
use Rattle.ct_cnf.specs.Encoding.{named, AreDistinct}
use Rattle.ct_trail.specs.Literal.{is_literal}
use Rattle.ct_sat.proofs.Carried.{CarriesLiterals}
use Rattle.ct_derivation.specs.declared.literals.Atom.TheVariants as atom
pub use Rattle.ct_derivation.proofs.Members.{same_atom_self, same_atom_is, same_lit_self}

abbrev atom_at : List Atom → ℕ → Atom
atom_at atoms n = get_or atoms n (atom.Node 0)

-- the atoms of a variable and of its negation
module _ (atoms : List Atom) where
  pub named_pos : (n : ℕ) → named atoms (signed (pos (suc n))) ≡ yes_of (atom_at atoms n)
  named_pos n = let back : suc n - 1 ≡ n = omega arith in ap (λ k. yes_of (atom_at atoms k)) back

  pub named_neg : (n : ℕ) → named atoms (signed (negsuc n)) ≡ no_of (atom_at atoms n)
  named_neg n = let back : (n + 1) - 1 ≡ n = omega arith in ap (λ k. no_of (atom_at atoms k)) back

module _ (atoms : List Atom) (distinct : AreDistinct atoms) where
  one_place : (m n : ℕ) → nat_lt m (length atoms) ≡ true → nat_lt n (length atoms) ≡ true → atom_at atoms m ≡ atom_at atoms n → m ≡ n
  one_place m n v w e = distinct m n (atom.Node 0) (ltb-true m (length atoms) v) (ltb-true n (length atoms) w) e

  -- the literals of two numbers are one just where the numbers are
  one_literal : (a b : ℤ) → is_literal (length atoms) a ≡ true → is_literal (length atoms) b ≡ true → named atoms (signed a) ≡ named atoms (signed b) → a ≡ b
  one_literal (pos zero) b v w e = absurd (false≢true v)
  one_literal (pos (suc m)) (pos zero) v w e = absurd (false≢true w)
  one_literal (pos (suc m)) (pos (suc n)) v w e = ap (λ k. pos (suc k)) (one_place m n v w (ap (λ (l : Lit). l.atom) (sym (named_pos atoms m) ∙ e ∙ named_pos atoms n)))
  one_literal (pos (suc m)) (negsuc n) v w e = absurd (false≢true (sym (ap (λ (l : Lit). l.positive) e)))
  one_literal (negsuc m) (pos zero) v w e = absurd (false≢true w)
  one_literal (negsuc m) (pos (suc n)) v w e = absurd (false≢true (ap (λ (l : Lit). l.positive) e))
  one_literal (negsuc m) (negsuc n) v w e = ap negsuc (one_place m n v w (ap (λ (l : Lit). l.atom) (sym (named_neg atoms m) ∙ e ∙ named_neg atoms n)))

  pub carries : CarriesLiterals (length atoms) over_atoms (λ l. named atoms (signed l))
  carries = record { same = same; opposite = opposite } where
    same : (a b : ℤ) → is_literal (length atoms) a ≡ true → is_literal (length atoms) b ≡ true → same_lit (named atoms (signed a)) (named atoms (signed b)) ≡ int_eq a b
    same a b v w = both_ways _ _
        (λ e. (Decides-int_eq a b).1 (one_literal a b v w (same_lit_is _ _ e)))
        (λ e. subst (λ x. same_lit (named atoms (signed a)) (named atoms (signed x)) ≡ true) ((Decides-int_eq a b).0 e) (same_lit_self (named atoms (signed a))))

    opposite : (a : ℤ) → is_literal (length atoms) a ≡ true → negated (named atoms (signed a)) ≡ named atoms (signed (neg_ℤ a))
    opposite (pos zero) v = absurd (false≢true v)
    opposite (pos (suc n)) v = ap negated (named_pos atoms n) ∙ sym (named_neg atoms n)
    opposite (negsuc n) v = ap negated (named_neg atoms n) ∙ sym (named_pos atoms n)

at_place : (atoms : List Atom) (n : ℕ) → nat_lt n (length atoms) ≡ true → Contains atoms (atom_at atoms n)
at_place atoms n v = Contains-get_or atoms n (atom.Node 0) (ltb-true n (length atoms) v)

-- the atom of a literal is among these
pub atom_there : (atoms : List Atom) (l : ℤ) → is_literal (length atoms) l ≡ true → Contains atoms (named atoms (signed l)).atom
atom_there atoms (pos zero) v = absurd (false≢true v)
atom_there atoms (pos (suc n)) v = subst (λ (l : Lit). Contains atoms l.atom) (sym (named_pos atoms n)) (at_place atoms n v)
atom_there atoms (negsuc n) v = subst (λ (l : Lit). Contains atoms l.atom) (sym (named_neg atoms n)) (at_place atoms n v)
