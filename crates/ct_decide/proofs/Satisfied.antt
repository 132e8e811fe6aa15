-- The clause of each origin was added, so a model satisfies it and has its atoms.
use Rattle.std.{proofs.Common.{◌≡◌, ℕ, Bool, true, List, [], ◌∷◌, length, map, Some, refl, ap, ◌∙◌, subst, ℤ}, specs.Prelude.Contains, specs.List.list_all}
use Rattle.std.{proofs.lemmas.Bool.{and_parts, and_from}, proofs.lemmas.List.Folds.list_any_at}
use Rattle.ct_word.{proofs.Splits.some-injective, proofs.Items.{mapped_item, unmapped_item}}
use Rattle.ct_derivation.{specs.declared.literals.Atom.Atom, specs.declared.steps.Why.Why, specs.Literal.{Clause, same_atom}}
use Rattle.ct_derivation.{specs.Models.is_satisfied, specs.Variables.signed}
use Rattle.ct_trail.specs.{Literal.{is_literal, is_clause}, Log.added_in}
use Rattle.ct_sat.specs.Verdict.{satisfies}
use Rattle.ct_cnf.specs.Encoding.{named, through, origin_clause, SatisfiesOrigins}
use Rattle.ct_decide.{specs.declared.asking.Aim.Aim, specs.declared.asking.Asking.Asking, specs.Asking.{IsAsking, is_atom, HasAtoms}}
use Rattle.ct_cut.proofs.{Kept.all_item, Named.{same_atom_self, atom_there}}
use Rattle.ct_decide.proofs.Truths.{truth_of, clause_truth}

pub atom_is_there : (atoms : List Atom) (a : Atom) → Contains atoms a → is_atom atoms a ≡ true
atom_is_there atoms a h = list_any_at (λ x. same_atom x a) atoms h.0 a h.1 (ap (λ y. same_atom y a) h.2 ∙ same_atom_self a)

through_atoms : (atoms : List Atom) (ls : List ℤ) → is_clause (length atoms) ls ≡ true → HasAtoms atoms (through atoms ls)
unfolding is_clause
through_atoms atoms [] v = refl
through_atoms atoms (l ∷ ls) v =
    let parts = and_parts (is_literal (length atoms) l) _ v in
    and_from (is_atom atoms (named atoms (signed l)).atom) _ (atom_is_there atoms _ (atom_there atoms l parts.0)) (through_atoms atoms ls parts.1)

module _ (words : List ℕ) (aim : Aim) (a : Asking) (ask : IsAsking words aim a) where
  abbrev root : ℕ
  root = aim.root

  abbrev atoms : List Atom
  atoms = a.atoms.items

  abbrev added : List (List ℤ)
  added = added_in a.solver.entries

  -- the clause over variables that stands for that of an origin
  record Told (c : Clause) : Type 0 where
    literals : List ℤ
    listed : Contains added literals
    is : through atoms literals ≡ c

  told : (w : Why) (c : Clause) → Contains a.origins.items w → origin_clause words root w ≡ Some c → Told c
  told w c h is =
      let there : Contains (map (origin_clause words root) a.origins.items) (Some c) = subst (Contains (map (origin_clause words root) a.origins.items)) is (mapped_item (origin_clause words root) a.origins.items w h) in
      let found = unmapped_item (λ ls. Some (through atoms ls)) added (Some c) (subst (λ xs. Contains xs (Some c)) ask.clauses there) in
      record { literals = found.0; listed = found.1; is = some-injective (through atoms found.0) c found.2 }

  told_within : (c : Clause) (r : Told c) → is_clause (length atoms) r.literals ≡ true
  told_within c r = all_item (is_clause (length atoms)) added r.literals ask.within r.listed

  -- the atoms of an origin's clause are atoms of the question
  pub origin_atoms : (w : Why) (c : Clause) → Contains a.origins.items w → origin_clause words root w ≡ Some c → HasAtoms atoms c
  origin_atoms w c h is = let r = told w c h is in subst (HasAtoms atoms) r.is (through_atoms atoms r.literals (told_within c r))

  pub origins_satisfied : (model : List Bool) → length model ≡ length atoms → list_all (satisfies model) added ≡ true → SatisfiesOrigins words root (truth_of atoms model) a.origins.items
  origins_satisfied model long all w c h is =
      let r = told w c h is in
      subst (λ x. is_satisfied (truth_of atoms model) x ≡ true) r.is
      (clause_truth atoms model long ask.distinct r.literals (told_within c r) ∙ all_item (satisfies model) added r.literals all r.listed)
