-- A derivation that is cut over words is cut over all longer ones.
use Rattle.std.{proofs.Common.{ℕ, List, ap, sym, ◌∙◌}, specs.Prelude.slice_get}
use Rattle.ct_word.{specs.Stands.{Below, itself, through}, proofs.Items.get_append}
use Rattle.ct_derivation.{specs.declared.literals.Atom.Atom, specs.declared.steps.Derivation.Derivation}
use Rattle.ct_cut.specs.Cut.{IsAtomBelow, IsCut}
use mathlib.Core.List.{IsPrefix}
use Rattle.ct_derivation.specs.declared.literals.Atom.TheVariants as atom

module _ (old new : List ℕ) (longer : IsPrefix old new) where
  below_longer : (p r : ℕ) → Below old p r → Below new p r
  below_longer p r itself = itself
  below_longer p r (through w q there among rest) = through w q (ap (λ l. slice_get l p) (sym longer.1) ∙ get_append old longer.0 p w there) among (below_longer q r rest)

  atom_longer : (root : ℕ) (a : Atom) → IsAtomBelow old root a → IsAtomBelow new root a
  atom_longer root (atom.Node p) b = below_longer root p b
  atom_longer root (atom.Same s t) b = (below_longer root s b.0, below_longer root t b.1)

  pub cut_longer : (root : ℕ) (d : Derivation) → IsCut old root d → IsCut new root d
  cut_longer root d is = record { below = λ s l i j. atom_longer root l.atom (is.below s l i j); used = is.used }
