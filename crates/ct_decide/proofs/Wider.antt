-- More atoms change nothing about clauses over the first ones.
use Rattle.std.proofs.Common.{◌≡◌, ℕ, ℤ, zero, suc, pos, negsuc, ◌<◌, ◌≤◌, Bool, true, false, List, [], ◌∷◌, ◌++◌, length, map, get_or, Some, refl, ap, ◌∙◌, sym, subst, arith, inl, inr}
use Rattle.std.{specs.Prelude.Contains, specs.List.list_all, proofs.lemmas.Bool.{and_parts, and_from, false≢true, lt-ltb, ltb-true, cases_lt}}
use Rattle.std.{proofs.lemmas.List.{get_or_append_left, get_or_push, length_push}, proofs.lemmas.List.Elements.Contains-get_or}
use Rattle.ct_word.proofs.Items.{get_append}
use Rattle.ct_derivation.{specs.declared.literals.Atom.Atom, specs.Literal.{yes_of, no_of}, specs.Variables.signed}
use Rattle.ct_trail.specs.Literal.{is_literal, is_clause}
use Rattle.ct_cnf.specs.Encoding.{named, through, AreDistinct}
use Rattle.ct_equality.specs.Assigned.{Gives}
use Rattle.ct_cut.proofs.Named.{named_pos, named_neg}
use Rattle.ct_decide.{specs.Asking.is_atom, proofs.Satisfied.atom_is_there}
use Rattle.ct_derivation.specs.declared.literals.Atom.TheVariants as atom

wider_literal : (n m : ℕ) → n ≤ m → (l : ℤ) → is_literal n l ≡ true → is_literal m l ≡ true
wider_literal n m le (pos zero) v = absurd (false≢true v)
wider_literal n m le (pos (suc k)) v = lt-ltb k m (omega (arith, ltb-true k n v, le))
wider_literal n m le (negsuc k) v = lt-ltb k m (omega (arith, ltb-true k n v, le))

pub wider_clause : (n m : ℕ) → n ≤ m → (c : List ℤ) → is_clause n c ≡ true → is_clause m c ≡ true
unfolding is_clause
wider_clause n m le [] v = refl
wider_clause n m le (l ∷ c) v = let parts = and_parts (is_literal n l) _ v in and_from _ _ (wider_literal n m le l parts.0) (wider_clause n m le c parts.1)

pub wider_clauses : (n m : ℕ) → n ≤ m → (cs : List (List ℤ)) → list_all (is_clause n) cs ≡ true → list_all (is_clause m) cs ≡ true
wider_clauses n m le [] v = refl
wider_clauses n m le (c ∷ cs) v = let parts = and_parts (is_clause n c) _ v in and_from _ _ (wider_clause n m le c parts.0) (wider_clauses n m le cs parts.1)

module _ (atoms more : List Atom) where
  named_wider : (l : ℤ) → is_literal (length atoms) l ≡ true → named atoms (signed l) ≡ named (atoms ++ more) (signed l)
  named_wider (pos zero) v = absurd (false≢true v)
  named_wider (pos (suc k)) v = named_pos atoms k ∙ ap yes_of (sym (get_or_append_left atoms more (atom.Node 0) k (ltb-true k (length atoms) v))) ∙ sym (named_pos (atoms ++ more) k)
  named_wider (negsuc k) v = named_neg atoms k ∙ ap no_of (sym (get_or_append_left atoms more (atom.Node 0) k (ltb-true k (length atoms) v))) ∙ sym (named_neg (atoms ++ more) k)

  pub through_wider : (c : List ℤ) → is_clause (length atoms) c ≡ true → through atoms c ≡ through (atoms ++ more) c
  unfolding is_clause
  through_wider [] v = refl
  through_wider (l ∷ c) v =
      let parts = and_parts (is_literal (length atoms) l) _ v in
      ap (λ x. x ∷ through atoms c) (named_wider l parts.0) ∙ ap (λ xs. named (atoms ++ more) (signed l) ∷ xs) (through_wider c parts.1)

  pub all_wider : (cs : List (List ℤ)) → list_all (is_clause (length atoms)) cs ≡ true → map (λ ls. Some (through atoms ls)) cs ≡ map (λ ls. Some (through (atoms ++ more) ls)) cs
  all_wider [] v = refl
  all_wider (c ∷ cs) v =
      let parts = and_parts (is_clause (length atoms) c) _ v in
      ap (λ x. Some x ∷ map (λ ls. Some (through atoms ls)) cs) (through_wider c parts.0) ∙ ap (λ xs. Some (through (atoms ++ more) c) ∷ xs) (all_wider cs parts.1)

  pub gives_more : (m : List Bool) (b : Bool) (a : Atom) → Gives atoms m b a → Gives (atoms ++ more) m b a
  gives_more m b a g = record { place = g.place; atom_at = get_append atoms more g.place a g.atom_at; truth_at = g.truth_at }

pub distinct_more : (atoms : List Atom) (a : Atom) → AreDistinct atoms → is_atom atoms a ≡ false → AreDistinct (atoms ++ a ∷ [])
distinct_more atoms a distinct new i j d hi hj e = elim (cases_lt i (length atoms)) [
  | inl li ↦ elim (cases_lt j (length atoms)) [
    | inl lj ↦ distinct i j d li lj (sym (get_or_append_left atoms (a ∷ []) d i li) ∙ e ∙ get_or_append_left atoms (a ∷ []) d j lj)
    | inr gj ↦ absurd (not_at i li (sym (get_or_append_left atoms (a ∷ []) d i li) ∙ e ∙ get_or_push atoms a d j (omega (arith, gj, hj, length_push atoms a))))
  ]
  | inr gi ↦ elim (cases_lt j (length atoms)) [
    | inl lj ↦ absurd (not_at j lj (sym (get_or_append_left atoms (a ∷ []) d j lj) ∙ sym e ∙ get_or_push atoms a d i (omega (arith, gi, hi, length_push atoms a))))
    | inr gj ↦ omega (arith, gi, gj, hi, hj, length_push atoms a)
  ]
] where
  not_at : (k : ℕ) → k < length atoms → get_or atoms k d ≡ a → ⊥
  not_at k lt is = false≢true (sym new ∙ atom_is_there atoms a (subst (Contains atoms) is (Contains-get_or atoms k d lt)))
