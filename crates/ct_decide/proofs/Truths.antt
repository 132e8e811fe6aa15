-- The assignment of atoms that a model of the clauses is.
use Rattle.std.proofs.Common.{◌≡◌, ℕ, zero, suc, ◌<◌, ◌≤◌, Bool, true, false, not, ◌||◌, List, [], ◌∷◌, length, get_or, Some, refl, ap, ◌∙◌, sym, subst, arith, inl, inr, pos, negsuc, ℤ, if◌then◌else◌}
use Rattle.std.{specs.Prelude.{Contains, slice_get, take}, specs.List.list_all, proofs.lemmas.Bool.{and_parts, and_from, false≢true, cases_Bool, ltb-true}}
use Rattle.std.{proofs.lemmas.Option.{slice_get-get_or, get_or_from_slice_get, slice_get_within, none-some}, proofs.lemmas.List.get_or_default}
use Rattle.ct_derivation.{specs.declared.literals.Atom.Atom, specs.Literal.{Clause, same_atom}, specs.Models.is_satisfied, specs.Variables.signed}
use Rattle.ct_derivation.specs.declared.literals.Lit.{Lit}
use Rattle.ct_equality.specs.Assigned.{Gives, IsFalse, IsFalsePath}
use Rattle.ct_word.proofs.Splits.{some-injective}
use Rattle.ct_decide.specs.Asking.{IsClauseOf}
use Rattle.ct_trail.specs.Literal.{is_literal, is_clause}
use Rattle.ct_sat.specs.Verdict.{holds, satisfies}
use Rattle.ct_cnf.specs.Encoding.{named, through, AreDistinct}
use Rattle.ct_cut.proofs.Named.{same_atom_self, same_atom_is, named_pos, named_neg}
use Rattle.ct_derivation.specs.declared.literals.Atom.TheVariants as atom

-- the truth of the first atom that is this one, false where none is
abbrev pub truth_of : List Atom → List Bool → Atom → Bool
truth_of [] bs a = false
truth_of (x ∷ xs) [] a = false
truth_of (x ∷ xs) (b ∷ bs) a = if same_atom x a then b else truth_of xs bs a

rest_distinct : (x : Atom) (xs : List Atom) → AreDistinct (x ∷ xs) → AreDistinct xs
rest_distinct x xs h i j d hi hj e = let s = h (suc i) (suc j) d (omega (arith, hi)) (omega (arith, hj)) e in omega (arith, s)

pub truth_at : (atoms : List Atom) (bs : List Bool) (i : ℕ) → length bs ≡ length atoms → AreDistinct atoms → i < length atoms → truth_of atoms bs (get_or atoms i (atom.Node 0)) ≡ get_or bs i false
truth_at [] bs i long h lt = absurd (omega (arith, lt))
truth_at (x ∷ xs) [] i long h lt = absurd (omega (arith, long))
truth_at (x ∷ xs) (b ∷ bs) zero long h lt = ap (λ c. if c then b else truth_of xs bs x) (same_atom_self x)
truth_at (x ∷ xs) (b ∷ bs) (suc i) long h lt =
    elim (cases_Bool (same_atom x (get_or xs i (atom.Node 0)))) [
      | inl t ↦ let z = h 0 (suc i) (atom.Node 0) (omega arith) lt (same_atom_is x _ t) in absurd (omega (arith, z))
      | inr f ↦
          ap (λ c. if c then b else truth_of xs bs (get_or xs i (atom.Node 0))) f
          ∙ truth_at xs bs i (omega (arith, long)) (rest_distinct x xs h) (omega (arith, lt))
    ]

module _ (atoms : List Atom) (bs : List Bool) (long : length bs ≡ length atoms) (distinct : AreDistinct atoms) where
  abbrev t : Atom → Bool
  t = truth_of atoms bs

  pub there_given : (a : Atom) → Contains atoms a → Gives atoms bs (t a) a
  there_given a h =
      let at : get_or atoms h.0 (atom.Node 0) ≡ a = get_or_default atoms h.0 (atom.Node 0) a h.1 ∙ h.2 in
      record {
        place = h.0;
        atom_at = slice_get-get_or atoms h.0 (atom.Node 0) h.1 ∙ ap Some at;
        truth_at = slice_get-get_or bs h.0 false (let lt = h.1 in omega (arith, lt, long)) ∙ ap Some (sym (truth_at atoms bs h.0 long distinct h.1) ∙ ap t at);
      }

  abbrev lit_true : Lit → Bool
  lit_true l = if l.positive then t l.atom else not (t l.atom)

  literal_truth : (l : ℤ) → is_literal (length atoms) l ≡ true → lit_true (named atoms (signed l)) ≡ holds bs l
  literal_truth (pos zero) v = absurd (false≢true v)
  literal_truth (pos (suc n)) v = ap lit_true (named_pos atoms n) ∙ truth_at atoms bs n long distinct (ltb-true n (length atoms) v)
  literal_truth (negsuc n) v = ap lit_true (named_neg atoms n) ∙ ap not (truth_at atoms bs n long distinct (ltb-true n (length atoms) v))

  -- a clause is satisfied by the assignment where the model satisfies it
  pub clause_truth : (ls : List ℤ) → is_clause (length atoms) ls ≡ true → is_satisfied t (through atoms ls) ≡ satisfies bs ls
  unfolding is_clause satisfies
  clause_truth [] v = refl
  clause_truth (l ∷ ls) v =
      let parts = and_parts (is_literal (length atoms) l) _ v in
      ap (λ b. b || is_satisfied t (through atoms ls)) (literal_truth l parts.0) ∙ ap (λ b. holds bs l || b) (clause_truth ls parts.1)

-- the truths of the first variables decide a clause over these
module _ (n : ℕ) (bs : List Bool) where
  front_at : (n k : ℕ) (bs : List Bool) → k < n → get_or (take n bs) k false ≡ get_or bs k false
  front_at zero k bs lt = absurd (omega (arith, lt))
  front_at (suc n) k [] lt = refl
  front_at (suc n) zero (b ∷ bs) lt = refl
  front_at (suc n) (suc k) (b ∷ bs) lt = front_at n k bs (omega (arith, lt))

  front_holds : (l : ℤ) → is_literal n l ≡ true → holds (take n bs) l ≡ holds bs l
  front_holds (pos zero) v = refl
  front_holds (pos (suc k)) v = front_at n k bs (ltb-true k n v)
  front_holds (negsuc k) v = ap not (front_at n k bs (ltb-true k n v))

  pub front_satisfies : (c : List ℤ) → is_clause n c ≡ true → satisfies (take n bs) c ≡ satisfies bs c
  unfolding is_clause satisfies
  front_satisfies [] v = refl
  front_satisfies (l ∷ c) v =
      let parts = and_parts (is_literal n l) _ v in
      ap (λ b. b || satisfies (take n bs) c) (front_holds l parts.0) ∙ ap (λ b. holds bs l || b) (front_satisfies c parts.1)

  pub front_all : (cs : List (List ℤ)) → list_all (is_clause n) cs ≡ true → list_all (satisfies bs) cs ≡ true → list_all (satisfies (take n bs)) cs ≡ true
  front_all [] v h = refl
  front_all (c ∷ cs) v h =
      let within = and_parts (is_clause n c) _ v in
      let holding = and_parts (satisfies bs c) _ h in
      and_from _ _ (front_satisfies c within.0 ∙ holding.0) (front_all cs within.1 holding.1)

-- an atom has one truth
pub one_truth : (atoms : List Atom) (m : List Bool) (a b : Bool) (x : Atom) → AreDistinct atoms → Gives atoms m a x → Gives atoms m b x → a ≡ b
one_truth atoms m a b x distinct g h =
    let same : g.place ≡ h.place = distinct g.place h.place x (slice_get_within atoms g.place x g.atom_at) (slice_get_within atoms h.place x h.atom_at)
    (get_or_from_slice_get atoms g.place x x g.atom_at ∙ sym (get_or_from_slice_get atoms h.place x x h.atom_at)) in
    some-injective a b (sym g.truth_at ∙ ap (slice_get m) same ∙ h.truth_at)

module _ (atoms : List Atom) (m : List Bool) (distinct : AreDistinct atoms) (room : length atoms ≤ length m) where
  at_atom : (n : ℕ) → n < length atoms → Gives atoms m (get_or m n false) (get_or atoms n (atom.Node 0))
  at_atom n lt = record { place = n; atom_at = slice_get-get_or atoms n (atom.Node 0) lt; truth_at = slice_get-get_or m n false (omega (arith, lt, room)) }

  -- an atom that is there has a truth
  pub some_truth : (a : Atom) → Contains atoms a → (b : Bool) × Gives atoms m b a
  some_truth a h =
      let at : get_or atoms h.0 (atom.Node 0) ≡ a = get_or_default atoms h.0 (atom.Node 0) a h.1 ∙ h.2 in
      (get_or m h.0 false, subst (Gives atoms m (get_or m h.0 false)) at (at_atom h.0 h.1))

  false_literal : (l : ℤ) → is_literal (length atoms) l ≡ true → Gives atoms m (not (named atoms (signed l)).positive) (named atoms (signed l)).atom → holds m l ≡ false
  false_literal (pos zero) v g = absurd (false≢true v)
  false_literal (pos (suc n)) v g =
      one_truth atoms m (get_or m n false) false (get_or atoms n (atom.Node 0)) distinct (at_atom n (ltb-true n (length atoms) v)) (subst (λ (l : Lit). Gives atoms m (not l.positive) l.atom) (named_pos atoms n) g)
  false_literal (negsuc n) v g =
      ap not (one_truth atoms m (get_or m n false) true (get_or atoms n (atom.Node 0)) distinct (at_atom n (ltb-true n (length atoms) v)) (subst (λ (l : Lit). Gives atoms m (not l.positive) l.atom) (named_neg atoms n) g))

  false_satisfies : (ls : List ℤ) → is_clause (length atoms) ls ≡ true → IsFalse atoms m (through atoms ls) → satisfies m ls ≡ false
  unfolding is_clause satisfies
  false_satisfies [] v f = refl
  false_satisfies (l ∷ ls) v f =
      let parts = and_parts (is_literal (length atoms) l) _ v in
      ap (λ b. b || satisfies m ls) (false_literal l parts.0 f.0) ∙ false_satisfies ls parts.1 f.1

-- the clause of a false path is false
pub false_path : (words : List ℕ) (atoms : List Atom) (path : List ℕ) (m : List Bool) → AreDistinct atoms → length atoms ≤ length m → (c : List ℤ) → IsClauseOf words atoms path c → IsFalsePath words atoms m path → satisfies m c ≡ false
false_path words atoms path m distinct room c is f =
    let same : through atoms c ≡ f.clause = some-injective (through atoms c) f.clause (sym is.is ∙ f.clause_is) in
    false_satisfies atoms m distinct room c is.within (subst (IsFalse atoms m) (sym same) f.is_false)

-- a truth among the first ones
front_get : (n k : ℕ) (bs : List Bool) (b : Bool) → slice_get (take n bs) k ≡ Some b → slice_get bs k ≡ Some b
front_get zero k bs b e = absurd (none-some b e)
front_get (suc n) k [] b e = absurd (none-some b e)
front_get (suc n) zero (x ∷ bs) b e = e
front_get (suc n) (suc k) (x ∷ bs) b e = front_get n k bs b e

pub front_false : (atoms : List Atom) (n : ℕ) (bs : List Bool) (c : Clause) → IsFalse atoms (take n bs) c → IsFalse atoms bs c
front_false atoms n bs [] f = tt
front_false atoms n bs (l ∷ c) f = (record { place = f.0.place; atom_at = f.0.atom_at; truth_at = front_get n f.0.place bs (not l.positive) f.0.truth_at }, front_false atoms n bs c f.1)
