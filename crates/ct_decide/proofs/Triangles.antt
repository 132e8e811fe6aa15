-- The clause of a path of three terms.
use Rattle.std.proofs.Common.{◌≡◌, ◌≢◌, ◌≤◌, ◌<◌, ◌⊎◌, ℕ, Bool, true, false, not, ◌&&◌, List, [], ◌∷◌, ◌++◌, length, Some, None, refl, ap, ◌∙◌, sym, subst, arith, inl, inr, if◌then◌else◌}
use Rattle.std.{specs.Prelude.Contains, specs.List.list_all, proofs.lemmas.Bool.{and_from, false≢true, cases_Bool, ne_eqb}, proofs.lemmas.List.Folds.list_all-append}
use Rattle.ct_word.{specs.WellFormed.is_place_of}
use Rattle.ct_derivation.{specs.declared.literals.Atom.Atom, specs.Literal.{Clause}}
use Rattle.ct_derivation.specs.Path.{pair_of, no_links, is_path, is_constant, ends_clause, path_clause}
use Rattle.ct_trail.specs.Log.{added_in}
use Rattle.ct_sat.specs.{Log.{State, IsModelOf}, Verdict.satisfies}
use Rattle.ct_equality.specs.Assigned.{Gives, IsFalse, IsFalsePath}
use Rattle.ct_decide.{specs.declared.asking.Aim.Aim, specs.declared.asking.Asking.Asking, specs.Asking.{IsAsking, is_atom, HasAtoms, IsPlaceOf, IsKnown, IsPathOver, AddsPath, AddsEnd, AddsTriangle, IsKept, Closes, left}}
use Rattle.ct_decide.{proofs.Askings.{less_left, no_more_left}, proofs.Pairs.{AreTerms, terms_of}, proofs.Truths.{false_path, one_truth, some_truth}, proofs.Wider.gives_more, proofs.Worlds.atom_from}
use Rattle.std.proofs.lemmas.List.Elements.{Contains-get_or}
use Rattle.ct_decide.proofs.Satisfied.{atom_is_there}
use Rattle.ct_derivation.specs.declared.literals.Atom.TheVariants as atom
use Rattle.ct_word.specs.declared.kinds.Class.TheVariants as class

abbrev both : List ℕ → ℕ → ℕ → Bool
both words s t = is_constant words s && is_constant words t

abbrev path_of : ℕ → ℕ → ℕ → List ℕ
path_of f m l = f ∷ m ∷ l ∷ []

module _ (words : List ℕ) (aim : Aim) (f m l : ℕ) (one : AreTerms words aim.root f m) (two : AreTerms words aim.root m l) (differ : f ≢ l) where
  abbrev clause : Clause
  clause = no_links f (m ∷ l ∷ []) ++ ends_clause words f l

  is_a_path : is_path words f (m ∷ l ∷ []) ≡ true
  unfolding is_path
  is_a_path =
      let a = ne_eqb f m one.differ in
      let b = ne_eqb m l two.differ in
      let c = ne_eqb f l differ in
      and_from _ _ (and_from _ _ (and_from _ _ (ap not a) (and_from _ true (ap not b) refl)) (ap not c))
      (and_from (is_place_of words class.Term f) _ one.first.term (and_from (is_place_of words class.Term m) _ one.second.term (and_from (is_place_of words class.Term l) true two.second.term refl)))

  clause_is : path_clause words (path_of f m l) ≡ Some clause
  clause_is = ap (λ b. if b then Some clause else None) is_a_path

  ends_there : (atoms : List Atom) → (both words f l ≡ false → is_atom atoms (pair_of f l) ≡ true) → HasAtoms atoms (ends_clause words f l)
  unfolding ends_clause
  ends_there atoms there = elim (cases_Bool (both words f l)) [
    | inl c ↦ rw c refl
    | inr n ↦ rw n (and_from (is_atom atoms (pair_of f l)) true (there n) refl)
  ]

  pub triangle_over : (atoms : List Atom) → is_atom atoms (pair_of f m) ≡ true → is_atom atoms (pair_of m l) ≡ true → (both words f l ≡ false → is_atom atoms (pair_of f l) ≡ true) → IsPathOver words atoms (path_of f m l)
  triangle_over atoms a b there = record {
    clause = clause;
    clause_is = clause_is;
    there = and_from (is_atom atoms (pair_of f m)) _ a (and_from (is_atom atoms (pair_of m l)) _ b (ends_there atoms there));
  }

  ends_false : (atoms : List Atom) (model : List Bool) → (both words f l ≡ true) ⊎ Gives atoms model false (pair_of f l) → IsFalse atoms model (ends_clause words f l)
  unfolding ends_clause
  ends_false atoms model e = elim (cases_Bool (both words f l)) [
    | inl c ↦ rw c tt
    | inr n ↦ rw n (elim e [ inl c ↦ absurd (false≢true (sym n ∙ c)) | inr g ↦ (g, tt) ])
  ]

  pub triangle_false : (atoms : List Atom) (model : List Bool) → Gives atoms model true (pair_of f m) → Gives atoms model true (pair_of m l)
      → (both words f l ≡ true) ⊎ Gives atoms model false (pair_of f l) → IsFalsePath words atoms model (path_of f m l)
  triangle_false atoms model a b e = record { clause = clause; clause_is = clause_is; is_false = (a, (b, ends_false atoms model e)) }

  -- a clause that the model makes true keeps it a model, and so the ends are joined
  pub closes : (middle new : Asking) (ended : Bool) → IsAsking words aim middle → AddsPath words (path_of f m l) middle new → ended ≡ both words f l → (ended ≡ false → is_atom middle.atoms.items (pair_of f l) ≡ true)
      → (model : List Bool) → IsModelOf middle.solver.vars (added_in middle.solver.entries) model → Gives middle.atoms.items model true (pair_of f m) → Gives middle.atoms.items model true (pair_of m l)
      → Closes middle new model (pair_of f l) ended
  closes middle new ended ask adds is there model was a b = elim (cases_Bool (satisfies model adds.clause)) [
    | inr broken ↦ inl (less_left words (path_of f m l) middle new model adds was broken)
    | inl kept ↦ inr (not_ended kept, still kept, joined kept)
  ] where
    room : length middle.atoms.items ≤ length model
    room = omega (arith, ask.room, was.truths)

    refuse : satisfies model adds.clause ≡ true → (both words f l ≡ true) ⊎ Gives middle.atoms.items model false (pair_of f l) → ⊥
    refuse kept e = false≢true (sym (false_path words middle.atoms.items (path_of f m l) model ask.distinct room adds.clause adds.is (triangle_false middle.atoms.items model a b e)) ∙ kept)

    not_ended : satisfies model adds.clause ≡ true → ended ≡ false
    not_ended kept = elim (cases_Bool ended) [ inl e ↦ absurd (refuse kept (inl (sym is ∙ e))) | inr e ↦ e ]

    still : satisfies model adds.clause ≡ true → IsModelOf new.solver.vars (added_in new.solver.entries) model
    still kept = record {
      truths = was.truths ∙ sym adds.vars;
      satisfied = ap (list_all (satisfies model)) adds.added ∙ list_all-append (satisfies model) (added_in middle.solver.entries) (adds.clause ∷ []) ∙ and_from _ _ was.satisfied (and_from _ true kept refl);
    }

    joined : satisfies model adds.clause ≡ true → Gives new.atoms.items model true (pair_of f l)
    joined kept =
        let truth = some_truth middle.atoms.items model ask.distinct room (pair_of f l) (atom_from middle.atoms.items (pair_of f l) (there (not_ended kept))) in
        subst (λ xs. Gives xs model true (pair_of f l)) (sym adds.atoms) (by_truth truth.0 truth.1) where
          by_truth : (t : Bool) → Gives middle.atoms.items model t (pair_of f l) → Gives middle.atoms.items model true (pair_of f l)
          by_truth true g = g
          by_truth false g = absurd (refuse kept (inr g))

-- the atoms of a question stay when there are more
pub still_atom : (atoms more : List Atom) (a : Atom) → is_atom atoms a ≡ true → is_atom (atoms ++ more) a ≡ true
still_atom [] more a e = absurd (false≢true e)
still_atom (x ∷ atoms) more a e = grind (arith, still_atom atoms more a)

-- what a triangle adds
pub triangle_added : (words : List ℕ) (aim : Aim) (model : List Bool) (old middle new : Asking) (f m l : ℕ) (ended : Bool) → AreTerms words aim.root f m → AreTerms words aim.root m l → f ≢ l → AddsEnd words old middle f l ended
    → IsAsking words aim middle → AddsPath words (path_of f m l) middle new → IsAsking words aim new → AddsTriangle words aim model old new f m l ended
triangle_added words aim model old middle new f m l ended one two differ end ask adds asking =
    let solver = end.adds.solver in
    let same : left middle ≡ left old = ap (λ s. left (record { solver = s; vars = old.vars; atoms = old.atoms; own = old.own; pairs = old.pairs; triangles = old.triangles; origins = old.origins })) solver in
    record {
      asking = asking;
      vars = adds.vars ∙ ap (λ (s : State). s.vars) solver;
      more = end.adds.more;
      atoms = adds.atoms ∙ end.adds.atoms;
      one = end.adds.one;
      fewer = subst (λ n. left new ≤ n) same (no_more_left words (path_of f m l) middle new adds);
      is = end.is;
      there = λ e. ap (λ xs. is_atom xs (pair_of f l)) adds.atoms ∙ end.there e;
      closes = λ was a b.
          let more_gives = λ (x : Atom) (g : Gives old.atoms.items model true x). subst (λ xs. Gives xs model true x) (sym end.adds.atoms) (gives_more old.atoms.items end.adds.more model true x g) in
          let model_of = subst (λ (s : State). IsModelOf s.vars (added_in s.entries) model) (sym solver) was in
          subst (λ n. (left new < n) ⊎ ((ended ≡ false) × IsModelOf new.solver.vars (added_in new.solver.entries) model × Gives new.atoms.items model true (pair_of f l))) same
          (closes words aim f m l one two differ middle new ended ask adds end.is end.there model model_of (more_gives (pair_of f m) a) (more_gives (pair_of m l) b));
    }

-- one that is left out adds no clause
pub triangle_kept : (words : List ℕ) (aim : Aim) (model : List Bool) (old new : Asking) (f m l : ℕ) (ended : Bool) → AddsEnd words old new f l ended → IsAsking words aim new
    → IsKept new.atoms.items model f m l ended → AddsTriangle words aim model old new f m l ended
triangle_kept words aim model old new f m l ended end ask kept =
    let solver = end.adds.solver in
    let same : left new ≡ left old = ap (λ s. left (record { solver = s; vars = old.vars; atoms = old.atoms; own = old.own; pairs = old.pairs; triangles = old.triangles; origins = old.origins })) solver in
    record {
      asking = ask;
      vars = ap (λ (s : State). s.vars) solver;
      more = end.adds.more;
      atoms = end.adds.atoms;
      one = end.adds.one;
      fewer = omega (arith, same);
      is = end.is;
      there = end.there;
      closes = λ was a b.
          let more_gives = λ (x : Atom) (g : Gives old.atoms.items model true x). subst (λ xs. Gives xs model true x) (sym end.adds.atoms) (gives_more old.atoms.items end.adds.more model true x g) in
          let still = subst (λ (s : State). IsModelOf s.vars (added_in s.entries) model) (sym solver) was in
          inr (elim kept [
            | inl joined ↦ (joined.0, still, joined.1)
            | inr apart ↦ absurd (elim apart [
              | inl g ↦ false≢true (one_truth new.atoms.items model false true (pair_of f m) ask.distinct g (more_gives (pair_of f m) a))
              | inr g ↦ false≢true (one_truth new.atoms.items model false true (pair_of m l) ask.distinct g (more_gives (pair_of m l) b))
            ])
          ]);
    }

-- an atom that has a place is there
pub place_there : (atoms : List Atom) (a : Atom) (k : ℕ) → IsPlaceOf atoms a k → is_atom atoms a ≡ true
place_there atoms a k is = atom_is_there atoms a (subst (Contains atoms) is.is (Contains-get_or atoms k (atom.Node 0) is.within))

-- the path of three terms whose equalities are atoms
pub known_over : (words : List ℕ) (aim : Aim) (a : Asking) (f m l : ℕ) → IsAsking words aim a → IsKnown words a.atoms.items f m l → IsPathOver words a.atoms.items (path_of f m l)
known_over words aim a f m l ask known =
    triangle_over words aim f m l (terms_of words aim a ask f m known.begins) (terms_of words aim a ask m l known.goes_on) known.differ a.atoms.items known.begins known.goes_on known.ends
