-- What a model of the clauses gives: a valuation makes the root hold, and the clause of a path is false under the model.
use Rattle.std.proofs.Common.{◌≡◌, ℕ, Bool, true, false, not, ◌&&◌, List, [], ◌∷◌, length, map, take, Option, Some, None, nat_eq, refl, ap, ◌∙◌, sym, subst, inl, inr, arith}
use Rattle.std.{specs.Prelude.{slice_get, Contains}, specs.List.{list_any, list_all, AllByRecursion}, proofs.lemmas.List.Folds.Any-from_list_any, proofs.lemmas.List.length-take-le}
use Rattle.std.proofs.lemmas.Bool.{and_parts, and_from, or_cases, or_left, or_right, false≢true, cases_Bool, eqb-true, eq-eqb, lt-ltb}
use Rattle.ct_word.{specs.declared.kinds.Kind.Kind, specs.declared.values.Null.Null, specs.declared.values.Term.Term, specs.declared.values.Value.Value, specs.Word.{kind_of, left_of, right_of}, specs.Value.World}
use Rattle.ct_word.{specs.Constant.{is_constant_kind, is_constant_word}, specs.Reading.{Meaning, IsTerm, by_kind, meanings, as_term, condition_at, term_at}, specs.Condition.holds_at}
use Rattle.ct_word.{specs.Stands.{StandsAt, TermBelow, HasNoColumn}, specs.WellFormed.{IsWellFormed, is_place_of}, proofs.{Splits.meaning_at, Places.stands_term}}
use Rattle.ct_word.proofs.Items.{contains_of_get}
use Rattle.ct_derivation.{specs.declared.literals.Atom.Atom, specs.Literal.{Clause, same_atom, yes_of}, specs.Definition.{defining, definition}}
use Rattle.ct_derivation.{specs.Models.AreFieldsBelow, specs.Path.is_constant, proofs.Modelled.each_right}
use Rattle.ct_trail.specs.Log.{added_in}
use Rattle.ct_sat.specs.{Log.IsModelOf, Verdict.satisfies}
use Rattle.ct_cnf.specs.Encoding.{IsConditionBelow, IsTermBelow}
use Rattle.ct_equality.specs.Assigned.{is_column_kind, is_column_word, is_plain_term, is_plain_atom, are_plain, IsFalse, IsFalsePath}
use Rattle.ct_equality.{specs.Terms.{is_end, is_end_of, is_among, terms_of}, specs.Valued.{IsWorldOf, IsPlainValue, ClosedOf, value_in, with_null, nulls_of}, proofs.{Steps.plain_from, Listed.among_terms}, specs.declared.closing.Closed.Closed}
use Rattle.ct_decide.{specs.declared.asking.Aim.Aim, specs.declared.asking.Asking.Asking, specs.Asking.{IsAsking, is_atom, HasAtoms, IsPathOver, IsWhole, IsFound, ClosesAs}, specs.Decided.{IsValueOf}}
use Rattle.ct_cut.proofs.Named.{same_atom_is}
use Rattle.ct_decide.proofs.Truths.{truth_of, there_given, front_false, front_all}
use Rattle.ct_decide.proofs.Satisfied.{atom_is_there, origin_atoms, origins_satisfied}
use Rattle.std.{proofs.Common.{Result, Ok, Err}, specs.Prelude.IfOk}
use Rattle.ct_word.specs.declared.memory.Memory.{Memory}
use Rattle.ct_word.specs.declared.kinds.Kind.TheVariants as kind
use Rattle.ct_word.specs.declared.kinds.Class.TheVariants as class
use Rattle.ct_word.specs.declared.values.Term.TheVariants as term
use Rattle.ct_derivation.specs.declared.literals.Atom.TheVariants as atom
use Rattle.ct_derivation.specs.declared.steps.Why.TheVariants as why
use Rattle.ct_equality.specs.declared.closing.Closed.TheVariants as closed
use Rattle.ct_derivation.specs.Models as models

any_item : {X : Type 0} (test : X → Bool) (xs : List X) → list_any test xs ≡ true → (x : X) × Contains xs x × (test x ≡ true)
any_item test xs e = let a = Any-from_list_any test xs e in (a.1, (a.0, a.2, a.3), a.4)

pub atom_from : (atoms : List Atom) (a : Atom) → is_atom atoms a ≡ true → Contains atoms a
atom_from atoms a e = let r = any_item (λ x. same_atom x a) atoms e in subst (Contains atoms) (same_atom_is r.0 a r.2) r.1

column_kind : (o : Option Kind) → is_column_kind o ≡ true → o ≡ Some kind.Column
column_kind (Some kind.Column) e = refl
column_kind _ e = absurd (false≢true e)

-- a constant is the value of its place
constant_stands : (o : Option Kind) (ms : List Meaning) (a b q : ℕ) (x : Value) → is_constant_kind o ≡ true → slice_get ms q ≡ Some (by_kind o ms a b)
    → value_in (as_term (slice_get ms q)) ≡ x → slice_get ms q ≡ Some (IsTerm (term.Value x))
constant_stands (Some kind.Number) ms a b q x c e v = e ∙ ap (λ y. Some (IsTerm (term.Value y))) (rw e at v)
constant_stands (Some kind.TextConstant) ms a b q x c e v = e ∙ ap (λ y. Some (IsTerm (term.Value y))) (rw e at v)
constant_stands (Some kind.OtherValue) ms a b q x c e v = e ∙ ap (λ y. Some (IsTerm (term.Value y))) (rw e at v)
constant_stands _ ms a b q x c e v = absurd (false≢true c)

-- the second atom of a clause is there
second : (atoms : List Atom) (a b : Atom) → (is_atom atoms a && (is_atom atoms b && true)) ≡ true → is_atom atoms b ≡ true
second atoms a b e = (and_parts (is_atom atoms b) true (and_parts (is_atom atoms a) _ e).1).0

fields_there : (atoms : List Atom) (o : Option Kind) (p a b : ℕ) → ((k : ℕ) (c : Clause) → defining o k p a b ≡ Some c → HasAtoms atoms c)
    → AreFieldsBelow (λ q. is_atom atoms (atom.Node q)) o a b
fields_there atoms (Some kind.Not) p a b d = second atoms (atom.Node p) (atom.Node a) (d 0 _ refl)
fields_there atoms (Some kind.And) p a b d = (second atoms (atom.Node p) (atom.Node a) (d 0 _ refl), second atoms (atom.Node p) (atom.Node b) (d 1 _ refl))
fields_there atoms (Some kind.Or) p a b d = (second atoms (atom.Node p) (atom.Node a) (d 1 _ refl), second atoms (atom.Node p) (atom.Node b) (d 2 _ refl))
fields_there atoms _ p a b d = tt

equality_there : (atoms : List Atom) (o : Option Kind) (p a b : ℕ) → o ≡ Some kind.Equal → ((k : ℕ) (c : Clause) → defining o k p a b ≡ Some c → HasAtoms atoms c)
    → is_atom atoms (atom.Same a b) ≡ true
equality_there atoms o p a b e d = second atoms (atom.Node p) (atom.Same a b) (d 0 _ (ap (λ x. defining x 0 p a b) e))

module _ (words : List ℕ) (wf : IsWellFormed words) (aim : Aim) (a : Asking) (ask : IsAsking words aim a) where
  abbrev root : ℕ
  root = aim.root

  abbrev atoms : List Atom
  atoms = a.atoms.items

  -- the terms of an atom stand below the root
  plain_term : HasNoColumn words root → (p : ℕ) → IsTermBelow words root p → is_plain_term words p ≡ true
  plain_term columns p h = and_from (is_place_of words class.Term p) _ h.term (ap not (no_column (slice_get words p) refl)) where
    no_column : (o : Option ℕ) → slice_get words p ≡ o → is_column_word o ≡ false
    no_column None there = refl
    no_column (Some w) there = elim (cases_Bool (is_column_kind (kind_of w))) [
      | inl t ↦ absurd (columns (left_of w) (
        p,
        h.below,
        meaning_at words wf p w there ∙ ap (λ k. Some (by_kind k (meanings words) (left_of w) (right_of w))) (column_kind (kind_of w) t),
      ))
      | inr f ↦ f
    ]

  plain_atom : HasNoColumn words root → (x : Atom) → Contains atoms x → is_plain_atom words x ≡ true
  plain_atom columns (atom.Node p) h = refl
  plain_atom columns (atom.Same s t) h =
      let pair = ask.terms s t h in
      and_from _ _ (and_from (is_plain_term words s) (is_plain_term words t) (plain_term columns s pair.first) (plain_term columns t pair.second)) (lt-ltb s t pair.ordered)

  pub atoms_plain : HasNoColumn words root → are_plain words atoms ≡ true
  atoms_plain columns = plain_from words atoms (λ k x at. plain_atom columns x (contains_of_get atoms k x at))

  end_below : (q : ℕ) → is_end_of atoms q ≡ true → IsTermBelow words root q
  end_below q h = let r = any_item (is_end q) atoms h in by_atom r.0 r.1 r.2 where
    by_atom : (x : Atom) → Contains atoms x → is_end q x ≡ true → IsTermBelow words root q
    by_atom (atom.Node p) there i = absurd (false≢true i)
    by_atom (atom.Same s t) there i =
        let pair = ask.terms s t there in
        elim (or_cases (nat_eq q s) (nat_eq q t) i) [
          | inl x ↦ subst (IsTermBelow words root) (sym (eqb-true q s x)) pair.first
          | inr x ↦ subst (IsTermBelow words root) (sym (eqb-true q t x)) pair.second
        ]

  constant_at : (q : ℕ) (x : Value) (o : Option ℕ) → slice_get words q ≡ o → is_constant_word o ≡ true → value_in (term_at words q) ≡ x → StandsAt words q (IsTerm (term.Value x))
  constant_at q x None there c v = absurd (false≢true c)
  constant_at q x (Some w) there c v = constant_stands (kind_of w) (meanings words) (left_of w) (right_of w) q x c (meaning_at words wf q w there) v

  value_below : (x : Value) → IsPlainValue words atoms x → IsValueOf words root x
  unfolding is_constant
  value_below x (inl c) = inl (c.place, (end_below c.place c.is_end).below, constant_at c.place x (slice_get words c.place) refl c.constant c.value)
  value_below x (inr n) = inr n

  values_below : (v : World) → AllByRecursion (λ p. IsPlainValue words atoms p.1) v → AllByRecursion (λ p. IsValueOf words root p.1) v
  values_below [] all = tt
  values_below (p ∷ v) all = (value_below p.1 all.0, values_below v all.1)

  -- so do the nulls
  abbrev IsOwnNull : Null → Type 0
  IsOwnNull n = TermBelow words root (term.Null n)

  with_own : (q : ℕ) (t : Term) → term_at words q ≡ t → IsTermBelow words root q → (ns : List Null) → AllByRecursion IsOwnNull ns → AllByRecursion IsOwnNull (with_null t ns)
  with_own q (term.Null n) e h ns all = ((q, h.below, subst (λ u. StandsAt words q (IsTerm u)) e (stands_term words q h.term)), all)
  with_own q _ e h ns all = all

  own_nulls : (ts : List ℕ) → ((q : ℕ) → is_among ts q ≡ true → IsTermBelow words root q) → AllByRecursion IsOwnNull (nulls_of words ts)
  own_nulls [] below = tt
  own_nulls (t ∷ ts) below =
      with_own t (term_at words t) refl (below t (or_left (nat_eq t t) (is_among ts t) (eq-eqb t t refl))) (nulls_of words ts)
      (own_nulls ts (λ q h. below q (or_right (nat_eq q t) (is_among ts q) h)))

  each_null : (v : World) → AllByRecursion IsOwnNull (map (λ p. p.0) v) → AllByRecursion (λ p. IsOwnNull p.0) v
  each_null [] all = tt
  each_null (p ∷ v) all = (all.0, each_null v all.1)

  nulls_below : (v : World) → map (λ p. p.0) v ≡ nulls_of words (terms_of atoms) → AllByRecursion (λ p. IsOwnNull p.0) v
  nulls_below v are = each_null v (subst (AllByRecursion IsOwnNull) (sym are) (own_nulls (terms_of atoms) (λ q h. end_below q (sym (among_terms atoms q) ∙ h))))

  abbrev below : ℕ → Bool
  below p = is_atom atoms (atom.Node p)

  condition_below : (p : ℕ) → below p ≡ true → IsConditionBelow words root p
  condition_below p b = ask.nodes p (atom_from atoms (atom.Node p) b)

  module _ (whole : List Bool) (m : IsModelOf a.solver.vars (added_in a.solver.entries) whole) where
    -- the truths of the atoms
    abbrev model : List Bool
    model = take (length atoms) whole

    abbrev t : Atom → Bool
    t = truth_of atoms model

    pub long : length model ≡ length atoms
    long = length-take-le (length atoms) whole (omega (arith, m.truths, ask.room))

    satisfied : list_all (satisfies model) (added_in a.solver.entries) ≡ true
    satisfied = front_all (length atoms) whole (added_in a.solver.entries) ask.within m.satisfied

    -- where all is asked
    module _ (all : IsWhole words root a.origins.items) where
      defined_atoms : (p w : ℕ) → below p ≡ true → slice_get words p ≡ Some w → (k : ℕ) (c : Clause) → defining (kind_of w) k p (left_of w) (right_of w) ≡ Some c → HasAtoms atoms c
      defined_atoms p w b there k c is =
          let told : definition (slice_get words p) p k ≡ Some c = ap (λ o. definition o p k) there ∙ is in
          origin_atoms words aim a ask (why.Def p k) c (all.definitions p k c (condition_below p b) told) told

      root_there : below root ≡ true
      root_there = (and_parts (below root) true (origin_atoms words aim a ask why.Root (yes_of (atom.Node root) ∷ []) all.asked refl)).0

      root_true : t (atom.Node root) ≡ true
      root_true = let asked = origins_satisfied words aim a ask model long satisfied why.Root (yes_of (atom.Node root) ∷ []) all.asked refl in grind (arith, asked)

      agrees : (v : World) → IsWorldOf words atoms model v → models.IsModel words v t below
      agrees v world = record {
        conditions = λ p b. (condition_below p b).condition;
        fields = λ p w b there. fields_there atoms (kind_of w) p (left_of w) (right_of w) (defined_atoms p w b there);
        definitions = λ p k c b is. origins_satisfied words aim a ask model long satisfied (why.Def p k) c (all.definitions p k c (condition_below p b) is) is;
        equalities = λ p w b there is.
            let same = equality_there atoms (kind_of w) p (left_of w) (right_of w) is (defined_atoms p w b there) in
            let x = atom.Same (left_of w) (right_of w) in
            sym (world.truths (left_of w) (right_of w) (t x) (there_given atoms model long ask.distinct x (atom_from atoms x same)));
      }

      -- the root holds at the valuation
      root_holds : (v : World) → IsWorldOf words atoms model v → holds_at v (condition_at words root) ≡ true
      root_holds v world = sym (each_right words wf v t below (agrees v world) root root_there) ∙ root_true

    world_found : (v : World) → IsWorldOf words atoms model v → IsFound words aim v
    world_found v world = record {
      holds = λ w. root_holds (ask.whole w) v world;
      values = values_below v world.values;
      nulls = nulls_below v world.nulls;
      once = world.distinct;
    }

    -- what closing the truths of the atoms answers
    pub closes : (r : Closed) → ClosedOf words atoms model r → ClosesAs words aim atoms whole r
    closes (closed.World v) c = world_found v c
    closes (closed.Path path) f = record { clause = f.clause; clause_is = f.clause_is; is_false = front_false atoms (length atoms) whole f.clause f.is_false }

false_atoms : (atoms : List Atom) (m : List Bool) (c : Clause) → IsFalse atoms m c → HasAtoms atoms c
false_atoms all m [] f = refl
false_atoms all m (l ∷ c) f = and_from _ _ (atom_is_there all l.atom (contains_of_get all f.0.place l.atom f.0.atom_at)) (false_atoms all m c f.1)

-- the clause of a false path is over the atoms
pub false_over : (words : List ℕ) (atoms : List Atom) (m : List Bool) (path : List ℕ) → IsFalsePath words atoms m path → IsPathOver words atoms path
false_over words all m path f = record { clause = f.clause; clause_is = f.clause_is; there = false_atoms all m f.clause f.is_false }

pub ok_more : (r : Result Closed Memory) (P Q : Closed → Type 0) → ((x : Closed) → P x → Q x) → IfOk r P → IfOk r Q
ok_more (Ok x) P Q f h = f x h
ok_more (Err e) P Q f h = tt
