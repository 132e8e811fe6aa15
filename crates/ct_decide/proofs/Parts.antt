-- The clauses of a part of a question, as they are gathered.
use Rattle.std.proofs.Common.{◌≡◌, ℕ, ℤ, zero, suc, ◌<◌, Bool, true, false, ◌&&◌, ◌||◌, not, List, [], ◌∷◌, ◌++◌, length, map, get_or, Option, Some, None, nat_eq, refl, ap, ◌∙◌, sym, subst, arith, inl, inr, append-nil, append_assoc, if◌then◌else◌}
use Rattle.std.{specs.Prelude.{slice_get, option_map, Contains}, specs.List.{list_all, list_any}, specs.Cmp.both_ways}
use Rattle.std.proofs.lemmas.Bool.{and_parts, and_from, eqb-true, eq-eqb, false≢true}
use Rattle.std.proofs.lemmas.Option.{slice_get-get_or, slice_get_within, slice_get-map}
use Rattle.std.proofs.lemmas.List.{length-map, length-append, length_push, map-append, Folds.list_all-append}
use Rattle.std.proofs.lemmas.List.Elements.{Contains-append_cases}
use Rattle.ct_word.{specs.declared.kinds.Kind.Kind, specs.Word.{kind_of, left_of, right_of}, specs.WellFormed.IsWellFormed, specs.Stands.{Below, itself, through}}
use Rattle.ct_word.proofs.{Items.{first_item, later_item, item_cases, no_item, sole_item}, Splits.some-injective}
use Rattle.ct_derivation.{specs.declared.literals.Atom.Atom, specs.declared.literals.Lit.Lit, specs.declared.steps.Why.Why, specs.Literal.{Clause, same_atom, yes_of, no_of}, specs.Variables.{signed, LARGEST}}
use Rattle.ct_derivation.specs.Definition.{defining, definition}
use Rattle.ct_trail.specs.Literal.{is_literal, is_clause}
use Rattle.ct_worlds.{specs.Shape.{parts_of, parts_at, shape_of, shape_of_word}, proofs.Shaped.{part_earlier, part_named}}
use Rattle.ct_cnf.{specs.Encoding.{IsConditionBelow, IsPairBelow, named, through as over, origin_clause}, proofs.Numbered.own_pair, proofs.Fields.below_more}
use Rattle.ct_decide.{specs.declared.asking.Aim.Aim, specs.declared.asking.Posed.Posed, specs.declared.part.Part.Part, specs.Asking.{IsPosed, IsPlaceOf, is_atom}}
use Rattle.ct_decide.specs.Part.{IsAtomOf, AreAtomsOf, AreConditionsBelow, key_of, IsPart, AddsAtoms, IsNamed}
use Rattle.ct_cut.proofs.Named.{same_atom_is, same_atom_self}
use Rattle.ct_decide.proofs.{Wider.{wider_clause, wider_clauses, all_wider, through_wider, distinct_more}, Askings.{whole_more, origins_more}}
use Rattle.ct_derivation.specs.declared.literals.Atom.TheVariants as atom
use Rattle.ct_word.specs.declared.kinds.Kind.TheVariants as kind

abbrev pub same_pair : ℕ × ℕ → ℕ × ℕ → Bool
same_pair a b = nat_eq a.0 b.0 && nat_eq a.1 b.1

pair_is : (a b : ℕ × ℕ) → same_pair a b ≡ true → a ≡ b
pair_is a b e = let parts = and_parts (nat_eq a.0 b.0) (nat_eq a.1 b.1) e in λ i. (eqb-true a.0 b.0 parts.0 i, eqb-true a.1 b.1 parts.1 i)

pair_self : (a : ℕ × ℕ) → same_pair a a ≡ true
pair_self a = and_from (nat_eq a.0 a.0) (nat_eq a.1 a.1) (eq-eqb a.0 a.0 refl) (eq-eqb a.1 a.1 refl)

-- no two atoms have one key
one_atom : (a b : Atom) → key_of a ≡ key_of b → a ≡ b
one_atom (atom.Node p) (atom.Node q) e = ap (λ (k : ℕ × ℕ). atom.Node k.1) e
one_atom (atom.Node p) (atom.Same s t) e = let z : 0 ≡ suc s = ap (λ (k : ℕ × ℕ). k.0) e in absurd (omega (arith, z))
one_atom (atom.Same s t) (atom.Node q) e = let z : suc s ≡ 0 = ap (λ (k : ℕ × ℕ). k.0) e in absurd (omega (arith, z))
one_atom (atom.Same s t) (atom.Same u v) e =
    let one : suc s ≡ suc u = ap (λ (k : ℕ × ℕ). k.0) e in
    let first : s ≡ u = omega (arith, one) in
    let second : t ≡ v = ap (λ (k : ℕ × ℕ). k.1) e in
    λ i. atom.Same (first i) (second i)

same_key : (a x : Atom) → same_pair (key_of a) (key_of x) ≡ same_atom x a
same_key a x = both_ways _ _
    (λ e. subst (λ y. same_atom x y ≡ true) (sym (one_atom a x (pair_is (key_of a) (key_of x) e))) (same_atom_self x))
    (λ e. subst (λ y. same_pair (key_of a) (key_of y) ≡ true) (sym (same_atom_is x a e)) (pair_self (key_of a)))

-- a key is there where its atom is
has_key : (atoms : List Atom) (a : Atom) → list_any (same_pair (key_of a)) (map key_of atoms) ≡ is_atom atoms a
has_key [] a = refl
has_key (x ∷ xs) a = λ i. same_key a x i || has_key xs a i

-- the place of a key is that of its atom
pub place_is : (atoms : List Atom) (a : Atom) (ks : List (ℕ × ℕ)) (i : ℕ) (k : ℕ × ℕ) → ks ≡ map key_of atoms → slice_get ks i ≡ Some k → same_pair (key_of a) k ≡ true → IsPlaceOf atoms a i
place_is atoms a ks i k are at same =
    let there : slice_get (map key_of atoms) i ≡ Some k = ap (λ l. slice_get l i) (sym are) ∙ at in
    let lt : i < length atoms = omega (arith, slice_get_within (map key_of atoms) i k there, length-map atoms key_of) in
    let x = get_or atoms i (atom.Node 0) in
    let key : key_of x ≡ k = some-injective (key_of x) k (sym (slice_get-map key_of atoms i ∙ ap (option_map key_of) (slice_get-get_or atoms i (atom.Node 0) lt)) ∙ there) in
    record { within = lt; is = one_atom x a (key ∙ sym (pair_is (key_of a) k same)) }

-- a key that was not there is the last one
pub key_put : (ks new : List (ℕ × ℕ)) (k a : ℕ × ℕ) (is_new : Bool) → is_new ≡ not (list_any (same_pair k) ks) → new ≡ (if list_any (same_pair k) ks then ks else ks ++ k ∷ []) → k ≡ a → is_new ≡ true
    → (list_any (same_pair a) ks ≡ false) × (new ≡ ks ++ a ∷ [])
key_put ks new k a is_new added put same yes_new = by (list_any (same_pair k) ks) refl where
  by : (b : Bool) → list_any (same_pair k) ks ≡ b → (list_any (same_pair a) ks ≡ false) × (new ≡ ks ++ a ∷ [])
  by true e = absurd (false≢true (ap not (sym e) ∙ sym added ∙ yes_new))
  by false e = (ap (λ x. list_any (same_pair x) ks) (sym same) ∙ e, put ∙ ap (λ b. if b then ks else ks ++ k ∷ []) e ∙ ap (λ x. ks ++ x ∷ []) same)

-- and where one was there, they stay
pub key_kept : (ks new : List (ℕ × ℕ)) (k : ℕ × ℕ) (is_new : Bool) → is_new ≡ not (list_any (same_pair k) ks) → new ≡ (if list_any (same_pair k) ks then ks else ks ++ k ∷ []) → is_new ≡ false → new ≡ ks
key_kept ks new k is_new added put no_new = by (list_any (same_pair k) ks) refl where
  by : (b : Bool) → list_any (same_pair k) ks ≡ b → new ≡ ks
  by true e = put ∙ ap (λ b. if b then ks else ks ++ k ∷ []) e
  by false e = absurd (false≢true (sym no_new ∙ added ∙ ap not e))

module _ (words : List ℕ) (aim : Aim) where
  -- one more atom
  posed_atom : (old new : Posed) (a : Atom) → IsPosed words aim old → IsAtomOf words aim.root a → is_atom old.atoms.items a ≡ false → length old.atoms.items < LARGEST
      → new.atoms.items ≡ old.atoms.items ++ a ∷ [] → new.clauses.items ≡ old.clauses.items → new.origins.items ≡ old.origins.items → IsPosed words aim new
  posed_atom old new a posed of none few is same_clauses same_origins =
      let atoms = old.atoms.items in
      let one = length_push atoms a in record {
        clauses = rw (is, same_clauses, same_origins) (posed.clauses ∙ all_wider atoms (a ∷ []) old.clauses.items posed.within);
        within = rw (is, same_clauses) (wider_clauses (length atoms) (length (atoms ++ a ∷ [])) (omega (arith, one)) old.clauses.items posed.within);
        few = rw is (omega (arith, one, few));
        whole = rw same_origins posed.whole;
        distinct = rw is (distinct_more atoms a posed.distinct none);
        nodes = rw is (λ p h. elim (Contains-append_cases atoms (a ∷ []) (atom.Node p) h) [
          | inl before ↦ posed.nodes p before
          | inr now ↦ subst (IsAtomOf words aim.root) (sole_item a (atom.Node p) now) of
        ]);
        terms = rw is (λ x y h. elim (Contains-append_cases atoms (a ∷ []) (atom.Same x y) h) [
          | inl before ↦ posed.terms x y before
          | inr now ↦ subst (IsAtomOf words aim.root) (sole_item a (atom.Same x y) now) of
        ]);
      }

  pub atom_put : (old new : Part) (a : Atom) → IsPart words aim old → IsAtomOf words aim.root a → list_any (same_pair (key_of a)) old.keys.keys ≡ false → length old.posed.atoms.items < LARGEST
      → new.posed.atoms.items ≡ old.posed.atoms.items ++ a ∷ [] → new.posed.clauses.items ≡ old.posed.clauses.items → new.posed.origins.items ≡ old.posed.origins.items
      → new.keys.keys ≡ old.keys.keys ++ key_of a ∷ [] → IsPart words aim new
  atom_put old new a part of none few is same_clauses same_origins keys = record {
    posed = posed_atom old.posed new.posed a part.posed of (sym (has_key old.posed.atoms.items a) ∙ ap (list_any (same_pair (key_of a))) (sym part.keys) ∙ none) few is same_clauses same_origins;
    keys = keys ∙ ap (λ l. l ++ key_of a ∷ []) part.keys ∙ sym (map-append key_of old.posed.atoms.items (a ∷ [])) ∙ ap (map key_of) (sym is);
  }

  -- one more clause
  pub clause_put : (old new : Part) (ls : List ℤ) (c : Clause) (w : Why) → IsPart words aim old → is_clause (length old.posed.atoms.items) ls ≡ true → over old.posed.atoms.items ls ≡ c
      → origin_clause words aim.root w ≡ Some c → new.posed.atoms.items ≡ old.posed.atoms.items → new.posed.clauses.items ≡ old.posed.clauses.items ++ ls ∷ []
      → new.posed.origins.items ≡ old.posed.origins.items ++ w ∷ [] → new.keys.keys ≡ old.keys.keys → IsPart words aim new
  clause_put old new ls c w part within is origin same_atoms clauses origins keys =
      let posed = part.posed in
      let atoms = old.posed.atoms.items in record {
        posed = record {
          clauses = rw (same_atoms, clauses, origins) (origins_more words aim atoms old.posed.clauses.items old.posed.origins.items ls w posed.clauses (origin ∙ ap Some (sym is)));
          within = rw (same_atoms, clauses) (list_all-append (is_clause (length atoms)) old.posed.clauses.items (ls ∷ []) ∙ and_from _ _ posed.within (and_from _ true within refl));
          few = rw same_atoms posed.few;
          whole = rw origins (λ e. whole_more words aim.root old.posed.origins.items (w ∷ []) (posed.whole e));
          distinct = rw same_atoms posed.distinct;
          nodes = rw same_atoms posed.nodes;
          terms = rw same_atoms posed.terms;
        };
        keys = keys ∙ part.keys ∙ ap (map key_of) (sym same_atoms);
      }

pub adds_none : (old new : Part) → new.posed.atoms.items ≡ old.posed.atoms.items → AddsAtoms old new
adds_none old new e = record { more = []; atoms = e ∙ sym (append-nil old.posed.atoms.items) }

pub adds_then : (old mid new : Part) → AddsAtoms old mid → AddsAtoms mid new → AddsAtoms old new
adds_then old mid new a b = record { more = a.more ++ b.more; atoms = b.atoms ∙ ap (λ l. l ++ b.more) a.atoms ∙ append_assoc old.posed.atoms.items a.more b.more }

pub clause_begins : (atoms : List Atom) (ls : List ℤ) → ls ≡ [] → (is_clause (length atoms) ls ≡ true) × (over atoms ls ≡ [])
unfolding is_clause
clause_begins atoms ls e = (ap (list_all (is_literal (length atoms))) e, ap (over atoms) e)

-- one more literal of a clause, after which there may be more atoms
pub literal_put : (old new : Part) (ls : List ℤ) (c : Clause) (lit : Lit) (l : ℤ) → AddsAtoms old new → is_clause (length old.posed.atoms.items) ls ≡ true → over old.posed.atoms.items ls ≡ c → IsNamed new.posed.atoms.items lit l
    → (is_clause (length new.posed.atoms.items) (ls ++ l ∷ []) ≡ true) × (over new.posed.atoms.items (ls ++ l ∷ []) ≡ c ++ lit ∷ [])
unfolding is_clause
literal_put old new ls c lit l adds within is named_so =
    let atoms = new.posed.atoms.items in
    let wide = wider_clause (length old.posed.atoms.items) (length atoms) (omega (arith, ap length adds.atoms, length-append old.posed.atoms.items adds.more)) ls within in
    let same : over atoms ls ≡ c = ap (λ xs. over xs ls) adds.atoms ∙ sym (through_wider old.posed.atoms.items adds.more ls within) ∙ is in (
      list_all-append (is_literal (length atoms)) ls (l ∷ []) ∙ and_from _ _ wide (and_from _ true named_so.within refl),
      map-append (λ x. named atoms (signed x)) ls (l ∷ []) ∙ (λ i. same i ++ named_so.is i ∷ []),
    )

-- what stands below what stands below
pub below_all : (words : List ℕ) (p q r : ℕ) → Below words p q → Below words q r → Below words p r
below_all words p q r itself h = h
below_all words p q r (through w m at among rest) h = through w m at among (below_all words m q r rest h)

pub conditions_below : (words : List ℕ) (root global : ℕ) (ps : List ℕ) → IsConditionBelow words root global → AreConditionsBelow words global ps → AreConditionsBelow words root ps
conditions_below words root global ps b all p h = let c = all p h in record { below = below_all words root global p b.below c.below; condition = c.condition }

-- the clause of a word of a kind
pub told : (words : List ℕ) (p w k a b : ℕ) (o : Option Kind) → slice_get words p ≡ Some w → kind_of w ≡ o → a ≡ left_of w → b ≡ right_of w → definition (slice_get words p) p k ≡ defining o k p a b
told words p w k a b o there is first second = ap (λ x. definition x p k) there ∙ (λ i. defining (is i) k p (sym first i) (sym second i))

module _ (words : List ℕ) (wf : IsWellFormed words) (root p : ℕ) (c : IsConditionBelow words root p) where
  -- a part of a condition below the root
  pub part_below : (q : ℕ) → Contains (parts_at words p) q → IsConditionBelow words root q
  part_below q h = let n = part_named words p q h in record { below = below_more words root p q n.word c.below n.there n.among; condition = (part_earlier words p q wf c.condition h).placed }

  none : AreAtomsOf words root []
  none l h = absurd (no_item l h)

  more : (x : Lit) (xs : Clause) → IsAtomOf words root x.atom → AreAtomsOf words root xs → AreAtomsOf words root (x ∷ xs)
  more x xs a all l h = elim (item_cases xs x l h) [ inl e ↦ subst (λ y. IsAtomOf words root y.atom) e a | inr later ↦ all l later ]

  module _ (w : ℕ) (at : slice_get words p ≡ Some w) where
    abbrev a : ℕ
    a = left_of w

    abbrev b : ℕ
    b = right_of w

    field : (o : Option Kind) → kind_of w ≡ o → (q : ℕ) → Contains (parts_of (shape_of o a b)) q → IsConditionBelow words root q
    field o e q h = part_below q (subst (λ x. Contains (parts_of x) q) (ap (λ k. shape_of k a b) (sym e) ∙ ap shape_of_word (sym at)) h)

    pair : kind_of w ≡ Some kind.Equal → IsPairBelow words root a b
    pair e = own_pair words wf root a b (record { place = p; condition = c; word = w; there = at; kind = e; first = refl; second = refl })

    left : (o : Option Kind) (rest : List ℕ) → kind_of w ≡ o → parts_of (shape_of o a b) ≡ a ∷ rest → IsConditionBelow words root a
    left o rest e is = field o e a (subst (λ xs. Contains xs a) (sym is) (first_item rest a))

    right : (o : Option Kind) → kind_of w ≡ o → parts_of (shape_of o a b) ≡ a ∷ b ∷ [] → IsConditionBelow words root b
    right o e is = field o e b (subst (λ xs. Contains xs b) (sym is) (later_item (b ∷ []) a b (first_item [] b)))

    one : (x : Lit) → IsAtomOf words root x.atom → AreAtomsOf words root (x ∷ [])
    one x h = more x [] h none

    two : (x y : Lit) → IsAtomOf words root x.atom → IsAtomOf words root y.atom → AreAtomsOf words root (x ∷ y ∷ [])
    two x y h i = more x (y ∷ []) h (one y i)

    three : (x y z : Lit) → IsAtomOf words root x.atom → IsAtomOf words root y.atom → IsAtomOf words root z.atom → AreAtomsOf words root (x ∷ y ∷ z ∷ [])
    three x y z h i j = more x (y ∷ z ∷ []) h (two y z i j)

    abbrev Are : Clause → Type 0
    Are = AreAtomsOf words root

    abbrev n : Atom
    n = atom.Node p

    abbrev na : Atom
    na = atom.Node a

    abbrev nb : Atom
    nb = atom.Node b

    abbrev same : Atom
    same = atom.Same a b

    clause_below : (o : Option Kind) (k : ℕ) → kind_of w ≡ o → (ls : Clause) → defining o k p a b ≡ Some ls → Are ls
    clause_below (Some kind.True) zero e ls d = subst Are (some-injective _ ls d) (one (yes_of n) c)
    clause_below (Some kind.False) zero e ls d = subst Are (some-injective _ ls d) (one (no_of n) c)
    clause_below (Some kind.Equal) zero e ls d = subst Are (some-injective _ ls d) (two (no_of n) (yes_of same) c (pair e))
    clause_below (Some kind.Equal) (suc zero) e ls d = subst Are (some-injective _ ls d) (two (yes_of n) (no_of same) c (pair e))
    clause_below (Some kind.Not) zero e ls d = subst Are (some-injective _ ls d) (two (no_of n) (no_of na) c (left _ [] e refl))
    clause_below (Some kind.Not) (suc zero) e ls d = subst Are (some-injective _ ls d) (two (yes_of n) (yes_of na) c (left _ [] e refl))
    clause_below (Some kind.And) zero e ls d = subst Are (some-injective _ ls d) (two (no_of n) (yes_of na) c (left _ (b ∷ []) e refl))
    clause_below (Some kind.And) (suc zero) e ls d = subst Are (some-injective _ ls d) (two (no_of n) (yes_of nb) c (right _ e refl))
    clause_below (Some kind.And) (suc (suc zero)) e ls d = subst Are (some-injective _ ls d) (three (yes_of n) (no_of na) (no_of nb) c (left _ (b ∷ []) e refl) (right _ e refl))
    clause_below (Some kind.Or) zero e ls d = subst Are (some-injective _ ls d) (three (no_of n) (yes_of na) (yes_of nb) c (left _ (b ∷ []) e refl) (right _ e refl))
    clause_below (Some kind.Or) (suc zero) e ls d = subst Are (some-injective _ ls d) (two (yes_of n) (no_of na) c (left _ (b ∷ []) e refl))
    clause_below (Some kind.Or) (suc (suc zero)) e ls d = subst Are (some-injective _ ls d) (two (yes_of n) (no_of nb) c (right _ e refl))
    clause_below _ _ e ls d = cc

  -- the clauses that define a condition are over atoms of the question
  pub defined_below : (k : ℕ) (ls : Clause) → definition (slice_get words p) p k ≡ Some ls → AreAtomsOf words root ls
  defined_below k ls d = by (slice_get words p) refl d where
    by : (o : Option ℕ) → slice_get words p ≡ o → definition o p k ≡ Some ls → AreAtomsOf words root ls
    by None at e = cc
    by (Some w) at e = clause_below w at (kind_of w) k refl ls e
