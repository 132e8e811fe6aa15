-- The numbers of the conditions below a root, and what stands below it.
use Rattle.std.proofs.Common.{◌≡◌, ℕ, ◌<◌, ◌≤◌, ◌^◌, true, not, ◌&&◌, ◌||◌, List, [], ◌∷◌, ◌++◌, length, get_or, take, Option, Some, nat_lt, refl, ap, ◌∙◌, sym, subst, arith}
use Rattle.std.{specs.Prelude.{slice_get, Contains}, proofs.lemmas.Option.{slice_get-get_or, get_or_from_slice_get}}
use Rattle.std.proofs.lemmas.Bool.{and_parts, ltb-true}
use Rattle.ct_word.{specs.declared.kinds.Kind.Kind, specs.declared.kinds.Class.Class, specs.Word.{kind_of, left_of, right_of}}
use Rattle.ct_word.{specs.WellFormed.{is_place_of, is_formed_as, is_ordered, fits, fields_of, IsWellFormed}, specs.Stands.{Below, itself, places_of}}
use Rattle.ct_word.{proofs.Splits.{Split, split_at, formed_at, formed_fields, place_within}, proofs.Growth.place_grows}
use Rattle.ct_word.proofs.Items.{first_item, later_item, sole_item}
use Rattle.ct_worlds.specs.Below.{AreBelow}
use Rattle.ct_cnf.{specs.declared.numbers.Numbers.Numbers, specs.Lists.{AreNumbered, AreNumbersOf, AreFieldsNumbered, atoms_at}, specs.Making.IsNumbering}
use Rattle.ct_cnf.specs.Encoding.{IsConditionBelow, IsTermBelow, IsPairBelow, IsEqualityBelow, HasNodesBelow, HasPairsBelow, HasOwnEqualities, HasEachEquality}
use Rattle.ct_cnf.{proofs.Fields.{below_more, left_named, right_named}, proofs.Flat.few_rising, proofs.Atoms.{few_atoms, length-take_le, node_is, same_is, same_at, atoms_are, atom_in, atom_from}}
use Rattle.ct_word.specs.declared.kinds.Kind.TheVariants as kind
use Rattle.ct_word.specs.declared.kinds.Class.TheVariants as class
use Rattle.ct_derivation.specs.declared.literals.Atom.TheVariants as atom

or_second : (a : _) → (not true || a) ≡ true → a ≡ true
or_second a e = e

module _ (ws : List ℕ) (wf : IsWellFormed ws) where
  field_place : (front back : List ℕ) (w : ℕ) (c : Class) (a : ℕ) → ws ≡ front ++ w ∷ back → is_place_of front c a ≡ true → is_place_of ws c a ≡ true
  field_place front back w c a is e = ap (λ xs. is_place_of xs c a) is ∙ place_grows front (w ∷ back) c a e

  module _ (root p w : ℕ) (b : Below ws root p) (at : slice_get ws p ≡ Some w) where
    condition_named : (s : Split ws p w) (q : ℕ) → Contains (places_of w) q → is_place_of s.front class.Cond q ≡ true → IsConditionBelow ws root q
    condition_named s q h c = record { below = below_more ws root p q w b at h; condition = field_place s.front s.back w class.Cond q s.is c }

    term_named : (s : Split ws p w) (q : ℕ) → Contains (places_of w) q → is_place_of s.front class.Term q ≡ true → IsTermBelow ws root q
    term_named s q h c = record { below = below_more ws root p q w b at h; term = field_place s.front s.back w class.Term q s.is c }

    -- the fields of an equal word are terms below the root, the smaller place first
    formed_pair : (s : Split ws p w) (o : Option Kind) → kind_of w ≡ o → o ≡ Some kind.Equal → is_formed_as o s.front (left_of w) (right_of w) ≡ true → IsPairBelow ws root (left_of w) (right_of w)
    formed_pair s (Some kind.Equal) e k f =
        let c = formed_fields s.front kind.Equal (left_of w) (right_of w) f in
        record {
          first = term_named s (left_of w) (left_named w kind.Equal e refl) c.0;
          second = term_named s (right_of w) (right_named w kind.Equal e refl) c.1;
          ordered = ltb-true (left_of w) (right_of w)
              (or_second (nat_lt (left_of w) (right_of w)) (and_parts (fits s.front (fields_of kind.Equal).0 (left_of w) && fits s.front (fields_of kind.Equal).1 (right_of w)) (not (is_ordered kind.Equal) || nat_lt (left_of w) (right_of w)) f).1);
        }
    formed_pair s _ e k f = cc

    pair_of_word : kind_of w ≡ Some kind.Equal → IsPairBelow ws root (left_of w) (right_of w)
    pair_of_word e = let s = split_at ws p w at in formed_pair s (kind_of w) refl e (formed_at ws wf p w at s)

    fields_numbered : (n : Numbers) (s : Split ws p w) → ((q : ℕ) → IsConditionBelow ws root q → Contains n.conditions q)
        → (o : Option Kind) → kind_of w ≡ o → is_formed_as o s.front (left_of w) (right_of w) ≡ true → AreFieldsNumbered n o (left_of w) (right_of w)
    fields_numbered n s all (Some kind.Not) e f =
        all (left_of w) (condition_named s (left_of w) (left_named w kind.Not e refl) (formed_fields s.front kind.Not (left_of w) (right_of w) f).0)
    fields_numbered n s all (Some kind.And) e f =
        let c = formed_fields s.front kind.And (left_of w) (right_of w) f in (
          all (left_of w) (condition_named s (left_of w) (left_named w kind.And e refl) c.0),
          all (right_of w) (condition_named s (right_of w) (right_named w kind.And e refl) c.1),
        )
    fields_numbered n s all (Some kind.Or) e f =
        let c = formed_fields s.front kind.Or (left_of w) (right_of w) f in (
          all (left_of w) (condition_named s (left_of w) (left_named w kind.Or e refl) c.0),
          all (right_of w) (condition_named s (right_of w) (right_named w kind.Or e refl) c.1),
        )
    fields_numbered n s all _ e f = tt

  pub own_pair : (root s t : ℕ) → IsEqualityBelow ws root s t → IsPairBelow ws root s t
  own_pair root s t e =
      subst (λ x. IsPairBelow ws root x t) e.first
      (subst (λ y. IsPairBelow ws root (left_of e.word) y) e.second (pair_of_word root e.place e.word e.condition.below e.there e.kind))

module _ (ws : List ℕ) (root : ℕ) (places : List ℕ) (below : AreBelow ws (root ∷ []) places) where
  reached : (p : ℕ) → Contains places p → IsConditionBelow ws root p
  reached p h =
      let r = below.each p h in
      record { below = subst (λ q. Below ws q p) (sym (sole_item root r.root r.among)) r.below; condition = r.condition }

  reach : (p : ℕ) → IsConditionBelow ws root p → Contains places p
  reach p c = below.all p (record { root = root; among = first_item [] root; below = c.below; condition = c.condition })

  pub places_within : (p : ℕ) → Contains places p → p < length ws
  places_within p h = place_within ws class.Cond p (reached p h).condition

  pub few_places : length places ≤ length ws
  few_places = few_rising places (length ws) below.rising places_within

  module _ (wf : IsWellFormed ws) (small : length ws < 2 ^ 28) (top : is_place_of ws class.Cond root ≡ true) (n : Numbers) (are : AreNumbersOf ws places n) where
    same : n.conditions ≡ places
    same = are.conditions

    numbered : AreNumbered ws n.conditions (length n.conditions) n.nodes n.atoms
    numbered = subst (λ xs. AreNumbered ws xs (length xs) n.nodes n.atoms) (sym same) are.numbered

    listed : (p : ℕ) → Contains n.conditions p → IsConditionBelow ws root p
    listed p h = reached p (subst (λ xs. Contains xs p) same h)

    lists : (p : ℕ) → IsConditionBelow ws root p → Contains n.conditions p
    lists p c = subst (λ xs. Contains xs p) (sym same) (reach p c)

    pub is_numbering : IsNumbering ws root n
    is_numbering = record {
      numbers = record {
        rising = λ i j d lt within. subst (λ xs. get_or xs i d < get_or xs j d) (sym same) (below.rising i j d lt (omega (arith, within, ap length same)));
        long = numbered.long;
        small = λ k lt. omega (arith, numbered.starts k lt, few_atoms ws (take k n.conditions), length-take_le n.conditions k (omega (arith, lt)), lt, ap length same, few_places, small);
      };
      numbered = numbered;
      few = omega (arith, ap length same, few_places, small);
      top = lists root (record { below = itself; condition = top });
      conditions_below = listed;
      all_conditions = lists;
      within = λ p h. place_within ws class.Cond p (listed p h).condition;
      fields = λ p h.
          let w = get_or ws p 0 in
          let at = slice_get-get_or ws p 0 (place_within ws class.Cond p (listed p h).condition) in
          let s = split_at ws p w at in
          fields_numbered ws wf root p w (listed p h).below at n s lists (kind_of w) refl (formed_at ws wf p w at s);
    }

-- the atoms of an encoding
module _ (ws : List ℕ) (root : ℕ) (n : Numbers) (num : IsNumbering ws root n) where
  pub nodes_below : HasNodesBelow ws root n.atoms
  nodes_below p h =
      let f = atom_from ws root n num (atom.Node p) h in
      subst (IsConditionBelow ws root) (node_is ws f.0 p f.2) (num.conditions_below f.0 f.1)

  pub own_equalities : HasOwnEqualities ws root n.atoms
  own_equalities s t h =
      let f = atom_from ws root n num (atom.Same s t) h in
      let e = same_is ws f.0 s t (num.within f.0 f.1) f.2 in
      record { place = f.0; condition = num.conditions_below f.0 f.1; word = e.word; there = e.there; kind = e.kind; first = e.first; second = e.second }

  pub each_equality : HasEachEquality ws root n.atoms
  each_equality s t e =
      let two = same_at ws e.place e.word (get_or_from_slice_get ws e.place e.word 0 e.there) e.kind in
      let there : Contains (atoms_at ws e.place) (atom.Same (left_of e.word) (right_of e.word)) =
      subst (λ xs. Contains xs (atom.Same (left_of e.word) (right_of e.word))) (sym two) (later_item (atom.Same (left_of e.word) (right_of e.word) ∷ []) (atom.Node e.place) _ (first_item [] _)) in
      let whole : Contains n.atoms (atom.Same (left_of e.word) (right_of e.word)) = atom_in ws root n num e.place _ (num.all_conditions e.place e.condition) there in
      subst (λ x. Contains n.atoms (atom.Same x t)) e.first (subst (λ y. Contains n.atoms (atom.Same (left_of e.word) y)) e.second whole)

  pub pairs_below : IsWellFormed ws → HasPairsBelow ws root n.atoms
  pairs_below wf s t h = own_pair ws wf root s t (own_equalities s t h)

  pub atoms_fit : length n.atoms < 2 ^ 31
  atoms_fit = omega (arith, ap length (atoms_are ws root n num), few_atoms ws n.conditions, num.few)
