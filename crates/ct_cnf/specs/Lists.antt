-- The lists that an encoding is made of.
use Rattle.std.specs.Prelude.{◌≡◌, ◌<◌, ◌^◌, ◌+◌, ℕ, ℤ, pos, suc, List, [], ◌∷◌, length, Option, Some, nat_eq, slice_index_or, take, Contains, if◌then◌else◌}
use Rattle.std.specs.List.{flat_map}
use Rattle.std.proofs.Math.IntN.{neg_ℤ}
use Rattle.ct_word.specs.declared.kinds.Kind.{Kind}
use Rattle.ct_word.specs.declared.kinds.Kind.TheVariants as kind
use Rattle.ct_word.specs.Word.{kind_of, left_of, right_of}
use Rattle.ct_derivation.specs.declared.literals.Atom.{Atom}
use Rattle.ct_derivation.specs.declared.literals.Atom.TheVariants as atom
use Rattle.ct_derivation.specs.declared.steps.Why.{Why}
use Rattle.ct_derivation.specs.declared.steps.Why.TheVariants as why
use Rattle.ct_cnf.specs.declared.numbers.Numbers.{Numbers}
use Rattle.ct_cnf.specs.declared.entries.Entry.{Entry}

-- the literals of a variable
abbrev pub yes_of : ℕ → ℤ
yes_of v = pos v

abbrev pub no_of : ℕ → ℤ
no_of v = neg_ℤ (pos v)

abbrev pub clause_of : Entry → List ℤ
clause_of e = e.clause

abbrev pub why_of : Entry → Why
why_of e = e.why

abbrev pub entry : List ℤ → Why → Entry
entry c w = record { clause = c; why = w }

-- the equality of the fields of an equal word
abbrev pub equality_of : Option Kind → ℕ → ℕ → List Atom
equality_of (Some kind.Equal) a b = atom.Same a b ∷ []
equality_of _ a b = []

-- the atoms of the condition at a place: its truth, and the equality of its fields
unfoldable pub atoms_at : List ℕ → ℕ → List Atom
atoms_at words p = let w = slice_index_or words p 0 in atom.Node p ∷ equality_of (kind_of w) (left_of w) (right_of w)

-- those of these conditions
abbrev pub atoms_of : List ℕ → List ℕ → List Atom
atoms_of words conditions = flat_map (atoms_at words) conditions

-- the atoms of the first conditions, and the variable of each of these
pub record AreNumbered (words conditions : List ℕ) (count : ℕ) (nodes : List ℕ) (atoms : List Atom) : Type 0 where
  pub are_atoms : atoms ≡ atoms_of words (take count conditions)
  pub long : length nodes ≡ count
  pub starts : (k : ℕ) → k < count → slice_index_or nodes k 0 ≡ length (atoms_of words (take k conditions)) + 1

-- the numbers of these conditions
pub record AreNumbersOf (words places : List ℕ) (n : Numbers) : Type 0 where
  pub conditions : n.conditions ≡ places
  pub numbered : AreNumbered words places (length places) n.nodes n.atoms

-- where a place first stands in a list
abbrev pub rank_of : List ℕ → ℕ → ℕ
rank_of [] p = 0
rank_of (c ∷ cs) p = if nat_eq c p then 0 else suc (rank_of cs p)

-- the variable of a condition; where it is an equal word, the next one is that of its equality
unfoldable pub node_of : Numbers → ℕ → ℕ
node_of n p = slice_index_or n.nodes (rank_of n.conditions p) 0

-- the clauses that define a condition by its fields, over variables
unfoldable pub equal_entries : ℕ → ℕ → ℕ → List Entry
equal_entries p node same =
    entry (no_of node ∷ yes_of same ∷ []) (why.Def p 0) ∷ entry (yes_of node ∷ no_of same ∷ []) (why.Def p 1) ∷ []

unfoldable pub not_entries : ℕ → ℕ → ℕ → List Entry
not_entries p node a =
    entry (no_of node ∷ no_of a ∷ []) (why.Def p 0) ∷ entry (yes_of node ∷ yes_of a ∷ []) (why.Def p 1) ∷ []

unfoldable pub and_entries : ℕ → ℕ → ℕ → ℕ → List Entry
and_entries p node a b =
    entry (no_of node ∷ yes_of a ∷ []) (why.Def p 0)
    ∷ entry (no_of node ∷ yes_of b ∷ []) (why.Def p 1)
    ∷ entry (yes_of node ∷ no_of a ∷ no_of b ∷ []) (why.Def p 2) ∷ []

unfoldable pub or_entries : ℕ → ℕ → ℕ → ℕ → List Entry
or_entries p node a b =
    entry (no_of node ∷ yes_of a ∷ yes_of b ∷ []) (why.Def p 0)
    ∷ entry (yes_of node ∷ no_of a ∷ []) (why.Def p 1)
    ∷ entry (yes_of node ∷ no_of b ∷ []) (why.Def p 2) ∷ []

-- those of a condition of this kind
abbrev pub defining_entries : Numbers → Option Kind → ℕ → ℕ → ℕ → List Entry
defining_entries n (Some kind.True) p a b = entry (yes_of (node_of n p) ∷ []) (why.Def p 0) ∷ []
defining_entries n (Some kind.False) p a b = entry (no_of (node_of n p) ∷ []) (why.Def p 0) ∷ []
defining_entries n (Some kind.Equal) p a b = equal_entries p (node_of n p) (node_of n p + 1)
defining_entries n (Some kind.Not) p a b = not_entries p (node_of n p) (node_of n a)
defining_entries n (Some kind.And) p a b = and_entries p (node_of n p) (node_of n a) (node_of n b)
defining_entries n (Some kind.Or) p a b = or_entries p (node_of n p) (node_of n a) (node_of n b)
defining_entries n _ p a b = []

-- those of the condition whose word this is
abbrev pub word_entries : Numbers → ℕ → ℕ → List Entry
word_entries n p w = defining_entries n (kind_of w) p (left_of w) (right_of w)

-- those of the condition at a place
unfoldable pub definition_entries : List ℕ → Numbers → ℕ → List Entry
definition_entries words n p = word_entries n p (slice_index_or words p 0)

-- all clauses
unfoldable pub all_entries : List ℕ → ℕ → Numbers → List Entry
all_entries words root n = entry (yes_of (node_of n root) ∷ []) why.Root ∷ flat_map (definition_entries words n) n.conditions

-- places that go up
abbrev pub AreRising : List ℕ → Type 0
AreRising places = (i j d : ℕ) → i < j → j < length places → slice_index_or places i d < slice_index_or places j d

-- the conditions go up, and each has a variable, to which 1 may be added
pub record AreNumbers (n : Numbers) : Type 0 where
  pub rising : AreRising n.conditions
  pub long : length n.nodes ≡ length n.conditions
  pub small : (k : ℕ) → k < length n.conditions → slice_index_or n.nodes k 0 + 1 < 2 ^ 31

-- the fields of a condition of this kind that are conditions have variables
abbrev pub AreFieldsNumbered : Numbers → Option Kind → ℕ → ℕ → Type 0
AreFieldsNumbered n (Some kind.Not) a b = Contains n.conditions a
AreFieldsNumbered n (Some kind.And) a b = Contains n.conditions a × Contains n.conditions b
AreFieldsNumbered n (Some kind.Or) a b = Contains n.conditions a × Contains n.conditions b
AreFieldsNumbered n _ a b = Unit {0}

-- the fields of the condition whose word this is have variables
abbrev pub HasNumberedFields : Numbers → ℕ → Type 0
HasNumberedFields n w = AreFieldsNumbered n (kind_of w) (left_of w) (right_of w)
