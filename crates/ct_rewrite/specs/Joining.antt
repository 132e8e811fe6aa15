-- What joining two forms under a connective keeps.
use Rattle.std.specs.Prelude.{◌≡◌, ℕ, ◌+◌, ◌≤◌, Bool, false, not, ◌&&◌, List, sum_by, nat_le, IsTrue}
use Rattle.std.specs.List.{list_all}
use Rattle.ct_word.specs.declared.values.Value.{Value}
use Rattle.ct_word.specs.declared.values.Term.{Term}
use Rattle.ct_word.specs.declared.values.Term.TheVariants as term
use Rattle.ct_word.specs.Value.{World, same_value}
use Rattle.ct_word.specs.Condition.{Condition, holds}
use Rattle.ct_rewrite.specs.declared.answer.Node.{Node}
use Rattle.ct_word.specs.declared.connectives.Connective.{Connective}
use Rattle.ct_word.specs.declared.connectives.Connective.TheVariants as connective
use Rattle.ct_rewrite.specs.Nodes.{node_condition, condition_of_node, is_position}
use Rattle.ct_word.specs.Connective.{unit, open_by}
use Rattle.ct_worlds.specs.Shape.{literal}
use Rattle.ct_rewrite.specs.Rules.{is_literal, are_distinct}
use Rattle.ct_rewrite.specs.Sizes.{part_length, part_nest}

-- whether the condition at a position leaves a connective open
abbrev pub leaves_open : Connective → List Node → World → List Value → ℕ → Bool
leaves_open j nodes v row k = open_by j (holds v row (node_condition nodes k))

-- whether the conditions at all of these positions do
abbrev pub all_open : Connective → List Node → World → List Value → List ℕ → Bool
all_open j nodes v row ks = list_all (leaves_open j nodes v row) ks

-- whether a node over these conditions leaves a connective open
abbrev pub node_open : Connective → List Condition → World → List Value → Node → Bool
node_open j before v row n = open_by j (holds v row (condition_of_node before n))

-- two nodes never leave a connective open together, whatever nodes stand before them
abbrev pub NeverBothOpen : Connective → Node → Node → Type 0
NeverBothOpen j a b = (before : List Condition) (v : World) (row : List Value) → (node_open j before v row a && node_open j before v row b) ≡ false

-- a position is not the truth that settles a connective
abbrev pub IsNoSettler : Connective → List Node → ℕ → Type 0
IsNoSettler j nodes k = node_condition nodes k ≡ literal (not (unit j)) → ⊥

-- whether a position is neither True nor False
abbrev pub is_no_literal : List Node → ℕ → Bool
is_no_literal nodes k = not (is_literal (node_condition nodes k))

-- two constants that are written differently
abbrev pub AreDifferentConstants : Term → Term → Type 0
AreDifferentConstants (term.Value x) (term.Value y) = same_value x y ≡ false
AreDifferentConstants s t = ⊥

-- these positions together say under a connective what one position says
abbrev pub StandFor : Connective → List Node → List ℕ → ℕ → Type 0
StandFor j nodes ks k = (v : World) (row : List Value) → all_open j nodes v row ks ≡ leaves_open j nodes v row k

-- at every valuation and row one of these positions settles the connective
abbrev pub Settle : Connective → List Node → List ℕ → List ℕ → Type 0
Settle j nodes ks ls = (v : World) (row : List Value) → (all_open j nodes v row ks && all_open j nodes v row ls) ≡ false

-- a list has the members of two lists
abbrev pub HasMembersOf : List ℕ → List ℕ → List ℕ → Type 0
HasMembersOf all ks ls = (test : ℕ → Bool) → list_all test all ≡ (list_all test ks && list_all test ls)

-- a list has each item at most as often as two lists together
abbrev pub HasNoMoreThan : List ℕ → List ℕ → List ℕ → Type 0
HasNoMoreThan all ks ls = (f : ℕ → ℕ) → sum_by f all ≤ sum_by f ks + sum_by f ls

-- the bytes that stand between two children
abbrev pub gap : Connective → ℕ
gap connective.And = 5
gap connective.Or = 4

-- the bytes of these positions as children, each with those that stand between two
abbrev pub bytes_under : Connective → (Term → List ℕ) → List Node → List ℕ → ℕ
bytes_under j texts nodes ks = sum_by (λ k. part_length texts (node_condition nodes k) + gap j) ks

-- whether a position is nested no deeper than this
abbrev pub nests_within : List Node → ℕ → ℕ → Bool
nests_within nodes most k = nat_le (part_nest (node_condition nodes k)) most

-- these positions together are no longer and no deeper under a connective than one position
pub record AreNoLarger (j : Connective) (nodes : List Node) (ks : List ℕ) (k : ℕ) : Type 0 where
  pub short : (texts : Term → List ℕ) → bytes_under j texts nodes ks ≤ part_length texts (node_condition nodes k) + gap j
  pub shallow : IsTrue (list_all (nests_within nodes (part_nest (node_condition nodes k))) ks)

-- what a form brings under a connective: different positions that together say what it says, and are no larger
pub record Brings (j : Connective) (nodes : List Node) (ks : List ℕ) (k : ℕ) : Type 0 where
  pub placed : IsTrue (list_all (is_position nodes) ks)
  pub truth : StandFor j nodes ks k
  pub size : AreNoLarger j nodes ks k
  pub distinct : IsTrue (are_distinct ks)

-- a position is no longer and no deeper than these positions under a connective
pub record IsNoLarger (j : Connective) (old new : List Node) (k : ℕ) (ks : List ℕ) : Type 0 where
  pub short : (texts : Term → List ℕ) (most : ℕ) → 5 ≤ most → bytes_under j texts old ks + 2 ≤ most + gap j → part_length texts (node_condition new k) ≤ most
  pub shallow : (most : ℕ) → IsTrue (list_all (nests_within old most) ks) → part_nest (node_condition new k) ≤ most + 1
