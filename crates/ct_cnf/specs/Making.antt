-- What an encoding is made of.
use Rattle.std.specs.Prelude.{◌≡◌, ◌<◌, ◌^◌, ℕ, List, map, length, slice_index_or, Contains}
use Rattle.ct_cnf.specs.declared.encoding.Encoded.{Encoded}
use Rattle.ct_cnf.specs.declared.numbers.Numbers.{Numbers}
use Rattle.ct_cnf.specs.Encoding.{IsConditionBelow}
use Rattle.ct_cnf.specs.Lists.{AreNumbered, AreNumbers, HasNumberedFields, clause_of, why_of, all_entries}

-- the numbers of the conditions below a root
pub record IsNumbering (words : List ℕ) (root : ℕ) (n : Numbers) : Type 0 where
  pub numbers : AreNumbers n
  pub numbered : AreNumbered words n.conditions (length n.conditions) n.nodes n.atoms
  pub few : length n.conditions < 2 ^ 28
  pub top : Contains n.conditions root
  pub conditions_below : (p : ℕ) → Contains n.conditions p → IsConditionBelow words root p
  pub all_conditions : (p : ℕ) → IsConditionBelow words root p → Contains n.conditions p
  pub within : (p : ℕ) → Contains n.conditions p → p < length words
  pub fields : (p : ℕ) → Contains n.conditions p → HasNumberedFields n (slice_index_or words p 0)

-- the parts of an encoding by its numbers
pub record IsMadeOf (words : List ℕ) (root : ℕ) (n : Numbers) (e : Encoded) : Type 0 where
  pub atoms : e.atoms ≡ n.atoms
  pub clauses : e.cnf.clauses ≡ map clause_of (all_entries words root n)
  pub origins : e.origins ≡ map why_of (all_entries words root n)
  pub variables : e.cnf.vars ≡ length e.atoms
