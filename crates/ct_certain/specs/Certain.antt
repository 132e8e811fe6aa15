-- When a list of certain tuples is right: those that a table has at every valuation of the global condition.
use Rattle.std.specs.Prelude.{◌≡◌, ◌⊎◌, ◌↔◌, ℕ, Bool, not, ◌&&◌, List, map, IsTrue, All}
use Rattle.std.specs.List.{IsDistinct}
use Rattle.ct_word.specs.declared.values.Value.{Value}
use Rattle.ct_word.specs.declared.values.Term.TheVariants as term
use Rattle.ct_word.specs.declared.values.CRow.{CRow}
use Rattle.ct_word.specs.Value.{World, same_tuple}
use Rattle.ct_word.specs.Condition.{holds_at}
use Rattle.ct_word.specs.Reading.{condition_at}
use Rattle.ct_word.specs.Sublist.{IsSublist}
use Rattle.ct_query.specs.Database.{has_tuple}
use Rattle.ct_condition.specs.Places.{has_place}
use Rattle.ct_cut.specs.Cut.{IsCut}
use Rattle.ct_derivation.specs.Accepts.{AcceptsProof}
use Rattle.ct_derivation.specs.declared.steps.Proof.{Proof}
use Rattle.ct_equality.specs.Valued.{IsNumbered}
use Rattle.ct_rewrite.specs.declared.answer.CertainRow.{CertainRow}
use Rattle.ct_operators.specs.Tables.{firsts, value_of_rows}

-- a world at which the global condition holds, and each of whose values is a constant of the words or `@k` with k below 2^28
pub record IsKeptWorld (words : List ℕ) (global : ℕ) (v : World) : Type 0 where
  pub holds : IsTrue (holds_at v (condition_at words global))
  pub values : All (λ p. IsTrue (has_place words (term.Value p.1)) ⊎ IsNumbered p.1) v

-- rows are worth a tuple, among others, at every valuation of the global condition
abbrev pub IsInAll : List ℕ → ℕ → List CRow → List Value → Type 0
IsInAll words global rs tuple = (v : World) → IsTrue (holds_at v (condition_at words global)) → IsTrue (has_tuple (value_of_rows words v rs) tuple)

-- whether the global condition holds, and the rows are not worth a tuple
abbrev pub is_missing : List ℕ → ℕ → List CRow → List Value → World → Bool
is_missing words global rs tuple v = holds_at v (condition_at words global) && not (has_tuple (value_of_rows words v rs) tuple)

-- a tuple is missing at some valuation
abbrev pub IsMissed : List ℕ → ℕ → List CRow → List Value → Type 0
IsMissed words global rs tuple = (v : World) × IsTrue (is_missing words global rs tuple v)

-- a proof is accepted over the words now, and its root holds exactly where the tuple is missing by the words before
pub record RefutesMissing (old now : List ℕ) (global : ℕ) (rs : List CRow) (r : CertainRow) : Type 0 where
  pub accepted : AcceptsProof now r.proof
  pub root : (v : World) → holds_at v (condition_at now r.proof.root) ≡ is_missing old global rs r.tuple v

-- the atoms of a proof are of its root and of what stands below it, and each step but the last is a hint of a later one
abbrev pub IsCutProof : List ℕ → Proof → Type 0
IsCutProof words p = IsCut words p.root p.derivation

-- the tuples of a list
abbrev pub tuples_in : List CertainRow → List (List Value)
tuples_in list = map (λ r. r.tuple) list

-- exactly the tuples that the rows are worth at every valuation of the global condition, each once, in the order in
-- which the rows at the kept world have them first, each with a proof that it is missing at none
pub record ListsCertain (old now : List ℕ) (global : ℕ) (rs : List CRow) (kept : World) (list : List CertainRow) : Type 0 where
  pub distinct : IsDistinct same_tuple (tuples_in list)
  pub exact : (tuple : List Value) → IsTrue (has_tuple (tuples_in list) tuple) ↔ IsInAll old global rs tuple
  pub refuted : All (RefutesMissing old now global rs) list
  pub ordered : IsSublist (tuples_in list) (firsts same_tuple (value_of_rows old kept rs))
