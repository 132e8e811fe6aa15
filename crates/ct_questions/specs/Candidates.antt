-- The questions whether the tuples of a table are certain.
use Rattle.std.specs.Prelude.{◌≡◌, ℕ, false, List, [], ◌∷◌, map, All, IsTrue}
use Rattle.std.specs.List.{IsDistinct}
use Rattle.ct_word.specs.declared.values.CRow.{CRow}
use Rattle.ct_word.specs.declared.values.Value.{Value}
use Rattle.ct_word.specs.Condition.{holds_at}
use Rattle.ct_word.specs.Reading.{condition_at}
use Rattle.ct_word.specs.Sublist.{IsSublist}
use Rattle.ct_word.specs.Value.{World, same_tuple}
use Rattle.ct_query.specs.Database.{has_tuple}
use Rattle.ct_decide.specs.declared.deciding.Decision.{Decision}
use Rattle.ct_decide.specs.declared.deciding.Decision.TheVariants as decision
use Rattle.ct_operators.specs.Tables.{firsts, value_of_rows}
use Rattle.ct_rewrite.specs.declared.answer.CertainRow.{CertainRow}
use Rattle.ct_certain.specs.Certain.{IsMissed}
use Rattle.ct_certain.specs.Missing.{IsRootOf}
use Rattle.ct_questions.specs.declared.tuples.Candidate.{Candidate}

-- the tuples of candidates
abbrev pub tuples_of : List Candidate → List (List Value)
tuples_of cs = map (λ c. c.tuple) cs

-- the root of a candidate is the place of a condition below which no column stands, and which holds exactly where the global
-- condition holds and the rows over earlier words are not worth the tuple
abbrev pub IsCandidate : List ℕ → List ℕ → ℕ → List CRow → Candidate → Type 0
IsCandidate old now global rs c = IsRootOf old now global rs c.tuple c.root

-- the tuples that rows have at a kept world of the global condition, each once and in their order, each with its root; one that is
-- left out is missing at some valuation of the global condition
pub record AreCandidates (old now : List ℕ) (global : ℕ) (rs : List CRow) (kept : World) (cs : List Candidate) : Type 0 where
  pub holds : IsTrue (holds_at kept (condition_at old global))
  pub roots : All (IsCandidate old now global rs) cs
  pub distinct : IsDistinct same_tuple (tuples_of cs)
  pub ordered : IsSublist (tuples_of cs) (firsts same_tuple (value_of_rows old kept rs))
  pub left : (t : List Value) → IsTrue (has_tuple (value_of_rows old kept rs) t) → has_tuple (tuples_of cs) t ≡ false → IsMissed old global rs t

-- what is listed of a candidate: its derivation, where its question was refuted
abbrev pub proof_of : Candidate → Decision → List CertainRow
proof_of c (decision.World v) = []
proof_of c (decision.Refuted d) = (record { tuple = c.tuple; proof = record { root = c.root; derivation = d } }) ∷ []
