-- When a list of certain tuples is right: those that a query has in all of the databases that a history stands for.
-- Certainty of a fact is that of Abiteboul, Kanellakis and Grahne 1991; the set of databases, Imielinski and Lipski 1984. The refutations are own.
use Rattle.std.specs.Prelude.{◌≡◌, ℕ, Bool, false, not, List, map, Option, Some, None, IfSome, IsTrue, All, ◌↔◌}
use Rattle.std.specs.List.{IsDistinct}
use Rattle.ct_word.specs.declared.values.Value.{Value}
use Rattle.ct_word.specs.Value.{World, same_tuple}
use Rattle.ct_word.specs.Condition.{holds_at}
use Rattle.ct_word.specs.Reading.{condition_at}
use Rattle.ct_word.specs.Change.{PlainCommit}
use Rattle.ct_query.specs.Plain.{PlainQuery}
use Rattle.ct_query.specs.Plain.{PlainAction}
use Rattle.ct_query.specs.Database.{Database, has_tuple}
use Rattle.ct_query.specs.Rows.{rows}
use Rattle.ct_query.specs.Worlds.{world}
use Rattle.ct_rewrite.specs.declared.answer.CertainRow.{CertainRow}
use Rattle.ct_derivation.specs.Accepts.{AcceptsProof}

-- the query has the tuple in every admitted world
abbrev pub IsCertain : PlainQuery → List PlainCommit → List PlainAction → List Value → Type 0
IsCertain q h actions tuple = (v : World) → IfSome (world v h actions) (λ w. IsTrue (has_tuple (rows v q w) tuple))

-- whether there is a database, and the query does not have the tuple in it
abbrev pub is_absent : World → PlainQuery → List Value → Option Database → Bool
is_absent v q tuple None = false
is_absent v q tuple (Some w) = not (has_tuple (rows v q w) tuple)

-- the proof is accepted over the log's words, and its root holds exactly where a world is admitted without the tuple
pub record RefutesAbsence (r : CertainRow) (q : PlainQuery) (h : List PlainCommit) (actions : List PlainAction) (words : List ℕ) : Type 0 where
  pub accepted : AcceptsProof words r.proof
  pub root : (v : World) → holds_at v (condition_at words r.proof.root) ≡ is_absent v q r.tuple (world v h actions)

-- a list of certain tuples is right: distinct, exactly the certain ones, each with a refutation of its absence
pub record CertainRight (list : List CertainRow) (q : PlainQuery) (h : List PlainCommit) (actions : List PlainAction) (words : List ℕ) : Type 0 where
  pub distinct : IsDistinct same_tuple (map (λ r. r.tuple) list)
  pub exact : (tuple : List Value) → IsTrue (has_tuple (map (λ r. r.tuple) list) tuple) ↔ IsCertain q h actions tuple
  pub refuted : All (λ r. RefutesAbsence r q h actions words) list
