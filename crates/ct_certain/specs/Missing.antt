-- The question whether a tuple is missing from a table.
use Rattle.std.specs.Prelude.{◌≡◌, ◌≢◌, ◌⊎◌, ⊤, ℕ, Bool, List, [], ◌∷◌, ◌++◌, length, IsTrue, All}
use Rattle.std.specs.List.{list_all}
use mathlib.Core.List.{IsPrefix}
use Rattle.ct_word.specs.declared.kinds.Class.TheVariants as class
use Rattle.ct_word.specs.declared.values.Value.{Value}
use Rattle.ct_word.specs.declared.values.Term.TheVariants as term
use Rattle.ct_word.specs.declared.values.CRow.{CRow}
use Rattle.ct_word.specs.Value.{World}
use Rattle.ct_word.specs.Condition.{holds_at}
use Rattle.ct_word.specs.Reading.{IsTerm, condition_at}
use Rattle.ct_word.specs.Stands.{StandsAt, HasNoColumn}
use Rattle.ct_word.specs.WellFormed.{IsWellFormed, is_place_of}
use Rattle.ct_condition.specs.Places.{has_place}
use Rattle.ct_condition.specs.Terms.{TermsFrom}
use Rattle.ct_equality.specs.Valued.{IsNumbered}
use Rattle.ct_operators.specs.Tables.{AreRows, value_of_rows}
use Rattle.ct_certain.specs.Answered.{Asks}
use Rattle.ct_certain.specs.declared.striking.Seen.{Seen}
use Rattle.ct_certain.specs.Certain.{is_missing, tuples_in, IsCutProof, IsInAll, RefutesMissing}
use Rattle.ct_word.specs.Sublist.{IsSublist}
use Rattle.ct_query.specs.Database.{has_tuple, SameSet}
use Rattle.ct_rewrite.specs.declared.answer.CertainRow.{CertainRow}

-- a place of the words has this value, or it is `@k` with k below 2^28
abbrev pub IsAtHand : List ℕ → Value → Type 0
IsAtHand words x = IsTrue (has_place words (term.Value x)) ⊎ IsNumbered x

-- a place stands for a value, and nothing else stands below it
pub record IsOfValue (words : List ℕ) (x : Value) (p : ℕ) : Type 0 where
  pub place : IsTrue (is_place_of words class.Term p)
  pub stands : StandsAt words p (IsTerm (term.Value x))
  pub terms : TermsFrom words p (λ t. t ≡ term.Value x)

-- places stand for the values of a tuple, one by one
abbrev pub AreOfTuple : List ℕ → List Value → List ℕ → Type 0
AreOfTuple words [] [] = ⊤
AreOfTuple words (x ∷ xs) (p ∷ ps) = IsOfValue words x p × AreOfTuple words xs ps
AreOfTuple words _ _ = ⊥

-- a table of so many columns, a global condition that is not the word false, and a tuple, over words that later ones begin with
pub record IsAskedOf (words now : List ℕ) (global width : ℕ) (rs : List CRow) (tuple : List Value) : Type 0 where
  pub formed : IsWellFormed words
  pub grown : IsPrefix words now
  pub global_is : IsTrue (is_place_of words class.Cond global)
  pub global_plain : HasNoColumn words global
  pub not_false : global ≢ 1
  pub rows : AreRows words width rs
  pub width_is : length tuple ≡ width
  pub values : All (IsAtHand words) tuple

-- rows are worth a tuple at every valuation
abbrev pub IsSure : List ℕ → List CRow → List Value → Type 0
IsSure words rs tuple = (v : World) → IsTrue (has_tuple (value_of_rows words v rs) tuple)

-- a place of the words now holds exactly where the tuple is missing by the words before
abbrev pub IsRootOf : List ℕ → List ℕ → ℕ → List CRow → List Value → ℕ → Type 0
IsRootOf words now global rs tuple root = Asks now root (is_missing words global rs tuple)

-- the place of the condition of the first of these rows, that of the word false where there is none
abbrev pub condition_of : List CRow → ℕ
condition_of [] = 1
condition_of (r ∷ rs) = r.cond

-- a proof refutes that a tuple is missing, and has a step besides the last only where a later one has it as a hint
pub record IsRefuted (words now : List ℕ) (global : ℕ) (rs : List CRow) (r : CertainRow) : Type 0 where
  pub refutes : RefutesMissing words now global rs r
  pub cut : IsCutProof now r.proof

-- the certain tuples among these candidates are listed, each with a proof over the words now
pub record AreListed (words now : List ℕ) (global : ℕ) (rs : List CRow) (done : List (List Value)) (list : List CertainRow) : Type 0 where
  pub refuted : All (IsRefuted words now global rs) list
  pub ordered : IsSublist (tuples_in list) done
  pub complete : (t : List Value) → IsTrue (has_tuple done t) → IsInAll words global rs t → IsTrue (has_tuple (tuples_in list) t)

-- the list with a tuple and its proof; as it was where the tuple is not certain
pub data Takes (words now : List ℕ) (global : ℕ) (rs : List CRow) (tuple : List Value) (old : List CertainRow) : List CertainRow → Type 0 where
  nothing : (IsInAll words global rs tuple → ⊥) → Takes words now global rs tuple old old
  one : (r : CertainRow) → r.tuple ≡ tuple → IsRefuted words now global rs r → Takes words now global rs tuple old (old ++ r ∷ [])

-- whether a tuple is there in each of some worlds
abbrev pub is_in_each : List Seen → List Value → Bool
is_in_each ss t = list_all (λ s. has_tuple s.tuples.keys t) ss

-- the tuples that rows are worth in some world at which the global condition holds
pub record IsSeen (words : List ℕ) (global : ℕ) (rs : List CRow) (s : Seen) : Type 0 where
  pub world : World
  pub holds : IsTrue (holds_at world (condition_at words global))
  pub tuples : SameSet s.tuples.keys (value_of_rows words world rs)
