-- The root of the question whether a tuple is missing.
use Rattle.std.proofs.Common.{◌≡◌, ◌≢◌, ◌≤◌, ◌<◌, ◌+◌, ◌*◌, ℕ, not, ◌&&◌, List, [], ◌∷◌, length, Err, refl, ap, ◌∙◌, arith, inr}
use Rattle.std.{specs.Prelude.{All, IsTrue, filter}}
use Rattle.std.{proofs.lemmas.List.Elements.{All-head, All-nil, All-cons}, proofs.lemmas.Map.Keys.IsDistinct-cons}
use Rattle.ct_word.{specs.declared.values.Value.Value, specs.declared.values.Term.Term, specs.declared.values.CRow.CRow, specs.Value.{World, same_cells}}
use Rattle.ct_word.{specs.Condition.holds_at, specs.Stands.{HasNoColumn, TermBelow}, specs.Sublist.IsSublist, specs.WellFormed.{IsWellFormed, is_place_of}}
use Rattle.ct_word.proofs.Prefixes.{condition_in_prefix, place_in_prefix, place_within}
use Rattle.ct_query.specs.Database.{has_tuple, SameSet}
use Rattle.ct_arena.specs.Counts.{opening}
use Rattle.ct_condition.{proofs.Denied.below_literal, proofs.Reached.terms_before}
use Rattle.ct_operators.{specs.declared.error.TableError.TableError, specs.Tables.{IsRow, AreRows, value_of_rows, cells_of}, proofs.Firsts.none_distinct}
use Rattle.ct_operators.{proofs.Growing.{value_grows, rows_grow}, proofs.Holding.holds_false}
use Rattle.ct_certain.{specs.Certain.is_missing, specs.Missing.{AreOfTuple, IsAskedOf, IsRootOf, condition_of}, proofs.Missing.{left_truth, tuple_worth}}
use mathlib.Core.List.{IsPrefix}
use Rattle.ct_word.specs.declared.kinds.Class.TheVariants as class
use Rattle.ct_word.specs.declared.values.Term.TheVariants as term
use Rattle.ct_operators.specs.declared.error.TableError.TheVariants as table
use Rattle.ct_operators.specs.Refusals as refusals
use Rattle.ct_certain.specs.Faults as faults

-- where a tuple is missing over longer words, it is over those before
pub missing_before : (words old : List ℕ) (global width : ℕ) (rs : List CRow) (tuple : List Value) → IsAskedOf words old global width rs tuple → (v : World) → is_missing old global rs tuple v ≡ is_missing words global rs tuple v
missing_before words old global width rs tuple asked v i =
    holds_at v (condition_in_prefix words old global asked.grown (place_within words class.Cond global asked.global_is) i) && not (has_tuple (value_grows words old asked.grown v width rs asked.rows.each i) tuple)

abbrev pub one : List ℕ → ℕ → CRow
one ps global = record { cells = ps; cond = global }

cells_are : (words : List ℕ) (xs : List Value) (ps : List ℕ) → AreOfTuple words xs ps → All (λ p. IsTrue (is_place_of words class.Term p)) ps
cells_are words [] [] are = All-nil _
cells_are words (x ∷ xs) (p ∷ ps) are = All-cons (λ p. IsTrue (is_place_of words class.Term p)) p ps are.0.place (cells_are words xs ps are.1)
cells_are words [] (p ∷ ps) are = elim are [ ]
cells_are words (x ∷ xs) [] are = elim are [ ]

cells_long : (words : List ℕ) (xs : List Value) (ps : List ℕ) → AreOfTuple words xs ps → length ps ≡ length xs
cells_long words [] [] are = refl
cells_long words (x ∷ xs) (p ∷ ps) are = let h = cells_long words xs ps are.1 in omega (arith, h)
cells_long words [] (p ∷ ps) are = elim are [ ]
cells_long words (x ∷ xs) [] are = elim are [ ]

no_column : (x : Value) (k : ℕ) → term.Column k ≡ term.Value x → ⊥
no_column x k e = cc

cells_plain : (words : List ℕ) (xs : List Value) (ps : List ℕ) → AreOfTuple words xs ps → All (HasNoColumn words) ps
cells_plain words [] [] are = All-nil _
cells_plain words (x ∷ xs) (p ∷ ps) are = All-cons (HasNoColumn words) p ps (λ k h. no_column x k (are.0.terms (term.Column k) h)) (cells_plain words xs ps are.1)
cells_plain words [] (p ∷ ps) are = elim are [ ]
cells_plain words (x ∷ xs) [] are = elim are [ ]

module _ (words mid new : List ℕ) (global width : ℕ) (rs : List CRow) (tuple : List Value) (asked : IsAskedOf words mid global width rs tuple)
    (formed : IsWellFormed mid) (ps : List ℕ) (are : AreOfTuple mid tuple ps) where
  global_there : global < length words
  global_there = place_within words class.Cond global asked.global_is

  global_terms : (t : Term) → TermBelow mid global t → TermBelow words global t
  global_terms t h = terms_before words mid asked.grown formed global t global_there h

  -- the tuple as a row under the global condition
  pub alone_rows : AreRows mid width (one ps global ∷ [])
  alone_rows = record {
    each = All-cons (IsRow mid width) (one ps global) []
        (record {
          terms = cells_are mid tuple ps are;
          condition = place_in_prefix words mid class.Cond global asked.grown asked.global_is;
          width_is = cells_long mid tuple ps are ∙ asked.width_is;
          plain = All-cons (HasNoColumn mid) global ps (λ k h. asked.global_plain k (global_terms (term.Column k) h)) (cells_plain mid tuple ps are);
        })
        (All-nil _);
    distinct = IsDistinct-cons same_cells _ [] tt (none_distinct same_cells);
    possible = All-cons (λ r. r.cond ≢ 1) (one ps global) [] asked.not_false (All-nil _);
  }

  pub table_rows : AreRows mid width rs
  table_rows = rows_grow words mid asked.grown asked.formed width rs asked.rows

  pub root_of : (out : List CRow) → IsWellFormed new → IsPrefix opening new → AreRows new width out → IsSublist (cells_of new out) (cells_of mid (one ps global ∷ []))
      → ((v : World) → SameSet (value_of_rows new v out) (filter (λ t. not (has_tuple (value_of_rows mid v rs) t)) (value_of_rows mid v (one ps global ∷ []))))
      → IsRootOf words new global rs tuple (condition_of out)
  root_of out formed_new begins rows part same = record {
    class = its_class out rows.each;
    plain = its_plain out rows.each;
    holds = λ v. left_truth mid new ps global tuple (λ v t. not (has_tuple (value_of_rows mid v rs) t)) (tuple_worth mid tuple ps are) out (holds_false new begins formed_new) part same v
        ∙ missing_before words mid global width rs tuple asked v;
  } where
    its_class : (out : List CRow) → All (IsRow new width) out → IsTrue (is_place_of new class.Cond (condition_of out))
    its_class [] each = (holds_false new begins formed_new).class
    its_class (r ∷ out) each = (All-head (IsRow new width) r out each).condition

    its_plain : (out : List CRow) → All (IsRow new width) out → HasNoColumn new (condition_of out)
    its_plain [] each = λ k h. absurd (below_literal new formed_new begins 1 (inr refl) (term.Column k) h)
    its_plain (r ∷ out) each = All-head (HasNoColumn new) r.cond r.cells (All-head (IsRow new width) r out each).plain

-- over words before
pub root_from : (words old new : List ℕ) (global width : ℕ) (rs : List CRow) (tuple : List Value) (root : ℕ) → IsAskedOf words old global width rs tuple → IsRootOf old new global rs tuple root → IsRootOf words new global rs tuple root
root_from words old new global width rs tuple root asked is = record {
  class = is.class;
  plain = is.plain;
  holds = λ v. is.holds v ∙ missing_before words old global width rs tuple asked v;
}

one_times : (r : ℕ) → 1 * r ≡ r
one_times r = omega arith

-- how many words a question makes
pub root_most : (t k r a n : ℕ) → t ≡ k → a ≡ 1 → n ≡ k → t + (a * r * (2 * n + 2) + a) ≡ r * (2 * k + 2) + k + 1
root_most t k r a n e ea en =
    let h : 1 * r * (2 * k + 2) ≡ r * (2 * k + 2) = ap (λ x. x * (2 * k + 2)) (one_times r) in
    let g : t + (1 * r * (2 * k + 2) + 1) ≡ r * (2 * k + 2) + k + 1 = omega (arith, h, e) in
    (λ i. t + (ea i * r * (2 * en i + 2) + ea i)) ∙ g

pub root_begun : (t k m : ℕ) → t ≡ k → t ≤ m + k + 1
root_begun t k m e = omega (arith, e)

-- an operator's refusal, handed on
pub handed_on : (U : Type 0) (e : TableError) → refusals.is_full {T = ℕ} (Err e) ≡ faults.is_full {T = U} (Err (faults.table_fault e))
handed_on U table.Full = refl
handed_on U table.Memory = refl
