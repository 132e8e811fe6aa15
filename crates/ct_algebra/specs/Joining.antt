-- What is made of pairs of rows.
use Rattle.std.specs.Prelude.{◌≡◌, ◌≢◌, ◌<◌, ◌+◌, ◌&&◌, ℕ, Bool, false, List, [], ◌∷◌, ◌++◌, length, nat_eq, if◌then◌else◌, map, filter, All, slice_index_or, ◌⊎◌}
use mathlib.Core.List.{IsPrefix}
use Rattle.ct_word.specs.declared.values.Value.{Value}
use Rattle.ct_word.specs.declared.values.Term.{Term}
use Rattle.ct_word.specs.declared.values.CRow.{CRow}
use Rattle.ct_word.specs.Value.{World, tuple_at}
use Rattle.ct_word.specs.Sublist.{IsSublist}
use Rattle.ct_word.specs.Condition.{Condition, True, holds, holds_at}
use Rattle.ct_word.specs.Reading.{condition_at, term_at}
use Rattle.ct_query.specs.Bounds.{ops}
use Rattle.ct_query.specs.Rows.{joins}
use Rattle.ct_condition.specs.Terms.{IsNamed, BelowSome, BelowEither, TermsFrom}
use Rattle.ct_condition.specs.Truth.{HasTruth, and_at}
use Rattle.ct_join.specs.declared.keys.Key.{Key}
use Rattle.ct_join.specs.Pairs.{may_agree, key_at}
use Rattle.ct_operators.specs.Tables.{cells_of, value_of_rows, IsRow}
use Rattle.ct_operators.specs.Terms.{TermOfRows, RowsFrom, IsNoColumn}

-- rows over the words now: they are worth these tuples, in order, at each valuation; their cells are, in order, among these;
-- none is under the word false; the terms below them are of a source
pub record Makes (old now : List ℕ) (width : ℕ) (cells : List (List Term)) (worth : World → List (List Value)) (source : Term → Type 0) (out : List CRow) : Type 0 where
  pub grown : IsPrefix old now
  pub each : All (IsRow now width) out
  pub possible : All (λ r. r.cond ≢ 1) out
  pub worth_is : (v : World) → value_of_rows now v out ≡ worth v
  pub part : IsSublist (cells_of now out) cells
  pub from : RowsFrom now out source

-- rows made of pairs of these rows, of those for which a condition holds
abbrev pub MakesPairs : List ℕ → List ℕ → ℕ → Condition → List CRow → List CRow → (Term → Type 0) → List CRow → Type 0
MakesPairs old now width c ls rs source out =
    Makes old now width (joins (cells_of old ls) (cells_of old rs)) (λ v. filter (λ t. holds v t c) (joins (value_of_rows old v ls) (value_of_rows old v rs))) source out

-- a term below rows, or one that a condition names, which is no column
abbrev pub TermOfJoin : List ℕ → Condition → List CRow → Term → Type 0
TermOfJoin words c rows t = TermOfRows words rows t ⊎ (IsNamed c t × IsNoColumn t)

-- below one of two rows
abbrev pub TermOfPair : List ℕ → Condition → CRow → CRow → Term → Type 0
TermOfPair words c l r t = BelowSome words (l.cond ∷ r.cond ∷ (l.cells ++ r.cells)) t ⊎ (IsNamed c t × IsNoColumn t)

-- the rows at these places
abbrev pub rows_at : List CRow → CRow → List ℕ → List CRow
rows_at rows d places = map (λ j. slice_index_or rows j d) places

-- the row of these cells under a condition, none where that is the word false
abbrev pub row_under : List ℕ → ℕ → List CRow
row_under cells cond = if nat_eq cond 1 then [] else record { cells = cells; cond = cond } ∷ []

-- the tuples that cells of two rows are worth, one after the other
abbrev pub pair_tuple : List ℕ → World → List ℕ → List ℕ → List Value
pair_tuple words v l r = tuple_at v (map (term_at words) l) ++ tuple_at v (map (term_at words) r)

-- whether two rows are shown, and a condition holds for both
abbrev pub pair_holds : List ℕ → Condition → CRow → CRow → World → Bool
pair_holds words c l r v =
    (holds_at v (condition_at words l.cond) && holds_at v (condition_at words r.cond)) && holds v (pair_tuple words v l.cells r.cells) c

-- the place of the And of two conditions and another one, which is that one itself where it is the word false
pub data ShownBeside (old new : List ℕ) (left right cond : ℕ) : ℕ → Type 0 where
  as_it_is : cond ≡ 1 → new ≡ old → ShownBeside old new left right cond cond
  with_both : (last : List ℕ) (both place : ℕ) → IsPrefix old last → HasTruth last both (and_at old left right) → TermsFrom last both (BelowEither old left right)
      → HasTruth new place (and_at last both cond) → TermsFrom new place (BelowEither last both cond) → ShownBeside old new left right cond place

-- a condition never holds for a row and one of those whose keys differ from its own
abbrev pub TellApart : List ℕ → Condition → CRow → List CRow → Key → List Key → Type 0
TellApart words c l rows key keys =
    (j : ℕ) → j < length rows → may_agree key (key_at keys j) ≡ false → (v : World) → holds v (pair_tuple words v l.cells (slice_index_or rows j l).cells) c ≡ false

-- how many words a pair takes at most, where the terms of the condition have places
abbrev pub pair_words : Condition → ℕ
pair_words True = 1
pair_words c = ops c + 2
