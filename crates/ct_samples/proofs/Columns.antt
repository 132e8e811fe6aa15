-- A log without the word of a column has no column below any place.
use Rattle.std.proofs.Common.{◌≡◌, ℕ, zero, suc, Bool, true, false, List, [], ◌∷◌, length, Option, Some, None, refl, ap, ◌∙◌, sym, arith, inl, inr}
use Rattle.std.{specs.Prelude.slice_get, specs.List.list_any, proofs.lemmas.Bool.{or_parts, false≢true, cases_lt}}
use Rattle.std.proofs.lemmas.Option.{none-some, slice_get_within, slice_get-get_or}
use Rattle.ct_word.{specs.declared.kinds.Kind.Kind, specs.Word.{kind_of, left_of, right_of}, specs.Reading.{Meaning, IsTerm, by_kind, meanings}}
use Rattle.ct_word.{specs.Stands.{HasNoColumn, StandsAt}, specs.WellFormed.IsWellFormed, proofs.Growth.length-read, proofs.Splits.{meaning_at, some-injective}}
use Rattle.ct_samples.specs.Columns.{is_column_kind}
use Rattle.ct_word.specs.declared.kinds.Kind.TheVariants as kind
use Rattle.ct_word.specs.declared.values.Term.TheVariants as term

abbrev is_column : Meaning → Bool
is_column (IsTerm (term.Column k)) = true
is_column _ = false

-- only the word of a column stands for one
column_of : (o : Option Kind) (ms : List Meaning) (a b : ℕ) → is_column_kind o ≡ false → is_column (by_kind o ms a b) ≡ false
column_of (Some kind.TextEnd) ms a b e = refl
column_of (Some kind.TextCharacter) ms a b e = refl
column_of (Some kind.NumberHigh) ms a b e = refl
column_of (Some kind.Number) ms a b e = refl
column_of (Some kind.TextConstant) ms a b e = refl
column_of (Some kind.NamedNull) ms a b e = refl
column_of (Some kind.FreshNull) ms a b e = refl
column_of (Some kind.OtherValue) ms a b e = refl
column_of (Some kind.Column) ms a b e = absurd (false≢true (sym e))
column_of (Some kind.True) ms a b e = refl
column_of (Some kind.False) ms a b e = refl
column_of (Some kind.Equal) ms a b e = refl
column_of (Some kind.Not) ms a b e = refl
column_of (Some kind.And) ms a b e = refl
column_of (Some kind.Or) ms a b e = refl
column_of (Some kind.RowEnd) ms a b e = refl
column_of (Some kind.RowCell) ms a b e = refl
column_of (Some kind.ConditionalRow) ms a b e = refl
column_of (Some kind.RowsEnd) ms a b e = refl
column_of (Some kind.Rows) ms a b e = refl
column_of (Some kind.NamesEnd) ms a b e = refl
column_of (Some kind.Names) ms a b e = refl
column_of (Some kind.Create) ms a b e = refl
column_of (Some kind.Insert) ms a b e = refl
column_of (Some kind.Delete) ms a b e = refl
column_of (Some kind.Assert) ms a b e = refl
column_of (Some kind.ChangesEnd) ms a b e = refl
column_of (Some kind.Changes) ms a b e = refl
column_of (Some kind.Commit) ms a b e = refl
column_of (Some kind.Set) ms a b e = refl
column_of (Some kind.SetsEnd) ms a b e = refl
column_of (Some kind.Sets) ms a b e = refl
column_of (Some kind.UpdateBody) ms a b e = refl
column_of (Some kind.Update) ms a b e = refl
column_of None ms a b e = refl

none_at : (words : List ℕ) (q w : ℕ) → list_any (λ x. is_column_kind (kind_of x)) words ≡ false → slice_get words q ≡ Some w → is_column_kind (kind_of w) ≡ false
none_at [] q w e at = absurd (none-some w at)
none_at (x ∷ xs) zero w e at = ap (λ y. is_column_kind (kind_of y)) (sym (some-injective x w at)) ∙ (or_parts (is_column_kind (kind_of x)) _ e).0
none_at (x ∷ xs) (suc q) w e at = none_at xs q w (or_parts (is_column_kind (kind_of x)) _ e).1 at

module _ (words : List ℕ) (wf : IsWellFormed words) (none : list_any (λ x. is_column_kind (kind_of x)) words ≡ false) where
  by_word : (q k : ℕ) (o : Option ℕ) → slice_get words q ≡ o → StandsAt words q (IsTerm (term.Column k)) → ⊥
  by_word q k (Some w) there stands =
      let meaning = some-injective _ _ (sym (meaning_at words wf q w there) ∙ stands) in
      false≢true (sym (column_of (kind_of w) (meanings words) (left_of w) (right_of w) (none_at words q w none there)) ∙ ap is_column meaning)
  by_word q k None there stands = elim (cases_lt q (length words)) [
    | inl lt ↦ absurd (none-some _ (sym there ∙ slice_get-get_or words q 0 lt))
    | inr ge ↦
        let within = slice_get_within (meanings words) q _ stands in
        omega (arith, length-read [] words, within, ge)
  ]

  pub no_column : (place : ℕ) → HasNoColumn words place
  no_column place k t = by_word t.0 k (slice_get words t.0) refl t.2
