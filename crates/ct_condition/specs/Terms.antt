-- Which terms stand below a place.
use Rattle.std.specs.Prelude.{◌≡◌, ◌⊎◌, ℕ, Bool, true, false, List, [], ◌∷◌, Some, None}
use Rattle.std.specs.List.{Contains}
use Rattle.ct_word.specs.declared.kinds.Kind.{Kind}
use Rattle.ct_word.specs.declared.values.Term.{Term}
use Rattle.ct_word.specs.Condition.{Condition}
pub use Rattle.ct_word.specs.Named.{IsNamed, IsNamedInSome}
use Rattle.ct_word.specs.Reading.{IsTerm}
use Rattle.ct_word.specs.Stands.{StandsAt, TermBelow, places_in}
use Rattle.ct_query.specs.declared.query.Pred.{Pred}
use Rattle.ct_query.specs.Pred.{condition_of}
use Rattle.ct_word.specs.declared.kinds.Kind.TheVariants as kind
use Rattle.ct_word.specs.declared.values.Value.TheVariants as val
use Rattle.ct_word.specs.declared.values.Null.TheVariants as null
use Rattle.ct_word.specs.declared.values.Term.TheVariants as term
use Rattle.ct_condition.specs.Rows.{cell_for}

-- each term that stands below a place is one of these
abbrev pub TermsFrom : List ℕ → ℕ → (Term → Type 0) → Type 0
TermsFrom words place source = (t : Term) → TermBelow words place t → source t

-- a term stands below one of two places
abbrev pub BelowEither : List ℕ → ℕ → ℕ → Term → Type 0
BelowEither words c d t = TermBelow words c t ⊎ TermBelow words d t

-- a term stands below one of these places
pub record BelowSome (words : List ℕ) (places : List ℕ) (t : Term) : Type 0 where
  pub place : ℕ
  pub among : Contains places place
  pub below : TermBelow words place t

-- a term stands at a place, or below one of those that a word of this kind names there
abbrev pub AtOrUnder : List ℕ → ℕ → Kind → ℕ → ℕ → Term → Type 0
AtOrUnder words place k a b t = StandsAt words place (IsTerm t) ⊎ BelowSome words (places_in (Some k) a b) t

-- a term below a predicate put on a row: below one of its cells, or named, and no cell is put for it
abbrev pub IsOnRow : List ℕ → List ℕ → Condition → Term → Type 0
IsOnRow words cells c t = BelowSome words cells t ⊎ (IsNamed c t × (cell_for cells t ≡ None))

-- a term is a side of an equality of one of these predicates
abbrev pub IsNamedBySome : List Pred → Term → Type 0
IsNamedBySome [] t = ⊥
IsNamedBySome (p ∷ ps) t = IsNamed (condition_of p) t ⊎ IsNamedBySome ps t

-- a term below a run of predicates put on a row
abbrev pub IsOnRowOfSome : List ℕ → List ℕ → List Pred → Term → Type 0
IsOnRowOfSome words cells ps t = BelowSome words cells t ⊎ (IsNamedBySome ps t × (cell_for cells t ≡ None))

-- a term below a place put for a term on a row
abbrev pub IsTermOnRow : List ℕ → List ℕ → Term → Term → Type 0
IsTermOnRow words cells u t = BelowSome words cells t ⊎ ((t ≡ u) × (cell_for cells t ≡ None))

-- whether a word of this kind is a term over a text, and the term that it stands for
abbrev pub is_text_kind : Kind → Bool
is_text_kind kind.NamedNull = true
is_text_kind kind.TextConstant = true
is_text_kind _ = false

abbrev pub text_term : Kind → List ℕ → Term
text_term kind.NamedNull t = term.Null (null.Named t)
text_term _ t = term.Value (val.Text t)
