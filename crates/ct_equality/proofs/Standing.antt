-- What the places of constants and nulls stand for.
use Rattle.std.{proofs.Common.{◌≡◌, ◌<◌, ◌^◌, ℕ, true, false, not, List, [], Option, Some, None, refl, ap, sym, ◌∙◌, subst, arith}, specs.Prelude.slice_get}
use Rattle.std.proofs.lemmas.Bool.{false≢true, and_parts, not-true}
use Rattle.ct_word.{specs.declared.kinds.Kind.Kind, specs.declared.values.Term.Term, specs.declared.values.Null.Null, specs.Word.{kind_of, left_of, right_of}}
use Rattle.ct_word.{specs.Value.{World, at}, specs.Reading.{by_kind, meanings, as_term, term_at}, proofs.Constants.constant_stands}
use Rattle.ct_word.{specs.WellFormed.{has_class, is_word_of, is_place_of, IsWellFormed}, proofs.Splits.{meaning_at, some-injective}}
use Rattle.ct_derivation.specs.Path.{is_constant, is_constant_kind, is_constant_word}
use Rattle.ct_equality.{specs.Members.{number_by, number_in, number_at}, specs.Assigned.{is_column_kind, is_column_word, is_plain_term}}
use Rattle.ct_equality.specs.Valued.{is_value, value_in}
use Rattle.ct_word.specs.declared.kinds.Kind.TheVariants as kind
use Rattle.ct_word.specs.declared.kinds.Class.TheVariants as class
use Rattle.ct_word.specs.declared.values.Term.TheVariants as term
use Rattle.ct_word.specs.declared.values.Value.TheVariants as val

-- a value stands for itself
pub value_there : (v : World) (t : Term) → is_value t ≡ true → at v [] t ≡ value_in t
value_there v (term.Value x) e = refl
value_there v _ e = absurd (false≢true e)

pub record IsNull (t : Term) : Type 0 where
  pub null : Null
  pub is : t ≡ term.Null null

pub record IsNumber (words : List ℕ) (p k : ℕ) : Type 0 where
  pub constant : is_constant words p ≡ true
  pub term : term_at words p ≡ term.Value (val.Other k)
  pub short : k < 2 ^ 28

module _ (words : List ℕ) (wf : IsWellFormed words) where
  abbrev read : Option Kind → ℕ → ℕ → Term
  read o a b = as_term (Some (by_kind o (meanings words) a b))

  term_is : (p w : ℕ) → slice_get words p ≡ Some w → term_at words p ≡ read (kind_of w) (left_of w) (right_of w)
  term_is p w there = ap as_term (meaning_at words wf p w there)

  -- a constant is a value
  pub constant_value : (p : ℕ) → is_constant words p ≡ true → is_value (term_at words p) ≡ true
  unfolding is_constant
  constant_value p e = ap is_value (constant_stands words wf [] p e)

  left_short : (w : ℕ) → left_of w < 2 ^ 28
  left_short w = omega arith

  number_by_kind : (p w k : ℕ) (o : Option Kind) → slice_get words p ≡ Some w → kind_of w ≡ o → number_by o (left_of w) ≡ Some k → IsNumber words p k
  unfolding is_constant
  number_by_kind p w k (Some kind.OtherValue) there is e =
      let same : left_of w ≡ k = some-injective (left_of w) k e in
      record {
        constant = ap is_constant_word there ∙ ap is_constant_kind is;
        term = term_is p w there ∙ ap (λ o. read o (left_of w) (right_of w)) is ∙ ap (λ n. term.Value (val.Other n)) same;
        short = subst (λ n. n < 2 ^ 28) same (left_short w);
      }
  number_by_kind p w k _ there is e = cc

  number_by_word : (p k : ℕ) (o : Option ℕ) → slice_get words p ≡ o → number_in o ≡ Some k → IsNumber words p k
  number_by_word p k None there e = cc
  number_by_word p k (Some w) there e = number_by_kind p w k (kind_of w) there refl e

  -- a number is that of a constant `@k`
  pub number_value : (p k : ℕ) → number_at words p ≡ Some k → IsNumber words p k
  unfolding number_at
  number_value p k e = number_by_word p k (slice_get words p) refl e

  other_by : (o : Option Kind) (a b k : ℕ) → is_constant_kind o ≡ true → number_by o a ≡ None → value_in (read o a b) ≡ val.Other k → ⊥
  other_by (Some kind.OtherValue) a b k c e f = cc
  other_by _ a b k c e f = cc

  other_by_word : (p k : ℕ) (o : Option ℕ) → slice_get words p ≡ o → is_constant_word o ≡ true → number_in o ≡ None → value_in (term_at words p) ≡ val.Other k → ⊥
  other_by_word p k None there c e f = false≢true c
  other_by_word p k (Some w) there c e f = other_by (kind_of w) (left_of w) (right_of w) k c e (sym (ap value_in (term_is p w there)) ∙ f)

  -- a constant without a number is no `@k`
  pub no_number : (p k : ℕ) → is_constant words p ≡ true → number_at words p ≡ None → value_in (term_at words p) ≡ val.Other k → ⊥
  unfolding is_constant number_at
  no_number p k c e f = other_by_word p k (slice_get words p) refl c e f

  null_by : (o : Option Kind) (a b : ℕ) → has_class o class.Term ≡ true → is_column_kind o ≡ false → is_constant_kind o ≡ false → IsNull (read o a b)
  null_by (Some kind.NamedNull) a b t c n = record { null = _; is = refl }
  null_by (Some kind.FreshNull) a b t c n = record { null = _; is = refl }
  null_by (Some kind.Number) a b t c n = absurd (false≢true (sym n))
  null_by (Some kind.TextConstant) a b t c n = absurd (false≢true (sym n))
  null_by (Some kind.OtherValue) a b t c n = absurd (false≢true (sym n))
  null_by (Some kind.Column) a b t c n = absurd (false≢true (sym c))
  null_by _ a b t c n = absurd (false≢true t)

  null_by_word : (p : ℕ) (o : Option ℕ) → slice_get words p ≡ o → is_word_of o class.Term ≡ true → is_column_word o ≡ false → is_constant_word o ≡ false → IsNull (term_at words p)
  null_by_word p None there t c n = absurd (false≢true t)
  null_by_word p (Some w) there t c n = subst IsNull (sym (term_is p w there)) (null_by (kind_of w) (left_of w) (right_of w) t c n)

  -- a term that is neither a constant nor a column is a null
  pub null_there : (p : ℕ) → is_plain_term words p ≡ true → is_constant words p ≡ false → IsNull (term_at words p)
  unfolding is_constant
  null_there p plain n =
      let parts = and_parts (is_place_of words class.Term p) (not (is_column_word (slice_get words p))) plain in
      null_by_word p (slice_get words p) refl parts.0 (not-true _ parts.1) n
