-- A null stands at one place, so a walk over places lists none twice.
use Rattle.std.proofs.Common.{◌≡◌, ◌≤◌, ◌+◌, ℕ, Bool, true, false, List, [], ◌∷◌, length, take, Option, Some, refl, ap, sym, subst, ◌∙◌, arith, inl, inr}
use Rattle.std.{specs.Prelude.{IsTrue, slice_get}, specs.List.IsDistinct, specs.Cmp.IsEquivalence, proofs.lemmas.Bool.{false≢true, or_cases}, proofs.lemmas.Bool.Decides.same_from_decides}
use Rattle.std.{proofs.lemmas.List.map-append, proofs.lemmas.List.Folds.list_any-append, proofs.lemmas.Map.Keys.IsDistinct-push}
use Rattle.ct_word.{specs.declared.kinds.Kind.Kind, specs.declared.values.Null.Null, specs.declared.values.Term.Term, specs.Value.{World, same_null}, proofs.Alike.null_decides}
use Rattle.ct_word.{specs.WellFormed.{IsWellFormed, has_class, is_place_of, is_word_of}, specs.Word.{kind_of, left_of, right_of}}
use Rattle.ct_word.{specs.Reading.{Meaning, as_term, by_kind, meaning_of, meanings, term_at}, proofs.Constants.one_term, proofs.Places.meaning_at}
use Rattle.ct_tidy.specs.{Nulls.has_null, Spread.{nulls_in, with_own}}
use Rattle.ct_word.specs.declared.kinds.Class.TheVariants as class
use Rattle.ct_word.specs.declared.kinds.Kind.TheVariants as kind
use Rattle.ct_word.specs.declared.values.Term.TheVariants as term
use Rattle.ct_word.specs.declared.values.Value.TheVariants as val

-- a null stands at a place, from one on
abbrev pub IsNullFrom : List ℕ → ℕ → Null → Type 0
IsNullFrom words next n = (p : ℕ) × (next ≤ p) × (is_place_of words class.Term p ≡ true) × (term_at words p ≡ term.Null n)

-- nulls that stand at places from one on, none twice
pub record AreSingle (words : List ℕ) (next : ℕ) (ns : List Null) : Type 0 where
  pub each : (n : Null) → IsTrue (has_null ns n) → IsNullFrom words next n
  pub once : IsDistinct same_null ns

null_equiv : IsEquivalence same_null
null_equiv = record {
  refl = λ x. (null_decides x x).1 refl;
  symm = λ x y. same_from_decides (same_null x y) (same_null y x) (null_decides x y) (λ e. sym ((null_decides y x).0 e), λ e. (null_decides y x).1 (sym e));
  congr = λ x y z e. ap (λ w. same_null w z) ((null_decides x y).0 e);
}

abbrev is_null : Term → Bool
is_null (term.Null n) = true
is_null _ = false

-- a word that stands for a null is one of a term
null_kind : (k : Option Kind) (ms : List Meaning) (a b : ℕ) (n : Null) → as_term (Some (by_kind k ms a b)) ≡ term.Null n → has_class k class.Term ≡ true
null_kind (Some kind.NamedNull) ms a b n e = refl
null_kind (Some kind.FreshNull) ms a b n e = refl
null_kind _ ms a b n e = absurd (false≢true (ap is_null e))

null_place : (words : List ℕ) (p w : ℕ) (n : Null) → slice_get words p ≡ Some w → term_at words p ≡ term.Null n → is_place_of words class.Term p ≡ true
unfolding meaning_of
null_place words p w n there e =
    ap (λ o. is_word_of o class.Term) there ∙ null_kind (kind_of w) (meanings (take p words)) (left_of w) (right_of w) n (sym (ap as_term (meaning_at words p w there)) ∙ e)

pub none_single : (words : List ℕ) (next : ℕ) → AreSingle words next []
unfolding IsDistinct
none_single words next = record { each = λ n h. absurd (false≢true h); once = tt }

module _ (words : List ℕ) (formed : IsWellFormed words) (next place : ℕ) (is : place + 1 ≡ next) (v : World) (so_far : AreSingle words next (nulls_in v)) where
  before : (n : Null) → IsTrue (has_null (nulls_in v) n) → IsNullFrom words place n
  before n h = let at = so_far.each n h in (at.0, omega (arith, at.1, is), at.2, at.3)

  pub single_skip : AreSingle words place (nulls_in v)
  single_skip = record { each = before; once = so_far.once }

  module _ (w : ℕ) (there : slice_get words place ≡ Some w) where
    -- the null at the place was not listed
    not_listed : (n : Null) → term_at words place ≡ term.Null n → has_null (nulls_in v) n ≡ false
    not_listed n e = by (has_null (nulls_in v) n) refl where
      by : (b : Bool) → has_null (nulls_in v) n ≡ b → has_null (nulls_in v) n ≡ false
      by false none = none
      by true listed =
          let at = so_far.each n listed in
          let same = one_term words formed at.0 place at.2 (null_place words place w n there e) (at.3 ∙ sym e) in
          absurd (omega (arith, at.1, is, same))

    pub single_turn : AreSingle words place (nulls_in (with_own (term_at words place) v))
    single_turn = by (term_at words place) refl where
      by : (t : Term) → term_at words place ≡ t → AreSingle words place (nulls_in (with_own t v))
      by (term.Column k) e = single_skip
      by (term.Value x) e = single_skip
      by (term.Null n) e = subst (AreSingle words place) (sym (map-append (λ p. p.0) v ((n, val.Other (length v + 1)) ∷ []))) (record {
        each = λ m h. elim (or_cases (has_null (nulls_in v) m) (has_null (n ∷ []) m) (sym (list_any-append (same_null m) (nulls_in v) (n ∷ [])) ∙ h)) [
          | inl old ↦ before m old
          | inr this ↦ elim (or_cases (same_null m n) false this) [
            | inl same ↦ subst (IsNullFrom words place) (sym ((null_decides m n).0 same)) (place, omega arith, null_place words place w n there e, e)
            | inr never ↦ absurd (false≢true never)
          ]
        ];
        once = IsDistinct-push null_equiv (nulls_in v) n so_far.once (not_listed n e);
      })
