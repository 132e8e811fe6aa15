-- What a well formed list says of the word at a place.
use Rattle.std.{proofs.Common.{◌≡◌, ℕ, ◌<◌, ◌^◌, List, length, Some, None, ap, sym, ◌∙◌, subst, arith}, specs.Prelude.{slice_get, IsTrue}}
use Rattle.std.proofs.lemmas.Bool.{false≢true}
use Rattle.ct_word.{specs.declared.kinds.Kind.Kind, specs.Word.{kind_of, left_of, right_of}, specs.Reading.{by_kind, meanings}, proofs.Prefixes.place_in_prefix}
use Rattle.ct_word.{specs.WellFormed.{IsWellFormed, is_formed_as, Field, PlaceOf, fields_of, fits, is_word_of, has_class}, specs.WordAt.{IsFieldAt, IsWordAt}}
use Rattle.ct_word.proofs.Splits.{split_at, place_within, formed_fields, formed_at, meaning_at}
use mathlib.Core.List.{IsPrefix}

-- a field that fits the words before a place names an earlier place of the words, if it names one
field_at : (ws front : List ℕ) (k : ℕ) → IsPrefix front ws → length front ≡ k → (f : Field) (n : ℕ) → IsTrue (fits front f n) → IsFieldAt ws k f n
field_at ws front k p long (PlaceOf c) n e = (omega (arith, place_within front c n e, long), place_in_prefix front ws c n p e)
field_at ws front k p long _ n e = e

module _ (ws : List ℕ) (k w : ℕ) (at : slice_get ws k ≡ Some w) (formed : IsWellFormed ws) where
  -- a word of a well formed list has a kind
  pub has_kind : kind_of w ≡ None → ⊥
  has_kind e =
      let s = split_at ws k w at in
      false≢true (subst (λ o. IsTrue (is_formed_as o s.front (left_of w) (right_of w))) e (formed_at ws formed k w at s))

  pub word_is : (o : Kind) → kind_of w ≡ Some o → left_of w < 2 ^ 28 → right_of w < 2 ^ 28
      → IsWordAt ws k (record { kind = o; left = left_of w; right = right_of w })
  word_is o e l r =
      let s = split_at ws k w at in
      let p : IsPrefix s.front ws = (_, sym s.is) in
      let fit = formed_fields s.front o (left_of w) (right_of w)
      (subst (λ x. IsTrue (is_formed_as x s.front (left_of w) (right_of w))) e (formed_at ws formed k w at s)) in
      record {
        meaning = meaning_at ws formed k w at ∙ ap (λ x. Some (by_kind x (meanings ws) (left_of w) (right_of w))) e;
        class = λ c. ap (λ x. is_word_of x c) at ∙ ap (λ x. has_class x c) e;
        left = field_at ws s.front k p s.long (fields_of o).0 (left_of w) fit.0;
        right = field_at ws s.front k p s.long (fields_of o).1 (right_of w) fit.1;
        left_short = l;
        right_short = r;
      }
