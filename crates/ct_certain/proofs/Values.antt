-- Places of values.
use Rattle.std.proofs.Common.{◌≡◌, ◌<◌, ◌≤◌, ◌+◌, ◌^◌, ℕ, Bool, true, false, List, [], ◌∷◌, ◌++◌, length, Option, Some, None, Result, Ok, Err, get_or, take, ap, sym, subst, ◌∙◌, arith, inl, inr}
use Rattle.std.{specs.Prelude.{IsOk, IsTrue, is_err}, proofs.lemmas.Bool.false≢true, specs.Borrow.GName}
use Rattle.std.proofs.lemmas.Option.{slice_get-get_or, slice_get_within}
use Rattle.ct_word.{specs.declared.kinds.Kind.Kind, specs.declared.values.Value.Value, specs.Reading.{Meaning, IsTerm, by_kind, meanings}}
use Rattle.ct_word.{specs.WellFormed.IsWellFormed, proofs.Prefixes.{place_in_prefix, place_within, stands_in_prefix}, specs.Word.{kind_of, left_of, right_of}}
use Rattle.ct_word.{specs.Stands.StandsAt, proofs.Growth.length-read, proofs.Splits.{meaning_at, some-injective}}
use Rattle.ct_condition.{proofs.Placed.{place_found, place_stays}, proofs.Reached.terms_before, specs.Places.has_place, specs.Writes.{charge, Writes}, proofs.Writes.writes_of}
use Rattle.ct_equality.specs.Valued.{IsNumbered}
use Rattle.ct_query.{specs.Bounds.{literal_words, column_words}, specs.Fields.FitsFields}
use Rattle.ct_certain.specs.Missing.{IsAtHand, IsOfValue, AreOfTuple}
use mathlib.Core.List.{IsPrefix}
use Rattle.ct_word.specs.declared.kinds.Kind.TheVariants as kind
use Rattle.ct_word.specs.declared.kinds.Class.TheVariants as class
use Rattle.ct_word.specs.declared.values.Value.TheVariants as val
use Rattle.ct_word.specs.declared.values.Term.TheVariants as term

pub at_hand_grows : (old new : List ℕ) (x : Value) → IsPrefix old new → IsAtHand old x → IsAtHand new x
at_hand_grows old new x longer (inl e) = inl (place_stays old new (term.Value x) longer e)
at_hand_grows old new x longer (inr n) = inr n

of_value_grows : (old new : List ℕ) (x : Value) (p : ℕ) → IsPrefix old new → IsWellFormed new → IsOfValue old x p → IsOfValue new x p
of_value_grows old new x p longer formed is =
    let lt = place_within old class.Term p is.place in
    record {
      place = place_in_prefix old new class.Term p longer is.place;
      stands = stands_in_prefix old new p (IsTerm (term.Value x)) longer lt is.stands;
      terms = λ t h. is.terms t (terms_before old new longer formed p t lt h);
    }

are_grow : (old new : List ℕ) (xs : List Value) (ps : List ℕ) → IsPrefix old new → IsWellFormed new → AreOfTuple old xs ps → AreOfTuple new xs ps
are_grow old new [] [] longer formed are = are
are_grow old new (x ∷ xs) (p ∷ ps) longer formed are = (of_value_grows old new x p longer formed are.0, are_grow old new xs ps longer formed are.1)
are_grow old new [] (p ∷ ps) longer formed are = elim are [ ]
are_grow old new (x ∷ xs) [] longer formed are = elim are [ ]

are_more : (words : List ℕ) (xs : List Value) (ps : List ℕ) (x : Value) (p : ℕ) → AreOfTuple words xs ps → IsOfValue words x p → AreOfTuple words (xs ++ x ∷ []) (ps ++ p ∷ [])
are_more words [] [] x p are is = (is, are)
are_more words (y ∷ xs) (q ∷ ps) x p are is = (are.0, are_more words xs ps x p are.1 is)
are_more words [] (q ∷ ps) x p are is = elim are [ ]
are_more words (y ∷ xs) [] x p are is = elim are [ ]

-- one more value of a tuple
pub are_turn : (old new : List ℕ) (xs : List Value) (i : ℕ) (x : Value) (ps : List ℕ) (p : ℕ) → IsPrefix old new → IsWellFormed new → take i xs ++ x ∷ [] ≡ take (i + 1) xs
    → AreOfTuple old (take i xs) ps → IsOfValue new x p → AreOfTuple new (take (i + 1) xs) (ps ++ p ∷ [])
are_turn old new xs i x ps p longer formed done are is =
    subst (λ d. AreOfTuple new d (ps ++ p ∷ [])) done (are_more new (take i xs) ps x p (are_grow old new (take i xs) ps longer formed are) is)

abbrev is_other : Meaning → Bool
is_other (IsTerm (term.Value (val.Other j))) = true
is_other _ = false

abbrev number_of : Meaning → ℕ
number_of (IsTerm (term.Value (val.Other j))) = j
number_of _ = 0

abbrev number_in : Value → ℕ
number_in (val.Other j) = j
number_in _ = 0

-- the number of a value `@k` is the left field of its word
field_of_other : (o : Option Kind) (ms : List Meaning) (a b k : ℕ) → by_kind o ms a b ≡ IsTerm (term.Value (val.Other k)) → a ≡ k
field_of_other (Some kind.OtherValue) ms a b k e = ap number_of e
field_of_other (Some kind.TextEnd) ms a b k e = absurd (false≢true (ap is_other e))
field_of_other (Some kind.TextCharacter) ms a b k e = absurd (false≢true (ap is_other e))
field_of_other (Some kind.NumberHigh) ms a b k e = absurd (false≢true (ap is_other e))
field_of_other (Some kind.Number) ms a b k e = absurd (false≢true (ap is_other e))
field_of_other (Some kind.TextConstant) ms a b k e = absurd (false≢true (ap is_other e))
field_of_other (Some kind.NamedNull) ms a b k e = absurd (false≢true (ap is_other e))
field_of_other (Some kind.FreshNull) ms a b k e = absurd (false≢true (ap is_other e))
field_of_other (Some kind.Column) ms a b k e = absurd (false≢true (ap is_other e))
field_of_other (Some kind.True) ms a b k e = absurd (false≢true (ap is_other e))
field_of_other (Some kind.False) ms a b k e = absurd (false≢true (ap is_other e))
field_of_other (Some kind.Equal) ms a b k e = absurd (false≢true (ap is_other e))
field_of_other (Some kind.Not) ms a b k e = absurd (false≢true (ap is_other e))
field_of_other (Some kind.And) ms a b k e = absurd (false≢true (ap is_other e))
field_of_other (Some kind.Or) ms a b k e = absurd (false≢true (ap is_other e))
field_of_other (Some kind.RowEnd) ms a b k e = absurd (false≢true (ap is_other e))
field_of_other (Some kind.RowCell) ms a b k e = absurd (false≢true (ap is_other e))
field_of_other (Some kind.ConditionalRow) ms a b k e = absurd (false≢true (ap is_other e))
field_of_other (Some kind.RowsEnd) ms a b k e = absurd (false≢true (ap is_other e))
field_of_other (Some kind.Rows) ms a b k e = absurd (false≢true (ap is_other e))
field_of_other (Some kind.NamesEnd) ms a b k e = absurd (false≢true (ap is_other e))
field_of_other (Some kind.Names) ms a b k e = absurd (false≢true (ap is_other e))
field_of_other (Some kind.Create) ms a b k e = absurd (false≢true (ap is_other e))
field_of_other (Some kind.Insert) ms a b k e = absurd (false≢true (ap is_other e))
field_of_other (Some kind.Delete) ms a b k e = absurd (false≢true (ap is_other e))
field_of_other (Some kind.Assert) ms a b k e = absurd (false≢true (ap is_other e))
field_of_other (Some kind.ChangesEnd) ms a b k e = absurd (false≢true (ap is_other e))
field_of_other (Some kind.Changes) ms a b k e = absurd (false≢true (ap is_other e))
field_of_other (Some kind.Commit) ms a b k e = absurd (false≢true (ap is_other e))
field_of_other (Some kind.Set) ms a b k e = absurd (false≢true (ap is_other e))
field_of_other (Some kind.SetsEnd) ms a b k e = absurd (false≢true (ap is_other e))
field_of_other (Some kind.Sets) ms a b k e = absurd (false≢true (ap is_other e))
field_of_other (Some kind.UpdateBody) ms a b k e = absurd (false≢true (ap is_other e))
field_of_other (Some kind.Update) ms a b k e = absurd (false≢true (ap is_other e))
field_of_other None ms a b k e = absurd (false≢true (ap is_other e))

left_small : (w : ℕ) → left_of w < 2 ^ 28
left_small w = omega arith

-- so it is below 2^28
small_other : (ws : List ℕ) → IsWellFormed ws → (p k : ℕ) → StandsAt ws p (IsTerm (term.Value (val.Other k))) → k < 2 ^ 28
small_other ws formed p k s =
    let within = slice_get_within (meanings ws) p (IsTerm (term.Value (val.Other k))) s in
    let lt : p < length ws = omega (arith, within, length-read [] ws) in
    let w = get_or ws p 0 in
    let there = slice_get-get_or ws p 0 lt in
    let same = some-injective (by_kind (kind_of w) (meanings ws) (left_of w) (right_of w)) (IsTerm (term.Value (val.Other k))) (sym (meaning_at ws formed p w there) ∙ s) in
    subst (λ n. n < 2 ^ 28) (field_of_other (kind_of w) (meanings ws) (left_of w) (right_of w) k same) (left_small w)

-- a value that is at hand fits its word
pub value_fits : (ws : List ℕ) → IsWellFormed ws → (x : Value) → IsAtHand ws x → FitsFields (term.Value x)
value_fits ws formed (val.Int i) h = tt
value_fits ws formed (val.Text t) h = tt
value_fits ws formed (val.Other k) (inl e) = let q = place_found ws (term.Value (val.Other k)) e in small_other ws formed q.0 k q.1
value_fits ws formed (val.Other k) (inr n) = subst (λ j. j < 2 ^ 28) (sym (ap number_in n.value)) n.short

one_word : (x : Value) → IsNumbered x → literal_words (term.Value x) ≡ 1
one_word x n = ap (λ y. literal_words (term.Value y)) n.value

-- what a call for the place of a value makes
value_made : {E : Type 0} (words new : List ℕ) (m n : ℕ) (x : Value) (r : Result ℕ E) → IsAtHand words x → (IsTrue (has_place words (term.Value x)) → IsOk r × (new ≡ words) × (n ≡ m))
    → n + charge (is_err r) ≤ m + (literal_words (term.Value x) + column_words (term.Value x)) → n + charge (is_err r) ≤ m + 1
value_made words new m n x (Ok p) (inl e) known most = let same = (known e).2 in omega (arith, same)
value_made words new m n x (Err f) (inl e) known most = absurd (false≢true (known e).0)
value_made words new m n x r (inr k) known most = let one = one_word x k in omega (arith, one, most)

module _ {S E : Type 0} {words_of : S → List ℕ} {made_of : S → ℕ} {kept_of : S → List ℕ} {lent_of : S → List GName} {cap : ℕ} (old new : S) where
  pub value_writes : (x : Value) (r : Result ℕ E) → IsAtHand (words_of old) x → (IsTrue (has_place (words_of old) (term.Value x)) → IsOk r × (words_of new ≡ words_of old) × (made_of new ≡ made_of old))
      → Writes words_of made_of kept_of lent_of cap old new (literal_words (term.Value x) + column_words (term.Value x)) (is_err r) → Writes words_of made_of kept_of lent_of cap old new 1 (is_err r)
  value_writes x r at known all = writes_of all (value_made (words_of old) (words_of new) (made_of old) (made_of new) x r at known all.made)
