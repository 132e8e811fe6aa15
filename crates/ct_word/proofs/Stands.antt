-- A place stands for what its word says over all words: fields name earlier places, and these keep their meaning.
use Rattle.std.proofs.Common.{◌≡◌, ℕ, zero, suc, ◌<◌, List, [], ◌∷◌, ◌++◌, take, Option, Some, None, ◌&&◌, refl, ap, sym, subst, ◌∙◌, ◌^◌}
use Rattle.std.{proofs.lemmas.List.{append-nil, append_assoc}, specs.Prelude.{slice_get, IsTrue}}
use Rattle.ct_word.{specs.declared.kinds.Kind.Kind, specs.declared.kinds.Class.Class, specs.Word.{code_of, word_of, kind_of, left_of, right_of}}
use Rattle.ct_word.specs.WellFormed.{Field, PlaceOf, fields_of, fits, class_of, same_class, has_class, is_word_of, is_place_of, is_formed_as, is_word_after, each_follows, IsWellFormed}
use Rattle.ct_word.{specs.Reading.{Meaning, by_kind, meaning_of, meanings}, specs.Stands.StandsAt, proofs.Prefixes.meaning_in_prefix, proofs.Places.meaning_at}
use Rattle.ct_word.{proofs.Packed.{true_left, true_right, meaning_packed, kind_of_parts}, proofs.Growth.place_within}
use mathlib.Core.List.{IsPrefix}
use Rattle.ct_word.specs.declared.kinds.Kind.TheVariants as kind
use Rattle.ct_word.specs.declared.kinds.Class.TheVariants as class

-- two lists of meanings agree at the place that a field names
abbrev Agrees : List Meaning → List Meaning → Field → ℕ → Type 0
Agrees ms ns (PlaceOf c) n = slice_get ms n ≡ slice_get ns n
Agrees ms ns _ n = Unit {0}

-- what a word stands for rests on the places that its fields name
by_kind_same : (k : Kind) (ms ns : List Meaning) (a b : ℕ) → Agrees ms ns (fields_of k).0 a → Agrees ms ns (fields_of k).1 b
    → by_kind (Some k) ms a b ≡ by_kind (Some k) ns a b
by_kind_same kind.TextEnd ms ns a b f g = refl
by_kind_same _ ms ns a b f g = cc

-- a field that fits names an earlier place, which keeps its meaning
field_same : (before words : List ℕ) (f : Field) (n : ℕ) → IsPrefix before words → IsTrue (fits before f n) → Agrees (meanings words) (meanings before) f n
field_same before words (PlaceOf c) n p e = meaning_in_prefix before words n p (place_within before c n e)
field_same before words _ n p e = tt

meaning_by_kind : (o : Option Kind) (before words : List ℕ) (a b : ℕ) → IsPrefix before words → IsTrue (is_formed_as o before a b)
    → by_kind o (meanings words) a b ≡ by_kind o (meanings before) a b
meaning_by_kind (Some k) before words a b p e =
    let fields = true_left (fits before (fields_of k).0 a && fits before (fields_of k).1 b) _ e in
    by_kind_same k (meanings words) (meanings before) a b
    (field_same before words (fields_of k).0 a p (true_left (fits before (fields_of k).0 a) _ fields))
    (field_same before words (fields_of k).1 b p (true_right (fits before (fields_of k).0 a) _ fields))
meaning_by_kind None before words a b p e = refl

formed_part : (before : List ℕ) (w : ℕ) → IsTrue (is_word_after before w) → IsTrue (is_formed_as (kind_of w) before (left_of w) (right_of w))
unfolding is_word_after
formed_part before w e = true_left (is_formed_as (kind_of w) before (left_of w) (right_of w)) _ e

-- each word may follow those before it
word_follows : (before ws : List ℕ) (k w : ℕ) → IsTrue (each_follows before ws) → slice_get ws k ≡ Some w → IsTrue (is_word_after (before ++ take k ws) w)
word_follows before [] k w e at = cc
word_follows before (x ∷ ws) zero w e at =
    let same : x ≡ w = cc in
    subst (λ l. IsTrue (is_word_after l w)) (sym (append-nil before))
    (subst (λ y. IsTrue (is_word_after before y)) same (true_left (is_word_after before x) _ e))
word_follows before (x ∷ ws) (suc k) w e at =
    subst (λ l. IsTrue (is_word_after l w)) (append_assoc before (x ∷ []) (take k ws))
    (word_follows (before ++ x ∷ []) ws k w (true_right (is_word_after before x) _ e) at)

front_of : {A : Type 0} (k : ℕ) (xs : List A) → IsPrefix (take k xs) xs
front_of zero xs = (xs, refl)
front_of (suc k) [] = ([], refl)
front_of (suc k) (x ∷ xs) = let rest = front_of k xs in (rest.0, ap (λ l. x ∷ l) rest.1)

-- a place stands for what its word says over all words
pub stands_for_word : (words : List ℕ) (p w : ℕ) → IsWellFormed words → slice_get words p ≡ Some w → StandsAt words p (meaning_of (meanings words) w)
unfolding meaning_of
stands_for_word words p w formed at =
    meaning_at words p w at
    ∙ ap (λ m. Some m) (sym (meaning_by_kind (kind_of w) (take p words) words (left_of w) (right_of w) (front_of p words)
    (formed_part (take p words) w (word_follows [] words p w formed at))))

-- a place of a packed word stands for the line of its kind, over its fields
pub stands_for_packed : (words : List ℕ) (p : ℕ) (k : Kind) (a b : ℕ) → IsWellFormed words → a < 2 ^ 28 → b < 2 ^ 28
    → slice_get words p ≡ Some (word_of k a b) → StandsAt words p (by_kind (Some k) (meanings words) a b)
stands_for_packed words p k a b formed l r at =
    stands_for_word words p (word_of k a b) formed at ∙ ap (λ m. Some m) (meaning_packed (meanings words) k a b l r)

same_class_self : (c : Class) → IsTrue (same_class c c)
same_class_self class.Text = refl
same_class_self _ = refl

-- a place of a packed word is of its kind's class
pub class_of_packed : (words : List ℕ) (p : ℕ) (k : Kind) (a b : ℕ) → a < 2 ^ 28 → b < 2 ^ 28
    → slice_get words p ≡ Some (word_of k a b) → IsTrue (is_place_of words (class_of k) p)
class_of_packed words p k a b l r at =
    ap (λ o. is_word_of o (class_of k)) at ∙ ap (λ o. has_class o (class_of k)) (kind_of_parts k (code_of k) a b refl l r) ∙ same_class_self (class_of k)
