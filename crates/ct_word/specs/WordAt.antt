-- A word of a well formed list, taken apart.
use Rattle.std.specs.Prelude.{◌≡◌, ℕ, ◌<◌, ◌^◌, List, [], ◌∷◌, ◌++◌, Some, IsTrue, slice_get, encode_utf8}
use Rattle.ct_word.specs.declared.kinds.Class.{Class}
use Rattle.ct_word.specs.WellFormed.{Field, PlaceOf, fields_of, fits, is_place_of, same_class, class_of}
use Rattle.ct_word.specs.Reading.{meanings, by_kind, as_text}
use Rattle.ct_word.specs.declared.reading.Word.{Word}

-- the text that a place stands for
abbrev pub text_at : List ℕ → ℕ → List ℕ
text_at words place = as_text (slice_get (meanings words) place)

-- the text of these characters, the last one first
abbrev pub backwards : List ℕ → List ℕ
backwards [] = []
backwards (c ∷ cs) = backwards cs ++ encode_utf8 c

-- a field of the word at a place is as the table asks: a place that it names is an earlier one of its class
abbrev pub IsFieldAt : List ℕ → ℕ → Field → ℕ → Type 0
IsFieldAt words place (PlaceOf c) n = (n < place) × IsTrue (is_place_of words c n)
IsFieldAt words place f n = IsTrue (fits [] f n)

-- these are the kind and the fields of the word at a place, and the place stands for what they say
pub record IsWordAt (words : List ℕ) (place : ℕ) (word : Word) : Type 0 where
  pub meaning : slice_get (meanings words) place ≡ Some (by_kind (Some word.kind) (meanings words) word.left word.right)
  pub class : (c : Class) → is_place_of words c place ≡ same_class (class_of word.kind) c
  pub left : IsFieldAt words place (fields_of word.kind).0 word.left
  pub right : IsFieldAt words place (fields_of word.kind).1 word.right
  pub left_short : word.left < 2 ^ 28
  pub right_short : word.right < 2 ^ 28
