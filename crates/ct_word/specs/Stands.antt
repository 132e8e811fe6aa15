-- What a place stands for, as a fact, and which places are reached from it.
use Rattle.std.specs.Prelude.{◌≡◌, ℕ, List, [], ◌∷◌, ◌++◌, Option, Some, None, slice_get}
use Rattle.std.specs.List.{Contains}
use Rattle.ct_word.specs.declared.kinds.Kind.{Kind}
use Rattle.ct_word.specs.declared.kinds.Class.{Class}
use Rattle.ct_word.specs.declared.kinds.Class.TheVariants as class
use Rattle.ct_word.specs.declared.values.Term.{Term}
use Rattle.ct_word.specs.declared.values.Term.TheVariants as term
use Rattle.ct_word.specs.Word.{kind_of, left_of, right_of}
use Rattle.ct_word.specs.WellFormed.{Field, PlaceOf, fields_of}
use Rattle.ct_word.specs.Reading.{Meaning, Nothing, IsText, IsHigh, IsTerm, IsCond, IsRow, IsCondRow, IsRowList, IsNameList, IsChange, IsChangeList, IsCommit, IsSet, IsSetList, IsUpdateBody, meanings}

-- a place stands for this: it lies within the words, and its word is of the class of this
abbrev pub StandsAt : List ℕ → ℕ → Meaning → Type 0
StandsAt words place m = slice_get (meanings words) place ≡ Some m

-- the class of what is stood for, none for a word of no kind
abbrev pub class_of_meaning : Meaning → Option Class
class_of_meaning Nothing = None
class_of_meaning (IsText t) = Some class.Text
class_of_meaning (IsHigh h) = Some class.High
class_of_meaning (IsTerm t) = Some class.Term
class_of_meaning (IsCond c) = Some class.Cond
class_of_meaning (IsRow cells) = Some class.Row
class_of_meaning (IsCondRow row) = Some class.CondRow
class_of_meaning (IsRowList rows) = Some class.RowList
class_of_meaning (IsNameList names) = Some class.NameList
class_of_meaning (IsChange change) = Some class.Change
class_of_meaning (IsChangeList changes) = Some class.ChangeList
class_of_meaning (IsCommit commit) = Some class.Commit
class_of_meaning (IsSet k t) = Some class.Set
class_of_meaning (IsSetList sets) = Some class.SetList
class_of_meaning (IsUpdateBody sets c) = Some class.UpdateBody

-- the place that a field names, if it names one
abbrev pub place_in : Field → ℕ → List ℕ
place_in (PlaceOf c) n = n ∷ []
place_in _ n = []

-- the places that the fields of a word of this kind name
abbrev pub places_in : Option Kind → ℕ → ℕ → List ℕ
places_in (Some k) a b = place_in (fields_of k).0 a ++ place_in (fields_of k).1 b
places_in None a b = []

-- the places that a word's fields name
unfoldable pub places_of : ℕ → List ℕ
places_of w = places_in (kind_of w) (left_of w) (right_of w)

-- a place stands below another: it is that one, or is reached from it through the fields of words
pub data Below (words : List ℕ) : ℕ → ℕ → Type 0 where
  itself : {p : ℕ} → Below words p p
  through : {p r : ℕ} (w q : ℕ) → slice_get words p ≡ Some w → Contains (places_of w) q → Below words q r → Below words p r

-- a term stands below a place
abbrev pub TermBelow : List ℕ → ℕ → Term → Type 0
TermBelow words place t = (q : ℕ) × Below words place q × StandsAt words q (IsTerm t)

-- no column stands below a place
abbrev pub HasNoColumn : List ℕ → ℕ → Type 0
HasNoColumn words place = (k : ℕ) → TermBelow words place (term.Column k) → ⊥
