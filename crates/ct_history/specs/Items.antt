-- The items of a list in the log.
use Rattle.std.specs.Prelude.{◌≡◌, ℕ, Bool, true, false, ◌||◌, List, [], ◌∷◌, ◌++◌}
use Rattle.ct_word.specs.declared.kinds.Kind.{Kind}
use Rattle.ct_word.specs.declared.kinds.Kind.TheVariants as kind
use Rattle.ct_word.specs.declared.kinds.Class.TheVariants as class
use Rattle.ct_word.specs.declared.reading.Word.{Word}
use Rattle.ct_word.specs.WellFormed.{is_place_of}
use Rattle.ct_word.specs.WordAt.{IsWordAt}

-- the kinds of words that put one more item behind a list
abbrev pub is_longer : Kind → Bool
is_longer kind.RowCell = true
is_longer kind.Rows = true
is_longer kind.Names = true
is_longer kind.Sets = true
is_longer kind.Changes = true
is_longer _ = false

-- whether a place is one of a list
abbrev pub is_place_of_list : List ℕ → ℕ → Bool
is_place_of_list words p = is_place_of words class.Row p || (is_place_of words class.RowList p || (is_place_of words class.NameList p || (is_place_of words class.SetList p || is_place_of words class.ChangeList p)))

-- these are the places of the items of the list at a place, in order
pub data AreItems (words : List ℕ) : ℕ → List ℕ → Type 0 where
  ended : {p : ℕ} (w : Word) → IsWordAt words p w → is_longer w.kind ≡ false → AreItems words p []
  longer : {p : ℕ} {items : List ℕ} (w : Word) → IsWordAt words p w → is_longer w.kind ≡ true → AreItems words w.left items → AreItems words p (items ++ w.right ∷ [])
