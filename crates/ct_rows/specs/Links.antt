-- How rows are linked: each to the last one before it that is in its slot.
use Rattle.std.specs.Prelude.{◌≡◌, ◌≢◌, ℕ, ◌+◌, ◌<◌, ◌≤◌, List, [], map, length, get_or, take}
use Rattle.std.specs.Map.{keys_of}
use Rattle.std.specs.List.{AllPairs}
use Rattle.ct_rows.specs.Slots.{slot_of}

-- a row, and one more than the place of the last row before it in its slot, or 0 where there is none
pub record Link : Type 0 where
  pub entry : List ℕ × ℕ
  pub below : ℕ

-- rows in so many slots
pub record Slotted : Type 0 where
  pub slots : ℕ
  pub entries : List (List ℕ × ℕ)

abbrev pub entries_of : List Link → List (List ℕ × ℕ)
entries_of links = map (λ l. l.entry) links

abbrev pub belows_of : List Link → List ℕ
belows_of links = map (λ l. l.below) links

-- `at` is one more than the last place before `upto` whose cells are in slot s of n, or 0 where there is none
pub record IsLast (n : ℕ) (keys : List (List ℕ)) (s at upto : ℕ) : Type 0 where
  pub within : at ≤ upto
  pub own : (p : ℕ) → p + 1 ≡ at → slot_of n (get_or keys p []) ≡ s
  pub none : (p : ℕ) → at ≤ p → p < upto → slot_of n (get_or keys p []) ≢ s

-- lists of cells, none of which stands twice, are linked in n slots: `heads` has the last place of each slot, `belows` the one before each place
pub record AreLinked (n : ℕ) (keys : List (List ℕ)) (heads belows : List ℕ) : Type 0 where
  pub some : 0 < length keys → 0 < n
  pub distinct : AllPairs (λ x y. x ≢ y) keys
  pub slots : (s : ℕ) → s < n → IsLast n keys s (get_or heads s 0) (length keys)
  pub places : (p : ℕ) → p < length keys → IsLast n keys (slot_of n (get_or keys p [])) (get_or belows p 0) p

-- the first `count` nodes are linked rows; those past them are no rows
pub record AreRows (count : ℕ) (nodes : List Link) (heads : List ℕ) : Type 0 where
  pub within : count ≤ length nodes
  pub linked : AreLinked (length heads) (keys_of (entries_of (take count nodes))) heads (belows_of (take count nodes))

-- cells that are not at `at` - 1 or before it are nowhere, and what is there is in their slot
pub record IsSought (n : ℕ) (keys : List (List ℕ)) (cells : List ℕ) (at : ℕ) : Type 0 where
  pub within : at ≤ length keys
  pub own : (p : ℕ) → p + 1 ≡ at → slot_of n (get_or keys p []) ≡ slot_of n cells
  pub none : (p : ℕ) → at ≤ p → p < length keys → get_or keys p [] ≢ cells

-- the row at a place has the cells, and none before it has
pub record IsFirst (entries : List (List ℕ × ℕ)) (cells : List ℕ) (place : ℕ) : Type 0 where
  pub within : place < length entries
  pub stands : get_or (keys_of entries) place [] ≡ cells
  pub first : (p : ℕ) → p < place → get_or (keys_of entries) p [] ≢ cells
