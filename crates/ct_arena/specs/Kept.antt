-- What the types of a pass, a guest and the keeper's pass keep of their fields.
use Rattle.std.specs.Prelude.{◌≡◌, ℕ, ◌≤◌, List, [], Option, Some, None}
use mathlib.Core.List.{IsPrefix}
use Rattle.atomic_table.specs.Table.{Me}
use Rattle.atomic_table.specs.Seated.{TableId}
use Rattle.ct_chain.specs.Seen.{Chained}
use Rattle.ct_arena.specs.Name.{LogName}
use Rattle.ct_arena.specs.Counts.{IsLog, AreOfSessions}
use Rattle.ct_arena.specs.Own.{IsOwn}
use Rattle.ct_arena.specs.Sharing.{session_view, keeper_view}
use Rattle.ct_arena.specs.declared.sharing.View.{View}
use Rattle.ct_arena.specs.declared.tally.Tally.{Tally}

-- the log has a capacity within its bounds, and its table is this one
pub record IsNamed (log : LogName) (id : TableId) : Type 0 where
  pub least : 64 ≤ log.cap
  pub most : log.cap ≤ 4194304
  pub table : id ≡ log.table

-- a pass knows its own list and counts
pub record IsPass (log : LogName) (table : TableId) (me : Me ℕ View) (t : Tally) (words : List ℕ) : Type 0 where
  pub named : IsNamed log table
  pub seat : me ≡ (session_view words (Some t), [])
  pub own : IsOwn log.cap t words

-- the keeper's pass knows its own list, how many were enrolled, and its guest
pub record IsKeeper (log : LogName) (table : TableId) (me : Me ℕ View) (words : List ℕ) (enrolled : ℕ) (guest : Option Tally) : Type 0 where
  pub named : IsNamed log table
  pub seat : me ≡ (keeper_view log.cap words enrolled guest me.0.ended, [])
  pub list : IsLog log.cap words
  pub most : enrolled ≤ 1023
  pub known : AreOfSessions enrolled words
  pub own : (t : Tally) → guest ≡ Some t → IsOwn log.cap t words × (t.session ≤ enrolled)

-- the keeper's list: that of its guest while one is entered, else its own
abbrev pub list_of : List ℕ → Option Chained → List ℕ
list_of own None = own
list_of own (Some list) = list.words

-- the guest's list is there while a guest is entered, and the keeper's own list is a front of it
abbrev pub IsLent : ℕ → List ℕ → Option Tally → Option Chained → Type 0
IsLent cap own (Some _) (Some list) = (list.room ≡ cap) × IsPrefix own list.words
IsLent cap own None None = Unit {0}
IsLent cap own _ _ = ⊥
