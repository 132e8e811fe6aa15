-- When the changes of a commit agree with the actions of a transaction.
use Rattle.std.specs.Prelude.{◌≡◌, List, [], ◌∷◌, ◌++◌, map, is_some, All, IfSome, ⊤}
use Rattle.ct_word.specs.Value.{World}
use Rattle.ct_word.specs.Condition.{Condition, holds_at, SameTruth}
use Rattle.ct_word.specs.Sublist.{IsSublist}
use Rattle.ct_word.specs.Change.{PlainChange, Create, Insert, Delete, Update, Assert, PlainCommit}
use Rattle.ct_query.specs.Plain.{PlainAction}
use Rattle.ct_query.specs.Plain as plain
use Rattle.ct_query.specs.Database.{SameSet}
use Rattle.ct_query.specs.Rows.{rows}
use Rattle.ct_query.specs.Step.{shown_rows, step_action}
use Rattle.ct_query.specs.Worlds.{world}
use Rattle.ct_query.specs.Patterns.{pattern}

-- one truth at every valuation, without a row
abbrev pub SameTruthAlone : Condition → Condition → Type 0
SameTruthAlone c d = (v : World) → holds_at v c ≡ holds_at v d

-- a condition holds, at every valuation that is admitted after a history and earlier actions, exactly where an action keeps the database
abbrev pub HoldsWhereKept : List PlainCommit → List PlainAction → PlainAction → Condition → Type 0
HoldsWhereKept h before a c = (v : World) → IfSome (world v h before) (λ w. holds_at v c ≡ is_some (step_action v w a))

-- a change agrees with an action that comes after a history and earlier actions
abbrev pub AgreesWith : List PlainCommit → List PlainAction → PlainAction → PlainChange → Type 0
AgreesWith h before (plain.Create name columns) (Create name' columns') = (name' ≡ name) × (columns' ≡ columns)
AgreesWith h before (plain.InsertRows name rs p) (Insert name' rs') =
    (name' ≡ name) × (map (λ r. r.cells) rs' ≡ rs) × All (λ r. SameTruthAlone r.condition p) rs'
AgreesWith h before (plain.InsertQuery name q) (Insert name' rs') =
    (name' ≡ name) × IsSublist (map (λ r. r.cells) rs') (pattern h before q)
    × ((v : World) → IfSome (world v h before) (λ w. SameSet (shown_rows v rs') (rows v q w)))
AgreesWith h before (plain.Delete name p) (Delete name' c) = (name' ≡ name) × SameTruth c p
AgreesWith h before (plain.Update name sets p) (Update name' sets' c) = (name' ≡ name) × (sets' ≡ sets) × SameTruth c p
AgreesWith h before (plain.Assert p) (Assert c) = SameTruthAlone c p
AgreesWith h before (plain.AssertQuery wanted q) (Assert c) = HoldsWhereKept h before (plain.AssertQuery wanted q) c
AgreesWith h before (plain.AssertKey name columns) (Assert c) = HoldsWhereKept h before (plain.AssertKey name columns) c
AgreesWith h before _ _ = ⊥

-- each change agrees with its action, and there are as many
abbrev pub AgreesAfter : List PlainCommit → List PlainAction → List PlainAction → List PlainChange → Type 0
AgreesAfter h before [] [] = ⊤
AgreesAfter h before (a ∷ actions) (x ∷ changes) = AgreesWith h before a x × AgreesAfter h (before ++ a ∷ []) actions changes
AgreesAfter h before _ _ = ⊥

-- the changes agree with the actions after a history
abbrev pub Agrees : List PlainCommit → List PlainAction → List PlainChange → Type 0
Agrees h actions changes = AgreesAfter h [] actions changes
