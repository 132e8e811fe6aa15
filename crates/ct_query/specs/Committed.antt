-- What a commit does whose changes agree with actions.
use Rattle.std.specs.Prelude.{◌≡◌, List, [], ◌∷◌, ◌++◌, Option, Some, None, ⊤}
use Rattle.ct_word.specs.Value.{World}
use Rattle.ct_word.specs.Sublist.{IsSublist}
use Rattle.ct_word.specs.Change.{PlainCommit}
use Rattle.ct_query.specs.Plain.{PlainQuery, PlainAction}
use Rattle.ct_query.specs.Database.{Database, SameDatabase}
use Rattle.ct_query.specs.Worlds.{world, admits}
use Rattle.ct_query.specs.Schema.{schema}
use Rattle.ct_query.specs.Patterns.{pattern}

-- two complete databases of the same tables with the same sets of tuples, or none and none
abbrev pub SameWorld : Option Database → Option Database → Type 0
SameWorld None None = ⊤
SameWorld (Some a) (Some b) = SameDatabase a b
SameWorld _ _ = ⊥

-- a commit after a history does what the actions do there; its patterns are, in order, a part of theirs
pub record Does (h : List PlainCommit) (actions : List PlainAction) (c : PlainCommit) : Type 0 where
  pub worlds : (v : World) → SameWorld (world v h actions) (world v (h ++ c ∷ []) [])
  pub admitted : (v : World) → admits v h actions ≡ admits v (h ++ c ∷ []) []
  pub schemas : schema h actions ≡ schema (h ++ c ∷ []) []
  pub patterns : (q : PlainQuery) → IsSublist (pattern (h ++ c ∷ []) [] q) (pattern h actions q)
