-- What two histories of the same commits have in common: nothing tells conditions of one truth apart.
use Rattle.std.specs.Prelude.{◌≡◌, ℕ, Bool, List, length, take}
use Rattle.ct_word.specs.declared.values.Value.{Value}
use Rattle.ct_word.specs.Value.{World}
use Rattle.ct_word.specs.Change.{PlainChange, PlainCommit}
use Rattle.ct_word.specs.StandsFor.{SameChanges, SameCommits}
use Rattle.ct_query.specs.Plain.{PlainQuery, PlainAction}
use Rattle.ct_query.specs.declared.action.Read.{Read}
use Rattle.ct_query.specs.Worlds.{world, admits}
use Rattle.ct_query.specs.Schema.{schema}
use Rattle.ct_query.specs.Patterns.{pattern, count}
use Rattle.ct_query.specs.Reads.{last}
use Rattle.ct_query.specs.Agrees.{Agrees}
use Rattle.ct_query.specs.Shows.{ShowsAt}

-- what is true after one history is true after the other
pub record Keeps (g h : List PlainCommit) : Type 0 where
  pub worlds : (v : World) (actions : List PlainAction) → world v g actions ≡ world v h actions
  pub admitted : (v : World) (actions : List PlainAction) → admits v g actions ≡ admits v h actions
  pub schemas : (actions : List PlainAction) → schema g actions ≡ schema h actions
  pub patterns : (actions : List PlainAction) (q : PlainQuery) → pattern g actions q ≡ pattern h actions q
  pub counts : (actions : List PlainAction) (t : List ℕ) → count g actions t ≡ count h actions t
  pub last : (r : Read) → last g r ≡ last h r
  pub agreed : (actions : List PlainAction) (xs ys : List PlainChange) → SameChanges xs ys → Agrees g actions xs → Agrees h actions ys
  pub shown : (allowed : Bool) (shown : List (List Value)) (q : PlainQuery) (actions : List PlainAction) (v : World)
      → ShowsAt allowed shown q g actions v → ShowsAt allowed shown q h actions v

-- two histories of the same commits keep everything, and so do the first commits of both
pub record KeepsThroughout (g h : List PlainCommit) : Type 0 where
  pub length : length g ≡ length h
  pub first : (m : ℕ) → SameCommits (take m g) (take m h)
  pub keeps : (m : ℕ) → Keeps (take m g) (take m h)
  pub whole : Keeps g h
