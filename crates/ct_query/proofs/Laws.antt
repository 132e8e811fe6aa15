-- One more commit, one more action.
use Rattle.std.{proofs.Common.{◌≡◌, suc, Bool, true, false, List, [], ◌∷◌, ◌++◌, length, refl, ap, ◌∙◌, sym}, proofs.lemmas.List.{append-nil, append_assoc}}
use Rattle.std.specs.Prelude.{Option, Some, option_and_then, if◌then◌else◌}
use Rattle.ct_word.{specs.Value.World, specs.Change.{PlainChange, PlainCommit}}
use Rattle.ct_query.{specs.declared.action.Read.Read, specs.Plain.PlainAction, specs.Database.Database, specs.Step.{step_change, step_action}}
use Rattle.ct_query.{specs.Worlds.{world, after_changes, after_actions, changes_of}, specs.Reads.{last, commit_writes, one_earlier}}
use Rattle.ct_query.specs.Patterns.{Patterns, patterns, pattern_changes, pattern_actions, pattern_change, pattern_action, no_patterns}

pub changes_of-snoc : (h : List PlainCommit) (c : PlainCommit) → changes_of (h ++ c ∷ []) ≡ changes_of h ++ c.changes
changes_of-snoc [] c = append-nil c.changes
changes_of-snoc (d ∷ h) c = ap (λ xs. d.changes ++ xs) (changes_of-snoc h c) ∙ sym (append_assoc d.changes (changes_of h) c.changes)

module _ (v : World) where
  pub after_changes-append : (w : Option Database) (xs ys : List PlainChange) → after_changes v w (xs ++ ys) ≡ after_changes v (after_changes v w xs) ys
  after_changes-append w [] ys = refl
  after_changes-append w (x ∷ xs) ys = after_changes-append (option_and_then (λ d. step_change v d x) w) xs ys

  after_actions-snoc : (w : Option Database) (actions : List PlainAction) (a : PlainAction)
      → after_actions v w (actions ++ a ∷ []) ≡ option_and_then (λ d. step_action v d a) (after_actions v w actions)
  after_actions-snoc w [] a = refl
  after_actions-snoc w (b ∷ actions) a = after_actions-snoc (option_and_then (λ d. step_action v d b) w) actions a

  -- the database after one more commit
  pub world_commit : (h : List PlainCommit) (c : PlainCommit) → world v (h ++ c ∷ []) [] ≡ after_changes v (world v h []) c.changes
  world_commit h c = ap (after_changes v (Some [])) (changes_of-snoc h c) ∙ after_changes-append (Some []) (changes_of h) c.changes

  -- the database after one more action
  pub world_action : (h : List PlainCommit) (actions : List PlainAction) (a : PlainAction)
      → world v h (actions ++ a ∷ []) ≡ option_and_then (λ d. step_action v d a) (world v h actions)
  world_action h actions a = after_actions-snoc (after_changes v (Some []) (changes_of h)) actions a

pub pattern_changes-append : (p : Patterns) (xs ys : List PlainChange) → pattern_changes p (xs ++ ys) ≡ pattern_changes (pattern_changes p xs) ys
pattern_changes-append p [] ys = refl
pattern_changes-append p (x ∷ xs) ys = pattern_changes-append (pattern_change p x) xs ys

pattern_actions-snoc : (p : Patterns) (actions : List PlainAction) (a : PlainAction)
    → pattern_actions p (actions ++ a ∷ []) ≡ pattern_action (pattern_actions p actions) a
pattern_actions-snoc p [] a = refl
pattern_actions-snoc p (b ∷ actions) a = pattern_actions-snoc (pattern_action p b) actions a

-- the patterns after one more commit
pub patterns_commit : (h : List PlainCommit) (c : PlainCommit) → patterns (h ++ c ∷ []) [] ≡ pattern_changes (patterns h []) c.changes
patterns_commit h c = ap (pattern_changes no_patterns) (changes_of-snoc h c) ∙ pattern_changes-append no_patterns (changes_of h) c.changes

-- the patterns after one more action
pub patterns_action : (h : List PlainCommit) (actions : List PlainAction) (a : PlainAction)
    → patterns h (actions ++ a ∷ []) ≡ pattern_action (patterns h actions) a
patterns_action h actions a = pattern_actions-snoc (pattern_changes no_patterns (changes_of h)) actions a

last_if : (h : List PlainCommit) (c : PlainCommit) (r : Read) (b : Bool) → commit_writes c r ≡ b
    → last (h ++ c ∷ []) r ≡ (if b then suc (length h) else last h r)
last_if [] c r true e = ap (λ b. if b then 1 else 0) e
last_if [] c r false e = ap (λ b. if b then 1 else 0) e
last_if (d ∷ h) c r true e = ap (λ m. one_earlier m (commit_writes d r)) (last_if h c r true e)
last_if (d ∷ h) c r false e = ap (λ m. one_earlier m (commit_writes d r)) (last_if h c r false e)

-- the last writer after one more commit
pub last_commit : (h : List PlainCommit) (c : PlainCommit) (r : Read)
    → last (h ++ c ∷ []) r ≡ (if commit_writes c r then suc (length h) else last h r)
last_commit h c r = last_if h c r (commit_writes c r) refl
