-- The complete database that a history and further actions make under one valuation.
use Rattle.std.specs.Prelude.{Bool, List, [], ◌∷◌, flat_map, Option, Some, is_some, option_and_then}
use Rattle.ct_word.specs.Value.{World}
use Rattle.ct_word.specs.Change.{PlainChange, PlainCommit}
use Rattle.ct_query.specs.Plain.{PlainAction}
use Rattle.ct_query.specs.Database.{Database}
use Rattle.ct_query.specs.Step.{step_change, step_action}

-- the changes one after another; none stays none
abbrev pub after_changes : World → Option Database → List PlainChange → Option Database
after_changes v w [] = w
after_changes v w (x ∷ xs) = after_changes v (option_and_then (λ d. step_change v d x) w) xs

-- the actions one after another; none stays none
abbrev pub after_actions : World → Option Database → List PlainAction → Option Database
after_actions v w [] = w
after_actions v w (x ∷ xs) = after_actions v (option_and_then (λ d. step_action v d x) w) xs

-- all changes of a history, in order
abbrev pub changes_of : List PlainCommit → List PlainChange
changes_of h = flat_map (λ c. c.changes) h

-- the database after all changes of the history and then the actions, from the one without tables
abbrev pub world : World → List PlainCommit → List PlainAction → Option Database
world v h actions = after_actions v (after_changes v (Some []) (changes_of h)) actions

-- whether the history and the actions admit a valuation
abbrev pub admits : World → List PlainCommit → List PlainAction → Bool
admits v h actions = is_some (world v h actions)
