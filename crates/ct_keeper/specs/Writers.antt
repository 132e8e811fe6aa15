-- The last commits that changed what is read, as a keeper has them.
use Rattle.std.specs.Prelude.{ℕ, nat_eq, Bool, List, [], ◌∷◌, Option, Some, None}
use Rattle.std.specs.Cmp.Lexicographic.{pointwise}
use Rattle.std.specs.List.{list_any}
use Rattle.indexmap.specs.IndexMap.{get}
use Rattle.ct_word.specs.Value.{same_text}
use Rattle.ct_query.specs.declared.action.Read.{Read}
use Rattle.ct_query.specs.declared.action.Read.TheVariants as read
use Rattle.ct_history.specs.declared.written.Written.{Written}
use Rattle.ct_history.specs.declared.written.Written.TheVariants as written
use Rattle.ct_keeper.specs.declared.writers.Writers.{Writers}

-- a number, or 0
abbrev pub or_none : Option ℕ → ℕ
or_none None = 0
or_none (Some n) = n

-- the number that stands for what is read
abbrev pub last_in : Writers → Read → ℕ
last_in w (read.Table name) = or_none (get (pointwise nat_eq) w.tables name)
last_in w read.Worlds = w.worlds

-- whether a commit that changed tables of these names, and asserts something or not, changed what is read
abbrev pub is_written : List (List ℕ) → Bool → Read → Bool
is_written names asserts (read.Table name) = list_any (λ n. same_text n name) names
is_written names asserts read.Worlds = asserts

-- the name of the table that a change writes; none for an assertion
abbrev pub names_in : Written → List (List ℕ)
names_in (written.Create name columns) = name ∷ []
names_in (written.Insert name rows) = name ∷ []
names_in (written.Delete name cond) = name ∷ []
names_in (written.Update name sets cond) = name ∷ []
names_in (written.Assert cond) = []
