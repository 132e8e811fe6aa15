-- How many words a statement makes, but those of its commit, from the counts of rows of the tables.
use Rattle.std.specs.Prelude.{◌≤◌, ◌+◌, ◌*◌, ℕ, Bool, true, false, List, [], ◌∷◌, Result, Ok, Err, ⊤}
use Rattle.ct_word.specs.Change.{PlainChange}
use Rattle.ct_query.specs.Bounds.{nodes, applying_words}
use Rattle.ct_query.specs.Fits.{width}
use Rattle.ct_query.specs.Plain as plain
use Rattle.ct_query.specs.Plain.{PlainAction}
use Rattle.ct_query.specs.Size.{row_bound}
use Rattle.ct_query.specs.declared.schema.Heading.{Heading}
use Rattle.ct_keeper.specs.Bounds.{applied_words}
use Rattle.ct_transcript.specs.declared.reply.Refusal.{Refusal}
use Rattle.ct_transcript.specs.declared.reply.Refusal.TheVariants as refusal

-- whether a refusal says that the log is full
abbrev pub says_full : Refusal → Bool
says_full refusal.Full = true
says_full _ = false

-- whether a call was refused since the log was full
abbrev pub is_full : {T : Type 0} → Result T Refusal → Bool
is_full (Ok x) = false
is_full (Err why) = says_full why

-- the widths of the tables of a schema, by their names
abbrev pub widths_in : List Heading → List ℕ → ℕ
widths_in s t = width s (plain.Table t)

-- the words of the query of an action, and of the condition that an assertion over a query or a key makes of its table, by the
-- counts of rows and the widths of tables; none for another action
abbrev pub taking_words : (List ℕ → ℕ) → (List ℕ → ℕ) → PlainAction → ℕ
taking_words counts widths (plain.InsertQuery name q) = nodes counts q
taking_words counts widths (plain.AssertQuery wanted q) = nodes counts q + 2 * row_bound counts q
taking_words counts widths (plain.AssertKey name columns) = counts name * counts name * (2 * widths name + 3)
taking_words counts widths _ = 0

-- a bound on the rows that an action takes from its query; an assertion over a query or a key takes the one of its condition
abbrev pub taken_rows : (List ℕ → ℕ) → PlainAction → ℕ
taken_rows counts (plain.InsertQuery name q) = row_bound counts q
taken_rows counts (plain.AssertQuery wanted q) = 1
taken_rows counts (plain.AssertKey name columns) = 1
taken_rows counts _ = 0

-- a change is light for its action: by these counts, and by all that are no smaller, to apply it makes no more words than are
-- counted for the action
abbrev pub IsLight : (List ℕ → ℕ) → PlainAction → PlainChange → Type 0
IsLight counts a x = (g : List ℕ → ℕ) → ((t : List ℕ) → counts t ≤ g t) → applied_words g x ≤ applying_words g a

-- each change is light for its action
abbrev pub AreLight : (List ℕ → ℕ) → List PlainAction → List PlainChange → Type 0
AreLight counts [] [] = ⊤
AreLight counts (a ∷ actions) (x ∷ changes) = IsLight counts a x × AreLight counts actions changes
AreLight counts _ _ = ⊥
