-- A printed history with its conditions as trees.
use Rattle.std.specs.Prelude.{Bool, true, List, map, IsTrue}
use Rattle.std.specs.List.{list_all}
use Rattle.ct_word.specs.Change.{PlainRow, PlainChange, Create, Insert, Delete, Update, Assert, PlainCommit}
use Rattle.ct_rewrite.specs.declared.answer.Node.{Node}
use Rattle.ct_rewrite.specs.declared.answer.AnswerRow.{AnswerRow}
use Rattle.ct_rewrite.specs.declared.history.Change.{Change}
use Rattle.ct_rewrite.specs.declared.history.Change.TheVariants as change
use Rattle.ct_rewrite.specs.declared.history.Commit.{Commit}
use Rattle.ct_rewrite.specs.Nodes.{node_condition, IsOrdered, is_position}

-- a row whose condition is a position in a node list
abbrev pub plain_row : List Node → AnswerRow → PlainRow
plain_row nodes r = record { cells = r.cells; condition = node_condition nodes r.cond }

-- a change whose conditions are positions in a node list
abbrev pub plain_change : List Node → Change → PlainChange
plain_change nodes (change.Create name columns) = Create name columns
plain_change nodes (change.Insert name rs) = Insert name (map (plain_row nodes) rs)
plain_change nodes (change.Delete name c) = Delete name (node_condition nodes c)
plain_change nodes (change.Update name sets c) = Update name sets (node_condition nodes c)
plain_change nodes (change.Assert c) = Assert (node_condition nodes c)

-- a commit, its conditions being positions in its own node list
abbrev pub plain_commit : Commit → PlainCommit
plain_commit c = record { session = c.session; number = c.number; changes = map (plain_change c.nodes) c.changes }

-- a history
abbrev pub plain_history : List Commit → List PlainCommit
plain_history cs = map plain_commit cs

-- whether a change's conditions are positions in a node list
abbrev pub is_change_placed : List Node → Change → Bool
is_change_placed nodes (change.Create name columns) = true
is_change_placed nodes (change.Insert name rs) = list_all (λ r. is_position nodes r.cond) rs
is_change_placed nodes (change.Delete name c) = is_position nodes c
is_change_placed nodes (change.Update name sets c) = is_position nodes c
is_change_placed nodes (change.Assert c) = is_position nodes c

-- children stand before their parents, and every condition is a position
pub record IsCommitFormed (c : Commit) : Type 0 where
  pub ordered : IsOrdered c.nodes
  pub placed : IsTrue (list_all (is_change_placed c.nodes) c.changes)
