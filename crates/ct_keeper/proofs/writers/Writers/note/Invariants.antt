use Rattle.std.{proofs.Common.{◌≡◌, ◌≤◌, ◌+◌, ℕ, List, nat_eq, if◌then◌else◌, length, take}, specs.Cmp.Lexicographic.pointwise, specs.List.list_any}
use Rattle.indexmap.specs.IndexMap.{get, spare}
use Rattle.ct_word.specs.Value.{same_text}
use Rattle.ct_keeper.specs.Writers.{or_none}
use Rattle.ct_keeper.proofs.writers.Writers.note.Given as goal

abbrev pub invariant-loop-name : goal.invariant-loop-name
invariant-loop-name l =
    ((t : List ℕ) → or_none (get (pointwise nat_eq) l.self.tables t)
    ≡ (if list_any (λ n. same_text n t) (take (length l.yielded) l.fn.names.items) then l.number else or_none (get (pointwise nat_eq) l.initial.self.tables t)))
    × (length l.fn.names.items ≤ length l.yielded + spare l.self.tables) × (l.self.worlds ≡ l.initial.self.worlds)
