use Rattle.std.{proofs.Common.{◌≡◌, ℕ, List, map, take}, specs.List.list_any}
use Rattle.ct_word.specs.Value.{same_text}
use Rattle.ct_query.specs.Reads.{writes}
use Rattle.ct_history.specs.Written.{plain_written}
use Rattle.ct_query.specs.declared.action.Read.TheVariants as read
use Rattle.ct_keeper.proofs.writers.written_names.Given as goal

abbrev pub invariant-loop-change : goal.invariant-loop-change
invariant-loop-change l = (words t : List ℕ) → list_any (λ n. same_text n t) l.names.items ≡ list_any (λ x. writes x (read.Table t)) (map (plain_written words) (take l.change-index l.changes))
