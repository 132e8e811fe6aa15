-- BEGIN, COMMIT and ROLLBACK in the wrong place.
use Rattle.std.specs.Prelude.{Option, Some, None}
use Rattle.ct_parse.specs.declared.tree.Statement.{Statement}
use Rattle.ct_parse.specs.declared.tree.Statement.TheVariants as tree
use Rattle.ct_transcript.specs.declared.reply.Refusal.{Refusal}
use Rattle.ct_transcript.specs.declared.reply.Refusal.TheVariants as refusal
use Rattle.ct_transaction.specs.declared.state.Open.{Open}

-- BEGIN stands in a transaction, or COMMIT or ROLLBACK outside one, and this is its refusal
abbrev pub IsMisplaced : Option Open → Statement → Refusal → Type 0
IsMisplaced (Some o) tree.Begin refusal.InTransaction = Unit {0}
IsMisplaced None tree.Commit refusal.NoTransaction = Unit {0}
IsMisplaced None tree.Rollback refusal.NoTransaction = Unit {0}
IsMisplaced _ _ _ = ⊥
