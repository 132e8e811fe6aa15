-- Why the keeper made no commit.
use Rattle.std.specs.Prelude.{Bool, true, false, Result, Err}
use Rattle.ct_operators.specs.declared.error.TableError.{TableError}
use Rattle.ct_operators.specs.declared.error.TableError.TheVariants as table
use Rattle.ct_keeper.specs.declared.error.KeeperError.{KeeperError}
use Rattle.ct_keeper.specs.declared.error.KeeperError.TheVariants as fault

-- what the keeper makes of a table's refusal
abbrev pub table_fault : TableError → KeeperError
table_fault table.Full = fault.Full
table_fault table.Memory = fault.Memory

-- whether a call was refused since the log was full
abbrev pub is_full : {T : Type 0} → Result T KeeperError → Bool
is_full (Err fault.Full) = true
is_full _ = false
