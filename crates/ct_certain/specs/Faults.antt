-- What errors come of.
use Rattle.std.specs.Prelude.{Bool, true, false, Result, Err}
use Rattle.ct_decide.specs.declared.error.DecideError.{DecideError}
use Rattle.ct_decide.specs.declared.error.DecideError.TheVariants as decide
use Rattle.ct_operators.specs.declared.error.TableError.{TableError}
use Rattle.ct_operators.specs.declared.error.TableError.TheVariants as table
use Rattle.ct_certain.specs.declared.error.CertainError.{CertainError}
use Rattle.ct_certain.specs.declared.error.CertainError.TheVariants as fault

-- the error where a question is not decided
abbrev pub fault_of : DecideError → CertainError
fault_of decide.Memory = fault.Memory

-- the error where an operator on tables makes none
abbrev pub table_fault : TableError → CertainError
table_fault table.Full = fault.Full
table_fault table.Memory = fault.Memory

-- whether a call was refused since the log was full
abbrev pub is_full : {T : Type 0} → Result T CertainError → Bool
is_full (Err fault.Full) = true
is_full _ = false
