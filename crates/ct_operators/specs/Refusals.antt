-- Whether the log was full.
use Rattle.std.specs.Prelude.{Bool, true, false, Result, Err}
use Rattle.ct_operators.specs.declared.error.TableError.{TableError}
use Rattle.ct_operators.specs.declared.error.TableError.TheVariants as fault

-- whether a call was refused since the log was full
abbrev pub is_full : {T : Type 0} → Result T TableError → Bool
is_full (Err fault.Full) = true
is_full _ = false
