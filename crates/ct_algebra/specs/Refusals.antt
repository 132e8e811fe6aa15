-- What the evaluation of a query refuses where an operator refuses.
use Rattle.ct_operators.specs.declared.error.TableError.{TableError}
use Rattle.ct_operators.specs.declared.error.TableError.TheVariants as fault
use Rattle.ct_algebra.specs.declared.error.EvalError.{EvalError}
use Rattle.ct_algebra.specs.declared.error.EvalError.TheVariants as refusal

-- a full log and want of memory stay what they are
abbrev pub refusal_of : TableError → EvalError
refusal_of fault.Full = refusal.Full
refusal_of fault.Memory = refusal.Memory
