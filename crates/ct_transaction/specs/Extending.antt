-- A transaction that has read more.
use Rattle.std.specs.Prelude.{List}
use Rattle.ct_query.specs.declared.action.Read.{Read}
use Rattle.ct_query.specs.Reads.{with_reads}
use Rattle.ct_transaction.specs.State.{Transaction}

-- a transaction that has read these too
abbrev pub having_read : List Read → Transaction → Transaction
having_read more t = record t { reads = with_reads t.reads more }
