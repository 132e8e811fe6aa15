use Rattle.std.proofs.Common.{subst}
use Rattle.ct_csv.specs.Refusing.{Refuses}
use Rattle.ct_run.{specs.Imports.refused, proofs.Behind.none_held}
use Rattle.ct_run.proofs.importing.table_of.Goals as goal

pub returns-clause-none : goal.returns-clause-none
returns-clause-none g c = λ is.
    none_held _ c.args.csv.now c.in_ok-bytes.bytes.items c.in_ok-bytes.ensures.held
    (refused c.in-Err.why (c.unserved_by.ensures.script is) (subst (λ b. Refuses b c.in-Err.why) c.as_slice.ensures.value c.in-Err.ensures.error))
