use Rattle.ct_imports.proofs.Scripts.{makes_tables}
use Rattle.ct_imports.proofs.theorems.scripts_are_statements.Goals as goal

pub returns : goal.returns
returns c = makes_tables
