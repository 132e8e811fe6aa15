use Rattle.ct_word.proofs.Prefixes.{prefix_of_prefix}
use Rattle.ct_deciding_tests.proofs.tests.updating.columns.Goals as goal

pub returns : goal.returns
returns g c = prefix_of_prefix _ _ _ c.in_ok-a.ensures.longer c.in_ok-b.ensures.longer
