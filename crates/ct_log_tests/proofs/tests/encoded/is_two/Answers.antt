use Rattle.ct_word.proofs.Prefixes.{place_in_prefix}
use Rattle.ct_word.specs.declared.kinds.Class.TheVariants as class
use Rattle.ct_log_tests.proofs.tests.encoded.is_two.Goals as goal

pub eq-requires-clause-right : goal.eq-requires-clause-right
eq-requires-clause-right g c = place_in_prefix c.placed.new.pass.words c.placed-2.new.pass.words class.Term c.in_ok-two.two c.in_ok-x.ensures.longer c.in_ok-two.ensures.place
