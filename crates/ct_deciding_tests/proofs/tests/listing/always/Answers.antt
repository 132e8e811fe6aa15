use Rattle.std.proofs.Common.{subst}
use Rattle.ct_word.specs.Stands.{HasNoColumn}
use Rattle.ct_deciding_tests.proofs.tests.listing.always.Goals as goal

pub returns-clause-plain : goal.returns-clause-plain
returns-clause-plain g c = subst (λ words. HasNoColumn words 0) c.words-now.ensures.words (c.no_columns.ensures c.if-not-no_columns.false 0)
