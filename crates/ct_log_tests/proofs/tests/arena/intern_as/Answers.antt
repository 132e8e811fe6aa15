use Rattle.std.{proofs.Common.{arith, subst, sym}, specs.Prelude.IsTrue}
use Rattle.ct_word.{specs.WellFormed.is_plain_word, proofs.Commits.packed_plain}
use Rattle.ct_log_tests.proofs.tests.arena.intern_as.Goals as goal

pub intern-requires-clause-word : goal.intern-requires-clause-word
intern-requires-clause-word g c =
    subst (λ w. IsTrue (is_plain_word c.args.keeper.now.words w)) (sym c.pack.ensures.word) (packed_plain c.args.keeper.now.words c.args.of 0 0 (omega arith) (omega arith) c.requires.formed c.requires.plain)
