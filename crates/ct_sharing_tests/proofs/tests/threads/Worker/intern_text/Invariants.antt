use Rattle.std.{proofs.Common.{◌<◌, ◌^◌}, specs.Prelude.IsTrue}
use Rattle.ct_word.specs.WellFormed.{is_place_of}
use Rattle.ct_word.specs.declared.kinds.Class.TheVariants as class
use Rattle.ct_sharing_tests.proofs.tests.threads.Worker.intern_text.Given as goal

abbrev pub invariant-loop-k : goal.invariant-loop-k
invariant-loop-k g l = record {
  place : IsTrue (is_place_of l.self.pass.words class.Text l.end);
  small : l.end < 2 ^ 28;
}
