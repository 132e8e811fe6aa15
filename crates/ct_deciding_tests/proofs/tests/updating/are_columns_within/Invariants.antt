use Rattle.std.{proofs.Common.take, specs.Prelude.All}
use Rattle.ct_deciding_tests.proofs.Updated.{IsWithin}
use Rattle.ct_deciding_tests.proofs.tests.updating.are_columns_within.Given as goal

abbrev pub invariant-loop-word : goal.invariant-loop-word
invariant-loop-word l = All (IsWithin l.width) (take l.word-index l.words)
