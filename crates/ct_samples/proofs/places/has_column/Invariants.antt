use Rattle.std.{proofs.Common.{◌≡◌, take, false}, specs.List.list_any}
use Rattle.ct_word.specs.Word.{kind_of}
use Rattle.ct_samples.specs.Columns.{is_column_kind}
use Rattle.ct_samples.proofs.places.has_column.Given as goal

abbrev pub invariant-loop-word : goal.invariant-loop-word
invariant-loop-word l = list_any (λ w. is_column_kind (kind_of w)) (take l.word-index l.words) ≡ false
