use Rattle.std.{proofs.Common.{◌≡◌, length}, specs.List.list_any}
use Rattle.ct_lex.specs.Written.{AreWritten}
use Rattle.ct_parse.specs.Grammar.{said}
use Rattle.ct_csv.specs.Fields.{is_name_word}
use Rattle.ct_csv.proofs.fields.has_name.Given as goal

abbrev pub invariant-loop-rest : goal.invariant-loop-rest
invariant-loop-rest l = AreWritten (said l.rest) × (list_any is_name_word (said l.rest) ≡ list_any is_name_word (said l.tokens))

abbrev pub decreases-loop-rest : goal.decreases-loop-rest
decreases-loop-rest l = length l.rest
