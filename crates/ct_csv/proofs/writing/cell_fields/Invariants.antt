use Rattle.std.{proofs.Common.{◌≡◌, map, take}, specs.Prelude.string_bytes}
use Rattle.ct_word.specs.Reading.{term_at}
use Rattle.ct_csv.specs.Exported.{renamed_text}
use Rattle.ct_csv.proofs.writing.cell_fields.Given as goal

abbrev pub invariant-loop-place : goal.invariant-loop-place
invariant-loop-place l = map string_bytes l.fields.items ≡ map (renamed_text l.underscores) (map (term_at l.words) (take l.place-index l.cells))
