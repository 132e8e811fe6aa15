use Rattle.std.{proofs.Common.{◌≡◌, map, take}, specs.Prelude.string_bytes}
use Rattle.ct_csv.proofs.writing.views.Given as goal

abbrev pub invariant-loop-field : goal.invariant-loop-field
invariant-loop-field l = map (λ f. f.now) l.views.items ≡ map string_bytes (take l.field-index l.fields)
