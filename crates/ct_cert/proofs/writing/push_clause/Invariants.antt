use Rattle.std.{proofs.Common.{◌≡◌, true, ◌++◌, take, flat_map}, specs.Prelude.string_bytes, specs.List.list_all}
use Rattle.ct_cert.{specs.Text.lit_text, specs.Ranges.lit_fits}
use Rattle.ct_cert.proofs.writing.push_clause.Given as goal

abbrev pub invariant-loop-literal : goal.invariant-loop-literal
invariant-loop-literal l =
    (string_bytes l.out ≡ string_bytes l.initial.out ++ flat_map lit_text (take l.literal-index l.clause))
    × (list_all lit_fits (take l.literal-index l.clause) ≡ true)
