use Rattle.std.{proofs.Common.{◌≡◌, true, ◌++◌, take, map, flat_map}, specs.Prelude.string_bytes, specs.List.list_all}
use Rattle.ct_cert.{specs.Text.proof_text, specs.Ranges.proof_fits}
use Rattle.ct_cert.proofs.writing.push_proofs.Given as goal

abbrev pub invariant-loop-proof : goal.invariant-loop-proof
invariant-loop-proof l =
    (string_bytes l.out ≡ string_bytes l.initial.out ++ flat_map proof_text (take l.proof-index (map (λ p. p.now) l.proofs)))
    × (list_all proof_fits (take l.proof-index (map (λ p. p.now) l.proofs)) ≡ true)
