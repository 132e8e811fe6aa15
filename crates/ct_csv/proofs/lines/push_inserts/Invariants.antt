use Rattle.std.{proofs.Common.{◌≡◌, ◌<◌, ◌≤◌, ◌-◌, ◌++◌, ℕ, [], map, take, drop}, specs.Prelude.{flat_map, string_bytes, slice_index_or}}
use Rattle.csv.specs.Records.{fields_of}
use Rattle.ct_csv.{specs.Script.insert_line, specs.Refusing.AreRight}
use Rattle.ct_csv.proofs.lines.push_inserts.Given as goal

abbrev pub invariant-loop-i : goal.invariant-loop-i
invariant-loop-i l =
    (1 ≤ l.i) × (string_bytes l.out ≡ string_bytes l.initial.out ++ flat_map (insert_line l.name) (take (l.i - 1) (drop 1 (map fields_of l.records))))
    × ((j : ℕ) → 1 ≤ j → j < l.i → AreRight (slice_index_or (map fields_of l.records) j []))
