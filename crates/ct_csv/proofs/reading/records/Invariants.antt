use Rattle.std.proofs.Common.{◌≡◌, ◌<◌, ℕ, List, map}
use Rattle.std.specs.Prelude.{Some, false}
use Rattle.csv.specs.Reading.{Reached, Ready, default_config, source_of, strip_bom}
use Rattle.csv.specs.Records.{fields_of}
use Rattle.csv.specs.declared.parser.State.TheVariants as st
use Rattle.csv.specs.declared.reader.Trim.TheVariants as trim
use Rattle.ct_csv.specs.Csv.{AreTexts}
use Rattle.ct_csv.proofs.Even.{Expects}
use Rattle.ct_csv.proofs.reading.records.Given as goal

abbrev pub invariant-loop-record : goal.invariant-loop-record
invariant-loop-record l =
    let reader = l.record-iterator.rdr in
    let rows = map fields_of l.records.items in
    (reader.trim ≡ trim.None) × Ready reader × (0 < l.record-iterator.left) × (reader.config ≡ default_config) × (reader.flexible ≡ false)
    × AreTexts rows × Expects reader.expected rows
    × (y : List ℕ) × (source_of (λ s. Some s.now) reader ≡ Some y) × Reached default_config st.StartRecord (strip_bom l.fn.bytes) rows reader.state y
