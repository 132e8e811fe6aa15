use Rattle.std.{proofs.Common.{◌≡◌, ℕ, ◌≤◌, ◌*◌, length, take}, specs.Prelude.IsTrue}
use Rattle.ct_rewrite.{specs.Below.{has, HasAt}, specs.Signs.IsFormAt}
use Rattle.ct_rewrite.proofs.forms.forms.Given as goal

abbrev pub invariant-loop-number : goal.invariant-loop-number
invariant-loop-number l = record {
  within : l.number-index ≤ 2 * length l.words;
  room : length l.builder ≤ l.number-index;
  places : l.forms.places ≡ l.numbers;
  long : length l.forms.positions ≡ l.number-index;
  forms : (k : ℕ) → IsTrue (has (take l.number-index l.numbers) k) → HasAt (IsFormAt l.words l.builder) l.forms k;
}
