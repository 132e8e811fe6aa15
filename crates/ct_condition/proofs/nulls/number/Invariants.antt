use Rattle.std.proofs.Common.{◌≡◌, ◌++◌, ℕ, List, Some}
use Rattle.ct_word.specs.WordAt.{backwards}
use Rattle.ct_condition.specs.Nulls.{Grows, beginning}
use Rattle.ct_condition.proofs.nulls.number.Given as goal

abbrev pub invariant-loop-character : goal.invariant-loop-character
invariant-loop-character l = record {
  number : (cs : List ℕ) × (l.name ≡ backwards cs ++ l.character-iterator.rest.now) × (beginning l.steps.keys cs ≡ Some l.last);
  grows : Grows l.fn.steps.keys l.steps.keys;
}
