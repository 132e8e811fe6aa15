use Rattle.std.{proofs.Common.{◌≡◌, length, map}, specs.List.list_any}
use Rattle.ct_word.specs.Value.{same_text}
use Rattle.ct_parse.proofs.names.contains.Given as goal

abbrev pub invariant-loop-rest : goal.invariant-loop-rest
invariant-loop-rest l = list_any (same_text l.word) (map (λ w. w.now) l.rest) ≡ list_any (same_text l.word) (map (λ w. w.now) l.words)

abbrev pub decreases-loop-rest : goal.decreases-loop-rest
decreases-loop-rest l = length l.rest
