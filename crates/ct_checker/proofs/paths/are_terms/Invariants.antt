use Rattle.std.{proofs.Common.{◌≡◌, take, true}, specs.List.list_all}
use Rattle.ct_word.specs.WellFormed.{is_place_of}
use Rattle.ct_word.specs.declared.kinds.Class.TheVariants as class
use Rattle.ct_checker.proofs.paths.are_terms.Given as goal

abbrev pub invariant-loop-place : goal.invariant-loop-place
invariant-loop-place l = list_all (is_place_of l.words class.Term) (take l.place-index l.places) ≡ true
