use Rattle.std.{proofs.Common.{◌≡◌, ◌+◌, ◌++◌, length, map}}
use denote.{Text.Utf8, Shadow.shadow}
use Rattle.ct_lex.specs.Texts.{pieces}
use Rattle.ct_remarks.specs.Standing.{placed_of, placed_from, placed}
use Rattle.ct_remarks.proofs.places.statement_texts.Given as goal

abbrev pub invariant-loop-texts : goal.invariant-loop-texts
invariant-loop-texts l =
    shadow (Utf8 l.rest) × (l.at + length l.rest ≡ length l.script)
    × (map placed_of l.texts.items ++ placed_from l.at (pieces l.rest) ≡ placed l.script)

abbrev pub decreases-loop-texts : goal.decreases-loop-texts
decreases-loop-texts l = length l.rest
