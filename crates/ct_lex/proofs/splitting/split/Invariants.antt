use Rattle.std.proofs.Common.{◌≡◌, ◌++◌, length, map}
use Rattle.ct_lex.specs.Texts.{texts}
use denote.{Text.Utf8, Shadow.shadow}
use Rattle.ct_lex.proofs.splitting.split.Given as goal

abbrev pub invariant-loop-texts : goal.invariant-loop-texts
invariant-loop-texts l = shadow (Utf8 l.rest) × (texts l.script ≡ map (λ t. t.now) l.texts.items ++ texts l.rest)

abbrev pub decreases-loop-texts : goal.decreases-loop-texts
decreases-loop-texts l = length l.rest
