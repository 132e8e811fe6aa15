use Rattle.std.specs.Prelude.{All, ◌≤◌, length}
use Rattle.ct_lex.specs.Texts.{texts}
use Rattle.ct_program_tests.proofs.tests.played.scripts_of.Given as goal

abbrev pub invariant-loop-text : goal.invariant-loop-text
invariant-loop-text g l = All (λ script. length (texts script) ≤ 65535) l.scripts.items
