use Rattle.std.{proofs.Common.{ℕ, ◌-◌, ◌++◌, List, length, drop}, specs.Str.IsCharBoundary}
use Rattle.ct_lex.{specs.declared.token.LexError.LexError, specs.declared.token.Token.Token, specs.Tokens.{LexesFrom, Lexes, FaultsFrom, FaultsAt}}
use Rattle.ct_lex.proofs.lexing.tokens.Given as goal

abbrev pub invariant-loop-start : goal.invariant-loop-start
invariant-loop-start l =
    IsCharBoundary l.text l.start × ((ts : List Token) → LexesFrom l.start (drop l.start l.text) ts → Lexes l.text (l.tokens.items ++ ts))
    × ((place : ℕ) (e : LexError) → FaultsFrom l.start (drop l.start l.text) place e → FaultsAt l.text place e)

abbrev pub decreases-loop-start : goal.decreases-loop-start
decreases-loop-start l = length l.text - l.start
