-- What is spelled by all of the lexemes.
use Rattle.std.specs.Prelude.{List, []}
use Rattle.ct_lex.specs.declared.token.Lexeme.{Lexeme}
use Rattle.ct_parse.specs.declared.tree.Condition.{Condition}
use Rattle.ct_parse.specs.declared.tree.Statement.{Statement}
use Rattle.ct_parse.specs.declared.error.ParseError.{ParseError}
use Rattle.ct_parse.specs.declared.error.ParseError.TheVariants as fault
use Rattle.ct_parse.specs.declared.error.Unread.{Unread}
use Rattle.ct_parse.specs.declared.error.Unread.TheVariants as unread
use Rattle.ct_parse.specs.Grammar.{IsCondition, IsStatement}

-- the lexemes spell the condition, and no more follow
abbrev pub SpellsCondition : List Lexeme → Condition → Type 0
SpellsCondition ws c = IsCondition ws c []

-- the lexemes spell the statement, and no more follow
abbrev pub Spells : List Lexeme → Statement → Type 0
Spells ws st = IsStatement ws st []

-- the error that an unread part is answered with
abbrev pub error_of : Unread → ParseError
error_of (unread.NotSpelled _) = fault.NotAStatement
error_of unread.Memory = fault.Memory
