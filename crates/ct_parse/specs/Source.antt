-- The source of a SELECT: what stands behind its items, which has a reader of its own.
use Rattle.std.specs.Prelude.{Option, List, ◌∷◌, codes}
use Rattle.ct_lex.specs.declared.token.Lexeme.{Lexeme}
use Rattle.ct_lex.specs.declared.token.Lexeme.TheVariants.{Word}
use Rattle.ct_parse.specs.declared.tree.Condition.{Condition}
use Rattle.ct_parse.specs.declared.tree.Tables.{Tables}
use Rattle.ct_parse.specs.Grammar.{AreTables, HasCondition}

-- FROM from [WHERE cond]
pub data IsSource : List Lexeme → Tables × Option Condition → List Lexeme → Type 0 where
  source : {ws m r : List Lexeme} {t : Tables} {c : Option Condition} → AreTables ws t m → HasCondition (codes "where") m c r → IsSource (Word (codes "from") ∷ ws) (t, c) r
