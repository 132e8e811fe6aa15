-- Which texts are read as which statement, and why a text is read as none.
use Rattle.std.specs.Prelude.{ℕ, List, IsTrue, IsFalse}
use Rattle.ct_lex.specs.declared.token.Token.{Token}
use Rattle.ct_lex.specs.declared.token.Lexeme.{Lexeme}
use Rattle.ct_lex.specs.declared.token.LexError.{LexError}
use Rattle.ct_lex.specs.declared.token.LexError.TheVariants as lexical
use Rattle.ct_lex.specs.Tokens.{Lexes, FaultsAt}
use Rattle.ct_lex.specs.Written.{AreWritten}
use Rattle.ct_parse.specs.declared.error.ParseError.{ParseError}
use Rattle.ct_parse.specs.declared.error.ParseError.TheVariants as grammatical
use Rattle.ct_parse.specs.declared.tree.Statement.{Statement}
use Rattle.ct_parse.specs.Grammar.{said}
use Rattle.ct_parse.specs.Nest.{is_too_deep}
use Rattle.ct_parse.specs.Parses.{Spells}
use Rattle.ct_transcript.specs.declared.reply.Refusal.{Refusal}
use Rattle.ct_transcript.specs.declared.reply.Refusal.TheVariants as refusal

-- a text is read as a statement: it has tokens, which are not too deep and spell it
pub record ReadsAs (text : List ℕ) (st : Statement) : Type 0 where
  pub tokens : List Token
  pub lexes : Lexes text tokens
  pub shallow : IsFalse (is_too_deep (said tokens))
  pub spells : Spells (said tokens) st

-- a statement is spelled by lexemes as a text writes them
pub record IsWritten (st : Statement) : Type 0 where
  pub lexemes : List Lexeme
  pub written : AreWritten lexemes
  pub spells : Spells lexemes st

-- the leftmost fault of a text is this one
abbrev pub HasFault : List ℕ → LexError → Type 0
HasFault text e = (place : ℕ) × FaultsAt text place e

-- a text has tokens, which are too deep
pub record IsTooDeep (text : List ℕ) : Type 0 where
  pub tokens : List Token
  pub lexes : Lexes text tokens
  pub deep : IsTrue (is_too_deep (said tokens))

-- a text has tokens, which are not too deep and spell no statement
pub record IsUnspelled (text : List ℕ) : Type 0 where
  pub tokens : List Token
  pub lexes : Lexes text tokens
  pub shallow : IsFalse (is_too_deep (said tokens))
  pub none : (st : Statement) → Spells (said tokens) st → ⊥

-- why a text is read as no statement: its leftmost fault, else that it is too deep, else that its tokens spell none
pub data IsTextFault (text : List ℕ) : Refusal → Type 0 where
  number_range : HasFault text lexical.NumberRange → IsTextFault text refusal.NumberRange
  open_text : HasFault text lexical.OpenText → IsTextFault text refusal.NotAStatement
  stray_byte : HasFault text lexical.StrayByte → IsTextFault text refusal.NotAStatement
  too_deep : IsTooDeep text → IsTextFault text refusal.TooDeep
  unspelled : IsUnspelled text → IsTextFault text refusal.NotAStatement

-- the refusal of a text without tokens
abbrev pub lexical_refusal : LexError → Refusal
lexical_refusal lexical.OpenText = refusal.NotAStatement
lexical_refusal lexical.StrayByte = refusal.NotAStatement
lexical_refusal lexical.NumberRange = refusal.NumberRange
lexical_refusal lexical.Memory = refusal.Memory

-- the refusal of tokens that spell no statement
abbrev pub grammatical_refusal : ParseError → Refusal
grammatical_refusal grammatical.NotAStatement = refusal.NotAStatement
grammatical_refusal grammatical.TooDeep = refusal.TooDeep
grammatical_refusal grammatical.Memory = refusal.Memory
