-- What the private functions find at the front of a text.
use Rattle.std.specs.Prelude.{ℕ, ◌<◌, Bool, not, nat_eq, List, take, drop, Option}
use Rattle.std.specs.Str.{IsCharBoundary}
use Rattle.ct_word.specs.Writable.{is_digit}
use Rattle.ct_lex.specs.declared.scan.Class.{Class}
use Rattle.ct_lex.specs.declared.scan.Class.TheVariants.{Word, Digit, NotQuote, Comment}
use Rattle.ct_lex.specs.declared.token.Lexeme.{Lexeme}
use Rattle.ct_lex.specs.Spelling.{is_word_byte, is_comment_byte, Spells}

-- whether a byte is of the class
abbrev pub class_test : Class → ℕ → Bool
class_test Word = is_word_byte
class_test Digit = is_digit
class_test NotQuote = λ b. not (nat_eq b 39)
class_test Comment = is_comment_byte

-- the first n bytes are one token, or a blank or comment, and a text may be cut behind them
pub record IsFront (text : List ℕ) (n : ℕ) (o : Option Lexeme) : Type 0 where
  pub some : 0 < n
  pub cut : IsCharBoundary text n
  pub spells : Spells (take n text) o (drop n text)
