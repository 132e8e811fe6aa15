-- Tokens as they are looked for.
use Rattle.std.specs.Prelude.{◌≡◌, ℕ, Bool, false, List, [], nat_eq, IsTrue}
use Rattle.std.specs.List.{list_any}
use Rattle.ct_lex.specs.declared.token.Lexeme.TheVariants as lexical
use Rattle.ct_lex.specs.declared.token.Lexeme.{Lexeme}
use Rattle.ct_lex.specs.declared.token.Token.{Token}

-- the word that a lexeme is, or an empty text
abbrev pub said_word : Lexeme → List ℕ
said_word (lexical.Word text) = text
said_word _ = []

-- the word that a token is, or an empty text
abbrev pub word_of : Token → List ℕ
word_of t = said_word t.word

-- whether a lexeme is a text with a line end in it
abbrev pub breaks : Lexeme → Bool
breaks (lexical.Text text) = list_any (nat_eq 10) text
breaks _ = false

-- a token is a text with a line end in it, and starts at the place
pub record IsBrokenAt (place : ℕ) (t : Token) : Type 0 where
  pub start : t.start ≡ place
  pub breaks : IsTrue (breaks t.word)

-- a token is this word, and starts at the place
pub record IsWordAt (word : List ℕ) (place : ℕ) (t : Token) : Type 0 where
  pub start : t.start ≡ place
  pub said : word_of t ≡ word
