-- Which name the bytes of a text spell.
use Rattle.std.specs.Prelude.{ℕ, List, [], Some, IsTrue}
use Rattle.ct_word.specs.Writable.{is_name}
use Rattle.ct_lex.specs.Spelling.{Spells}
use Rattle.ct_lex.specs.declared.token.Lexeme.TheVariants.{Word}

-- the whole text spells one word, and this is a name
abbrev pub SpellsName : List ℕ → List ℕ → Type 0
SpellsName text n = Spells text (Some (Word n)) [] × IsTrue (is_name n)
