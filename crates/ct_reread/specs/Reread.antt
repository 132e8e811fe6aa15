-- What the text of a term and that of a condition are read as.
use Rattle.std.specs.Prelude.{◌≡◌, ℕ, ◌≤◌, Bool, false, not, ◌&&◌, List, [], ◌∷◌, length, Ok, IsTrue}
use Rattle.std.specs.List.{list_all}
use Rattle.ct_word.specs.declared.values.Term.{Term}
use Rattle.ct_word.specs.Condition.{Condition, SameTruth}
use Rattle.ct_word.specs.Names.{is_name}
use Rattle.ct_lex.specs.declared.token.Lexeme.{Lexeme}
use Rattle.ct_lex.specs.declared.token.Lexeme.TheVariants.{Word}
use Rattle.ct_lex.specs.declared.token.Token.{Token}
use Rattle.ct_lex.specs.Tokens.{Lexes}
use Rattle.ct_parse.specs.declared.tree.Condition as written
use Rattle.ct_parse.specs.declared.tree.Term as parsed
use Rattle.ct_parse.specs.Grammar.{said, IsTerm}
use Rattle.ct_parse.specs.Parses.{SpellsCondition}
use Rattle.ct_parse.specs.Nest.{nest, is_set_operator}
use Rattle.ct_rewrite.specs.Sizes.{NoneIsEmpty, text_of, nest_of, wide}
use Rattle.ct_resolve.specs.Conditions.{condition_at, term_at}

-- a form keeps to the bound on a condition's bytes, whatever texts the terms have
abbrev pub KeepsWithin : Condition → Condition → Type 0
KeepsWithin form c = (texts : Term → List ℕ) → NoneIsEmpty texts → length (text_of texts form) ≤ wide (λ t. length (texts t)) c

-- whether a lexeme is a name
abbrev pub is_name_word : Lexeme → Bool
is_name_word (Word n) = is_name n
is_name_word _ = false

-- whether a lexeme is neither a name nor a set operator
abbrev pub is_inner : Lexeme → Bool
is_inner l = not (is_name_word l) && not (is_set_operator l)

-- a text is one token, which is read as this term
pub record IsOneToken (text : List ℕ) (t : Term) : Type 0 where
  pub token : Token
  pub tree : parsed.Term
  pub lexes : Lexes text (token ∷ [])
  pub spells : IsTerm (token.word ∷ []) tree []
  pub means : term_at [] tree ≡ Ok t

-- the tokens of a text spell a condition of this one's truth; they nest no deeper, and none is a name or a set operator
pub record IsReadAs (text : List ℕ) (c : Condition) : Type 0 where
  pub tokens : List Token
  pub tree : written.Condition
  pub found : Condition
  pub lexes : Lexes text tokens
  pub spells : SpellsCondition (said tokens) tree
  pub means : condition_at [] tree ≡ Ok found
  pub same : SameTruth found c
  pub shallow : nest (said tokens) ≤ nest_of c
  pub inner : IsTrue (list_all is_inner (said tokens))
