-- Places in the text of tokens.
use Rattle.std.specs.Prelude.{◌≡◌, ℕ, List, Any}
use Rattle.ct_lex.specs.declared.token.Token.{Token}

-- one of the tokens starts at the place
abbrev pub IsStart : List Token → ℕ → Type 0
IsStart tokens place = Any (λ t. t.start ≡ place) tokens
