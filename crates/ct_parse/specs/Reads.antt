-- What a reader of the front of lexemes has found.
use Rattle.std.specs.Prelude.{◌≡◌, ◌≤◌, List, length}
use Rattle.ct_lex.specs.declared.token.Lexeme.{Lexeme}

-- the front of ws spells t and leaves r; of all fronts that are not to go on, this one alone is spelled
pub record Reads {T : Type 0} (R : List Lexeme → T → List Lexeme → Type 0) (E : List Lexeme → Type 0) (ws : List Lexeme) (t : T) (r : List Lexeme) : Type 0 where
  pub is : R ws t r
  pub only : (t' : T) (r' : List Lexeme) → E r' → R ws t' r' → (t' ≡ t) × (r' ≡ r)
  pub within : length r ≤ length ws

-- no front of ws that is not to go on spells anything
abbrev pub Never : {T : Type 0} → (List Lexeme → T → List Lexeme → Type 0) → (List Lexeme → Type 0) → List Lexeme → Type 0
Never {T} R E ws = (t : T) (r : List Lexeme) → E r → R ws t r → ⊥
