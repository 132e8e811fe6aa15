-- How a script is cut into statement texts, as a relation.
use Rattle.std.specs.Prelude.{◌≡◌, ℕ, Bool, not, ◌||◌, List, [], ◌∷◌, ◌++◌, nat_eq, IsTrue, IsFalse}
use Rattle.std.specs.List.{list_all}
use Rattle.ct_lex.specs.Spelling.{is_comment_byte, starts}
use Rattle.ct_lex.specs.Texts.{begins_comment, texts}
use Rattle.ct_lex.specs.Tokens.{Lexes}

-- any byte but a quote
abbrev pub is_no_quote : ℕ → Bool
is_no_quote b = not (nat_eq b 39)

-- x has no `;` outside text literals and comments, where r follows; a doubled quote is two literals side by side
pub data IsPiece : List ℕ → List ℕ → Type 0 where
  ended : {r : List ℕ} → IsPiece [] r
  literal : {x y r : List ℕ} (t : List ℕ) → IsTrue (list_all is_no_quote t) → x ≡ (39 ∷ t ++ 39 ∷ []) ++ y → IsPiece y r → IsPiece x r
  open_literal : {x : List ℕ} (t : List ℕ) → IsTrue (list_all is_no_quote t) → x ≡ 39 ∷ t → IsPiece x []
  comment : {x y r : List ℕ} (c : List ℕ) → IsTrue (list_all is_comment_byte c) → IsFalse (starts is_comment_byte (y ++ r)) → x ≡ (45 ∷ 45 ∷ c) ++ y
      → IsPiece y r → IsPiece x r
  other : {b : ℕ} {y r : List ℕ} → IsFalse (nat_eq b 59 || nat_eq b 39 || begins_comment b (y ++ r)) → IsPiece y r → IsPiece (b ∷ y) r

-- the piece x before the texts ts: it is skipped exactly where it has no tokens
pub data Keeps : List ℕ → List (List ℕ) → List (List ℕ) → Type 0 where
  kept : {x : List ℕ} {ts : List (List ℕ)} → (Lexes x [] → ⊥) → Keeps x ts (x ∷ ts)
  skipped : {x : List ℕ} {ts : List (List ℕ)} → Lexes x [] → Keeps x ts ts

-- the statement texts of a script: its pieces, joined by `;`, without those that have no tokens
pub data Splits : List ℕ → List (List ℕ) → Type 0 where
  last : {x : List ℕ} {ts : List (List ℕ)} → IsPiece x [] → Keeps x [] ts → Splits x ts
  cut : {script : List ℕ} {ts us : List (List ℕ)} (x r : List ℕ) → script ≡ x ++ 59 ∷ r → IsPiece x (59 ∷ r) → Splits r ts → Keeps x ts us → Splits script us

-- the law: the relation holds of the texts of the definition, and of these alone
abbrev pub SplitsTexts : Type 0
SplitsTexts = (script : List ℕ) → Splits script (texts script) × ((ts : List (List ℕ)) → Splits script ts → ts ≡ texts script)
