-- Lists in parentheses, whose items are one lexeme each.
use Rattle.std.proofs.Common.{◌≡◌, ℕ, ◌≤◌, max, List, [], ◌∷◌, ◌++◌, flat_map, refl, ap, append_assoc, arith, Some, codes}
use Rattle.std.specs.List.{AllZip}
use Rattle.ct_lex.{specs.declared.token.Lexeme.Lexeme, specs.Spelling.{Spells, left_paren, right_paren, comma}}
use Rattle.ct_lex.specs.declared.token.Lexeme.TheVariants as lexeme
use Rattle.ct_lex.specs.declared.token.Symbol.TheVariants as symbol
use Rattle.ct_parse.specs.Grammar.{AreMore, no_more, one_more, IsClosed, closed}
use Rattle.ct_parse.specs.Nest.{nest_from, set_operators}
use Rattle.ct_print.specs.TermText.{in_parentheses, with_commas}
use Rattle.ct_imports.proofs.Spelled.{AreSpelled, nothing, blank_first, one_first, IsFree, free_comma, free_close}
use Rattle.ct_imports.proofs.Calm.{IsCalm, ClosesLevel, closes_here, closes_later, IsShallow}

-- a text is one lexeme, which is an item
pub record IsOne {T : Type 0} (X : List Lexeme → T → List Lexeme → Type 0) (text : List ℕ) (item : T) : Type 0 where
  pub word : Lexeme
  pub given : (r : List ℕ) → IsFree r → Spells text (Some word) r
  pub is_item : (r : List Lexeme) → X (word ∷ r) item r
  pub calm : IsCalm word

-- what stands behind the first item
record AreOthers {T : Type 0} (X : List Lexeme → T → List Lexeme → Type 0) (text : List ℕ) (items : List T) : Type 0 where
  lexemes : List Lexeme
  free : (r : List ℕ) → IsFree (text ++ r)
  given : (r : List ℕ) → AreSpelled text lexemes r
  are_more : (r : List Lexeme) → AreMore X (lexemes ++ r) items (lexeme.Symbol symbol.RightParen ∷ r)
  closes : ClosesLevel lexemes

-- a text is a list in parentheses; whatever may follow it
pub record IsList {T : Type 0} (X : List Lexeme → T → List Lexeme → Type 0) (text : List ℕ) (items : T × List T) : Type 0 where
  pub lexemes : List Lexeme
  pub given : (r : List ℕ) → AreSpelled text lexemes r
  pub is_list : (r : List Lexeme) → IsClosed X (lexemes ++ r) items r
  pub within : (ks : List Lexeme) → nest_from [] 0 (lexemes ++ ks) ≤ max 1 (nest_from [] 0 ks)
  pub operators : (ks : List Lexeme) → set_operators (lexemes ++ ks) ≡ set_operators ks

-- it stands before shallow lexemes
pub list_shallow : {T : Type 0} (X : List Lexeme → T → List Lexeme → Type 0) (text : List ℕ) (items : T × List T) (ks : List Lexeme) (l : IsList X text items) → IsShallow ks → IsShallow (l.lexemes ++ ks)
list_shallow X text items ks l h = record { nests = let n = h.nests in omega (arith, l.within ks); operators = rw (l.operators ks) h.operators }

module _ {A T : Type 0} (f : A → List ℕ) (X : List Lexeme → T → List Lexeme → Type 0) where
  -- the texts behind the first, and the closing parenthesis
  abbrev tail : List A → List ℕ
  tail xs = flat_map (λ y. codes ", " ++ f y) xs ++ codes ")"

  others : (xs : List A) (items : List T) → AllZip (λ x item. IsOne X (f x) item) xs items → AreOthers X (tail xs) items
  others [] [] h = record {
    lexemes = lexeme.Symbol symbol.RightParen ∷ [];
    free = λ r. free_close;
    given = λ r. one_first (41 ∷ []) [] (lexeme.Symbol symbol.RightParen) refl right_paren nothing;
    are_more = λ r. no_more;
    closes = closes_here;
  }
  others [] (item ∷ items) h = absurd h
  others (x ∷ xs) [] h = absurd h
  others (x ∷ xs) (item ∷ items) h =
      let one = h.0 in
      let rest = others xs items h.1 in
      let whole : tail (x ∷ xs) ≡ 44 ∷ 32 ∷ f x ++ tail xs = ap (λ y. 44 ∷ 32 ∷ y) (append_assoc (f x) (flat_map (λ y. codes ", " ++ f y) xs) (codes ")")) in
      record {
        lexemes = lexeme.Symbol symbol.Comma ∷ one.word ∷ rest.lexemes;
        free = λ r. free_comma;
        given = λ r.
            one_first (44 ∷ []) (32 ∷ f x ++ tail xs) (lexeme.Symbol symbol.Comma) whole comma
            (blank_first refl (one_first (f x) (tail xs) one.word refl (one.given (tail xs ++ r) (rest.free r)) (rest.given r)));
        are_more = λ r. one_more (one.is_item (rest.lexemes ++ r)) (rest.are_more r);
        closes = closes_later (lexeme.Symbol symbol.Comma) (one.word ∷ rest.lexemes) (record { stays = refl; joins_nothing = refl }) (closes_later one.word rest.lexemes one.calm rest.closes);
      }

  pub list : (x : A) (xs : List A) (item : T) (items : List T) → IsOne X (f x) item → AllZip (λ y i. IsOne X (f y) i) xs items → IsList X (in_parentheses (with_commas f (x ∷ xs))) (item, items)
  list x xs item items one h =
      let rest = others xs items h in
      let whole : in_parentheses (with_commas f (x ∷ xs)) ≡ 40 ∷ f x ++ tail xs = ap (λ y. 40 ∷ y) (append_assoc (f x) (flat_map (λ y. codes ", " ++ f y) xs) (codes ")")) in
      record {
        lexemes = lexeme.Symbol symbol.LeftParen ∷ one.word ∷ rest.lexemes;
        given = λ r.
            one_first (40 ∷ []) (f x ++ tail xs) (lexeme.Symbol symbol.LeftParen) whole left_paren
            (one_first (f x) (tail xs) one.word refl (one.given (tail xs ++ r) (rest.free r)) (rest.given r));
        is_list = λ r. closed (one.is_item (rest.lexemes ++ r)) (rest.are_more r);
        within = λ ks. rw one.calm.stays (omega (arith, rest.closes.within 0 1 [] ks));
        operators = λ ks. rw one.calm.joins_nothing (rest.closes.operators ks);
      }
