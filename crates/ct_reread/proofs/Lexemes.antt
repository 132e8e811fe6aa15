-- Which lexemes texts spell that are put together of parts.
use Rattle.std.proofs.Common.{◌≡◌, ℕ, ◌+◌, List, [], ◌∷◌, ◌++◌, length, refl, ap, sym, ◌∙◌, subst, append_assoc, Some, None, IsFalse, codes}
use Rattle.ct_lex.{specs.declared.token.Lexeme.Lexeme, specs.declared.token.Token.Token, specs.Tokens.{LexesFrom, ended, skipped, taken}}
use Rattle.ct_lex.specs.Spelling.{Spells, blank, word, left_paren, right_paren, equal, unequal, starts, is_word_byte}
use Rattle.ct_parse.specs.Grammar.{said}
use Rattle.ct_lex.specs.declared.token.Lexeme.TheVariants as lexeme
use Rattle.ct_lex.specs.declared.token.Symbol.TheVariants as symbol

-- the lexemes that bytes spell, without their places
pub data AreLexemes : List ℕ → List Lexeme → Type 0 where
  none_left : AreLexemes [] []
  passed : {x : List ℕ} {ls : List Lexeme} (w r : List ℕ) → x ≡ w ++ r → Spells w None r → AreLexemes r ls → AreLexemes x ls
  met : {x : List ℕ} {ls : List Lexeme} (w r : List ℕ) (l : Lexeme) → x ≡ w ++ r → Spells w (Some l) r → AreLexemes r ls → AreLexemes x (l ∷ ls)

-- with their places they are tokens
pub placed : {x : List ℕ} {ls : List Lexeme} (n : ℕ) → AreLexemes x ls → (ts : List Token) × LexesFrom n x ts × (said ts ≡ ls)
placed n none_left = ([], ended, refl)
placed n (passed w r is spells more) = let rest = placed (n + length w) more in (rest.0, skipped w r is spells rest.1, rest.2)
placed n (met w r l is spells more) =
    let rest = placed (n + length w) more in
    (record { word = l; start = n; end = n + length w } ∷ rest.0, taken w r l is spells rest.1, ap (λ ks. l ∷ ks) rest.2)

pub moved : {x y : List ℕ} {ls ks : List Lexeme} → x ≡ y → ls ≡ ks → AreLexemes y ks → AreLexemes x ls
moved {x} {y} {ls} {ks} e f more = subst (λ z. AreLexemes z ls) (sym e) (subst (λ ms. AreLexemes y ms) (sym f) more)

-- what may follow a part of a condition: nothing, a blank or a closing parenthesis
pub data Stops : List ℕ → Type 0 where
  at_end : Stops []
  at_blank : {r : List ℕ} → Stops (32 ∷ r)
  at_parenthesis : {r : List ℕ} → Stops (41 ∷ r)

-- a text spells lexemes before whatever may follow it
abbrev pub Gives : List ℕ → List Lexeme → Type 0
Gives w ls = (r : List ℕ) (ks : List Lexeme) → Stops r → AreLexemes r ks → AreLexemes (w ++ r) (ls ++ ks)

-- a text spells one lexeme before whatever may follow it
abbrev pub GivesOne : List ℕ → Lexeme → Type 0
GivesOne w l = (r : List ℕ) → Stops r → Spells w (Some l) r

pub gives_one : (w : List ℕ) (l : Lexeme) → GivesOne w l → Gives w (l ∷ [])
gives_one w l spells r ks stops more = met w r l refl (spells r stops) more

pub word_stops : (r : List ℕ) → Stops r → IsFalse (starts is_word_byte r)
word_stops [] at_end = refl
word_stops (b ∷ r) at_blank = refl
word_stops (b ∷ r) at_parenthesis = refl

pub true_given : GivesOne (codes "true") (lexeme.Word (codes "true"))
true_given r stops = word refl (word_stops r stops)

pub false_given : GivesOne (codes "false") (lexeme.Word (codes "false"))
false_given r stops = word refl (word_stops r stops)

-- a text that begins with a blank spells this lexeme before whatever follows
abbrev pub Joins : List ℕ → Lexeme → Type 0
Joins b l = (r : List ℕ) (ks : List Lexeme) → AreLexemes r ks → AreLexemes (32 ∷ b ++ r) (l ∷ ks)

pub joins_and : Joins (codes "and ") (lexeme.Word (codes "and"))
joins_and r ks more =
    passed (32 ∷ []) (codes "and " ++ r) refl (blank refl)
    (met (codes "and") (32 ∷ r) (lexeme.Word (codes "and")) refl (word refl refl) (passed (32 ∷ []) r refl (blank refl) more))

pub joins_or : Joins (codes "or ") (lexeme.Word (codes "or"))
joins_or r ks more =
    passed (32 ∷ []) (codes "or " ++ r) refl (blank refl)
    (met (codes "or") (32 ∷ r) (lexeme.Word (codes "or")) refl (word refl refl) (passed (32 ∷ []) r refl (blank refl) more))

pub joins_equal : Joins (codes "= ") (lexeme.Symbol symbol.Equal)
joins_equal r ks more =
    passed (32 ∷ []) (codes "= " ++ r) refl (blank refl) (met (codes "=") (32 ∷ r) (lexeme.Symbol symbol.Equal) refl equal (passed (32 ∷ []) r refl (blank refl) more))

pub joins_unequal : Joins (codes "<> ") (lexeme.Symbol symbol.Unequal)
joins_unequal r ks more =
    passed (32 ∷ []) (codes "<> " ++ r) refl (blank refl) (met (codes "<>") (32 ∷ r) (lexeme.Symbol symbol.Unequal) refl unequal (passed (32 ∷ []) r refl (blank refl) more))

-- a term, a sign and a term
pub gives_compared : (a b w : List ℕ) (l m k : Lexeme) → GivesOne a l → Joins b k → GivesOne w m → Gives (a ++ (32 ∷ b) ++ w) (l ∷ k ∷ m ∷ [])
gives_compared a b w l m k left sign right r ks stops more =
    moved (append_assoc (a ++ 32 ∷ b) w r ∙ append_assoc a (32 ∷ b) (w ++ r)) refl
    (met a (32 ∷ b ++ (w ++ r)) l refl (left (32 ∷ b ++ (w ++ r)) at_blank) (sign (w ++ r) (m ∷ ks) (met w r m refl (right r stops) more)))

-- whatever follows a text may follow what stands before it
abbrev pub Begins : List ℕ → Type 0
Begins w = (r : List ℕ) → Stops r → Stops (w ++ r)

-- one part, and others behind it
pub gives_both : (p o : List ℕ) (ls ms : List Lexeme) → Gives p ls → Begins o → Gives o ms → Gives (p ++ o) (ls ++ ms)
gives_both p o ls ms part begins others r ks stops more =
    moved (append_assoc p o r) (append_assoc ls ms ks) (part (o ++ r) (ms ++ ks) (begins r stops) (others r ks stops more))

-- a word between blanks, one part, and others behind it
pub gives_next : (b p o : List ℕ) (k : Lexeme) (ls ms : List Lexeme) → Joins b k → Gives p ls → Begins o → Gives o ms → Gives ((32 ∷ b) ++ p ++ o) (k ∷ (ls ++ ms))
gives_next b p o k ls ms joins part begins others r ks stops more =
    moved (append_assoc ((32 ∷ b) ++ p) o r ∙ append_assoc (32 ∷ b) p (o ++ r)) (ap (λ ns. k ∷ ns) (append_assoc ls ms ks))
    (joins (p ++ (o ++ r)) (ls ++ (ms ++ ks)) (part (o ++ r) (ms ++ ks) (begins r stops) (others r ks stops more)))

-- a text in parentheses
pub gives_nested : (w : List ℕ) (ls : List Lexeme) → Gives w ls → Gives (codes "(" ++ w ++ codes ")") (lexeme.Symbol symbol.LeftParen ∷ (ls ++ lexeme.Symbol symbol.RightParen ∷ []))
gives_nested w ls inner r ks stops more =
    met (40 ∷ []) ((w ++ 41 ∷ []) ++ r) (lexeme.Symbol symbol.LeftParen) refl left_paren
    (moved (append_assoc w (41 ∷ []) r) (append_assoc ls (lexeme.Symbol symbol.RightParen ∷ []) ks)
    (inner (41 ∷ r) (lexeme.Symbol symbol.RightParen ∷ ks) at_parenthesis (met (41 ∷ []) r (lexeme.Symbol symbol.RightParen) refl right_paren more)))
