-- How deep the lexemes of a list in parentheses nest, and that they have no set operators.
use Rattle.std.proofs.Common.{◌≡◌, ℕ, zero, suc, ◌<◌, ◌≤◌, max, Bool, true, false, not, List, [], ◌∷◌, ◌++◌, length, get_or, refl, arith, codes, nat_lt}
use Rattle.std.{specs.List.list_any, proofs.lemmas.Bool.{and_parts, not-true, Decides.nat_tests}}
use Rattle.ct_word.specs.{Names.{keywords, is_word, is_name}, Value.same_text}
use Rattle.ct_lex.specs.declared.token.Lexeme.{Lexeme}
use Rattle.ct_lex.specs.declared.token.Lexeme.TheVariants as lexeme
use Rattle.ct_lex.specs.declared.token.Symbol.TheVariants as symbol
use Rattle.ct_parse.specs.Nest.{turn_of, nest_from, nest, is_set_operator, set_operators, is_too_deep}
use Rattle.ct_parse.specs.declared.nest.Turn.TheVariants.{Stays}

-- a lexeme that nests nothing and is no set operator
pub record IsCalm (l : Lexeme) : Type 0 where
  pub stays : turn_of l ≡ Stays
  pub joins_nothing : is_set_operator l ≡ false

-- lexemes end the level in which they stand, and open none before; n is the count in front, m that where the level was opened
pub record ClosesLevel (ls : List Lexeme) : Type 0 where
  pub within : (m n : ℕ) (opened : List ℕ) (ks : List Lexeme) → nest_from (m ∷ opened) n (ls ++ ks) ≤ max n (nest_from opened m ks)
  pub operators : (ks : List Lexeme) → set_operators (ls ++ ks) ≡ set_operators ks

pub closes_here : ClosesLevel (lexeme.Symbol symbol.RightParen ∷ [])
closes_here = record { within = λ m n opened ks. omega arith; operators = λ ks. refl }

pub closes_later : (l : Lexeme) (ls : List Lexeme) → IsCalm l → ClosesLevel ls → ClosesLevel (l ∷ ls)
closes_later l ls calm rest = record {
  within = λ m n opened ks. rw calm.stays (omega (arith, rest.within m n opened ks));
  operators = λ ks. rw calm.joins_nothing (rest.operators ks);
}

-- a name is no keyword
none_at : {A : Type 0} (p : A → Bool) (xs : List A) (i : ℕ) (d : A) → list_any p xs ≡ false → i < length xs → p (get_or xs i d) ≡ false
none_at p [] i d h less = absurd (omega arith)
none_at p (x ∷ xs) zero d h less = grind arith
none_at p (x ∷ xs) (suc i) d h less =
    let rest : list_any p xs ≡ false = grind arith in
    none_at p xs i d rest (omega arith)

pub name_calm : (n : List ℕ) → is_name n ≡ true → IsCalm (lexeme.Word n)
name_calm n h =
    let none : list_any (same_text n) keywords ≡ false = not-true (list_any (same_text n) keywords) (and_parts (is_word n) (not (list_any (same_text n) keywords)) h).1 in
    let keyword = λ (i : ℕ) (less : i < 34). none_at (same_text n) keywords i [] none less in
    let is_not : same_text n (codes "not") ≡ false = keyword 19 (omega arith) in
    let is_and : same_text n (codes "and") ≡ false = keyword 0 (omega arith) in
    let is_or : same_text n (codes "or") ≡ false = keyword 22 (omega arith) in
    let is_union : same_text n (codes "union") ≡ false = keyword 29 (omega arith) in
    let is_except : same_text n (codes "except") ≡ false = keyword 9 (omega arith) in
    let is_intersect : same_text n (codes "intersect") ≡ false = keyword 16 (omega arith) in
    record { stays = rw (is_not, is_and, is_or); joins_nothing = rw (is_union, is_except, is_intersect) }

-- lexemes within both bounds
pub record IsShallow (ls : List Lexeme) : Type 0 where
  pub nests : nest ls ≤ 64
  pub operators : set_operators ls ≤ 64

-- a calm lexeme in front
pub calm_before : (l : Lexeme) (ls : List Lexeme) → IsCalm l → IsShallow ls → IsShallow (l ∷ ls)
calm_before l ls calm h = record { nests = rw calm.stays (let n = h.nests in omega arith); operators = rw calm.joins_nothing h.operators }

pub word_calm : (w : List ℕ) → turn_of (lexeme.Word w) ≡ Stays → is_set_operator (lexeme.Word w) ≡ false → IsCalm (lexeme.Word w)
word_calm w stays none = record { stays = stays; joins_nothing = none }

pub not_deep : (ls : List Lexeme) → IsShallow ls → is_too_deep ls ≡ false
not_deep ls h =
    let one : nat_lt 64 (nest ls) ≡ false = let n = h.nests in grind (arith, nat_tests) in
    let other : nat_lt 64 (set_operators ls) ≡ false = let n = h.operators in grind (arith, nat_tests) in
    rw (one, other)

pub shallow : (ls : List Lexeme) → is_too_deep ls ≡ false → IsShallow ls
shallow ls h =
    let one : nat_lt 64 (nest ls) ≡ false = grind arith in
    let other : nat_lt 64 (set_operators ls) ≡ false = grind arith in
    record { nests = grind (arith, nat_tests); operators = grind (arith, nat_tests) }
