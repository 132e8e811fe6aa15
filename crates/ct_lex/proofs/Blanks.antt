-- A piece has more than blanks and comments exactly where it does not lex to no tokens.
use Rattle.std.proofs.Common.{◌≡◌, ℕ, ◌+◌, Bool, true, false, not, ◌||◌, List, [], ◌∷◌, ◌++◌, refl, sym, subst, ◌∙◌, ap, arith, Option, None}
use Rattle.std.{specs.Prelude.nat_eq, specs.List.list_all, proofs.lemmas.Bool.Decides.nat_tests}
use Rattle.ct_lex.{specs.Spelling.{Spells, blank, comment, starts, is_blank, is_comment_byte}, specs.Texts.{begins_comment, has_token_from, has_token}}
use Rattle.ct_lex.specs.Tokens.{LexesFrom, ended, skipped, Lexes}

blank_in_comment : (c r : List ℕ) → list_all is_comment_byte c ≡ true → has_token_from true (c ++ r) ≡ has_token_from true r
blank_in_comment [] r h = refl
blank_in_comment (b ∷ c) r h =
    let first : is_comment_byte b ≡ true = grind arith in
    let rest : list_all is_comment_byte c ≡ true = grind arith in
    ap (λ q. has_token_from q (c ++ r)) first ∙ blank_in_comment c r rest

blank_after_comment : (r : List ℕ) → starts is_comment_byte r ≡ false → has_token_from true r ≡ has_token r
blank_after_comment [] h = refl
blank_after_comment (b ∷ r) h = let is : b ≡ 10 = grind (arith, nat_tests) in rw is

-- a comment's rest, and what follows it has no tokens
record HasRest (x : List ℕ) : Type 0 where
  c : List ℕ
  r : List ℕ
  is : x ≡ c ++ r
  inside : list_all is_comment_byte c ≡ true
  ends : starts is_comment_byte r ≡ false
  lexes : (n : ℕ) → LexesFrom n r []

abbrev Unread : Bool → List ℕ → Type 0
Unread true x = HasRest x
Unread false x = (n : ℕ) → LexesFrom n x []

comment_step : (b : ℕ) (x : List ℕ) (q : Bool) → is_comment_byte b ≡ q → Unread q x → Unread true (b ∷ x)
comment_step b x true e rest = record {
  c = b ∷ rest.c;
  r = rest.r;
  is = ap (λ y. b ∷ y) rest.is;
  inside = let inner = rest.inside in grind arith;
  ends = rest.ends;
  lexes = rest.lexes;
}
comment_step b x false e rest = record {
  c = [];
  r = b ∷ x;
  is = refl;
  inside = refl;
  ends = e;
  lexes = λ n. skipped (b ∷ []) x refl (blank (grind (arith, nat_tests))) (rest (n + 1));
}

-- the second minus belongs to the comment
comment_lexes : (b : ℕ) (x c r : List ℕ) → begins_comment b x ≡ true → x ≡ c ++ r → list_all is_comment_byte c ≡ true → starts is_comment_byte r ≡ false
    → ((n : ℕ) → LexesFrom n r []) → (n : ℕ) → LexesFrom n (b ∷ x) []
comment_lexes b [] c r begins is inside ends lexes n = absurd (grind arith)
comment_lexes b (d ∷ x) [] r begins is inside ends lexes n = absurd (let seen : starts is_comment_byte (d ∷ x) ≡ false = subst (λ y. starts is_comment_byte y ≡ false) (sym is) ends in grind (arith, nat_tests))
comment_lexes b (d ∷ x) (e ∷ c) r begins is inside ends lexes n =
    let first : b ≡ 45 = grind (arith, nat_tests) in
    let second : d ≡ 45 = grind (arith, nat_tests) in
    let same : e ≡ d = cc in
    let tail : x ≡ c ++ r = cc in
    let inner : list_all is_comment_byte c ≡ true = grind arith in
    skipped (45 ∷ 45 ∷ c) r (ap (λ y. y ∷ d ∷ x) first ∙ ap (λ y. 45 ∷ y ∷ x) second ∙ ap (λ y. 45 ∷ 45 ∷ y) tail) (comment inner ends) (lexes _)

plain_step : (b : ℕ) (x : List ℕ) (q : Bool) → begins_comment b x ≡ q → has_token (b ∷ x) ≡ false → (has_token_from true x ≡ false → Unread true x)
    → (has_token_from false x ≡ false → Unread false x) → Unread false (b ∷ x)
plain_step b x true e h rest next =
    let inner : has_token_from true x ≡ false = rw e at h in
    let found = rest inner in
    comment_lexes b x found.c found.r e found.is found.inside found.ends found.lexes
plain_step b x false e h rest next =
    let both : (not (is_blank b) || has_token_from false x) ≡ false = rw e at h in
    let first : is_blank b ≡ true = grind arith in
    let behind : has_token_from false x ≡ false = grind arith in
    λ n. skipped (b ∷ []) x refl (blank first) (next behind (n + 1))

unread : (q : Bool) (x : List ℕ) → has_token_from q x ≡ false → Unread q x
unread true [] h = record { c = []; r = []; is = refl; inside = refl; ends = refl; lexes = λ n. ended }
unread false [] h = λ n. ended
unread true (b ∷ x) h = comment_step b x (is_comment_byte b) refl (unread (is_comment_byte b) x h)
unread false (b ∷ x) h = plain_step b x (begins_comment b x) refl h (unread true x) (unread false x)

pub no_tokens : (x : List ℕ) → has_token x ≡ false → Lexes x []
no_tokens x h = unread false x h 0

blank_read : (b : ℕ) (r : List ℕ) → is_blank b ≡ true → has_token r ≡ false → has_token (b ∷ r) ≡ false
blank_read b r h rest = let no_comment : nat_eq b 45 ≡ false = grind (arith, nat_tests) in rw (no_comment, h) rest

passed : {w r : List ℕ} {o : Option _} → Spells w o r → o ≡ None → has_token r ≡ false → has_token (w ++ r) ≡ false
passed (blank {b} {r} h) is rest = blank_read b r h rest
passed (comment {c} {r} inside ends) is rest = blank_in_comment c r inside ∙ blank_after_comment r ends ∙ rest
passed _ is rest = absurd cc

pub none_read : {n : ℕ} {x : List ℕ} {ts : List _} → LexesFrom n x ts → ts ≡ [] → has_token x ≡ false
none_read ended is = refl
none_read (skipped w r whole spells more) is = rw whole (passed spells refl (none_read more is))
none_read _ is = absurd cc
