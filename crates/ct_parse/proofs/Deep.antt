-- What the walk over nests shows.
use Rattle.std.{proofs.Common.{◌≡◌, ◌<◌, ℕ, true, List, [], ◌∷◌, nat_lt, arith}, proofs.lemmas.Bool.lt-ltb}
use Rattle.ct_lex.specs.declared.token.Lexeme.{Lexeme}
use Rattle.ct_parse.specs.Nest.{DEPTH, nest_from, count_after, opened_after, turn_of}

deep : (opened : List ℕ) (n : ℕ) (ws : List Lexeme) → DEPTH < n → DEPTH < nest_from opened n ws
deep opened n [] lt = lt
deep opened n (w ∷ ws) lt = omega (arith, lt)

-- the nest is too great where the count is after the next lexeme
pub deep_behind : (opened : List ℕ) (n : ℕ) (w : Lexeme) (ws : List Lexeme) → DEPTH < count_after opened n (turn_of w) → nat_lt DEPTH (nest_from opened n (w ∷ ws)) ≡ true
deep_behind opened n w ws lt =
    let d : DEPTH < nest_from (opened_after opened n (turn_of w)) (count_after opened n (turn_of w)) ws = deep _ _ ws lt in
    lt-ltb _ _ (omega (arith, d))
