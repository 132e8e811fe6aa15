-- The pieces of a script, one after another, and their first tokens.
use Rattle.std.proofs.Common.{◌≡◌, ℕ, suc, ◌+◌, ◌<◌, ◌≤◌, Bool, true, false, List, [], ◌∷◌, ◌++◌, length, drop, refl, sym, ap, ◌∙◌, arith, append_assoc, append-nil}
use Rattle.std.{specs.Prelude.{map, nat_lt}, proofs.lemmas.List.map-append, proofs.lemmas.Bool.Decides.nat_tests}
use Rattle.ct_lex.specs.{Spelling.{is_blank, is_comment_byte}, Texts.{begins_comment, has_token_from, has_token, pieces, pieces_behind}}
use Rattle.ct_remarks.specs.Standing.{lead_from, lead, PlacedText, placed_text, placed_piece, placed_from, placed_of}
use Rattle.ct_remarks.specs.declared.places.Placed.{Placed}

further : (n m : ℕ) (q : Bool) → nat_lt n m ≡ q → q ≡ nat_lt (n + 1) (suc m)
further n m true e = grind (arith, nat_tests)
further n m false e = grind (arith, nat_tests)

behind_none : (m : ℕ) (q : Bool) → nat_lt 0 (suc m) ≡ q → true ≡ q
behind_none m true e = refl
behind_none m false e = absurd (grind (arith, nat_tests))

outside : (b : ℕ) (r : List ℕ) (p q : Bool) → begins_comment b r ≡ p → is_blank b ≡ q → has_token_from true r ≡ nat_lt (lead_from true r) (length r)
    → has_token_from false r ≡ nat_lt (lead_from false r) (length r) → has_token_from false (b ∷ r) ≡ nat_lt (lead_from false (b ∷ r)) (length (b ∷ r))
outside b r true q e f inner outer = rw e (inner ∙ further _ _ _ refl)
outside b r false true e f inner outer = rw (e, f) (outer ∙ further _ _ _ refl)
outside b r false false e f inner outer = rw (e, f) (behind_none _ _ refl)

-- a piece has a token exactly where its first token stands within it
token_lead : (in_comment : Bool) (bs : List ℕ) → has_token_from in_comment bs ≡ nat_lt (lead_from in_comment bs) (length bs)
token_lead true [] = refl
token_lead false [] = refl
token_lead true (b ∷ r) = token_lead (is_comment_byte b) r ∙ further _ _ _ refl
token_lead false (b ∷ r) = outside b r _ _ refl refl (token_lead true r) (token_lead false r)

lead_le_in : (b : ℕ) (r : List ℕ) (p q : Bool) → begins_comment b r ≡ p → is_blank b ≡ q → lead_from true r ≤ length r → lead_from false r ≤ length r
    → lead_from false (b ∷ r) ≤ length (b ∷ r)
lead_le_in b r true q e f inner outer = rw e (omega (arith, inner))
lead_le_in b r false true e f inner outer = rw (e, f) (omega (arith, outer))
lead_le_in b r false false e f inner outer = rw (e, f) (omega arith)

pub lead_le : (in_comment : Bool) (bs : List ℕ) → lead_from in_comment bs ≤ length bs
lead_le true [] = omega arith
lead_le false [] = omega arith
lead_le true (b ∷ r) = omega (arith, lead_le (is_comment_byte b) r)
lead_le false (b ∷ r) = lead_le_in b r _ _ refl refl (lead_le true r) (lead_le false r)

pub has_one : (piece : List ℕ) → lead piece < length piece → has_token piece ≡ true
has_one piece within = let is = token_lead false piece in grind (arith, nat_tests)

pub has_none : (piece : List ℕ) → length piece ≤ lead piece → has_token piece ≡ false
has_none piece past = let is = token_lead false piece in grind (arith, nat_tests)

kept_piece : (at : ℕ) (piece : List ℕ) → has_token piece ≡ true → placed_text at piece ∷ [] ≡ placed_piece at piece
kept_piece at piece e = rw e refl

skipped_piece : (at : ℕ) (piece : List ℕ) → has_token piece ≡ false → placed_piece at piece ≡ []
skipped_piece at piece e = rw e refl

abbrev built : ℕ → ℕ → List ℕ → PlacedText
built at first text = record { at = at; first = first; text = text }

same_placed : (piece : List ℕ) (at : ℕ) (k : Placed) → k.at ≡ at → k.first ≡ at + lead piece → k.text.now ≡ piece → placed_of k ≡ placed_text at piece
same_placed piece at k is_at is_first is_text =
    ap (λ x. built x k.first k.text.now) is_at ∙ ap (λ x. built at x k.text.now) is_first ∙ ap (λ x. built at (at + lead piece) x) is_text

pub one_placed : (piece : List ℕ) (at : ℕ) (k : Placed) (old new : List Placed) → lead piece < length piece → k.at ≡ at → k.first ≡ at + lead piece → k.text.now ≡ piece
    → new ≡ old ++ k ∷ [] → map placed_of new ≡ map placed_of old ++ placed_piece at piece
one_placed piece at k old new within is_at is_first is_text grown =
    ap (map placed_of) grown ∙ map-append placed_of old (k ∷ []) ∙ ap (λ p. map placed_of old ++ p ∷ []) (same_placed piece at k is_at is_first is_text)
    ∙ ap (λ ps. map placed_of old ++ ps) (kept_piece at piece (has_one piece within))

pub none_placed : (piece : List ℕ) (at : ℕ) (ts : List PlacedText) → length piece ≤ lead piece → ts ≡ ts ++ placed_piece at piece
none_placed piece at ts past = sym (ap (λ ps. ts ++ ps) (skipped_piece at piece (has_none piece past)) ∙ append-nil ts)

step : (rest piece behind : List ℕ) (at : ℕ) (ts ts' all : List PlacedText) → pieces rest ≡ piece ∷ pieces_behind behind
    → ts' ≡ ts ++ placed_piece at piece → ts ++ placed_from at (pieces rest) ≡ all
    → ts' ++ placed_from (at + (length piece + 1)) (pieces_behind behind) ≡ all
step rest piece behind at ts ts' all cut grown before =
    ap (λ us. us ++ placed_from (at + (length piece + 1)) (pieces_behind behind)) grown ∙ append_assoc ts _ _ ∙ ap (λ us. ts ++ us) (ap (placed_from at) (sym cut)) ∙ before

pub last_step : (rest piece behind : List ℕ) (at : ℕ) (ts ts' all : List PlacedText) → pieces rest ≡ piece ∷ pieces_behind behind → length behind ≡ 0
    → ts' ≡ ts ++ placed_piece at piece → ts ++ placed_from at (pieces rest) ≡ all → ts' ≡ all
last_step rest piece [] at ts ts' all cut none grown before = sym (append-nil ts') ∙ step rest piece [] at ts ts' all cut grown before
last_step rest piece (b ∷ r) at ts ts' all cut none grown before = absurd (omega (arith, none))

pub next_step : (rest rest' piece behind : List ℕ) (at : ℕ) (ts ts' all : List PlacedText) → pieces rest ≡ piece ∷ pieces_behind behind → 0 < length behind → rest' ≡ drop 1 behind
    → ts' ≡ ts ++ placed_piece at piece → ts ++ placed_from at (pieces rest) ≡ all → ts' ++ placed_from (at + (length piece + 1)) (pieces rest') ≡ all
next_step rest rest' piece [] at ts ts' all cut some is grown before = absurd (omega (arith, some))
next_step rest rest' piece (b ∷ r) at ts ts' all cut some is grown before =
    ap (λ y. ts' ++ placed_from (at + (length piece + 1)) (pieces y)) is ∙ step rest piece (b ∷ r) at ts ts' all cut grown before
