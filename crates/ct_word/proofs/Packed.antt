-- A packed word gives its kind back.
use Rattle.std.proofs.Common.{◌≡◌, ℕ, ◌+◌, ◌*◌, ◌/◌, ◌<◌, ◌^◌, Some, refl, arith, ap, ◌∙◌, Bool, true, false, ◌&&◌, sym, subst, true≢false}
use Rattle.std.{proofs.lemmas.List.{append-nil, append_assoc}, specs.Prelude.{List, [], ◌∷◌, ◌++◌, ◌-◌, slice_get, IsTrue}, proofs.lemmas.Bool.ne_eqb}
use Rattle.ct_word.{specs.declared.kinds.Kind.Kind, specs.Word.{code_of, word_of, all_kinds, kind_with, kind_of, left_of, right_of}}
use Rattle.ct_word.{specs.Reading.{Meaning, meaning_of, by_kind, read, meanings}, specs.WellFormed.{IsWellFormed, each_follows, is_word_after}}
use Rattle.ct_word.specs.declared.kinds.Kind.TheVariants as kind

pub kind_with_code : (k : Kind) → kind_with (code_of k) ≡ Some k
unfolding kind_with
kind_with_code kind.TextEnd = refl
kind_with_code _ = refl

top_of : (c a b : ℕ) → a < 2 ^ 28 → b < 2 ^ 28 → (c * 72057594037927936 + a * 268435456 + b) / 72057594037927936 ≡ c
top_of c a b l r = omega arith

pub kind_of_parts : (k : Kind) (c a b : ℕ) → c ≡ code_of k → a < 2 ^ 28 → b < 2 ^ 28 → kind_of (c * 72057594037927936 + a * 268435456 + b) ≡ Some k
kind_of_parts k c a b e l r = ap kind_with (top_of c a b l r ∙ e) ∙ kind_with_code k

pub left_of_parts : (c a b : ℕ) → a < 2 ^ 28 → b < 2 ^ 28 → left_of (c * 72057594037927936 + a * 268435456 + b) ≡ a
left_of_parts c a b l r = omega arith

pub right_of_parts : (c a b : ℕ) → a < 2 ^ 28 → b < 2 ^ 28 → right_of (c * 72057594037927936 + a * 268435456 + b) ≡ b
right_of_parts c a b l r = omega arith

-- what a packed word stands for: the line of its kind, over its fields
pub meaning_packed : (ms : List Meaning) (k : Kind) (a b : ℕ) → a < 2 ^ 28 → b < 2 ^ 28 → meaning_of ms (word_of k a b) ≡ by_kind (Some k) ms a b
unfolding meaning_of
meaning_packed ms k a b l r =
    (λ i. by_kind (kind_of_parts k (code_of k) a b refl l r i) ms (left_of_parts (code_of k) a b l r i) (right_of_parts (code_of k) a b l r i))

-- what one more word stands for
pub meanings_snoc : (ws : List ℕ) (w : ℕ) → meanings (ws ++ w ∷ []) ≡ meanings ws ++ meaning_of (meanings ws) w ∷ []
meanings_snoc ws w = read_snoc [] ws w where
  read_snoc : (ms : List Meaning) (ws : List ℕ) (w : ℕ) → read ms (ws ++ w ∷ []) ≡ read ms ws ++ meaning_of (read ms ws) w ∷ []
  read_snoc ms [] w = refl
  read_snoc ms (x ∷ ws) w = read_snoc (ms ++ meaning_of ms x ∷ []) ws w

-- the parts of a test of two
pub true_left : (a b : Bool) → IsTrue (a && b) → IsTrue a
true_left true b e = refl
true_left false b e = e

pub true_right : (a b : Bool) → IsTrue (a && b) → IsTrue b
true_right true b e = e
true_right false b e = absurd (true≢false (sym e))

pub true_both : (a b : Bool) → IsTrue a → IsTrue b → IsTrue (a && b)
true_both true b e f = f
true_both false b e f = e

follow_snoc : (before ws : List ℕ) (w : ℕ) → IsTrue (each_follows before ws) → IsTrue (is_word_after (before ++ ws) w) → IsTrue (each_follows before (ws ++ w ∷ []))
follow_snoc before [] w e f = true_both _ true (subst (λ l. IsTrue (is_word_after l w)) (append-nil before) f) refl
follow_snoc before (x ∷ ws) w e f =
    true_both _ _ (true_left _ (each_follows (before ++ x ∷ []) ws) e)
    (follow_snoc (before ++ x ∷ []) ws w (true_right (is_word_after before x) _ e)
    (subst (λ l. IsTrue (is_word_after l w)) (sym (append_assoc before (x ∷ []) ws)) f))

-- a well formed list with one more word that may follow it is well formed
pub formed_snoc : (ws : List ℕ) (w : ℕ) → IsWellFormed ws → IsTrue (is_word_after ws w) → IsWellFormed (ws ++ w ∷ [])
formed_snoc ws w formed follows = follow_snoc [] ws w formed follows

-- the kind with a code from 1 on stands at that place of the list
pub kind_at : (n : ℕ) → (n ≡ 0 → ⊥) → slice_get all_kinds (n - 1) ≡ kind_with n
unfolding kind_with
kind_at n ne = rw (ne_eqb n 0 ne) refl
