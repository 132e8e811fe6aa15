-- A place goes on standing for what it stood for when words are added.
use Rattle.std.proofs.Common.{◌≡◌, true≢false, Option, Some, None, sym, ℕ, zero, suc, ◌+◌, ◌<◌, List, [], ◌∷◌, ◌++◌, length, refl, ◌∙◌, arith, length-append}
use Rattle.std.specs.Prelude.{◌&&◌, ◌||◌, not, IsTrue, nat_lt, slice_get}
use Rattle.ct_word.{specs.declared.kinds.Kind.Kind, specs.declared.kinds.Class.Class, specs.Word.{kind_of, left_of, right_of}, proofs.Items.get_front}
use Rattle.ct_word.specs.WellFormed.{Field, PlaceOf, fields_of, is_ordered, is_place_of, fits, is_formed_as, is_word_over}
use Rattle.ct_word.{proofs.Packed.{true_left, true_right, true_both}, specs.Reading.{Meaning, meaning_of, read}}

pub read-append : (ms : List Meaning) (ws xs : List ℕ) → read ms (ws ++ xs) ≡ read (read ms ws) xs
read-append ms [] xs = refl
read-append ms (w ∷ ws) xs = read-append (ms ++ meaning_of ms w ∷ []) ws xs

-- what was read stays
pub stays : (ms : List Meaning) (ws : List ℕ) (k : ℕ) → k < length ms → slice_get (read ms ws) k ≡ slice_get ms k
stays ms [] k lt = refl
stays ms (w ∷ ws) k lt =
    stays (ms ++ meaning_of ms w ∷ []) ws k (omega (arith, length-append ms (meaning_of ms w ∷ []))) ∙ get_front ms (meaning_of ms w ∷ []) k lt

pub length-read : (ms : List Meaning) (ws : List ℕ) → length (read ms ws) ≡ length ms + length ws
length-read ms [] = omega arith
length-read ms (w ∷ ws) = length-read (ms ++ meaning_of ms w ∷ []) ws ∙ omega (arith, length-append ms (meaning_of ms w ∷ []))

-- a place keeps its class
pub place_grows : (ws xs : List ℕ) (c : Class) (k : ℕ) → IsTrue (is_place_of ws c k) → IsTrue (is_place_of (ws ++ xs) c k)
place_grows [] xs c k e = absurd (true≢false (sym e))
place_grows (w ∷ ws) xs c zero e = e
place_grows (w ∷ ws) xs c (suc k) e = place_grows ws xs c k e

-- a field goes on as the table asks
fits_grows : (ws xs : List ℕ) (f : Field) (n : ℕ) → IsTrue (fits ws f n) → IsTrue (fits (ws ++ xs) f n)
fits_grows ws xs (PlaceOf c) n e = place_grows ws xs c n e
fits_grows ws xs _ n e = e

pub formed_grows : (ws xs : List ℕ) (k : Option Kind) (a b : ℕ) → IsTrue (is_formed_as k ws a b) → IsTrue (is_formed_as k (ws ++ xs) a b)
formed_grows ws xs None a b e = e
formed_grows ws xs (Some k) a b e =
    let front : IsTrue (fits ws (fields_of k).0 a && fits ws (fields_of k).1 b) = true_left _ (not (is_ordered k) || nat_lt a b) e in
    true_both _ _ (true_both _ _ (fits_grows ws xs (fields_of k).0 a (true_left _ (fits ws (fields_of k).1 b) front)) (fits_grows ws xs (fields_of k).1 b (true_right (fits ws (fields_of k).0 a) _ front)))
    (true_right (fits ws (fields_of k).0 a && fits ws (fields_of k).1 b) _ e)

-- a word over these words is one over more
pub word_over_grows : (ws xs : List ℕ) (w : ℕ) → IsTrue (is_word_over ws w) → IsTrue (is_word_over (ws ++ xs) w)
unfolding is_word_over
word_over_grows ws xs w e = formed_grows ws xs (kind_of w) (left_of w) (right_of w) e

-- a place of a class lies within the words
pub place_within : (ws : List ℕ) (c : Class) (k : ℕ) → IsTrue (is_place_of ws c k) → k < length ws
place_within [] c k e = absurd (true≢false (sym e))
place_within (w ∷ ws) c zero e = omega arith
place_within (w ∷ ws) c (suc k) e = let lt = place_within ws c k e in omega arith
