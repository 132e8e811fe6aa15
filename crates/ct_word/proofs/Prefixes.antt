-- What stays when words are added: what each place stands for, the commits, and the classes of places.
use Rattle.std.{proofs.Common.{◌≡◌, ℕ, ◌<◌, List, [], ◌∷◌, ◌++◌, length, ap, sym, ◌∙◌, arith}, specs.Prelude.{slice_get, IsTrue, filter_map}}
use Rattle.std.{proofs.lemmas.List.{append-nil, append_assoc}, proofs.lemmas.List.Elements.filter_map-append}
use Rattle.ct_word.{specs.declared.kinds.Class.Class, specs.WellFormed.{is_word_of, is_place_of}, specs.Stands.StandsAt, proofs.Items.get_front}
use Rattle.ct_word.specs.Reading.{Meaning, meaning_of, read, meanings, as_term, as_cond, as_change_list, as_commit, term_at, condition_at, change_list_at, commits_of}
use Rattle.ct_word.proofs.Growth.{read-append, length-read}
use mathlib.Core.List.{IsPrefix}
pub use Rattle.ct_word.proofs.Growth.{place_within}

-- a list is a prefix of itself
pub prefix_same : {A : Type 0} (xs : List A) → IsPrefix xs xs
prefix_same xs = ([], append-nil xs)

-- a prefix of a prefix is one
pub prefix_of_prefix : {A : Type 0} (xs ys zs : List A) → IsPrefix xs ys → IsPrefix ys zs → IsPrefix xs zs
prefix_of_prefix xs ys zs p q = (p.0 ++ q.0, sym (append_assoc xs p.0 q.0) ∙ ap (λ l. l ++ q.0) p.1 ∙ q.1)

-- an item of a prefix is an item of the list
pub get_in_prefix : {A : Type 0} (xs ys : List A) (k : ℕ) → IsPrefix xs ys → k < length xs → slice_get ys k ≡ slice_get xs k
get_in_prefix xs ys k p lt = ap (λ l. slice_get l k) (sym p.1) ∙ get_front xs p.0 k lt

-- what is read goes on from what was read
read_extends : (ms : List Meaning) (ws : List ℕ) → (more : List Meaning) × (ms ++ more ≡ read ms ws)
read_extends ms [] = ([], append-nil ms)
read_extends ms (w ∷ ws) =
    let rest = read_extends (ms ++ meaning_of ms w ∷ []) ws in
    (meaning_of ms w ∷ rest.0, sym (append_assoc ms (meaning_of ms w ∷ []) rest.0) ∙ rest.1)

-- what the places of the first words stand for comes first
pub meanings_prefix : (ws xs : List ℕ) → IsPrefix ws xs → IsPrefix (meanings ws) (meanings xs)
meanings_prefix ws xs p =
    let rest = read_extends (meanings ws) p.0 in
    (rest.0, rest.1 ∙ sym (read-append [] ws p.0) ∙ ap meanings p.1)

-- the commits of the first words come first
pub commits_prefix : (ws xs : List ℕ) → IsPrefix ws xs → IsPrefix (commits_of ws) (commits_of xs)
commits_prefix ws xs p =
    let rest = meanings_prefix ws xs p in
    (filter_map as_commit rest.0, sym (filter_map-append as_commit (meanings ws) rest.0) ∙ ap (filter_map as_commit) rest.1)

-- a place keeps its meaning
pub meaning_in_prefix : (ws xs : List ℕ) (k : ℕ) → IsPrefix ws xs → k < length ws → slice_get (meanings xs) k ≡ slice_get (meanings ws) k
meaning_in_prefix ws xs k p lt =
    get_in_prefix (meanings ws) (meanings xs) k (meanings_prefix ws xs p) (omega (arith, length-read [] ws))

-- what stands at a place stands there still
pub stands_in_prefix : (ws xs : List ℕ) (k : ℕ) (m : Meaning) → IsPrefix ws xs → k < length ws → StandsAt ws k m → StandsAt xs k m
stands_in_prefix ws xs k m p lt s = meaning_in_prefix ws xs k p lt ∙ s

pub term_in_prefix : (ws xs : List ℕ) (k : ℕ) → IsPrefix ws xs → k < length ws → term_at xs k ≡ term_at ws k
term_in_prefix ws xs k p lt = ap as_term (meaning_in_prefix ws xs k p lt)

pub condition_in_prefix : (ws xs : List ℕ) (k : ℕ) → IsPrefix ws xs → k < length ws → condition_at xs k ≡ condition_at ws k
condition_in_prefix ws xs k p lt = ap as_cond (meaning_in_prefix ws xs k p lt)

pub change_list_in_prefix : (ws xs : List ℕ) (k : ℕ) → IsPrefix ws xs → k < length ws → change_list_at xs k ≡ change_list_at ws k
change_list_in_prefix ws xs k p lt = ap as_change_list (meaning_in_prefix ws xs k p lt)

-- a place keeps its class
pub place_in_prefix : (ws xs : List ℕ) (c : Class) (k : ℕ) → IsPrefix ws xs → IsTrue (is_place_of ws c k) → IsTrue (is_place_of xs c k)
place_in_prefix ws xs c k p e = ap (λ o. is_word_of o c) (get_in_prefix ws xs k p (place_within ws c k e)) ∙ e
