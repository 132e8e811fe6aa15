-- One more text of a list of files, as the loop that reads them goes on.
use Rattle.std.proofs.Common.{◌≡◌, ◌≤◌, ◌<◌, ◌+◌, ℕ, zero, suc, List, [], ◌∷◌, ◌++◌, length, map, take, get_or, Option, Some, None, refl, sym, ap, ◌∙◌, subst, append-nil, arith}
use Rattle.std.{specs.Prelude.{All, ◌≢◌, Err, Vec}, specs.declared.alloc.Global.Global, proofs.lemmas.List.Elements.All-push}
use Rattle.std.proofs.lemmas.List.{take_more, take_all, take-map, map-append, length-append, length-map}
use Rattle.ct_outside.{specs.Outside.{Held, StillHolds, Holds, Added, AddedFront}, specs.Reads.{UnlessMemory, HoldsAll, bytes_in, IsOneMore}}
use Rattle.ct_outside.{specs.declared.scripts.ReadError.ReadError, proofs.Additions.added_more}
use Rattle.ct_outside.specs.declared.scripts.ReadError.TheVariants as fault

-- the first i + 1 names
pub take_map_more : {A B : Type 0} (f : A → B) (xs : List A) (i : ℕ) (d : A) → i < length xs → take (i + 1) (map f xs) ≡ take i (map f xs) ++ f (get_or xs i d) ∷ []
take_map_more f xs i d lt =
    take-map f (i + 1) xs ∙ ap (map f) (take_more xs i d lt) ∙ map-append f (take i xs) (get_or xs i d ∷ []) ∙ ap (λ l. l ++ f (get_or xs i d) ∷ []) (sym (take-map f i xs))

-- one more name was asked
pub added_at : {A B : Type 0} (f : A → B) (xs : List A) (i : ℕ) (d : A) (told mid now : Option (List B)) → i < length xs → Added told mid (take i (map f xs)) → Added mid now (f (get_or xs i d) ∷ []) → Added told now (take (i + 1) (map f xs))
added_at f xs i d told mid now lt a b = subst (Added told now) (sym (take_map_more f xs i d lt)) (added_more told mid now (take i (map f xs)) (f (get_or xs i d) ∷ []) a b)

-- one more name was asked, or not
pub front_at : {A B : Type 0} (f : A → B) (xs : List A) (i : ℕ) (d : A) (told mid now : Option (List B)) → i < length xs → Added told mid (take i (map f xs)) → AddedFront mid now (f (get_or xs i d) ∷ []) → AddedFront told now (map f xs)
front_at f xs i d told mid now lt a (zero, b) = (i, subst (Added told now) (append-nil (take i (map f xs))) (added_more told mid now (take i (map f xs)) [] a b))
front_at f xs i d told mid now lt a (suc k, b) =
    let one : take (suc k) (f (get_or xs i d) ∷ []) ≡ f (get_or xs i d) ∷ [] = ap (λ l. f (get_or xs i d) ∷ l) (take_all k [] (omega arith)) in
    (i + 1, added_at f xs i d told mid now lt a (subst (Added mid now) one b))

-- what is held stays over two calls
pub still_more : (told mid now : Option Held) → StillHolds told mid → StillHolds mid now → StillHolds told now
still_more None mid now a b = tt
still_more (Some held) mid now a b = subst (λ m. StillHolds m now) a b

-- one more text is what the source holds
pub hold_at : {A : Type 0} (f : A → List ℕ) (files : List A) (i : ℕ) (d : A) (told mid : Option Held) (limit : ℕ) (texts now : List (List ℕ)) → i < length files → HoldsAll told (take i (map f files)) texts → StillHolds told mid → IsOneMore mid (f (get_or files i d)) limit texts now
    → HoldsAll told (take (i + 1) (map f files)) now
hold_at f files i d None mid limit texts now lt all still one = tt
hold_at f files i d (Some held) mid limit texts now lt all still one =
    let here : held (f (get_or files i d)) ≡ Some one.text = subst (λ m. Holds m (f (get_or files i d)) one.text) still one.held in
    ap (map held) (take_map_more f files i d lt) ∙ map-append held (take i (map f files)) (f (get_or files i d) ∷ []) ∙ ap (λ l. l ++ held (f (get_or files i d)) ∷ []) all ∙ ap (λ t. map Some texts ++ t ∷ []) here
    ∙ sym (map-append Some texts (one.text ∷ [])) ∙ ap (map Some) (sym one.added)

-- one more text is within the limit
pub within_more : (mid : Option Held) (name : List ℕ) (limit : ℕ) (texts now : List (List ℕ)) → All (λ text. length text ≤ limit) texts → IsOneMore mid name limit texts now → All (λ text. length text ≤ limit) now
within_more mid name limit texts now all one =
    subst (λ l. All (λ text. length text ≤ limit) l) (sym one.added) (All-push (λ text. length text ≤ limit) texts one.text all one.within)

-- one more text
pub count_more : (mid : Option Held) (name : List ℕ) (limit : ℕ) (texts now : List (Vec ℕ Global)) → IsOneMore mid name limit (bytes_in texts) (bytes_in now) → length now ≡ length texts + 1
count_more mid name limit texts now one =
    sym (length-map now (λ t. t.items)) ∙ ap length one.added ∙ length-append (bytes_in texts) (one.text ∷ []) ∙ ap (λ n. n + 1) (length-map texts (λ t. t.items))

-- what holds unless memory was wanting, where it was not
pub unless_memory : (T : Type 0) {P : Type 0} (e : ReadError) → UnlessMemory {T = T} (Err e) P → e ≢ fault.Memory → P
unless_memory T fault.Failed p other = p
unless_memory T fault.TooLong p other = p
unless_memory T fault.Memory p other = absurd (other refl)

-- all names up to the one at fault were asked
pub asked_up_to : {A : Type 0} (T : Type 0) (f : A → List ℕ) (files : List A) (i n : ℕ) (d : A) (told mid now : Option (List (List ℕ))) (e : ReadError) → i < length files → n ≡ i → Added told mid (take i (map f files))
    → UnlessMemory {T = T} (Err e) (Added mid now (f (get_or files i d) ∷ [])) → e ≢ fault.Memory → Added told now (take (n + 1) (map f files))
asked_up_to T f files i n d told mid now e lt is a b other =
    subst (λ m. Added told now (take (m + 1) (map f files))) (sym is) (added_at f files i d told mid now lt a (unless_memory T e b other))
