-- The whole log, by the passes that were ended one after another.
use Rattle.std.{proofs.Common.{◌≡◌, ℕ, ◌+◌, ◌<◌, List, [], ◌∷◌, ◌++◌, map, refl, ap, sym, subst, ◌∙◌}, specs.Prelude.{All, sum_by}}
use Rattle.std.{proofs.lemmas.List.{get_or-map, length-map, map-append}, proofs.lemmas.List.Elements.{All-push, All-weaker}}
use Rattle.std.proofs.lemmas.List.Sums.{sum_by-cons}
use Rattle.ct_word.proofs.Prefixes.{prefix_of_prefix}
use Rattle.ct_arena.{specs.declared.tally.Tally.Tally, specs.Counts.AreNumbered, specs.Seen.{Seen, tally_of}}
use mathlib.Core.List.{IsPrefix}

pub one_ended : (passes : List Seen) (pass : Seen) (ended ended' : List Tally) → ended ≡ map tally_of passes → ended' ≡ ended ++ tally_of pass ∷ [] → ended' ≡ map tally_of (passes ++ pass ∷ [])
one_ended passes pass ended ended' so_far one = one ∙ ap (λ ts. ts ++ tally_of pass ∷ []) so_far ∙ sym (map-append tally_of passes (pass ∷ []))

pub each_seen : (passes : List Seen) (old new : List ℕ) → IsPrefix old new → All (λ p. IsPrefix p.words old) passes → All (λ p. IsPrefix p.words new) passes
each_seen passes old new longer all = All-weaker (λ p. IsPrefix p.words old) (λ p. IsPrefix p.words new) (λ p is. prefix_of_prefix p.words old new is longer) passes all

pub one_seen : (passes : List Seen) (pass : Seen) (old new : List ℕ) → IsPrefix old new → IsPrefix pass.words new → All (λ p. IsPrefix p.words old) passes
    → All (λ p. IsPrefix p.words new) (passes ++ pass ∷ [])
one_seen passes pass old new longer seen all = All-push (λ p. IsPrefix p.words new) passes pass (each_seen passes old new longer all) seen

pub made_by : (passes : List Seen) → sum_by (λ (t : Tally). t.made) (map tally_of passes) ≡ sum_by (λ (p : Seen). p.made) passes
made_by [] = refl
made_by (p ∷ ps) =
    sum_by-cons (λ (t : Tally). t.made) (tally_of p) (map tally_of ps) ∙ ap (λ n. p.made + n) (made_by ps) ∙ sym (sum_by-cons (λ (q : Seen). q.made) p ps)

pub each_numbered : (passes : List Seen) (log : List ℕ) → All (λ (t : Tally). AreNumbered t.session t.mine log) (map tally_of passes) → All (λ (p : Seen). AreNumbered p.session p.mine log) passes
each_numbered passes log all = λ k d lt.
    subst (λ (t : Tally). AreNumbered t.session t.mine log) (get_or-map tally_of passes k d (tally_of d) lt)
    (all k (tally_of d) (subst (λ n. k < n) (sym (length-map passes tally_of)) lt))
