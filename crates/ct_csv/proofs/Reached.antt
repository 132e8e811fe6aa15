-- The records of bytes are one list, which goes on from those that are read.
use Rattle.std.proofs.Common.{◌≡◌, ℕ, List, [], ◌∷◌, ◌++◌, refl, sym, ap, subst, ◌∙◌}
use Rattle.std.specs.Prelude.{Option, Some, None, true}
use Rattle.csv.specs.Machine.{Read, next_record}
use Rattle.csv.specs.Reading.{AreRecords, NextIs, ReadsNext, Reached}
use Rattle.csv.specs.declared.parser.Config.{Config}
use Rattle.csv.specs.declared.parser.State.{State}

no_end : {p : Read} {o : Option Read} → o ≡ Some p → o ≡ None → ⊥
no_end h e = cc (sym h ∙ e)

same_read : {p q : Read} {o : Option Read} → o ≡ Some p → o ≡ Some q → p ≡ q
same_read h k = cc (sym h ∙ k)

pub goes_on : (cfg : Config) (s s2 : State) (xs ys : List ℕ) (rows all : List (List (List ℕ))) (p : Read)
    → Reached cfg s xs rows s2 ys → next_record cfg s2 [] [] ys ≡ Some p → AreRecords cfg s xs all → (more : List (List (List ℕ))) × (all ≡ rows ++ p.0 ∷ more)
unfolding Reached
goes_on cfg s s2 xs ys [] [] p h next (s3, z, k, end) =
    absurd (no_end next (subst (λ u. next_record cfg u [] [] ys ≡ None) (sym k.0 ∙ h.0) (subst (λ u. next_record cfg s3 [] [] u ≡ None) (sym k.1 ∙ h.1) end)))
goes_on cfg s s2 xs ys [] (r ∷ rs) p h next (s3, z, (q, first, is, k), end) =
    let here : next_record cfg s [] [] xs ≡ Some p = subst (λ u. next_record cfg u [] [] xs ≡ Some p) (sym h.0) (subst (λ u. next_record cfg s2 [] [] u ≡ Some p) (sym h.1) next) in
    (rs, ap (λ f. f ∷ rs) (is ∙ ap (λ (x : Read). x.0) (same_read first here)))
goes_on cfg s s2 xs ys (r ∷ rows) [] p (q, first, is, h) next (s3, z, k, end) =
    absurd (no_end first (subst (λ u. next_record cfg u [] [] xs ≡ None) (sym k.0) (subst (λ u. next_record cfg s3 [] [] u ≡ None) (sym k.1) end)))
goes_on cfg s s2 xs ys (r ∷ rows) (t ∷ all) p (q, first, is, h) next (s3, z, (q', first', is', k), end) =
    let same = same_read first' first in
    let k' = subst (λ (x : Read). Reached cfg x.1 x.2 all s3 z) same k in
    let rest = goes_on cfg q.1 s2 q.2 ys rows all p h next (s3, z, k', end) in
    (rest.0, ap (λ f. f ∷ all) (is' ∙ ap (λ (x : Read). x.0) same ∙ sym is) ∙ ap (λ f. r ∷ f) rest.1)

pub one_list : (cfg : Config) (s : State) (xs : List ℕ) (a b : List (List (List ℕ))) → AreRecords cfg s xs a → AreRecords cfg s xs b → a ≡ b
unfolding Reached
one_list cfg s xs [] [] h k = refl
one_list cfg s xs [] (r ∷ rs) (s2, y, h, end) (s3, z, (q, first, is, k), last) =
    absurd (no_end first (subst (λ u. next_record cfg u [] [] xs ≡ None) (sym h.0) (subst (λ u. next_record cfg s2 [] [] u ≡ None) (sym h.1) end)))
one_list cfg s xs (r ∷ rs) [] (s3, z, (q, first, is, k), last) (s2, y, h, end) =
    absurd (no_end first (subst (λ u. next_record cfg u [] [] xs ≡ None) (sym h.0) (subst (λ u. next_record cfg s2 [] [] u ≡ None) (sym h.1) end)))
one_list cfg s xs (r ∷ rs) (t ∷ ts) (s2, y, (q, first, is, h), end) (s3, z, (q', first', is', k), last) =
    let same = same_read first' first in
    let k' = subst (λ (x : Read). Reached cfg x.1 x.2 ts s3 z) same k in
    ap (λ f. f ∷ rs) (is ∙ sym (is' ∙ ap (λ (x : Read). x.0) same)) ∙ ap (λ f. t ∷ f) (one_list cfg q.1 q.2 rs ts (s2, y, h, end) (s3, z, k', last))

-- the record that a read took is the next one
pub next_given : (o : Option Read) (f : List (List ℕ)) (s : State) (z : List ℕ) → NextIs o true f s z → (p : Read) × (o ≡ Some p) × (f ≡ p.0)
next_given None f s z n = cc n
next_given (Some p) f s z n = (p, refl, n.1)

pub took_next : (cfg : Config) (a b : State) (y : List ℕ) (f : List (List ℕ)) (k : Option (List ℕ))
    → ReadsNext cfg a (Some y) k true f b → (p : Read) × (next_record cfg a [] [] y ≡ Some p) × (f ≡ p.0)
took_next cfg a b y f None r = absurd r
took_next cfg a b y f (Some z) r = next_given _ f b z r
