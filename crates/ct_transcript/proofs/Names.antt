-- The names of a node list, node by node.
use Rattle.std.proofs.Common.{◌≡◌, ℕ, suc, ◌+◌, ◌<◌, ◌≤◌, min, Bool, true, false, ◌&&◌, nat_le, List, [], ◌∷◌, ◌++◌, length, get_or, drop, Option, Some, None, refl, sym, ap, ◌∙◌, arith, append_assoc, add-one, drop-cons}
use Rattle.std.{specs.Prelude.if◌then◌else◌, proofs.lemmas.Bool.Decides.nat_tests}
use Rattle.ct_rewrite.specs.declared.answer.Node.{Node}
use Rattle.ct_transcript.specs.NodeText.{is_run, references_to, names_from}

-- a list from a position on
pub from_here : {X : Type 0} (xs : List X) (i : ℕ) (x : X) → i < length xs → x ≡ get_or xs i x → drop i xs ≡ x ∷ drop (i + 1) xs
from_here xs i x h e = rw (add-one, drop-cons xs i x) (ap (λ y. y ∷ drop (suc i) xs) (sym e))

two_or_more : (m n : ℕ) → min m 2 ≡ min n 2 → nat_le 2 m ≡ nat_le 2 n
two_or_more m n e = grind (arith, nat_tests)

-- one name after those of the nodes before
pub one_name : (b : Bool) (i named : ℕ) (refs : List ℕ) (ns : List Node) (names : List (Option ℕ)) (name : Option ℕ) (named' : ℕ)
    → name ≡ (if b then Some (named + 1) else None) → named' ≡ (if b then named + 1 else named)
    → names ++ (if b then Some (named + 1) ∷ names_from (i + 1) (named + 1 + 1) refs ns else None ∷ names_from (i + 1) (named + 1) refs ns)
    ≡ (names ++ name ∷ []) ++ names_from (i + 1) (named' + 1) refs ns
one_name true i named refs ns names name named' p q = rw (p, q) (sym (append_assoc names _ _))
one_name false i named refs ns names name named' p q = rw (p, q) (sym (append_assoc names _ _))

pub name_written : (nodes : List Node) (refs : List ℕ) (i named : ℕ) (n : Node) (references : ℕ) (b : Bool) (names : List (Option ℕ)) (name : Option ℕ) (named' : ℕ) (all : List (Option ℕ))
    → i < length nodes → n ≡ get_or nodes i n → min references 2 ≡ min (references_to refs i) 2 → b ≡ (is_run n && nat_le 2 references)
    → name ≡ (if b then Some (named + 1) else None) → named' ≡ (if b then named + 1 else named)
    → names ++ names_from i (named + 1) refs (drop i nodes) ≡ all
    → (names ++ name ∷ []) ++ names_from (i + 1) (named' + 1) refs (drop (i + 1) nodes) ≡ all
name_written nodes refs i named n references b names name named' all h e r t p q inv =
    let b' : b ≡ (is_run n && nat_le 2 (references_to refs i)) = t ∙ ap (λ x. is_run n && x) (two_or_more _ _ r) in
    sym (one_name b i named refs (drop (i + 1) nodes) names name named' p q)
    ∙ ap (λ x. names ++ (if x then Some (named + 1) ∷ names_from (i + 1) (named + 1 + 1) refs (drop (i + 1) nodes) else None ∷ names_from (i + 1) (named + 1) refs (drop (i + 1) nodes))) b'
    ∙ ap (λ xs. names ++ names_from i (named + 1) refs xs) (sym (from_here nodes i n h e))
    ∙ inv

length_if : (b : Bool) (x y : Option ℕ) (xs ys : List (Option ℕ)) (m : ℕ) → length xs ≡ m → length ys ≡ m → length (if b then x ∷ xs else y ∷ ys) ≡ suc m
length_if true x y xs ys m p q = ap suc p
length_if false x y xs ys m p q = ap suc q

pub length_names : (k next : ℕ) (refs : List ℕ) (nodes : List Node) → length (names_from k next refs nodes) ≡ length nodes
length_names k next refs [] = refl
length_names k next refs (n ∷ ns) = length_if _ _ _ _ _ _ (length_names (k + 1) (next + 1) refs ns) (length_names (k + 1) next refs ns)

pub named_bound : (b : Bool) (i named named' : ℕ) → named ≤ i → named' ≡ (if b then named + 1 else named) → named' ≤ i + 1
named_bound true i named named' h e = omega arith
named_bound false i named named' h e = omega arith
