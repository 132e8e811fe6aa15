use Rattle.std.proofs.Common.{◌≡◌, ℕ, suc, ◌<◌, ◌≤◌, List, length, get_or, drop, drop-cons, ap, sym, ◌∙◌, subst, arith}
use Rattle.ct_derivation.{specs.declared.literals.Lit.Lit, specs.Literal.no_of, specs.Path.{pair_of, no_links}}
use Rattle.ct_checker.{specs.Added.{added, added_all}, proofs.Added.grows}
use Rattle.ct_checker.proofs.paths.mark_links.Goals as goal

next_fits : (ls : List Lit) (l : Lit) (last : ℕ) (rest : List ℕ) (i : ℕ) → i < length rest → l ≡ no_of (pair_of last (get_or rest i 0))
    → length (added ls l) ≤ length (added_all ls (no_links last (drop i rest)))
next_fits ls l last rest i lt is =
    let more = no_links (get_or rest i 0) (drop (suc i) rest) in
    subst (λ r. length (added ls l) ≤ length (added_all ls (no_links last r))) (sym (drop-cons rest i 0 lt))
    (subst (λ m. length (added ls l) ≤ length (added_all (added ls m) more)) is (grows (added ls l) more))

pub add-requires : goal.add-requires
add-requires c =
    let next = next_fits c.loop-place.marks.falses c.no.result c.loop-place.last c.args.rest.now c.loop-place.place-index c.loop-place-test.true (c.no.ensures ∙ ap no_of c.pair.ensures) in
    omega (arith, next, ap length c.loop-place.invariant.0, c.loop-place.invariant.1, c.requires)
