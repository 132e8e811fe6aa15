use Rattle.std.proofs.Common.{◌∙◌, ap, sym, subst, List, ℕ}
use Rattle.ct_derivation.specs.Path.{pair_of}
use Rattle.ct_decide.{specs.Asking.{is_atom, IsPathOver, AddsPath}, proofs.Pairs.terms_of, proofs.Triangles.{still_atom, triangle_over, triangle_added}}
use Rattle.ct_decide.proofs.stars.add_triangle.Goals as goal

pub add_end-requires-clause-first : goal.add_end-requires-clause-first
add_end-requires-clause-first c = (terms_of c.args.words.now c.args.aim c.args.asking.now c.requires.asking c.args.first c.args.middle c.requires.left).first

pub add_end-requires-clause-second : goal.add_end-requires-clause-second
add_end-requires-clause-second c = (terms_of c.args.words.now c.args.aim c.args.asking.now c.requires.asking c.args.middle c.args.last c.requires.right).second

pub add_path-requires-clause-over : goal.add_path-requires-clause-over
add_path-requires-clause-over c =
    let words = c.args.words.now in
    let old = c.args.asking.now in
    let f = c.args.first in
    let m = c.args.middle in
    let l = c.args.last in
    let one = terms_of words c.args.aim old c.requires.asking f m c.requires.left in
    let two = terms_of words c.args.aim old c.requires.asking m l c.requires.right in
    let end = c.in_ok-ended.ensures.adds in
    let atoms = c.add_end.new.asking.atoms.items in
    subst (λ (p : List ℕ). IsPathOver words atoms p) (sym (c.from_vec.ensures ∙ c.in_ok-path.ensures.items))
    (triangle_over words c.args.aim f m l one two c.requires.differ atoms
    (ap (λ xs. is_atom xs (pair_of f m)) end.adds.atoms ∙ still_atom old.atoms.items end.adds.more (pair_of f m) c.requires.left)
    (ap (λ xs. is_atom xs (pair_of m l)) end.adds.atoms ∙ still_atom old.atoms.items end.adds.more (pair_of m l) c.requires.right)
    (λ n. end.there (end.is ∙ n)))

pub returns : goal.returns
returns c =
    let words = c.args.words.now in
    let old = c.args.asking.now in
    let f = c.args.first in
    let m = c.args.middle in
    let l = c.args.last in
    let one = terms_of words c.args.aim old c.requires.asking f m c.requires.left in
    let two = terms_of words c.args.aim old c.requires.asking m l c.requires.right in
    let middle = c.add_end.new.asking in
    let new = c.add_path.new.asking in
    let adds = subst (λ (p : List ℕ). AddsPath words p middle new) (c.from_vec.ensures ∙ c.in_ok-path.ensures.items) c.in_ok-add_path.ensures.adds in
    triangle_added words c.args.aim c.args.model.now old middle new f m l c.in_ok-ended.ended one two c.requires.differ c.in_ok-ended.ensures.adds c.in_ok-ended.ensures.asking adds c.in_ok-add_path.ensures.asking
