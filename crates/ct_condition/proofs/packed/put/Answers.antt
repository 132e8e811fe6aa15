use Rattle.std.{proofs.Common.{◌∙◌, ap, subst, sym, arith}, specs.Prelude.{IsTrue, Some}, proofs.lemmas.Option.slice_get_within}
use Rattle.ct_word.{specs.WellFormed.is_plain_word, proofs.Commits.packed_plain, proofs.Stands.{stands_for_packed, class_of_packed}}
use Rattle.ct_condition.proofs.Reached.{under_word}
use Rattle.ct_condition.proofs.packed.put.Goals as goal

pub intern-requires : goal.intern-requires
intern-requires g c =
    subst (λ w. IsTrue (is_plain_word (g.I.Interner.list c.args.pass.now) w)) (sym c.pack.ensures.word)
    (packed_plain (g.I.Interner.list c.args.pass.now) c.args.kind c.args.a c.args.b c.requires.left c.requires.right c.requires.formed c.requires.plain)

pub returns-clause-stands : goal.returns-clause-stands
returns-clause-stands g c =
    stands_for_packed (g.I.Interner.list c.intern.new.self) c.in_ok-place.place c.args.kind c.args.a c.args.b c.in_ok-place.ensures.formed c.requires.left c.requires.right
    (c.in_ok-place.ensures.stands ∙ ap (λ w. Some w) c.pack.ensures.word)

pub returns-clause-place : goal.returns-clause-place
returns-clause-place g c =
    class_of_packed (g.I.Interner.list c.intern.new.self) c.in_ok-place.place c.args.kind c.args.a c.args.b c.requires.left c.requires.right
    (c.in_ok-place.ensures.stands ∙ ap (λ w. Some w) c.pack.ensures.word)

pub returns-clause-small : goal.returns-clause-small
returns-clause-small g c =
    omega (arith, slice_get_within (g.I.Interner.list c.intern.new.self) c.in_ok-place.place _ c.in_ok-place.ensures.stands, c.in_ok-place.ensures.room, c.args.arena.now.most)

pub returns-clause-terms : goal.returns-clause-terms
returns-clause-terms g c =
    under_word (g.I.Interner.list c.intern.new.self) c.in_ok-place.place c.args.kind c.args.a c.args.b c.requires.left c.requires.right
    (c.in_ok-place.ensures.stands ∙ ap (λ w. Some w) c.pack.ensures.word)
