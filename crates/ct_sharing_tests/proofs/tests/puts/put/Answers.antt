use Rattle.std.{proofs.Common.{◌∙◌, ap, subst, sym, arith}, specs.Prelude.{IsTrue, Some}, proofs.lemmas.Option.slice_get_within}
use Rattle.ct_word.{specs.WellFormed.is_plain_word, proofs.Commits.packed_plain, proofs.Stands.class_of_packed}
use Rattle.ct_sharing_tests.proofs.tests.puts.put.Goals as goal

pub intern-requires : goal.intern-requires
intern-requires g c =
    subst (λ w. IsTrue (is_plain_word c.args.pass.now.words w)) (sym c.pack.ensures.word)
    (packed_plain c.args.pass.now.words c.args.kind c.args.a c.args.b c.requires.left c.requires.right c.requires.formed c.requires.plain)

pub returns-clause-place : goal.returns-clause-place
returns-clause-place g c =
    class_of_packed c.intern.new.self.words c.in_ok-place.place c.args.kind c.args.a c.args.b c.requires.left c.requires.right
    (c.in_ok-place.ensures.stands ∙ ap (λ w. Some w) c.pack.ensures.word)

pub returns-clause-small : goal.returns-clause-small
returns-clause-small g c =
    let lt = slice_get_within c.intern.new.self.words c.in_ok-place.place _ c.in_ok-place.ensures.stands in
    omega (arith, lt, c.in_ok-place.ensures.room, c.args.arena.now.most)
