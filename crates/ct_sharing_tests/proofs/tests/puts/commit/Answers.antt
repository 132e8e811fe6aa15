use Rattle.std.{specs.Prelude.IsTrue, proofs.lemmas.Result.IfOk-at_ok}
use Rattle.ct_word.{specs.WellFormed.is_place_of, proofs.Prefixes.place_in_prefix}
use Rattle.ct_word.specs.declared.kinds.Class.TheVariants as class
use Rattle.ct_sharing_tests.proofs.tests.puts.commit.Goals as goal

pub append_commit-place-requires-clause-changes : goal.append_commit-place-requires-clause-changes
append_commit-place-requires-clause-changes g c =
    let old = c.put.new.pass.words in
    let place = IfOk-at_ok (λ p. IsTrue (is_place_of old class.ChangeList p)) c.in-Ok.is c.put.ensures.place in
    place_in_prefix old c.enter-guest.new.self.words class.ChangeList c.in-Ok.changes c.enter-guest.ensures.seen place
