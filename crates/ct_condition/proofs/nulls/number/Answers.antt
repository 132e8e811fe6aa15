use Rattle.std.{proofs.Common.{◌≡◌, ◌+◌, ◌++◌, ◌∷◌, ℕ, suc, Some, ap, sym, ◌∙◌, arith, append_assoc}, specs.Prelude.encode_utf8}
use Rattle.ct_word.specs.WordAt.{backwards}
use Rattle.ct_condition.proofs.Marks.{grows_put, longer_there, put_found}
use Rattle.ct_condition.proofs.nulls.number.Goals as goal

pub loop-character-preserved : goal.loop-character-preserved
loop-character-preserved c =
    let loop = c.loop-character.invariant in
    let old = c.loop-character.steps.keys in
    let new = c.insert_full.new.self.keys in
    let step : ℕ × ℕ = (c.loop-character.last, c.in-Some.character) in
    let grow = grows_put old new step c.in_ok-at.ensures.keys in
    let found = put_found old new step c.in_ok-at.at c.in_ok-at.ensures.keys c.in_ok-at.ensures.index c.in_ok-at.ensures.within in
    let next : suc c.in_ok-at.at ≡ c.in_ok-at.at + 1 = omega arith in
    record {
      number = (
        c.in-Some.character ∷ loop.number.0,
        loop.number.1 ∙ ap (λ r. backwards loop.number.0 ++ r) c.in-Some.ensures.steps.0 ∙ sym (append_assoc (backwards loop.number.0) (encode_utf8 c.in-Some.character) c.next.new.self.rest.now),
        longer_there new loop.number.0 c.loop-character.last c.in-Some.character c.in_ok-at.at (grow loop.number.0 c.loop-character.last loop.number.2) found ∙ ap Some next,
      );
      grows = λ cs k e. grow cs k (loop.grows cs k e);
    }
