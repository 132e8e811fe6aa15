use Rattle.std.proofs.Common.{length, sym, ap, ◌∙◌, ◌≤◌, subst, arith}
use Rattle.ct_arena.proofs.Entering.{longer_first, longer_second}
use mathlib.Core.List.{IsPrefix}
use Rattle.ct_arena.proofs.lists.take_longer.Goals as goal

pub follow-requires-clause-longer : goal.follow-requires-clause-longer
follow-requires-clause-longer c =
    let le : length c.args.list.now.words ≤ length c.args.other.now = omega (arith, c.if-words-other.true, ap length c.words.ensures.words) in
    subst (λ l. IsPrefix c.args.list.now.words l) (longer_first c.args.other.now c.args.list.now.words le) c.requires.front

pub returns-then-words-other-clause-words : goal.returns-then-words-other-clause-words
returns-then-words-other-clause-words c =
    let le : length c.args.list.now.words ≤ length c.args.other.now = omega (arith, c.if-words-other.true, ap length c.words.ensures.words) in
    ap (λ v. v.words) c.follow.ensures ∙ sym (longer_first c.args.other.now c.args.list.now.words le)

pub returns-else-words-other-clause-words : goal.returns-else-words-other-clause-words
returns-else-words-other-clause-words c =
    let le : length c.args.other.now ≤ length c.args.list.now.words = omega (arith, c.if-words-other.false, ap length c.words.ensures.words) in
    sym (longer_second c.args.other.now c.args.list.now.words c.requires.front le)
