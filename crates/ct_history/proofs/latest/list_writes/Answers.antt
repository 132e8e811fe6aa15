use Rattle.std.{proofs.Common.{sym, ◌∙◌, ap}, specs.List.list_any}
use Rattle.ct_query.specs.Reads.{writes}
use Rattle.ct_history.{proofs.ItemLists.{last_change, no_change}, proofs.Writers.any_last}
use Rattle.ct_history.proofs.latest.list_writes.Goals as goal

pub change_writes-requires-clause-place : goal.change_writes-requires-clause-place
change_writes-requires-clause-place c =
    (last_change c.args.words.now c.loop-word.rest c.word_at-word.result c.word_at-word.ensures c.loop-word.invariant.placed (sym c.is_longer.ensures ∙ c.if-not-is_longer.false)).2

pub loop-word-preserved : goal.loop-word-preserved
loop-word-preserved c =
    let more = last_change c.args.words.now c.loop-word.rest c.word_at-word.result c.word_at-word.ensures c.loop-word.invariant.placed (sym c.is_longer.ensures ∙ c.if-not-is_longer.false) in
    record { placed = more.1; same = any_last (λ x. writes x c.args.read.now) _ _ _ _ _ c.loop-word.invariant.same more.0 c.if-change_writes.ensures }

pub returns-then-change_writes : goal.returns-then-change_writes
returns-then-change_writes c =
    let more = last_change c.args.words.now c.loop-word.rest c.word_at-word.result c.word_at-word.ensures c.loop-word.invariant.placed (sym c.is_longer.ensures ∙ c.if-not-is_longer.false) in
    sym (any_last (λ x. writes x c.args.read.now) _ _ _ _ _ c.loop-word.invariant.same more.0 c.if-change_writes.ensures)

pub returns-then-not-is_longer : goal.returns-then-not-is_longer
returns-then-not-is_longer c =
    sym (c.loop-word.invariant.same
    ∙ ap (list_any (λ x. writes x c.args.read.now)) (no_change c.args.words.now c.loop-word.rest c.word_at-word.result c.word_at-word.ensures c.loop-word.invariant.placed (sym c.is_longer.ensures ∙ c.if-not-is_longer.true)))
