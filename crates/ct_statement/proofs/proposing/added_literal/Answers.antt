use Rattle.std.{proofs.Common.{[], arith}, specs.Prelude.None}
use Rattle.ct_word.proofs.Prefixes.{prefix_same}
use Rattle.ct_query.specs.Views.{action_of}
use Rattle.ct_condition.proofs.Writes.{writes_both, writes_of}
use Rattle.ct_statement.{specs.Sight.{actions_before, history_of}, proofs.Listed.proposal, proofs.Literal.{hands_none, takes_none}, proofs.Making.{added_within, taking_within}}
use Rattle.ct_statement.proofs.proposing.added_literal.Goals as goal

pub encode-encoded-requires-clause-handed : goal.encode-encoded-requires-clause-handed
encode-encoded-requires-clause-handed g c = hands_none (action_of c.args.action.now) c.requires.literal

pub returns-in-Ok-encoded-clause-proposes : goal.returns-in-Ok-encoded-clause-proposes
returns-in-Ok-encoded-clause-proposes g c = λ s is fits.
    let a = action_of c.args.action.now in
    let started = c.begun.new.pass.words in
    let new = c.encode-encoded.new.pass.words in
    let changes = c.in-Ok-encoded.changes in
    proposal c.args.pass.now.words started c.in-Ok.ensures.writes.longer s is a fits
    started new (prefix_same started) c.in-Ok-encoded.ensures.longer c.words-2.ensures.formed c.requires.written None c.in-Ok.list changes []
    c.in-Ok.ensures.place c.in-Ok.ensures.same (takes_none started s.global (history_of started s) (actions_before s) a c.requires.literal) (omega arith)
    c.in-Ok-encoded.ensures.adds c.in-Ok-encoded.ensures.place

pub returns-in-Err-clause-left : goal.returns-in-Err-clause-left
returns-in-Err-clause-left g c = λ counts widths.
    let some = taking_within counts widths (action_of c.args.action.now) in
    let one = c.in-Err.ensures.writes.made in
    omega (arith, some, one)

pub returns-in-Ok-encoded-clause-left : goal.returns-in-Ok-encoded-clause-left
returns-in-Ok-encoded-clause-left g c = λ counts widths.
    let started = c.begun.new.pass.words in
    let a = action_of c.args.action.now in
    let one = c.in-Ok.ensures.writes.made in
    let counted = c.words-2.ensures.counted in
    let small = c.words-2.ensures.small in
    let all = added_within started 0 [] [] counts widths c.args.pass.now.made c.begun.new.pass.made c.begun.new.pass.made c.encode-encoded.new.pass.made (omega (arith, one)) (omega (arith, counted, small))
    a [] (takes_none started 0 [] [] a c.requires.literal) (omega arith) (omega arith) c.encode-encoded.ensures.made in
    omega (arith, all)

pub returns-in-Err-clause-writes : goal.returns-in-Err-clause-writes
returns-in-Err-clause-writes g c = let left = returns-in-Err-clause-left g c (λ t. 0) (λ t. 0) in writes_of c.in-Err.ensures.writes (omega (arith, left))

pub returns-in-Ok-encoded-clause-writes : goal.returns-in-Ok-encoded-clause-writes
returns-in-Ok-encoded-clause-writes g c =
    let left = returns-in-Ok-encoded-clause-left g c (λ t. 0) (λ t. 0) in writes_of (writes_both c.in-Ok.ensures.writes c.in-Ok-encoded.ensures.writes) (omega (arith, left))
