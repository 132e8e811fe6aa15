use Rattle.std.proofs.Common.{refl, ◌∙◌, ◌+◌, arith, rules}
use Rattle.ct_condition.specs.Writes.{charge}
use Rattle.ct_keeper.{specs.Faults.is_full, proofs.Interning.{interned_on, interned_none}}
use Rattle.ct_keeper.proofs.Making.{applied_none, next_rows, next_global, next_written, next_fits, words_on, words_within, applied_more, applied_to_end, first_fewer}
use Rattle.ct_keeper.proofs.committing.applied_all.Goals as goal

pub loop-change-init : goal.loop-change-init
loop-change-init g c =
    let words = c.args.keeper.now.words in
    record {
      interns = interned_none c.args.keeper.now c.args.guest.now c.requires.guest c.words.ensures.formed;
      applied = applied_none words c.args.content.now c.args.changes.now c.requires.can (record { tables = c.alone-tables.result; global = c.args.content.now.global })
          (c.alone-tables.ensures ∙ c.in_ok-copied.ensures ∙ c.db.ensures) refl;
      words = omega arith;
    }

pub applied-requires-clause-tables : goal.applied-requires-clause-tables
applied-requires-clause-tables g c =
    let l = c.loop-change in
    next_rows c.args.keeper.now.words c.args.content.now c.args.changes.now c.requires.can l.keeper.words l.invariant.interns.longer l.change-index l.made l.invariant.applied
    c.change-item.result c.change-item.is c.loop-change-test.true

pub applied-requires-clause-global : goal.applied-requires-clause-global
applied-requires-clause-global g c =
    let l = c.loop-change in
    next_global c.args.keeper.now.words c.args.content.now c.args.changes.now c.requires.can l.keeper.words l.invariant.interns.longer l.change-index l.made l.invariant.applied
    c.change-item.result c.change-item.is c.loop-change-test.true

pub applied-requires-clause-written : goal.applied-requires-clause-written
applied-requires-clause-written g c =
    let l = c.loop-change in
    next_written c.args.keeper.now.words c.args.content.now c.args.changes.now c.requires.can l.keeper.words l.invariant.interns.longer l.change-index l.made l.invariant.applied
    c.change-item.result c.change-item.is c.loop-change-test.true

pub applied-requires-clause-fitting : goal.applied-requires-clause-fitting
applied-requires-clause-fitting g c =
    let l = c.loop-change in
    next_fits c.args.keeper.now.words c.args.content.now c.args.changes.now c.requires.can l.keeper.words l.invariant.interns.longer l.change-index l.made l.invariant.applied
    c.change-item.result c.change-item.is c.loop-change-test.true

pub loop-change-preserved : goal.loop-change-preserved
loop-change-preserved g c =
    let l = c.loop-change in
    let by = c.in_ok-made.ensures in
    record {
      interns = interned_on c.args.keeper.now l.keeper c.applied.new.keeper c.args.guest.now l.guest c.applied.new.guest l.invariant.interns by.interns;
      applied = applied_more c.args.keeper.now.words c.args.content.now c.args.changes.now c.requires.can l.keeper.words l.invariant.interns.longer l.change-index l.made l.invariant.applied
          c.change-item.result c.change-item.is c.loop-change-test.true c.applied.new.keeper.words by.interns.longer by.interns.formed c.in_ok-made.made by.after;
      words = words_on c.args.keeper.now.words c.args.content.now c.args.changes.now c.requires.can l.keeper.words l.invariant.interns.longer l.change-index l.made l.invariant.applied
          c.change-item.result c.change-item.is c.loop-change-test.true c.args.guest.now.made l.guest.made c.applied.new.guest.made l.invariant.words
          (let made = by.words in omega (arith, made));
    }

pub returns-in_err-made-clause-words : goal.returns-in_err-made-clause-words
returns-in_err-made-clause-words g c =
    let l = c.loop-change in
    words_within c.args.keeper.now.words c.args.content.now c.args.changes.now c.requires.can l.keeper.words l.invariant.interns.longer l.change-index l.made l.invariant.applied
    c.change-item.result c.change-item.is c.loop-change-test.true c.args.guest.now.made l.guest.made
    (c.applied.new.guest.made + charge (is_full c.from_residual-in_err-made.result)) l.invariant.words (search rules)

pub returns-clause-made : goal.returns-clause-made
returns-clause-made g c =
    let l = c.loop-change in
    applied_to_end c.args.keeper.now.words c.args.content.now c.args.changes.now c.requires.can l.keeper.words l.change-index l.made c.loop-change-test.false l.invariant.applied

pub returns-clause-words : goal.returns-clause-words
returns-clause-words g c =
    let l = c.loop-change in
    let fewer = first_fewer c.args.keeper.now.words c.args.content.now c.args.changes.now c.requires.can l.change-index in
    let made = l.invariant.words in
    omega (arith, fewer, made)
