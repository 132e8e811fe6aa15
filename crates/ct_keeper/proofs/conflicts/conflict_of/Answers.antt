use Rattle.std.{proofs.Common.{sym, take, subst, refl, ◌∙◌, arith, take_all}, proofs.lemmas.List.Elements.All-nil}
use Rattle.ct_word.specs.Reading.{commits_of}
use Rattle.ct_query.specs.Reads.{last}
use Rattle.ct_keeper.{specs.Offers.{AreUnchanged, IsConflict}, proofs.Unchanged.{all_unchanged, one_more, first_written}}
use Rattle.ct_keeper.proofs.conflicts.conflict_of.Goals as goal

pub returns-then-base-latest : goal.returns-then-base-latest
returns-then-base-latest c = λ words is. all_unchanged (commits_of words) c.args.base c.args.reads.now (omega (arith, is.version, c.if-base-latest.true))

pub loop-read-init : goal.loop-read-init
loop-read-init c = λ words is. All-nil _

pub loop-read-preserved : goal.loop-read-preserved
loop-read-preserved c = λ words is.
    one_more (commits_of words) c.args.base c.args.reads.now c.loop-read.read-index c.read-item.result c.read-item.is c.loop-read-test.true (c.loop-read.invariant words is)
    (omega (arith, c.if-base-now.false, c.last-now.ensures, is.writers c.read-item.result))

pub returns-then-base-now : goal.returns-then-base-now
returns-then-base-now c = λ words is.
    let h = commits_of words in
    subst (λ r. IsConflict h c.args.base c.args.reads.now r (last (take c.args.base h) r) c.last-now.result c.args.latest.now.version) (sym c.in_ok-table.ensures)
    (record {
      first = first_written h c.args.base c.args.reads.now c.loop-read.read-index c.read-item.result c.read-item.is c.loop-read-test.true (c.loop-read.invariant words is)
          (omega (arith, c.if-base-now.true, c.last-now.ensures, is.writers c.read-item.result));
      at_is = is.version;
      now_is = c.last-now.ensures ∙ is.writers c.read-item.result;
      was_is = refl;
    })

pub returns : goal.returns
returns c = λ words is.
    subst (AreUnchanged (commits_of words) c.args.base) (take_all c.loop-read.read-index c.args.reads.now (omega arith)) (c.loop-read.invariant words is)
