use Rattle.std.proofs.Common.{◌≡◌, List, ◌∷◌, [], ap, sym, ◌∙◌, arith, length}
use Rattle.ct_query.{specs.declared.action.Read.Read, specs.Reads.with_reads}
use Rattle.ct_transaction.proofs.extending.with_reads.Goals as goal

-- one read is added, and then the rest
one_added : (all all' : List Read) (read : Read) (items rest : List Read) (end : List Read) → with_reads all items ≡ end → items ≡ read ∷ rest → all' ≡ with_reads all (read ∷ []) → with_reads all' rest ≡ end
one_added all all' read items rest end e i a = ap (λ l. with_reads l rest) a ∙ sym (ap (with_reads all) i) ∙ e

pub loop-read-preserved : goal.loop-read-preserved
loop-read-preserved c =
    let steps = c.in-Some.ensures.steps in
    let i = c.loop-read.invariant in
    record {
      added = one_added c.loop-read.all.items c.add_reserved.new.reads.items c.in-Some.read _ _ _ i.added steps.0 c.add_reserved.ensures.items;
      room = omega (arith, steps.1, i.room);
      count = omega (arith, i.count, steps.1, ap (λ l. length l) steps.0);
    }
