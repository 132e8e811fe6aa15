use Rattle.std.proofs.Common.{◌∙◌, ap, sym, Some}
use Rattle.ct_trail.specs.declared.log.Entry.{Entry}
use Rattle.ct_sat.proofs.Verdicts.{refuted_at}
use Rattle.ct_sat.proofs.search.is_refuted.Goals as goal

pub returns-in-Learned : goal.returns-in-Learned
returns-in-Learned c = λ e.
    refuted_at c.args.entries.now c.in-Learned.step c.is_empty.result c.is_empty.ensures (ap (λ (x : Entry). Some x) (sym c.in-Learned.is) ∙ c.in-Some.ensures.value) e
