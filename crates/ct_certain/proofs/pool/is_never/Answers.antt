use Rattle.std.{proofs.Common.{sym, ◌∙◌}, proofs.lemmas.Bool.eqb-true, specs.Prelude.nat_eq, proofs.lemmas.List.Elements.All-contains}
use Rattle.indexmap.proofs.CallerLemmas.{Contains-list_any}
use Rattle.ct_certain.specs.Answered.{IsNever}
use Rattle.ct_certain.proofs.pool.is_never.Goals as goal

pub returns : goal.returns
returns c = λ words global all e. All-contains (IsNever words global) c.args.never.now.keys c.args.row.now.cond all
    (Contains-list_any nat_eq eqb-true c.args.never.now.keys c.args.row.now.cond (sym c.contains.ensures ∙ e))
