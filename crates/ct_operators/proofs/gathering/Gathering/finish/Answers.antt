use Rattle.std.{proofs.Common.{◌∙◌, subst, sym, ap}, specs.List.filter}
use Rattle.ct_operators.{specs.Merging.{IsGathered, is_possible}, proofs.Gathered.gathered_all}
use Rattle.ct_operators.proofs.gathering.Gathering.finish.Goals as goal

pub returns-clause-gathered : goal.returns-clause-gathered
returns-clause-gathered c words width done begins formed s =
    subst (IsGathered words width done) (sym (c.in_ok-rows.ensures ∙ ap (filter is_possible) c.self.view_is)) (gathered_all words width done c.args.self begins formed s)
