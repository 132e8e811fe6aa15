use Rattle.std.{proofs.Common.{◌≡◌, ◌∙◌, ap, get_or}, specs.Prelude.{Ok, Err}}
use Rattle.ct_cnf.{specs.Lists.{node_of, rank_of}, proofs.Steps.rank_found}
use Rattle.ct_cnf.proofs.numbers.Numbers.node.Goals as goal

pub returns-in-Ok-clause-variable : goal.returns-in-Ok-clause-variable
unfolding node_of
returns-in-Ok-clause-variable c =
    let n = c.args.self.now in
    let found : Ok c.in-Ok.rank ≡ Ok (rank_of n.conditions c.args.p) =
    rank_found n.conditions c.args.p (Ok c.in-Ok.rank) c.requires.numbers.rising c.requires.listed (rw (← c.as_slice.ensures) c.in-Ok.ensures.position) in
    let same : c.in-Ok.rank ≡ rank_of n.conditions c.args.p = cc in
    ap (λ xs. get_or xs c.in-Ok.rank 0) c.as_slice-in-Ok.ensures ∙ ap (λ k. get_or n.nodes k 0) same

pub returns-in-Err-clause-variable : goal.returns-in-Err-clause-variable
returns-in-Err-clause-variable c =
    let n = c.args.self.now in
    let found : Err c.in-Err.field-0 ≡ Ok (rank_of n.conditions c.args.p) =
    rank_found n.conditions c.args.p (Err c.in-Err.field-0) c.requires.numbers.rising c.requires.listed (rw (← c.as_slice.ensures) c.in-Err.ensures.position) in
    cc
