use Rattle.std.proofs.Common.{◌∙◌, List, ℕ, sym, subst}
use Rattle.std.proofs.lemmas.Result.{on_ok_weaker}
use Rattle.ct_decide.{specs.Asking.IsPathOver, proofs.Askings.no_more_left, proofs.Triangles.known_over}
use Rattle.ct_decide.proofs.known.add_known.Goals as goal

pub add_path-requires-clause-over : goal.add_path-requires-clause-over
add_path-requires-clause-over c =
    subst (λ (p : List ℕ). IsPathOver c.args.words.now c.args.asking.now.atoms.items p) (sym (c.from_vec.ensures ∙ c.in_ok-path.ensures.items))
    (known_over c.args.words.now c.args.aim c.args.asking.now c.args.first c.args.middle c.args.last c.requires (c.are_known.ensures c.if-not-are_known.false))

pub returns-clause-fewer : goal.returns-clause-fewer
returns-clause-fewer c = on_ok_weaker _ (no_more_left c.args.words.now _ c.args.asking.now _) c.add_path.ensures.adds
