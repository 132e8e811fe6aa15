use Rattle.std.{proofs.Common.{sym, subst}, specs.Prelude.All}
use Rattle.std.proofs.lemmas.List.Elements.{All-push}
use Rattle.ct_word.proofs.Prefixes.{place_within}
use Rattle.ct_worlds.proofs.Shaped.{shaped_as}
use Rattle.ct_update.{specs.Needing.IsNeeded, proofs.Equalities.equal_needed}
use Rattle.ct_word.specs.declared.kinds.Class.TheVariants as class
use Rattle.ct_update.proofs.needing.add_equal.Goals as goal

pub shape_at-requires : goal.shape_at-requires
shape_at-requires c = place_within c.args.words.now class.Cond c.args.cond c.requires.cond

pub returns-in_ok-push : goal.returns-in_ok-push
returns-in_ok-push c root part all =
    let words = c.args.words.now in
    let cond = c.args.cond in
    subst (All (IsNeeded words root)) (sym c.in_ok-push.ensures.items)
    (All-push (IsNeeded words root) c.args.pairs.now.items (c.in-Equal.s, c.in-Equal.t) all
    (equal_needed words root cond part c.in-Equal.s c.in-Equal.t (shaped_as words cond c.requires.formed c.requires.cond c.shape_at.ensures c.in-Equal.is)))
