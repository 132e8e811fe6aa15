use Rattle.std.proofs.Common.{[], ◌∷◌, ◌++◌, map, ap, sym, ◌∙◌}
use Rattle.ct_word.{specs.Reading.term_at, specs.Value.{same_tuple, tuple_at}}
use Rattle.ct_operators.specs.Tables.{firsts}
use Rattle.ct_certain.proofs.Candidates.{first_put, worth_none, worth_one}
use Rattle.ct_certain.proofs.tuples.add_tuple.Goals as goal

pub returns-then-not-holds : goal.returns-then-not-holds
returns-then-not-holds c = λ before e.
    let words = c.args.words.now in
    let v = c.args.world.now in
    let row = c.args.row.now in
    e ∙ ap (firsts same_tuple) (worth_none words v row before (sym c.if-not-holds.true ∙ c.holds.ensures words v c.requires.worths c.requires.row.condition))

pub returns : goal.returns
returns c = λ before e.
    let words = c.args.words.now in
    let v = c.args.world.now in
    let row = c.args.row.now in
    let is = c.in_ok-tuple.ensures ∙ ap (λ ps. tuple_at v (map (term_at words) ps)) c.as_slice.ensures in
    first_put before c.in_ok-tuple.tuple c.args.tuples.now.keys c.insert.new.self.keys e c.in_ok-insert.ensures.keys
    ∙ ap (λ t. firsts same_tuple (before ++ t ∷ [])) is
    ∙ ap (firsts same_tuple) (worth_one words v row before (sym c.if-not-holds.false ∙ c.holds.ensures words v c.requires.worths c.requires.row.condition))
