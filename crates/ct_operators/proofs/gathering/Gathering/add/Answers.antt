use Rattle.std.{proofs.Common.{◌≡◌, ◌∙◌, length, subst, sym, ap}, specs.Prelude.{All, is_some, if◌then◌else◌}}
use Rattle.std.proofs.lemmas.Result.{err_from_is_err_and}
use Rattle.indexmap.specs.IndexMap.{set_value_at}
use Rattle.ct_word.proofs.Prefixes.{prefix_same}
use Rattle.ct_condition.proofs.Writes.{writes_as}
use Rattle.ct_operators.{specs.Tables.IsRow, specs.Merging.{rows_of, Merged, known}, proofs.Merges.{found_condition, entry_merged, entry_again, entry_put, known_entry}}
use Rattle.ct_operators.proofs.Gathered.{gathered_more}
use Rattle.ct_operators.proofs.gathering.Gathering.add.Goals.{After-either}
use Rattle.ct_operators.proofs.gathering.Gathering.add.Goals as goal

pub either-requires-clause-left : goal.either-requires-clause-left
either-requires-clause-left g c =
    found_condition (g.I.Interner.list c.args.pass.now) (length c.args.row.cells) c.args.row.cells c.in-Some.first c.self.inside.rows.entries
    (subst (All (IsRow (g.I.Interner.list c.args.pass.now) (length c.args.row.cells))) (sym c.self.view_is) c.requires.rows) (sym c.in_ok-place.ensures.old ∙ c.in-Some.is)

-- the cells have an entry
one : (g : _) (c : After-either g) → 1 ≡ known c.args.row.cells c.args.self.now
one g c =
    sym (subst (λ rs. known c.args.row.cells rs ≡ 1) c.self.view_is
    (known_entry c.args.row.cells c.self.inside.rows.entries ∙ ap (λ o. if is_some o then 1 else 0) (sym c.in_ok-place.ensures.old ∙ c.in-Some.is)))

pub returns-in_ok-both-clause-merged : goal.returns-in_ok-both-clause-merged
returns-in_ok-both-clause-merged g c =
    let old = g.I.Interner.list c.args.pass.now in
    let new = g.I.Interner.list c.either.new.pass in
    let es = c.self.inside.rows.entries in
    let put = c.insert_full.new.self.entries in
    let place = c.in_ok-place.place in
    let both = c.in_ok-both.both in
    let r = c.args.row in
    subst (λ b. Merged old new b r (rows_of (set_value_at put place both))) c.self.view_is
    (subst (λ l. Merged old new (rows_of es) r (rows_of l)) (sym (entry_again r.cells r.cond both place es put c.in_ok-place.ensures.entries c.in_ok-place.ensures.index))
    (entry_merged old new r.cells r.cond c.in-Some.first both es (sym c.in_ok-place.ensures.old ∙ c.in-Some.is) c.in_ok-both.ensures.truth c.in_ok-both.ensures.terms))

pub returns-in_default-clause-merged : goal.returns-in_default-clause-merged
returns-in_default-clause-merged g c =
    let old = g.I.Interner.list c.args.pass.now in
    let es = c.self.inside.rows.entries in
    let r = c.args.row in
    subst (λ b. Merged old old b r (rows_of c.insert_full.new.self.entries)) c.self.view_is
    (subst (λ l. Merged old old (rows_of es) r (rows_of l)) (sym c.in_ok-place.ensures.entries)
    (entry_put old old r.cells r.cond es (sym c.in_ok-place.ensures.old ∙ c.in_default.is)))

pub returns-in_ok-both-clause-gathers : goal.returns-in_ok-both-clause-gathers
returns-in_ok-both-clause-gathers g c done so_far =
    gathered_more _ _ c.either.ensures.longer c.words.ensures.formed _ done c.args.self.now _ c.args.row c.requires.row so_far (returns-in_ok-both-clause-merged g c)

pub returns-in_default-clause-gathers : goal.returns-in_default-clause-gathers
returns-in_default-clause-gathers g c done so_far =
    gathered_more _ _ (prefix_same (g.I.Interner.list c.args.pass.now)) c.words.ensures.formed _ done c.args.self.now _ c.args.row c.requires.row so_far (returns-in_default-clause-merged g c)

pub returns-in_ok-both-clause-writes : goal.returns-in_ok-both-clause-writes
returns-in_ok-both-clause-writes g c =
    writes_as (one g (goal.at.returns-in_ok-both-clause-writes g c).After-either) c.in_ok-both.ensures.writes

pub returns-in_err-both-clause-writes : goal.returns-in_err-both-clause-writes
returns-in_err-both-clause-writes g c =
    let exit = err_from_is_err_and c.from_residual-in_err-both.result c.from_residual-in_err-both.ensures.1 in
    rw (exit.1, exit.2) (writes_as (one g (goal.at.returns-in_err-both-clause-writes g c).After-either) c.in_err-both.ensures.writes)
