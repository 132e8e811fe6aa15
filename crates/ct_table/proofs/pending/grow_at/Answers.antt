use Rattle.std.{proofs.Common.{◌≡◌, map, ap, sym, subst, ◌∙◌}, proofs.lemmas.Result.{IfOk-weaker, on_ok_weaker, on_err_weaker}}
use Rattle.ct_table.{specs.Denotes.with_table, specs.Pending.IsApart, specs.Shared.{view_of, entry_of}}
use Rattle.ct_table.proofs.Shared.{found_entry, its_view, on_ok_both, grown_put, grown_headings, grown_back, grown_same}
use Rattle.ct_table.proofs.pending.grow_at.Goals as goal

pub grow-requires : goal.grow-requires
grow-requires c =
    let name = c.args.name.now in
    record { apart = subst IsApart (found_entry name c.args.tables.now.entries ∙ ap (its_view name) (sym c.in-Some.ensures.value)) c.requires.apart }

pub unreachable-requires : goal.unreachable-requires
unreachable-requires c =
    let name = c.args.name.now in
    subst IsApart (found_entry name c.args.tables.now.entries ∙ ap (its_view name) (sym c.in-None.ensures.value)) c.requires.apart

pub returns-clause-after : goal.returns-clause-after
returns-clause-after c =
    let w = c.grow.new.self in
    on_ok_both c.grow.result (grown_put c.args.name.now c.in-Some.table.now w c.args.tables.now.entries _ (sym c.in-Some.ensures.value) (c.get_mut.follows.holds w).0 c.args.puts.now) c.grow.ensures.columns c.grow.ensures.rows

pub returns-clause-before : goal.returns-clause-before
returns-clause-before c =
    let name = c.args.name.now in
    let es = c.args.tables.now.entries in
    let w = c.grow.new.self in
    IfOk-weaker c.grow.result _ (λ old. with_table (map entry_of (c.get_mut.follows.lender w).entries) (view_of name old) ≡ map entry_of es)
    (grown_back name c.in-Some.table.now w es _ (sym c.in-Some.ensures.value) (c.get_mut.follows.holds w).0) c.grow.ensures.before

pub returns-clause-headings : goal.returns-clause-headings
returns-clause-headings c =
    let w = c.grow.new.self in
    on_ok_weaker c.grow.result (grown_headings c.args.name.now c.in-Some.table.now w c.args.tables.now.entries _ (sym c.in-Some.ensures.value) (c.get_mut.follows.holds w).0) c.grow.ensures.columns

pub returns-clause-same : goal.returns-clause-same
returns-clause-same c =
    let w = c.grow.new.self in
    on_err_weaker c.grow.result (grown_same c.args.name.now c.in-Some.table.now w c.args.tables.now.entries _ (sym c.in-Some.ensures.value) (c.get_mut.follows.holds w).0) c.grow.ensures.same
