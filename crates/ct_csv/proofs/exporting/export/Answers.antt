use Rattle.std.{proofs.Common.{sym, ◌∙◌, subst}, specs.Prelude.{All, IsTrue}}
use Rattle.ct_word.specs.WellFormed.{is_place_of}
use Rattle.ct_word.specs.declared.kinds.Class.TheVariants as class
use Rattle.ct_operators.specs.Terms.{TermOfRows}
use Rattle.ct_csv.{specs.Exported.ArePrinted, specs.Renaming.IsLeastFree, proofs.Files.{conditions_of, cells_of, moved_forms, sizes_placed, as_many, too_wide, is_exported}}
use Rattle.ct_csv.proofs.exporting.export.Goals as goal

pub printed-requires-clause-conditions : goal.printed-requires-clause-conditions
printed-requires-clause-conditions c =
    let words = c.args.words.now in
    let rows = c.args.table.now.rows in
    let can = c.requires.table in
    subst (λ rs. All (λ r. IsTrue (is_place_of words class.Cond r.cond)) rs) (sym c.as_slice-rows.ensures) (conditions_of words c.args.table.now.columns rows can)

pub sizes-requires : goal.sizes-requires
sizes-requires c =
    let words = c.args.words.now in
    let rows = c.args.table.now.rows in
    let can = c.requires.table in
    let forms = subst (λ rs. ArePrinted words rs c.in_ok-printed.printed.nodes c.in_ok-printed.printed.roots) c.as_slice-rows.ensures c.in_ok-printed.ensures in
    let moved = moved_forms c.as_slice-nodes.ensures c.as_slice-positions.ensures forms in
    moved.ordered

pub first_past-requires : goal.first_past-requires
first_past-requires c =
    let words = c.args.words.now in
    let rows = c.args.table.now.rows in
    let can = c.requires.table in
    let forms = subst (λ rs. ArePrinted words rs c.in_ok-printed.printed.nodes c.in_ok-printed.printed.roots) c.as_slice-rows.ensures c.in_ok-printed.ensures in
    let moved = moved_forms c.as_slice-nodes.ensures c.as_slice-positions.ensures forms in
    sizes_placed c.as_slice-nodes.result.now c.as_slice-positions.result.now c.as_slice.result.now (c.as_slice.ensures.value ∙ c.in_ok-sizes.ensures) moved.placed

pub returns-in-Some-clause-error : goal.returns-in-Some-clause-error
returns-in-Some-clause-error c =
    let words = c.args.words.now in
    let rows = c.args.table.now.rows in
    let can = c.requires.table in
    let forms = subst (λ rs. ArePrinted words rs c.in_ok-printed.printed.nodes c.in_ok-printed.printed.roots) c.as_slice-rows.ensures c.in_ok-printed.ensures in
    let moved = moved_forms c.as_slice-nodes.ensures c.as_slice-positions.ensures forms in
    too_wide words c.args.table.now.columns rows can c.as_slice-nodes.result.now c.as_slice-positions.result.now moved c.as_slice.result.now (c.as_slice.ensures.value ∙ c.in_ok-sizes.ensures) c.in-Some.row c.in-Some.ensures.some

pub least_free-requires-clause-conditions : goal.least_free-requires-clause-conditions
least_free-requires-clause-conditions c =
    let words = c.args.words.now in
    let rows = c.args.table.now.rows in
    let can = c.requires.table in
    subst (λ rs. All (λ r. IsTrue (is_place_of words class.Cond r.cond)) rs) (sym c.as_slice-rows.ensures) (conditions_of words c.args.table.now.columns rows can)

pub least_free-requires-clause-cells : goal.least_free-requires-clause-cells
least_free-requires-clause-cells c =
    let words = c.args.words.now in
    let rows = c.args.table.now.rows in
    let can = c.requires.table in
    subst (λ rs. All (λ r. All (λ p. IsTrue (is_place_of words class.Term p)) r.cells) rs) (sym c.as_slice-rows.ensures) (cells_of words c.args.table.now.columns rows can)

pub file-requires-clause-terms : goal.file-requires-clause-terms
file-requires-clause-terms c =
    let words = c.args.words.now in
    let rows = c.args.table.now.rows in
    let can = c.requires.table in
    cells_of words c.args.table.now.columns rows can

pub file-requires-clause-ordered : goal.file-requires-clause-ordered
file-requires-clause-ordered c =
    let words = c.args.words.now in
    let rows = c.args.table.now.rows in
    let can = c.requires.table in
    let forms = subst (λ rs. ArePrinted words rs c.in_ok-printed.printed.nodes c.in_ok-printed.printed.roots) c.as_slice-rows.ensures c.in_ok-printed.ensures in
    let moved = moved_forms c.as_slice-nodes.ensures c.as_slice-positions.ensures forms in
    moved.ordered

pub file-requires-clause-placed : goal.file-requires-clause-placed
file-requires-clause-placed c =
    let words = c.args.words.now in
    let rows = c.args.table.now.rows in
    let can = c.requires.table in
    let forms = subst (λ rs. ArePrinted words rs c.in_ok-printed.printed.nodes c.in_ok-printed.printed.roots) c.as_slice-rows.ensures c.in_ok-printed.ensures in
    let moved = moved_forms c.as_slice-nodes.ensures c.as_slice-positions.ensures forms in
    moved.placed

pub file-requires-clause-as_many : goal.file-requires-clause-as_many
file-requires-clause-as_many c =
    let words = c.args.words.now in
    let rows = c.args.table.now.rows in
    let can = c.requires.table in
    let forms = subst (λ rs. ArePrinted words rs c.in_ok-printed.printed.nodes c.in_ok-printed.printed.roots) c.as_slice-rows.ensures c.in_ok-printed.ensures in
    let moved = moved_forms c.as_slice-nodes.ensures c.as_slice-positions.ensures forms in
    as_many words c.args.table.now.columns rows can c.as_slice-nodes.result.now c.as_slice-positions.result.now moved

pub returns-clause-ok : goal.returns-clause-ok
returns-clause-ok c =
    let words = c.args.words.now in
    let rows = c.args.table.now.rows in
    let can = c.requires.table in
    let forms = subst (λ rs. ArePrinted words rs c.in_ok-printed.printed.nodes c.in_ok-printed.printed.roots) c.as_slice-rows.ensures c.in_ok-printed.ensures in
    let moved = moved_forms c.as_slice-nodes.ensures c.as_slice-positions.ensures forms in
    let least = subst (λ rs. IsLeastFree c.in_ok-underscores.underscores (TermOfRows words rs)) c.as_slice-rows.ensures c.in_ok-underscores.ensures in
    is_exported words c.args.table.now.columns rows can c.as_slice-nodes.result.now c.as_slice-positions.result.now moved c.as_slice.result.now (c.as_slice.ensures.value ∙ c.in_ok-sizes.ensures) c.in_default.ensures.none c.in_ok-underscores.underscores least c.in_ok-bytes.bytes.items c.in_ok-bytes.ensures.bytes c.in_ok-bytes.ensures.texts
