use Rattle.std.{proofs.Common.{◌≡◌, map, ap, sym, ◌∙◌}, specs.Prelude.slice_get}
use Rattle.ct_word.specs.Value.{same_text}
use Rattle.ct_headings.specs.Named.{heading_in}
use Rattle.ct_table.{specs.Denotes.heading_of, proofs.Entries.missing, proofs.Shared.{headings_in, heading_at, heading_missing, found_as, position_is}}
use Rattle.ct_table.proofs.db.DbHeadings.heading.Goals as goal

pub returns-in-Some : goal.returns-in-Some
returns-in-Some c =
    let name = c.args.name.now in
    let es = c.self.inside.tables.entries in
    let place = c.in-Some.place in
    let hs = c.as_slice.result.now in
    let same : hs ≡ headings_in es = c.as_slice.ensures ∙ c.self.invariant.1 in
    found_as hs place c.get.result (heading_in (map heading_of c.args.self.now) name) c.get.ensures.lookup.3 c.get.ensures.lookup.1
    (ap (λ l. slice_get l place) same ∙ heading_at name es place (position_is (same_text name) (map (λ e. e.0) es) place c.in-Some.ensures.index) (sym c.in-Some.ensures.found)
    ∙ ap (λ d. heading_in (map heading_of d) name) c.self.view_is)

pub returns-in-None : goal.returns-in-None
returns-in-None c =
    let name = c.args.name.now in
    let es = c.self.inside.tables.entries in
    ap (λ d. heading_in (map heading_of d) name) (sym c.self.view_is) ∙ heading_missing name es (missing _ (sym c.in-None.ensures.found))
