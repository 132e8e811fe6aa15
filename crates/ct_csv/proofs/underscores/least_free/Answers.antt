use Rattle.std.proofs.Common.{◌≡◌, ◌+◌, ◌++◌, ◌∷◌, ◌∙◌, [], ap, take, Some, subst, sym, arith}
use Rattle.std.{specs.Prelude.{All, IfSome, IsTrue}, specs.List.Contains, proofs.lemmas.List.{take_all, get_or_default}, proofs.lemmas.List.Elements.All-contains}
use Rattle.ct_word.{specs.Stands.TermBelow, specs.WellFormed.is_place_of, proofs.Items.first_item}
use Rattle.ct_word.specs.declared.kinds.Class.TheVariants as class
use Rattle.ct_csv.{specs.Underscores.free_of_terms, proofs.Marks.{IsFreeBelow, places_of_rows, place_of_row, none_seen, seen_again, condition_seen, row_seen, last_there, least_of}}
use Rattle.ct_csv.proofs.underscores.least_free.Goals as goal
use Rattle.ct_csv.proofs.underscores.least_free.Goals.{then-not-is_last+in_ok-free, else-not-is_last}

pub loop-row-init : goal.loop-row-init
loop-row-init c = (none_seen (TermBelow c.args.words.now) (places_of_rows c.args.rows.now), tt)

pub loop-row-preserved : goal.loop-row-preserved
loop-row-preserved c =
    let words = c.args.words.now in
    let rows = c.args.rows.now in
    let i = c.loop-row.row-index in
    let row = c.row-item.result in
    let seen = places_of_rows (take i rows) in
    let there : Contains rows row = (i, c.loop-row-test.true, get_or_default rows i row _ c.loop-row-test.true ∙ sym c.row-item.is) in
    let among = place_of_row rows row row.cond there (first_item row.cells row.cond) in
    let next : IsFreeBelow words rows (seen ++ row.cond ∷ []) c.if-not-is_last.free × (c.if-not-is_last.last ≡ Some row.cond) =
    elim c.if-not-is_last.branch [
      | then-not-is_last+in_ok-free w ↦
          (subst (λ n. IsFreeBelow words rows (seen ++ row.cond ∷ []) n) (sym w.free-is) (condition_seen words c.requires.formed rows seen c.loop-row.free _ row.cond c.loop-row.invariant.0 among w.in_ok-free.ensures), w.last-is)
      | else-not-is_last w ↦
          let last = c.is_last.ensures w.if-not-is_last.false in (
            subst (λ n. IsFreeBelow words rows (seen ++ row.cond ∷ []) n) (sym w.free-is)
                (seen_again words c.requires.formed rows seen c.loop-row.free row.cond c.loop-row.invariant.0 (subst (λ o. IfSome o (Contains seen)) last c.loop-row.invariant.1)),
            w.last-is ∙ last,
          )
    ] in (
      row_seen words c.requires.formed rows i c.loop-row.free c.if-not-is_last.free c.in_ok-free-2.free row _ c.loop-row-test.true c.row-item.is
          (All-contains (λ r. All (λ p. IsTrue (is_place_of words class.Term p)) r.cells) rows row c.requires.cells there) next.0
          (c.in_ok-free-2.ensures ∙ ap (free_of_terms words c.if-not-is_last.free) c.as_slice.ensures),
      subst (λ o. IfSome o (Contains (places_of_rows (take (i + 1) rows)))) (sym next.1) (last_there rows i row _ c.loop-row-test.true c.row-item.is),
    )

pub returns : goal.returns
returns c =
    let rows = c.args.rows.now in
    least_of c.args.words.now rows c.loop-row.free
    (subst (λ xs. IsFreeBelow c.args.words.now rows (places_of_rows xs) c.loop-row.free) (take_all c.loop-row.row-index rows (omega (arith, c.loop-row-test.false))) c.loop-row.invariant.0)
