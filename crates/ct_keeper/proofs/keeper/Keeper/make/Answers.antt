use Rattle.std.{proofs.Common.{[], length, ap, sym, subst, ◌∙◌}, specs.Arc.arc_value}
use Rattle.ct_query.specs.Reads.{last}
use Rattle.ct_table.{specs.Snapshot.IsSnapshot, proofs.Snapshots.first_snapshot}
use Rattle.ct_keeper.proofs.keeper.Keeper.make.Goals as goal

pub invariant_of-result : goal.invariant_of-result
invariant_of-result g c =
    let words = c.args.pass.words in
    let l = c.in_ok-latest.latest in
    let is = c.in_ok-latest.ensures in (
      c.requires.guest,
      c.requires.enrolled,
      c.requires.ended,
      record {
        version = is.version ∙ ap (λ h. length h) (sym c.requires.none);
        writers = λ r. is.writers r ∙ ap (λ h. last h r) (sym c.requires.none);
        is =
            subst (λ v. IsSnapshot words v l.content.tables l.content.global (arc_value l.kept)) (sym is.version)
            (subst (λ ts. IsSnapshot words 0 ts l.content.global (arc_value l.kept)) (sym is.tables)
            (subst (λ n. IsSnapshot words 0 [] n (arc_value l.kept)) (sym is.global)
            (subst (λ w. IsSnapshot words 0 [] 0 w) (sym is.kept) (first_snapshot words c.words.ensures.begins c.words.ensures.formed))));
      },
    )
