use Rattle.std.proofs.Common.{◌+◌, if◌then◌else◌, ap, refl, ◌∙◌, arith}
use Rattle.ct_keeper.{specs.Writers.{is_written, last_in}, proofs.Applying.{few_commits, can_apply, latest_next}}
use Rattle.ct_keeper.proofs.offering.commit_offer.Goals as goal

pub commit_all-requires-clause-can : goal.commit_all-requires-clause-can
commit_all-requires-clause-can g c =
    can_apply c.args.keeper.now.words c.args.guest.now c.args.offer.now c.args.changes.now c.requires.offer c.requires.unchanged c.requires.written c.requires.changes
    c.args.latest.now c.requires.latest

pub overflow_add-latest : goal.overflow_add-latest
overflow_add-latest g c = omega (arith, few_commits c.args.keeper.now.words, c.requires.latest.version, c.words.ensures.small)

pub returns-clause-latest : goal.returns-clause-latest
returns-clause-latest g c =
    let to = c.in_ok-commit_all.ensures.appends in
    latest_next c.args.keeper.now.words c.args.guest.now c.args.offer.now c.args.changes.now c.requires.offer c.requires.unchanged c.requires.written c.requires.changes
    c.args.latest.now c.requires.latest c.commit_all.new.keeper.words to.longer to.formed to.commits
    (record { content = c.commit_all.new.content; kept = c.in_ok-kept.kept; version = c.args.latest.now.version + 1; writers = c.note.new.self })
    c.in_ok-commit_all.ensures.made c.in_ok-kept.ensures refl
    (λ r. c.note.ensures r ∙ ap (λ b. if is_written c.args.names.items b r then c.args.latest.now.version + 1 else last_in c.args.latest.now.writers r) c.asserts.ensures
    ∙ ap (λ b. if b then c.args.latest.now.version + 1 else last_in c.args.latest.now.writers r) (c.requires.names r))
