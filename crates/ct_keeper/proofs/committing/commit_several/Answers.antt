use Rattle.std.proofs.Common.{map}
use Rattle.ct_word.specs.Reading.{commits_of}
use Rattle.ct_history.specs.Written.{plain_written}
use Rattle.ct_keeper.{proofs.Interning.appended_on, proofs.Making.made_grows}
use Rattle.ct_keeper.proofs.committing.commit_several.Goals as goal

pub returns-clause-appends : goal.returns-clause-appends
returns-clause-appends g c =
    appended_on c.args.list c.args.keeper.now c.applied_all.new.keeper c.append.new.keeper c.args.guest.now c.applied_all.new.guest c.append.new.guest c.requires.place
    c.in_ok-made.ensures.interns c.in_ok-append.ensures.appends

pub returns-clause-made : goal.returns-clause-made
returns-clause-made g c =
    let to = c.in_ok-append.ensures.appends in
    let words = c.args.keeper.now.words in
    made_grows c.applied_all.new.keeper.words c.append.new.keeper.words to.longer to.formed (commits_of words) (map (plain_written words) c.args.changes.now) c.in_ok-made.made
    c.in_ok-made.ensures.made
