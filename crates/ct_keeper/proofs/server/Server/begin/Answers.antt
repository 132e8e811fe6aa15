use Rattle.std.proofs.Common.{◌≡◌, ◌∙◌}
use Rattle.ct_word.proofs.Prefixes.{prefix_of_prefix}
use Rattle.ct_arena.specs.Seen.{tally_of}
use Rattle.ct_keeper.proofs.server.Server.begin.Goals as goal

pub returns-clause-longer : goal.returns-clause-longer
returns-clause-longer g c = prefix_of_prefix c.args.pass.words c.locked-keeper.new.pass.words c.begin.result.0.words c.locked-keeper.ensures.longer c.begin.ensures.longer

pub returns-clause-pass : goal.returns-clause-pass
returns-clause-pass g c =
    let now = c.locked-keeper.ensures in
    let same : tally_of c.locked-keeper.new.pass ≡ tally_of c.args.pass = λ i. record { session = now.session i; made = now.made i; mine = now.mine i } in
    c.begin.ensures.pass ∙ same
