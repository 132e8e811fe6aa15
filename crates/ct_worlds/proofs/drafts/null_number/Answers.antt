use Rattle.ct_worlds.proofs.Drawing.{adds_key}
use Rattle.ct_word.specs.contracts.values.NullPartialEq.TheImpl as null_code
use Rattle.ct_worlds.proofs.drafts.null_number.Goals as goal

pub returns-in_ok-add-clause-nulls : goal.returns-in_ok-add-clause-nulls
returns-in_ok-add-clause-nulls c = adds_key null_code.ghosts.eq c.args.draft.now.nulls.keys c.insert_full.new.self.keys c.args.null c.in_ok-at.ensures.keys

pub returns-else-is_new-clause-nulls : goal.returns-else-is_new-clause-nulls
returns-else-is_new-clause-nulls c = adds_key null_code.ghosts.eq c.args.draft.now.nulls.keys c.insert_full.new.self.keys c.args.null c.in_ok-at.ensures.keys
