use Rattle.ct_worlds.proofs.Drawing.{adds_key}
use Rattle.ct_word.specs.contracts.values.ValuePartialEq.TheImpl as value_code
use Rattle.ct_worlds.proofs.drafts.put_value.Goals as goal

pub returns-clause-values : goal.returns-clause-values
returns-clause-values c = adds_key value_code.ghosts.eq c.args.draft.now.values.keys c.insert_full.new.self.keys c.args.value c.in_ok-number.ensures.keys
