use Rattle.ct_word.proofs.Prefixes.{place_within}
use Rattle.ct_word.specs.declared.kinds.Class.TheVariants as class
use Rattle.ct_update.proofs.needing.and_at.Goals as goal

pub shape_at-requires : goal.shape_at-requires
shape_at-requires c = place_within c.args.words.now class.Cond c.args.cond c.requires
