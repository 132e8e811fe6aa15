use Rattle.std.proofs.Common.{◌∙◌}
use Rattle.ct_word.{specs.Word.kind_with, proofs.Packed.kind_at}
use Rattle.ct_word.proofs.words.kind.Goals as goal

pub returns-then-code-eq0 : goal.returns-then-code-eq0
unfolding kind_with
returns-then-code-eq0 c = rw c.if-code-eq0.true

pub returns : goal.returns
returns c = c.entry.ensures ∙ kind_at _ c.if-code-eq0.false
