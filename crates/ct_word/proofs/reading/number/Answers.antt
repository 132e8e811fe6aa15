use Rattle.std.proofs.Common.{refl, arith}
use Rattle.ct_word.proofs.Spelling.{high_bits, number_of_bits}
use Rattle.ct_word.proofs.reading.number.Goals as goal

pub returns : goal.returns
returns c =
    number_of_bits c.cast_signed.result _ c.word_at-high.result.left c.word_at-high.result.right c.args.word.right _ c.cast_signed.ensures refl
    (let l = c.word_at-high.ensures.left_short in let r = c.word_at-high.ensures.right_short in omega arith)
    (high_bits c.args.words.now c.args.word.left c.word_at-high.result c.word_at-high.ensures c.requires.high)
