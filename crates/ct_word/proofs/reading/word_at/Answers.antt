use Rattle.std.{proofs.Common.{sym, ◌∙◌, arith}, proofs.lemmas.Option.slice_get-get_or}
use Rattle.ct_word.proofs.WordAt.{has_kind, word_is}
use Rattle.ct_word.proofs.reading.word_at.Goals as goal

pub unreachable-requires : goal.unreachable-requires
unreachable-requires c =
    has_kind c.args.words.now c.args.place _ (slice_get-get_or c.args.words.now c.args.place 0 c.requires.within) c.requires.formed
    (sym c.kind.ensures ∙ c.in_default.is)

pub returns : goal.returns
returns c =
    rw (c.left.ensures.value, c.right.ensures.value)
    (word_is c.args.words.now c.args.place _ (slice_get-get_or c.args.words.now c.args.place 0 c.requires.within) c.requires.formed c.in-Some.kind
    (sym c.kind.ensures ∙ c.in-Some.is) (omega arith) (omega arith))
