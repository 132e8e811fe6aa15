use Rattle.std.proofs.Common.{◌≡◌, ◌++◌, ◌-◌, replicate, ap, ◌∙◌, arith}
use Rattle.ct_arena.{specs.Counts.opening, proofs.Making.makes}
use Rattle.ct_arena.proofs.sharing.table.Goals as goal

pub of_words-requires : goal.of_words-requires
of_words-requires c =
    let are : c.as_slice.result.now ≡ opening ++ replicate (c.args.cap - 2) 0 =
    c.as_slice.ensures.value ∙ c.fill_words.ensures ∙ ap (λ l. l ++ replicate (c.args.cap - 2) 0) c.in_ok-first.ensures.words in
    makes c.args.cap c.as_slice.result.now c.requires.least are

pub fill_words-requires : goal.fill_words-requires
fill_words-requires c = omega (arith, c.in_ok-first.ensures.count, c.in_ok-first.ensures.room, c.requires.least)
