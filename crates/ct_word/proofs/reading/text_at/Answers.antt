use Rattle.std.proofs.Common.{◌++◌, ◌∙◌, ap}
use Rattle.ct_word.{specs.WordAt.{text_at, backwards}, proofs.Spelling.{longer, taken_off}}
use Rattle.ct_word.proofs.reading.text_at.Goals as goal

pub loop-characters-preserved : goal.loop-characters-preserved
loop-characters-preserved c =
    let words = c.args.words.now in
    let rest = c.loop-characters.rest in
    let cs = c.loop-characters.characters.items in
    let word = c.word_at-word.result in
    let more = longer words rest word c.word_at-word.ensures c.in-TextCharacter.is in
    record {
      placed = more.placed;
      text = rw (c.in_ok-push-in-TextCharacter.ensures.items, c.character.ensures)
          (taken_off (text_at words c.args.place) (text_at words word.left) word.right cs (c.loop-characters.invariant.text ∙ ap (λ t. t ++ backwards cs) more.text));
    }
