use Rattle.std.{proofs.Common.{◌≡◌, true, ◌++◌, take, flat_map}, specs.Prelude.string_bytes, specs.List.list_all}
use Rattle.ct_cert.{specs.Text.word_text, specs.Ranges.is_word}
use Rattle.ct_cert.proofs.writing.push_words.Given as goal

abbrev pub invariant-loop-word : goal.invariant-loop-word
invariant-loop-word l =
    (string_bytes l.out ≡ string_bytes l.initial.out ++ flat_map word_text (take l.word-index l.words))
    × (list_all is_word (take l.word-index l.words) ≡ true)
