use Rattle.std.{proofs.Common.{◌≡◌, List, ◌∙◌, codes}, specs.Prelude.Option, proofs.lemmas.Result.IfOk-weaker}
use Rattle.clap.{specs.Words.{found_of, Text}, proofs.WalkLemmas.{first_value-rows, raw_values-rows}}
use Rattle.ct_words.specs.Asked.{run_of}
use Rattle.ct_words.proofs.asking.run_by.Goals as goal

same_run : {a a' f f' w w' : Option Text} {s s' : Option (List Text)} → a ≡ a' → f ≡ f' → w ≡ w' → s ≡ s' → run_of a f w s ≡ run_of a' f' w' s'
same_run p q r e = λ i. run_of (p i) (q i) (r i) (e i)

pub returns : goal.returns
returns c =
    let f = found_of c.args.matches.now in
    IfOk-weaker c.run_of.result _ _ (λ asked is. is ∙ same_run
    (c.get_str.ensures ∙ first_value-rows f (codes "arena")) (c.get_str-first.ensures ∙ first_value-rows f (codes "first"))
    (c.get_str-workers.ensures ∙ first_value-rows f (codes "workers")) (c.get_strs-files.ensures ∙ raw_values-rows f (codes "file"))) c.run_of.ensures
