use Rattle.std.{proofs.Common.{◌≡◌, ◌∙◌, codes}, specs.Prelude.Option, proofs.lemmas.Result.IfOk-weaker}
use Rattle.clap.{specs.Words.{found_of, Text}, proofs.WalkLemmas.first_value-rows}
use Rattle.ct_words.specs.Asked.{import_of}
use Rattle.ct_words.proofs.asking.import_by.Goals as goal

same_import : {n n' c c' f f' : Option Text} → n ≡ n' → c ≡ c' → f ≡ f' → import_of n c f ≡ import_of n' c' f'
same_import a b d = λ i. import_of (a i) (b i) (d i)

pub returns : goal.returns
returns c =
    let f = found_of c.args.matches.now in
    IfOk-weaker c.import_of.result _ _ (λ asked is. is ∙ same_import
    (c.get_str-name.ensures ∙ first_value-rows f (codes "name")) (c.get_str.ensures ∙ first_value-rows f (codes "csv")) (c.get_str-2.ensures ∙ first_value-rows f (codes "file"))) c.import_of.ensures
