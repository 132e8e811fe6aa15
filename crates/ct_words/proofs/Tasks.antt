-- What words ask for, by their first word.
use Rattle.std.{proofs.Common.{◌≡◌, true, false, List, [], ◌∷◌, None, codes, refl}, specs.Borrow.Bor}
use Rattle.clap.specs.Words.{Text}
use Rattle.ct_word.specs.Value.{same_text}
use Rattle.ct_words.specs.Asked.{task, task_of_run, task_of_fill, task_of_check, task_of_prove, task_of_import, task_of_export, texts_of}

pub no_words : (all : List (Bor Text)) → all ≡ [] → None ≡ task (texts_of all)
no_words all is = rw is refl

module _ (all : List (Bor Text)) (word : Bor Text) (rest : List (Bor Text)) (is : all ≡ word ∷ rest) where
  pub run_words : same_text word.now (codes "run") ≡ true → task_of_run (texts_of rest) ≡ task (texts_of all)
  run_words run = rw (is, run) refl

  pub fill_words : same_text word.now (codes "run") ≡ false → same_text word.now (codes "fill") ≡ true
      → task_of_fill (texts_of rest) ≡ task (texts_of all)
  fill_words run fill = rw (is, run, fill) refl

  module _ (run : same_text word.now (codes "run") ≡ false) (fill : same_text word.now (codes "fill") ≡ false) where
    pub check_words : same_text word.now (codes "check") ≡ true → task_of_check (texts_of rest) ≡ task (texts_of all)
    check_words check = rw (is, run, fill, check) refl

    pub prove_words : same_text word.now (codes "check") ≡ false → same_text word.now (codes "prove") ≡ true
        → task_of_prove (texts_of rest) ≡ task (texts_of all)
    prove_words check prove = rw (is, run, fill, check, prove) refl

    module _ (check : same_text word.now (codes "check") ≡ false) (prove : same_text word.now (codes "prove") ≡ false) where
      pub import_words : same_text word.now (codes "import") ≡ true → task_of_import (texts_of rest) ≡ task (texts_of all)
      import_words imports = rw (is, run, fill, check, prove, imports) refl

      pub export_words : same_text word.now (codes "import") ≡ false → same_text word.now (codes "export") ≡ true → task_of_export (texts_of rest) ≡ task (texts_of all)
      export_words imports exports = rw (is, run, fill, check, prove, imports, exports) refl

      pub other_words : same_text word.now (codes "import") ≡ false → same_text word.now (codes "export") ≡ false → None ≡ task (texts_of all)
      other_words imports exports = rw (is, run, fill, check, prove, imports, exports) refl
