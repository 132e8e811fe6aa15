use Rattle.std.{proofs.Common.{ℕ, ◌<◌, ◌%◌, List, Bool, ◌||◌, ap, refl, arith}, specs.Prelude.{IsTrue, Some}, proofs.lemmas.{Bool.lt-ltb, Nat.mod_below}}
use Rattle.ct_word.{specs.WellFormed.{is_formed_as, is_place_of}, proofs.Packed.true_both}
use Rattle.ct_word.specs.declared.kinds.Kind.TheVariants as kind
use Rattle.ct_word.specs.declared.kinds.Class.TheVariants as class
use Rattle.ct_sharing_tests.proofs.tests.threads.Worker.intern_character.Goals as goal

-- one of two tests holds
one_of : (a b : Bool) → IsTrue a → IsTrue (a || b)
one_of a b is = ap (λ x. x || b) is

-- a character below 128 may stand on a text
formed : (ws : List ℕ) (end n : ℕ) → IsTrue (is_place_of ws class.Text end) → n < 128 → IsTrue (is_formed_as (Some kind.TextCharacter) ws end n)
formed ws end n place lt = true_both _ _ (true_both _ _ place (one_of _ _ (lt-ltb n 55296 (omega (arith, lt))))) refl

pub put-requires-clause-formed : goal.put-requires-clause-formed
put-requires-clause-formed g c = formed c.args.self.now.pass.words c.args.end (c.args.n % 128) c.requires.place (mod_below c.args.n 128 (omega arith))
