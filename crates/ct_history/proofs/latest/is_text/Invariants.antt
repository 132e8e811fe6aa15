use Rattle.std.{proofs.Common.{◌≡◌}, specs.Prelude.IsTrue}
use Rattle.ct_word.{specs.Value.same_text, specs.WellFormed.is_place_of, specs.WordAt.text_at}
use denote.{Shadow.shadow, Text.Utf8}
use Rattle.ct_word.specs.declared.kinds.Class.TheVariants as class
use Rattle.ct_history.proofs.latest.is_text.Given as goal

abbrev pub invariant-loop-front : goal.invariant-loop-front
invariant-loop-front l = record {
  is_text : shadow (Utf8 l.rest);
  placed : IsTrue (is_place_of l.words class.Text l.at);
  same : same_text (text_at l.words l.place) l.text ≡ same_text (text_at l.words l.at) l.rest;
}

abbrev pub decreases-loop-front : goal.decreases-loop-front
decreases-loop-front l = l.at
