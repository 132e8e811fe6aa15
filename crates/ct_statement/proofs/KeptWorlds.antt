-- The kept world of a version and further actions is one that the question for certain tuples takes.
use Rattle.std.{proofs.Common.{ℕ, List, refl, ◌∙◌, inl, inr}, specs.Prelude.{◌⊎◌, IsTrue}, proofs.lemmas.List.Elements.All-weaker}
use Rattle.ct_word.{specs.declared.values.Value.Value, specs.Value.World, specs.Change.PlainCommit}
use Rattle.ct_query.specs.Plain.{PlainAction}
use Rattle.ct_condition.{specs.Places.has_place, proofs.Placed.place_from}
use Rattle.ct_equality.specs.Valued.{IsNumbered}
use Rattle.ct_table.specs.Snapshot.{IsGlobal, IsKeptValue, other, constant, IsKeptWorld}
use Rattle.ct_word.specs.declared.values.Term.TheVariants as term
use Rattle.ct_certain.specs.Certain as question

value_taken : (words : List ℕ) (x : Value) → IsKeptValue words x → IsTrue (has_place words (term.Value x)) ⊎ IsNumbered x
value_taken words x (other k lt) = inr (record { number = k; short = lt; value = refl })
value_taken words x (constant y place stands) = inl (place_from words place (term.Value x) stands)

pub world_taken : (words : List ℕ) (h : List PlainCommit) (actions : List PlainAction) (global : ℕ) (kept : World) → IsGlobal words h actions global → IsKeptWorld words h actions kept
    → question.IsKeptWorld words global kept
world_taken words h actions global kept g k = record {
  holds = g.holds kept ∙ k.admitted;
  values = All-weaker (λ p. IsKeptValue words p.1) (λ p. IsTrue (has_place words (term.Value p.1)) ⊎ IsNumbered p.1) (λ p. value_taken words p.1) kept k.values;
}
