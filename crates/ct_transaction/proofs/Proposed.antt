-- What is proposed for a statement, as words grow.
use Rattle.std.proofs.Common.{ℕ, List, ◌∙◌}
use Rattle.ct_word.{specs.Change.{PlainChange, PlainCommit}, proofs.Prefixes.{place_within, place_in_prefix, change_list_in_prefix}}
use Rattle.ct_query.specs.Plain.{PlainAction}
use Rattle.ct_statement.specs.Proposals.{IsProposal}
use mathlib.Core.List.{IsPrefix}
use Rattle.ct_word.specs.declared.kinds.Class.TheVariants as class

-- what was proposed is proposed in longer words
pub proposal_grows : (old new : List ℕ) → IsPrefix old new → (h : List PlainCommit) (before : List PlainAction) (list : List PlainChange) (a : PlainAction) (changes : ℕ)
    → IsProposal old h before list a changes → IsProposal new h before list a changes
proposal_grows old new longer h before list a changes p = record {
  change = p.change;
  place = place_in_prefix old new class.ChangeList changes longer p.place;
  list_is = change_list_in_prefix old new changes longer (place_within old class.ChangeList changes p.place) ∙ p.list_is;
  agrees = p.agrees;
  light = p.light;
  fits = p.fits;
  writable = p.writable;
  terms = p.terms;
  written = p.written;
}
