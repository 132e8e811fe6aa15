-- A planned query may be evaluated in place of the query.
use Rattle.std.proofs.Common.{List, []}
use Rattle.ct_query.{specs.declared.schema.Heading.Heading, specs.Plain.PlainQuery, specs.Fits.Fits}
use Rattle.ct_plan.{specs.Planned.planned, specs.Replaces.Replaces}
use Rattle.ct_plan.{proofs.Bare.{placed_bare, placed_width, placed_pattern}, proofs.SameRows.{placed_rows, unmoved}, proofs.Fitting.placed_fits, proofs.Named.planned_terms, proofs.Words.words_within}

pub replaces : (s : List Heading) (q : PlainQuery) → Fits s q → Replaces s q (planned s q)
replaces s q fit = record {
  fits = placed_fits s q [] fit tt;
  same_parts = placed_bare s q [];
  same_width = placed_width s q [];
  same_rows = λ v w has. unmoved s v w has (planned s q) q (placed_rows s v w has q [] fit);
  same_pattern = λ lines. placed_pattern lines s q [];
  named = λ t l h. planned_terms s t l q h;
  words = λ counts. words_within s counts q;
}
