use Rattle.std.{proofs.Common.{◌≡◌, ℕ, List, ◌++◌, length, codes, append_assoc}, specs.Prelude.{decimal, count_by}}
use Rattle.ct_run.{specs.Runs.is_refusal, specs.Summary.{rows_under, possible_under, certain_under, of_last}}
use Rattle.ct_run.proofs.summary.session_line.Goals as goal

-- the parts of a line as they are written, and as they are told
parts : (p₀ a p₁ b p₂ c p₃ d p₄ e p₅ f p₆ end : List ℕ)
    → p₀ ++ (a ++ (p₁ ++ (b ++ (p₂ ++ (c ++ (p₃ ++ (d ++ (p₄ ++ (e ++ (p₅ ++ f)))))))))) ++ (p₆ ++ end) ≡ (p₀ ++ a ++ p₁ ++ b ++ p₂ ++ c ++ p₃ ++ d ++ p₄ ++ e ++ p₅ ++ f ++ p₆) ++ end
parts p₀ a p₁ b p₂ c p₃ d p₄ e p₅ f p₆ end = simp append_assoc

pub returns : goal.returns
returns c =
    let replies = c.args.session.now.replies in
    rw (c.from_string.ensures, c.in_ok-line.ensures.ok, c.refusals-refused.ensures, c.last_rows-rows.ensures, c.last_possible-possible.ensures, c.last_certain-certain.ensures, c.as_slice-replies.ensures)
    (parts (codes "session ") (decimal c.args.s) (codes ": ") (decimal (length replies)) (codes " statements, ") (decimal (count_by is_refusal replies)) (codes " refused, ")
    (decimal (of_last rows_under replies)) (codes " rows, ") (decimal (of_last possible_under replies)) (codes " possible, ") (decimal (of_last certain_under replies)) (codes " certain") (codes "\n"))
