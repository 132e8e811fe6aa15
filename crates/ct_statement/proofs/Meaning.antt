-- A printed table that answers a query means it.
use Rattle.std.{proofs.Common.{ℕ, List, sym, subst, ◌∙◌}, specs.Prelude.IfSome}
use Rattle.ct_word.{specs.declared.values.CRow.CRow, specs.Sublist.IsSublist, specs.Change.PlainCommit}
use Rattle.ct_query.{specs.Plain.{PlainQuery, PlainAction}, specs.Database.SameSet, specs.Rows.rows, specs.Worlds.world, specs.Patterns.pattern}
use Rattle.ct_transcript.specs.declared.reply.Answer.{Answer}
use Rattle.ct_statement.{specs.Answered.IsAnswerFor, specs.Asking.AnswersQuery, specs.Printed.IsPrinted}

pub answer_means : (words : List ℕ) (global : ℕ) (h : List PlainCommit) (actions : List PlainAction) (q : PlainQuery) (width : ℕ) (rs : List CRow)
    → AnswersQuery words global h actions q width rs → (columns : List (List ℕ)) (answer : Answer) → IsPrinted words columns global rs answer → IsAnswerFor h actions columns q answer
answer_means words global h actions q width rs a columns answer printed = record {
  named = printed.named;
  formed = printed.formed;
  means = λ v. record {
    worlds = printed.where_holds v ∙ a.condition.holds v;
    tuples = subst (λ ts. IfSome (world v h actions) (λ w. SameSet ts (rows v q w))) (sym (printed.tuples v)) (a.tuples v);
  };
  in_pattern = subst (λ cs. IsSublist cs (pattern h actions q)) (sym printed.cells) a.part;
}
