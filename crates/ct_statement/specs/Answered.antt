-- What answers a query, at what a statement sees.
use Rattle.std.specs.Prelude.{◌≡◌, ℕ, List, map}
use Rattle.ct_word.specs.Sublist.{IsSublist}
use Rattle.ct_word.specs.Change.{PlainCommit}
use Rattle.ct_query.specs.Plain.{PlainQuery, PlainAction}
use Rattle.ct_query.specs.declared.action.Ask.{Ask}
use Rattle.ct_query.specs.declared.action.Ask.TheVariants as ask
use Rattle.ct_query.specs.Patterns.{pattern}
use Rattle.ct_transcript.specs.declared.reply.Answer.{Answer}
use Rattle.ct_transcript.specs.Means.{IsAnswer, Means}
use Rattle.ct_transcript.specs.Possible.{PossibleRight}
use Rattle.ct_transcript.specs.Certain.{CertainRight}
use Rattle.ct_statement.specs.declared.replying.Answered.{Answered}
use Rattle.ct_statement.specs.declared.replying.Answered.TheVariants as answered

-- h are the commits of the version that a statement sees, and before the actions of its transaction
module _ (h : List PlainCommit) (before : List PlainAction) where
  -- an answer that means a query, its rows being a part of the query's pattern
  pub record IsAnswerFor (columns : List (List ℕ)) (query : PlainQuery) (answer : Answer) : Type 0 where
    pub named : answer.columns ≡ columns
    pub formed : IsAnswer answer
    pub means : Means answer query h before
    pub in_pattern : IsSublist (map (λ row. row.cells) answer.rows) (pattern h before query)

  -- what a query is answered, by what is asked of it; refutations are accepted over the words
  abbrev pub Answers : List ℕ → Ask → List (List ℕ) → PlainQuery → Answered → Type 0
  Answers words ask.Rows columns query (answered.Rows answer) = IsAnswerFor columns query answer
  Answers words ask.Possible columns query (answered.Possible named list) = (named ≡ columns) × PossibleRight list query h before
  Answers words ask.Certain columns query (answered.Certain named list) = (named ≡ columns) × CertainRight list query h before words
  Answers words _ columns query _ = ⊥
