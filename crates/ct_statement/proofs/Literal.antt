-- Actions whose change is all in their text.
use Rattle.std.{proofs.Common.{◌≡◌, ℕ, true, List, [], refl}, proofs.lemmas.Bool.false≢true}
use Rattle.ct_word.specs.Change.{PlainCommit}
use Rattle.ct_query.{specs.Plain.PlainAction, specs.Fits.FitsAction, specs.declared.schema.Heading.Heading}
use Rattle.ct_history.specs.Encodes.{IsEncodable, AreHanded}
use Rattle.ct_statement.specs.Sources.{AreTakenFor, is_literal}
use Rattle.ct_query.specs.Plain as plain

-- they take no rows from a query
pub takes_none : (words : List ℕ) (global : ℕ) (h : List PlainCommit) (before : List PlainAction) (a : PlainAction) → is_literal a ≡ true → AreTakenFor words global h before a []
takes_none words global h before (plain.InsertQuery name q) is = absurd (false≢true is)
takes_none words global h before (plain.AssertQuery wanted q) is = absurd (false≢true is)
takes_none words global h before (plain.AssertKey name columns) is = absurd (false≢true is)
takes_none words global h before _ is = refl

-- nor is a row handed in with them
pub hands_none : (a : PlainAction) → is_literal a ≡ true → AreHanded a []
hands_none (plain.AssertQuery wanted q) is = absurd (false≢true is)
hands_none (plain.AssertKey name columns) is = absurd (false≢true is)
hands_none _ is = tt

-- where they fit some tables, a word has room for each of their numbers
pub literal_encodable : (tables : List Heading) (a : PlainAction) → FitsAction tables a → is_literal a ≡ true → IsEncodable a
literal_encodable tables (plain.Create name columns) fits is = tt
literal_encodable tables (plain.InsertRows name rs c) fits is = (fits.2, fits.3)
literal_encodable tables (plain.InsertQuery name q) fits is = tt
literal_encodable tables _ fits is = absurd (false≢true is)
