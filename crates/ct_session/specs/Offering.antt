-- What a statement outside a transaction asks for, ready to be given or to be offered.
use Rattle.std.specs.Prelude.{◌≡◌, ◌≤◌, ◌+◌, ℕ, List, [], ◌∷◌, Bool, true, false, Ok}
use Rattle.ct_word.specs.Change.{PlainChange}
use Rattle.ct_word.specs.Reading.{change_list_at, commits_of}
use Rattle.ct_arena.specs.Seen.{Seen}
use Rattle.ct_parse.specs.declared.tree.Statement.{Statement}
use Rattle.ct_parse.specs.declared.tree.Statement.TheVariants as tree
use Rattle.ct_query.specs.Agrees.{AgreesWith}
use Rattle.ct_query.specs.Plain.{PlainAction, PlainStatement}
use Rattle.ct_query.specs.Plain as plain
use Rattle.ct_query.specs.Patterns.{count}
use Rattle.ct_query.specs.Reads.{action_reads}
use Rattle.ct_query.specs.Schema.{schema}
use Rattle.ct_query.specs.declared.action.Read.{Read}
use Rattle.ct_resolve.specs.Statements.{resolved}
use Rattle.ct_table.specs.Snapshot.{commits_to}
use Rattle.ct_keeper.specs.Offers.{IsOffer}
use Rattle.ct_statement.specs.declared.sight.Sight.{Sight}
use Rattle.ct_statement.specs.Drawing.{drawn}
use Rattle.ct_statement.specs.Making.{widths_in, IsLight}
use Rattle.ct_statement.specs.Sight.{actions_before, history_of}
use Rattle.ct_statement.specs.Sources.{is_literal}
use Rattle.ct_transaction.{specs.Bounded.Performs, specs.Prepared.{ForAnswer, IsResolved}}
use Rattle.ct_session.{specs.declared.settling.Ready.Ready, specs.declared.offering.Offering.Offering, specs.Known.SeesAlone}
use Rattle.ct_session.specs.declared.settling.Ready.TheVariants as ready

-- a statement with positions is an action whose change is all in its text
abbrev pub IsLiteralAct : PlainStatement → Type 0
IsLiteralAct (plain.Act a) = is_literal a ≡ true
IsLiteralAct _ = ⊥

-- whether an action is an insertion of written rows
abbrev pub inserts_rows : PlainAction → Bool
inserts_rows (plain.InsertRows name rs c) = true
inserts_rows _ = false

-- a statement with positions is an insertion of written rows
abbrev pub InsertsRows : PlainStatement → Type 0
InsertsRows (plain.Act a) = inserts_rows a ≡ true
InsertsRows _ = ⊥

-- a statement is an insertion of written rows
abbrev pub IsRowInsertion : Statement → Type 0
IsRowInsertion (tree.InsertRows name row rows condition) = Unit {0}
IsRowInsertion _ = ⊥

-- a statement resolves to this at what it saw, which was this version
pub record IsFoundAlone (pass : Seen) (fresh base : ℕ) (st : Statement) (asked : PlainStatement) : Type 0 where
  pub sight : Sight
  pub sees : SeesAlone pass.words sight
  pub base_is : base ≡ sight.version
  pub found : IsResolved (history_of pass.words sight) (actions_before sight) pass.session fresh st asked

-- a statement is an insertion of written rows, which resolves after all commits of the words
pub record IsInsertion (pass : Seen) (fresh : ℕ) (st : Statement) : Type 0 where
  pub action : PlainAction
  pub inserts : inserts_rows action ≡ true
  pub resolves : resolved (schema (commits_of pass.words) []) pass.session fresh st ≡ Ok (plain.Act action)

-- a statement resolves at the base of an offer to an action, whose change is the only one of the offer and light for it, and
-- the keeper takes the offer
pub record IsReadyToOffer (pass : Seen) (fresh : ℕ) (o : Offering) (st : Statement) : Type 0 where
  pub action : PlainAction
  pub change : PlainChange
  pub resolves : resolved (schema (commits_to pass.words o.offer.base) []) pass.session fresh st ≡ Ok (plain.Act action)
  pub agrees : AgreesWith (commits_to pass.words o.offer.base) [] action change
  pub light : IsLight (count (commits_to pass.words o.offer.base) []) action change
  pub list_is : change_list_at pass.words o.offer.changes ≡ change ∷ []
  pub reads_are : o.offer.reads ≡ action_reads action
  pub draws : o.fresh ≡ fresh + drawn action
  pub takes : IsOffer pass o.offer

-- what a statement asks for at a version is ready to be given
abbrev pub IsReady : Seen → ℕ → ℕ → Statement → Ready → Type 0
IsReady pass fresh version st (ready.Answer given) = (reads : List Read) × ForAnswer pass.words (commits_to pass.words version) [] pass.session fresh st given reads
IsReady pass fresh version st (ready.Offer o) = (o.offer.base ≡ version) × IsReadyToOffer pass fresh o st

-- a statement outside a transaction made nothing, or at most as much of what it asks for at a version of these words
pub data Readies (words : List ℕ) (version session fresh : ℕ) (st : Statement) (made made' : ℕ) : Type 0 where
  idle : made' ≤ made → Readies words version session fresh st made made'
  busy : (asked : PlainStatement) → resolved (schema (commits_to words version) []) session fresh st ≡ Ok asked
      → Performs false (count (commits_to words version) []) (widths_in (schema (commits_to words version) []).tables) asked made made' → Readies words version session fresh st made made'
