-- The export of a table: that it can be written, and what its file says of every history that stands for the words.
use Rattle.std.proofs.Common.{◌≡◌, ℕ, ◌≤◌, Bool, true, false, List, [], ◌∷◌, ◌++◌, length, max, take, refl, ap, sym, subst, ◌∙◌, arith}
use Rattle.std.{specs.Prelude.{◌↔◌, Option, Some, None, IfSome, IsTrue, if◌then◌else◌, option_map}, specs.List.{filter_map, list_all}}
use Rattle.std.proofs.lemmas.{Bool.{and_parts, false≢true}, Option.IfSome_then, List.Elements.recursion_from_All}
use Rattle.ct_word.{specs.declared.values.CRow.CRow, specs.declared.values.Term.Term, specs.Value.same_text, specs.Names.is_name, specs.Sublist.IsSublist}
use Rattle.ct_word.specs.Change.{PlainChange, PlainCommit, Create, Insert, Delete, Update, Assert}
use Rattle.ct_word.{specs.Reading.commits_of, specs.WellFormed.IsWellFormed, specs.Writable.is_writable}
use Rattle.ct_query.{specs.declared.action.Read.Read, specs.Plain.Table, specs.Database.{SameSet, tuples_of}, specs.Fits.columns_in, specs.Keeping.Keeps}
use Rattle.ct_query.{specs.Schema.{created_by_change, schema}, specs.Worlds.{changes_of, world}, proofs.SameRows.same_tuples_of}
use Rattle.ct_arena.specs.Seen.{tally_of}
use Rattle.ct_operators.{specs.Tables.{AreRows, cells_of, value_of_rows}, specs.Terms.RowsFrom, proofs.Reaching.rows_wider}
use Rattle.ct_resolve.specs.Writing.{WritesTerm}
use Rattle.ct_table.{specs.Snapshot.commits_to, proofs.Denoting.{found_all, found_pattern}}
use Rattle.ct_table.specs.Denotes.{TableView, Denotes, IsKept, IsTermFor, by_change, by_action, find_table, value_of_tables}
use Rattle.ct_algebra.proofs.Found.{stands_for, no_columns}
use Rattle.ct_statement.{proofs.EachTerm.written_in_change, proofs.Members.passes}
use Rattle.ct_csv.specs.Exported.{CanBeExported}
use Rattle.ct_transaction.{specs.Sessions.{IsSession, transaction_of}, specs.declared.state.Open.Open, proofs.Going.{onward, version_within}}
use Rattle.ct_session.{specs.declared.exporting.ExportError.ExportError, specs.Standing.Standing}
use Rattle.ct_session.specs.Exporting.{AreOfTable, IsFileOf, IsWideTable, WhyNoFile, HasLooked, IsNow, HasExported, HasNotExported, Later}
use mathlib.Core.List.{IsPrefix}
use Rattle.ct_query.specs.declared.action.Read.TheVariants as read
use Rattle.ct_session.specs.declared.exporting.ExportError.TheVariants as fault

-- the columns of a table that was created by changes that can be written are names
created_names : (xs : List PlainChange) (name : List ℕ) (columns : List (List ℕ)) → list_all is_writable xs ≡ true → columns_in (filter_map created_by_change xs ++ []) name ≡ Some columns
    → list_all is_name columns ≡ true
created_names [] name columns can there = cc
created_names (Create n cs ∷ xs) name columns can there =
    let parts = and_parts (is_writable (Create n cs)) (list_all is_writable xs) can in
    by_test (same_text n name) there (and_parts (is_name n) (list_all is_name cs) parts.0).1 (created_names xs name columns parts.1) where
      by_test : (b : Bool) → (if b then Some cs else columns_in (filter_map created_by_change xs ++ []) name) ≡ Some columns → list_all is_name cs ≡ true
          → (columns_in (filter_map created_by_change xs ++ []) name ≡ Some columns → list_all is_name columns ≡ true) → list_all is_name columns ≡ true
      by_test true is named rest = let same : cs ≡ columns = cc in subst (λ l. list_all is_name l ≡ true) same named
      by_test false is named rest = rest is
created_names (Insert n rs ∷ xs) name columns can there = created_names xs name columns (and_parts (is_writable (Insert n rs)) (list_all is_writable xs) can).1 there
created_names (Delete n c ∷ xs) name columns can there = created_names xs name columns (and_parts (is_writable (Delete n c)) (list_all is_writable xs) can).1 there
created_names (Update n ss c ∷ xs) name columns can there = created_names xs name columns (and_parts (is_writable (Update n ss c)) (list_all is_writable xs) can).1 there
created_names (Assert c ∷ xs) name columns can there = created_names xs name columns (and_parts (is_writable (Assert c)) (list_all is_writable xs) can).1 there

-- a list that is not empty
pub some_of : {A : Type 0} (b : Bool) (xs : List A) → (IsTrue b ↔ (xs ≡ [])) → b ≡ false → 1 ≤ length xs
some_of b [] both isnt = absurd (false≢true (sym isnt ∙ both.1 refl))
some_of b (x ∷ xs) both isnt = omega arith

module _ (words : List ℕ) (h : List PlainCommit) (db : List TableView) (d : Denotes words h [] db) (name : List ℕ) where
  -- a term below a table can be written
  term_writes : (r : Read) (u : Term) → IsTermFor h [] r u → WritesTerm u
  term_writes r u (by_change x s among of written stands) = written_in_change x u (passes is_writable (changes_of h) x d.writable among) stands
  term_writes r u (by_action a among stands) = absurd (omega (arith, among.1))

  pub unknown : find_table db name ≡ None → columns_in (schema h []).tables name ≡ None
  unknown none = subst (λ hs. columns_in hs name ≡ None) d.worth.headings (no_columns name db none)

  module _ (t : TableView) (found : find_table db name ≡ Some t) where
    there : columns_in (schema h []).tables name ≡ Some t.columns
    there = subst (λ hs. columns_in hs name ≡ Some t.columns) d.worth.headings (stands_for words name t db found).columns

    rows_are : AreRows words (length t.columns) t.rows
    rows_are = (found_all (IsKept words h []) name t db (recursion_from_All (IsKept words h []) db d.worth.kept) found).rows

    pub found_table : AreOfTable words h name t.columns t.rows
    found_table = record {
      there = there;
      are = rows_are;
      worth = λ v. IfSome_then (world v h []) (d.worth.tables v) (λ w same.
          subst (λ l. SameSet l (tuples_of w name)) ((stands_for words name t db found).tuples v) (same_tuples_of name (value_of_tables words v db) w same));
      in_pattern = found_pattern words h [] h [] db d.worth name t found;
    }

    pub can_be : IsWellFormed words → 1 ≤ length t.columns → CanBeExported words t.columns t.rows
    can_be formed some = record {
      formed = formed;
      names = created_names (changes_of h) name t.columns d.writable there;
      some = some;
      are = rows_are;
      writable =
          let source = λ (x : TableView). RowsFrom words x.rows (IsTermFor h [] (read.Table x.name)) in
          rows_wider words (IsTermFor h [] (read.Table t.name)) WritesTerm (term_writes (read.Table t.name)) t.rows
          (found_all source name t db (recursion_from_All source db d.from) found);
    }

-- what is true after one history is so after another that keeps it
module _ (words : List ℕ) (g h : List PlainCommit) (keeps : Keeps g h) (name : List ℕ) where
  same_columns : columns_in (schema g []).tables name ≡ columns_in (schema h []).tables name
  same_columns = ap (λ s. columns_in s.tables name) (keeps.schemas [])

  table_kept : (columns : List (List ℕ)) (rows : List CRow) → AreOfTable words g name columns rows → AreOfTable words h name columns rows
  table_kept columns rows t = record {
    there = sym same_columns ∙ t.there;
    are = t.are;
    worth = λ v. subst (λ o. IfSome o (λ w. SameSet (value_of_rows words v rows) (tuples_of w name))) (keeps.worlds v []) (t.worth v);
    in_pattern = subst (IsSublist (cells_of words rows)) (keeps.patterns [] (Table name)) t.in_pattern;
  }

  file_kept : (bytes : List ℕ) → IsFileOf words g name bytes → IsFileOf words h name bytes
  file_kept bytes f = record { columns = f.columns; rows = f.rows; of_table = table_kept f.columns f.rows f.of_table; exported = f.exported }

  wide_kept : (row : ℕ) → IsWideTable words g name row → IsWideTable words h name row
  wide_kept row f = record { columns = f.columns; rows = f.rows; of_table = table_kept f.columns f.rows f.of_table; wide = f.wide }

-- what is true after the first commits of the words is so later
later : (N : ℕ) (words : List ℕ) (at : ℕ) (P : List PlainCommit → Type 0) → at ≤ length (commits_of words) → ((h : List PlainCommit) → Keeps (commits_to words at) h → P h) → Later N words at P
later N words at P within kept W goes H stands = kept (take at H) (onward words at within W goes.log H stands).keeps

-- a session, once it has seen the newest version
pub session_seen : (words : List ℕ) (seen at now : ℕ) (open' : Option Open) → IsSession words seen open' → at ≡ length (commits_of words) → now ≡ max seen at → IsSession words now open'
session_seen words seen at now open' k newest is = record { seen_is = let before = k.seen_is in omega (arith, before, newest, is); open_is = k.open_is }

-- the version of all commits of the words
pub now_is : (old new : Standing) (at : ℕ) → IsPrefix old.pass.words new.pass.words → old.seen ≤ length (commits_of old.pass.words) → at ≡ length (commits_of new.pass.words) → IsNow old new at
now_is old new at longer seen newest =
    let grown = version_within old.pass.words new.pass.words longer (length (commits_of old.pass.words)) (omega arith) in
    record {
      from_seen = omega (arith, grown, seen, newest);
      newest = omega (arith, grown, newest);
      within = omega (arith, newest);
    }

-- an export from one standing to another
module _ (N : ℕ) (old new : Standing) (name : List ℕ) (at : ℕ) where
  pub looked : IsPrefix old.pass.words new.pass.words → tally_of new.pass ≡ tally_of old.pass → new.seen ≡ max old.seen at → new.fresh ≡ old.fresh → new.transaction ≡ old.transaction
      → HasLooked old new at
  looked longer tally seen fresh open' = record {
    longer = longer;
    made = ap (λ t. t.made) tally;
    open_is = open';
    state = λ i. record {
      session = (tally i).session;
      seen = seen i;
      fresh = fresh i;
      commits = (tally i).mine;
      transaction = option_map transaction_of (open' i);
    };
  }

  module _ (l : HasLooked old new at) (n : IsNow old new at) where
    pub exported_then : (bytes : List ℕ) → IsFileOf new.pass.words (commits_to new.pass.words at) name bytes → HasExported N old new name at bytes
    exported_then bytes f = record {
      looked = l;
      now = n;
      file = later N new.pass.words at (λ h. IsFileOf new.pass.words h name bytes) n.within (λ h keeps. file_kept new.pass.words (commits_to new.pass.words at) h keeps name bytes f);
    }

    pub not_exported_then : (e : ExportError) → WhyNoFile new.pass.words at name e → HasNotExported N old new name e
    not_exported_then (fault.UnknownTable version) (is, none) =
        subst (λ v. HasLooked old new v × IsNow old new v × Later N new.pass.words v (λ h. columns_in (schema h []).tables name ≡ None)) (sym is)
        (l, n, later N new.pass.words at (λ h. columns_in (schema h []).tables name ≡ None) n.within (λ h keeps. sym (same_columns new.pass.words (commits_to new.pass.words at) h keeps name) ∙ none))
    not_exported_then (fault.TooWide row) wide =
        (at, l, n, later N new.pass.words at (λ h. IsWideTable new.pass.words h name row) n.within (λ h keeps. wide_kept new.pass.words (commits_to new.pass.words at) h keeps name row wide))
    not_exported_then fault.Memory none = (at, n.within, l)
