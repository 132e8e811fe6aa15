-- What carries over as the changes of a list are taken one after another, and words are added.
use Rattle.std.{proofs.Common.{◌≡◌, ℕ, List, [], ◌∷◌, ◌++◌, length, map, refl, ap, sym, ◌∙◌}, specs.Prelude.{All, IsTrue}, specs.Option.option_to_list}
use Rattle.std.{proofs.lemmas.List.{append-nil, append_assoc, map_push}, proofs.lemmas.List.Elements.{All-head, All-tail, All-weaker}}
use Rattle.ct_word.{specs.declared.values.CRow.CRow, specs.Change.{PlainChange, Insert, Delete, Update, Assert, PlainCommit}, specs.Reading.{plain_crow, term_at}}
use Rattle.ct_word.{specs.WellFormed.is_place_of, proofs.Prefixes.{place_within, place_in_prefix, term_in_prefix, condition_in_prefix}}
use Rattle.ct_query.{specs.Plain.PlainAction, specs.Schema.created_by_change, specs.Worlds.changes_of, proofs.Laws.changes_of-snoc}
use Rattle.ct_history.{specs.declared.written.Written.Written, specs.Rows.IsRowOf, specs.Written.{IsWritten, plain_set, plain_written}}
use Rattle.ct_table.{specs.Denotes.{TableView, IsKept, Denotes, heading_of, find_table}, proofs.Denoting.headings_stay}
use Rattle.ct_operators.{specs.Tables.AreRows, proofs.Growing.terms_grow}
use Rattle.ct_keeper.{specs.declared.effects.Effect.Effect, specs.Effects.{DoesChange, Gets, new_table, tables_after}, proofs.Doing.with_found}
use mathlib.Core.List.{IsPrefix}
use Rattle.ct_word.specs.declared.kinds.Class.TheVariants as class
use Rattle.ct_history.specs.declared.written.Written.TheVariants as written
use Rattle.ct_keeper.specs.declared.effects.Effect.TheVariants as effect

module _ (old new : List ℕ) (longer : IsPrefix old new) where
  row_later : (r : CRow) → IsRowOf old r → IsRowOf new r
  row_later r is = record {
    terms = All-weaker (λ p. IsTrue (is_place_of old class.Term p)) (λ p. IsTrue (is_place_of new class.Term p)) (λ p. place_in_prefix old new class.Term p longer) r.cells is.terms;
    condition = place_in_prefix old new class.Cond r.cond longer is.condition;
  }

  rows_same : (rs : List CRow) → All (IsRowOf old) rs → map (plain_crow new) rs ≡ map (plain_crow old) rs
  rows_same [] all = refl
  rows_same (r ∷ rs) all =
      let is = All-head (IsRowOf old) r rs all in
      let first : plain_crow new r ≡ plain_crow old r = λ i. record {
        cells = terms_grow old new longer r.cells is.terms i;
        condition = condition_in_prefix old new r.cond longer (place_within old class.Cond r.cond is.condition) i;
      } in
      λ i. first i ∷ rows_same rs (All-tail (IsRowOf old) r rs all) i

  sets_same : (sets : List (ℕ × ℕ)) → All (λ s. IsTrue (is_place_of old class.Term s.1)) sets → map (plain_set new) sets ≡ map (plain_set old) sets
  sets_same [] all = refl
  sets_same (s ∷ sets) all =
      let placed = All-head (λ (u : ℕ × ℕ). IsTrue (is_place_of old class.Term u.1)) s sets all in
      let first : term_at new s.1 ≡ term_at old s.1 = term_in_prefix old new s.1 longer (place_within old class.Term s.1 placed) in
      let rest = sets_same sets (All-tail (λ (u : ℕ × ℕ). IsTrue (is_place_of old class.Term u.1)) s sets all) in
      λ i. (s.0, first i) ∷ rest i

  -- the places of a change are of their classes in longer words
  pub written_later : (w : Written) → IsWritten old w → IsWritten new w
  written_later (written.Create name columns) placed = tt
  written_later (written.Insert name rs) placed = All-weaker (IsRowOf old) (IsRowOf new) row_later rs placed
  written_later (written.Delete name cond) placed = place_in_prefix old new class.Cond cond longer placed
  written_later (written.Update name sets cond) placed = (
    All-weaker (λ (s : ℕ × ℕ). IsTrue (is_place_of old class.Term s.1)) (λ s. IsTrue (is_place_of new class.Term s.1)) (λ s. place_in_prefix old new class.Term s.1 longer) sets placed.0,
    place_in_prefix old new class.Cond cond longer placed.1,
  )
  written_later (written.Assert cond) placed = place_in_prefix old new class.Cond cond longer placed

  -- and stand for the same change
  pub written_same : (w : Written) → IsWritten old w → plain_written new w ≡ plain_written old w
  written_same (written.Create name columns) placed = refl
  written_same (written.Insert name rs) placed = ap (Insert name) (rows_same rs placed)
  written_same (written.Delete name cond) placed = ap (Delete name) (condition_in_prefix old new cond longer (place_within old class.Cond cond placed))
  written_same (written.Update name sets cond) placed =
      let made = sets_same sets placed.0 in
      let condition = condition_in_prefix old new cond longer (place_within old class.Cond cond placed.1) in
      λ i. Update name (made i) (condition i)
  written_same (written.Assert cond) placed = ap Assert (condition_in_prefix old new cond longer (place_within old class.Cond cond placed))

  pub all_written_later : (ws : List Written) → All (IsWritten old) ws → All (IsWritten new) ws
  all_written_later ws all = All-weaker (IsWritten old) (IsWritten new) written_later ws all

  pub all_written_same : (ws : List Written) → All (IsWritten old) ws → map (plain_written new) ws ≡ map (plain_written old) ws
  all_written_same [] all = refl
  all_written_same (w ∷ ws) all = λ i. written_same w (All-head (IsWritten old) w ws all) i ∷ all_written_same ws (All-tail (IsWritten old) w ws all) i

-- the rows of tables that denote something are well formed
pub tables_formed : (words : List ℕ) (h : List PlainCommit) (actions : List PlainAction) (db : List TableView) → Denotes words h actions db → All (λ t. AreRows words (length t.columns) t.rows) db
tables_formed words h actions db d = All-weaker (IsKept words h actions) (λ t. AreRows words (length t.columns) t.rows) (λ t k. k.rows) db d.worth.kept

-- the names and columns of the tables after an effect: those before, and those of the table that its change creates
pub headings_after : (old new : List ℕ) (db : List TableView) (global : ℕ) (w : Written) (e : Effect) → DoesChange old new db global w e
    → map heading_of (tables_after db e) ≡ map heading_of db ++ option_to_list (created_by_change (plain_written old w))
headings_after old new db global w e does = by_case w e does where
  other_rows : (tables : List TableView) (name : List ℕ) (P : TableView → List CRow → Type 0) → Gets db tables (find_table db name) P → map heading_of tables ≡ map heading_of db ++ []
  other_rows tables name P gets =
      ap (map heading_of) (sym (with_found db tables name gets.table gets.rows gets.is_found gets.after_is))
      ∙ headings_stay name gets.table gets.rows db gets.is_found
      ∙ sym (append-nil (map heading_of db))

  by_case : (w : Written) (e : Effect) → DoesChange old new db global w e → map heading_of (tables_after db e) ≡ map heading_of db ++ option_to_list (created_by_change (plain_written old w))
  by_case (written.Create name columns) (effect.Grows growth) does = ap (map heading_of) does.1 ∙ map_push heading_of db (new_table name columns)
  by_case (written.Insert name rs) (effect.Grows growth) does = other_rows (tables_after db (effect.Grows growth)) name _ does
  by_case (written.Delete name cond) (effect.Grows growth) does = other_rows (tables_after db (effect.Grows growth)) name _ does
  by_case (written.Update name sets cond) (effect.Grows growth) does = other_rows (tables_after db (effect.Grows growth)) name _ does
  by_case (written.Assert cond) (effect.Narrows place) does = sym (append-nil (map heading_of db))
  by_case _ _ does = absurd does

-- a commit in the making that has no change yet
pub no_change_yet : (h : List PlainCommit) (c : PlainCommit) → c.changes ≡ [] → changes_of (h ++ c ∷ []) ≡ changes_of h
no_change_yet h c is = changes_of-snoc h c ∙ ap (λ xs. changes_of h ++ xs) is ∙ append-nil (changes_of h)

-- the same with one change more
pub one_change_more : (h : List PlainCommit) (c d : PlainCommit) (x : PlainChange) → d.changes ≡ c.changes ++ x ∷ [] → changes_of (h ++ d ∷ []) ≡ changes_of (h ++ c ∷ []) ++ x ∷ []
one_change_more h c d x is =
    changes_of-snoc h d ∙ ap (λ xs. changes_of h ++ xs) is ∙ sym (append_assoc (changes_of h) c.changes (x ∷ [])) ∙ ap (λ xs. xs ++ x ∷ []) (sym (changes_of-snoc h c))
