-- The items of lists in the log, and what the lists stand for.
use Rattle.std.proofs.Common.{◌≡◌, ℕ, ◌<◌, Bool, true, false, ◌||◌, List, [], ◌∷◌, ◌++◌, map, refl, ap, sym, subst, ◌∙◌, arith}
use Rattle.std.{specs.Prelude.{IsTrue, All, reverse, if◌then◌else◌}, proofs.lemmas.List.{append_assoc, map_push, reverse-append}}
use Rattle.std.{proofs.lemmas.List.Elements.{All-cons, All-push}, proofs.lemmas.Bool.{false≢true, or_left, or_right}}
use Rattle.ct_word.{specs.declared.kinds.Kind.Kind, specs.declared.kinds.Class.Class, specs.declared.reading.Word.Word, specs.WordAt.{IsWordAt, text_at}}
use Rattle.ct_word.specs.Reading.{as_row, as_row_list, as_name_list, as_set, as_set_list, as_update_body, as_change_list, as_cond_row, term_at, condition_at, change_list_at}
use Rattle.ct_word.{specs.WellFormed.{is_place_of, same_class, class_of}, proofs.Spelling.of_kind}
use Rattle.ct_history.{specs.Items.{AreItems, ended, longer, is_longer, is_place_of_list}, specs.Places.{change_at, cells_at, names_at, set_at, sets_at, rows_at, cond_row_at, IsBodyOf}}
use Rattle.ct_word.specs.declared.kinds.Kind.TheVariants as kind
use Rattle.ct_word.specs.declared.kinds.Class.TheVariants as class

module _ (ws : List ℕ) (p : ℕ) where
  abbrev is_row : Bool
  is_row = is_place_of ws class.Row p

  abbrev is_rows : Bool
  is_rows = is_place_of ws class.RowList p

  abbrev is_names : Bool
  is_names = is_place_of ws class.NameList p

  abbrev is_sets : Bool
  is_sets = is_place_of ws class.SetList p

  abbrev is_changes : Bool
  is_changes = is_place_of ws class.ChangeList p

  pub row_is_list : is_row ≡ true → is_place_of_list ws p ≡ true
  row_is_list e = or_left is_row (is_rows || (is_names || (is_sets || is_changes))) e

  pub rows_are_list : is_rows ≡ true → is_place_of_list ws p ≡ true
  rows_are_list e = or_right is_row (is_rows || (is_names || (is_sets || is_changes))) (or_left is_rows (is_names || (is_sets || is_changes)) e)

  pub names_are_list : is_names ≡ true → is_place_of_list ws p ≡ true
  names_are_list e =
      or_right is_row (is_rows || (is_names || (is_sets || is_changes)))
      (or_right is_rows (is_names || (is_sets || is_changes)) (or_left is_names (is_sets || is_changes) e))

  pub sets_are_list : is_sets ≡ true → is_place_of_list ws p ≡ true
  sets_are_list e =
      or_right is_row (is_rows || (is_names || (is_sets || is_changes)))
      (or_right is_rows (is_names || (is_sets || is_changes)) (or_right is_names (is_sets || is_changes) (or_left is_sets is_changes e)))

  pub changes_are_list : is_changes ≡ true → is_place_of_list ws p ≡ true
  changes_are_list e =
      or_right is_row (is_rows || (is_names || (is_sets || is_changes)))
      (or_right is_rows (is_names || (is_sets || is_changes)) (or_right is_names (is_sets || is_changes) (or_right is_sets is_changes e)))

-- what the word of a list says: it ends the list, or puts an item behind a list at an earlier place
pub record Behind (ws : List ℕ) (p : ℕ) (w : Word) : Type 0 where
  pub below : w.left < p
  pub list : IsTrue (is_place_of_list ws w.left)

pub behind : (ws : List ℕ) (p : ℕ) (w : Word) → IsWordAt ws p w → is_longer w.kind ≡ true → Behind ws p w
behind ws p w is e = by w.kind refl e where
  by : (k : Kind) → w.kind ≡ k → is_longer k ≡ true → Behind ws p w
  by kind.RowCell q e = let h = of_kind ws p w kind.RowCell q is in record { below = h.left.0; list = row_is_list ws w.left h.left.1 }
  by kind.Rows q e = let h = of_kind ws p w kind.Rows q is in record { below = h.left.0; list = rows_are_list ws w.left h.left.1 }
  by kind.Names q e = let h = of_kind ws p w kind.Names q is in record { below = h.left.0; list = names_are_list ws w.left h.left.1 }
  by kind.Sets q e = let h = of_kind ws p w kind.Sets q is in record { below = h.left.0; list = sets_are_list ws w.left h.left.1 }
  by kind.Changes q e = let h = of_kind ws p w kind.Changes q is in record { below = h.left.0; list = changes_are_list ws w.left h.left.1 }
  by _ q e = absurd (false≢true e)

-- a list of one class, whose values are got from its items one by one
module _ (ws : List ℕ) (list item : Class) {A : Type 0} (values : ℕ → List A) (value : ℕ → A)
    (none : (p : ℕ) (w : Word) → IsWordAt ws p w → IsTrue (is_place_of ws list p) → is_longer w.kind ≡ false → values p ≡ [])
    (more : (p : ℕ) (w : Word) → IsWordAt ws p w → IsTrue (is_place_of ws list p) → is_longer w.kind ≡ true
    → (values p ≡ values w.left ++ value w.right ∷ []) × IsTrue (is_place_of ws list w.left) × IsTrue (is_place_of ws item w.right) × (w.left < p)) where
  read_items : (p : ℕ) (items : List ℕ) → AreItems ws p items → IsTrue (is_place_of ws list p) → (values p ≡ map value items) × All (λ i. IsTrue (is_place_of ws item i)) items
  read_items p items (ended w is e) placed = (none p w is placed e, λ k d lt. absurd (omega (arith, lt)))
  read_items p items (longer {items = before} w is e rest) placed =
      let m = more p w is placed e in
      let r = read_items w.left before rest m.1 in
      (m.0 ∙ ap (λ xs. xs ++ value w.right ∷ []) r.0 ∙ sym (map_push value before w.right), All-push (λ i. IsTrue (is_place_of ws item i)) before w.right r.1 m.2)

-- the kinds of the words of each list: of its end, and of one more item
abbrev HasKinds : Class → Kind → Kind → Type 0
HasKinds list end more = (k : Kind) → same_class (class_of k) list ≡ true → k ≡ (if is_longer k then more else end)

row_kinds : HasKinds class.Row kind.RowEnd kind.RowCell
row_kinds kind.RowEnd e = refl
row_kinds kind.RowCell e = refl
row_kinds _ e = absurd (false≢true e)

rows_kinds : HasKinds class.RowList kind.RowsEnd kind.Rows
rows_kinds kind.RowsEnd e = refl
rows_kinds kind.Rows e = refl
rows_kinds _ e = absurd (false≢true e)

names_kinds : HasKinds class.NameList kind.NamesEnd kind.Names
names_kinds kind.NamesEnd e = refl
names_kinds kind.Names e = refl
names_kinds _ e = absurd (false≢true e)

sets_kinds : HasKinds class.SetList kind.SetsEnd kind.Sets
sets_kinds kind.SetsEnd e = refl
sets_kinds kind.Sets e = refl
sets_kinds _ e = absurd (false≢true e)

changes_kinds : HasKinds class.ChangeList kind.ChangesEnd kind.Changes
changes_kinds kind.ChangesEnd e = refl
changes_kinds kind.Changes e = refl
changes_kinds _ e = absurd (false≢true e)

-- what the word of a list says
module _ (ws : List ℕ) (p : ℕ) (w : Word) (is : IsWordAt ws p w) where
  said : (list : Class) (end more : Kind) → HasKinds list end more → IsTrue (is_place_of ws list p) → (b : Bool) → is_longer w.kind ≡ b
      → IsWordAt ws p (record { kind = if b then more else end; left = w.left; right = w.right })
  said list end more kinds placed b e = of_kind ws p w (if b then more else end) (kinds w.kind (sym (is.class list) ∙ placed) ∙ ap (λ x. if x then more else end) e) is

  abbrev Last : {A : Type 0} → Class → Class → (ℕ → List A) → (ℕ → A) → Type 0
  Last list item values value = (values p ≡ values w.left ++ value w.right ∷ []) × IsTrue (is_place_of ws list w.left) × IsTrue (is_place_of ws item w.right) × (w.left < p)

  no_cell : IsTrue (is_place_of ws class.Row p) → is_longer w.kind ≡ false → cells_at ws p ≡ []
  no_cell placed e = ap as_row (said class.Row kind.RowEnd kind.RowCell row_kinds placed false e).meaning

  last_cell : IsTrue (is_place_of ws class.Row p) → is_longer w.kind ≡ true → Last class.Row class.Term (cells_at ws) (term_at ws)
  last_cell placed e = let h = said class.Row kind.RowEnd kind.RowCell row_kinds placed true e in (ap as_row h.meaning, h.left.1, h.right.1, h.left.0)

  no_name : IsTrue (is_place_of ws class.NameList p) → is_longer w.kind ≡ false → names_at ws p ≡ []
  no_name placed e = ap as_name_list (said class.NameList kind.NamesEnd kind.Names names_kinds placed false e).meaning

  last_name : IsTrue (is_place_of ws class.NameList p) → is_longer w.kind ≡ true → Last class.NameList class.Text (names_at ws) (text_at ws)
  last_name placed e = let h = said class.NameList kind.NamesEnd kind.Names names_kinds placed true e in (ap as_name_list h.meaning, h.left.1, h.right.1, h.left.0)

  no_set : IsTrue (is_place_of ws class.SetList p) → is_longer w.kind ≡ false → sets_at ws p ≡ []
  no_set placed e = ap as_set_list (said class.SetList kind.SetsEnd kind.Sets sets_kinds placed false e).meaning

  last_set : IsTrue (is_place_of ws class.SetList p) → is_longer w.kind ≡ true → Last class.SetList class.Set (sets_at ws) (set_at ws)
  last_set placed e = let h = said class.SetList kind.SetsEnd kind.Sets sets_kinds placed true e in (ap as_set_list h.meaning, h.left.1, h.right.1, h.left.0)

  pub no_row : IsTrue (is_place_of ws class.RowList p) → is_longer w.kind ≡ false → rows_at ws p ≡ []
  no_row placed e = ap as_row_list (said class.RowList kind.RowsEnd kind.Rows rows_kinds placed false e).meaning

  pub last_row : IsTrue (is_place_of ws class.RowList p) → is_longer w.kind ≡ true → Last class.RowList class.CondRow (rows_at ws) (cond_row_at ws)
  last_row placed e = let h = said class.RowList kind.RowsEnd kind.Rows rows_kinds placed true e in (ap as_row_list h.meaning, h.left.1, h.right.1, h.left.0)

  pub no_change : IsTrue (is_place_of ws class.ChangeList p) → is_longer w.kind ≡ false → change_list_at ws p ≡ []
  no_change placed e = ap as_change_list (said class.ChangeList kind.ChangesEnd kind.Changes changes_kinds placed false e).meaning

  pub last_change : IsTrue (is_place_of ws class.ChangeList p) → is_longer w.kind ≡ true → Last class.ChangeList class.Change (change_list_at ws) (change_at ws)
  last_change placed e = let h = said class.ChangeList kind.ChangesEnd kind.Changes changes_kinds placed true e in (ap as_change_list h.meaning, h.left.1, h.right.1, h.left.0)

module _ (ws : List ℕ) where
  abbrev Read : Class → Class → {A : Type 0} → (ℕ → List A) → (ℕ → A) → Type 0
  Read list item values value = (p : ℕ) (items : List ℕ) → AreItems ws p items → IsTrue (is_place_of ws list p) → (values p ≡ map value items) × All (λ i. IsTrue (is_place_of ws item i)) items

  pub cells_read : Read class.Row class.Term (cells_at ws) (term_at ws)
  cells_read = read_items ws class.Row class.Term (cells_at ws) (term_at ws) (no_cell ws) (last_cell ws)

  pub names_read : Read class.NameList class.Text (names_at ws) (text_at ws)
  names_read = read_items ws class.NameList class.Text (names_at ws) (text_at ws) (no_name ws) (last_name ws)

  pub sets_read : Read class.SetList class.Set (sets_at ws) (set_at ws)
  sets_read = read_items ws class.SetList class.Set (sets_at ws) (set_at ws) (no_set ws) (last_set ws)

-- one more item, read from the end of a list, comes before those read so far
pub one_before : {X Y : Type 0} (f : X → Y) (all before after : List Y) (items : List X) (x : X) (y : Y)
    → all ≡ before ++ map f (reverse items) → before ≡ after ++ y ∷ [] → f x ≡ y → all ≡ after ++ map f (reverse (items ++ x ∷ []))
one_before f all before after items x y same is e =
    same ∙ ap (λ l. l ++ map f (reverse items)) is ∙ append_assoc after (y ∷ []) (map f (reverse items))
    ∙ ap (λ z. after ++ z ∷ map f (reverse items)) (sym e) ∙ ap (λ l. after ++ map f l) (sym (reverse-append items (x ∷ [])))

pub all_before : {X : Type 0} (P : X → Type 0) (items : List X) (x : X) → All P (reverse items) → P x → All P (reverse (items ++ x ∷ []))
all_before P items x all p = subst (All P) (sym (reverse-append items (x ∷ []))) (All-cons P x (reverse items) p all)

-- what the word of a row under its condition says
pub row_word : (ws : List ℕ) (p : ℕ) (w : Word) → IsWordAt ws p w → IsTrue (is_place_of ws class.CondRow p)
    → (cond_row_at ws p ≡ record { cells = cells_at ws w.left; condition = condition_at ws w.right }) × IsTrue (is_place_of ws class.Row w.left) × IsTrue (is_place_of ws class.Cond w.right)
row_word ws p w is e = by w.kind refl (sym (is.class class.CondRow) ∙ e) where
  by : (k : Kind) → w.kind ≡ k → same_class (class_of k) class.CondRow ≡ true
      → (cond_row_at ws p ≡ record { cells = cells_at ws w.left; condition = condition_at ws w.right }) × IsTrue (is_place_of ws class.Row w.left) × IsTrue (is_place_of ws class.Cond w.right)
  by kind.ConditionalRow q of = let h = of_kind ws p w kind.ConditionalRow q is in (ap as_cond_row h.meaning, h.left.1, h.right.1)
  by _ q of = absurd (false≢true of)

-- what the word of a set says
pub set_word : (ws : List ℕ) (p : ℕ) (w : Word) → IsWordAt ws p w → IsTrue (is_place_of ws class.Set p)
    → (set_at ws p ≡ (w.left, term_at ws w.right)) × IsTrue (is_place_of ws class.Term w.right)
set_word ws p w is e = by w.kind refl (sym (is.class class.Set) ∙ e) where
  by : (k : Kind) → w.kind ≡ k → same_class (class_of k) class.Set ≡ true → (set_at ws p ≡ (w.left, term_at ws w.right)) × IsTrue (is_place_of ws class.Term w.right)
  by kind.Set q of = let h = of_kind ws p w kind.Set q is in (ap as_set h.meaning, h.right.1)
  by _ q of = absurd (false≢true of)

-- what the word of an update's body says
pub body_word : (ws : List ℕ) (p : ℕ) (w : Word) → IsWordAt ws p w → IsTrue (is_place_of ws class.UpdateBody p) → IsBodyOf ws p w.left w.right
body_word ws p w is e = by w.kind refl (sym (is.class class.UpdateBody) ∙ e) where
  by : (k : Kind) → w.kind ≡ k → same_class (class_of k) class.UpdateBody ≡ true → IsBodyOf ws p w.left w.right
  by kind.UpdateBody q of = let h = of_kind ws p w kind.UpdateBody q is in (ap as_update_body h.meaning, h.left.1, h.right.1)
  by _ q of = absurd (false≢true of)

-- the items so far, the last one first, come behind those of the list that is left
pub items_behind : (ws : List ℕ) (p rest : ℕ) (w : Word) (out : List ℕ) → IsWordAt ws rest w → is_longer w.kind ≡ true
    → ((xs : List ℕ) → AreItems ws rest xs → AreItems ws p (xs ++ reverse out)) → (xs : List ℕ) → AreItems ws w.left xs → AreItems ws p (xs ++ reverse (out ++ w.right ∷ []))
items_behind ws p rest w out is e before xs items =
    subst (AreItems ws p) (append_assoc xs (w.right ∷ []) (reverse out) ∙ ap (λ ys. xs ++ ys) (sym (reverse-append out (w.right ∷ [])))) (before (xs ++ w.right ∷ []) (longer w is e items))
