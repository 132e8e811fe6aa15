-- Which terms are reached from rows, as words are added.
use Rattle.std.proofs.Common.{◌≡◌, ℕ, zero, suc, true, Option, ◌<◌, List, [], ◌∷◌, ◌++◌, Some, None, length, get_or, refl, ap, sym, subst, ◌∙◌, arith, inl, inr}
use Rattle.std.{specs.Prelude.{◌⊎◌, Result, IfOk, IsTrue, All, slice_get}, proofs.lemmas.Result.IfOk-weaker, specs.List.Contains}
use Rattle.std.{proofs.lemmas.Bool.false≢true, proofs.lemmas.Option.{none-some, slice_get-get_or}}
use Rattle.std.proofs.lemmas.List.Elements.{All-head, All-tail, All-cons, All-nil, All-weaker, All-contains, Contains-append_left, Contains-append_right, Contains-append_cases, All-contains_itself}
use Rattle.ct_word.{specs.declared.kinds.Kind.Kind, specs.declared.kinds.Class.Class, specs.declared.values.Term.Term, specs.declared.values.CRow.CRow}
use Rattle.ct_word.{specs.Word.{kind_of, left_of, right_of}, specs.Reading.{IsTerm, as_term, term_at}, specs.WordAt.IsWordAt, proofs.WordAt.word_is}
use Rattle.ct_word.{specs.WellFormed.{IsWellFormed, has_class, is_place_of}, proofs.Items.{first_item, later_item, item_cases}, proofs.Places.is_word}
use Rattle.ct_word.{specs.Stands.{StandsAt, Below, itself, through, TermBelow, HasNoColumn, places_in, places_of}, proofs.Splits.some-injective}
use Rattle.ct_word.proofs.Prefixes.{get_in_prefix, meaning_in_prefix, place_within}
use Rattle.ct_condition.{specs.Rows.cell_for, specs.Terms.{TermsFrom, BelowEither, BelowSome}}
use Rattle.ct_condition.proofs.Reached.{named_earlier, reached_earlier, no_term_at, under_none, under_one}
use Rattle.ct_operators.{specs.Tables.IsRow, specs.Terms.{TermOfRow, TermOfRows, RowFrom, RowsFrom, IsNoColumn}}
use mathlib.Core.List.{IsPrefix}
use Rattle.ct_word.specs.declared.kinds.Kind.TheVariants as kind
use Rattle.ct_word.specs.declared.kinds.Class.TheVariants as class
use Rattle.ct_word.specs.declared.values.Term.TheVariants as term

pub both_all : {X : Type 0} (P Q R : X → Type 0) → ((x : X) → P x → Q x → R x) → (xs : List X) → All P xs → All Q xs → All R xs
both_all P Q R f [] ps qs = All-nil R
both_all P Q R f (x ∷ xs) ps qs = All-cons R x xs (f x (All-head P x xs ps) (All-head Q x xs qs)) (both_all P Q R f xs (All-tail P x xs ps) (All-tail Q x xs qs))

pub some_among : (ws ps qs : List ℕ) (t : Term) → ((p : ℕ) → Contains ps p → Contains qs p) → BelowSome ws ps t → BelowSome ws qs t
some_among ws ps qs t more b = record { place = b.place; among = more b.place b.among; below = b.below }

pub behind : {X : Type 0} (x : X) (xs : List X) (y : X) → Contains xs y → Contains (x ∷ xs) y
behind x xs y h = later_item xs x y h

pub foremost : {X : Type 0} (x : X) (xs : List X) → Contains (x ∷ xs) x
foremost x xs = first_item xs x

pub first_or_behind : {X : Type 0} (x : X) (xs : List X) (y : X) → Contains (x ∷ xs) y → (x ≡ y) ⊎ Contains xs y
first_or_behind x xs y h = item_cases xs x y h

-- the places of a row stand within the words
pub row_within : (ws : List ℕ) (n : ℕ) (r : CRow) → All (λ p. IsTrue (is_place_of ws class.Term p)) r.cells → IsTrue (is_place_of ws class.Cond r.cond) → All (λ p. p < length ws) (r.cond ∷ r.cells)
row_within ws n r terms condition =
    All-cons (λ p. p < length ws) r.cond r.cells (place_within ws class.Cond r.cond condition)
    (All-weaker (λ p. IsTrue (is_place_of ws class.Term p)) (λ p. p < length ws) (λ p. place_within ws class.Term p) r.cells terms)

-- a term below a place of the first words stands below it in them
module _ (old new : List ℕ) (longer : IsPrefix old new) (formed : IsWellFormed old) where
  reached_before : (p r : ℕ) → p < length old → Below new p r → Below old p r
  reached_before p r lt itself = itself
  reached_before p r lt (through w q there among rest) =
      let here : slice_get old p ≡ Some w = sym (get_in_prefix old new p longer lt) ∙ there in
      through w q here among (reached_before q r (omega (arith, named_earlier old formed p w q here among, lt)) rest)

  pub below_before : (p : ℕ) (t : Term) → p < length old → TermBelow new p t → TermBelow old p t
  below_before p t lt h =
      let was = reached_before p h.0 lt h.1 in
      (h.0, was, sym (meaning_in_prefix old new h.0 longer (omega (arith, reached_earlier old formed p h.0 was, lt))) ∙ h.2)

  pub some_below_before : (ps : List ℕ) (t : Term) → All (λ p. p < length old) ps → BelowSome new ps t → BelowSome old ps t
  some_below_before ps t within b =
      record { place = b.place; among = b.among; below = below_before b.place t (All-contains (λ p. p < length old) ps b.place within b.among) b.below }

  -- what its terms are from stays, as words are added
  pub from_later : (p : ℕ) (source : Term → Type 0) → p < length old → TermsFrom old p source → TermsFrom new p source
  from_later p source lt from t h = from t (below_before p t lt h)

  pub all_from_later : (ps : List ℕ) (source : Term → Type 0) → All (λ p. p < length old) ps → All (λ p. TermsFrom old p source) ps → All (λ p. TermsFrom new p source) ps
  all_from_later ps source = both_all (λ p. p < length old) (λ p. TermsFrom old p source) (λ p. TermsFrom new p source) (λ p. from_later p source) ps

  -- and no column comes below them
  pub none_later : (ps : List ℕ) → All (λ p. p < length old) ps → All (HasNoColumn old) ps → All (HasNoColumn new) ps
  none_later = both_all (λ p. p < length old) (HasNoColumn old) (HasNoColumn new) (λ p lt none k h. none k (below_before p (term.Column k) lt h))

-- a place has no column where its terms are from what has none
pub none_from : (ws : List ℕ) (p : ℕ) (source : Term → Type 0) → ((k : ℕ) → source (term.Column k) → ⊥) → TermsFrom ws p source → HasNoColumn ws p
none_from ws p source none from k h = none k (from (term.Column k) h)

pub none_of_some : (ws : List ℕ) (ps : List ℕ) → All (HasNoColumn ws) ps → (k : ℕ) → BelowSome ws ps (term.Column k) → ⊥
none_of_some ws ps none k b = All-contains (HasNoColumn ws) ps b.place none b.among k b.below

-- no column stands below rows
pub none_of_rows : (ws : List ℕ) (rs : List CRow) → All (λ r. All (HasNoColumn ws) (r.cond ∷ r.cells)) rs → (k : ℕ) → TermOfRows ws rs (term.Column k) → ⊥
none_of_rows ws rs each k h = none_of_some ws (h.row.cond ∷ h.row.cells) (All-contains (λ r. All (HasNoColumn ws) (r.cond ∷ r.cells)) rs h.row each h.among) k h.below

pub plain_rows : (ws : List ℕ) (n : ℕ) (rs : List CRow) → All (IsRow ws n) rs → All (λ r. All (HasNoColumn ws) (r.cond ∷ r.cells)) rs
plain_rows ws n rs = All-weaker (IsRow ws n) (λ r. All (HasNoColumn ws) (r.cond ∷ r.cells)) (λ r is. is.plain) rs

-- a term for which there is no cell is no column, where columns are below the row's end
pub no_cell_no_column : (cells : List ℕ) (t : Term) → cell_for cells t ≡ None → ((k : ℕ) → t ≡ term.Column k → k < length cells) → IsNoColumn t
no_cell_no_column cells t none below k e = none-some (get_or cells k 0) (sym none ∙ ap (cell_for cells) e ∙ slice_get-get_or cells k 0 (below k e))

-- a term below some of the rows stands below them
pub rows_among : (ws : List ℕ) (rs ss : List CRow) (t : Term) → ((r : CRow) → Contains rs r → Contains ss r) → TermOfRows ws rs t → TermOfRows ws ss t
rows_among ws rs ss t more h = record { row = h.row; among = more h.row h.among; below = h.below }

-- rows are from themselves
pub row_itself : (ws : List ℕ) (rs : List CRow) (r : CRow) → Contains rs r → RowFrom ws (TermOfRows ws rs) r
row_itself ws rs r among = each (r.cond ∷ r.cells) (λ p h. h) where
  each : (ps : List ℕ) → ((p : ℕ) → Contains ps p → Contains (r.cond ∷ r.cells) p) → All (λ p. TermsFrom ws p (TermOfRows ws rs)) ps
  each [] inside = All-nil (λ p. TermsFrom ws p (TermOfRows ws rs))
  each (p ∷ ps) inside =
      All-cons (λ p. TermsFrom ws p (TermOfRows ws rs)) p ps
      (λ t h. record { row = r; among = among; below = record { place = p; among = inside p (foremost p ps); below = h } })
      (each ps (λ q h. inside q (behind p ps q h)))

pub rows_itself : (ws : List ℕ) (rs : List CRow) → RowsFrom ws rs (TermOfRows ws rs)
rows_itself ws rs = All-weaker (Contains rs) (RowFrom ws (TermOfRows ws rs)) (row_itself ws rs) rs (All-contains_itself rs)

-- what the terms are from, said with a wider source
pub row_wider : (ws : List ℕ) (s u : Term → Type 0) → ((t : Term) → s t → u t) → (r : CRow) → RowFrom ws s r → RowFrom ws u r
row_wider ws s u wider r = All-weaker (λ p. TermsFrom ws p s) (λ p. TermsFrom ws p u) (λ p from t h. wider t (from t h)) (r.cond ∷ r.cells)

pub rows_wider : (ws : List ℕ) (s u : Term → Type 0) → ((t : Term) → s t → u t) → (rs : List CRow) → RowsFrom ws rs s → RowsFrom ws rs u
rows_wider ws s u wider rs = All-weaker (RowFrom ws s) (RowFrom ws u) (row_wider ws s u wider) rs

-- a term below rows is from where they are
pub from_rows : (ws : List ℕ) (rs : List CRow) (source : Term → Type 0) → RowsFrom ws rs source → (t : Term) → TermOfRows ws rs t → source t
from_rows ws rs source from t h =
    All-contains (λ p. TermsFrom ws p source) (h.row.cond ∷ h.row.cells) h.below.place (All-contains (RowFrom ws source) rs h.row from h.among) h.below.among t h.below.below

module _ (old new : List ℕ) (longer : IsPrefix old new) (formed : IsWellFormed old) (n : ℕ) where
  pub row_later : (source : Term → Type 0) (r : CRow) → IsRow old n r → RowFrom old source r → RowFrom new source r
  row_later source r is = all_from_later old new longer formed (r.cond ∷ r.cells) source (row_within old n r is.terms is.condition)

  pub rows_later : (source : Term → Type 0) (rs : List CRow) → All (IsRow old n) rs → RowsFrom old rs source → RowsFrom new rs source
  rows_later source = both_all (IsRow old n) (RowFrom old source) (RowFrom new source) (row_later source)

  pub row_before : (r : CRow) (t : Term) → IsRow old n r → TermOfRow new r t → TermOfRow old r t
  row_before r t is = some_below_before old new longer formed (r.cond ∷ r.cells) t (row_within old n r is.terms is.condition)

  pub rows_before : (rs : List CRow) (t : Term) → All (IsRow old n) rs → TermOfRows new rs t → TermOfRows old rs t
  rows_before rs t each h = record { row = h.row; among = h.among; below = row_before h.row t (All-contains (IsRow old n) rs h.row each h.among) h.below }

  -- a row under another condition
  pub under_from : (source : Term → Type 0) (r : CRow) (place : ℕ) → IsRow old n r → RowFrom old source r → TermsFrom new place source → RowFrom new source (record { cells = r.cells; cond = place })
  under_from source r place is from one =
      All-cons (λ p. TermsFrom new p source) place r.cells one (All-tail (λ p. TermsFrom new p source) r.cond r.cells (row_later source r is from))

-- the word of two places
pub from_two : (now new : List ℕ) (c d place : ℕ) (source : Term → Type 0) → TermsFrom now c source → TermsFrom now d source → TermsFrom new place (BelowEither now c d) → TermsFrom new place source
from_two now new c d place source left right from t h = elim (from t h) [ inl a ↦ left t a | inr b ↦ right t b ]

-- the word of a place that stands there already and of one over more words
pub from_beside : (old mid new : List ℕ) (c d : ℕ) (source : Term → Type 0) {E : Type 0} (r : Result ℕ E) → IsPrefix old mid → IsWellFormed old → IsTrue (is_place_of old class.Cond c)
    → TermsFrom old c source → TermsFrom mid d source → IfOk r (λ p. TermsFrom new p (BelowEither mid c d)) → IfOk r (λ p. TermsFrom new p source)
from_beside old mid new c d source r longer formed e left right =
    IfOk-weaker r (λ p. TermsFrom new p (BelowEither mid c d)) (λ p. TermsFrom new p source)
    (λ p. from_two mid new c d p source (from_later old mid longer formed c source (place_within old class.Cond c e) left) right)

-- a term below a row of one table, or below the other table
pub of_either : (old now : List ℕ) (grown : IsPrefix old now) (formed : IsWellFormed old) (m n : ℕ) (ls rs : List CRow) (l : CRow) → IsRow old m l → Contains ls l → All (IsRow old n) rs
    → (t : Term) → TermOfRows now (l ∷ rs) t → TermOfRows old (ls ++ rs) t
of_either old now grown formed m n ls rs l is among each t h = elim (first_or_behind l rs h.row h.among) [
  | inl e ↦ record { row = l; among = Contains-append_left ls rs l among; below = row_before old now grown formed m l t is (subst (λ r. TermOfRow now r t) (sym e) h.below) }
  | inr b ↦
      record {
        row = h.row;
        among = Contains-append_right ls rs h.row b;
        below = row_before old now grown formed n h.row t (All-contains (IsRow old n) rs h.row each b) h.below;
      }
]

module _ (old now : List ℕ) (grown : IsPrefix old now) (formed : IsWellFormed old) where
  -- a term below one of two places of the first words
  pub pair_below : (ps qs : List ℕ) (p q : ℕ) → Contains ps p → Contains qs q → p < length old → q < length old → (t : Term) → BelowEither now p q t → BelowSome old (ps ++ qs) t
  pair_below ps qs p q left right l r t (inl a) = record { place = p; among = Contains-append_left ps qs p left; below = below_before old now grown formed p t l a }
  pair_below ps qs p q left right l r t (inr b) = record { place = q; among = Contains-append_right ps qs q right; below = below_before old now grown formed q t r b }

  -- a term below a row, or below further cells
  pub shown_from : (n : ℕ) (s : CRow) (others : List CRow) (cells : List ℕ) → All (λ p. IsTrue (is_place_of old class.Term p)) cells → IsRow old n s → Contains others s
      → (t : Term) → BelowSome now (s.cond ∷ (s.cells ++ cells)) t → BelowSome old cells t ⊎ TermOfRows old others t
  shown_from n s others cells terms is among t b = elim (first_or_behind s.cond (s.cells ++ cells) b.place b.among) [
    | inl e ↦ of_other (record { place = s.cond; among = foremost s.cond s.cells; below = subst (λ p. TermBelow now p t) (sym e) b.below })
    | inr x ↦ elim (Contains-append_cases s.cells cells b.place x) [
      | inl a ↦ of_other (record { place = b.place; among = behind s.cond s.cells b.place a; below = b.below })
      | inr a ↦
          inl (some_below_before old now grown formed cells t (All-weaker (λ p. IsTrue (is_place_of old class.Term p)) (λ p. p < length old) (λ p. place_within old class.Term p) cells terms)
          (record { place = b.place; among = a; below = b.below }))
    ]
  ] where
    of_other : TermOfRow now s t → BelowSome old cells t ⊎ TermOfRows old others t
    of_other h = inr (record { row = s; among = among; below = row_before old now grown formed n s t is h })

-- a term below a place stands there, or below a place that its word names
pub at_or_under : (ws : List ℕ) (p r w : ℕ) (t : Term) → slice_get ws p ≡ Some w → Below ws p r → StandsAt ws r (IsTerm t) → StandsAt ws p (IsTerm t) ⊎ BelowSome ws (places_of w) t
at_or_under ws p r w t there itself s = inl s
at_or_under ws p r w t there (through v q is among rest) s =
    inr (record { place = q; among = subst (λ x. Contains (places_of x) q) (some-injective v w (sym is ∙ there)) among; below = (r, rest, s) })

-- a word of a well formed list, taken apart
pub word_apart : (ws : List ℕ) → IsWellFormed ws → (p w : ℕ) → slice_get ws p ≡ Some w → (k : Kind) → kind_of w ≡ Some k → IsWordAt ws p (record { kind = k; left = left_of w; right = right_of w })
word_apart ws formed p w there k is = word_is ws p w there formed k is (omega arith) (omega arith)

module _ (ws : List ℕ) (formed : IsWellFormed ws) where
  -- a place of a class has a word of it
  pub word_of_place : (c : Class) (p : ℕ) → IsTrue (is_place_of ws c p) → (w : ℕ) × (slice_get ws p ≡ Some w) × (has_class (kind_of w) c ≡ true)
  word_of_place c p e = is_word (slice_get ws p) c e

  pub named_by : (w : ℕ) (k : Kind) → kind_of w ≡ Some k → (t : Term) → BelowSome ws (places_of w) t → BelowSome ws (places_in (Some k) (left_of w) (right_of w)) t
  unfolding places_of
  named_by w k is t b = subst (λ o. BelowSome ws (places_in o (left_of w) (right_of w)) t) is b

  -- no term stands below a number's high bits
  high_terms : (p : ℕ) (t : Term) → IsTrue (is_place_of ws class.High p) → TermBelow ws p t → ⊥
  high_terms p t e h = by_kind (kind_of word.0) refl word.2 where
    word : (w : ℕ) × (slice_get ws p ≡ Some w) × (has_class (kind_of w) class.High ≡ true)
    word = word_of_place class.High p e

    by_kind : (o : Option Kind) → kind_of word.0 ≡ o → has_class o class.High ≡ true → ⊥
    by_kind (Some kind.NumberHigh) is c = elim (at_or_under ws p h.0 word.0 t word.1 h.1 h.2) [
      | inl s ↦ no_term_at ws class.High p t e (λ q. cc) s
      | inr b ↦ under_none ws t (named_by word.0 kind.NumberHigh is t b)
    ]
    by_kind _ is c = absurd (false≢true c)

  -- nor below a text
  text_terms : (n p : ℕ) (t : Term) → p < n → IsTrue (is_place_of ws class.Text p) → TermBelow ws p t → ⊥
  text_terms zero p t lt e h = omega (arith, lt)
  text_terms (suc n) p t lt e h = by_kind (kind_of word.0) refl word.2 (λ a less at_a below. text_terms n a t (omega (arith, less, lt)) at_a below) where
    word : (w : ℕ) × (slice_get ws p ≡ Some w) × (has_class (kind_of w) class.Text ≡ true)
    word = word_of_place class.Text p e

    by_kind : (o : Option Kind) → kind_of word.0 ≡ o → has_class o class.Text ≡ true → ((a : ℕ) → a < p → IsTrue (is_place_of ws class.Text a) → TermBelow ws a t → ⊥) → ⊥
    by_kind (Some kind.TextEnd) is c before = elim (at_or_under ws p h.0 word.0 t word.1 h.1 h.2) [
      | inl s ↦ no_term_at ws class.Text p t e (λ q. cc) s
      | inr b ↦ under_none ws t (named_by word.0 kind.TextEnd is t b)
    ]
    by_kind (Some kind.TextCharacter) is c before = elim (at_or_under ws p h.0 word.0 t word.1 h.1 h.2) [
      | inl s ↦ no_term_at ws class.Text p t e (λ q. cc) s
      | inr b ↦
          let field = (word_apart ws formed p word.0 word.1 kind.TextCharacter is).left in
          before (left_of word.0) field.0 field.1 (under_one ws (left_of word.0) t (named_by word.0 kind.TextCharacter is t b))
    ]
    by_kind _ is c before = absurd (false≢true c)

  -- below a term stands that term alone
  pub term_alone : (p : ℕ) (t : Term) → IsTrue (is_place_of ws class.Term p) → TermBelow ws p t → t ≡ term_at ws p
  term_alone p t e h = by_kind (kind_of word.0) refl word.2 where
    word : (w : ℕ) × (slice_get ws p ≡ Some w) × (has_class (kind_of w) class.Term ≡ true)
    word = word_of_place class.Term p e

    here : StandsAt ws p (IsTerm t) → t ≡ term_at ws p
    here s = sym (ap as_term s)

    under : (k : Kind) → kind_of word.0 ≡ Some k → (BelowSome ws (places_in (Some k) (left_of word.0) (right_of word.0)) t → ⊥) → t ≡ term_at ws p
    under k is none = elim (at_or_under ws p h.0 word.0 t word.1 h.1 h.2) [ inl s ↦ here s | inr b ↦ absurd (none (named_by word.0 k is t b)) ]

    by_kind : (o : Option Kind) → kind_of word.0 ≡ o → has_class o class.Term ≡ true → t ≡ term_at ws p
    by_kind (Some kind.Number) is c = under kind.Number is
        (λ b. high_terms (left_of word.0) t (word_apart ws formed p word.0 word.1 kind.Number is).left.1 (under_one ws (left_of word.0) t b))
    by_kind (Some kind.TextConstant) is c = under kind.TextConstant is
        (λ b. text_terms (suc (left_of word.0)) (left_of word.0) t (omega arith) (word_apart ws formed p word.0 word.1 kind.TextConstant is).left.1 (under_one ws (left_of word.0) t b))
    by_kind (Some kind.NamedNull) is c = under kind.NamedNull is
        (λ b. text_terms (suc (left_of word.0)) (left_of word.0) t (omega arith) (word_apart ws formed p word.0 word.1 kind.NamedNull is).left.1 (under_one ws (left_of word.0) t b))
    by_kind (Some kind.FreshNull) is c = under kind.FreshNull is (under_none ws t)
    by_kind (Some kind.OtherValue) is c = under kind.OtherValue is (under_none ws t)
    by_kind (Some kind.Column) is c = under kind.Column is (under_none ws t)
    by_kind _ is c = absurd (false≢true c)

  -- a term below a place that a word names stands below the word's place
  pub under_named : (p w q : ℕ) (k : Kind) → slice_get ws p ≡ Some w → kind_of w ≡ Some k → Contains (places_in (Some k) (left_of w) (right_of w)) q → (t : Term) → TermBelow ws q t → TermBelow ws p t
  unfolding places_of
  under_named p w q k there is among t h = (h.0, through w q there (subst (λ o. Contains (places_in o (left_of w) (right_of w)) q) (sym is) among) h.1, h.2)

  -- no term stands below a condition that names no place
  pub none_under_condition : (p w : ℕ) (k : Kind) → slice_get ws p ≡ Some w → kind_of w ≡ Some k → places_in (Some k) (left_of w) (right_of w) ≡ [] → IsTrue (is_place_of ws class.Cond p)
      → (t : Term) → TermBelow ws p t → ⊥
  none_under_condition p w k there is none e t h = elim (at_or_under ws p h.0 w t there h.1 h.2) [
    | inl s ↦ no_term_at ws class.Cond p t e (λ q. cc) s
    | inr b ↦ under_none ws t (subst (λ ps. BelowSome ws ps t) none (named_by w k is t b))
  ]
