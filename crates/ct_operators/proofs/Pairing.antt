-- Rows joined with rows.
use Rattle.std.proofs.Common.{◌≡◌, ℕ, ◌+◌, Bool, true, false, ◌&&◌, List, [], ◌∷◌, ◌++◌, map, length, take, cond, refl, ap, sym, ◌∙◌}
use Rattle.std.{specs.Prelude.{◌≢◌, IsTrue, All}, specs.List.{IsDistinct, AllByRecursion}, proofs.Math.Seq.take-append_seam}
use Rattle.std.{proofs.lemmas.Bool.false_from_ne_true, proofs.lemmas.Bool.Decides.not_from_Decides, proofs.lemmas.List.Concat.flat_map-append}
use Rattle.std.proofs.lemmas.List.{append-nil, map_push, map-append, length-append, length-map, append_cancel_left}
use Rattle.std.proofs.lemmas.List.Elements.{All-append, All-cons, All-nil, All-head, All-tail, All-map, All-weaker}
use Rattle.std.proofs.lemmas.Map.Keys.{IsDistinct-head, IsDistinct-tail, IsDistinct-cons}
use Rattle.ct_word.{specs.declared.values.Value.Value, specs.declared.values.Term.Term, specs.declared.values.CRow.CRow, specs.Condition.holds_at}
use Rattle.ct_word.{specs.Value.{World, at, tuple_at, same_cells}, specs.WellFormed.{IsWellFormed, is_place_of}, specs.Stands.HasNoColumn}
use Rattle.ct_word.{specs.Reading.{term_at, condition_at, plain_crow}, proofs.Alike.cells_decide}
use Rattle.ct_word.proofs.Prefixes.{prefix_of_prefix, condition_in_prefix, place_within}
use Rattle.ct_condition.{specs.Truth.{HasTruth, and_at}, specs.Terms.{TermsFrom, BelowEither}, proofs.Reached.formed_before}
use Rattle.ct_operators.{specs.Tables.{cells_of, value_of_rows, IsRow, AreRows}, specs.Terms.RowFrom, specs.Building.Builds, proofs.Firsts.none_distinct}
use Rattle.ct_operators.{proofs.Reaching.{none_from, row_later, from_two}, proofs.Selecting.{value-append, one_shown}}
use Rattle.ct_operators.proofs.Growing.{terms_grow, is_row_grows, cells_grow, value_grows}
use Rattle.ct_operators.proofs.Building.{builds_none, builds_as, builds_append, builds_one}
use Rattle.ct_query.specs.Rows.{joins}
use mathlib.Core.List.{IsPrefix}
use Rattle.ct_word.specs.declared.kinds.Class.TheVariants as class
use Rattle.ct_word.specs.declared.values.Term.TheVariants as term

-- one tuple or none, joined with one or none
one_join : (c d : Bool) (l r : List Value) → cond (c && d) ((l ++ r) ∷ []) [] ≡ joins (cond c (l ∷ []) []) (cond d (r ∷ []) [])
one_join true true l r = refl
one_join true false l r = refl
one_join false d l r = refl

-- one tuple or none, joined with more
more_joins : (c : Bool) (l : List Value) (rs ss : List (List Value)) → joins (cond c (l ∷ []) []) (rs ++ ss) ≡ joins (cond c (l ∷ []) []) rs ++ joins (cond c (l ∷ []) []) ss
more_joins true l rs ss =
    append-nil (map (λ r. l ++ r) (rs ++ ss)) ∙ map-append (λ r. l ++ r) rs ss
    ∙ sym (λ i. append-nil (map (λ r. l ++ r) rs) i ++ append-nil (map (λ r. l ++ r) ss) i)
more_joins false l rs ss = refl

no_joins : {A : Type 0} (ls : List (List A)) → [] ≡ joins ls []
no_joins [] = refl
no_joins (l ∷ ls) = no_joins ls

module _ (old now new : List ℕ) (grown : IsPrefix old now) (longer : IsPrefix now new) (l r : CRow) (m n : ℕ) (left : IsRow old m l) (right : IsRow old n r)
    (place : ℕ) (both : HasTruth new place (and_at now l.cond r.cond)) (formed : IsWellFormed old) (none : HasNoColumn new place) where
  abbrev pub pair : CRow
  pair = record { cells = l.cells ++ r.cells; cond = place }

  far : IsPrefix old new
  far = prefix_of_prefix old now new grown longer

  left_later : IsRow new m l
  left_later = is_row_grows old new far formed m l left

  right_later : IsRow new n r
  right_later = is_row_grows old new far formed n r right

  pub pair_is_row : IsRow new (m + n) pair
  pair_is_row = record {
    terms = All-append (λ p. IsTrue (is_place_of new class.Term p)) l.cells r.cells left_later.terms right_later.terms;
    condition = both.class;
    width_is = length-append l.cells r.cells ∙ (λ i. left.width_is i + right.width_is i);
    plain = All-cons (HasNoColumn new) place (l.cells ++ r.cells) none
        (All-append (HasNoColumn new) l.cells r.cells (All-tail (HasNoColumn new) l.cond l.cells left_later.plain) (All-tail (HasNoColumn new) r.cond r.cells right_later.plain));
  }

  pub pair_cells : map (term_at new) (l.cells ++ r.cells) ≡ map (term_at old) l.cells ++ map (term_at old) r.cells
  pair_cells = map-append (term_at new) l.cells r.cells ∙ (λ i. terms_grow old new far l.cells left.terms i ++ terms_grow old new far r.cells right.terms i)

  pair_holds : (v : World) → holds_at v (condition_at new place) ≡ (holds_at v (condition_at old l.cond) && holds_at v (condition_at old r.cond))
  pair_holds v =
      both.truth_is v []
      ∙ (λ i. holds_at v (condition_in_prefix old now l.cond grown (place_within old class.Cond l.cond left.condition) i)
      && holds_at v (condition_in_prefix old now r.cond grown (place_within old class.Cond r.cond right.condition) i))

  pub pair_worth : (v : World) → value_of_rows new v (pair ∷ []) ≡ joins (value_of_rows old v (l ∷ [])) (value_of_rows old v (r ∷ []))
  pair_worth v =
      one_shown v (plain_crow new pair) _ (pair_holds v)
      ∙ ap (λ t. cond (holds_at v (condition_at old l.cond) && holds_at v (condition_at old r.cond)) (t ∷ []) [])
      (ap (tuple_at v) pair_cells ∙ map-append (at v []) (map (term_at old) l.cells) (map (term_at old) r.cells))
      ∙ one_join (holds_at v (condition_at old l.cond)) (holds_at v (condition_at old r.cond)) (tuple_at v (map (term_at old) l.cells)) (tuple_at v (map (term_at old) r.cells))
      ∙ sym (λ i. joins (one_shown v (plain_crow old l) _ refl i) (one_shown v (plain_crow old r) _ refl i))

-- a row joined with the rows so far, and with one more
module _ (old : List ℕ) (l : CRow) (m n : ℕ) where
  pub no_pairs : (source : Term → Type 0) → Builds old old (m + n) [] (λ v. joins (value_of_rows old v (l ∷ [])) []) source []
  no_pairs source = builds_as old old (m + n) [] [] (λ v. []) _ source source [] refl (λ v. no_joins (value_of_rows old v (l ∷ []))) (λ t h. h) (builds_none old (m + n) source)

  pub pairs_more : (now new : List ℕ) (formed : IsWellFormed now) (source : Term → Type 0) → ((k : ℕ) → source (term.Column k) → ⊥) → (done out : List CRow)
      → Builds old now (m + n) (map (λ c. map (term_at old) l.cells ++ c) (cells_of old done)) (λ v. joins (value_of_rows old v (l ∷ [])) (value_of_rows old v done)) source out
      → IsPrefix now new → IsRow old m l → RowFrom old source l → (r : CRow) → IsRow old n r → RowFrom old source r
      → (place : ℕ) → HasTruth new place (and_at now l.cond r.cond) → TermsFrom new place (BelowEither now l.cond r.cond)
      → Builds old new (m + n) (map (λ c. map (term_at old) l.cells ++ c) (cells_of old (done ++ r ∷ []))) (λ v. joins (value_of_rows old v (l ∷ [])) (value_of_rows old v (done ++ r ∷ []))) source
      (out ++ record { cells = l.cells ++ r.cells; cond = place } ∷ [])
  pairs_more now new formed source plain done out s longer left left_from r right right_from place both either =
      let first = formed_before old now s.grown formed in
      let from : TermsFrom new place source = from_two now new l.cond r.cond place source
      (All-head (λ p. TermsFrom now p source) l.cond l.cells (row_later old now s.grown first m source l left left_from))
      (All-head (λ p. TermsFrom now p source) r.cond r.cells (row_later old now s.grown first n source r right right_from)) either in
      let none = none_from new place source plain from in
      let far = prefix_of_prefix old now new s.grown longer in
      builds_as old new (m + n) _ _ _ (λ v. joins (value_of_rows old v (l ∷ [])) (value_of_rows old v (done ++ r ∷ []))) source source (out ++ pair old now new s.grown longer l r m n left right place both first none ∷ [])
      ((λ i. map (λ c. map (term_at old) l.cells ++ c) (cells_of old done) ++ pair_cells old now new s.grown longer l r m n left right place both first none i ∷ [])
      ∙ sym (map_push (λ c. map (term_at old) l.cells ++ c) (cells_of old done) (map (term_at old) r.cells))
      ∙ ap (map (λ c. map (term_at old) l.cells ++ c)) (sym (map_push (λ (r : CRow). map (term_at old) r.cells) done r)))
      (λ v.
      (λ i. joins (value_of_rows old v (l ∷ [])) (value_of_rows old v done) ++ pair_worth old now new s.grown longer l r m n left right place both first none v i)
      ∙ (λ i. joins (one_shown v (plain_crow old l) _ refl i) (value_of_rows old v done) ++ joins (one_shown v (plain_crow old l) _ refl i) (value_of_rows old v (r ∷ [])))
      ∙ sym (more_joins (holds_at v (condition_at old l.cond)) (tuple_at v (map (term_at old) l.cells)) (value_of_rows old v done) (value_of_rows old v (r ∷ [])))
      ∙ (λ i. joins (sym (one_shown v (plain_crow old l) _ refl) i) (sym (value-append old v done (r ∷ [])) i)))
      (λ t h. h)
      (builds_append old now new formed (m + n) (map (λ c. map (term_at old) l.cells ++ c) (cells_of old done)) _ (λ v. joins (value_of_rows old v (l ∷ [])) (value_of_rows old v done)) _ source out (pair old now new s.grown longer l r m n left right place both first none ∷ []) s
      (builds_one now new (m + n) source (pair old now new s.grown longer l r m n left right place both first none) longer (pair_is_row old now new s.grown longer l r m n left right place both first none)
      (All-cons (λ p. TermsFrom new p source) place (l.cells ++ r.cells) from
      (All-append (λ p. TermsFrom new p source) l.cells r.cells (All-tail (λ p. TermsFrom new p source) l.cond l.cells (row_later old new far first m source l left left_from))
      (All-tail (λ p. TermsFrom new p source) r.cond r.cells (row_later old new far first n source r right right_from))))))

-- the pairs of one row, said of the words before
pub pairs_before : (old now new : List ℕ) (m n : ℕ) (rs added : List CRow) (l : CRow) (source source' : Term → Type 0) → ((t : Term) → source t → source' t)
    → IsPrefix old now → IsRow old m l → All (IsRow old n) rs
    → Builds now new (m + n) (map (λ c. map (term_at now) l.cells ++ c) (cells_of now rs)) (λ v. joins (value_of_rows now v (l ∷ [])) (value_of_rows now v rs)) source added
    → Builds now new (m + n) (map (λ c. map (term_at old) l.cells ++ c) (cells_of old rs)) (λ v. joins (value_of_rows old v (l ∷ [])) (value_of_rows old v rs)) source' added
pairs_before old now new m n rs added l source source' wider grown left right s =
    builds_as now new (m + n) _ _ _ (λ v. joins (value_of_rows old v (l ∷ [])) (value_of_rows old v rs)) source source' added
    (λ i. map (λ c. terms_grow old now grown l.cells left.terms i ++ c) (cells_grow old now grown n rs right i))
    (λ v i. joins (value_grows old now grown v m (l ∷ []) (All-cons (IsRow old m) l [] left (All-nil (IsRow old m))) i) (value_grows old now grown v n rs right i)) wider s

-- the rows so far joined with all of those, and one more
pub all_pairs_more : (old now new : List ℕ) (formed : IsWellFormed now) (m n : ℕ) (source : Term → Type 0) (done rs out added : List CRow) (l : CRow)
    → Builds old now (m + n) (joins (cells_of old done) (cells_of old rs)) (λ v. joins (value_of_rows old v done) (value_of_rows old v rs)) source out
    → Builds now new (m + n) (map (λ c. map (term_at old) l.cells ++ c) (cells_of old rs)) (λ v. joins (value_of_rows old v (l ∷ [])) (value_of_rows old v rs)) source added
    → Builds old new (m + n) (joins (cells_of old (done ++ l ∷ [])) (cells_of old rs)) (λ v. joins (value_of_rows old v (done ++ l ∷ [])) (value_of_rows old v rs)) source (out ++ added)
all_pairs_more old now new formed m n source done rs out added l s t =
    builds_as old new (m + n) _ _ _ (λ v. joins (value_of_rows old v (done ++ l ∷ [])) (value_of_rows old v rs)) source source (out ++ added)
    (ap (λ cs. joins (cells_of old done) (cells_of old rs) ++ cs) (sym (append-nil (map (λ c. map (term_at old) l.cells ++ c) (cells_of old rs))))
    ∙ sym (flat_map-append (λ k. map (λ c. k ++ c) (cells_of old rs)) (cells_of old done) (map (term_at old) l.cells ∷ []))
    ∙ ap (λ ls. joins ls (cells_of old rs)) (sym (map_push (λ (r : CRow). map (term_at old) r.cells) done l)))
    (λ v.
    sym (flat_map-append (λ k. map (λ c. k ++ c) (value_of_rows old v rs)) (value_of_rows old v done) (value_of_rows old v (l ∷ [])))
    ∙ ap (λ ls. joins ls (value_of_rows old v rs)) (sym (value-append old v done (l ∷ []))))
    (λ t h. h)
    (builds_append old now new formed (m + n) (joins (cells_of old done) (cells_of old rs)) (map (λ c. map (term_at old) l.cells ++ c) (cells_of old rs))
    (λ v. joins (value_of_rows old v done) (value_of_rows old v rs)) (λ v. joins (value_of_rows old v (l ∷ [])) (value_of_rows old v rs)) source out added s t)

-- lists that begin with different lists of one length differ
begun_apart : (k l a b : List Term) → length k ≡ length l → k ≢ l → k ++ a ≢ l ++ b
begun_apart k l a b e ne same = ne (
    sym (take-append_seam k a)
    ∙ ap (take (length k)) same
    ∙ ap (λ n. take n (l ++ b)) e
    ∙ take-append_seam l b)

differ : (a b : List Term) → a ≢ b → same_cells a b ≡ false
differ a b ne = false_from_ne_true (same_cells a b) (λ e. ne ((cells_decide a b).0 e))

-- a list joined to one is apart from all that begin with others
all_apart : (k : List Term) (rs ls : List (List Term)) (n : ℕ) → length k ≡ n → All (λ l. length l ≡ n) ls → AllByRecursion (λ l. same_cells k l ≡ false) ls → (a : List Term)
    → AllByRecursion (λ x. same_cells (k ++ a) x ≡ false) (joins ls rs)
all_apart k rs [] n e long ne a = tt
all_apart k rs (l ∷ ls) n e long ne a = row rs (all_apart k rs ls n e (All-tail (λ l. length l ≡ n) l ls long) ne.1 a) where
  row : (ss : List (List Term)) → AllByRecursion (λ x. same_cells (k ++ a) x ≡ false) (joins ls rs) → AllByRecursion (λ x. same_cells (k ++ a) x ≡ false) (map (λ r. l ++ r) ss ++ joins ls rs)
  row [] later = later
  row (s ∷ ss) later = (differ (k ++ a) (l ++ s) (begun_apart k l a s (e ∙ sym (All-head (λ l. length l ≡ n) l ls long)) (not_from_Decides (same_cells k l) (cells_decide k l) ne.0)), row ss later)

joins_distinct : (rs ls : List (List Term)) (n : ℕ) → All (λ l. length l ≡ n) ls → IsDistinct same_cells ls → IsDistinct same_cells rs → IsDistinct same_cells (joins ls rs)
joins_distinct rs [] n long d dr = none_distinct same_cells
joins_distinct rs (l ∷ ls) n long d dr = row rs dr (joins_distinct rs ls n (All-tail (λ l. length l ≡ n) l ls long) (IsDistinct-tail same_cells l ls d) dr) where
  row : (ss : List (List Term)) → IsDistinct same_cells ss → IsDistinct same_cells (joins ls rs) → IsDistinct same_cells (map (λ r. l ++ r) ss ++ joins ls rs)
  row [] ds later = later
  row (s ∷ ss) ds later =
      IsDistinct-cons same_cells (l ++ s) (map (λ r. l ++ r) ss ++ joins ls rs) (others ss (IsDistinct-head same_cells s ss ds)) (row ss (IsDistinct-tail same_cells s ss ds) later) where
        others : (ts : List (List Term)) → AllByRecursion (λ y. same_cells s y ≡ false) ts → AllByRecursion (λ y. same_cells (l ++ s) y ≡ false) (map (λ r. l ++ r) ts ++ joins ls rs)
        others [] a = all_apart l rs ls n (All-head (λ l. length l ≡ n) l ls long) (All-tail (λ l. length l ≡ n) l ls long) (IsDistinct-head same_cells l ls d) s
        others (t ∷ ts) a = (differ (l ++ s) (l ++ t) (λ e. not_from_Decides (same_cells s t) (cells_decide s t) a.0 (append_cancel_left l s t e)), others ts a.1)

-- the joined cells of two tables are distinct
pub joined_apart : (ws : List ℕ) (m n : ℕ) (ls rs : List CRow) → AreRows ws m ls → AreRows ws n rs → IsDistinct same_cells (joins (cells_of ws ls) (cells_of ws rs))
joined_apart ws m n ls rs left right =
    joins_distinct (cells_of ws rs) (cells_of ws ls) m
    (All-map (λ l. length l ≡ m) (λ (r : CRow). map (term_at ws) r.cells) ls
    (All-weaker (IsRow ws m) (λ r. length (map (term_at ws) r.cells) ≡ m) (λ r is. length-map r.cells (term_at ws) ∙ is.width_is) ls left.each))
    left.distinct right.distinct
