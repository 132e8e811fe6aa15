-- The tuples that rows are worth at a kept world: how many there are, and which values they have.
use Rattle.std.proofs.Common.{◌≡◌, ◌≤◌, ℕ, zero, suc, Bool, true, false, List, [], ◌∷◌, ◌++◌, map, length, refl, ap, sym, subst, ◌∙◌, arith, inl, inr, if◌then◌else◌}
use Rattle.std.{specs.Prelude.{◌&&◌, ◌||◌, not, All, IsTrue, filter}, specs.List.{IsDistinct, list_any}, specs.Cmp.IsEquivalence, proofs.lemmas.Bool.{and_from, and_parts, false≢true}}
use Rattle.std.{proofs.lemmas.Bool.Decides.same_from_decides, specs.Cmp.Lexicographic.pointwise}
use Rattle.std.proofs.lemmas.List.Elements.{All-head, All-tail, All-nil, All-cons, All-weaker}
use Rattle.indexmap.specs.IndexSet.{insert_key}
use Rattle.ct_word.{specs.declared.values.Value.Value, specs.declared.values.Null.Null, specs.declared.values.Term.Term, specs.declared.values.CRow.CRow}
use Rattle.ct_word.{specs.Value.{World, at, cell_at, other_zero, same_null, same_tuple, same_value, tuple_at, value_of_null}, specs.Condition.holds_at}
use Rattle.ct_word.{specs.Reading.{IsTerm, condition_at, plain_crow, term_at}, specs.Stands.{HasNoColumn, StandsAt}, proofs.Alike.tuple_decides}
use Rattle.ct_word.{specs.WellFormed.{IsWellFormed, is_place_of}, specs.Sublist.{IsSublist, ended, left_out, taken}, proofs.Places.stands_term}
use Rattle.ct_word.proofs.Prefixes.{condition_in_prefix, place_in_prefix, place_within, prefix_of_prefix, prefix_same}
use Rattle.ct_arena.specs.Counts.{opening}
use Rattle.ct_condition.proofs.{Placed.place_from, Reached.terms_before}
use Rattle.ct_equality.specs.Valued.{IsNumbered}
use Rattle.ct_operators.{specs.Tables.{AreRows, IsRow, firsts, value_of_rows}, proofs.Firsts.{any_first, firsts_known, firsts_long, firsts_new, firsts_part}}
use Rattle.ct_operators.proofs.{Growing.{rows_grow, value_grows}, Holding.holds_false}
use Rattle.ct_query.specs.Database.{has_tuple}
use Rattle.ct_rewrite.proofs.Nodes.{term_compared}
use Rattle.ct_certain.{specs.declared.striking.Seen.Seen, specs.Certain.{IsInAll, IsKeptWorld, IsMissed}, specs.Missing.{IsAskedOf, IsAtHand, IsSeen, is_in_each}}
use Rattle.ct_certain.proofs.{Missing.{one_or_none, one_row}, Values.at_hand_grows}
use mathlib.Core.List.{IsPrefix}
use Rattle.ct_word.specs.declared.kinds.Class.TheVariants as class
use Rattle.ct_word.specs.declared.values.Term.TheVariants as term
use Rattle.ct_word.specs.contracts.values.ValuePartialEq.TheImpl as value_eq

append_none : {X : Type 0} (xs : List X) → xs ++ [] ≡ xs
append_none [] = refl
append_none (x ∷ xs) = ap (λ l. x ∷ l) (append_none xs)

zero_numbered : IsNumbered other_zero
zero_numbered = record { number = 0; short = omega arith; value = refl }

cell_of_none : (k : ℕ) → cell_at [] k ≡ other_zero
cell_of_none zero = refl
cell_of_none (suc k) = refl

module _ (words : List ℕ) where
  null_at_hand : (ps : World) → All (λ p. IsAtHand words p.1) ps → (n : Null) → IsAtHand words (value_of_null ps n)
  null_at_hand [] all n = inr zero_numbered
  null_at_hand (p ∷ ps) all n = by (same_null p.0 n) (null_at_hand ps (All-tail (λ p. IsAtHand words p.1) p ps all) n) where
    by : (b : Bool) → IsAtHand words (value_of_null ps n) → IsAtHand words (if b then p.1 else value_of_null ps n)
    by true rest = All-head (λ p. IsAtHand words p.1) p ps all
    by false rest = rest

  module _ (v : World) (values : All (λ p. IsAtHand words p.1) v) where
    term_at_hand : (p : ℕ) (t : Term) → StandsAt words p (IsTerm t) → IsAtHand words (at v [] t)
    term_at_hand p (term.Column k) s = subst (IsAtHand words) (sym (cell_of_none k)) (inr zero_numbered)
    term_at_hand p (term.Null n) s = null_at_hand v values n
    term_at_hand p (term.Value x) s = inl (place_from words p (term.Value x) s)

    tuple_at_hand : (ps : List ℕ) → All (λ p. IsTrue (is_place_of words class.Term p)) ps → All (IsAtHand words) (tuple_at v (map (term_at words) ps))
    tuple_at_hand [] are = All-nil (IsAtHand words)
    tuple_at_hand (p ∷ ps) are = All-cons (IsAtHand words) (at v [] (term_at words p)) (tuple_at v (map (term_at words) ps))
        (term_at_hand p (term_at words p) (stands_term words p (All-head (λ p. IsTrue (is_place_of words class.Term p)) p ps are)))
        (tuple_at_hand ps (All-tail (λ p. IsTrue (is_place_of words class.Term p)) p ps are))

  tuple_long : (v : World) (ps : List ℕ) → length (tuple_at v (map (term_at words) ps)) ≡ length ps
  tuple_long v [] = refl
  tuple_long v (p ∷ ps) = let h = tuple_long v ps in omega (arith, h)

  each_worth : (P : List Value → Type 0) (v : World) (rs : List CRow) → All (λ r. P (tuple_at v (map (term_at words) r.cells))) rs → All P (value_of_rows words v rs)
  each_worth P v [] all = All-nil P
  each_worth P v (r ∷ rs) all = by (holds_at v (condition_at words r.cond)) (each_worth P v rs (All-tail (λ r. P (tuple_at v (map (term_at words) r.cells))) r rs all)) where
    by : (b : Bool) → All P (value_of_rows words v rs) → All P (map (λ q. tuple_at v q.cells) (if b then plain_crow words r ∷ filter (λ q. holds_at v q.condition) (map (plain_crow words) rs) else filter (λ q. holds_at v q.condition) (map (plain_crow words) rs)))
    by true rest = All-cons P (tuple_at v (map (term_at words) r.cells)) (value_of_rows words v rs) (All-head (λ r. P (tuple_at v (map (term_at words) r.cells))) r rs all) rest
    by false rest = rest

  -- rows are worth no more tuples than they are
  pub worth_fewer : (v : World) (rs : List CRow) → length (value_of_rows words v rs) ≤ length rs
  worth_fewer v [] = omega arith
  worth_fewer v (r ∷ rs) = by (holds_at v (condition_at words r.cond)) (worth_fewer v rs) where
    by : (b : Bool) → length (value_of_rows words v rs) ≤ length rs
        → length (map (λ q. tuple_at v q.cells) (if b then plain_crow words r ∷ filter (λ q. holds_at v q.condition) (map (plain_crow words) rs) else filter (λ q. holds_at v q.condition) (map (plain_crow words) rs))) ≤ suc (length rs)
    by true h = omega (arith, h)
    by false h = omega (arith, h)

  -- each of them can be asked for
  pub worth_asked : (global width : ℕ) (rs : List CRow) (kept : World) → IsWellFormed words → IsPrefix opening words → IsTrue (is_place_of words class.Cond global) → HasNoColumn words global
      → AreRows words width rs → IsKeptWorld words global kept → All (IsAskedOf words words global width rs) (value_of_rows words kept rs)
  worth_asked global width rs kept formed begins is plain rows keeps =
      each_worth (IsAskedOf words words global width rs) kept rs (All-weaker (IsRow words width) (λ r. IsAskedOf words words global width rs (tuple_at kept (map (term_at words) r.cells))) one rs rows.each) where
        one : (r : CRow) → IsRow words width r → IsAskedOf words words global width rs (tuple_at kept (map (term_at words) r.cells))
        one r row = record {
          formed = formed;
          grown = prefix_same words;
          global_is = is;
          global_plain = plain;
          not_false = λ e. false≢true (sym ((holds_false words begins formed).holds kept) ∙ subst (λ g. holds_at kept (condition_at words g) ≡ true) e keeps.holds);
          rows = rows;
          width_is = tuple_long kept r.cells ∙ row.width_is;
          values = tuple_at_hand kept keeps.values r.cells row.terms;
        }

-- as words are added
pub asked_later : (words old new : List ℕ) (global width : ℕ) (rs : List CRow) (tuple : List Value) → IsPrefix old new → IsAskedOf words old global width rs tuple → IsAskedOf words new global width rs tuple
asked_later words old new global width rs tuple longer is = record {
  formed = is.formed;
  grown = prefix_of_prefix words old new is.grown longer;
  global_is = is.global_is;
  global_plain = is.global_plain;
  not_false = is.not_false;
  rows = is.rows;
  width_is = is.width_is;
  values = is.values;
}

-- as the words that it is asked over
pub asked_now : (words now : List ℕ) (global width : ℕ) (rs : List CRow) (tuple : List Value) → IsWellFormed now → IsAskedOf words now global width rs tuple → IsAskedOf now now global width rs tuple
asked_now words now global width rs tuple formed is = record {
  formed = formed;
  grown = prefix_same now;
  global_is = place_in_prefix words now class.Cond global is.grown is.global_is;
  global_plain = λ k h. is.global_plain k (terms_before words now is.grown formed global (term.Column k) (place_within words class.Cond global is.global_is) h);
  not_false = is.not_false;
  rows = rows_grow words now is.grown is.formed width rs is.rows;
  width_is = is.width_is;
  values = All-weaker (IsAtHand words) (IsAtHand now) (λ x. at_hand_grows words now x is.grown) tuple is.values;
}

-- a row that is worth no tuple, and one that is worth its own
pub worth_none : (words : List ℕ) (v : World) (r : CRow) (ts : List (List Value)) → false ≡ holds_at v (condition_at words r.cond) → ts ≡ ts ++ value_of_rows words v (r ∷ [])
worth_none words v r ts e = sym (append_none ts) ∙ ap (λ l. ts ++ l) (ap (λ b. one_or_none b (tuple_at v (map (term_at words) r.cells))) e ∙ sym (one_row v words r))

pub worth_one : (words : List ℕ) (v : World) (r : CRow) (ts : List (List Value)) → true ≡ holds_at v (condition_at words r.cond) → ts ++ tuple_at v (map (term_at words) r.cells) ∷ [] ≡ ts ++ value_of_rows words v (r ∷ [])
worth_one words v r ts e = ap (λ l. ts ++ l) (ap (λ b. one_or_none b (tuple_at v (map (term_at words) r.cells))) e ∙ sym (one_row v words r))

value_compared : (a b : Value) → value_eq.ghosts.eq a b ≡ same_value a b
value_compared a b = term_compared (term.Value a) (term.Value b)

-- the code compares tuples as the definition does
pub tuples_compared : (a b : List Value) → pointwise value_eq.ghosts.eq a b ≡ same_tuple a b
tuples_compared [] [] = refl
tuples_compared (x ∷ a) (y ∷ b) = λ i. value_compared x y i && tuples_compared a b i
tuples_compared [] (y ∷ b) = refl
tuples_compared (x ∷ a) [] = refl

compared : pointwise value_eq.ghosts.eq ≡ same_tuple
compared i a b = tuples_compared a b i

tuple_equiv : IsEquivalence same_tuple
tuple_equiv = record {
  refl = λ x. (tuple_decides x x).1 refl;
  symm = λ x y. same_from_decides (same_tuple x y) (same_tuple y x) (tuple_decides x y) (λ e. sym ((tuple_decides y x).0 e), λ e. (tuple_decides y x).1 (sym e));
  congr = λ x y z e. ap (λ w. same_tuple w z) ((tuple_decides x y).0 e);
}

same_other : (ts : List (List Value)) (u : List Value) → list_any (same_tuple u) ts ≡ has_tuple ts u
same_other [] u = refl
same_other (x ∷ ts) u = λ i. tuple_equiv.symm u x i || same_other ts u i

-- the tuples that stand first are all tuples
pub has_first : (ts : List (List Value)) (u : List Value) → has_tuple (firsts same_tuple ts) u ≡ has_tuple ts u
has_first ts u = sym (same_other (firsts same_tuple ts) u) ∙ any_first same_tuple tuple_equiv u ts ∙ same_other ts u

-- a tuple put into a set that has the first ones
pub first_put : (before : List (List Value)) (u : List Value) (old new : List (List Value)) → old ≡ firsts same_tuple before → new ≡ insert_key (pointwise value_eq.ghosts.eq) old u → new ≡ firsts same_tuple (before ++ u ∷ [])
first_put before u old new e put = put ∙ (λ i. insert_key (compared i) (e i) u) ∙ by (list_any (same_tuple u) before) refl where
  by : (b : Bool) → list_any (same_tuple u) before ≡ b → insert_key same_tuple (firsts same_tuple before) u ≡ firsts same_tuple (before ++ u ∷ [])
  by true q = ap (λ c. if c then firsts same_tuple before else firsts same_tuple before ++ u ∷ []) (any_first same_tuple tuple_equiv u before ∙ q) ∙ sym (firsts_known same_tuple tuple_equiv before u q)
  by false q = ap (λ c. if c then firsts same_tuple before else firsts same_tuple before ++ u ∷ []) (any_first same_tuple tuple_equiv u before ∙ q) ∙ sym (firsts_new same_tuple tuple_equiv before u q)

-- what a set has
pub contained : (ts : List (List Value)) (u : List Value) → list_any (pointwise value_eq.ghosts.eq u) ts ≡ has_tuple ts u
contained ts u = (λ i. list_any (compared i u) ts) ∙ same_other ts u

-- the keys of a set are distinct
pub distinct_keys : (ts : List (List Value)) → IsDistinct (pointwise value_eq.ghosts.eq) ts → IsDistinct same_tuple ts
distinct_keys ts d = subst (λ e. IsDistinct e ts) compared d

part_all : {X : Type 0} (P : X → Type 0) {xs ys : List X} → IsSublist xs ys → All P ys → All P xs
part_all P ended all = all
part_all P (left_out {y = y} {ys = ys} s) all = part_all P s (All-tail P y ys all)
part_all P (taken {x = x} {xs = xs} {ys = ys} s) all = All-cons P x xs (All-head P x ys all) (part_all P s (All-tail P x ys all))

first_all : (P : List Value → Type 0) (ts : List (List Value)) → All P ts → All P (firsts same_tuple ts)
first_all P ts all = part_all P (firsts_part same_tuple ts) all

first_fewer : (ts : List (List Value)) → length (firsts same_tuple ts) ≤ length ts
first_fewer ts = let le = (firsts_long same_tuple tuple_equiv [] ts).1 in omega (arith, le)

-- the tuples that stand first are no more than the rows, and each can be asked for
module _ (words : List ℕ) (kept : World) (rs : List CRow) (ts : List (List Value)) (are : ts ≡ firsts same_tuple (value_of_rows words kept rs)) where
  pub firsts_few : length ts ≤ length rs
  firsts_few = let first = first_fewer (value_of_rows words kept rs) in let all = worth_fewer words kept rs in subst (λ l. length l ≤ length rs) (sym are) (omega (arith, first, all))

  pub firsts_asked : (global width : ℕ) → IsWellFormed words → IsPrefix opening words → IsTrue (is_place_of words class.Cond global) → HasNoColumn words global → AreRows words width rs → IsKeptWorld words global kept
      → All (IsAskedOf words words global width rs) ts
  firsts_asked global width formed begins is plain rows keeps = subst (All (IsAskedOf words words global width rs)) (sym are)
      (first_all (IsAskedOf words words global width rs) (value_of_rows words kept rs) (worth_asked words global width rs kept formed begins is plain rows keeps))

-- the tuples of known worlds, as words are added
pub seen_later : (old new : List ℕ) (global width : ℕ) (rs : List CRow) (tuple : List Value) → IsAskedOf old old global width rs tuple → IsPrefix old new → (ss : List Seen) → All (IsSeen old global rs) ss → All (IsSeen new global rs) ss
seen_later old new global width rs tuple asked longer = All-weaker (IsSeen old global rs) (IsSeen new global rs) (λ s is. record {
  world = is.world;
  holds = ap (holds_at is.world) (condition_in_prefix old new global longer (place_within old class.Cond global asked.global_is)) ∙ is.holds;
  tuples = λ t. is.tuples t ∙ ap (λ ts. has_tuple ts t) (sym (value_grows old new longer is.world width rs asked.rows.each));
})

-- rows of a table, each of its own width
pub each_own : (words : List ℕ) (width : ℕ) (rs : List CRow) → All (IsRow words width) rs → All (λ r. IsRow words (length r.cells) r) rs
each_own words width = All-weaker (IsRow words width) (λ r. IsRow words (length r.cells) r) (λ r is. record { terms = is.terms; condition = is.condition; width_is = refl; plain = is.plain })

-- a tuple that one of some known worlds lacks is missing there
pub lacked_by : (words : List ℕ) (global : ℕ) (rs : List CRow) (ss : List Seen) (t : List Value) → All (IsSeen words global rs) ss → is_in_each ss t ≡ false → IsMissed words global rs t
lacked_by words global rs [] t all e = absurd (false≢true (sym e))
lacked_by words global rs (s ∷ ss) t all e = by (has_tuple s.tuples.keys t) refl (lacked_by words global rs ss t (All-tail (IsSeen words global rs) s ss all)) where
  by : (b : Bool) → has_tuple s.tuples.keys t ≡ b → (is_in_each ss t ≡ false → IsMissed words global rs t) → IsMissed words global rs t
  by true h rest = rest (ap (λ b. b && is_in_each ss t) (sym h) ∙ e)
  by false h rest =
      let seen = All-head (IsSeen words global rs) s ss all in
      (seen.world, and_from (holds_at seen.world (condition_at words global)) (not (has_tuple (value_of_rows words seen.world rs) t)) seen.holds (ap not (sym (seen.tuples t) ∙ h)))

-- so it is not certain
pub missing_once : (words : List ℕ) (global : ℕ) (rs : List CRow) (t : List Value) → IsMissed words global rs t → IsInAll words global rs t → ⊥
missing_once words global rs t at all =
    let parts = and_parts (holds_at at.0 (condition_at words global)) (not (has_tuple (value_of_rows words at.0 rs) t)) at.1 in
    false≢true (sym (ap not (all at.0 parts.0)) ∙ parts.1)
