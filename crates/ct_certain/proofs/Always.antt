-- The tuples that rows are worth at every valuation.
use Rattle.std.proofs.Common.{◌≡◌, ℕ, Bool, true, false, ◌&&◌, ◌||◌, not, List, [], ◌∷◌, ◌++◌, map, filter, refl, ap, sym, subst, ◌∙◌, inl, inr, if◌then◌else◌}
use Rattle.std.{specs.Prelude.{◌⊎◌, All, Contains, IsTrue}, specs.List.list_any, specs.Cmp.Lexicographic.pointwise, proofs.lemmas.Bool.false≢true}
use Rattle.std.proofs.lemmas.List.Elements.{All-head, All-tail, All-push, All-weaker}
use Rattle.indexmap.specs.IndexSet.{insert_key}
use Rattle.ct_word.{specs.declared.values.Value.Value, specs.declared.values.CRow.CRow, specs.Value.{World, same_tuple, tuple_at}}
use Rattle.ct_word.{specs.Condition.holds_at, specs.Reading.{condition_at, plain_crow, term_at}, specs.WellFormed.{IsWellFormed}, proofs.Alike.tuple_decides}
use Rattle.ct_word.proofs.Items.{item_cases, no_item}
use Rattle.ct_query.specs.Database.{has_tuple}
use Rattle.ct_arena.specs.Counts.{opening}
use Rattle.ct_condition.proofs.Denied.{below_literal}
use Rattle.ct_operators.{specs.Tables.{value_of_rows}, proofs.Growing.value_grows, proofs.Holding.{holds_false, holds_true}}
use Rattle.ct_certain.specs.{Missing.{IsAskedOf, IsRootOf, IsSure}}
use Rattle.ct_certain.proofs.Candidates.{contained}
use mathlib.Core.List.{IsPrefix}
use Rattle.ct_word.specs.contracts.values.ValuePartialEq.TheImpl as value_eq

either : (a b : Bool) → b ≡ true → (a || b) ≡ true
either true b e = refl
either false b e = e

-- the tuple of a row whose condition holds is among those of the rows
has_row : (words : List ℕ) (v : World) (rs : List CRow) (r : CRow) → Contains rs r → IsTrue (holds_at v (condition_at words r.cond)) → IsTrue (has_tuple (value_of_rows words v rs) (tuple_at v (map (term_at words) r.cells)))
has_row words v [] r among holds = absurd (no_item r among)
has_row words v (s ∷ rs) r among holds = by (holds_at v (condition_at words s.cond)) refl (item_cases rs s r among) (has_row words v rs r) where
  t : List Value
  t = tuple_at v (map (term_at words) r.cells)

  by : (b : Bool) → holds_at v (condition_at words s.cond) ≡ b → (s ≡ r) ⊎ Contains rs r → (Contains rs r → IsTrue (holds_at v (condition_at words r.cond)) → IsTrue (has_tuple (value_of_rows words v rs) t))
      → IsTrue (has_tuple (map (λ q. tuple_at v q.cells) (if b then plain_crow words s ∷ filter (λ q. holds_at v q.condition) (map (plain_crow words) rs) else filter (λ q. holds_at v q.condition) (map (plain_crow words) rs))) t)
  by true e (inl is) rest = ap (λ b. b || has_tuple (value_of_rows words v rs) t) (ap (λ q. same_tuple (tuple_at v (map (term_at words) q.cells)) t) is ∙ (tuple_decides t t).1 refl)
  by true e (inr there) rest = either (same_tuple (tuple_at v (map (term_at words) s.cells)) t) (has_tuple (value_of_rows words v rs) t) (rest there holds)
  by false e (inl is) rest = absurd (false≢true (sym e ∙ ap (λ q. holds_at v (condition_at words q.cond)) is ∙ holds))
  by false e (inr there) rest = rest there holds

-- so that of a row under the word true, where its cells are worth the same at every valuation
pub row_sure : (words : List ℕ) → IsPrefix opening words → IsWellFormed words → (rs : List CRow) (r : CRow) → Contains rs r → r.cond ≡ 0 → (t : List Value) → ((v : World) → t ≡ tuple_at v (map (term_at words) r.cells)) → IsSure words rs t
row_sure words begins formed rs r among is t same v =
    subst (λ u. IsTrue (has_tuple (value_of_rows words v rs) u)) (sym (same v))
    (has_row words v rs r among (ap (λ p. holds_at v (condition_at words p)) is ∙ (holds_true words begins formed).holds v))

-- an item put into a set
pub all_put : {A : Type 0} (P : A → Type 0) (eq : A → A → Bool) (old new : List A) (x : A) → new ≡ insert_key eq old x → P x → All P old → All P new
all_put P eq old new x put is all = subst (All P) (sym put) (by (list_any (eq x) old)) where
  by : (b : Bool) → All P (if b then old else old ++ x ∷ [])
  by true = all
  by false = All-push P old x all is

among_sure : (words : List ℕ) (rs : List CRow) (ts : List (List Value)) (t : List Value) → All (IsSure words rs) ts → has_tuple ts t ≡ true → IsSure words rs t
among_sure words rs [] t all h = absurd (false≢true h)
among_sure words rs (u ∷ ts) t all h = by (same_tuple u t) refl h (among_sure words rs ts t (All-tail (IsSure words rs) u ts all)) where
  by : (b : Bool) → same_tuple u t ≡ b → (b || has_tuple ts t) ≡ true → (has_tuple ts t ≡ true → IsSure words rs t) → IsSure words rs t
  by true e i rest = subst (IsSure words rs) ((tuple_decides u t).0 e) (All-head (IsSure words rs) u ts all)
  by false e i rest = rest i

nothing_missing : (a b : Bool) → b ≡ true → false ≡ (a && not b)
nothing_missing true b e = sym (ap not e)
nothing_missing false b e = refl

-- the word false asks whether one of them is missing
pub sure_root : (words now : List ℕ) (global width : ℕ) (rs : List CRow) (ts : List (List Value)) (t : List Value) → IsPrefix opening now → IsWellFormed now → All (IsSure words rs) ts
    → true ≡ list_any (pointwise value_eq.ghosts.eq t) ts → IsRootOf words now global rs t 1
sure_root words now global width rs ts t begins formed all found = record {
  class = (holds_false now begins formed).class;
  plain = λ k h. absurd (below_literal now formed begins 1 (inr refl) _ h);
  holds = λ v. (holds_false now begins formed).holds v
      ∙ nothing_missing (holds_at v (condition_at words global)) (has_tuple (value_of_rows words v rs) t) (among_sure words rs ts t all (sym (contained ts t) ∙ sym found) v);
}

-- as words are added
pub sure_later : (words now : List ℕ) (global width : ℕ) (rs : List CRow) (tuple : List Value) → IsAskedOf words now global width rs tuple → (ts : List (List Value)) → All (IsSure words rs) ts → All (IsSure now rs) ts
sure_later words now global width rs tuple asked =
    All-weaker (IsSure words rs) (IsSure now rs) (λ t is v. ap (λ l. has_tuple l t) (value_grows words now asked.grown v width rs asked.rows.each) ∙ is v)
