-- Positions that stand once in a list, and positions that have a condition of their own.
use Rattle.std.proofs.Common.{◌≡◌, ℕ, zero, suc, ◌<◌, ◌≤◌, Bool, true, false, not, List, [], ◌∷◌, ◌++◌, length, map, take, drop, get_or, insert, nat_eq, nat_lt, Some, refl, ap, sym, ◌∙◌, subst, arith, inl, inr}
use Rattle.std.{specs.Prelude.{IsTrue, slice_get}, specs.List.{AllByRecursion, list_all, list_any, IsDistinct}, proofs.lemmas.List.take-append-drop}
use Rattle.std.proofs.lemmas.Bool.{and_parts, and_from, or_parts, both_ways, ltb-true, eqb-false, ne_eqb, not-true, not_from_false, cases_order}
use Rattle.std.{proofs.lemmas.List.Folds.list_all-append, proofs.lemmas.Map.Keys.apart_from_distinct}
use Rattle.std.proofs.lemmas.Option.{slice_get-get_or, get_or_from_slice_get}
use Rattle.ct_word.{specs.Condition.listed, proofs.Alike.{text_decides, term_decides}}
use Rattle.ct_rewrite.{specs.declared.answer.Node.Node, specs.Nodes.{nth, read_nodes, node_value, node_condition, stands_over, IsOrdered, same_node}}
use Rattle.ct_rewrite.{specs.Rules.{is_none_of, are_distinct}, proofs.Nodes.{IsNodeAt, node_read}}
use Rattle.ct_rewrite.specs.declared.answer.Node.TheVariants as node

flipped : (a b : ℕ) → IsTrue (not (nat_eq a b)) → IsTrue (not (nat_eq b a))
flipped a b e = not_from_false _ (ne_eqb b a (λ f. eqb-false a b (not-true _ e) (sym f)))

none_from_absent : (c : ℕ) (ks : List ℕ) → list_any (λ y. nat_eq y c) ks ≡ false → IsTrue (is_none_of c ks)
none_from_absent c [] e = refl
none_from_absent c (k ∷ ks) e =
    let p = or_parts (nat_eq k c) (list_any (λ y. nat_eq y c) ks) e in
    and_from _ _ (flipped k c (not_from_false _ p.0)) (none_from_absent c ks p.1)

distinct_between : (front back : List ℕ) (c : ℕ) → IsTrue (are_distinct (front ++ back)) → IsTrue (is_none_of c (front ++ back)) → IsTrue (are_distinct (front ++ c ∷ back))
distinct_between [] back c d e = and_from _ _ e d
distinct_between (k ∷ front) back c d e =
    let p = and_parts (is_none_of k (front ++ back)) (are_distinct (front ++ back)) d in
    let q = and_parts (not (nat_eq c k)) (is_none_of c (front ++ back)) e in
    let r = and_parts (is_none_of k front) (is_none_of k back) (sym (list_all-append (λ j. not (nat_eq k j)) front back) ∙ p.0) in
    and_from _ _
    (list_all-append (λ j. not (nat_eq k j)) front (c ∷ back) ∙ and_from _ _ r.0 (and_from _ _ (flipped c k q.0) r.1))
    (distinct_between front back c p.1 q.1)

-- a child that isn't there, put at a place
pub child_put_in : (ks read : List ℕ) (i c : ℕ) (b : Bool) → read ≡ ks → b ≡ list_any (λ y. nat_eq y c) read → b ≡ false → IsTrue (are_distinct ks) → IsTrue (are_distinct (insert ks i c))
child_put_in ks read i c b e f g d =
    let absent : list_any (λ y. nat_eq y c) ks ≡ false = ap (list_any (λ y. nat_eq y c)) (sym e) ∙ sym f ∙ g in
    let parts = sym (take-append-drop i ks) in
    distinct_between (take i ks) (drop i ks) c
    (subst (λ (xs : List ℕ). IsTrue (are_distinct xs)) parts d)
    (subst (λ (xs : List ℕ). IsTrue (is_none_of c xs)) parts (none_from_absent c ks absent))

-- where different positions go to different ones
module _ (f : ℕ → ℕ) (P : ℕ → Type 0) (tells : (a b : ℕ) → P a → P b → f a ≡ f b → a ≡ b) where
  none_mapped : (k : ℕ) (ks : List ℕ) → P k → AllByRecursion P ks → IsTrue (is_none_of k ks) → IsTrue (is_none_of (f k) (map f ks))
  none_mapped k [] g h n = refl
  none_mapped k (j ∷ ks) g h n =
      let q = and_parts (not (nat_eq k j)) (is_none_of k ks) n in
      and_from _ _ (not_from_false _ (ne_eqb (f k) (f j) (λ s. eqb-false k j (not-true _ q.0) (tells k j g h.0 s)))) (none_mapped k ks g h.1 q.1)

  pub distinct_mapped : (ks : List ℕ) → AllByRecursion P ks → IsTrue (are_distinct ks) → IsTrue (are_distinct (map f ks))
  distinct_mapped [] h d = refl
  distinct_mapped (k ∷ ks) h d =
      let q = and_parts (is_none_of k ks) (are_distinct ks) d in
      and_from _ _ (none_mapped k ks h.0 h.1 q.0) (distinct_mapped ks h.1 q.1)

node_itself : (n : Node) → same_node n n ≡ true
node_itself node.True = refl
node_itself node.False = refl
node_itself (node.Eq s t) = and_from _ _ ((term_decides s s).1 refl) ((term_decides t t).1 refl)
node_itself (node.Ne s t) = and_from _ _ ((term_decides s s).1 refl) ((term_decides t t).1 refl)
node_itself (node.And ks) = (text_decides ks ks).1 refl
node_itself (node.Or ks) = (text_decides ks ks).1 refl

-- ordered nodes, no two of them written alike
module _ (ns : List Node) (ordered : IsOrdered ns) (distinct : IsDistinct same_node ns) where
  apart_at : (n : Node) (i j : ℕ) → i < j → j < length ns → slice_get ns i ≡ Some n → slice_get ns j ≡ Some n → ⊥
  apart_at n i j lt within e f =
      both_ways _ (apart_from_distinct same_node ns i j n distinct lt within)
      (ap (λ m. same_node m (get_or ns j n)) (get_or_from_slice_get ns i n n e) ∙ ap (same_node n) (get_or_from_slice_get ns j n n f) ∙ node_itself n)

  one_position : (n : Node) (i j : ℕ) → i < length ns → j < length ns → slice_get ns i ≡ Some n → slice_get ns j ≡ Some n → i ≡ j
  one_position n i j li lj e f =
      elim (cases_order i j) [
        | inl same ↦ same
        | inr apart ↦ elim apart [
          | inl below ↦ absurd (apart_at n i j below lj e f)
          | inr above ↦ absurd (apart_at n j i above li f e)
        ]
      ]

  -- the condition of a position below a bound tells which position it is
  abbrev Tells : ℕ → Type 0
  Tells m = (i j : ℕ) → i < m → j < length ns → node_condition ns i ≡ node_condition ns j → i ≡ j

  one_list : (m b : ℕ) → b ≤ length ns → Tells m → (ks ls : List ℕ) → IsTrue (list_all (λ c. nat_lt c m) ks) → IsTrue (list_all (λ c. nat_lt c b) ls)
      → listed (map (nth (read_nodes [] ns)) ks) ≡ listed (map (nth (read_nodes [] ns)) ls) → ks ≡ ls
  one_list m b le h [] [] e f g = refl
  one_list m b le h [] (l ∷ ls) e f g = cc
  one_list m b le h (k ∷ ks) [] e f g = cc
  one_list m b le h (k ∷ ks) (l ∷ ls) e f g =
      let p = and_parts (nat_lt k m) (list_all (λ c. nat_lt c m) ks) e in
      let q = and_parts (nat_lt l b) (list_all (λ c. nat_lt c b) ls) f in
      let first : nth (read_nodes [] ns) k ≡ nth (read_nodes [] ns) l = cc in
      let rest : listed (map (nth (read_nodes [] ns)) ks) ≡ listed (map (nth (read_nodes [] ns)) ls) = cc in
      λ i. h k l (ltb-true k m p.0) (omega (arith, le, ltb-true l b q.0)) first i ∷ one_list m b le h ks ls p.1 q.1 rest i

  one_node : (m b : ℕ) → b ≤ length ns → Tells m → (n o : Node) → IsTrue (stands_over m n) → IsTrue (stands_over b o) → node_value ns n ≡ node_value ns o → n ≡ o
  one_node m b le h node.True node.True e f g = refl
  one_node m b le h node.False node.False e f g = refl
  one_node m b le h (node.Eq s t) (node.Eq u w) e f g = cc
  one_node m b le h (node.Ne s t) (node.Ne u w) e f g = cc
  one_node m b le h (node.And ks) (node.And ls) e f g =
      let parts : listed (map (nth (read_nodes [] ns)) ks) ≡ listed (map (nth (read_nodes [] ns)) ls) = cc in ap node.And (one_list m b le h ks ls e f parts)
  one_node m b le h (node.Or ks) (node.Or ls) e f g =
      let parts : listed (map (nth (read_nodes [] ns)) ks) ≡ listed (map (nth (read_nodes [] ns)) ls) = cc in ap node.Or (one_list m b le h ks ls e f parts)
  one_node m b le h node.True _ e f g = cc
  one_node m b le h node.False _ e f g = cc
  one_node m b le h (node.Eq s t) _ e f g = cc
  one_node m b le h (node.Ne s t) _ e f g = cc
  one_node m b le h (node.And ks) _ e f g = cc
  one_node m b le h (node.Or ks) _ e f g = cc

  there : (i : ℕ) → i < length ns → IsNodeAt ns i (get_or ns i node.True)
  there i lt = node_read ns ns ns i (get_or ns i node.True) ordered refl refl lt (sym (get_or_from_slice_get ns i (get_or ns i node.True) (get_or ns i node.True) (slice_get-get_or ns i node.True lt)))

  tells_below : (m : ℕ) → m ≤ length ns → Tells m
  tells_below zero le i j lt lj e = absurd (omega arith)
  tells_below (suc m) le i j lt lj e =
      let li : i < length ns = omega (arith, le, lt) in
      let a = there i li in
      let b = there j lj in
      let same : get_or ns i node.True ≡ get_or ns j node.True =
      one_node i j (omega (arith, lj)) (λ x y l. tells_below m (omega (arith, le)) x y (omega (arith, l, lt))) (get_or ns i node.True) (get_or ns j node.True) a.below b.below (sym a.value ∙ e ∙ b.value)
      in
      one_position (get_or ns i node.True) i j li lj (slice_get-get_or ns i node.True li) (slice_get-get_or ns j node.True lj ∙ ap Some (sym same))

  -- no two positions have one condition
  pub one_condition : (i j : ℕ) → i < length ns → j < length ns → node_condition ns i ≡ node_condition ns j → i ≡ j
  one_condition i j li lj e = tells_below (length ns) (omega arith) i j li lj e
