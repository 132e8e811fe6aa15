-- When conditions leave a connective open.
use Rattle.std.proofs.Common.{◌≡◌, ℕ, zero, suc, ◌+◌, ◌<◌, Bool, true, false, not, ◌&&◌, ◌||◌, List, [], ◌∷◌, length, map, take, drop, get_or, nat_lt, nat_eq, insert, refl, ap, sym, ◌∙◌, subst, arith}
use Rattle.std.{specs.Prelude.IsTrue, specs.List.{list_all, list_any}, proofs.lemmas.List.take-append-drop}
use Rattle.std.proofs.lemmas.Bool.{and_parts, and_from, ltb-true, eqb-true, false≢true, false_from_ne_true, both_ways}
use Rattle.std.proofs.lemmas.List.Folds.{list_all-append, list_all_more}
use Rattle.ct_word.{specs.declared.values.Value.Value, specs.Value.World, specs.Condition.{Condition, holds, all_hold, any_holds, listed}}
use Rattle.ct_word.{specs.declared.connectives.Connective.Connective, specs.Connective.{joined, join, open_by}, proofs.Joins.joined_holds}
use Rattle.ct_rewrite.{specs.declared.answer.Node.Node, specs.Nodes.{nth, node_condition, node_value, stands_over, is_position, children_of}}
use Rattle.ct_rewrite.{specs.Building.{Says, joint_node}, proofs.Nodes.below_more}
use Rattle.ct_rewrite.specs.Joining.{leaves_open, all_open, node_open, NeverBothOpen, StandFor, Settle, HasMembersOf}
use Rattle.ct_word.specs.declared.connectives.Connective.TheVariants as connective

module _ (v : World) (row : List Value) (f : ℕ → Condition) where
  all_hold_is : (ks : List ℕ) → all_hold v row (listed (map f ks)) ≡ list_all (λ k. holds v row (f k)) ks
  all_hold_is [] = refl
  all_hold_is (k ∷ ks) = ap (λ b. holds v row (f k) && b) (all_hold_is ks)

  not_or : (a b c : Bool) → not b ≡ c → not (a || b) ≡ (not a && c)
  not_or true b c e = refl
  not_or false b c e = e

  none_holds_is : (ks : List ℕ) → not (any_holds v row (listed (map f ks))) ≡ list_all (λ k. not (holds v row (f k))) ks
  none_holds_is [] = refl
  none_holds_is (k ∷ ks) = not_or (holds v row (f k)) (any_holds v row (listed (map f ks))) _ (none_holds_is ks)

-- a connective over children leaves itself open where all of them do
joint_open : (j : Connective) (cs : List Condition) (v : World) (row : List Value) (ks : List ℕ)
    → node_open j cs v row (joint_node j ks) ≡ list_all (λ k. open_by j (holds v row (nth cs k))) ks
joint_open connective.And cs v row ks = all_hold_is v row (nth cs) ks
joint_open connective.Or cs v row ks = none_holds_is v row (nth cs) ks

open_at : (j : Connective) (ns : List Node) (k : ℕ) (c : Condition) → node_condition ns k ≡ c → (v : World) (row : List Value) → leaves_open j ns v row k ≡ open_by j (holds v row c)
open_at j ns k c e v row = ap (λ d. open_by j (holds v row d)) e

module _ (j : Connective) (ns : List Node) (k : ℕ) (n : Node) (value : node_condition ns k ≡ node_value ns n) where
  pub children_stand : (ks : List ℕ) → n ≡ joint_node j ks → StandFor j ns ks k
  children_stand ks e v row = sym (open_at j ns k _ (value ∙ ap (node_value ns) e) v row ∙ joint_open j _ v row ks)

-- the children of a node lie in the node list
joint_below : (j : Connective) (m : ℕ) (ks : List ℕ) → IsTrue (stands_over m (joint_node j ks)) → IsTrue (list_all (λ c. nat_lt c m) ks)
joint_below connective.And m ks e = e
joint_below connective.Or m ks e = e

pub children_placed : (j : Connective) (ns : List Node) (k : ℕ) (n : Node) (ks : List ℕ) → k < length ns → IsTrue (stands_over k n) → n ≡ joint_node j ks → IsTrue (list_all (is_position ns) ks)
children_placed j ns k n ks lt over e = below_more k (length ns) ks (omega (arith, lt)) (joint_below j k ks (subst (λ x. IsTrue (stands_over k x)) e over))

-- members of lists of children
have_child : (ks : List ℕ) (c : ℕ) → list_any (λ y. nat_eq y c) ks ≡ true → HasMembersOf ks ks (c ∷ [])
have_child [] c e test = absurd (false≢true e)
have_child (k ∷ ks) c e test = by (nat_eq k c) refl (λ f. have_child ks c f test) where
  twice : (a b : Bool) → (a && b) ≡ ((a && b) && (a && true))
  twice true true = refl
  twice true false = refl
  twice false b = refl

  deeper : (a b x : Bool) → b ≡ (b && x) → (a && b) ≡ ((a && b) && x)
  deeper true b x h = h
  deeper false b x h = refl

  by : (b : Bool) → nat_eq k c ≡ b → (list_any (λ y. nat_eq y c) ks ≡ true → list_all test ks ≡ (list_all test ks && (test c && true)))
      → (test k && list_all test ks) ≡ ((test k && list_all test ks) && (test c && true))
  by true h deep = twice (test k) (list_all test ks) ∙ ap (λ x. (test k && list_all test ks) && (test x && true)) (eqb-true k c h)
  by false h deep = deeper (test k) (list_all test ks) (test c && true) (deep (subst (λ b. (b || list_any (λ y. nat_eq y c) ks) ≡ true) h e))

pub child_is_there : (ks read : List ℕ) (c : ℕ) (b : Bool) → read ≡ ks → b ≡ list_any (λ y. nat_eq y c) read → b ≡ true → HasMembersOf ks ks (c ∷ [])
child_is_there ks read c b e f g = have_child ks c (ap (list_any (λ y. nat_eq y c)) (sym e) ∙ sym f ∙ g)

pub inserted_child : (ks : List ℕ) (i c : ℕ) → HasMembersOf (insert ks i c) ks (c ∷ [])
inserted_child ks i c test =
    list_all-append test (take i ks) (c ∷ drop i ks)
    ∙ move (list_all test (take i ks)) (test c) (list_all test (drop i ks))
    ∙ ap (λ b. b && (test c && true)) (sym (list_all-append test (take i ks) (drop i ks)) ∙ ap (list_all test) (take-append-drop i ks))
  where
    move : (a x b : Bool) → (a && (x && b)) ≡ ((a && b) && (x && true))
    move true true true = refl
    move true true false = refl
    move true false true = refl
    move true false false = refl
    move false x b = refl

-- one child more of the second list
pub members_more : (all old ks ls : List ℕ) (i d : ℕ) → i < length ls → HasMembersOf old ks (take i ls) → HasMembersOf all old (get_or ls i d ∷ []) → HasMembersOf all ks (take (i + 1) ls)
members_more all old ks ls i d lt before now test =
    now test ∙ ap (λ b. b && (test (get_or ls i d) && true)) (before test) ∙ move (list_all test ks) (list_all test (take i ls)) (test (get_or ls i d))
    ∙ ap (λ b. list_all test ks && b) (sym (list_all_more test ls i d lt))
  where
    move : (a b x : Bool) → ((a && b) && (x && true)) ≡ (a && (b && x))
    move true true true = refl
    move true true false = refl
    move true false x = refl
    move false b x = refl

-- one child of one list, one of another: never both open
pub child_settles : (j : Connective) (ns : List Node) (ks : List ℕ) (i d c : ℕ) (a b : Node) → i < length ks
    → node_condition ns (get_or ks i d) ≡ node_value ns a → node_condition ns c ≡ node_value ns b → NeverBothOpen j a b → Settle j ns ks (c ∷ [])
child_settles j ns [] i d c a b lt e f never v row = refl_absurd where
  refl_absurd : (true && (leaves_open j ns v row c && true)) ≡ false
  refl_absurd = absurd (omega arith)
child_settles j ns (k ∷ ks) zero d c a b lt e f never v row =
    drop_middle (leaves_open j ns v row k) (list_all (leaves_open j ns v row) ks) (leaves_open j ns v row c)
    ((λ i. open_at j ns k _ e v row i && open_at j ns c _ f v row i) ∙ never _ v row)
  where
    drop_middle : (x y z : Bool) → (x && z) ≡ false → ((x && y) && (z && true)) ≡ false
    drop_middle true true true h = h
    drop_middle true true false h = refl
    drop_middle true false z h = refl
    drop_middle false y z h = refl
child_settles j ns (k ∷ ks) (suc i) d c a b lt e f never v row =
    keep (leaves_open j ns v row k) _ _ (child_settles j ns ks i d c a b (omega arith) e f never v row)
  where
    keep : (x y z : Bool) → (y && z) ≡ false → ((x && y) && z) ≡ false
    keep true y z h = h
    keep false y z h = refl

members_settle : (j : Connective) (ns : List Node) (all ks ls : List ℕ) (i d : ℕ) → i < length ls → HasMembersOf all ks (take i ls) → Settle j ns all (get_or ls i d ∷ []) → Settle j ns ks ls
members_settle j ns all ks ls i d lt h g v row =
    let is_open : ℕ → Bool = leaves_open j ns v row in
    false_from_ne_true _ (λ e.
    let p = and_parts (list_all is_open ks) (list_all is_open ls) e in
    let whole : (list_all is_open (take (i + 1) ls) && list_all is_open (drop (i + 1) ls)) ≡ true =
    sym (list_all-append is_open (take (i + 1) ls) (drop (i + 1) ls)) ∙ ap (list_all is_open) (take-append-drop (i + 1) ls) ∙ p.1 in
    let front = and_parts (list_all is_open (take i ls)) (is_open (get_or ls i d)) (sym (list_all_more is_open ls i d lt) ∙ (and_parts _ _ whole).0) in
    both_ways _ (g v row) (and_from _ _ (h is_open ∙ and_from _ _ p.0 front.0) (and_from _ true front.1 refl)))

pub read_settles : (j : Connective) (ns : List Node) (all read ks ls : List ℕ) (i d : ℕ) → i < length ls → HasMembersOf all ks (take i ls) → read ≡ all → Settle j ns read (get_or ls i d ∷ []) → Settle j ns ks ls
read_settles j ns all read ks ls i d lt h e g = members_settle j ns all ks ls i d lt h (subst (λ xs. Settle j ns xs (get_or ls i d ∷ [])) e g)

-- the connective's node over these children
pub joint_stands : (j : Connective) (ns ms : List Node) (ks read : List ℕ) (n : Node) (k : ℕ) → read ≡ ks → n ≡ joint_node j read → node_condition ms k ≡ node_value ns n
    → (v : World) (row : List Value) → leaves_open j ms v row k ≡ all_open j ns v row ks
joint_stands j ns ms ks read n k e f h v row =
    open_at j ms k _ (h ∙ ap (node_value ns) (f ∙ ap (joint_node j) e)) v row ∙ joint_open j _ v row ks

-- a child stands below the node's position
pub child_below : (a x : ℕ) (n : Node) (cs : List ℕ) → IsTrue (stands_over a n) → cs ≡ children_of n → ((test : ℕ → Bool) → list_all test cs ≡ true → test x ≡ true) → x < a
child_below a x n cs over e h = ltb-true x a (h (λ c. nat_lt c a) (ap (list_all (λ c. nat_lt c a)) e ∙ over))

-- a truth is fixed by what it leaves open
open_joined : (j : Connective) (v : World) (row : List Value) (c d e : Condition) → open_by j (holds v row e) ≡ (open_by j (holds v row c) && open_by j (holds v row d)) → holds v row e ≡ holds v row (joined j c d)
open_joined j v row c d e h = by j (holds v row e) (holds v row c) (holds v row d) h ∙ sym (joined_holds j v row c d) where
  by : (i : Connective) (x a b : Bool) → open_by i x ≡ (open_by i a && open_by i b) → x ≡ join i a b
  by connective.And x a b g = g
  by connective.Or true true b g = refl
  by connective.Or true false true g = refl
  by connective.Or true false false g = absurd (false≢true g)
  by connective.Or false true b g = absurd (false≢true (sym g))
  by connective.Or false false true g = absurd (false≢true (sym g))
  by connective.Or false false false g = refl

-- what two forms bring says what both say together
pub joined_says : (j : Connective) (old new : List Node) (a b k : ℕ) (left right read all : List ℕ) → read ≡ right → StandFor j old left a → StandFor j old right b → HasMembersOf all left read
    → k < length new → ((v : World) (row : List Value) → leaves_open j new v row k ≡ all_open j old v row all) → Says new k (joined j (node_condition old a) (node_condition old b))
joined_says j old new a b k left right read all e la lb members lt whole = record {
  within = lt;
  truth = λ v row.
      open_joined j v row (node_condition old a) (node_condition old b) (node_condition new k)
      (whole v row ∙ members (leaves_open j old v row) ∙ ap (λ xs. list_all (leaves_open j old v row) left && list_all (leaves_open j old v row) xs) e ∙ λ i. la v row i && lb v row i);
}
