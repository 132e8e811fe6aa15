-- A node list keeps what its positions are when nodes are put at its end.
use Rattle.std.proofs.Common.{◌≡◌, ℕ, zero, suc, ◌+◌, ◌<◌, ◌≤◌, true, ◌&&◌, List, [], ◌∷◌, ◌++◌, length, map, get_or, take, drop, Some, nat_lt, refl, ap, sym, ◌∙◌, subst, arith, length-append}
use Rattle.std.{specs.Prelude.{slice_get, IsTrue}, specs.List.list_all, specs.Cmp.Lexicographic.same_text, proofs.lemmas.List.take-append-drop}
use Rattle.std.{proofs.lemmas.Bool.{and_parts, and_from, ltb-true, lt-ltb, false≢true}, proofs.lemmas.Option.slice_get-get_or}
use Rattle.ct_word.{specs.declared.values.Value.Value, specs.declared.values.Null.Null, specs.declared.values.Term.Term, proofs.Alike.term_decides}
use Rattle.ct_word.{specs.Condition.{Condition, And, Or, listed}, proofs.Items.all_implied}
use Rattle.ct_rewrite.specs.declared.answer.Node.{Node}
use Rattle.ct_rewrite.specs.Nodes.{nth, condition_of_node, read_nodes, node_value, node_condition, stands_over, are_ordered_from, IsOrdered, same_node}
use Rattle.ct_word.specs.declared.values.Value.TheVariants as val
use Rattle.ct_word.specs.declared.values.Null.TheVariants as null
use Rattle.ct_word.specs.declared.values.Term.TheVariants as term
use Rattle.ct_word.specs.Value as word
use Rattle.ct_rewrite.specs.declared.answer.Node.TheVariants as node
use Rattle.ct_rewrite.specs.contracts.answer.NodePartialEq.TheImpl as node_eq
use Rattle.ct_word.specs.contracts.values.TermPartialEq.TheImpl as term_eq
use Rattle.ct_word.specs.contracts.values.NullPartialEq.TheImpl as null_eq
use Rattle.ct_word.specs.contracts.values.ValuePartialEq.TheImpl as value_eq

pub read-append : (cs : List Condition) (ns ms : List Node) → read_nodes cs (ns ++ ms) ≡ read_nodes (read_nodes cs ns) ms
read-append cs [] ms = refl
read-append cs (n ∷ ns) ms = read-append (cs ++ condition_of_node cs n ∷ []) ns ms

nth_front : (cs ds : List Condition) (k : ℕ) → k < length cs → nth (cs ++ ds) k ≡ nth cs k
nth_front [] ds k lt = absurd (omega arith)
nth_front (c ∷ cs) ds zero lt = refl
nth_front (c ∷ cs) ds (suc k) lt = nth_front cs ds k (omega arith)

nth_last : (cs : List Condition) (c : Condition) (k : ℕ) → k ≡ length cs → nth (cs ++ c ∷ []) k ≡ c
nth_last [] c zero e = refl
nth_last [] c (suc k) e = absurd (omega arith)
nth_last (d ∷ cs) c zero e = absurd (omega arith)
nth_last (d ∷ cs) c (suc k) e = nth_last cs c k (omega arith)

stays : (cs : List Condition) (ns : List Node) (k : ℕ) → k < length cs → nth (read_nodes cs ns) k ≡ nth cs k
stays cs [] k lt = refl
stays cs (n ∷ ns) k lt =
    stays (cs ++ condition_of_node cs n ∷ []) ns k (omega (arith, length-append cs (condition_of_node cs n ∷ [])))
    ∙ nth_front cs (condition_of_node cs n ∷ []) k lt

length-read : (cs : List Condition) (ns : List Node) → length (read_nodes cs ns) ≡ length cs + length ns
length-read cs [] = omega arith
length-read cs (n ∷ ns) = length-read (cs ++ condition_of_node cs n ∷ []) ns ∙ omega (arith, length-append cs (condition_of_node cs n ∷ []))

-- a position keeps its condition
pub condition_stays : (ns ms : List Node) (k : ℕ) → k < length ns → node_condition (ns ++ ms) k ≡ node_condition ns k
condition_stays ns ms k lt = ap (λ cs. nth cs k) (read-append [] ns ms) ∙ stays (read_nodes [] ns) ms k (omega (arith, length-read [] ns))

-- the condition at a position, by its node and the nodes before it
read_at : (cs : List Condition) (ns : List Node) (k : ℕ) (n : Node) → slice_get ns k ≡ Some n
    → nth (read_nodes cs ns) (length cs + k) ≡ condition_of_node (read_nodes cs (take k ns)) n
read_at cs [] k n e = cc
read_at cs (m ∷ ns) zero n e =
    let same : m ≡ n = cc in
    stays (cs ++ condition_of_node cs m ∷ []) ns (length cs + 0) (omega (arith, length-append cs (condition_of_node cs m ∷ [])))
    ∙ nth_last cs (condition_of_node cs m) (length cs + 0) (omega arith) ∙ ap (condition_of_node cs) same
read_at cs (m ∷ ns) (suc k) n e =
    let j : length cs + suc k ≡ length (cs ++ condition_of_node cs m ∷ []) + k = omega (arith, length-append cs (condition_of_node cs m ∷ [])) in
    ap (λ i. nth (read_nodes (cs ++ condition_of_node cs m ∷ []) ns) i) j ∙ read_at (cs ++ condition_of_node cs m ∷ []) ns k n e

pub below_more : (m n : ℕ) (ks : List ℕ) → m ≤ n → IsTrue (list_all (λ c. nat_lt c m) ks) → IsTrue (list_all (λ c. nat_lt c n) ks)
below_more m n ks le e = all_implied (λ c. nat_lt c m) (λ c. nat_lt c n) (λ c f. lt-ltb c n (omega (arith, le, ltb-true c m f))) ks e

children_agree : (cs ds : List Condition) (k : ℕ) → ((c : ℕ) → c < k → nth cs c ≡ nth ds c)
    → (ks : List ℕ) → IsTrue (list_all (λ c. nat_lt c k) ks) → map (nth cs) ks ≡ map (nth ds) ks
children_agree cs ds k f [] e = refl
children_agree cs ds k f (c ∷ ks) e =
    let p = and_parts _ _ e in λ i. f c (ltb-true c k p.0) i ∷ children_agree cs ds k f ks p.1 i

node_agrees : (cs ds : List Condition) (k : ℕ) → ((c : ℕ) → c < k → nth cs c ≡ nth ds c)
    → (n : Node) → IsTrue (stands_over k n) → condition_of_node cs n ≡ condition_of_node ds n
node_agrees cs ds k f (node.And ks) e = ap (λ xs. And (listed xs)) (children_agree cs ds k f ks e)
node_agrees cs ds k f (node.Or ks) e = ap (λ xs. Or (listed xs)) (children_agree cs ds k f ks e)
node_agrees cs ds k f _ e = refl

-- a node is the same condition over more nodes
pub value_stays : (ns ms : List Node) (n : Node) → IsTrue (stands_over (length ns) n) → node_value (ns ++ ms) n ≡ node_value ns n
value_stays ns ms n e = node_agrees _ _ (length ns) (λ c lt. condition_stays ns ms c lt) n e

ordered_at : (j : ℕ) (ns : List Node) (k : ℕ) (n : Node) → slice_get ns k ≡ Some n → IsTrue (are_ordered_from j ns) → IsTrue (stands_over (j + k) n)
ordered_at j [] k n e f = cc
ordered_at j (m ∷ ns) zero n e f =
    let same : m ≡ n = cc in
    let z : j ≡ j + 0 = omega arith in subst (λ i. IsTrue (stands_over i n)) z (subst (λ x. IsTrue (stands_over j x)) same (and_parts _ _ f).0)
ordered_at j (m ∷ ns) (suc k) n e f =
    let z : j + 1 + k ≡ j + suc k = omega arith in subst (λ i. IsTrue (stands_over i n)) z (ordered_at (j + 1) ns k n e (and_parts _ _ f).1)

pub stands_at : (ns : List Node) (k : ℕ) (n : Node) → IsOrdered ns → slice_get ns k ≡ Some n → IsTrue (stands_over k n)
stands_at ns k n ordered e = let z : 0 + k ≡ k = omega arith in subst (λ i. IsTrue (stands_over i n)) z (ordered_at 0 ns k n e ordered)

-- the condition at a position is that of its node
pub condition_of_position : (ns : List Node) (k : ℕ) (n : Node) → IsOrdered ns → slice_get ns k ≡ Some n → node_condition ns k ≡ node_value ns n
condition_of_position ns k n ordered e =
    let z : k ≡ 0 + k = omega arith in
    ap (λ j. nth (read_nodes [] ns) j) z ∙ read_at [] ns k n e
    ∙ node_agrees (read_nodes [] (take k ns)) (read_nodes [] ns) k agree n (stands_at ns k n ordered e)
  where
    long : (xs : List Node) (j c : ℕ) (m : Node) → slice_get xs j ≡ Some m → c < j → c < length (take j xs)
    long [] j c m f lt = cc
    long (x ∷ xs) zero c m f lt = absurd (omega arith)
    long (x ∷ xs) (suc j) zero m f lt = omega arith
    long (x ∷ xs) (suc j) (suc c) m f lt = omega (arith, long xs j c m f (omega arith))

    agree : (c : ℕ) → c < k → nth (read_nodes [] (take k ns)) c ≡ nth (read_nodes [] ns) c
    agree c lt = sym (condition_stays (take k ns) (drop k ns) c (long ns k c n e lt)) ∙ ap (λ xs. node_condition xs c) (take-append-drop k ns)

ordered_more : (j : ℕ) (ns : List Node) (n : Node) → IsTrue (are_ordered_from j ns) → IsTrue (stands_over (j + length ns) n) → IsTrue (are_ordered_from j (ns ++ n ∷ []))
ordered_more j [] n e f = let z : j + 0 ≡ j = omega arith in and_from _ true (subst (λ i. IsTrue (stands_over i n)) z f) refl
ordered_more j (m ∷ ns) n e f =
    let p = and_parts _ _ e in
    let z : j + length (m ∷ ns) ≡ j + 1 + length ns = omega arith in
    and_from _ _ p.0 (ordered_more (j + 1) ns n p.1 (subst (λ i. IsTrue (stands_over i n)) z f))

-- a node behind its children
pub ordered_push : (ns : List Node) (n : Node) → IsOrdered ns → IsTrue (stands_over (length ns) n) → IsOrdered (ns ++ n ∷ [])
ordered_push ns n e f = let z : length ns ≡ 0 + length ns = omega arith in ordered_more 0 ns n e (subst (λ i. IsTrue (stands_over i n)) z f)

-- nodes that are written alike are one
pub same_node_is : (a b : Node) → same_node a b ≡ true → a ≡ b
same_node_is node.True node.True e = refl
same_node_is node.False node.False e = refl
same_node_is (node.Eq s t) (node.Eq u w) e = let p = and_parts _ _ e in λ i. node.Eq ((term_decides s u).0 p.0 i) ((term_decides t w).0 p.1 i)
same_node_is (node.Ne s t) (node.Ne u w) e = let p = and_parts _ _ e in λ i. node.Ne ((term_decides s u).0 p.0 i) ((term_decides t w).0 p.1 i)
same_node_is (node.And ks) (node.And ls) e = ap node.And (same_text ks ls (sym e))
same_node_is (node.Or ks) (node.Or ls) e = ap node.Or (same_text ks ls (sym e))
same_node_is _ _ e = absurd (false≢true e)

-- the derived comparisons are those of the definitions
value_compared : (a b : Value) → value_eq.ghosts.eq a b ≡ word.same_value a b
value_compared (val.Int a) (val.Int b) = refl
value_compared (val.Text a) (val.Text b) = refl
value_compared (val.Other a) (val.Other b) = refl
value_compared (val.Int a) _ = refl
value_compared (val.Text a) _ = refl
value_compared (val.Other a) _ = refl

null_compared : (a b : Null) → null_eq.ghosts.eq a b ≡ word.same_null a b
null_compared (null.Named a) (null.Named b) = refl
null_compared (null.Fresh s m) (null.Fresh t n) = refl
null_compared (null.Named a) _ = refl
null_compared (null.Fresh s m) _ = refl

pub term_compared : (a b : Term) → term_eq.ghosts.eq a b ≡ word.same_term a b
term_compared (term.Column a) (term.Column b) = refl
term_compared (term.Null a) (term.Null b) = null_compared a b
term_compared (term.Value a) (term.Value b) = value_compared a b
term_compared (term.Column a) _ = refl
term_compared (term.Null a) _ = refl
term_compared (term.Value a) _ = refl

pub node_compared : (a b : Node) → node_eq.ghosts.eq a b ≡ same_node a b
node_compared (node.Eq s t) (node.Eq u w) = λ i. term_compared s u i && term_compared t w i
node_compared (node.Ne s t) (node.Ne u w) = λ i. term_compared s u i && term_compared t w i
node_compared (node.And ks) (node.And ls) = refl
node_compared (node.Or ks) (node.Or ls) = refl
node_compared node.True node.True = refl
node_compared node.False node.False = refl
node_compared node.True _ = refl
node_compared node.False _ = refl
node_compared (node.Eq s t) _ = refl
node_compared (node.Ne s t) _ = refl
node_compared (node.And ks) _ = refl
node_compared (node.Or ks) _ = refl

-- a node that was read at its position
pub record IsNodeAt (ns : List Node) (k : ℕ) (n : Node) : Type 0 where
  pub value : node_condition ns k ≡ node_value ns n
  pub below : IsTrue (stands_over k n)

pub node_read : (inside ns read : List Node) (k : ℕ) (n : Node) → IsOrdered inside → inside ≡ ns → read ≡ inside → k < length ns → n ≡ get_or read k n → IsNodeAt ns k n
node_read inside ns read k n ordered e f lt is =
    let there : slice_get ns k ≡ Some n = slice_get-get_or ns k n lt ∙ ap (λ (xs : List Node). Some (get_or xs k n)) (sym (f ∙ e)) ∙ ap Some (sym is) in
    let ok : IsOrdered ns = subst IsOrdered e ordered in
    record { value = condition_of_position ns k n ok there; below = stands_at ns k n ok there }
