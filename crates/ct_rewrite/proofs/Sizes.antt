-- How long and how deep the conditions of nodes are.
use Rattle.std.proofs.Common.{◌≡◌, ℕ, ◌+◌, ◌<◌, ◌≤◌, Bool, true, false, ◌&&◌, List, [], ◌∷◌, ◌++◌, length, map, take, get_or, nat_le, insert, refl, ap, sym, ◌∙◌, subst, arith, length-append}
use Rattle.std.{specs.Prelude.{IsTrue, codes, max, sum_by}, specs.List.list_all, proofs.lemmas.Bool.{and_parts, and_from, le-leb, leb-true}}
use Rattle.std.proofs.lemmas.List.Sums.{sum_by-cons, sum_by-insert, sum_by_more}
use Rattle.ct_word.{specs.declared.values.Term.Term, specs.Condition.{Condition, True, False, Same, Not, And, Or, listed}, specs.Connective.joined}
use Rattle.ct_word.{specs.declared.connectives.Connective.Connective, proofs.Items.all_implied}
use Rattle.ct_rewrite.{specs.declared.answer.Node.Node, specs.Nodes.{nth, condition_of_node, read_nodes, node_condition, node_value}}
use Rattle.ct_worlds.specs.Shape.{literal}
use Rattle.ct_rewrite.specs.Building.{joint_node}
use Rattle.ct_rewrite.specs.Joining.{HasMembersOf, HasNoMoreThan, AreNoLarger, IsNoLarger, bytes_under, gap, nests_within}
use Rattle.ct_rewrite.specs.Sizes.{as_part, text_of, text_of_parts, text_of_others, nest_of, nest_of_parts, wide, deep, part_length, part_nest, Fits}
use Rattle.ct_word.specs.declared.connectives.Connective.TheVariants as connective

three_texts : (a b c : List ℕ) → length (a ++ b ++ c) ≡ length a + length b + length c
three_texts a b c = omega (arith, length-append (a ++ b) c, length-append a b)

pub text_shorter : (texts : Term → List ℕ) (c : Condition) → length (text_of texts c) ≤ part_length texts c
text_shorter texts (And cs) = omega (arith, three_texts (codes "(") (text_of texts (And cs)) (codes ")"))
text_shorter texts (Or cs) = omega (arith, three_texts (codes "(") (text_of texts (Or cs)) (codes ")"))
text_shorter texts True = omega arith
text_shorter texts False = omega arith
text_shorter texts (Same s t) = omega arith
text_shorter texts (Not c) = omega arith

pub nest_lower : (c : Condition) → nest_of c ≤ part_nest c
nest_lower (And cs) = omega arith
nest_lower (Or cs) = omega arith
nest_lower True = omega arith
nest_lower False = omega arith
nest_lower (Same s t) = omega arith
nest_lower (Not c) = omega arith

pub literal_fits : (a b : Bool) → Fits (literal a) (literal b)
literal_fits true true = record { short = λ texts some. omega arith; shallow = omega arith }
literal_fits true false = record { short = λ texts some. omega arith; shallow = omega arith }
literal_fits false true = record { short = λ texts some. omega arith; shallow = omega arith }
literal_fits false false = record { short = λ texts some. omega arith; shallow = omega arith }

module _ (s t u w : Term) (both : (f : Term → ℕ) → f u + f w ≡ f s + f t) where
  pub equal_fits : Fits (Same u w) (Same s t)
  equal_fits = record { short = λ texts some. omega (arith, three_texts (texts u) (codes " = ") (texts w), both (λ x. length (texts x))); shallow = omega arith }

  pub unequal_fits : Fits (Not (Same u w)) (Same s t)
  unequal_fits = record { short = λ texts some. omega (arith, three_texts (texts u) (codes " <> ") (texts w), both (λ x. length (texts x))); shallow = omega arith }

-- the text between two children
abbrev between : Connective → List ℕ
between connective.And = codes " and "
between connective.Or = codes " or "

between_long : (j : Connective) → length (between j) ≡ gap j
between_long connective.And = refl
between_long connective.Or = refl

module _ (texts : Term → List ℕ) (f : ℕ → Condition) (b : List ℕ) (g : ℕ) (e : length b ≡ g) where
  abbrev each : ℕ → ℕ
  each k = part_length texts (f k) + g

  others_long : (ks : List ℕ) → length (text_of_others texts b (listed (map f ks))) ≡ sum_by each ks
  others_long [] = refl
  others_long (k ∷ ks) =
      omega (arith, e, three_texts b (as_part (f k) (text_of texts (f k))) (text_of_others texts b (listed (map f ks))), sum_by-cons each k ks, others_long ks)

  parts_long : (k : ℕ) (ks : List ℕ) → length (text_of_parts texts b (listed (map f (k ∷ ks)))) + g ≡ sum_by each (k ∷ ks)
  parts_long k ks =
      omega (arith, length-append (as_part (f k) (text_of texts (f k))) (text_of_others texts b (listed (map f ks))), sum_by-cons each k ks, others_long ks)

module _ (j : Connective) (cs : List Condition) where
  abbrev parts : (Term → List ℕ) → List ℕ → List ℕ
  parts texts ks = text_of_parts texts (between j) (listed (map (nth cs) ks))

  abbrev bytes : (Term → List ℕ) → List ℕ → ℕ
  bytes texts ks = sum_by (λ k. part_length texts (nth cs k) + gap j) ks

  -- a connective over children is as long as they and two parentheses
  joint_long : (texts : Term → List ℕ) (ks : List ℕ) → part_length texts (condition_of_node cs (joint_node j ks)) ≡ length (parts texts ks) + 2
  joint_long texts ks = by j where
    by : (i : Connective) → part_length texts (condition_of_node cs (joint_node i ks)) ≡ length (text_of_parts texts (between i) (listed (map (nth cs) ks))) + 2
    by connective.And = omega (arith, three_texts (codes "(") (text_of_parts texts (codes " and ") (listed (map (nth cs) ks))) (codes ")"))
    by connective.Or = omega (arith, three_texts (codes "(") (text_of_parts texts (codes " or ") (listed (map (nth cs) ks))) (codes ")"))

  joint_short : (texts : Term → List ℕ) (most : ℕ) (ks : List ℕ) → 5 ≤ most → bytes texts ks + 2 ≤ most + gap j → part_length texts (condition_of_node cs (joint_node j ks)) ≤ most
  joint_short texts most [] five le = omega (arith, five, joint_long texts [])
  joint_short texts most (k ∷ ks) five le = omega (arith, le, joint_long texts (k ∷ ks), parts_long texts (nth cs) (between j) (gap j) (between_long j) k ks)

  children_short : (texts : Term → List ℕ) (ks : List ℕ) → bytes texts ks ≤ part_length texts (condition_of_node cs (joint_node j ks)) + gap j
  children_short texts [] = omega arith
  children_short texts (k ∷ ks) = omega (arith, joint_long texts (k ∷ ks), parts_long texts (nth cs) (between j) (gap j) (between_long j) k ks)

  joint_nest : (ks : List ℕ) → part_nest (condition_of_node cs (joint_node j ks)) ≡ nest_of_parts (listed (map (nth cs) ks)) + 1
  joint_nest ks = by j where
    by : (i : Connective) → part_nest (condition_of_node cs (joint_node i ks)) ≡ nest_of_parts (listed (map (nth cs) ks)) + 1
    by connective.And = refl
    by connective.Or = refl

module _ (f : ℕ → Condition) (most : ℕ) where
  nests_up : (ks : List ℕ) → IsTrue (list_all (λ k. nat_le (part_nest (f k)) most) ks) → nest_of_parts (listed (map f ks)) ≤ most
  nests_up [] e = omega arith
  nests_up (k ∷ ks) e = let p = and_parts _ _ e in omega (arith, leb-true (part_nest (f k)) most p.0, nests_up ks p.1)

  nests_down : (ks : List ℕ) → nest_of_parts (listed (map f ks)) ≤ most → IsTrue (list_all (λ k. nat_le (part_nest (f k)) most) ks)
  nests_down [] le = refl
  nests_down (k ∷ ks) le = and_from _ _ (le-leb (part_nest (f k)) most (omega (arith, le))) (nests_down ks (omega (arith, le)))

within_more : (ns : List Node) (m n : ℕ) (ks : List ℕ) → m ≤ n → IsTrue (list_all (nests_within ns m) ks) → IsTrue (list_all (nests_within ns n) ks)
within_more ns m n ks le e =
    all_implied (nests_within ns m) (nests_within ns n) (λ k f. le-leb _ n (omega (arith, le, leb-true (part_nest (node_condition ns k)) m f))) ks e

-- the children of a node
pub children_no_larger : (j : Connective) (ns : List Node) (k : ℕ) (n : Node) (ks : List ℕ) → node_condition ns k ≡ node_value ns n → n ≡ joint_node j ks → AreNoLarger j ns ks k
children_no_larger j ns k n ks value e =
    let whole : node_condition ns k ≡ node_value ns (joint_node j ks) = value ∙ ap (node_value ns) e in
    record {
      short = λ texts. omega (arith, ap (part_length texts) whole, children_short j (read_nodes [] ns) texts ks);
      shallow = nests_down (node_condition ns) _ ks (omega (arith, ap part_nest whole, joint_nest j (read_nodes [] ns) ks));
    }

-- items of lists of children
pub no_more_than_inserted : (ks : List ℕ) (i c : ℕ) → HasNoMoreThan (insert ks i c) ks (c ∷ [])
no_more_than_inserted ks i c f = omega (arith, sum_by-insert f ks i c, sum_by-cons f c [])

pub no_more_again : (all old ks ls : List ℕ) (i d : ℕ) → i < length ls → HasNoMoreThan old ks (take i ls) → HasNoMoreThan all old (get_or ls i d ∷ []) → HasNoMoreThan all ks (take (i + 1) ls)
no_more_again all old ks ls i d lt before now f = omega (arith, before f, now f, sum_by_more f ls i d lt, sum_by-cons f (get_or ls i d) [])

pub joint_no_larger : (j : Connective) (old new : List Node) (ks read : List ℕ) (n : Node) (k : ℕ) → read ≡ ks → n ≡ joint_node j read → node_condition new k ≡ node_value old n → IsNoLarger j old new k ks
joint_no_larger j old new ks read n k e f value =
    let whole : node_condition new k ≡ node_value old (joint_node j ks) = value ∙ ap (node_value old) (f ∙ ap (joint_node j) e) in
    record {
      short = λ texts most five le. omega (arith, ap (part_length texts) whole, joint_short j (read_nodes [] old) texts most ks five le);
      shallow = λ most h. omega (arith, ap part_nest whole, joint_nest j (read_nodes [] old) ks, nests_up (node_condition old) most ks h);
    }

wide_joined : (bytes : Term → ℕ) (j : Connective) (c d : Condition) → wide bytes (joined j c d) ≡ wide bytes c + wide bytes d + 7
wide_joined bytes connective.And c d = refl
wide_joined bytes connective.Or c d = refl

deep_joined : (j : Connective) (c d : Condition) → deep (joined j c d) ≡ max (deep c) (max (deep d) 0) + 1
deep_joined connective.And c d = refl
deep_joined connective.Or c d = refl

small_gap : (j : Connective) → gap j ≤ 5
small_gap connective.And = omega arith
small_gap connective.Or = omega arith

-- what two forms bring, together
pub joined_fits : (j : Connective) (old new : List Node) (a b k : ℕ) (left right read all : List ℕ) → read ≡ right → AreNoLarger j old left a → AreNoLarger j old right b
    → HasMembersOf all left read → HasNoMoreThan all left read → IsNoLarger j old new k all
    → (c d : Condition) → Fits (node_condition old a) c → Fits (node_condition old b) d → Fits (node_condition new k) (joined j c d)
joined_fits j old new a b k left right read all e la lb members once whole c d fc fd = record {
  short = λ texts some.
      let sizes : Term → ℕ = λ t. length (texts t) in
      whole.short texts (wide sizes (joined j c d)) (omega (arith, wide_joined sizes j c d))
      (omega (arith, wide_joined sizes j c d, small_gap j, once (λ i. part_length texts (node_condition old i) + gap j), ap (bytes_under j texts old) e, la.short texts, lb.short texts, fc.short texts some, fd.short texts some));
  shallow =
      let most : ℕ = max (deep c) (max (deep d) 0) in
      omega (
        arith,
        deep_joined j c d,
        whole.shallow most
            (members (nests_within old most) ∙ ap (λ xs. list_all (nests_within old most) left && list_all (nests_within old most) xs) e
            ∙ and_from _ _ (within_more old _ most left (omega (arith, fc.shallow)) la.shallow) (within_more old _ most right (omega (arith, fd.shallow)) lb.shallow)),
      );
}

pub fits_as : (form x c : Condition) → form ≡ x → Fits x c → Fits form c
fits_as form x c e h = subst (λ y. Fits y c) (sym e) h
