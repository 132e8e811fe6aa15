-- The texts of a node list's conditions, by its nodes.
use Rattle.std.proofs.Common.{◌≡◌, ℕ, true, false, List, [], ◌∷◌, ◌++◌, map, flat_map, refl, ap, ◌∙◌, append_assoc, codes, Result, Ok, Err, OnOk}
use Rattle.std.specs.List.{join_by}
use Rattle.ct_word.{specs.declared.values.Term.Term, specs.Condition.{Condition, listed}}
use Rattle.ct_rewrite.{specs.declared.answer.Node.Node, specs.Nodes.condition_of_node}
use Rattle.ct_csv.specs.Exported.{is_run, is_true_node, renamed_text, condition_text}
use Rattle.ct_rewrite.specs.declared.answer.Node.TheVariants as node
use Rattle.ct_rewrite.specs.Sizes.{as_part, text_of, text_of_parts, text_of_others}

module _ (texts : Term → List ℕ) (b : List ℕ) (f : ℕ → Condition) where
  -- a part at a position
  abbrev pub part_text : ℕ → List ℕ
  part_text k = as_part (f k) (text_of texts (f k))

  others_joined : (ks : List ℕ) → text_of_others texts b (listed (map f ks)) ≡ flat_map (λ k. b ++ part_text k) ks
  others_joined [] = refl
  others_joined (k ∷ ks) = ap (λ w. (b ++ part_text k) ++ w) (others_joined ks)

  -- the parts with a text between
  pub parts_joined : (ks : List ℕ) → text_of_parts texts b (listed (map f ks)) ≡ join_by part_text b ks
  parts_joined [] = refl
  parts_joined (k ∷ ks) = ap (λ w. part_text k ++ w) (others_joined ks)

-- a part has parentheses where its node is an And or an Or
pub part_alone : (cs : List Condition) (n : Node) (w : List ℕ) → is_run n ≡ false → as_part (condition_of_node cs n) w ≡ w
part_alone cs node.True w e = refl
part_alone cs node.False w e = refl
part_alone cs (node.Eq s t) w e = refl
part_alone cs (node.Ne s t) w e = refl
part_alone cs (node.And ks) w e = absurd (let f = e in cc)
part_alone cs (node.Or ks) w e = absurd (let f = e in cc)

pub part_closed : (cs : List Condition) (n : Node) (w : List ℕ) → is_run n ≡ true → as_part (condition_of_node cs n) w ≡ codes "(" ++ w ++ codes ")"
part_closed cs node.True w e = absurd (let f = e in cc)
part_closed cs node.False w e = absurd (let f = e in cc)
part_closed cs (node.Eq s t) w e = absurd (let f = e in cc)
part_closed cs (node.Ne s t) w e = absurd (let f = e in cc)
part_closed cs (node.And ks) w e = refl
part_closed cs (node.Or ks) w e = refl

-- what holds on success
pub on_ok : {T E P Q : Type 0} (r : Result T E) → (P → Q) → OnOk r P → OnOk r Q
on_ok (Ok x) f p = f p
on_ok (Err e) f p = p

pub closed_text : (old w : List ℕ) → ((old ++ codes "(") ++ w) ++ codes ")" ≡ old ++ (codes "(" ++ w ++ codes ")")
closed_text old w = append_assoc (old ++ codes "(") w (codes ")") ∙ append_assoc old (codes "(") (w ++ codes ")")

-- the field of a condition by its node
pub true_field : (j : ℕ) (cs : List Condition) (n : Node) → is_true_node n ≡ true → condition_text j (condition_of_node cs n) ≡ []
true_field j cs node.True e = refl
true_field j cs node.False e = absurd (let f = e in cc)
true_field j cs (node.Eq s t) e = absurd (let f = e in cc)
true_field j cs (node.Ne s t) e = absurd (let f = e in cc)
true_field j cs (node.And ks) e = absurd (let f = e in cc)
true_field j cs (node.Or ks) e = absurd (let f = e in cc)

pub other_field : (j : ℕ) (cs : List Condition) (n : Node) → is_true_node n ≡ false → condition_text j (condition_of_node cs n) ≡ text_of (renamed_text j) (condition_of_node cs n)
other_field j cs node.True e = absurd (let f = e in cc)
other_field j cs node.False e = refl
other_field j cs (node.Eq s t) e = refl
other_field j cs (node.Ne s t) e = refl
other_field j cs (node.And ks) e = refl
other_field j cs (node.Or ks) e = refl
