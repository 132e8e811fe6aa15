-- The numbers of conditions with their signs, and what the positions of these say.
use Rattle.std.proofs.Common.{◌≡◌, ℕ, ◌+◌, ◌*◌, ◌/◌, ◌%◌, ◌<◌, Bool, true, false, not, List, [], ◌∷◌, ◌++◌, length, map, nat_eq, nat_lt, refl, ap, sym, ◌∙◌, subst, arith, length-append}
use Rattle.std.{specs.Prelude.{IsTrue, if◌then◌else◌}, specs.List.{AllByRecursion, list_all}, proofs.lemmas.Bool.{and_parts, and_from, eq-eqb, lt-ltb}}
use Rattle.ct_word.{specs.declared.values.Value.Value, specs.Value.World, specs.declared.connectives.Connective.Connective}
use Rattle.ct_word.{specs.Condition.{Condition, Not, holds, SameTruth}, specs.Connective.{joined, join, dual}, proofs.Joins.{joined_holds, denied_join}}
use Rattle.ct_word.{specs.WellFormed.{IsWellFormed, is_place_of}, specs.Reading.condition_at, proofs.Growth.place_within}
use Rattle.ct_worlds.{specs.declared.shape.Shape.Shape, specs.Shape.{literal, parts_of, shape_at, IsEarlier}, proofs.Shaped.shaped}
use Rattle.ct_rewrite.{specs.declared.answer.Node.Node, specs.Nodes.node_condition, specs.Building.{Grows, Says, signed}}
use Rattle.ct_rewrite.{specs.Signs.{number, is_plus, is_number, signed_at, named_by, named_at, connective_for, IsFormAt}, specs.Below.IsDownward}
use Rattle.ct_rewrite.{specs.Sizes.Fits, proofs.Nodes.condition_stays, proofs.Sizes.{fits_as, literal_fits}}
use Rattle.ct_word.specs.declared.kinds.Class.TheVariants as class
use Rattle.ct_word.specs.declared.connectives.Connective.TheVariants as connective
use Rattle.ct_worlds.specs.declared.shape.Shape.TheVariants as shape

-- the place and the sign of a number
pub number_half : (p : ℕ) (s : Bool) → number p s / 2 ≡ p
number_half p true = omega arith
number_half p false = omega arith

number_sign : (p : ℕ) (s : Bool) → is_plus (number p s) ≡ s
number_sign p true = eq-eqb (2 * p % 2) 0 (omega arith)
number_sign p false = let odd : (2 * p + 1) % 2 ≡ 1 = omega arith in ap (λ n. nat_eq n 0) odd

number_stands : (ws : List ℕ) (p : ℕ) (s : Bool) → signed_at ws (number p s) ≡ signed s (condition_at ws p)
number_stands ws p s = λ i. signed (number_sign p s i) (condition_at ws (number_half p s i))

number_lower : (p k : ℕ) (s : Bool) → p < k / 2 → number p s < k
number_lower p k true lt = omega (arith, lt)
number_lower p k false lt = omega (arith, lt)

-- the numbers that a number names are lower ones of conditions
module _ (ws : List ℕ) (k : ℕ) where
  lower : (p : ℕ) (s : Bool) → IsEarlier ws (k / 2) p → IsTrue (nat_lt (number p s) k)
  lower p s e = lt-ltb (number p s) k (number_lower p k s e.below)

  inside : (p : ℕ) (s : Bool) → IsEarlier ws (k / 2) p → IsTrue (is_number ws (number p s))
  inside p s e = ap (is_place_of ws class.Cond) (number_half p s) ∙ e.placed

  pub named_below : (s : Bool) (sh : Shape) → AllByRecursion (IsEarlier ws (k / 2)) (parts_of sh) → IsTrue (list_all (λ q. nat_lt q k) (named_by s sh))
  named_below s (shape.Not p) e = and_from _ _ (lower p (not s) e.0) refl
  named_below s (shape.Joined j p q) e = and_from _ _ (lower p s e.0) (and_from _ _ (lower q s e.1.0) refl)
  named_below s (shape.Literal b) e = refl
  named_below s (shape.Equal p q) e = refl

  named_inside : (s : Bool) (sh : Shape) → AllByRecursion (IsEarlier ws (k / 2)) (parts_of sh) → IsTrue (list_all (is_number ws) (named_by s sh))
  named_inside s (shape.Not p) e = and_from _ _ (inside p (not s) e.0) refl
  named_inside s (shape.Joined j p q) e = and_from _ _ (inside p s e.0) (and_from _ _ (inside q s e.1.0) refl)
  named_inside s (shape.Literal b) e = refl
  named_inside s (shape.Equal p q) e = refl

pub numbers_downward : (ws : List ℕ) (bound : ℕ) → IsWellFormed ws → bound ≡ 2 * length ws → IsDownward (is_number ws) (named_at ws) bound
numbers_downward ws bound formed long = record {
  within = λ k e. omega (arith, place_within ws class.Cond (k / 2) e, long);
  lower = λ k e. named_below ws k (is_plus k) (shape_at ws (k / 2)) (shaped ws (k / 2) formed e).parts;
  inside = λ k e. named_inside ws k (is_plus k) (shape_at ws (k / 2)) (shaped ws (k / 2) formed e).parts;
}

-- so are those of roots, whose places are ones of conditions
pub roots_inside : (ws roots : List ℕ) → IsTrue (list_all (is_place_of ws class.Cond) roots) → IsTrue (list_all (is_number ws) (map (λ p. number p true) roots))
roots_inside ws [] e = refl
roots_inside ws (p ∷ roots) e =
    let both = and_parts (is_place_of ws class.Cond p) (list_all (is_place_of ws class.Cond) roots) e in
    and_from _ _ (ap (is_place_of ws class.Cond) (number_half p true) ∙ both.0) (roots_inside ws roots both.1)

longer : (ns ms added : List Node) (k : ℕ) → ms ≡ ns ++ added → k < length ns → k < length ms
longer ns ms added k e lt = subst (λ (xs : List Node). k < length xs) (sym e) (omega (arith, length-append ns added))

-- a position says what it said when nodes are put at the end
pub still_says : (ns ms : List Node) (k : ℕ) (c : Condition) → Grows ns ms → Says ns k c → Says ms k c
still_says ns ms k c g h = record {
  within = longer ns ms g.added k g.is h.within;
  truth = λ v row. ap (λ xs. holds v row (node_condition xs k)) g.is ∙ ap (holds v row) (condition_stays ns g.added k h.within) ∙ h.truth v row;
}

says_like : (ns : List Node) (k : ℕ) (c d : Condition) → SameTruth c d → Says ns k c → Says ns k d
says_like ns k c d e h = record { within = h.within; truth = λ v row. h.truth v row ∙ e v row }

-- a position keeps its condition when nodes are put at the end
still_is : (ns ms : List Node) (k : ℕ) → Grows ns ms → k < length ns → node_condition ms k ≡ node_condition ns k
still_is ns ms k g lt = ap (λ xs. node_condition xs k) g.is ∙ condition_stays ns g.added k lt

pub still_form : (ws : List ℕ) (ns ms : List Node) (k m : ℕ) → Grows ns ms → IsFormAt ws ns k m → IsFormAt ws ms k m
still_form ws ns ms k m g h = record {
  says = still_says ns ms m (signed_at ws k) g h.says;
  fits = fits_as _ _ (condition_at ws (k / 2)) (still_is ns ms m g h.says.within) h.fits;
}

-- a position that says the condition of a number by its place and sign
pub form_of : (ws : List ℕ) (ns : List Node) (k m : ℕ) (c : Condition) → condition_at ws (k / 2) ≡ c → Says ns m (signed (is_plus k) c) → Fits (node_condition ns m) c → IsFormAt ws ns k m
form_of ws ns k m c is says fits = record {
  says = subst (λ d. Says ns m (signed (is_plus k) d)) (sym is) says;
  fits = subst (Fits (node_condition ns m)) (sym is) fits;
}

-- what is said of a number is said of its place with its sign
pub says_number : (ws : List ℕ) (ns : List Node) (p : ℕ) (s : Bool) (m : ℕ) → IsFormAt ws ns (number p s) m → Says ns m (signed s (condition_at ws p))
says_number ws ns p s m h = subst (Says ns m) (number_stands ws p s) h.says

pub fits_number : (ws : List ℕ) (ns : List Node) (p : ℕ) (s : Bool) (m : ℕ) → IsFormAt ws ns (number p s) m → Fits (node_condition ns m) (condition_at ws p)
fits_number ws ns p s m h = subst (λ q. Fits (node_condition ns m) (condition_at ws q)) (number_half p s) h.fits

-- a condition that is always true or always false
literal_truth : (b s : Bool) → SameTruth (literal (if s then b else not b)) (signed s (literal b))
literal_truth b true v row = refl
literal_truth true false v row = refl
literal_truth false false v row = refl

pub literal_form : (ws : List ℕ) (ns : List Node) (k m : ℕ) (b r : Bool) → condition_at ws (k / 2) ≡ literal b → r ≡ (if is_plus k then b else not b)
    → Says ns m (literal r) → node_condition ns m ≡ literal r → IsFormAt ws ns k m
literal_form ws ns k m b r is by says at =
    form_of ws ns k m (literal b) is
    (says_like ns m (literal r) (signed (is_plus k) (literal b)) (λ v row. ap (λ x. holds v row (literal x)) by ∙ literal_truth b (is_plus k) v row) says)
    (fits_as _ _ _ at (literal_fits r b))

-- a denial, by the position of what it denies with the other sign
not_not : (b : Bool) → b ≡ not (not b)
not_not true = refl
not_not false = refl

denied_says : (ns : List Node) (m : ℕ) (s : Bool) (c : Condition) → Says ns m (signed (not s) c) → Says ns m (signed s (Not c))
denied_says ns m true c h = h
denied_says ns m false c h = says_like ns m c (Not (Not c)) (λ v row. not_not (holds v row c)) h

pub denied_form : (ws : List ℕ) (ns : List Node) (k m p : ℕ) → condition_at ws (k / 2) ≡ Not (condition_at ws p) → IsFormAt ws ns (number p (not (is_plus k))) m → IsFormAt ws ns k m
denied_form ws ns k m p is h =
    let fits = fits_number ws ns p (not (is_plus k)) m h in
    form_of ws ns k m (Not (condition_at ws p)) is (denied_says ns m (is_plus k) (condition_at ws p) (says_number ws ns p (not (is_plus k)) m h))
    (record { short = fits.short; shallow = fits.shallow })

-- two conditions under a connective
joined_truth : (j : Connective) (a b c d : Condition) (v : World) (row : List Value) → holds v row a ≡ holds v row c → holds v row b ≡ holds v row d
    → holds v row (joined j a b) ≡ holds v row (joined j c d)
joined_truth j a b c d v row e f = joined_holds j v row a b ∙ (λ i. join j (e i) (f i)) ∙ sym (joined_holds j v row c d)

de_morgan : (j : Connective) (c d : Condition) → SameTruth (joined (dual j) (Not c) (Not d)) (Not (joined j c d))
de_morgan j c d v row = joined_holds (dual j) v row (Not c) (Not d) ∙ sym (denied_join j (holds v row c) (holds v row d)) ∙ ap not (sym (joined_holds j v row c d))

joined_signed : (j : Connective) (s : Bool) (c d : Condition) → SameTruth (joined (connective_for s j) (signed s c) (signed s d)) (signed s (joined j c d))
joined_signed j true c d v row = refl
joined_signed j false c d v row = de_morgan j c d v row

-- a denial has the bounds of what it denies
joined_fits : (form : Condition) (j : Connective) (s : Bool) (c d : Condition) → Fits form (joined (connective_for s j) c d) → Fits form (joined j c d)
joined_fits form j true c d h = h
joined_fits form connective.And false c d h = record { short = h.short; shallow = h.shallow }
joined_fits form connective.Or false c d h = record { short = h.short; shallow = h.shallow }

pub joined_form : (ws : List ℕ) (ns ms : List Node) (k p q l r m : ℕ) (j under : Connective) → condition_at ws (k / 2) ≡ joined j (condition_at ws p) (condition_at ws q)
    → IsFormAt ws ns (number p (is_plus k)) l → IsFormAt ws ns (number q (is_plus k)) r → under ≡ connective_for (is_plus k) j
    → Says ms m (joined under (node_condition ns l) (node_condition ns r))
    → ((c d : Condition) → Fits (node_condition ns l) c → Fits (node_condition ns r) d → Fits (node_condition ms m) (joined under c d))
    → IsFormAt ws ms k m
joined_form ws ns ms k p q l r m j under is left right by says fits =
    let s = is_plus k in
    let c = condition_at ws p in
    let d = condition_at ws q in
    let on_left = says_number ws ns p s l left in
    let on_right = says_number ws ns q s r right in
    form_of ws ms k m (joined j c d) is
    (says_like ms m (joined under (node_condition ns l) (node_condition ns r)) (signed s (joined j c d))
    (λ v row. ap (λ x. holds v row (joined x (node_condition ns l) (node_condition ns r))) by
    ∙ joined_truth (connective_for s j) (node_condition ns l) (node_condition ns r) (signed s c) (signed s d) v row (on_left.truth v row) (on_right.truth v row) ∙ joined_signed j s c d v row) says)
    (joined_fits (node_condition ms m) j s c d
    (subst (λ x. Fits (node_condition ms m) (joined x c d)) by (fits c d (fits_number ws ns p s l left) (fits_number ws ns q s r right))))
