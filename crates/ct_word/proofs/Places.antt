-- A place of a class stands for something of that class.
use Rattle.std.proofs.Common.{◌≡◌, ℕ, zero, suc, ◌+◌, List, [], ◌∷◌, ◌++◌, length, Option, Some, None, refl, ap, sym, ◌∙◌, arith, length-append, take}
use Rattle.std.specs.Prelude.{slice_get, IsTrue}
use Rattle.ct_word.{specs.declared.kinds.Kind.Kind, specs.declared.kinds.Class.Class, specs.Word.{kind_of, left_of, right_of}, proofs.Growth.stays}
use Rattle.ct_word.{specs.WellFormed.{class_of, same_class, has_class, is_word_of, is_place_of}, specs.Stands.{StandsAt, class_of_meaning}}
use Rattle.ct_word.specs.Reading.{Meaning, IsTerm, IsCond, meaning_of, by_kind, read, meanings, term_at, condition_at, as_cond, as_term}
use Rattle.ct_word.proofs.Items.{get_last}
use Rattle.ct_word.specs.declared.kinds.Kind.TheVariants as kind
use Rattle.ct_word.specs.declared.kinds.Class.TheVariants as class

-- what the word at a place stands for, over the words before it
read_at : (ms : List Meaning) (ws : List ℕ) (k w : ℕ) → slice_get ws k ≡ Some w
    → slice_get (read ms ws) (length ms + k) ≡ Some (meaning_of (read ms (take k ws)) w)
read_at ms [] k w e = cc
read_at ms (x ∷ ws) zero w e =
    let same : x ≡ w = cc in
    stays (ms ++ meaning_of ms x ∷ []) ws (length ms + 0) (omega (arith, length-append ms (meaning_of ms x ∷ [])))
    ∙ get_last ms (meaning_of ms x) (length ms + 0) (omega arith) ∙ ap (λ n. Some (meaning_of ms n)) same
read_at ms (x ∷ ws) (suc k) w e =
    let n : length ms + suc k ≡ length (ms ++ meaning_of ms x ∷ []) + k = omega (arith, length-append ms (meaning_of ms x ∷ [])) in
    ap (λ j. slice_get (read (ms ++ meaning_of ms x ∷ []) ws) j) n ∙ read_at (ms ++ meaning_of ms x ∷ []) ws k w e

-- what a place stands for, by its word
pub meaning_at : (words : List ℕ) (k w : ℕ) → slice_get words k ≡ Some w
    → slice_get (meanings words) k ≡ Some (meaning_of (meanings (take k words)) w)
meaning_at words k w e = ap (λ j. slice_get (meanings words) j) (let z : k ≡ 0 + k = omega arith in z) ∙ read_at [] words k w e

-- what a word of a kind stands for is of the kind's class
class_of_by_kind : (k : Kind) (ms : List Meaning) (a b : ℕ) → class_of_meaning (by_kind (Some k) ms a b) ≡ Some (class_of k)
class_of_by_kind kind.TextEnd ms a b = refl
class_of_by_kind _ ms a b = refl

-- whether a class is the one that is asked for
same_class_is : (c d : Class) → IsTrue (same_class c d) → c ≡ d
same_class_is class.Text class.Text e = refl
same_class_is class.High class.High e = refl
same_class_is class.Term class.Term e = refl
same_class_is class.Cond class.Cond e = refl
same_class_is class.Row class.Row e = refl
same_class_is class.CondRow class.CondRow e = refl
same_class_is class.RowList class.RowList e = refl
same_class_is class.NameList class.NameList e = refl
same_class_is class.Change class.Change e = refl
same_class_is class.ChangeList class.ChangeList e = refl
same_class_is class.Commit class.Commit e = refl
same_class_is class.Set class.Set e = refl
same_class_is class.SetList class.SetList e = refl
same_class_is class.UpdateBody class.UpdateBody e = refl
same_class_is _ _ e = cc

has_class_is : (k : Option Kind) (c : Class) (ms : List Meaning) (a b : ℕ) → IsTrue (has_class k c) → class_of_meaning (by_kind k ms a b) ≡ Some c
has_class_is (Some k) c ms a b e = class_of_by_kind k ms a b ∙ ap (λ d. Some d) (same_class_is (class_of k) c e)
has_class_is None c ms a b e = cc

class_of_word : (ms : List Meaning) (w : ℕ) (c : Class) → IsTrue (has_class (kind_of w) c) → class_of_meaning (meaning_of ms w) ≡ Some c
unfolding meaning_of
class_of_word ms w c e = has_class_is (kind_of w) c ms (left_of w) (right_of w) e

-- a word of a class
pub is_word : (o : Option ℕ) (c : Class) → IsTrue (is_word_of o c) → (w : ℕ) × (o ≡ Some w) × IsTrue (has_class (kind_of w) c)
is_word (Some w) c e = (w, refl, e)
is_word None c e = cc

-- what stands at a place of a class
pub meaning_of_class : (words : List ℕ) (c : Class) (p : ℕ) → IsTrue (is_place_of words c p)
    → (m : Meaning) × StandsAt words p m × (class_of_meaning m ≡ Some c)
meaning_of_class words c p e =
    let found = is_word (slice_get words p) c e in
    (meaning_of (meanings (take p words)) found.0, meaning_at words p found.0 found.1, class_of_word _ found.0 c found.2)

is_condition : (m : Meaning) → class_of_meaning m ≡ Some class.Cond → m ≡ IsCond (as_cond (Some m))
is_condition (IsCond c) e = refl
is_condition _ e = cc

-- a place of class Cond stands for its condition
pub stands_condition : (words : List ℕ) (p : ℕ) → IsTrue (is_place_of words class.Cond p) → StandsAt words p (IsCond (condition_at words p))
stands_condition words p e =
    let m = meaning_of_class words class.Cond p e in
    m.1 ∙ ap (λ x. Some x) (is_condition m.0 m.2) ∙ ap (λ o. Some (IsCond (as_cond o))) (sym m.1)

is_term : (m : Meaning) → class_of_meaning m ≡ Some class.Term → m ≡ IsTerm (as_term (Some m))
is_term (IsTerm t) e = refl
is_term _ e = cc

-- a place of class Term stands for its term
pub stands_term : (words : List ℕ) (p : ℕ) → IsTrue (is_place_of words class.Term p) → StandsAt words p (IsTerm (term_at words p))
stands_term words p e =
    let m = meaning_of_class words class.Term p e in
    m.1 ∙ ap (λ x. Some x) (is_term m.0 m.2) ∙ ap (λ o. Some (IsTerm (as_term o))) (sym m.1)
