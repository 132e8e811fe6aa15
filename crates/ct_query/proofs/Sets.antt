-- Sets of tuples: equality, union, selection.
use Rattle.std.proofs.Common.{◌≡◌, Bool, true, false, ◌||◌, List, [], ◌∷◌, ◌++◌, refl, ap, sym, ◌∙◌}
use Rattle.ct_word.{specs.declared.values.Value.Value, specs.Value.same_tuple}
use Rattle.ct_query.specs.Database.{has_tuple, SameSet}

pub same_set_itself : (a : List (List Value)) → SameSet a a
same_set_itself a t = refl

pub same_set_on : (a b c : List (List Value)) → SameSet a b → SameSet b c → SameSet a c
same_set_on a b c s r t = s t ∙ r t

or_assoc : (a b c : Bool) → (a || b || c) ≡ (a || (b || c))
or_assoc true b c = refl
or_assoc false b c = refl

pub has_tuple-append : (a b : List (List Value)) (t : List Value) → has_tuple (a ++ b) t ≡ (has_tuple a t || has_tuple b t)
has_tuple-append [] b t = refl
has_tuple-append (x ∷ a) b t = ap (λ q. same_tuple x t || q) (has_tuple-append a b t) ∙ sym (or_assoc (same_tuple x t) (has_tuple a t) (has_tuple b t))

-- unions of the same sets are the same
pub same_set-append : (a b c d : List (List Value)) → SameSet a b → SameSet c d → SameSet (a ++ c) (b ++ d)
same_set-append a b c d s r t = has_tuple-append a c t ∙ (λ i. s t i || r t i) ∙ sym (has_tuple-append b d t)
