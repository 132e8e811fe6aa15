-- Records as long as the first.
use Rattle.std.proofs.Common.{◌≡◌, ℕ, List, [], ◌∷◌, ◌++◌, length, sym, subst, ◌∙◌}
use Rattle.std.specs.Prelude.{Option, Some, None}
use Rattle.csv.specs.Records.{AllText}
use Rattle.ct_csv.specs.Csv.{AreTexts, HaveFields, AreEven}

-- the length that the next record is to have, and that those read have
abbrev pub Expects : Option ℕ → List (List (List ℕ)) → Type 0
Expects e [] = e ≡ None
Expects e (r ∷ rs) = (e ≡ Some (length r)) × HaveFields (length r) rs

pub even : (e : Option ℕ) (rs : List (List (List ℕ))) → Expects e rs → AreEven rs
even e [] h = tt
even e (r ∷ rs) h = h.1

have_more : (n : ℕ) (rs : List (List (List ℕ))) (f : List (List ℕ)) → HaveFields n rs → length f ≡ n → HaveFields n (rs ++ f ∷ [])
have_more n [] f h e = (e, tt)
have_more n (r ∷ rs) f h e = (h.0, have_more n rs f h.1 e)

some_same : {a b : ℕ} {o : Option ℕ} → o ≡ Some a → o ≡ Some b → a ≡ b
some_same p q = cc (sym p ∙ q)

-- one more record of the length that is asked for
pub expects_more : (e e' : Option ℕ) (rs : List (List (List ℕ))) (f : List (List ℕ))
    → Expects e rs → ((n : ℕ) → e ≡ Some n → e' ≡ Some n) → e' ≡ Some (length f) → Expects e' (rs ++ f ∷ [])
expects_more e e' [] f h keeps is = (is, tt)
expects_more e e' (r ∷ rs) f h keeps is =
    let old = keeps (length r) h.0 in
    (old, have_more (length r) rs f h.1 (some_same is old))

pub texts_more : (rs : List (List (List ℕ))) (f : List (List ℕ)) → AreTexts rs → AllText f → AreTexts (rs ++ f ∷ [])
texts_more [] f h t = (t, tt)
texts_more (r ∷ rs) f h t = (h.0, texts_more rs f h.1 t)

-- what is so of all records is so of one among them
text_among : (rs more : List (List (List ℕ))) (f : List (List ℕ)) → AreTexts (rs ++ f ∷ more) → AllText f
text_among [] more f h = h.0
text_among (r ∷ rs) more f h = text_among rs more f h.1

length_among : (n : ℕ) (rs more : List (List (List ℕ))) (f : List (List ℕ)) → HaveFields n (rs ++ f ∷ more) → length f ≡ n
length_among n [] more f h = h.0
length_among n (r ∷ rs) more f h = length_among n rs more f h.1

pub is_text_among : (all rs more : List (List (List ℕ))) (f : List (List ℕ)) → all ≡ rs ++ f ∷ more → AreTexts all → AllText f
is_text_among all rs more f is h = text_among rs more f (subst AreTexts is h)

pub even_among : (e : Option ℕ) (n : ℕ) (all rs more : List (List (List ℕ))) (f : List (List ℕ)) → Expects e rs → e ≡ Some n → all ≡ rs ++ f ∷ more → AreEven all → length f ≡ n
even_among e n all [] more f h is parts evens = cc (sym h ∙ is)
even_among e n all (r ∷ rs) more f h is parts evens = length_among (length r) rs more f (subst AreEven parts evens) ∙ some_same h.0 is
