-- Texts written one after another.
use Rattle.std.proofs.Common.{◌≡◌, ℕ, List, ◌++◌, ◌∙◌, append_assoc}

pub five : (a b c d e t0 t1 t2 t3 t4 t5 : List ℕ) → t1 ≡ t0 ++ a → t2 ≡ t1 ++ b → t3 ≡ t2 ++ c → t4 ≡ t3 ++ d → t5 ≡ t4 ++ e → t5 ≡ t0 ++ (a ++ b ++ c ++ d ++ e)
five a b c d e t0 t1 t2 t3 t4 t5 p q r s t = t ∙ rw (s, r, q, p) (simp append_assoc)

pub six : (a b c d e f t0 t1 t2 t3 t4 t5 t6 : List ℕ) → t1 ≡ t0 ++ a → t2 ≡ t1 ++ b → t3 ≡ t2 ++ c → t4 ≡ t3 ++ d → t5 ≡ t4 ++ e → t6 ≡ t5 ++ f → t6 ≡ t0 ++ (a ++ b ++ c ++ d ++ e ++ f)
six a b c d e f t0 t1 t2 t3 t4 t5 t6 p q r s t u = u ∙ rw (t, s, r, q, p) (simp append_assoc)
