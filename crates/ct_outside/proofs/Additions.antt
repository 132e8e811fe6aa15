-- What was added and how many calls were made, step after step.
use Rattle.std.proofs.Common.{◌≡◌, ◌<◌, ◌+◌, ◌-◌, ℕ, zero, suc, List, [], ◌∷◌, ◌++◌, length, take, drop, get_or, Option, Some, None, sym, ap, ◌∙◌, subst, inl, inr, append_assoc, arith}
use Rattle.std.{specs.Prelude.{Result, Ok, Err, OnErr}, proofs.lemmas.List.{get_or_default, take-append-drop, length-append}}
use Rattle.std.proofs.Math.Seq.{take-append_seam, take-append-add}
use Rattle.ct_outside.{specs.Outside.{Added, AddedFront, Called}, specs.Writes.{joined, FailedAtCall}}

-- additions one after the other
pub added_more : {A : Type 0} (told mid now : Option (List A)) (first second : List A) → Added told mid first → Added mid now second → Added told now (first ++ second)
added_more None mid now first second a b = tt
added_more (Some old) mid now first second a b =
    let b' : Added (Some (old ++ first)) now second = subst (λ m. Added m now second) a b in
    b' ∙ ap Some (append_assoc old first second)

-- one more call
pub called_more : (told mid now : Option ℕ) (k : ℕ) → Called told mid k → Called mid now 1 → Called told now (k + 1)
called_more None mid now k a b = subst (λ m. Called m now 1) a b
called_more (Some before) mid now k (inl a) b =
    elim (subst (λ m. Called m now 1) a b) [ inl e ↦ inl (e ∙ ap Some (omega arith)) | inr e ↦ inr (e.0, omega (arith, e.1)) ]
called_more (Some before) mid now k (inr a) b =
    inr (subst (λ m. Called m now 1) a.0 b, omega (arith, a.1))

-- a front of a list, taken of what the list begins
pub take_front : (count : ℕ) (line rest : List ℕ) → take (length (take count line)) (line ++ rest) ≡ take count line
take_front count line rest =
    let e : line ++ rest ≡ take count line ++ (drop count line ++ rest) = ap (λ l. l ++ rest) (sym (take-append-drop count line)) ∙ append_assoc (take count line) (drop count line) rest in
    ap (take (length (take count line))) e ∙ take-append_seam (take count line) (drop count line ++ rest)

-- the lines before a place and a front of its own line are a front of all lines
pub front_of_lines : (lines : List (List ℕ)) (i count : ℕ) → i < length lines → take (length (joined (take i lines) ++ take count (get_or lines i []))) (joined lines) ≡ joined (take i lines) ++ take count (get_or lines i [])
front_of_lines [] i count lt = absurd (omega arith)
front_of_lines (line ∷ lines) zero count lt = take_front count line (joined lines)
front_of_lines (line ∷ lines) (suc i) count lt =
    let before = joined (take i lines) in
    let piece = take count (get_or lines i []) in
    let long : length ((line ++ before) ++ piece) ≡ length line + length (before ++ piece) = ap length (append_assoc line before piece) ∙ length-append line (before ++ piece) in
    let step : take (length (before ++ piece)) (joined lines) ≡ before ++ piece = front_of_lines lines i count (omega arith) in
    ap (λ n. take n (line ++ joined lines)) long ∙ take-append-add line (joined lines) (length (before ++ piece)) ∙ ap (λ l. line ++ l) step ∙ sym (append_assoc line before piece)

-- the write of the line at i failed, after all lines before it
pub failed_at : (told mid now : Option (List ℕ)) (calls mids nows : Option ℕ) (lines : List (List ℕ)) (i : ℕ) (line : List ℕ) → i < length lines → line ≡ get_or lines i line
    → Added told mid (joined (take i lines)) → AddedFront mid now line → Called calls mids i → Called mids nows 1
    → (call : ℕ) × FailedAtCall told now lines call × Called calls nows call
failed_at told mid now calls mids nows lines i line lt is added front called one =
    let here : line ≡ get_or lines i [] = is ∙ get_or_default lines i line [] lt in
    let at : i ≡ i + 1 - 1 = omega arith in
    let sum : Added told now (joined (take i lines) ++ take front.0 line) = added_more told mid now _ _ added front.1 in
    let moved : Added told now (joined (take i lines) ++ take front.0 (get_or lines i [])) = subst (λ l. Added told now (joined (take i lines) ++ take front.0 l)) here sum in (
      i + 1,
      record {
        some = omega arith;
        within = omega arith;
        added = (front.0, subst (λ j. Added told now (joined (take j lines) ++ take front.0 (get_or lines j []))) at moved);
      },
      called_more calls mids nows i called one,
    )

-- what a failed call added is a prefix of all lines
pub front_of_failed : (told now : Option (List ℕ)) (lines : List (List ℕ)) (call : ℕ) → FailedAtCall told now lines call → AddedFront told now (joined lines)
front_of_failed told now lines call f =
    let at = call - 1 in
    let e : take (length (joined (take (call - 1) lines) ++ take f.added.0 (get_or lines (call - 1) []))) (joined lines) ≡ joined (take (call - 1) lines) ++ take f.added.0 (get_or lines (call - 1) []) =
    front_of_lines lines (call - 1) f.added.0 (let a = f.some in let b = f.within in omega arith) in
    (length (joined (take (call - 1) lines) ++ take f.added.0 (get_or lines (call - 1) [])), subst (λ b. Added told now b) (sym e) f.added.1)

-- a fact of an error, where the result is one
pub on_err : {X E P : Type 0} → (r : Result X E) → P → OnErr r P
on_err (Ok x) p = tt
on_err (Err e) p = p
