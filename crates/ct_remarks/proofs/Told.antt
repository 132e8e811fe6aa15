-- The refused statements, and what is said of them one after another.
use Rattle.std.proofs.Common.{◌≡◌, ℕ, zero, suc, ◌+◌, ◌<◌, ◌≤◌, Bool, true, false, List, [], ◌∷◌, ◌++◌, length, get_or, take, refl, sym, ap, subst, ◌∙◌, arith, append-nil, Option, Some, None}
use Rattle.std.{specs.Prelude.{map, slice_get, All}, specs.List.AllZip, proofs.lemmas.List.{map-append, take_more, take-map, take_all, get_or-take, get_or-map, length-map, length-take}}
use Rattle.std.proofs.lemmas.List.Elements.{All-get_or, All-take}
use Rattle.std.proofs.lemmas.Option.{slice_get-map, slice_get_past}
use Rattle.ct_lex.specs.Texts.{has_token, pieces}
use Rattle.ct_transcript.specs.declared.reply.Refusal.{Refusal}
use Rattle.ct_transcript.specs.declared.reply.Reply.{Reply}
use Rattle.ct_transcript.specs.declared.reply.SessionLog.{SessionLog}
use Rattle.ct_transcript.specs.declared.reply.Reply.TheVariants as reply
use Rattle.ct_remarks.specs.declared.cases.Case as kept
use Rattle.ct_remarks.specs.declared.places.Placed.{Placed}
use Rattle.ct_remarks.specs.Standing.{PlacedText, placed_piece, placed_from, placed, placed_of}
use Rattle.ct_remarks.specs.RefusedStatements.{Case, case_of, refused, refused_by, cases_from, cases, IsStanding, IsMarked}
use Rattle.ct_remarks.specs.Remarks.{IsRemark}
use Rattle.ct_remarks.proofs.Tokens.{lead_le}

pub none_case : (session i : ℕ) (script : List ℕ) (texts : List Placed) (cs : List Case) (r : Reply) (at : ℕ) (why : Refusal)
    → r ≡ reply.Refused at why → length texts ≤ i → cs ≡ cs ++ refused_by session i script (map placed_of texts) r
none_case session i script texts cs r at why is past = rw (is, slice_get-map placed_of texts i, slice_get_past texts i past) (sym (append-nil cs))

pub some_case : (session i : ℕ) (script : List ℕ) (texts : List Placed) (old new : List kept.Case) (k : kept.Case) (r : Reply) (at : ℕ) (why : Refusal) (t : Placed)
    → r ≡ reply.Refused at why → slice_get texts i ≡ Some t → new ≡ old ++ k ∷ []
    → case_of k ∷ [] ≡ refused session i script why (Some (placed_of t))
    → map case_of new ≡ map case_of old ++ refused_by session i script (map placed_of texts) r
some_case session i script texts old new k r at why t is there grown same =
    rw (is, slice_get-map placed_of texts i, there, grown, map-append case_of old (k ∷ [])) (ap (λ cs. map case_of old ++ cs) same)

-- what holds of each
abbrev Each : {X : Type 0} → (X → Type 0) → List X → Type 0
Each P [] = Unit {0}
Each P (x ∷ xs) = P x × Each P xs

each_after : {X : Type 0} (P : X → Type 0) (xs ys : List X) → Each P xs → Each P ys → Each P (xs ++ ys)
each_after P [] ys here there = there
each_after P (x ∷ xs) ys here there = (here.0, each_after P xs ys here.1 there)

each_at : {X : Type 0} (P : X → Type 0) (xs : List X) (i : ℕ) (d : X) → i < length xs → Each P xs → P (get_or xs i d)
each_at P [] i d within all = absurd (omega (arith, within))
each_at P (x ∷ xs) zero d within all = all.0
each_at P (x ∷ xs) (suc i) d within all = each_at P xs i d (omega (arith, within)) all.1

each_got : {X : Type 0} (P : X → Type 0) (xs : List X) (i : ℕ) (x : X) → slice_get xs i ≡ Some x → Each P xs → P x
each_got P [] i x is all = absurd (grind arith)
each_got P (y ∷ xs) zero x is all = let same : y ≡ x = grind arith in subst P same all.0
each_got P (y ∷ xs) (suc i) x is all = each_got P xs i x is all.1

abbrev Fits : PlacedText → Type 0
Fits t = t.first ≤ t.at + length t.text

piece_fits : (at : ℕ) (piece : List ℕ) (q : Bool) → has_token piece ≡ q → Each Fits (placed_piece at piece)
piece_fits at piece true e = rw e (omega (arith, lead_le false piece), tt)
piece_fits at piece false e = rw e tt

placed_fit : (at : ℕ) (ps : List (List ℕ)) → Each Fits (placed_from at ps)
placed_fit at [] = tt
placed_fit at (p ∷ ps) = each_after Fits (placed_piece at p) _ (piece_fits at p _ refl) (placed_fit (at + (length p + 1)) ps)

refused_stands : (session i : ℕ) (script : List ℕ) (why : Refusal) (o : Option PlacedText) → ((t : PlacedText) → o ≡ Some t → Fits t) → Each IsStanding (refused session i script why o)
refused_stands session i script why None fits = tt
refused_stands session i script why (Some t) fits = (record { within = fits t refl }, tt)

reply_stands : (session i : ℕ) (script : List ℕ) (r : Reply) → Each IsStanding (refused_by session i script (placed script) r)
reply_stands session i script (reply.Refused at why) =
    refused_stands session i script why (slice_get (placed script) i) (λ t is. each_got Fits (placed script) i t is (placed_fit 0 (pieces script)))
reply_stands session i script (reply.Begun at) = tt
reply_stands session i script reply.RolledBack = tt
reply_stands session i script (reply.Pending at plus) = tt
reply_stands session i script (reply.Committed at) = tt
reply_stands session i script (reply.Nothing at) = tt
reply_stands session i script (reply.Rows at plus answer) = tt
reply_stands session i script (reply.Possible at plus columns rows) = tt
reply_stands session i script (reply.Certain at plus columns rows) = tt

session_stands : (session i : ℕ) (script : List ℕ) (rs : List Reply) → Each IsStanding (cases_from session i script (placed script) rs)
session_stands session i script [] = tt
session_stands session i script (r ∷ rs) = each_after IsStanding (refused_by session i script (placed script) r) _ (reply_stands session i script r) (session_stands session (i + 1) script rs)

all_stand : (session : ℕ) (logs : List SessionLog) → Each IsStanding (cases session logs)
all_stand session [] = tt
all_stand session (log ∷ logs) = each_after IsStanding (cases_from session 0 log.script (placed log.script) log.replies) _ (session_stands session 0 log.script log.replies) (all_stand (session + 1) logs)

-- each refused statement that is kept stands where it is told
pub kept_stands : (logs : List SessionLog) (cs first : List kept.Case) (i : ℕ) (k d : kept.Case) → map case_of cs ≡ cases 0 logs → first ≡ take 100 cs → i < length first → k ≡ get_or first i d
    → IsStanding (case_of k)
kept_stands logs cs first i k d all is within there =
    let long : i < length (take 100 cs) = subst (λ xs. i < length xs) is within in
    let bound : i < length cs = omega (arith, long, length-take 100 cs) in
    let low : i < 100 = omega (arith, long, length-take 100 cs) in
    let same : k ≡ get_or cs i d = there ∙ ap (λ xs. get_or xs i d) is ∙ get_or-take 100 cs i d low in
    let mapped : get_or (map case_of cs) i (case_of k) ≡ case_of k = get_or-map case_of cs i d (case_of k) bound ∙ ap case_of (sym same) in
    subst IsStanding mapped (each_at IsStanding (map case_of cs) i (case_of k) (omega (arith, bound, length-map cs case_of)) (subst (Each IsStanding) (sym all) (all_stand 0 logs)))

-- and the spot that is kept for it is that of its first token
pub kept_marked : (cs first : List kept.Case) (i : ℕ) (k d : kept.Case) → All IsMarked cs → first ≡ take 100 cs → i < length first → k ≡ get_or first i d → IsMarked k
kept_marked cs first i k d all is within there =
    let marked : All IsMarked first = subst (All IsMarked) (sym is) (All-take IsMarked 100 cs all) in
    subst IsMarked (sym there) (All-get_or IsMarked first i d within marked)

zip_push : {A B : Type 0} (R : A → B → Type 0) (xs : List A) (ys : List B) (x : A) (y : B) → AllZip R xs ys → R x y → AllZip R (xs ++ x ∷ []) (ys ++ y ∷ [])
zip_push R [] [] x y all r = (r, tt)
zip_push R [] (b ∷ ys) x y all r = absurd all
zip_push R (a ∷ xs) [] x y all r = absurd all
zip_push R (a ∷ xs) (b ∷ ys) x y all r = (all.0, zip_push R xs ys x y all.1 r)

-- one more remark
pub one_more : (names : List (List ℕ)) (cs : List kept.Case) (i : ℕ) (k d : kept.Case) (old new : List (List ℕ)) (line : List ℕ) → i < length cs → k ≡ get_or cs i d
    → AllZip (IsRemark names) (map case_of (take i cs)) old → IsRemark names (case_of k) line → new ≡ old ++ line ∷ []
    → AllZip (IsRemark names) (map case_of (take (i + 1) cs)) new
one_more names cs i k d old new line within there before is grown =
    let more : map case_of (take (i + 1) cs) ≡ map case_of (take i cs) ++ case_of k ∷ [] =
    ap (map case_of) (take_more cs i d within) ∙ map-append case_of (take i cs) (get_or cs i d ∷ []) ∙ ap (λ x. map case_of (take i cs) ++ case_of x ∷ []) (sym there) in
    rw (more, grown) (zip_push (IsRemark names) (map case_of (take i cs)) old (case_of k) line before is)

-- the remarks on the first hundred
pub all_told : (names : List (List ℕ)) (logs : List SessionLog) (cs first : List kept.Case) (ls : List (List ℕ)) (n : ℕ) → map case_of cs ≡ cases 0 logs → first ≡ take 100 cs
    → length first ≤ n → AllZip (IsRemark names) (map case_of (take n first)) ls → AllZip (IsRemark names) (take 100 (cases 0 logs)) ls
all_told names logs cs first ls n all is past told =
    let same : map case_of (take n first) ≡ take 100 (cases 0 logs) =
    ap (map case_of) (take_all n first past ∙ is) ∙ sym (take-map case_of 100 cs) ∙ ap (take 100) all in
    subst (λ xs. AllZip (IsRemark names) xs ls) same told
