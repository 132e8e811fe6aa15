-- Texts compared from their ends, and the last commit that writes what is read.
use Rattle.std.proofs.Common.{◌≡◌, ◌≢◌, ℕ, ◌+◌, ◌≤◌, Bool, true, false, List, [], ◌∷◌, ◌++◌, length, take, Some, rules, refl, ap, sym, ◌∙◌, arith, drop, subst, length-append, ◌/◌, ◌%◌}
use Rattle.std.{specs.Prelude.{slice_get, filter_map, IsTrue, ◌||◌, if◌then◌else◌}, specs.Bool.{◌==◌}, specs.List.list_any, proofs.lemmas.Bool.false≢true}
use Rattle.std.proofs.lemmas.List.{append_cancel_right, append-nil, take_more, take-append-drop, take-append-le, take_all}
use Rattle.std.{proofs.lemmas.List.Elements.filter_map-append, proofs.lemmas.Option.{slice_get_within, get_or_from_slice_get}}
use Rattle.ct_word.{specs.declared.kinds.Kind.Kind, specs.declared.reading.Word.Word, specs.Change.PlainCommit, specs.Value.same_text, proofs.Spelling.of_kind}
use Rattle.ct_word.{specs.Reading.{Meaning, IsCommit, meanings, as_commit, as_text, by_kind, change_list_at}, specs.WordAt.{IsWordAt, text_at}}
use Rattle.ct_word.{specs.WellFormed.{is_place_of, same_class, class_of}, proofs.Alike.text_decides}
use Rattle.ct_query.{specs.declared.action.Read.Read, specs.Reads.{writes, commit_writes, last}, proofs.Laws.last_commit}
use Rattle.ct_history.specs.Commits.{commits_before}
use Rattle.ct_word.specs.declared.kinds.Kind.TheVariants as kind
use Rattle.ct_word.specs.declared.kinds.Class.TheVariants as class

-- tests that say the same are the same
alike : (p q : Bool) → (p ≡ true → q ≡ true) → (q ≡ true → p ≡ true) → p ≡ q
alike true q f g = sym (f refl)
alike false true f g = g refl
alike false false f g = refl

-- texts with one end are the same where their fronts are
pub same_front : (a b e : List ℕ) → same_text (a ++ e) (b ++ e) ≡ same_text a b
same_front a b e = alike (same_text (a ++ e) (b ++ e)) (same_text a b)
    (λ t. (text_decides a b).1 (append_cancel_right a b e ((text_decides (a ++ e) (b ++ e)).0 t)))
    (λ t. (text_decides (a ++ e) (b ++ e)).1 (ap (λ x. x ++ e) ((text_decides a b).0 t)))

-- a text that ends otherwise is another
pub other_end : (a b e : List ℕ) → ((front : List ℕ) → b ≢ front ++ e) → same_text (a ++ e) b ≡ false
other_end a b e h = by (same_text (a ++ e) b) refl where
  by : (t : Bool) → same_text (a ++ e) b ≡ t → t ≡ false
  by true is = absurd (h a (sym ((text_decides (a ++ e) b).0 is)))
  by false is = refl

-- the text without characters
pub no_text : (b : List ℕ) (r : Bool) → r ≡ (length b == 0) → same_text [] b ≡ r
no_text [] r e = sym e
no_text (x ∷ b) r e = sym (e ∙ first_of (search rules, search arith, grind arith))

-- a test of the items of a list and one more
any_more : {X : Type 0} (p : X → Bool) (xs : List X) (x : X) → list_any p (xs ++ x ∷ []) ≡ (p x || list_any p xs)
any_more p [] x = refl
any_more p (y ∷ xs) x = by (p y) (p x) (list_any p xs) (list_any p (xs ++ x ∷ [])) (any_more p xs x) where
  by : (a b c d : Bool) → d ≡ (b || c) → (a || d) ≡ (b || (a || c))
  by true true c d e = refl
  by true false c d e = refl
  by false b c d e = e

-- the test of a list, by its last item and those before
pub any_last : {X : Type 0} (p : X → Bool) (all r : Bool) (items before : List X) (x : X) → all ≡ list_any p items → items ≡ before ++ x ∷ [] → r ≡ p x → all ≡ (r || list_any p before)
any_last p all r items before x same is e = same ∙ ap (list_any p) is ∙ any_more p before x ∙ ap (λ b. b || list_any p before) (sym e)

-- the commits among one more meaning
pub commits_more : (ms : List Meaning) (i : ℕ) (m : Meaning) → slice_get ms i ≡ Some m
    → filter_map as_commit (take (i + 1) ms) ≡ filter_map as_commit (take i ms) ++ filter_map as_commit (m ∷ [])
commits_more ms i m e =
    let one : take (i + 1) ms ≡ take i ms ++ m ∷ [] =
    take_more ms i m (slice_get_within ms i m e) ∙ ap (λ x. take i ms ++ x ∷ []) (get_or_from_slice_get ms i m m e) in
    ap (filter_map as_commit) one ∙ filter_map-append as_commit (take i ms) (m ∷ [])

-- a word of another kind is no commit
pub no_commit : (ms : List Meaning) (k : Kind) (a b : ℕ) → k ≢ kind.Commit → filter_map as_commit (by_kind (Some k) ms a b ∷ []) ≡ []
no_commit ms kind.Commit a b ne = absurd (ne refl)
no_commit ms _ a b ne = refl

-- the first commits, where so many were met
pub first_commits : (ms : List Meaning) (i upto : ℕ) → length (filter_map as_commit (take i ms)) ≡ upto
    → take upto (filter_map as_commit ms) ≡ filter_map as_commit (take i ms)
first_commits ms i upto e =
    let met = filter_map as_commit (take i ms) in
    let rest = filter_map as_commit (drop i ms) in
    ap (λ xs. take upto (filter_map as_commit xs)) (sym (take-append-drop i ms))
    ∙ ap (take upto) (filter_map-append as_commit (take i ms) (drop i ms))
    ∙ take-append-le upto met rest (omega (arith, e))
    ∙ take_all upto met (omega (arith, e))

-- all commits, where they are no more
pub all_commits : (ms : List Meaning) (i upto : ℕ) → length ms ≤ i → length (filter_map as_commit (take i ms)) ≤ upto
    → take upto (filter_map as_commit ms) ≡ filter_map as_commit (take i ms)
all_commits ms i upto long few =
    let whole : take i ms ≡ ms = take_all i ms long in
    take_all upto (filter_map as_commit ms) (subst (λ xs. length (filter_map as_commit xs) ≤ upto) whole few) ∙ ap (filter_map as_commit) (sym whole)

-- a text of another kind is empty
pub emptied : (ws : List ℕ) (p : ℕ) (w : Word) → IsWordAt ws p w → IsTrue (is_place_of ws class.Text p) → w.kind ≢ kind.TextCharacter → text_at ws p ≡ []
emptied ws p w is e ne = by w.kind (sym (is.class class.Text) ∙ e) ne is where
  by : (k : Kind) → IsTrue (same_class (class_of k) class.Text) → k ≢ kind.TextCharacter → IsWordAt ws p (record { kind = k; left = w.left; right = w.right }) → text_at ws p ≡ []
  by kind.TextCharacter of ne h = absurd (ne refl)
  by kind.TextEnd of ne h = ap as_text h.meaning
  by _ of ne h = absurd (false≢true of)

-- one more commit, and whether it writes what is read
pub record Next (ws : List ℕ) (p changes : ℕ) (r : Read) : Type 0 where
  pub count : length (commits_before ws (p + 1)) ≡ length (commits_before ws p) + 1
  pub list : IsTrue (is_place_of ws class.ChangeList changes)
  pub last_is : last (commits_before ws (p + 1)) r ≡ (if list_any (λ x. writes x r) (change_list_at ws changes) then length (commits_before ws p) + 1 else last (commits_before ws p) r)

pub next_commit : (ws : List ℕ) (p : ℕ) (w : Word) (r : Read) → IsWordAt ws p w → w.kind ≡ kind.Commit → Next ws p w.right r
next_commit ws p w r is e =
    let h = of_kind ws p w kind.Commit e is in
    let c : PlainCommit = record { session = w.left / 262144; number = w.left % 262144; changes = change_list_at ws w.right } in
    let more : commits_before ws (p + 1) ≡ commits_before ws p ++ c ∷ [] = commits_more (meanings ws) p (IsCommit c) h.meaning in
    record {
      count = ap length more ∙ omega (arith, length-append (commits_before ws p) (c ∷ []));
      list = h.right.1;
      last_is = ap (λ xs. last xs r) more ∙ last_commit (commits_before ws p) c r ∙ ap (λ n. if commit_writes c r then n else last (commits_before ws p) r) (omega arith);
    }

-- a word of another kind adds none
pub no_next : (ws : List ℕ) (p : ℕ) (w : Word) → IsWordAt ws p w → w.kind ≢ kind.Commit → commits_before ws (p + 1) ≡ commits_before ws p
no_next ws p w is ne =
    commits_more (meanings ws) p (by_kind (Some w.kind) (meanings ws) w.left w.right) is.meaning
    ∙ ap (λ xs. commits_before ws p ++ xs) (no_commit (meanings ws) w.kind w.left w.right ne) ∙ append-nil (commits_before ws p)
