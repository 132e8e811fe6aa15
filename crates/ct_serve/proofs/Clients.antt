-- Lists of clients, before and after their scripts were executed.
use Rattle.std.proofs.Common.{◌≡◌, ℕ, suc, ◌+◌, ◌-◌, ◌<◌, ◌≤◌, List, [], ◌∷◌, ◌++◌, length, map, take, drop, get_or, refl, ap, sym, subst, ◌∙◌, arith, length-append, append-nil, append_assoc, inl, inr}
use Rattle.std.{specs.Prelude.{All, ◌⊎◌}, specs.List.AllZip, proofs.lemmas.Bool.cases_lt}
use Rattle.std.proofs.lemmas.List.{length-map, get_or-map, get_or_append_left, get_or-append-add, get_or-append_right, map_push, take_more, take_all, drop_all}
use Rattle.std.proofs.lemmas.List.Elements.{All-nil, All-cons}
use Rattle.ct_arena.specs.Seen.{Seen}
use Rattle.ct_lex.specs.Texts.{texts}
use Rattle.ct_transcript.specs.declared.reply.SessionLog.{SessionLog}
use Rattle.ct_keeper.specs.Served.{first_pass}
use Rattle.ct_serve.{specs.Progress.{ClientView, IsReady, HasExecuted, HasRun, HasEnded}, proofs.Answered.has_run, proofs.Closed.{head_or, tail_of}}

-- two lists whose items look the same at each place
same_map : {A B : Type 0} (f : A → B) (xs ys : List A) → length ys ≡ length xs → ((k : ℕ) (d : A) → k < length xs → f (get_or ys k d) ≡ f (get_or xs k d)) → map f ys ≡ map f xs
same_map f [] [] n each = refl
same_map f (x ∷ xs) (y ∷ ys) n each = λ i. each 0 x (omega arith) i ∷ same_map f xs ys (omega (arith, n)) (λ k d lt. each (suc k) d (omega (arith, lt))) i
same_map f [] (y ∷ ys) n each = absurd (omega (arith, n))
same_map f (x ∷ xs) [] n each = absurd (omega (arith, n))

-- what holds of all that items look like
all_of_map : {A B : Type 0} (f : A → B) (P : B → Type 0) (xs : List A) → All P (map f xs) → All (λ x. P (f x)) xs
all_of_map f P xs all k d lt = subst P (get_or-map f xs k d (f d) lt) (all k (f d) (omega (arith, lt, length-map xs f)))

-- each client of the first passes has one
all_first : (xs : List ClientView) (ns : List ℕ) → map (λ c. c.pass) xs ≡ map first_pass ns → All (λ c. (n : ℕ) × (c.pass ≡ first_pass n)) xs
all_first [] ns e = All-nil (λ c. (n : ℕ) × (c.pass ≡ first_pass n))
all_first (x ∷ xs) [] e = absurd (let n : suc (length (map (λ (c : ClientView). c.pass) xs)) ≡ 0 = ap length e in omega (arith, n))
all_first (x ∷ xs) (n ∷ ns) e = All-cons (λ c. (n : ℕ) × (c.pass ≡ first_pass n)) x xs (n, ap (head_or x.pass) e) (all_first xs ns (ap tail_of e))

numbers_first : (xs : List ClientView) (ns : List ℕ) → map (λ c. c.pass) xs ≡ map first_pass ns → map (λ c. c.pass.session) xs ≡ ns
numbers_first [] [] e = refl
numbers_first [] (n ∷ ns) e = absurd (let n : 0 ≡ suc (length (map first_pass ns)) = ap length e in omega (arith, n))
numbers_first (x ∷ xs) [] e = absurd (let n : suc (length (map (λ (c : ClientView). c.pass) xs)) ≡ 0 = ap length e in omega (arith, n))
numbers_first (x ∷ xs) (n ∷ ns) e = λ i. (head_or x.pass (e i)).session ∷ numbers_first xs ns (ap tail_of e) i

-- clients of the first passes, with short scripts, are ready
pub all_ready : (xs : List ClientView) (ns : List ℕ) (scripts : List (List ℕ)) → map (λ c. c.pass) xs ≡ map first_pass ns → map (λ c. c.script) xs ≡ scripts
    → All (λ s. length (texts s) ≤ 65535) scripts → All IsReady xs
all_ready xs ns scripts e f all k d lt =
    let short = all_of_map (λ (c : ClientView). c.script) (λ s. length (texts s) ≤ 65535) xs (subst (All (λ s. length (texts s) ≤ 65535)) (sym f) all) k d lt in
    record {
      none = ap (λ p. p.mine) (all_first xs ns e k d lt).1;
      few = omega (arith, short);
    }

-- what was done between two clients was done between those that are the same
pub executed_at : (N : ℕ) (x x' y y' : ClientView) → x ≡ x' → y ≡ y' → HasExecuted N x y → HasExecuted N x' y'
executed_at N x x' y y' e f done = subst (λ z. HasExecuted N x' z) f (subst (λ z. HasExecuted N z y) e done)

-- clients in two parts: all are ready, and what was done in each part was done in both
module _ (xs ls rs : List ClientView) (split : xs ≡ ls ++ rs) where
  pub ready_left : All IsReady xs → All IsReady ls
  ready_left all k d lt =
      subst IsReady (ap (λ l. get_or l k d) split ∙ get_or_append_left ls rs d k lt) (all k d (let n = ap length split ∙ length-append ls rs in omega (arith, n, lt)))

  pub ready_right : All IsReady xs → All IsReady rs
  ready_right all k d lt =
      subst IsReady (ap (λ l. get_or l (length ls + k) d) split ∙ get_or-append-add ls rs k d)
      (all (length ls + k) d (let n = ap length split ∙ length-append ls rs in omega (arith, n, lt)))

-- the clients ys are those of xs after each executed its script
abbrev AllExecuted : ℕ → List ClientView → List ClientView → Type 0
AllExecuted N xs ys = (k : ℕ) (d : ClientView) → k < length xs → HasExecuted N (get_or xs k d) (get_or ys k d)

module _ (N : ℕ) (xs ls rs ls' rs' : List ClientView) (split : xs ≡ ls ++ rs) (count : length ls' ≡ length ls) (left : AllExecuted N ls ls') (right : AllExecuted N rs rs') where
  executed_in : (k : ℕ) (d : ClientView) → k < length xs → (k < length ls) ⊎ (length ls ≤ k) → HasExecuted N (get_or xs k d) (get_or (ls' ++ rs') k d)
  executed_in k d lt (inl below) =
      executed_at N _ _ _ _ (sym (ap (λ l. get_or l k d) split ∙ get_or_append_left ls rs d k below))
      (sym (get_or_append_left ls' rs' d k (omega (arith, below, count)))) (left k d below)
  executed_in k d lt (inr past) =
      let n = ap length split ∙ length-append ls rs in
      executed_at N _ _ _ _ (sym (ap (λ l. get_or l k d) split ∙ get_or-append_right ls rs (length ls) k d refl past))
      (sym (get_or-append_right ls' rs' (length ls) k d count past)) (right (k - length ls) d (omega (arith, n, lt, past)))

  pub executed_parts : AllExecuted N xs (ls' ++ rs')
  executed_parts k d lt = executed_in k d lt (cases_lt k (length ls))

-- the clients after each executed its script
module _ (N : ℕ) (xs ys : List ClientView) (count : length ys ≡ length xs) (each : (k : ℕ) (d : ClientView) → k < length xs → HasExecuted N (get_or xs k d) (get_or ys k d)) where
  pub scripts_stay : map (λ c. c.script) ys ≡ map (λ c. c.script) xs
  scripts_stay = same_map (λ (c : ClientView). c.script) xs ys count (λ k d lt. (each k d lt).script_is)

  pub numbers_stay : (ns : List ℕ) → map (λ c. c.pass) xs ≡ map first_pass ns → map (λ c. c.pass.session) ys ≡ ns
  numbers_stay ns e = same_map (λ (c : ClientView). c.pass.session) xs ys count (λ k d lt. (each k d lt).number) ∙ numbers_first xs ns e

  pub all_run : (ns : List ℕ) → map (λ c. c.pass) xs ≡ map first_pass ns → All (HasRun N) ys
  all_run ns e k d lt =
      let here : k < length xs = omega (arith, lt, count) in
      let b = all_first xs ns e k d here in
      has_run N (get_or xs k d) (get_or ys k d) b.0 b.1 (each k d here)

-- one more item of a list that is made of what is left of another
pub moved : {A B C : Type 0} (f : A → C) (g : B → C) (all : List C) (xs xs' : List A) (rest rest' : List B) (x : A) (y : B) → map f xs ++ map g rest ≡ all → rest ≡ y ∷ rest' → xs' ≡ xs ++ x ∷ [] → f x ≡ g y
    → map f xs' ++ map g rest' ≡ all
moved f g all xs xs' rest rest' x y split next pushed same =
    ap (λ l. map f l ++ map g rest') pushed ∙ ap (λ l. l ++ map g rest') (map_push f xs x ∙ ap (λ z. map f xs ++ z ∷ []) same) ∙ append_assoc (map f xs) (g y ∷ []) (map g rest')
    ∙ ap (λ r. map f xs ++ map g r) (sym next) ∙ split

-- one more item of a list that is made of what is left of another, where the items show what is left
pub moved_whole : {A C : Type 0} (f : A → C) (all : List C) (xs xs' : List A) (rest rest' : List C) (x : A) (y : C) → map f xs ++ rest ≡ all → rest ≡ y ∷ rest' → xs' ≡ xs ++ x ∷ [] → f x ≡ y → map f xs' ++ rest' ≡ all
moved_whole f all xs xs' rest rest' x y split next pushed same =
    ap (λ l. map f l ++ rest') pushed ∙ ap (λ l. l ++ rest') (map_push f xs x ∙ ap (λ z. map f xs ++ z ∷ []) same) ∙ append_assoc (map f xs) (y ∷ []) rest'
    ∙ ap (λ r. map f xs ++ r) (sym next) ∙ split

pub none_left : {A B C : Type 0} (f : A → C) (g : B → C) (all : List C) (xs : List A) (rest : List B) → map f xs ++ map g rest ≡ all → length rest ≡ 0 → map f xs ≡ all
none_left f g all xs [] split n = sym (append-nil (map f xs)) ∙ split
none_left f g all xs (y ∷ rest) split n = absurd (omega (arith, n))

-- one more pass and log
pub ended_push : (N : ℕ) (ps ps' : List Seen) (ls ls' : List SessionLog) (p : Seen) (l : SessionLog) → AllZip (HasEnded N) ps ls → ps' ≡ ps ++ p ∷ [] → ls' ≡ ls ++ l ∷ [] → HasEnded N p l → AllZip (HasEnded N) ps' ls'
ended_push N ps ps' ls ls' p l z ep el e = rw (ep, el) (push ps ls z) where
  push : (ps : List Seen) (ls : List SessionLog) → AllZip (HasEnded N) ps ls → AllZip (HasEnded N) (ps ++ p ∷ []) (ls ++ l ∷ [])
  push [] [] z = (e, tt)
  push (q ∷ ps) (k ∷ ls) z = (z.0, push ps ls z.1)
  push [] (k ∷ ls) z = absurd z
  push (q ∷ ps) [] z = absurd z

-- one more client, whose script is the next one
pub more_scripts : {A B : Type 0} (f : A → B) (all : List B) (xs xs' : List A) (x : A) (d : B) → map f xs ≡ take (length xs) all → xs' ≡ xs ++ x ∷ [] → length xs < length all → f x ≡ get_or all (length xs) d
    → map f xs' ≡ take (length xs') all
more_scripts f all xs xs' x d e pushed lt same =
    ap (map f) pushed ∙ map_push f xs x ∙ ap (λ l. l ++ f x ∷ []) e ∙ ap (λ z. take (length xs) all ++ z ∷ []) same ∙ sym (take_more all (length xs) d lt)
    ∙ ap (λ n. take n all) (sym (ap length pushed ∙ length-append xs (x ∷ [])))

-- a list whose items were all written back
pub written_back : {A : Type 0} (n : ℕ) (new old : List A) → length new ≡ length old → n ≡ length old → take n (new ++ drop (length new) old) ≡ new
written_back n new old e is =
    ap (λ l. take n (new ++ l)) (drop_all (length new) old (omega (arith, e))) ∙ ap (take n) (append-nil new) ∙ take_all n new (omega (arith, e, is))
