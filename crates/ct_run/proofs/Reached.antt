-- From the texts that were read to the files at fault.
use Rattle.std.proofs.Common.{◌≡◌, ◌≢◌, ◌<◌, ◌+◌, ℕ, suc, List, [], ◌∷◌, ◌++◌, length, take, drop, get_or, refl, sym, ap, ◌∙◌, subst, append-nil, append_assoc, arith}
use Rattle.std.{specs.Prelude.{All, Option, Some, None, MatchOption, Bool, true, false, Vec}, specs.declared.alloc.Global.Global, proofs.lemmas.Bool.true≢false}
use Rattle.std.proofs.lemmas.List.{take_more, take_all, take-append-drop, length-take-le, length-map}
use Rattle.std.proofs.lemmas.List.Elements.{All-nil, All-cons, All-head, All-tail}
use Rattle.ct_outside.{specs.Outside.{Held, Added, HoldsMore}, specs.Reads.{HoldsAll, AreOfAll, AreBeforeFault, bytes_in}}
use Rattle.ct_outside.specs.declared.scripts.ReadError.{ReadError}
use Rattle.ct_run.specs.Scripts.{SCRIPT_BYTES, IsScript, HoldsScript, HoldsNoScript, HasNoScript, IsReached, IsUnread, IsNoScript}
use Rattle.ct_outside.specs.declared.scripts.ReadError.TheVariants as fault

-- what a source tells of the first file, and of the others
told_first : (P : List ℕ → Type 0) (held : Held) (f t : List ℕ) (files texts : List (List ℕ)) → HoldsAll (Some held) (f ∷ files) (t ∷ texts) → P t → MatchOption (held f) ⊥ P
told_first P held f t files texts is p = let e : held f ≡ Some t = cc in rw e p

told_others : (told : Option Held) (f t : List ℕ) (files texts : List (List ℕ)) → HoldsAll told (f ∷ files) (t ∷ texts) → HoldsAll told files texts
told_others None f t files texts is = tt
told_others (Some held) f t files texts is = cc

holds_script : (told : Option Held) (f t : List ℕ) (files texts : List (List ℕ)) → HoldsAll told (f ∷ files) (t ∷ texts) → IsScript t → HoldsScript told f
holds_script None f t files texts is p = tt
holds_script (Some held) f t files texts is p = told_first IsScript held f t files texts is p

holds_none : (told : Option Held) (f t : List ℕ) (files texts : List (List ℕ)) → HoldsAll told (f ∷ files) (t ∷ texts) → (IsScript t → ⊥) → HoldsNoScript told f
holds_none None f t files texts is p = tt
holds_none (Some held) f t files texts is p = told_first (λ bytes. IsScript bytes → ⊥) held f t files texts is p

-- the files of texts that are scripts hold scripts
pub all_hold : (told : Option Held) (files texts : List (List ℕ)) → length texts ≡ length files → HoldsAll told files texts → All IsScript texts → All (HoldsScript told) files
all_hold told [] texts n held are = All-nil (HoldsScript told)
all_hold told (f ∷ files) [] n held are = absurd (let e : 0 ≡ suc (length files) = n in omega (arith, e))
all_hold told (f ∷ files) (t ∷ texts) n held are =
    All-cons (HoldsScript told) f files (holds_script told f t files texts held (All-head IsScript t texts are))
    (all_hold told files texts (omega (arith, n)) (told_others told f t files texts held) (All-tail IsScript t texts are))

-- the first of these files that is no script
record First (told : Option Held) (files : List (List ℕ)) : Type 0 where
  before : List (List ℕ)
  file : List ℕ
  after : List (List ℕ)
  split : files ≡ before ++ file ∷ after
  scripts : All (HoldsScript told) before
  none : HoldsNoScript told file

first_none : (told : Option Held) (files texts before after : List (List ℕ)) (text : List ℕ) → length texts ≡ length files → HoldsAll told files texts
    → texts ≡ before ++ text ∷ after → All IsScript before → (IsScript text → ⊥) → First told files
first_none told [] texts before after text n held split are none = absurd (let l = length_split texts before after text split in omega (arith, n, l)) where
  length_split : (texts before after : List (List ℕ)) (text : List ℕ) → texts ≡ before ++ text ∷ after → 0 < length texts
  length_split texts [] after text e = let l : length texts ≡ suc (length after) = ap length e in omega (arith, l)
  length_split texts (b ∷ before) after text e = let l : length texts ≡ suc (length (before ++ text ∷ after)) = ap length e in omega (arith, l)
first_none told (f ∷ files) texts [] after text n held split are none =
    record {
      before = [];
      file = f;
      after = files;
      split = refl;
      scripts = All-nil (HoldsScript told);
      none = holds_none told f text files after (subst (HoldsAll told (f ∷ files)) split held) none;
    }
first_none told (f ∷ files) texts (b ∷ before) after text n held split are none =
    let here : HoldsAll told (f ∷ files) (b ∷ before ++ text ∷ after) = subst (HoldsAll told (f ∷ files)) split held in
    let count : length texts ≡ suc (length (before ++ text ∷ after)) = ap length split in
    let r = first_none told files (before ++ text ∷ after) before after text (omega (arith, n, count)) (told_others told f b files (before ++ text ∷ after) here) refl (All-tail IsScript b before are) none in
    record {
      before = f ∷ r.before;
      file = r.file;
      after = r.after;
      split = ap (λ l. f ∷ l) r.split;
      scripts = All-cons (HoldsScript told) f r.before (holds_script told f b files (before ++ text ∷ after) here (All-head IsScript b before are)) r.scripts;
      none = r.none;
    }

-- a file among the first of the files is no script, where those and maybe more were asked
reached : (told : Option Held) (asked asked' : Option (List (List ℕ))) (files names extra : List (List ℕ)) (m : ℕ) → First told names → take m files ≡ names ++ extra → Added asked asked' (take m files) → IsNoScript told asked asked' files
reached told asked asked' files names extra m r front added =
    let ahead = r.after ++ extra in
    let up_to : take m files ≡ r.before ++ r.file ∷ ahead = front ∙ ap (λ l. l ++ extra) r.split ∙ append_assoc r.before (r.file ∷ r.after) extra in (
      r.file,
      ahead,
      record {
        before = r.before;
        after = drop m files;
        split = sym (take-append-drop m files) ∙ ap (λ l. l ++ drop m files) up_to ∙ append_assoc r.before (r.file ∷ ahead) (drop m files);
        scripts = r.scripts;
        asked_in_order = subst (Added asked asked') up_to added;
      },
      r.none,
    )

-- all files were read, and a text is no script
pub no_script_of_all : (told : Option Held) (asked asked' : Option (List (List ℕ))) (files texts : List (List ℕ)) (limit : ℕ) → AreOfAll told files limit texts → HasNoScript texts → Added asked asked' files → IsNoScript told asked asked' files
no_script_of_all told asked asked' files texts limit all h added =
    let whole : take (length files) files ≡ files = take_all (length files) files (omega arith) in
    reached told asked asked' files files [] (length files) (first_none told files texts h.before h.after h.text all.count all.held h.split h.scripts h.none)
    (whole ∙ sym (append-nil files)) (subst (Added asked asked') (sym whole) added)

module _ (told : Option Held) (asked asked' : Option (List (List ℕ))) (files texts : List (List ℕ)) (why : ReadError) (b : AreBeforeFault told files SCRIPT_BYTES texts why) (added : Added asked asked' (take (length texts + 1) files)) where
  abbrev file : List ℕ
  file = get_or files (length texts) []

  one_more : take (length texts + 1) files ≡ take (length texts) files ++ file ∷ []
  one_more = take_more files (length texts) [] b.fewer

  count : length texts ≡ length (take (length texts) files)
  count = sym (length-take-le (length texts) files (let lt = b.fewer in omega arith))

  -- a text before the file that was not read is no script
  pub no_script_before : HasNoScript texts → IsNoScript told asked asked' files
  no_script_before h =
      reached told asked asked' files (take (length texts) files) (file ∷ []) (length texts + 1) (first_none told (take (length texts) files) texts h.before h.after h.text count b.held h.split h.scripts h.none)
      one_more added

  -- the file that was not read is the first at fault
  last : All IsScript texts → IsReached told asked asked' files file []
  last are = record {
    before = take (length texts) files;
    after = drop (length texts + 1) files;
    split = sym (take-append-drop (length texts + 1) files) ∙ ap (λ l. l ++ drop (length texts + 1) files) one_more ∙ append_assoc (take (length texts) files) (file ∷ []) (drop (length texts + 1) files);
    scripts = all_hold told (take (length texts) files) texts count b.held are;
    asked_in_order = subst (Added asked asked') one_more added;
  }

  pub unread : All IsScript texts → IsUnread told asked asked' files
  unread are = (file, last are)

  pub too_long : why ≡ fault.TooLong → All IsScript texts → IsNoScript told asked asked' files
  too_long e are = (file, [], last are, long_none told (b.too_long e)) where
    past : (o : Option (List ℕ)) → MatchOption o ⊥ (λ bytes. SCRIPT_BYTES < length bytes) → MatchOption o ⊥ (λ bytes. IsScript bytes → ⊥)
    past None m = m
    past (Some bytes) m = λ s. let le = s.short in omega arith

    long_none : (t : Option Held) → HoldsMore t file SCRIPT_BYTES → HoldsNoScript t file
    long_none None m = tt
    long_none (Some held) m = past (held file) m

-- an error that is another one is not want of memory
abbrev is_want : ReadError → Bool
is_want fault.Memory = true
is_want _ = false

pub no_want : (e why : ReadError) → is_want e ≡ false → why ≡ e → why ≢ fault.Memory
no_want e why is p q = true≢false (sym (ap is_want q) ∙ ap is_want p ∙ is)

-- as many texts as their values
pub asked_one_more : (asked asked' : Option (List (List ℕ))) (files : List (List ℕ)) (texts : List (Vec ℕ Global)) → Added asked asked' (take (length texts + 1) files) → Added asked asked' (take (length (bytes_in texts) + 1) files)
asked_one_more asked asked' files texts = subst (λ n. Added asked asked' (take (n + 1) files)) (sym (length-map texts (λ t. t.items)))

-- the scripts so far and the texts that are left are all texts
module _ (all scripts scripts' : List (List ℕ)) (rest rest' : List (Vec ℕ Global)) (x : Vec ℕ Global) (split : scripts ++ bytes_in rest ≡ all) (next : rest ≡ x ∷ rest') where
  whole : scripts ++ x.items ∷ bytes_in rest' ≡ all
  whole = ap (λ r. scripts ++ bytes_in r) (sym next) ∙ split

  pub one_more_script : (s : List ℕ) → scripts' ≡ scripts ++ s ∷ [] → s ≡ x.items → scripts' ++ bytes_in rest' ≡ all
  one_more_script s e is = ap (λ l. l ++ bytes_in rest') (e ∙ ap (λ t. scripts ++ t ∷ []) is) ∙ append_assoc scripts (x.items ∷ []) (bytes_in rest') ∙ whole

  pub none_here : All IsScript scripts → (IsScript x.items → ⊥) → HasNoScript all
  none_here are none = record { before = scripts; text = x.items; after = bytes_in rest'; split = sym whole; scripts = are; none = none }

pub none_left : (all scripts : List (List ℕ)) (rest : List (Vec ℕ Global)) → scripts ++ bytes_in rest ≡ all → length rest ≡ 0 → scripts ≡ all
none_left all scripts [] split n = sym (append-nil scripts) ∙ split
none_left all scripts (x ∷ rest) split n = absurd (omega (arith, n))
