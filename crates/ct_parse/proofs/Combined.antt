-- Parts that are joined, renamed, or followed by a lexeme; lists behind commas; conditions behind words.
use Rattle.std.proofs.Common.{◌≡◌, ℕ, Bool, true, false, List, [], ◌∷◌, length, Option, Some, None, refl, ap, sym, subst, ◌∙◌, arith, rules}
use Rattle.std.{specs.Prelude.{IsTrue, nat_eq}, specs.Cmp.Lexicographic.{same_text as same_bytes}, proofs.lemmas.Bool.false≢true}
use Rattle.ct_word.{specs.Writable.is_name, specs.Value.same_text}
use Rattle.ct_lex.specs.declared.token.Lexeme.{Lexeme}
use Rattle.ct_parse.{specs.declared.tree.Condition.Condition, specs.Ends.{Fails, at_word, EndsAnyhow, EndsItem, EndsItems, EndsCondition, EndsBehind}}
use Rattle.ct_parse.specs.Grammar.{IsName, name, AreMore, no_more, one_more, IsClosed, closed, IsCondition, HasCondition, no_condition, a_condition}
use Rattle.ct_parse.{specs.Reads.{Reads, Never}, proofs.Fronts.{Same, tail, moved}, proofs.TermSteps.{reads_at, never_at}}
use Rattle.ct_parse.proofs.Listed.{Behind, Cases, ended, split, Lists, Parts, parts, Pairs}
use Rattle.ct_lex.specs.declared.token.Lexeme.TheVariants as lexeme
use Rattle.ct_lex.specs.declared.token.Symbol.TheVariants as symbol

-- a word stands at itself
same_self : (n : ℕ) → nat_eq n n ≡ true
same_self n = search rules

text_self : (w : List ℕ) → same_text w w ≡ true
text_self [] = refl
text_self (n ∷ w) = rw (same_self n) (text_self w)

pub not_word : (w : List ℕ) {ws : List Lexeme} → Fails (at_word w ws) → (r : List Lexeme) → ws ≡ lexeme.Word w ∷ r → ⊥
not_word w fails r e = subst Fails (ap (at_word w) e ∙ text_self w) fails

-- a name is no keyword
not_keyword : (w n : List ℕ) → is_name w ≡ false → IsTrue (is_name n) → (b : Bool) → same_text n w ≡ b → Fails b
not_keyword w n k p true e = absurd (false≢true (sym k ∙ ap is_name (sym (same_bytes n w (sym e))) ∙ p))
not_keyword w n k p false e = tt

pub name_apart : (w : List ℕ) → is_name w ≡ false → {ws r : List Lexeme} {n : List ℕ} → IsName ws n r → Fails (at_word w ws)
name_apart w k (name {n = n} p) = not_keyword w n k p (same_text n w) refl

-- the lexeme that closes parentheses
abbrev pub CLOSE : Lexeme
CLOSE = lexeme.Symbol symbol.RightParen

-- a part, and this lexeme behind it
abbrev pub Then : {T : Type 0} → (List Lexeme → T → List Lexeme → Type 0) → Lexeme → List Lexeme → T → List Lexeme → Type 0
Then X w ws x r = X ws x (w ∷ r)

pub then_read : {T : Type 0} {X : List Lexeme → T → List Lexeme → Type 0} {E : List Lexeme → Type 0} (w : Lexeme) → ((r : List Lexeme) → E (w ∷ r)) → {ws m r : List Lexeme} {x : T} → Reads X E ws x m → m ≡ w ∷ r
    → Reads (Then X w) EndsAnyhow ws x r
then_read {X = X} w ends {ws = ws} {x = x} h e = record {
  is = subst (λ m. X ws x m) e h.is;
  only = λ t r' any y. let s = h.only t (w ∷ r') (ends r') y in (s.0, ap tail (s.1 ∙ e));
  within = omega (arith, h.within, ap length e);
}

pub no_then : {T : Type 0} (X : List Lexeme → T → List Lexeme → Type 0) {E : List Lexeme → Type 0} (w : Lexeme) → ((r : List Lexeme) → E (w ∷ r)) → {ws : List Lexeme} → Never X E ws → Never (Then X w) EndsAnyhow ws
no_then X w ends never = λ t r any y. never t (w ∷ r) (ends r) y

pub not_then : {T : Type 0} {X : List Lexeme → T → List Lexeme → Type 0} {E : List Lexeme → Type 0} (w : Lexeme) → ((r : List Lexeme) → E (w ∷ r)) → {ws m : List Lexeme} {x : T} → Reads X E ws x m
    → ((r : List Lexeme) → m ≡ w ∷ r → ⊥) → Never (Then X w) EndsAnyhow ws
not_then w ends h bad = λ t r any y. bad r (sym (h.only t (w ∷ r) (ends r) y).1)

-- what X reads under another name
pub data Image {S T : Type 0} (X : List Lexeme → S → List Lexeme → Type 0) (f : S → T) : List Lexeme → T → List Lexeme → Type 0 where
  image : {ws r : List Lexeme} {x : S} → X ws x r → Image X f ws (f x) r

-- at these lexemes C is X under another name
pub record Renames {S T : Type 0} (X : List Lexeme → S → List Lexeme → Type 0) (f : S → T) (C : List Lexeme → T → List Lexeme → Type 0) (ws : List Lexeme) : Type 0 where
  pub into : {r : List Lexeme} {x : S} → X ws x r → C ws (f x) r
  pub back : {r : List Lexeme} {t : T} → C ws t r → Image X f ws t r

module _ {S T : Type 0} {X : List Lexeme → S → List Lexeme → Type 0} {f : S → T} {C : List Lexeme → T → List Lexeme → Type 0} {E : List Lexeme → Type 0} {ws : List Lexeme} (k : Renames X f C ws) where
  image_only : {r r' : List Lexeme} {x : S} {t : T} → Reads X E ws x r → E r' → Image X f ws t r' → Same t (f x) r' r
  image_only h e (image y) = let s = h.only _ _ e y in (ap f s.0, s.1)

  pub renamed : {r : List Lexeme} {x : S} → Reads X E ws x r → Reads C E ws (f x) r
  renamed h = record { is = k.into h.is; only = λ t r' e c. image_only h e (k.back c); within = h.within }

  none_image : {r : List Lexeme} {t : T} → Never X E ws → E r → Image X f ws t r → ⊥
  none_image never e (image y) = never _ _ e y

  pub no_renamed : Never X E ws → Never C E ws
  no_renamed never = λ t r e c. none_image never e (k.back c)

-- behind the lexeme w, R is X under another name
pub record Led {S T : Type 0} (w : Lexeme) (X : List Lexeme → S → List Lexeme → Type 0) (EX : List Lexeme → Type 0) (f : S → T) (R : List Lexeme → T → List Lexeme → Type 0)
    (ER : List Lexeme → Type 0) : Type 0 where
  pub into : {ws r : List Lexeme} {x : S} → X ws x r → R (w ∷ ws) (f x) r
  pub back : {ws r : List Lexeme} {t : T} → R (w ∷ ws) t r → ER r → Image X f ws t r
  pub ends : (r : List Lexeme) → ER r → EX r

module _ {S T : Type 0} {w : Lexeme} {X : List Lexeme → S → List Lexeme → Type 0} {EX : List Lexeme → Type 0} {f : S → T} {R : List Lexeme → T → List Lexeme → Type 0} {ER : List Lexeme → Type 0}
    (k : Led w X EX f R ER) where
  led_only : {ws r r' : List Lexeme} {x : S} {t : T} → Reads X EX ws x r → ER r' → Image X f ws t r' → Same t (f x) r' r
  led_only h e (image y) = let s = h.only _ _ (k.ends _ e) y in (ap f s.0, s.1)

  pub led_read : {ws rest r : List Lexeme} {x : S} → ws ≡ w ∷ rest → Reads X EX rest x r → Reads R ER ws (f x) r
  led_read e h = reads_at e (record { is = k.into h.is; only = λ t r' a y. led_only h a (k.back y a); within = omega (arith, h.within) })

  none_led : {ws r : List Lexeme} {t : T} → Never X EX ws → ER r → Image X f ws t r → ⊥
  none_led never e (image y) = never _ _ (k.ends _ e) y

  pub led_never : {ws rest : List Lexeme} → ws ≡ w ∷ rest → Never X EX rest → Never R ER ws
  led_never e never = never_at R ER e (λ t r a y. none_led never a (k.back y a))

-- two parts as a pair
abbrev pub Both : {S T : Type 0} → (List Lexeme → S → List Lexeme → Type 0) → (List Lexeme → T → List Lexeme → Type 0) → List Lexeme → S × T → List Lexeme → Type 0
Both A B = Parts A B (λ x y. (x, y))

pub pair_of : {S T : Type 0} (A : List Lexeme → S → List Lexeme → Type 0) (EA : List Lexeme → Type 0) (B : List Lexeme → T → List Lexeme → Type 0) (EB : List Lexeme → Type 0)
    → ((ws r : List Lexeme) (y : T) → B ws y r → EB r → EA ws) → Pairs A EA B EB (λ x y. (x, y)) (Both A B)
pair_of A EA B EB before = record { both = λ a b. parts a b; cases = λ c. c; before = λ b e. before _ _ _ b e }

-- {"," x}
more_behind : {T : Type 0} (X : List Lexeme → T → List Lexeme → Type 0) {ws m r : List Lexeme} {x : T} {xs : List T} → Behind (lexeme.Symbol symbol.Comma) X ws x m → AreMore X m xs r → AreMore X ws (x ∷ xs) r
more_behind X b l = moved (AreMore X) (sym b.1) (one_more b.2 l)

cases_of_more : {T : Type 0} (X : List Lexeme → T → List Lexeme → Type 0) {ws r : List Lexeme} {xs : List T} → AreMore X ws xs r → Cases (Behind (lexeme.Symbol symbol.Comma) X) (AreMore X) ws xs r
cases_of_more X no_more = ended
cases_of_more X (one_more x l) = split (_, refl, x) l

before_more : {T : Type 0} (X : List Lexeme → T → List Lexeme → Type 0) {ws r : List Lexeme} {xs : List T} → AreMore X ws xs r → EndsItems r → EndsItem ws
before_more X no_more e = e.1
before_more X (one_more x l) e = (tt, tt)

pub part_list : {T : Type 0} (X : List Lexeme → T → List Lexeme → Type 0) → Lists (Behind (lexeme.Symbol symbol.Comma) X) EndsItem EndsItems (AreMore X)
part_list X = record {
  none = no_more;
  more = λ b l. more_behind X b l;
  cases = λ l. cases_of_more X l;
  before = λ l e. before_more X l e;
  apart = λ b e. (subst EndsItems b.1 e).0;
}

pub no_comma_part : {T : Type 0} (X : List Lexeme → T → List Lexeme → Type 0) {ws : List Lexeme} → ((r : List Lexeme) → ws ≡ lexeme.Symbol symbol.Comma ∷ r → ⊥) → (x : T) (m : List Lexeme)
    → Behind (lexeme.Symbol symbol.Comma) X ws x m → ⊥
no_comma_part X never x m b = never _ b.1

-- "(" x {"," x} ")"
abbrev pub Inside : {T : Type 0} → (List Lexeme → T → List Lexeme → Type 0) → List Lexeme → T × List T → List Lexeme → Type 0
Inside X = Behind (lexeme.Symbol symbol.LeftParen) (Then (Both X (AreMore X)) (lexeme.Symbol symbol.RightParen))

pub listed_pair : {T : Type 0} (X : List Lexeme → T → List Lexeme → Type 0) → Pairs X EndsItem (AreMore X) EndsItems (λ x y. (x, y)) (Both X (AreMore X))
listed_pair X = pair_of X EndsItem (AreMore X) EndsItems (λ ws r y l e. (part_list X).before l e)

pub list_ends_at_close : (r : List Lexeme) → EndsItems (lexeme.Symbol symbol.RightParen ∷ r)
list_ends_at_close r = (tt, (tt, tt))

into_closed : {T : Type 0} (X : List Lexeme → T → List Lexeme → Type 0) {ws r : List Lexeme} {p : T × List T} → Both X (AreMore X) ws p (lexeme.Symbol symbol.RightParen ∷ r)
    → IsClosed X (lexeme.Symbol symbol.LeftParen ∷ ws) p r
into_closed X b = from_parts b refl
  where
    from_parts : {ws m r : List Lexeme} {p : _ × List _} → Both X (AreMore X) ws p m → m ≡ lexeme.Symbol symbol.RightParen ∷ r → IsClosed X (lexeme.Symbol symbol.LeftParen ∷ ws) p r
    from_parts {r = r} (parts {m = m} {x = x} {y = y} a l) e = closed a (subst (λ k. AreMore X m y k) e l)

back_closed : {T : Type 0} (X : List Lexeme → T → List Lexeme → Type 0) {ws r : List Lexeme} {p : T × List T} → IsClosed X ws p r → Image (Inside X) (λ p. p) ws p r
back_closed X (closed a l) = image (_, refl, parts a l)

pub closed_is : {T : Type 0} (X : List Lexeme → T → List Lexeme → Type 0) (ws : List Lexeme) → Renames (Inside X) (λ p. p) (IsClosed X) ws
closed_is X ws = record { into = λ b. moved (IsClosed X) (sym b.1) (into_closed X b.2); back = λ c. back_closed X c }

-- a condition behind a word, or none
back_has : {w : List ℕ} {ws rest r : List Lexeme} {o : Option Condition} → ws ≡ lexeme.Word w ∷ rest → HasCondition w ws o r → EndsBehind w r → Image IsCondition (λ c. Some c) rest o r
back_has {w = w} f no_condition e = absurd (not_word w e.0 _ f)
back_has f (a_condition x) e = image (moved IsCondition (ap tail f) x)

pub condition_led : (w : List ℕ) → Led (lexeme.Word w) IsCondition EndsCondition (λ c. Some c) (HasCondition w) (EndsBehind w)
condition_led w = record { into = λ c. a_condition c; back = λ o e. back_has refl o e; ends = λ r e. e.1 }

has_none_only : {w : List ℕ} {ws r : List Lexeme} {o : Option Condition} → Fails (at_word w ws) → HasCondition w ws o r → Same o None r ws
has_none_only fails no_condition = (refl, refl)
has_none_only {w = w} fails (a_condition {ws = ws} x) = absurd (not_word w fails ws refl)

pub has_none_read : {w : List ℕ} {ws : List Lexeme} → Fails (at_word w ws) → Reads (HasCondition w) (EndsBehind w) ws None ws
has_none_read fails = record { is = no_condition; only = λ t r e x. has_none_only fails x; within = omega arith }
