-- Tuples of which no two clash, row by row.
use Rattle.std.proofs.Common.{◌≡◌, ℕ, Bool, true, false, not, ◌&&◌, List, [], ◌∷◌, ◌++◌, map, take, drop, cond, refl, ap, sym, subst, ◌∙◌}
use Rattle.std.{specs.List.list_all, proofs.lemmas.List.{take-append-drop}, proofs.lemmas.List.Folds.list_all-append, proofs.lemmas.Bool.Decides.same_from_decides, proofs.lemmas.Bool.{and_left, and_right, not_from_true}}
use Rattle.ct_word.{specs.declared.values.Value.Value, specs.declared.values.CRow.CRow, specs.Value.{World, same_value, same_tuple, cell_at, tuple_at}}
use Rattle.ct_word.{specs.Condition.holds_at, specs.Reading.{term_at, condition_at, plain_crow}, proofs.Alike.{value_decides, tuple_decides}}
use Rattle.ct_operators.{specs.Tables.value_of_rows, specs.Placing.tuple_of, proofs.Selecting.{value-append, one_shown}}
use Rattle.ct_query.specs.Assertions.{agree, clash, keep_apart, is_key}

crossed : (a b c d : Bool) → ((a && b) && (c && d)) ≡ ((a && c) && (b && d))
crossed true true c d = refl
crossed true false true d = refl
crossed true false false d = refl
crossed false b c d = refl

twice : (a b : Bool) → ((a && b) && (b && true)) ≡ (a && b)
twice true true = refl
twice true false = refl
twice false b = refl

and_one : (b : Bool) → (b && true) ≡ b
and_one true = refl
and_one false = refl

same_value-swap : (x y : Value) → same_value x y ≡ same_value y x
same_value-swap x y = same_from_decides (same_value x y) (same_value y x) (value_decides x y) (λ e. sym ((value_decides y x).0 e), λ e. (value_decides y x).1 (sym e))

same_tuple-swap : (s t : List Value) → same_tuple s t ≡ same_tuple t s
same_tuple-swap s t = same_from_decides (same_tuple s t) (same_tuple t s) (tuple_decides s t) (λ e. sym ((tuple_decides t s).0 e), λ e. (tuple_decides t s).1 (sym e))

agree-swap : (ks : List ℕ) (s t : List Value) → agree ks s t ≡ agree ks t s
agree-swap [] s t = refl
agree-swap (k ∷ ks) s t = λ i. same_value-swap (cell_at s k) (cell_at t k) i && agree-swap ks s t i

module _ (ks : List ℕ) where
  clash-swap : (s t : List Value) → clash ks s t ≡ clash ks t s
  clash-swap s t = λ i. agree-swap ks s t i && not (same_tuple-swap s t i)

  -- no tuple clashes with itself
  clash_itself : (t : List Value) → clash ks t t ≡ false
  clash_itself t = and_right (agree ks t t) (not (same_tuple t t)) (not_from_true (same_tuple t t) ((tuple_decides t t).1 refl))

  apart-append : (as' bs ts : List (List Value)) → keep_apart ks (as' ++ bs) ts ≡ (keep_apart ks as' ts && keep_apart ks bs ts)
  apart-append as' bs ts = list_all-append (λ s. list_all (λ t. not (clash ks s t)) ts) as' bs

  apart-both : (ss as' bs : List (List Value)) → keep_apart ks ss (as' ++ bs) ≡ (keep_apart ks ss as' && keep_apart ks ss bs)
  apart-both [] as' bs = refl
  apart-both (s ∷ ss) as' bs =
      (λ i. list_all-append (λ t. not (clash ks s t)) as' bs i && apart-both ss as' bs i)
      ∙ crossed (list_all (λ t. not (clash ks s t)) as') (list_all (λ t. not (clash ks s t)) bs) (keep_apart ks ss as') (keep_apart ks ss bs)

  apart_none : (ss : List (List Value)) → keep_apart ks ss [] ≡ true
  apart_none [] = refl
  apart_none (s ∷ ss) = apart_none ss

  apart_one : (ss : List (List Value)) (t : List Value) → keep_apart ks ss (t ∷ []) ≡ list_all (λ s. not (clash ks t s)) ss
  apart_one [] t = refl
  apart_one (s ∷ ss) t = λ i. (and_one (not (clash ks s t)) ∙ ap not (clash-swap s t)) i && apart_one ss t i

  apart-swap : (ss ts : List (List Value)) → keep_apart ks ss ts ≡ keep_apart ks ts ss
  apart-swap ss [] = apart_none ss
  apart-swap ss (t ∷ ts) = apart-both ss (t ∷ []) ts ∙ (λ i. apart_one ss t i && apart-swap ss ts i)

  key-append : (ts us : List (List Value)) → is_key ks us ≡ true → is_key ks (ts ++ us) ≡ (is_key ks ts && keep_apart ks ts us)
  key-append ts us e =
      apart-append ts us (ts ++ us)
      ∙ (λ i. apart-both ts ts us i && (apart-both us ts us ∙ (λ j. apart-swap us ts j && e j)) i)
      ∙ twice (is_key ks ts) (keep_apart ks ts us)

  key_one : (b : Bool) (t : List Value) → is_key ks (cond b (t ∷ []) []) ≡ true
  key_one true t = ap (λ c. (not c && true) && true) (clash_itself t)
  key_one false t = refl

  module _ (ws : List ℕ) (v : World) where
    -- one more row
    pub key_more : (rs : List CRow) (r : CRow)
        → is_key ks (value_of_rows ws v (rs ++ r ∷ [])) ≡ (is_key ks (value_of_rows ws v rs) && keep_apart ks (value_of_rows ws v rs) (value_of_rows ws v (r ∷ [])))
    key_more rs r =
        ap (is_key ks) (value-append ws v rs (r ∷ []))
        ∙ key-append (value_of_rows ws v rs) (value_of_rows ws v (r ∷ []))
        (ap (is_key ks) (one_shown v (plain_crow ws r) _ refl) ∙ key_one (holds_at v (condition_at ws r.cond)) (tuple_at v (map (term_at ws) r.cells)))

    -- one more of the rows that are compared with another one
    pub beside_more : (rs : List CRow) (r row : CRow)
        → keep_apart ks (value_of_rows ws v (rs ++ r ∷ [])) (value_of_rows ws v (row ∷ []))
        ≡ (keep_apart ks (value_of_rows ws v rs) (value_of_rows ws v (row ∷ [])) && keep_apart ks (value_of_rows ws v (r ∷ [])) (value_of_rows ws v (row ∷ [])))
    beside_more rs r row =
        ap (λ ts. keep_apart ks ts (value_of_rows ws v (row ∷ []))) (value-append ws v rs (r ∷ []))
        ∙ apart-append (value_of_rows ws v rs) (value_of_rows ws v (r ∷ [])) (value_of_rows ws v (row ∷ []))

    -- what is false of the first rows is so of all
    pub beside_never : (rs : List CRow) (n : ℕ) (row : CRow)
        → keep_apart ks (value_of_rows ws v (take n rs)) (value_of_rows ws v (row ∷ [])) ≡ false
        → keep_apart ks (value_of_rows ws v rs) (value_of_rows ws v (row ∷ [])) ≡ false
    beside_never rs n row e =
        let first = value_of_rows ws v (take n rs) in
        let rest = value_of_rows ws v (drop n rs) in
        let one = value_of_rows ws v (row ∷ []) in
        subst (λ l. keep_apart ks (value_of_rows ws v l) one ≡ false) (take-append-drop n rs)
        (ap (λ ts. keep_apart ks ts one) (value-append ws v (take n rs) (drop n rs)) ∙ apart-append first rest one
        ∙ and_left (keep_apart ks first one) (keep_apart ks rest one) e)

    pub key_never : (rs : List CRow) (n : ℕ) → is_key ks (value_of_rows ws v (take n rs)) ≡ false → is_key ks (value_of_rows ws v rs) ≡ false
    key_never rs n e =
        let first = value_of_rows ws v (take n rs) in
        let rest = value_of_rows ws v (drop n rs) in
        subst (λ l. is_key ks (value_of_rows ws v l) ≡ false) (take-append-drop n rs)
        (ap (is_key ks) (value-append ws v (take n rs) (drop n rs)) ∙ apart-append first rest (first ++ rest)
        ∙ and_left (keep_apart ks first (first ++ rest)) (keep_apart ks rest (first ++ rest))
        (apart-both first first rest ∙ and_left (is_key ks first) (keep_apart ks first rest) e))

    -- two rows
    pub pair_apart : (l r : CRow) → not (holds_at v (condition_at ws l.cond) && (holds_at v (condition_at ws r.cond) && clash ks (tuple_of ws l.cells v) (tuple_of ws r.cells v)))
        ≡ keep_apart ks (value_of_rows ws v (l ∷ [])) (value_of_rows ws v (r ∷ []))
    pair_apart l r =
        by_case (holds_at v (condition_at ws l.cond)) (holds_at v (condition_at ws r.cond)) (clash ks (tuple_of ws l.cells v) (tuple_of ws r.cells v)) refl
        ∙ sym (λ i. keep_apart ks (one_shown v (plain_crow ws l) _ refl i) (one_shown v (plain_crow ws r) _ refl i)) where
          one_pair : (c : Bool) → not c ≡ ((not c && true) && true)
          one_pair true = refl
          one_pair false = refl

          by_case : (a b c : Bool) → clash ks (tuple_of ws l.cells v) (tuple_of ws r.cells v) ≡ c
              → not (a && (b && c)) ≡ keep_apart ks (cond a (tuple_of ws l.cells v ∷ []) []) (cond b (tuple_of ws r.cells v ∷ []) [])
          by_case false b c e = refl
          by_case true false c e = refl
          by_case true true c e = one_pair c ∙ sym (ap (λ q. (not q && true) && true) e)

    -- tuples that do not agree do not clash
    pub pair_differs : (l r : CRow) → agree ks (tuple_of ws l.cells v) (tuple_of ws r.cells v) ≡ false → true ≡ keep_apart ks (value_of_rows ws v (l ∷ [])) (value_of_rows ws v (r ∷ []))
    pair_differs l r e =
        sym (ap not (and_right (holds_at v (condition_at ws l.cond)) _ (and_right (holds_at v (condition_at ws r.cond)) _ (and_left _ (not (same_tuple (tuple_of ws l.cells v) (tuple_of ws r.cells v))) e))))
        ∙ pair_apart l r
