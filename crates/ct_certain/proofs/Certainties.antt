-- Lists of certain tuples, one candidate after another.
use Rattle.std.proofs.Common.{◌≡◌, ◌<◌, ◌+◌, ℕ, get_or, length, take, Bool, true, false, not, ◌&&◌, ◌||◌, List, [], ◌∷◌, ◌++◌, refl, ap, sym, subst, ◌∙◌, inl, inr}
use Rattle.std.{specs.Prelude.{◌⊎◌, All, IsTrue}, specs.List.IsDistinct, proofs.lemmas.Bool.{and_parts, false≢true}, proofs.lemmas.List.take_more}
use Rattle.std.proofs.lemmas.List.Elements.{All-head, All-tail, All-nil, All-push, All-weaker}
use Rattle.ct_word.{specs.declared.values.Value.Value, specs.declared.values.CRow.CRow, specs.Value.{World, same_tuple}, specs.Condition.holds_at}
use Rattle.ct_word.{specs.Reading.condition_at, specs.Sublist.{IsSublist, ended, left_out, taken}, specs.WellFormed.{IsWellFormed, is_place_of}}
use Rattle.ct_word.{proofs.Alike.tuple_decides, proofs.Prefixes.{condition_in_prefix, place_within}}
use Rattle.ct_query.specs.Database.{has_tuple}
use Rattle.ct_derivation.{specs.Accepts.{Accepts, accepts}, proofs.Longer.accepted_longer, proofs.Sound.root_refuted}
use Rattle.ct_rewrite.specs.declared.answer.CertainRow.{CertainRow}
use Rattle.ct_operators.{specs.Tables.{firsts, value_of_rows}, proofs.{Growing.value_grows, Selecting.distinct_part}}
use Rattle.ct_certain.{specs.Certain.{tuples_in, is_missing, IsCutProof, IsInAll, RefutesMissing, ListsCertain}, specs.Answered.{IsRefutation, IsSettled}, proofs.{Candidates.has_first, Roots.missing_before}}
use Rattle.ct_certain.{specs.Missing.{AreListed, IsAskedOf, IsRefuted, IsRootOf, Takes, nothing, one}, proofs.Cuts.cut_longer}
use mathlib.Core.List.{IsPrefix}
use Rattle.ct_word.specs.declared.kinds.Class.TheVariants as class
use Rattle.ct_decide.specs.declared.deciding.Decision.TheVariants as decision

sub_left : {A : Type 0} {xs ys : List A} (y : A) → IsSublist xs ys → IsSublist xs (ys ++ y ∷ [])
sub_left y ended = left_out ended
sub_left y (left_out s) = left_out (sub_left y s)
sub_left y (taken s) = taken (sub_left y s)

sub_more : {A : Type 0} {xs ys : List A} (y : A) → IsSublist xs ys → IsSublist (xs ++ y ∷ []) (ys ++ y ∷ [])
sub_more y ended = taken ended
sub_more y (left_out s) = left_out (sub_more y s)
sub_more y (taken s) = taken (sub_more y s)

tuples_push : (list : List CertainRow) (r : CertainRow) → tuples_in (list ++ r ∷ []) ≡ tuples_in list ++ r.tuple ∷ []
tuples_push [] r = refl
tuples_push (x ∷ list) r = ap (λ l. x.tuple ∷ l) (tuples_push list r)

or_true : (a b : Bool) → (a || b) ≡ true → (a ≡ true) ⊎ (b ≡ true)
or_true true b e = inl refl
or_true false b e = inr e

true_first : (a b : Bool) → a ≡ true → (a || b) ≡ true
true_first a b e = ap (λ c. c || b) e

true_second : (a b : Bool) → b ≡ true → (a || b) ≡ true
true_second true b e = refl
true_second false b e = e

has_push : (ts : List (List Value)) (u t : List Value) → has_tuple (ts ++ u ∷ []) t ≡ (has_tuple ts t || same_tuple u t)
has_push [] u t = flip (same_tuple u t) where
  flip : (b : Bool) → (b || false) ≡ b
  flip true = refl
  flip false = refl
has_push (x ∷ ts) u t = ap (λ b. same_tuple x t || b) (has_push ts u t) ∙ grouped (same_tuple x t) (has_tuple ts t) (same_tuple u t) where
  grouped : (a b c : Bool) → (a || (b || c)) ≡ ((a || b) || c)
  grouped true b c = refl
  grouped false b c = refl

root_there : (words : List ℕ) (root : ℕ) (d : _) → Accepts words root d → IsTrue (is_place_of words class.Cond root)
unfolding accepts
root_there words root d is = (and_parts (is_place_of words class.Cond root) _ (and_parts _ _ is).0).0

has_by : (a b : Bool) → a ≡ true → (a && not b) ≡ false → b ≡ true
has_by true true e f = refl
has_by true false e f = absurd (false≢true (sym f))
has_by false b e f = absurd (false≢true e)

lacks : (a b : Bool) → (a && not b) ≡ true → (a ≡ true → b ≡ true) → ⊥
lacks true true e f = false≢true e
lacks true false e f = false≢true (f refl)
lacks false b e f = false≢true e

-- derivations, as words are added
pub refutations_later : (old new : List ℕ) → IsPrefix old new → (list : List CertainRow) → All (λ r. IsRefutation old r.proof.root r.proof.derivation) list → All (λ r. IsRefutation new r.proof.root r.proof.derivation) list
refutations_later old new longer list =
    All-weaker (λ r. IsRefutation old r.proof.root r.proof.derivation) (λ r. IsRefutation new r.proof.root r.proof.derivation)
    (λ r is. (accepted_longer old new longer r.proof.root r.proof.derivation is.0, cut_longer old new longer r.proof.root r.proof.derivation is.1)) list

module _ (words : List ℕ) (global : ℕ) (rs : List CRow) where
  -- the derivations in a list
  pub refutations : (now : List ℕ) (list : List CertainRow) → All (IsRefuted words now global rs) list → All (λ r. IsRefutation now r.proof.root r.proof.derivation) list
  refutations now list = All-weaker (IsRefuted words now global rs) (λ r. IsRefutation now r.proof.root r.proof.derivation) (λ r is. (is.refutes.accepted, is.cut)) list

  -- a candidate that was asked for over words that these are the first of
  pub takes_before : (old new : List ℕ) (width : ℕ) (t : List Value) (list out : List CertainRow) → IsAskedOf words old global width rs t → Takes old new global rs t list out → Takes words new global rs t list out
  takes_before old new width t list out asked (nothing never) = nothing (λ all. never (λ v holds.
      ap (λ ts. has_tuple ts t) (value_grows words old asked.grown v width rs asked.rows.each)
      ∙ all v (sym (ap (holds_at v) (condition_in_prefix words old global asked.grown (place_within words class.Cond global asked.global_is))) ∙ holds)))
  takes_before old new width t list out asked (one r is refuted) = one r is (record {
    refutes = record {
      accepted = refuted.refutes.accepted;
      root = λ v. refuted.refutes.root v ∙ subst (λ u. is_missing old global rs u v ≡ is_missing words global rs u v) (sym is) (missing_before words old global width rs t asked v);
    };
    cut = refuted.cut;
  })

  refutes_later : (old new : List ℕ) → IsPrefix old new → (r : CertainRow) → RefutesMissing words old global rs r → RefutesMissing words new global rs r
  refutes_later old new longer r is = record {
    accepted = accepted_longer old new longer r.proof.root r.proof.derivation is.accepted;
    root = λ v. ap (holds_at v) (condition_in_prefix old new r.proof.root longer (place_within old class.Cond r.proof.root (root_there old r.proof.root r.proof.derivation is.accepted))) ∙ is.root v;
  }

  refuted_later : (old new : List ℕ) → IsPrefix old new → (r : CertainRow) → IsRefuted words old global rs r → IsRefuted words new global rs r
  refuted_later old new longer r is = record {
    refutes = refutes_later old new longer r is.refutes;
    cut = cut_longer old new longer r.proof.root r.proof.derivation is.cut;
  }

  pub listed_none : (now : List ℕ) → AreListed words now global rs [] []
  listed_none now = record { refuted = All-nil _; ordered = ended; complete = λ t h all. h }

  pub listed_later : (old new : List ℕ) (done : List (List Value)) (list : List CertainRow) → IsPrefix old new → AreListed words old global rs done list → AreListed words new global rs done list
  listed_later old new done list longer are = record {
    refuted = All-weaker (IsRefuted words old global rs) (IsRefuted words new global rs) (refuted_later old new longer) list are.refuted;
    ordered = are.ordered;
    complete = are.complete;
  }

  -- a candidate that is not certain
  pub listed_skip : (now : List ℕ) (done : List (List Value)) (list : List CertainRow) (u : List Value) → (IsInAll words global rs u → ⊥) → AreListed words now global rs done list → AreListed words now global rs (done ++ u ∷ []) list
  listed_skip now done list u never are = record {
    refuted = are.refuted;
    ordered = sub_left u are.ordered;
    complete = λ t h all. elim (or_true (has_tuple done t) (same_tuple u t) (sym (has_push done u t) ∙ h)) [
      | inl a ↦ are.complete t a all
      | inr b ↦ absurd (never (subst (IsInAll words global rs) (sym ((tuple_decides u t).0 b)) all))
    ];
  }

  is_in_all : (now : List ℕ) → IsWellFormed now → (r : CertainRow) → RefutesMissing words now global rs r → IsInAll words global rs r.tuple
  is_in_all now formed r is v holds = has_by (holds_at v (condition_at words global)) (has_tuple (value_of_rows words v rs) r.tuple) holds (sym (is.root v) ∙ root_refuted now r.proof.root r.proof.derivation formed is.accepted v)

  -- a candidate with its proof
  pub listed_more : (now : List ℕ) (done : List (List Value)) (list : List CertainRow) (r : CertainRow) → IsRefuted words now global rs r → AreListed words now global rs done list → AreListed words now global rs (done ++ r.tuple ∷ []) (list ++ r ∷ [])
  listed_more now done list r is are = record {
    refuted = All-push (IsRefuted words now global rs) list r are.refuted is;
    ordered = subst (λ ts. IsSublist ts (done ++ r.tuple ∷ [])) (sym (tuples_push list r)) (sub_more r.tuple are.ordered);
    complete = λ t h all.
        ap (λ ts. has_tuple ts t) (tuples_push list r) ∙ has_push (tuples_in list) r.tuple t
        ∙ elim (or_true (has_tuple done t) (same_tuple r.tuple t) (sym (has_push done r.tuple t) ∙ h)) as (λ _. (has_tuple (tuples_in list) t || same_tuple r.tuple t) ≡ true) [
          | inl a ↦ true_first (has_tuple (tuples_in list) t) (same_tuple r.tuple t) (are.complete t a all)
          | inr b ↦ true_second (has_tuple (tuples_in list) t) (same_tuple r.tuple t) b
        ];
  }

  listed_by : (now : List ℕ) (done : List (List Value)) (t : List Value) (list out : List CertainRow) → AreListed words now global rs done list → Takes words now global rs t list out → AreListed words now global rs (done ++ t ∷ []) out
  listed_by now done t list out are (nothing never) = listed_skip now done list t never are
  listed_by now done t list out are (one r is refutes) =
      subst (λ x. AreListed words now global rs (done ++ x ∷ []) (list ++ r ∷ [])) is (listed_more now done list r refutes are)

  -- one more candidate
  pub listed_turn : (old new : List ℕ) (all : List (List Value)) (i : ℕ) (t : List Value) (list out : List CertainRow) → IsPrefix old new → i < length all → t ≡ get_or all i t
      → AreListed words old global rs (take i all) list → Takes words new global rs t list out → AreListed words new global rs (take (i + 1) all) out
  listed_turn old new all i t list out longer lt e are takes =
      let done : take i all ++ t ∷ [] ≡ take (i + 1) all = ap (λ x. take i all ++ x ∷ []) e ∙ sym (take_more all i t lt) in
      subst (λ d. AreListed words new global rs d out) done (listed_by new (take i all) t list out (listed_later old new (take i all) list longer are) takes)

  -- what the answer to a question says of a candidate
  pub takes_nothing : (now : List ℕ) (t : List Value) (list : List CertainRow) (root : ℕ) (w : World) → IsRootOf words now global rs t root → IsSettled now root (decision.World w) → Takes words now global rs t list list
  takes_nothing now t list root w is settled =
      nothing (λ all. lacks (holds_at w (condition_at words global)) (has_tuple (value_of_rows words w rs) t) (sym (is.holds w) ∙ settled) (all w))

  pub takes_one : (now : List ℕ) (t : List Value) (list out : List CertainRow) (root : ℕ) (d : _) → IsRootOf words now global rs t root → IsSettled now root (decision.Refuted d)
      → out ≡ list ++ (record { tuple = t; proof = record { root = root; derivation = d } }) ∷ [] → Takes words now global rs t list out
  takes_one now t list out root d is settled e = subst (Takes words now global rs t list) (sym e) (one _ refl (record { refutes = record { accepted = settled.0; root = is.holds }; cut = settled.1 }))

  pub each_in_all : (now : List ℕ) → IsWellFormed now → (list : List CertainRow) → All (RefutesMissing words now global rs) list → (t : List Value) → IsTrue (has_tuple (tuples_in list) t) → IsInAll words global rs t
  each_in_all now formed [] all t h = absurd (false≢true h)
  each_in_all now formed (r ∷ list) all t h = elim (or_true (same_tuple r.tuple t) (has_tuple (tuples_in list) t) h) [
    | inl a ↦ subst (IsInAll words global rs) ((tuple_decides r.tuple t).0 a) (is_in_all now formed r (All-head (RefutesMissing words now global rs) r list all))
    | inr b ↦ each_in_all now formed list (All-tail (RefutesMissing words now global rs) r list all) t b
  ]

  -- all candidates, which are the tuples at a kept world, each once
  pub listed_all : (now : List ℕ) → IsWellFormed now → (kept : World) → IsTrue (holds_at kept (condition_at words global)) → (list : List CertainRow) → IsDistinct same_tuple (firsts same_tuple (value_of_rows words kept rs))
      → AreListed words now global rs (firsts same_tuple (value_of_rows words kept rs)) list → ListsCertain words now global rs kept list
  listed_all now formed kept holds list once are = record {
    distinct = distinct_part same_tuple (tuples_in list) (firsts same_tuple (value_of_rows words kept rs)) are.ordered once;
    exact = λ t. (each_in_all now formed list refuting t, λ all. are.complete t (has_first (value_of_rows words kept rs) t ∙ all kept holds) all);
    refuted = refuting;
    ordered = are.ordered;
  } where
    refuting : All (RefutesMissing words now global rs) list
    refuting = All-weaker (IsRefuted words now global rs) (RefutesMissing words now global rs) (λ r is. is.refutes) list are.refuted

  -- each with a proof that is cut
  pub all_cut : (now : List ℕ) (list : List CertainRow) → All (IsRefuted words now global rs) list → All (λ r. IsCutProof now r.proof) list
  all_cut now list refuted = All-weaker (IsRefuted words now global rs) (λ r. IsCutProof now r.proof) (λ r is. is.cut) list refuted
