-- What the tests on tuples tell.
use Rattle.std.proofs.Common.{◌≡◌, ℕ, Bool, true, false, not, ◌&&◌, List, [], ◌∷◌, refl, ap, sym, ◌∙◌}
use Rattle.std.{specs.Prelude.{All, Contains, if◌then◌else◌}, specs.Bool.Decides, specs.List.list_all, proofs.lemmas.Bool.{false≢true}}
use Rattle.std.proofs.lemmas.Bool.Decides.{same_from_decides, Decides-like}
use Rattle.std.{proofs.lemmas.List.Sums.{AllPass-from_list_all, list_all-from_AllPass}, proofs.lemmas.List.Elements.{All-contains, All-weaker, All-contains_itself}}
use Rattle.ct_word.{specs.declared.values.Value.Value, specs.Value.{same_value, same_tuple, cell_at}, proofs.Alike.{value_decides, tuple_decides}, proofs.Items.{first_item, no_item}}
use Rattle.ct_query.specs.Database.{SameSet}
use Rattle.ct_query.specs.Assertions.{has_member, as_wanted, agree, clash, is_key, IsKey}
use Rattle.ct_constraint.proofs.Agreeing.{in_list}

module _ {X : Type 0} (p : X → Bool) where
  passes : (xs : List X) (x : X) → list_all p xs ≡ true → Contains xs x → p x ≡ true
  passes xs x e h = All-contains (λ y. p y ≡ true) xs x (AllPass-from_list_all p xs e) h

  all_pass : (xs : List X) → ((x : X) → Contains xs x → p x ≡ true) → list_all p xs ≡ true
  all_pass xs each = list_all-from_AllPass p xs (All-weaker (Contains xs) (λ y. p y ≡ true) each xs (All-contains_itself xs))

pub member_tells : (ts : List (List Value)) → Decides (has_member ts) ((t : List Value) × Contains ts t)
member_tells [] = (λ e. absurd (false≢true e), λ h. absurd (no_item h.0 h.1))
member_tells (t ∷ ts) = (λ e. (t, first_item ts t), λ h. refl)

-- agreement with all that is the same at the columns
agree_tells : (columns : List ℕ) (s t : List Value) → Decides (agree columns s t) (All (λ k. cell_at s k ≡ cell_at t k) columns)
agree_tells columns s t = (
  λ e. All-weaker (λ k. same_value (cell_at s k) (cell_at t k) ≡ true) (λ k. cell_at s k ≡ cell_at t k) (λ k. (value_decides (cell_at s k) (cell_at t k)).0) columns
      (AllPass-from_list_all (λ k. same_value (cell_at s k) (cell_at t k)) columns e),
  λ all. list_all-from_AllPass (λ k. same_value (cell_at s k) (cell_at t k)) columns
      (All-weaker (λ k. cell_at s k ≡ cell_at t k) (λ k. same_value (cell_at s k) (cell_at t k) ≡ true) (λ k. (value_decides (cell_at s k) (cell_at t k)).1) columns all),
)

both_true : (a b : Bool) → not (a && not b) ≡ true → a ≡ true → b ≡ true
both_true true true e h = refl
both_true true false e h = e
both_true false b e h = absurd (false≢true h)

not_alone : (a b : Bool) → (a ≡ true → b ≡ true) → not (a && not b) ≡ true
not_alone true b f = ap (λ x. not (not x)) (f refl)
not_alone false b f = refl

module _ (columns : List ℕ) (ts : List (List Value)) where
  key_is : is_key columns ts ≡ true → IsKey columns ts
  key_is e s t i j same =
      let apart = passes (λ u. not (clash columns s u)) ts t (passes (λ r. list_all (λ u. not (clash columns r u)) ts) ts s e i) j in
      (tuple_decides s t).0 (both_true (agree columns s t) (same_tuple s t) apart ((agree_tells columns s t).1 same))

  is_key_where : IsKey columns ts → is_key columns ts ≡ true
  is_key_where key = all_pass (λ r. list_all (λ u. not (clash columns r u)) ts) ts
      (λ s i. all_pass (λ u. not (clash columns s u)) ts
      (λ t j. not_alone (agree columns s t) (same_tuple s t) (λ e. (tuple_decides s t).1 (key s t i j ((agree_tells columns s t).0 e)))))

  pub key_tells : Decides (is_key columns ts) (IsKey columns ts)
  key_tells = (key_is, is_key_where)

-- a member of a list is one of each list that is the same set
moved : (a b : List (List Value)) → SameSet a b → (t : List Value) → Contains a t → Contains b t
moved a b same t h = (in_list same_tuple tuple_decides b t).0 (sym (same t) ∙ (in_list same_tuple tuple_decides a t).1 h)

module _ (a b : List (List Value)) (same : SameSet a b) where
  back : SameSet b a
  back t = sym (same t)

  pub member_of_set : has_member a ≡ has_member b
  member_of_set = same_from_decides (has_member a) (has_member b) (member_tells a)
      (Decides-like (has_member b) (λ h. (h.0, moved b a back h.0 h.1)) (λ h. (h.0, moved a b same h.0 h.1)) (member_tells b))

  pub wanted_of_set : (wanted : Bool) → as_wanted wanted a ≡ as_wanted wanted b
  wanted_of_set wanted = ap (λ h. if wanted then h else not h) member_of_set

  pub key_of_set : (columns : List ℕ) → is_key columns a ≡ is_key columns b
  key_of_set columns = same_from_decides (is_key columns a) (is_key columns b) (key_tells columns a)
      (Decides-like (is_key columns b)
      (λ (key : IsKey columns b) s t i j. key s t (moved a b same s i) (moved a b same t j))
      (λ key s t i j. key s t (moved b a back s i) (moved b a back t j))
      (key_tells columns b))
