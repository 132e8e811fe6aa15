-- What was found at a base stays so after all commits of a history, where none after the base has written what was read.
use Rattle.std.{proofs.Common.{◌≡◌, ℕ, ◌≤◌, List, [], ◌∷◌, ◌++◌, length, take, drop, sym, subst, arith, length-take}, specs.Prelude.{None, Ok, All}}
use Rattle.std.{specs.List.Contains, proofs.lemmas.List.take-append-drop, proofs.lemmas.List.Elements.{All-weaker, All-contains}}
use Rattle.ct_word.specs.Change.{PlainChange, Create, PlainCommit}
use Rattle.ct_query.{specs.declared.schema.Heading.Heading, specs.Agrees.{AgreesWith, Agrees}, specs.Fits.{columns_in, FitChanges, FitAfter}, specs.Reads.last}
use Rattle.ct_query.{specs.Frame.{AreOlder, creates, reads_of_actions}, specs.Plain.PlainAction, specs.Schema.schema, specs.declared.action.Read.Read}
use Rattle.ct_query.proofs.Frame.{same_for_actions, fit_later}
use Rattle.ct_parse.specs.declared.tree.Statement.{Statement}
use Rattle.ct_resolve.{specs.Statements.resolved, proofs.Growing.{IsNewAmong, resolves_later}}
use Rattle.ct_query.specs.Plain as plain

-- a table that an action creates is new where its change fits
new_where_fits : (h : List PlainCommit) (hs : List Heading) (a : PlainAction) (x : PlainChange) → AgreesWith h [] a x → FitChanges hs (x ∷ []) → IsNewAmong hs a
new_where_fits h hs (plain.Create n cs) (Create n' cs') f fits = subst (λ m. columns_in hs m ≡ None) f.0 fits.0
new_where_fits h hs (plain.Create n cs) _ f fits = absurd f
new_where_fits h hs _ x f fits = tt

module _ (g : List PlainCommit) (base : ℕ) (within : base ≤ length g) (reads : List Read) (unwritten : All (λ r. last g r ≤ base) reads) where
  all_of : take base g ++ drop base g ≡ g
  all_of = take-append-drop base g

  front_length : length (take base g) ≡ base
  front_length = let le = within in simp length-take (omega (arith, le))

  older : (rs : List Read) → All (Contains reads) rs → AreOlder (take base g) (drop base g) rs
  older rs all =
      All-weaker (Contains reads) (λ r. last (take base g ++ drop base g) r ≤ length (take base g))
      (λ r c. subst (λ n. last (take base g ++ drop base g) r ≤ n) (sym front_length) (subst (λ l. last l r ≤ base) (sym all_of) (All-contains (λ q. last g q ≤ base) reads r unwritten c)))
      rs all

  -- what agrees with actions still does
  pub agrees_still : (actions : List PlainAction) (xs : List PlainChange) → All (Contains reads) (reads_of_actions actions) → Agrees (take base g) actions xs → Agrees g actions xs
  agrees_still actions xs all f = subst (λ l. Agrees l actions xs) all_of ((same_for_actions (take base g) (drop base g) actions (older (reads_of_actions actions) all)).agreed xs f)

  -- a statement still resolves to the action whose change fits
  pub resolves_still : (session fresh : ℕ) (st : Statement) (a : PlainAction) (x : PlainChange) → All (Contains reads) (creates (x ∷ [])) → AgreesWith (take base g) [] a x → FitAfter (take base g) (x ∷ [])
      → resolved (schema (take base g) []) session fresh st ≡ Ok (plain.Act a) → resolved (schema g []) session fresh st ≡ Ok (plain.Act a)
  resolves_still session fresh st a x all f fits e =
      subst (λ l. resolved (schema l []) session fresh st ≡ Ok (plain.Act a)) all_of
      (resolves_later (take base g) (drop base g) session fresh st a
      (new_where_fits (take base g) (schema (take base g ++ drop base g) []).tables a x f (fit_later (take base g) (drop base g) (x ∷ []) (older (creates (x ∷ [])) all) fits)) e)
