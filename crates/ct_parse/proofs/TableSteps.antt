-- What the steps of the readers of items and tables show.
use Rattle.std.proofs.Common.{◌≡◌, ◌≤◌, ◌<◌, ℕ, Bool, true, false, List, ◌∷◌, length, Option, Some, None, refl, ap, sym, subst, ◌∙◌, arith}
use Rattle.std.{specs.Prelude.codes, proofs.lemmas.Bool.false≢true}
use Rattle.ct_lex.specs.declared.token.Lexeme.{Lexeme}
use Rattle.ct_parse.{specs.declared.tree.Column.Column, specs.declared.tree.Condition.Condition, specs.declared.tree.Item.Item, specs.declared.tree.Items.Items}
use Rattle.ct_parse.{specs.declared.tree.Alias.Alias, specs.declared.tree.Table.Table, specs.declared.tree.Joined.Joined, specs.declared.tree.Tables.Tables}
use Rattle.ct_parse.specs.Grammar.{IsName, name, IsColumn, plain, qualified, IsCondition, AreMore, HasName, no_name, as_name, IsItem, item, AreItems, star, listed, HasAlias, no_alias, alias, as_alias, IsTable, table, IsTableOn, table_on, IsJoined, comma, join, inner_join, AreJoined, none_joined, more_joined, MORE_TABLES, AreTables, tables}
use Rattle.ct_parse.specs.Ends.{Fails, at_word, at_name, at_joined, EndsAnyhow, EndsColumn, EndsItem, EndsItems, EndsTable, EndsCondition, EndsJoined, EndsTables}
use Rattle.ct_parse.{specs.Reads.{Reads, Never}, proofs.Fronts.{Same, moved, symbol_name, word_name}, proofs.TermSteps.reads_at}
use Rattle.ct_parse.proofs.Listed.{Behind, Cases, ended, split, Lists, Parts, parts, Pairs}
use Rattle.ct_parse.proofs.Combined.{Then, Both, pair_of, Image, image, Renames, Led}
use Rattle.ct_lex.specs.declared.token.Lexeme.TheVariants as lexeme
use Rattle.ct_lex.specs.declared.token.Symbol.TheVariants as symbol
use Rattle.ct_parse.specs.declared.tree.Items.TheVariants as items
use Rattle.ct_parse.specs.declared.tree.Joined.TheVariants as joined

-- [AS name]
back_as : {ws r : List Lexeme} {o : Option (List ℕ)} → HasName (lexeme.Word (codes "as") ∷ ws) o r → EndsItem r → Image IsName (λ n. Some n) ws o r
back_as no_name e = absurd e.0
back_as (as_name x) e = image x

pub naming : Led (lexeme.Word (codes "as")) IsName EndsAnyhow (λ n. Some n) HasName EndsItem
naming = record { into = λ n. as_name n; back = λ o e. back_as o e; ends = λ r e. tt }

no_as_only : {ws r : List Lexeme} {o : Option (List ℕ)} → Fails (at_word (codes "as") ws) → HasName ws o r → Same o None r ws
no_as_only fails no_name = (refl, refl)
no_as_only fails (as_name x) = absurd fails

pub no_as_read : {ws : List Lexeme} → Fails (at_word (codes "as") ws) → Reads HasName EndsItem ws None ws
no_as_read fails = record { is = no_name; only = λ t r e x. no_as_only fails x; within = omega arith }

-- items
before_as : {ws r : List Lexeme} {o : Option (List ℕ)} → HasName ws o r → EndsItem r → EndsColumn ws
before_as no_name e = e.1
before_as (as_name x) e = tt

abbrev pub item_of : Column → Option (List ℕ) → Item
item_of c a = record { column = c; alias = a }

parts_of_item : {ws r : List Lexeme} {i : Item} → IsItem ws i r → Parts IsColumn HasName item_of ws i r
parts_of_item (item c a) = parts c a

pub item_pair : Pairs IsColumn EndsColumn HasName EndsItem item_of IsItem
item_pair = record { both = λ c a. item c a; cases = λ i. parts_of_item i; before = λ a e. before_as a e }

symbol_column : {s : _} {ws r : List Lexeme} {c : Column} → IsColumn (lexeme.Symbol s ∷ ws) c r → ⊥
symbol_column (plain n) = symbol_name n
symbol_column (qualified n m) = symbol_name n

pub symbol_item : {s : _} {ws r : List Lexeme} {i : Item} → IsItem (lexeme.Symbol s ∷ ws) i r → ⊥
symbol_item (item c a) = symbol_column c

star_only : {r r' : List Lexeme} {i : Items} → AreItems (lexeme.Symbol symbol.Star ∷ r) i r' → Same i items.Star r' r
star_only star = (refl, refl)
star_only (listed i l) = absurd (symbol_item i)

pub star_read : {ws r : List Lexeme} → ws ≡ lexeme.Symbol symbol.Star ∷ r → Reads AreItems EndsItems ws items.Star r
star_read f = reads_at f (record { is = star; only = λ t r e x. star_only x; within = omega arith })

abbrev pub listed_of : Item × List Item → Items
listed_of p = items.Listed p.0 p.1

into_listed : {ws r : List Lexeme} {p : Item × List Item} → Both IsItem (AreMore IsItem) ws p r → AreItems ws (listed_of p) r
into_listed (parts i l) = listed i l

back_listed : {ws r : List Lexeme} {i : Items} → ((x : List Lexeme) → ws ≡ lexeme.Symbol symbol.Star ∷ x → ⊥) → AreItems ws i r → Image (Both IsItem (AreMore IsItem)) listed_of ws i r
back_listed no_star star = absurd (no_star _ refl)
back_listed no_star (listed i l) = image (parts i l)

pub listed_is : {ws : List Lexeme} → ((x : List Lexeme) → ws ≡ lexeme.Symbol symbol.Star ∷ x → ⊥) → Renames (Both IsItem (AreMore IsItem)) listed_of AreItems ws
listed_is no_star = record { into = λ b. into_listed b; back = λ i. back_listed no_star i }

-- [[AS] name]
abbrev pub alias_of : Bool → List ℕ → Option Alias
alias_of b n = Some (record { has_as = b; name = n })

back_as_alias : {ws r : List Lexeme} {o : Option Alias} → HasAlias (lexeme.Word (codes "as") ∷ ws) o r → EndsTable r → Image IsName (alias_of true) ws o r
back_as_alias no_alias e = absurd e.1
back_as_alias (alias x) e = absurd (false≢true (word_name x))
back_as_alias (as_alias x) e = image x

pub aliasing : Led (lexeme.Word (codes "as")) IsName EndsAnyhow (alias_of true) HasAlias EndsTable
aliasing = record { into = λ n. as_alias n; back = λ o e. back_as_alias o e; ends = λ r e. tt }

pub alias_stands : {ws r : List Lexeme} {n : List ℕ} → IsName ws n r → Fails (at_name ws) → ⊥
alias_stands (name p) fails = subst Fails p fails

alias_only : {ws r r' : List Lexeme} {n : List ℕ} {o : Option Alias} → Reads IsName EndsAnyhow ws n r → EndsTable r' → HasAlias ws o r' → Same o (alias_of false n) r' r
alias_only h e no_alias = absurd (alias_stands h.is e.0)
alias_only h e (alias x) = let s = h.only _ _ tt x in (ap (alias_of false) s.0, s.1)
alias_only h e (as_alias x) = absurd (false≢true (word_name h.is))

pub alias_read : {ws r : List Lexeme} {n : List ℕ} → Reads IsName EndsAnyhow ws n r → Reads HasAlias EndsTable ws (alias_of false n) r
alias_read h = record { is = alias h.is; only = λ t r' e x. alias_only h e x; within = h.within }

no_alias_only : {ws r : List Lexeme} {o : Option Alias} → Fails (at_word (codes "as") ws) → Never IsName EndsAnyhow ws → HasAlias ws o r → Same o None r ws
no_alias_only fails never no_alias = (refl, refl)
no_alias_only fails never (alias x) = absurd (never _ _ tt x)
no_alias_only fails never (as_alias x) = absurd fails

pub no_alias_read : {ws : List Lexeme} → Fails (at_word (codes "as") ws) → Never IsName EndsAnyhow ws → Reads HasAlias EndsTable ws None ws
no_alias_read fails never = record { is = no_alias; only = λ t r e x. no_alias_only fails never x; within = omega arith }

-- tables
abbrev pub table_of : List ℕ → Option Alias → Table
table_of n a = record { name = n; alias = a }

parts_of_table : {ws r : List Lexeme} {t : Table} → IsTable ws t r → Parts IsName HasAlias table_of ws t r
parts_of_table (table n a) = parts n a

pub table_pair : Pairs IsName EndsAnyhow HasAlias EndsTable table_of IsTable
table_pair = record { both = λ n a. table n a; cases = λ t. parts_of_table t; before = λ a e. tt }

-- table ON cond
abbrev pub ON : Lexeme
ON = lexeme.Word (codes "on")

pub on_pair : Pairs (Then IsTable ON) EndsAnyhow IsCondition EndsCondition (λ x y. (x, y)) (Both (Then IsTable ON) IsCondition)
on_pair = pair_of (Then IsTable ON) EndsAnyhow IsCondition EndsCondition (λ ws r y c e. tt)

into_on : {ws r : List Lexeme} {p : Table × Condition} → Both (Then IsTable ON) IsCondition ws p r → IsTableOn ws p r
into_on (parts t c) = table_on t c

back_on : {ws r : List Lexeme} {p : Table × Condition} → IsTableOn ws p r → Image (Both (Then IsTable ON) IsCondition) (λ p. p) ws p r
back_on (table_on t c) = image (parts t c)

pub on_is : (ws : List Lexeme) → Renames (Both (Then IsTable ON) IsCondition) (λ p. p) IsTableOn ws
on_is ws = record { into = λ b. into_on b; back = λ t. back_on t }

pub ends_at_on : (r : List Lexeme) → EndsTable (ON ∷ r)
ends_at_on r = (tt, tt)

-- "," table | [INNER] JOIN table ON cond
back_comma : {ws r : List Lexeme} {j : Joined} → IsJoined (lexeme.Symbol symbol.Comma ∷ ws) j r → Image IsTable joined.Comma ws j r
back_comma (comma x) = image x

pub comma_led : Led (lexeme.Symbol symbol.Comma) IsTable EndsTable joined.Comma IsJoined EndsJoined
comma_led = record { into = λ t. comma t; back = λ j e. back_comma j; ends = λ r e. e.0 }

abbrev pub join_of : Bool → Table × Condition → Joined
join_of b p = joined.Join b p.0 p.1

abbrev JOIN : Lexeme
JOIN = lexeme.Word (codes "join")

back_join : {ws r : List Lexeme} {j : Joined} → IsJoined (JOIN ∷ ws) j r → Image IsTableOn (join_of false) ws j r
back_join (join x) = image x

pub join_led : Led JOIN IsTableOn EndsCondition (join_of false) IsJoined EndsJoined
join_led = record { into = λ p. join p; back = λ j e. back_join j; ends = λ r e. e.1 }

back_inner : {ws r : List Lexeme} {j : Joined} → IsJoined (lexeme.Word (codes "inner") ∷ ws) j r → Image (Behind JOIN IsTableOn) (join_of true) ws j r
back_inner (inner_join x) = image (_, refl, x)

pub inner_led : Led (lexeme.Word (codes "inner")) (Behind JOIN IsTableOn) EndsCondition (join_of true) IsJoined EndsJoined
inner_led = record { into = λ b. moved IsJoined (ap (λ m. lexeme.Word (codes "inner") ∷ m) (sym b.1)) (inner_join b.2); back = λ j e. back_inner j; ends = λ r e. e.1 }

-- the tables behind the first
before_more : {ws r : List Lexeme} {js : List Joined} → AreJoined ws js r → EndsTables r → EndsJoined ws
before_more none_joined e = e.1
before_more (more_joined x l) e = at x
  where
    at : {ws r : List Lexeme} {j : Joined} → IsJoined ws j r → EndsJoined ws
    at (comma x) = ((tt, tt), (tt, (tt, tt)))
    at (join x) = ((tt, tt), (tt, (tt, tt)))
    at (inner_join x) = ((tt, tt), (tt, (tt, tt)))

pub stands_joined : {ws r : List Lexeme} {j : Joined} → IsJoined ws j r → Fails (at_joined ws) → ⊥
stands_joined (comma x) fails = fails
stands_joined (join x) fails = fails
stands_joined (inner_join x) fails = fails

cases_of_joined : {ws r : List Lexeme} {js : List Joined} → AreJoined ws js r → Cases IsJoined AreJoined ws js r
cases_of_joined none_joined = ended
cases_of_joined (more_joined x l) = split x l

pub joined_list : Lists IsJoined EndsJoined EndsTables AreJoined
joined_list = record { none = none_joined; more = λ x l. more_joined x l; cases = λ l. cases_of_joined l; before = λ l e. before_more l e; apart = λ x e. stands_joined x e.0 }

-- at most 16 tables
tables_only : {ws m r r' : List Lexeme} {t : Table} {js : List Joined} {u : Tables} → Reads IsTable EndsTable ws t m → Reads AreJoined EndsTables m js r → EndsTables r' → AreTables ws u r'
    → (rest : List Joined) × Same u (record { first = t; rest = rest }) r' r × (rest ≡ js) × (length rest ≤ MORE_TABLES)
tables_only h i e (tables {js = rest} t l few) =
    let s = h.only _ _ (before_more l e).0 t in
    let k = i.only _ _ e (moved AreJoined s.1 l) in
    (rest, (ap (λ t. record { first = t; rest = rest }) s.0, k.1), k.0, few)

pub tables_read : {ws m r : List Lexeme} {t : Table} {js : List Joined} → Reads IsTable EndsTable ws t m → Reads AreJoined EndsTables m js r → length js ≤ MORE_TABLES
    → Reads AreTables EndsTables ws (record { first = t; rest = js }) r
tables_read {t = t} h i few = record {
  is = tables h.is i.is few;
  only = λ u r' e x. let o = tables_only h i e x in (o.1.0 ∙ ap (λ rest. record { first = t; rest = rest }) o.2, o.1.1);
  within = omega (arith, h.within, i.within);
}

pub too_many : {ws m r : List Lexeme} {t : Table} {js : List Joined} → Reads IsTable EndsTable ws t m → Reads AreJoined EndsTables m js r → MORE_TABLES < length js → Never AreTables EndsTables ws
too_many h i many = λ u r' e x. let o = tables_only h i e x in omega (arith, many, o.3, ap length o.2)

pub no_first_table : {ws : List Lexeme} → Never IsTable EndsTable ws → Never AreTables EndsTables ws
no_first_table never u r e (tables t l few) = never _ _ (before_more l e).0 t

pub no_more_tables : {ws m : List Lexeme} {t : Table} → Reads IsTable EndsTable ws t m → Never AreJoined EndsTables m → Never AreTables EndsTables ws
no_more_tables h never u r e (tables t l few) = never _ _ e (moved AreJoined (h.only _ _ (before_more l e).0 t).1 l)
