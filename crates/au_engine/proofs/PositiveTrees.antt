-- The tree of a statement that is positive has tables and the four positive operators alone.
use Rattle.std.specs.Prelude.{◌≡◌, ℕ, ◌||◌, Bool, not, true, false, List, [], ◌∷◌, ◌++◌, Option, Some, None, is_some, if◌then◌else◌}
use Rattle.std.specs.List.{list_any, AllByRecursion}
use Rattle.std.proofs.Common.{refl}
use Rattle.std.proofs.lemmas.Bool.{and_from, or_parts, true≢false}
use Rattle.au_algebra.specs.Positive.{is_positive}
use Rattle.au_algebra.specs.Trees.{Tree as Query, Product, Project}
use Rattle.au_blocks.specs.declared.column.Column.{Column}
use Rattle.au_parse.specs.Tree.{TermTree, ItemTree, QueryTree, SetWord, Sources}
use Rattle.au_typing.specs.Aggregates.{written}
use Rattle.au_typing.specs.Items.{items_written, item_written}
use Rattle.au_typing.specs.Queries.{Relation, brought_from, from_items, is_narrower, set_columns, side_tree, table_place, table_typing, resolved_tree, typing, set_tree}
use Rattle.au_typing.specs.Scopes.{Scope}
use Rattle.au_typing.specs.Selects.{Clauses, FromItem, distinct_if, is_grouped, is_join, from_joined, from_product, scope_of, resolved_select, select_under, selected, setting_of}
use Rattle.au_typing.specs.Terms.{Setting, rows, groups}
use Rattle.au_ua.specs.NotPositive.{clause_has_aggregate, earlier_place, gathers, has_aggregate, item_has_aggregate, least_place, not_positive, place_if, places, source_places}

-- ---- no place is least where there is none

some_first : (x : ℕ) (o : Option ℕ) → earlier_place (Some x) o ≡ None → ⊥
some_first x None e = cc
some_first x (Some n) e = cc

no_place : (xs : List ℕ) → least_place xs ≡ None → xs ≡ []
no_place [] e = refl
no_place (x ∷ xs) e = absurd (some_first x (least_place xs) e)

-- both of two lists are empty
no_places : (xs ys : List ℕ) → xs ++ ys ≡ [] → (xs ≡ []) × (ys ≡ [])
no_places [] ys e = (refl, e)
no_places (x ∷ xs) ys e = cc

not_there : (b : Bool) (at : ℕ) → place_if b at ≡ [] → b ≡ false
not_there false at e = refl
not_there true at e = cc

-- ---- terms without aggregates

both_written : {A : Type 0} (xs ys : List A) → xs ≡ [] → ys ≡ [] → xs ++ ys ≡ []
both_written xs ys e f = rw (e, f) refl

none_written : (e : TermTree) → has_aggregate e ≡ false → written e ≡ []
none_written (TermTree.column name) h = refl
none_written (TermTree.number at n) h = refl
none_written (TermTree.decimal at n digits) h = refl
none_written (TermTree.text at t) h = refl
none_written (TermTree.flag at b) h = refl
none_written (TermTree.binary at o left right) h =
    let parts = or_parts (has_aggregate left) (has_aggregate right) h in
    both_written (written left) (written right) (none_written left parts.0) (none_written right parts.1)
none_written (TermTree.negate at e) h = none_written e h
none_written (TermTree.not at e) h = none_written e h
none_written (TermTree.case at e) h = none_written e h
none_written (TermTree.when condition value rest) h =
    let first = or_parts (has_aggregate condition) (has_aggregate value || has_aggregate rest) h in
    let others = or_parts (has_aggregate value) (has_aggregate rest) first.1 in
    both_written (written condition ++ written value) (written rest)
    (both_written (written condition) (written value) (none_written condition first.0) (none_written value others.0)) (none_written rest others.1)
none_written (TermTree.count_rows at) h = absurd (true≢false h)
none_written (TermTree.aggregate at word e) h = absurd (true≢false h)

no_item : (item : ItemTree) → item_has_aggregate item ≡ false → item_written item ≡ []
no_item (ItemTree.star at) h = refl
no_item (ItemTree.star_of at qualifier) h = refl
no_item (ItemTree.value e alias) h = none_written e h

no_items : (items : List ItemTree) → list_any item_has_aggregate items ≡ false → items_written items ≡ []
no_items [] h = refl
no_items (item ∷ items) h =
    let parts = or_parts (item_has_aggregate item) (list_any item_has_aggregate items) h in
    both_written (item_written item) (items_written items) (no_item item parts.0) (no_items items parts.1)

-- ---- a SELECT

-- a SELECT that is positive is not grouped, and takes each row as often as it stands
record IsPlain (c : Clauses) : Type 0 where
  distinct : c.distinct ≡ false
  grouped : is_grouped c ≡ false

four_parts : (a b c d e : Bool) → (a || b || c || d || e) ≡ false → (a ≡ false) × (b ≡ false) × (c ≡ false) × (d ≡ false)
four_parts false false false false e h = (refl, refl, refl, refl)
four_parts true b c d e h = absurd (true≢false h)
four_parts false true c d e h = absurd (true≢false h)
four_parts false false true d e h = absurd (true≢false h)
four_parts false false false true e h = absurd (true≢false h)

is_plain : (c : Clauses) → gathers c.distinct c.items c.condition c.grouped c.having ≡ false → IsPlain c
is_plain c h =
    let parts = four_parts c.distinct c.grouped (is_some c.having) (list_any item_has_aggregate c.items) (clause_has_aggregate c.condition) h in
    record { distinct = parts.0; grouped = rw (parts.1, parts.2, no_items c.items parts.3) refl }

abbrev Positive : Query → Type 0
Positive q = is_positive q ≡ true

selected_positive : (scope : Scope) (setting : Setting) (n : ℕ) (clause : Option (ℕ × TermTree)) (q : Query) → Positive q → Positive (selected scope setting n clause q)
selected_positive scope setting n None q h = h
selected_positive scope setting n (Some c) q h = h

abbrev Froms : List FromItem → Type 0
Froms from = AllByRecursion (λ item. Positive item.typing.tree) from

joined_positive : (q : Query) (from : List FromItem) → Positive q → Froms from → Positive (from_joined q from)
joined_positive q [] h all = h
joined_positive q (item ∷ others) h all = joined_positive (Product q item.typing.tree) others (and_from (is_positive q) (is_positive item.typing.tree) h all.0) all.1

product_positive : (from : List FromItem) → Froms from → Positive (from_product from)
product_positive [] all = refl
product_positive (item ∷ others) all = joined_positive item.typing.tree others all.0 all.1

once_positive : (distinct : Bool) (q : Query) → distinct ≡ false → Positive q → Positive (distinct_if distinct q)
once_positive false q e h = h
once_positive true q e h = cc

rows_positive : (scope : Scope) (setting : Setting) (c : Clauses) (from : List FromItem) → setting ≡ rows → c.distinct ≡ false → Froms from → Positive (select_under scope setting c from).tree
rows_positive scope rows c from e once all = once_positive c.distinct _ once (selected_positive scope rows 0 c.condition (from_product from) (product_positive from all))
rows_positive scope (groups g) c from e once all = cc

ungrouped : (scope : Scope) (joins : Bool) (c : Clauses) → is_grouped c ≡ false → setting_of scope joins c ≡ rows
ungrouped scope joins c e = rw e refl

select_positive : (c : Clauses) (from : List FromItem) → IsPlain c → Froms from → Positive (resolved_select c from).tree
select_positive c from plain all =
    rows_positive (scope_of from) (setting_of (scope_of from) (is_join from) c) c from (ungrouped (scope_of from) (is_join from) c plain.grouped) plain.distinct all

-- ---- a set word

side_positive : (columns own : List Column) (q : Query) → Positive q → Positive (side_tree columns own q)
side_positive columns own q h = by_test (is_narrower own columns)
  where
    by_test : (b : Bool) → Positive (if b then Project (brought_from 0 own columns) q else q)
    by_test true = h
    by_test false = h

union_positive : (all : Bool) (at : ℕ) (left right : Query) → place_if (not all) at ≡ [] → Positive left → Positive right → Positive (set_tree SetWord.union all left right)
union_positive true at left right e l r = and_from (is_positive left) (is_positive right) l r
union_positive false at left right e l r = cc

table_positive : (tables : List Relation) (at : ℕ) (found : Option ℕ) → Positive (table_typing tables at found).tree
table_positive tables at None = refl
table_positive tables at (Some i) = refl

module _ (tables : List Relation) where
  mutual
    typing_positive : (s : QueryTree) → places s ≡ [] → Positive (typing tables s).tree
    typing_positive (QueryTree.select at distinct items sources condition keys grouped having) e =
        let parts = no_places (place_if (gathers distinct items condition grouped having) at) (source_places sources) e in
        let c : Clauses = record { distinct = distinct; items = items; condition = condition; keys = keys; grouped = grouped; having = having } in
        select_positive c (from_items tables sources) (is_plain c (not_there _ at parts.0)) (items_positive sources parts.1)
    typing_positive (QueryTree.set SetWord.union all at left right) e =
        let parts = no_places (place_if (not all) at) (places left ++ places right) e in
        let sides = no_places (places left) (places right) parts.1 in
        let l = typing tables left in
        let r = typing tables right in
        let columns = set_columns l.columns r.columns in
        union_positive all at (side_tree columns l.columns l.tree) (side_tree columns r.columns r.tree) parts.0
        (side_positive columns l.columns l.tree (typing_positive left sides.0)) (side_positive columns r.columns r.tree (typing_positive right sides.1))
    typing_positive (QueryTree.set SetWord.except all at left right) e = cc

    items_positive : (sources : Sources) → source_places sources ≡ [] → Froms (from_items tables sources)
    items_positive Sources.no_sources e = tt
    items_positive (Sources.table at word alias others) e = (table_positive tables at (table_place tables word), items_positive others e)
    items_positive (Sources.inner at query alias others) e =
        let parts = no_places (places query) (source_places others) e in
        (typing_positive query parts.0, items_positive others parts.1)

-- the tree of a statement that is positive
pub positive_tree : (tables : List Relation) (s : QueryTree) → not_positive s ≡ None → is_positive (resolved_tree tables s) ≡ true
positive_tree tables s e = typing_positive tables s (no_place (places s) e)
