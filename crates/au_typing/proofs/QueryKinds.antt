-- A statement in which nothing is wrong has a tree that is typed, with the kinds of its columns.
use Rattle.std.specs.Prelude.{◌≡◌, ℕ, ◌==◌, not, Bool, true, false, List, [], ◌∷◌, length, map, flat_map, Option, Some, None, option_and_then, option_map, if◌then◌else◌}
use Rattle.std.specs.Str.{str_eq_ignore_ascii_case}
use Rattle.std.proofs.Common.{refl, sym, ◌∙◌, ap}
use Rattle.std.proofs.lemmas.Bool.{not-false}
use Rattle.std.proofs.lemmas.Option.{slice_get-map}
use Rattle.std.proofs.lemmas.Simd.{map-map}
use Rattle.au_value.specs.declared.kinds.Kind.{Kind}
use Rattle.au_value.specs.Order.{data_kind}
use Rattle.au_algebra.specs.Trees.{Tree as Query}
use Rattle.au_algebra.specs.Typing.{kinds_of, kinds_if, same_kinds}
use Rattle.au_parse.specs.Tree.{QueryTree, Sources, SetWord}
use Rattle.au_parse.specs.Whole.{HasSource, WholeQuery, WholeSources}
use Rattle.au_blocks.specs.declared.column.Column.{Column}
use Rattle.au_typing.specs.Scopes.{fault_if, then_faults}
use Rattle.au_typing.specs.Selects.{Typing, FromItem, alias_faults, clauses_faults, from_faults, distinct_if, setting_of, scope_of, is_join, Clauses}
use Rattle.au_typing.specs.Queries.{Relation, IsWellTyped, resolved_tree, resolved_kinds, table_place, table_typing, table_kinds, columns_if, data_kinds, kinds_fit, set_columns, side_tree, sides_faults, set_typing, typing, from_items}
use Rattle.au_typing.specs.Laws.{TreeIsTyped}
use Rattle.au_typing.specs.declared.fault.TypingFault.{TypingFault}
use Rattle.au_typing.specs.declared.fault.TypingFault.TheVariants as fault
use Rattle.au_typing.proofs.Faults.{none_of, no_fault, then_none}
use Rattle.au_typing.proofs.Found.{found}
use Rattle.au_typing.proofs.FromKinds.{IsTypedAs, FromTyped, HasItem}
use Rattle.au_typing.proofs.SelectKinds.{select_kinds}
use Rattle.au_typing.proofs.SetColumns.{same_itself, set_data, side_kinds}

-- a table that was found has its columns' kinds
table_typed :
    (tables : List Relation) (at : ℕ) (word : List ℕ) (o : Option ℕ) → table_place tables word ≡ o → (table_typing tables at o).faults ≡ [] →
    IsTypedAs (table_kinds tables) (table_typing tables at o)
table_typed tables at word None e h = cc
table_typed tables at word (Some i) e h =
    let f = found (λ table. str_eq_ignore_ascii_case table.name word) tables i e in
    slice_get-map (λ table. data_kinds table.columns) tables i
    ∙ ap (option_map (λ table. data_kinds table.columns)) f.there
    ∙ ap (λ o. Some (data_kinds (columns_if o))) (sym f.there)

-- a query of which each row is taken once
once_kinds : (ts : List (List Kind)) (distinct : Bool) (q : Query) → kinds_of ts (distinct_if distinct q) ≡ kinds_of ts q
once_kinds ts true q = refl
once_kinds ts false q = refl

-- sides of a set without a fault fit
sides_fit : (widths : Bool) (left right : List Column) (f g : TypingFault) → (if widths then fault_if (not (kinds_fit left right)) f else g ∷ []) ≡ [] → kinds_fit left right ≡ true
sides_fit true left right f g h = not-false _ (no_fault _ f h)
sides_fit false left right f g h = cc

same_columns : (at : ℕ) (left right : List Column) → sides_faults at left right ≡ [] → kinds_fit left right ≡ true
same_columns at left right h = sides_fit (length left == length right) left right (fault.KindMismatch at) (fault.WidthMismatch at) h

-- two trees of the same kinds
both_kinds : (l r : Option (List Kind)) (ks : List Kind) → l ≡ Some ks → r ≡ Some ks → option_and_then (λ ms. option_and_then (λ js. kinds_if (same_kinds ms js) ms) r) l ≡ Some ks
both_kinds l r ks p q = rw (p, q, same_itself ks) refl

-- both sides are typed, and brought to the same kinds
set_typed :
    (ts : List (List Kind)) (word : SetWord) (all : Bool) (at : ℕ) (left right : Typing) → sides_faults at left.columns right.columns ≡ [] →
    IsTypedAs ts left → IsTypedAs ts right → IsTypedAs ts (set_typing word all at left right)
set_typed ts SetWord.union all at left right h l r =
    let columns = set_columns left.columns right.columns in
    let same = set_data left.columns right.columns (same_columns at left.columns right.columns h) in
    let a = side_kinds ts columns left.columns left.tree same.0 l in
    let b = side_kinds ts columns right.columns right.tree same.1 r in
    once_kinds ts (not all) _ ∙ both_kinds _ _ (data_kinds columns) a b
set_typed ts SetWord.except all at left right h l r =
    let columns = set_columns left.columns right.columns in
    let same = set_data left.columns right.columns (same_columns at left.columns right.columns h) in
    let a = once_kinds ts (not all) (side_tree columns left.columns left.tree) ∙ side_kinds ts columns left.columns left.tree same.0 l in
    let b = side_kinds ts columns right.columns right.tree same.1 r in
    both_kinds _ _ (data_kinds columns) a b

-- a SELECT with a source has a FROM item
has_item : (tables : List Relation) (sources : Sources) → HasSource sources → HasItem (from_items tables sources)
has_item tables Sources.no_sources h = absurd h
has_item tables (Sources.table at word alias others) h = tt
has_item tables (Sources.inner at query alias others) h = tt

-- no FROM item has a fault
items_fine :
    (c : Clauses) (from : List FromItem) →
    then_faults (from_faults from) (clauses_faults (scope_of from) (setting_of (scope_of from) (is_join from) c) c) ≡ [] →
    flat_map (λ item. item.typing.faults) from ≡ []
items_fine c from h =
    let f = then_none (from_faults from) (clauses_faults (scope_of from) (setting_of (scope_of from) (is_join from) c) c) h in
    (none_of (flat_map (λ item. item.typing.faults) from) (alias_faults [] from) f.0).0

module _ (tables : List Relation) where
  mutual
    -- A query without a fault is typed with its columns' kinds.
    query_typed : (q : QueryTree) → WholeQuery q → (typing tables q).faults ≡ [] → IsTypedAs (table_kinds tables) (typing tables q)
    query_typed (QueryTree.select at distinct items sources condition keys grouped having) w h =
        let c : Clauses = record { distinct = distinct; items = items; condition = condition; keys = keys; grouped = grouped; having = having } in
        select_kinds (table_kinds tables) c (from_items tables sources) (has_item tables sources w.1)
        (sources_typed sources w.2 (items_fine c (from_items tables sources) h)) w.4 h
    query_typed (QueryTree.set word all at left right) w h =
        let p = then_none (typing tables left).faults (then_faults (typing tables right).faults (sides_faults at (typing tables left).columns (typing tables right).columns)) h in
        let q = then_none (typing tables right).faults (sides_faults at (typing tables left).columns (typing tables right).columns) p.1 in
        set_typed (table_kinds tables) word all at (typing tables left) (typing tables right) q.1 (query_typed left w.0 p.0) (query_typed right w.1 q.0)

    -- And so is each FROM item.
    sources_typed :
        (sources : Sources) → WholeSources sources → flat_map (λ item. item.typing.faults) (from_items tables sources) ≡ [] →
        FromTyped (table_kinds tables) (from_items tables sources)
    sources_typed Sources.no_sources w h = tt
    sources_typed (Sources.table at word alias others) w h =
        let p = none_of (table_typing tables at (table_place tables word)).faults (flat_map (λ item. item.typing.faults) (from_items tables others)) h in
        (table_typed tables at word (table_place tables word) refl p.0, sources_typed others w p.1)
    sources_typed (Sources.inner at query alias others) w h =
        let p = none_of (typing tables query).faults (flat_map (λ item. item.typing.faults) (from_items tables others)) h in
        (query_typed query w.0 p.0, sources_typed others w.1 p.1)

-- The tree of a statement without a fault has exactly the kinds that are named.
pub tree_is_typed : TreeIsTyped
tree_is_typed tables statement w h = query_typed tables statement w h ∙ ap Some (sym (map-map data_kind (λ c. c.kind) (typing tables statement).columns))

-- the same of a tree and kinds that are those of the statement
pub answer_is_typed :
    (tables : List Relation) (statement : QueryTree) (q : Query) (ks : List Kind) → WholeQuery statement → IsWellTyped tables statement →
    q ≡ resolved_tree tables statement → ks ≡ resolved_kinds tables statement → kinds_of (table_kinds tables) q ≡ Some (map data_kind ks)
answer_is_typed tables statement q ks w h e f = ap (kinds_of (table_kinds tables)) e ∙ tree_is_typed tables statement w h ∙ ap (λ js. Some (map data_kind js)) (sym f)
