-- FROM items that are typed are typed together, and their columns are those of the scope.
use Rattle.std.specs.Prelude.{◌≡◌, ℕ, List, [], ◌∷◌, ◌++◌, map, flat_map, Some, option_and_then}
use Rattle.std.specs.List.{AllByRecursion}
use Rattle.std.proofs.Common.{refl, sym, ◌∙◌, ap, append_assoc}
use Rattle.std.proofs.lemmas.List.{append-nil, map-append}
use Rattle.au_value.specs.declared.kinds.Kind.{Kind}
use Rattle.au_value.specs.Order.{data_kind}
use Rattle.au_algebra.specs.Trees.{Tree as Query, Product}
use Rattle.au_algebra.specs.Typing.{kinds_of}
use Rattle.au_blocks.specs.declared.column.Column.{Column}
use Rattle.au_typing.specs.Selects.{Typing, FromItem, fields_of, owned, scope_of, from_joined, from_product}
use Rattle.au_typing.specs.Queries.{data_kinds}
use Rattle.au_typing.proofs.TermKinds.{field_kinds}

-- a query whose tree has the kinds of its columns' values
abbrev pub IsTypedAs : List (List Kind) → Typing → Type 0
IsTypedAs ts t = kinds_of ts t.tree ≡ Some (data_kinds t.columns)

-- each FROM item is typed
abbrev pub FromTyped : List (List Kind) → List FromItem → Type 0
FromTyped ts from = AllByRecursion (λ item. IsTypedAs ts item.typing) from

-- there is a FROM item
abbrev pub HasItem : List FromItem → Type 0
HasItem [] = ⊥
HasItem (item ∷ others) = Unit {0}

-- the kinds of the values of an item's columns
abbrev pub item_kinds : FromItem → List Kind
item_kinds item = data_kinds item.typing.columns

-- more FROM items behind a tree
joined_kinds :
    (ts : List (List Kind)) (q : Query) (ks : List Kind) (from : List FromItem) → kinds_of ts q ≡ Some ks → FromTyped ts from →
    kinds_of ts (from_joined q from) ≡ Some (ks ++ flat_map item_kinds from)
joined_kinds ts q ks [] h p = h ∙ ap Some (sym (append-nil ks))
joined_kinds ts q ks (item ∷ others) h p =
    let t = p.0 in
    joined_kinds ts (Product q item.typing.tree) (ks ++ item_kinds item) others (λ i. option_and_then (λ a. option_and_then (λ b. Some (a ++ b)) (t i)) (h i)) p.1
    ∙ ap Some (append_assoc ks (item_kinds item) (flat_map item_kinds others))

-- the kinds of the values of the columns under an owner
owned_kinds : (owner : List ℕ) (columns : List Column) → map (λ f. data_kind f.kind) (map (owned owner) columns) ≡ data_kinds columns
owned_kinds owner [] = refl
owned_kinds owner (c ∷ columns) = ap (λ ks. data_kind c.kind ∷ ks) (owned_kinds owner columns)

-- the kinds of the scope
scope_kinds : (from : List FromItem) → map (λ f. data_kind f.kind) (flat_map fields_of from) ≡ flat_map item_kinds from
scope_kinds [] = refl
scope_kinds (item ∷ others) =
    map-append (λ f. data_kind f.kind) (fields_of item) (flat_map fields_of others)
    ∙ (let a = owned_kinds item.name item.typing.columns in let b = scope_kinds others in λ i. a i ++ b i)

-- the joined FROM items have the kinds of the scope's columns
pub product_kinds : (ts : List (List Kind)) (from : List FromItem) → HasItem from → FromTyped ts from → kinds_of ts (from_product from) ≡ Some (field_kinds (scope_of from))
product_kinds ts [] some p = absurd some
product_kinds ts (item ∷ others) some p = joined_kinds ts item.typing.tree (item_kinds item) others p.0 p.1 ∙ ap Some (sym (scope_kinds (item ∷ others)))
