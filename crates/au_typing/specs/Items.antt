-- The items of a SELECT: the output columns that each gives, with their expressions, names and kinds.
-- A column without an alias has the name of the column that it is, or else `colK`, where K is its place from 1.
use Rattle.std.specs.Prelude.{ℕ, ◌+◌, List, [], ◌∷◌, ◌++◌, length, map, flat_map, Option, Some, None, option_map, unwrap_or, codes, decimal, if◌then◌else◌}
use Rattle.std.specs.List.{enumerate_from}
use Rattle.au_value.specs.declared.kinds.Kind.{Kind}
use Rattle.au_value.specs.declared.kinds.Kind.TheVariants.{Int}
use Rattle.au_expr.specs.Terms.{Term}
use Rattle.au_parse.specs.Tree.{TermTree, ItemTree}
use Rattle.au_blocks.specs.declared.column.Column.{Column}
use Rattle.au_typing.specs.Scopes.{Scope, is_owner, knows_owner, field_of}
use Rattle.au_typing.specs.Terms.{Setting, term_kind, term_faults, place_faults, resolved_expression, column_term}
use Rattle.au_typing.specs.Aggregates.{Written, written}
use Rattle.au_typing.specs.declared.scope.Field.{Field}
use Rattle.au_typing.specs.declared.fault.TypingFault.{TypingFault}
use Rattle.au_typing.specs.declared.fault.TypingFault.TheVariants as fault

-- an output column: its expression, the name that it brings, and its kind where that is known
pub record Output : Type 0 where
  pub term : Term
  pub name : Option (List ℕ)
  pub kind : Option Kind

-- the columns that a star means, with or without a qualifier, each with its place
abbrev pub if_owned : Option (List ℕ) → ℕ × Field → List (ℕ × Field)
if_owned qualifier f = if is_owner qualifier f.1.owner then f ∷ [] else []

abbrev pub starred : Scope → Option (List ℕ) → List (ℕ × Field)
starred scope qualifier = flat_map (if_owned qualifier) (enumerate_from 0 scope.fields)

abbrev pub star_output : Setting → ℕ × Field → Output
star_output setting f = record { term = column_term setting (Some f.0); name = Some f.1.name; kind = Some f.1.kind }

-- the name of a term: the name of a column as its item has it
abbrev pub own_name : Scope → TermTree → Option (List ℕ)
own_name scope (TermTree.column name) = option_map (λ f. f.name) (field_of scope name)
own_name scope _ = None

abbrev pub value_name : Scope → TermTree → Option (List ℕ) → Option (List ℕ)
value_name scope e None = own_name scope e
value_name scope e (Some alias) = Some alias

-- the aggregates that are written in items
abbrev pub item_written : ItemTree → List Written
item_written (ItemTree.value e alias) = written e
item_written _ = []

abbrev pub items_written : List ItemTree → List Written
items_written items = flat_map item_written items

-- The output columns of an item. The number is the column of its first aggregate.
abbrev pub item_outputs : Scope → Setting → ℕ → ItemTree → List Output
item_outputs scope setting n (ItemTree.star at) = map (star_output setting) (starred scope None)
item_outputs scope setting n (ItemTree.star_of at qualifier) = map (star_output setting) (starred scope (Some qualifier))
item_outputs scope setting n (ItemTree.value e alias) = record { term = resolved_expression scope setting n e; name = value_name scope e alias; kind = term_kind scope e } ∷ []

abbrev pub outputs_from : Scope → Setting → ℕ → List ItemTree → List Output
outputs_from scope setting n [] = []
outputs_from scope setting n (item ∷ items) = item_outputs scope setting n item ++ outputs_from scope setting (n + length (item_written item)) items

-- what is wrong with an item
abbrev pub star_faults : Scope → Setting → ℕ → Option (List ℕ) → List TypingFault
star_faults scope setting at qualifier = flat_map (λ f. place_faults setting at (Some f.0)) (starred scope qualifier)

abbrev pub item_faults : Scope → Setting → ItemTree → List TypingFault
item_faults scope setting (ItemTree.star at) = star_faults scope setting at None
item_faults scope setting (ItemTree.star_of at qualifier) =
    (if knows_owner scope (Some qualifier) then [] else fault.UnknownTable at ∷ []) ++ star_faults scope setting at (Some qualifier)
item_faults scope setting (ItemTree.value e alias) = term_faults scope setting 0 e

abbrev pub items_faults : Scope → Setting → List ItemTree → List TypingFault
items_faults scope setting items = flat_map (item_faults scope setting) items

-- The columns that outputs are, the first at this place from 1. A kind that is not known is of no use, and Int here.
abbrev pub column_at : ℕ → Output → Column
column_at k output = record { name = unwrap_or output.name (codes "col" ++ decimal k); kind = unwrap_or output.kind Int }

abbrev pub columns_from : ℕ → List Output → List Column
columns_from k [] = []
columns_from k (output ∷ outputs) = column_at k output ∷ columns_from (k + 1) outputs
