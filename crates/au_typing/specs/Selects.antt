-- A SELECT over its FROM items: its scope, its groups, what is wrong with it, and its tree and columns.
-- What depends on a FROM item is judged only where nothing is wrong with the FROM items.
use Rattle.std.specs.Prelude.{ℕ, ◌+◌, ◌||◌, Bool, List, [], ◌∷◌, ◌++◌, length, map, flat_map, Option, Some, None, unwrap_or, is_some, nat_lt, if◌then◌else◌}
use Rattle.std.specs.List.{list_any}
use Rattle.std.specs.Str.{str_eq_ignore_ascii_case}
use Rattle.au_expr.specs.Terms.{Term, Column as column}
use Rattle.au_algebra.specs.Trees.{Tree as Query, Table, Select, Project, Product, Distinct, Group, Total}
use Rattle.au_parse.specs.declared.Name.{Name}
use Rattle.au_parse.specs.Tree.{TermTree, ItemTree}
use Rattle.au_blocks.specs.declared.column.Column.{Column}
use Rattle.au_typing.specs.Scopes.{Scope, fault_if, name_faults, place_of, then_faults}
use Rattle.au_typing.specs.Aggregates.{Written, written, taken_from}
use Rattle.au_typing.specs.Terms.{Setting, Grouping, rows, groups, condition_faults, resolved_expression, argument_of, first_column}
use Rattle.au_typing.specs.Items.{Output, items_faults, items_written, outputs_from, columns_from}
use Rattle.au_typing.specs.declared.scope.Field.{Field}
use Rattle.au_typing.specs.declared.fault.TypingFault.{TypingFault}
use Rattle.au_typing.specs.declared.fault.TypingFault.TheVariants as fault

-- what a query is: all that is wrong with it, its tree, its columns, and whether one of its SELECTs joins
pub record Typing : Type 0 where
  pub faults : List TypingFault
  pub tree : Query
  pub columns : List Column
  pub joins : Bool

-- a FROM item: its place, the name under which it is visible, and what it is
pub record FromItem : Type 0 where
  pub at : ℕ
  pub name : List ℕ
  pub typing : Typing

-- the scope of FROM items
abbrev pub owned : List ℕ → Column → Field
owned owner c = record { owner = owner; name = c.name; kind = c.kind }

abbrev pub fields_of : FromItem → List Field
fields_of item = map (owned item.name) item.typing.columns

abbrev pub scope_of : List FromItem → Scope
scope_of from = record { owners = map (λ item. item.name) from; fields = flat_map fields_of from }

-- FROM items that are visible under the name of an earlier one
abbrev pub alias_faults : List (List ℕ) → List FromItem → List TypingFault
alias_faults before [] = []
alias_faults before (item ∷ others) = fault_if (list_any (λ name. str_eq_ignore_ascii_case name item.name) before) (fault.SameAlias item.at) ++ alias_faults (before ++ item.name ∷ []) others

-- what is wrong with FROM items
abbrev pub from_faults : List FromItem → List TypingFault
from_faults from = flat_map (λ item. item.typing.faults) from ++ alias_faults [] from

-- FROM items joined from the left
abbrev pub from_joined : Query → List FromItem → Query
from_joined q [] = q
from_joined q (item ∷ others) = from_joined (Product q item.typing.tree) others

abbrev pub from_product : List FromItem → Query
from_product [] = Table 0
from_product (item ∷ others) = from_joined item.typing.tree others

abbrev pub is_join : List FromItem → Bool
is_join from = nat_lt 1 (length from) || list_any (λ item. item.typing.joins) from

-- the clauses of a SELECT
pub record Clauses : Type 0 where
  pub distinct : Bool
  pub items : List ItemTree
  pub condition : Option (ℕ × TermTree)
  pub keys : List Name
  pub grouped : Bool
  pub having : Option (ℕ × TermTree)

-- A SELECT is grouped by GROUP BY, HAVING or an aggregate in its items.
abbrev pub is_grouped : Clauses → Bool
is_grouped c = c.grouped || (is_some c.having || nat_lt 0 (length (items_written c.items)))

abbrev pub key_places : Scope → List Name → List ℕ
key_places scope keys = map (λ key. unwrap_or (place_of scope key) 0) keys

abbrev pub setting_of : Scope → Bool → Clauses → Setting
setting_of scope joins c = if is_grouped c then groups (record { keys = key_places scope c.keys; by = c.grouped; joins = joins }) else rows

-- what is wrong with a WHERE or HAVING, if there is one
abbrev pub clause_faults : Scope → Setting → Option (ℕ × TermTree) → List TypingFault
clause_faults scope setting None = []
clause_faults scope setting (Some c) = condition_faults scope setting c.0 c.1

-- what is wrong with the clauses over a scope
abbrev pub clauses_faults : Scope → Setting → Clauses → List TypingFault
clauses_faults scope setting c =
    clause_faults scope rows c.condition ++ flat_map (name_faults scope) c.keys ++ items_faults scope setting c.items ++ clause_faults scope setting c.having

-- a tree under a WHERE or HAVING, if there is one; the number is the column of its first aggregate
abbrev pub selected : Scope → Setting → ℕ → Option (ℕ × TermTree) → Query → Query
selected scope setting n None q = q
selected scope setting n (Some c) q = Select (resolved_expression scope setting n c.1) q

abbrev pub having_written : Option (ℕ × TermTree) → List Written
having_written None = []
having_written (Some c) = written c.1

abbrev pub clauses_written : Clauses → List Written
clauses_written c = items_written c.items ++ having_written c.having

-- the keys and the arguments of the aggregates, and their groups
abbrev pub arguments : Scope → List ℕ → Clauses → List Term
arguments scope keys c = map column keys ++ map (argument_of scope) (clauses_written c)

abbrev pub grouping : Grouping → Clauses → Query → Query
grouping g c q =
    let aggs = taken_from (length g.keys) (clauses_written c) in
    if g.by then Group (length g.keys) aggs q else Total aggs q

-- the tree below the items
abbrev pub body : Scope → Setting → Clauses → Query → Query
body scope rows c q = selected scope rows 0 c.condition q
body scope (groups g) c q =
    selected scope (groups g) (length g.keys + length (items_written c.items)) c.having
    (grouping g c (Project (arguments scope g.keys c) (selected scope rows 0 c.condition q)))

abbrev pub outputs : Scope → Setting → Clauses → List Output
outputs scope setting c = outputs_from scope setting (first_column setting) c.items

abbrev pub distinct_if : Bool → Query → Query
distinct_if distinct q = if distinct then Distinct q else q

abbrev pub select_under : Scope → Setting → Clauses → List FromItem → Typing
select_under scope setting c from = record {
  faults = then_faults (from_faults from) (clauses_faults scope setting c);
  tree = distinct_if c.distinct (Project (map (λ o. o.term) (outputs scope setting c)) (body scope setting c (from_product from)));
  columns = columns_from 1 (outputs scope setting c);
  joins = is_join from;
}

-- a SELECT of these clauses over these FROM items
abbrev pub resolved_select : Clauses → List FromItem → Typing
resolved_select c from = let scope = scope_of from in select_under scope (setting_of scope (is_join from) c) c from
