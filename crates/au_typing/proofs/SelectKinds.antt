-- A SELECT in which nothing is wrong has a tree that is typed, with the kinds of its columns.
use Rattle.std.specs.Prelude.{◌≡◌, ℕ, ◌+◌, Bool, true, false, List, [], ◌∷◌, ◌++◌, length, map, flat_map, Option, Some, None, option_and_then, is_some, if◌then◌else◌}
use Rattle.std.specs.List.{AllByRecursion}
use Rattle.std.proofs.Common.{refl, sym, ◌∙◌, ap, subst}
use Rattle.std.proofs.lemmas.Bool.{true≢false, and_from}
use Rattle.au_value.specs.declared.kinds.Kind.{Kind}
use Rattle.au_value.specs.declared.kinds.Kind.TheVariants.{Flag}
use Rattle.au_expr.specs.Kinds.{kind_in, is_kind, kind_if}
use Rattle.au_algebra.specs.Trees.{Tree as Query, Project}
use Rattle.au_algebra.specs.Typing.{kinds_of, items_kinds, kinds_if}
use Rattle.au_parse.specs.declared.Name.{Name}
use Rattle.au_parse.specs.Tree.{TermTree, ItemTree}
use Rattle.au_parse.specs.Whole.{has_keys}
use Rattle.au_typing.specs.Scopes.{Scope, name_faults}
use Rattle.au_typing.specs.Terms.{Setting, Grouping, rows, groups, term_kind, term_faults, resolved_expression}
use Rattle.au_typing.specs.Items.{item_written, items_written, item_faults, items_faults, outputs_from, columns_from}
use Rattle.au_typing.specs.Selects.{Clauses, FromItem, clause_faults, clauses_faults, from_faults, selected, having_written, clauses_written, arguments, grouping, body, outputs, distinct_if, setting_of, is_grouped, is_join, key_places, scope_of, resolved_select, from_product}
use Rattle.au_typing.specs.Queries.{data_kinds}
use Rattle.au_typing.proofs.Faults.{none_of, fitting, then_none}
use Rattle.au_typing.proofs.Found.{all_both, known, StandsAt, stands_parts, stands_behind}
use Rattle.au_typing.proofs.Rescaled.{flag_data}
use Rattle.au_typing.proofs.TermKinds.{Fits, field_kinds, rows_fit, written_kind, written_none, term_is, term_known, none_of_three, flag_misfit}
use Rattle.au_typing.proofs.ItemKinds.{gives_kinds, items_give, columns_kinds}
use Rattle.au_typing.proofs.GroupKinds.{IsFine, argument_kind, term_aggregates, items_aggregates, written_known}
use Rattle.au_typing.proofs.KeyKinds.{key_kinds, length-key_kinds, grouped_kinds, keys_known, arguments_kinds, grouping_kinds, groups_fit}
use Rattle.au_typing.proofs.FromKinds.{FromTyped, HasItem, IsTypedAs, product_kinds}

-- the test of a kind that is there
held : (b : Bool) (k : Kind) → is_some (kind_if b k) ≡ true → b ≡ true
held true k h = refl
held false k h = absurd (true≢false (sym h))

module _ (ts : List (List Kind)) (s : Scope) where
  -- WHERE and HAVING keep the kinds of rows
  selected_kinds :
      (setting : Setting) (ks : List Kind) → Fits s setting ks → (n : ℕ) (c : Option (ℕ × TermTree)) (q : Query) → clause_faults s setting c ≡ [] →
      StandsAt (written_kind s) ks n (having_written c) →
      kinds_of ts q ≡ Some ks → kinds_of ts (selected s setting n c q) ≡ Some ks
  selected_kinds setting ks columns n None q h w t = t
  selected_kinds setting ks columns n (Some c) q h w t =
      let p = none_of (term_faults s setting c.0 c.1) (flag_misfit s c.0 c.1) h in
      let flag : is_kind Flag (term_kind s c.1) ≡ true =
      held (is_kind Flag (term_kind s c.1)) Flag (fitting c.0 (term_kind s c.1 ∷ []) (kind_if (is_kind Flag (term_kind s c.1)) Flag) p.1 (and_from _ true (term_known s setting c.0 c.1 p.0) refl)) in
      ap (option_and_then (λ js. kinds_if (is_kind Flag (kind_in js (resolved_expression s setting n c.1))) js)) t
      ∙ ap (λ b. kinds_if b ks) (ap (is_kind Flag) (term_is s setting ks columns n c.0 c.1 p.0 w) ∙ flag_data (term_kind s c.1) ∙ flag)

  -- items over a tree, each row perhaps once
  project_kinds :
      (setting : Setting) (ks : List Kind) → Fits s setting ks → (distinct : Bool) (n : ℕ) (items : List ItemTree) (q : Query) →
      items_faults s setting items ≡ [] → StandsAt (written_kind s) ks n (items_written items) →
      kinds_of ts q ≡ Some ks →
      kinds_of ts (distinct_if distinct (Project (map (λ o. o.term) (outputs_from s setting n items)) q)) ≡ Some (data_kinds (columns_from 1 (outputs_from s setting n items)))
  project_kinds setting ks columns true n items q h w t =
      ap (option_and_then (λ js. items_kinds js (map (λ o. o.term) (outputs_from s setting n items)))) t
      ∙ gives_kinds ks (outputs_from s setting n items) (items_give s setting ks columns n items h w)
      ∙ ap Some (sym (columns_kinds 1 (outputs_from s setting n items)))
  project_kinds setting ks columns false n items q h w t =
      ap (option_and_then (λ js. items_kinds js (map (λ o. o.term) (outputs_from s setting n items)))) t
      ∙ gives_kinds ks (outputs_from s setting n items) (items_give s setting ks columns n items h w)
      ∙ ap Some (sym (columns_kinds 1 (outputs_from s setting n items)))

-- a condition without groups has no aggregates
having_none : (s : Scope) (c : Option (ℕ × TermTree)) → clause_faults s rows c ≡ [] → having_written c ≡ []
having_none s None h = refl
having_none s (Some c) h =
    written_none s c.0 c.1 (none_of (term_faults s rows c.0 c.1) (flag_misfit s c.0 c.1) h).0

-- nor has one item
item_none : (s : Scope) (item : ItemTree) → item_faults s rows item ≡ [] → item_written item ≡ []
item_none s (ItemTree.star at) h = refl
item_none s (ItemTree.star_of at qualifier) h = refl
item_none s (ItemTree.value e alias) h = written_none s 0 e h

-- nor have all
items_none : (s : Scope) (items : List ItemTree) → items_faults s rows items ≡ [] → items_written items ≡ []
items_none s [] h = refl
items_none s (item ∷ items) h =
    let p = none_of (item_faults s rows item) (items_faults s rows items) h in
    let a = item_none s item p.0 in
    let b = items_none s items p.1 in
    λ i. a i ++ b i

-- each aggregate of a HAVING without a fault
having_aggregates : (s : Scope) (g : Grouping) (c : Option (ℕ × TermTree)) → clause_faults s (groups g) c ≡ [] → AllByRecursion (IsFine s g.by) (having_written c)
having_aggregates s g None h = tt
having_aggregates s g (Some c) h =
    term_aggregates s g c.0 c.1 (none_of (term_faults s (groups g) c.0 c.1) (flag_misfit s c.0 c.1) h).0

-- what is without a fault where all clauses are
record ClausesFine (s : Scope) (setting : Setting) (c : Clauses) : Type 0 where
  condition : clause_faults s rows c.condition ≡ []
  keys : flat_map (name_faults s) c.keys ≡ []
  items : items_faults s setting c.items ≡ []
  having : clause_faults s setting c.having ≡ []

-- nothing is wrong with any clause
clauses_fine : (s : Scope) (setting : Setting) (c : Clauses) → clauses_faults s setting c ≡ [] → ClausesFine s setting c
clauses_fine s setting c h =
    let p = none_of (clause_faults s rows c.condition ++ flat_map (name_faults s) c.keys ++ items_faults s setting c.items) (clause_faults s setting c.having) h in
    let q = none_of_three (clause_faults s rows c.condition) (flat_map (name_faults s) c.keys) (items_faults s setting c.items) p.0 in
    record { condition = q.0; keys = q.1; items = q.2; having = p.1 }

-- the keys are there exactly where GROUP BY is
no_keys : (s : Scope) (c : Clauses) → c.grouped ≡ has_keys c.keys → c.grouped ≡ false → key_places s c.keys ≡ []
no_keys s c e f = empty c.keys (sym e ∙ f)
  where
    empty : (keys : List Name) → has_keys keys ≡ false → key_places s keys ≡ []
    empty [] h = refl
    empty (key ∷ keys) h = absurd (true≢false h)

module _ (ts : List (List Kind)) (s : Scope) (c : Clauses) (q : Query) (typed : kinds_of ts q ≡ Some (field_kinds s)) where
  -- the tree in this setting has the kinds of its columns
  abbrev Fit : Setting → Type 0
  Fit setting =
      clauses_faults s setting c ≡ [] →
      kinds_of ts (distinct_if c.distinct (Project (map (λ o. o.term) (outputs s setting c)) (body s setting c q))) ≡ Some (data_kinds (columns_from 1 (outputs s setting c)))

  -- under WHERE
  where_kinds : clause_faults s rows c.condition ≡ [] → kinds_of ts (selected s rows 0 c.condition q) ≡ Some (field_kinds s)
  where_kinds h =
      selected_kinds ts s rows (field_kinds s) (rows_fit s) 0 c.condition q h (subst (StandsAt (written_kind s) (field_kinds s) 0) (sym (having_none s c.condition h)) tt) typed

  -- without groups
  rows_kinds : Fit rows
  rows_kinds h =
      let f = clauses_fine s rows c h in
      project_kinds ts s rows (field_kinds s) (rows_fit s) c.distinct 0 c.items (selected s rows 0 c.condition q) f.items
      (subst (StandsAt (written_kind s) (field_kinds s) 0) (sym (items_none s c.items f.items)) tt) (where_kinds f.condition)

  -- with groups
  groups_kinds : (joins : Bool) → c.grouped ≡ has_keys c.keys → Fit (groups (record { keys = key_places s c.keys; by = c.grouped; joins = joins }))
  groups_kinds joins e h =
      let g : Grouping = record { keys = key_places s c.keys; by = c.grouped; joins = joins } in
      let f = clauses_fine s (groups g) c h in
      let a : AllByRecursion (IsFine s c.grouped) (clauses_written c) =
      all_both (IsFine s c.grouped) (items_written c.items) (having_written c.having)
      (items_aggregates s g c.items f.items) (having_aggregates s g c.having f.having) in
      let below : kinds_of ts (Project (arguments s g.keys c) (selected s rows 0 c.condition q)) ≡ Some (key_kinds s g.keys ++ map known (map (argument_kind s) (clauses_written c))) =
      ap (option_and_then (λ ks. items_kinds ks (arguments s g.keys c))) (where_kinds f.condition) ∙ arguments_kinds s c.grouped g.keys (clauses_written c) (keys_known s c.keys f.keys) a in
      let grouped : kinds_of ts (grouping g c (Project (arguments s g.keys c) (selected s rows 0 c.condition q))) ≡ Some (grouped_kinds s g.keys (clauses_written c)) =
      grouping_kinds ts s (clauses_written c) (Project (arguments s g.keys c) (selected s rows 0 c.condition q)) c.grouped g.keys (no_keys s c e) a below in
      let columns : Fits s (groups g) (grouped_kinds s g.keys (clauses_written c)) = groups_fit s g (map known (map (written_kind s) (clauses_written c))) in
      let stand = stands_parts (written_kind s) (grouped_kinds s g.keys (clauses_written c)) (length g.keys) (items_written c.items) (having_written c.having)
      (stands_behind (written_kind s) (key_kinds s g.keys) (length g.keys) (clauses_written c) (length-key_kinds s g.keys) (written_known s c.grouped (clauses_written c) a)) in
      project_kinds ts s (groups g) (grouped_kinds s g.keys (clauses_written c)) columns c.distinct (length g.keys) c.items (body s (groups g) c q) f.items stand.0
      (selected_kinds ts s (groups g) (grouped_kinds s g.keys (clauses_written c)) columns (length g.keys + length (items_written c.items)) c.having
      (grouping g c (Project (arguments s g.keys c) (selected s rows 0 c.condition q))) f.having stand.1 grouped)

  -- in either setting
  setting_kinds : (b joins : Bool) → c.grouped ≡ has_keys c.keys → Fit (if b then groups (record { keys = key_places s c.keys; by = c.grouped; joins = joins }) else rows)
  setting_kinds true joins e = groups_kinds joins e
  setting_kinds false joins e = rows_kinds

-- A SELECT without a fault over typed FROM items is typed with its columns' kinds.
pub select_kinds :
    (ts : List (List Kind)) (c : Clauses) (from : List FromItem) → HasItem from → FromTyped ts from → c.grouped ≡ has_keys c.keys →
    (resolved_select c from).faults ≡ [] → IsTypedAs ts (resolved_select c from)
select_kinds ts c from some p e h =
    let f = then_none (from_faults from) (clauses_faults (scope_of from) (setting_of (scope_of from) (is_join from) c) c) h in
    setting_kinds ts (scope_of from) c (from_product from) (product_kinds ts from some p) (is_grouped c) (is_join from) e f.1
