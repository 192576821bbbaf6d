-- The clauses of a SELECT: their items, their terms, and the tree that these make.
use Rattle.std.proofs.Common.{◌≡◌, ℕ, ◌+◌, ◌<◌, ◌||◌, Bool, List, [], ◌∷◌, ◌++◌, length, map, get_or, take, Some, None, refl, sym, ap, subst, ◌∙◌, arith, append_assoc, length-append, inl, inr}
use Rattle.std.specs.Prelude.{Contains, Option, Result, Ok, Err, IfErr, OnOk, flat_map, option_map, nat_lt}
use Rattle.std.specs.List.{list_any}
use Rattle.std.proofs.lemmas.List.{take_more, map_push, append-nil}
use Rattle.std.proofs.lemmas.List.Folds.{flat_map-map}
use Rattle.std.proofs.lemmas.Grind.{flat_map-append, common_steps}
use Rattle.au_expr.specs.Terms.{term, Column}
use Rattle.au_expr.specs.declared.expr.Expr.{Expr}
use Rattle.au_algebra.specs.Trees.{Tree as Query, Project}
use Rattle.au_parse.specs.Tree.{TermTree, ItemTree}
use Rattle.au_parse.specs.Views.{item_view}
use Rattle.au_parse.specs.declared.Item.{Item}
use Rattle.au_typing.specs.Aggregates.{Written, taken_from}
use Rattle.au_typing.specs.Scopes.{Scope, name_faults, then_faults}
use Rattle.au_typing.specs.Terms.{Setting, rows, first_column, argument_of}
use Rattle.au_typing.specs.Items.{Output, item_faults, item_outputs, item_written, items_faults, items_written, outputs_from, columns_from}
use Rattle.au_typing.specs.Selects.{Clauses, Typing, alias_faults, arguments, body, clause_faults, clauses_faults, clauses_written, distinct_if, from_faults, having_written, is_join, outputs, from_product, scope_of, selected, setting_of}
use Rattle.au_typing.specs.Results.{ClauseAnswers, ClausesAnswer, FilterAnswers, Gathers, HeldClauses, ItemsFound, Puts, SelectAnswer, TermsAnswer, TermsFound, all_terms, clause_term, from_view, groups_tree, held_body, held_typing, next_column, selected_by, setting_view}
use Rattle.au_typing.specs.declared.fault.TypingFault.{TypingFault}
use Rattle.au_typing.specs.declared.outputs.Outputs.{Outputs}
use Rattle.au_typing.specs.declared.select.ClauseTerms.{ClauseTerms}
use Rattle.au_typing.specs.declared.from_items.FromPart.{FromPart}
use Rattle.au_typing.specs.declared.setting.Gathered.{Gathered}
use Rattle.au_typing.specs.declared.setting.Setting.{Setting as HeldSetting}
use Rattle.au_typing.specs.declared.setting.Setting.TheVariants as held
use Rattle.au_typing.proofs.FromItems.{from_sound}
use Rattle.au_typing.proofs.Stars.{puts_on}
use Rattle.au_typing.proofs.Steps.{gathers_on, next_after, refuses_left, refuses_right}
use Rattle.au_typing.proofs.Within.{Contains-flat_map}
use Rattle.au_typing.specs.Queries.{Refuses}

-- one of two lists has an element
either : (xs ys : List Written) → (nat_lt 0 (length xs) || nat_lt 0 (length ys)) ≡ nat_lt 0 (length (xs ++ ys))
either [] ys = refl
either (x ∷ xs) ys = grind (arith, common_steps)

-- an aggregate in one of the items
pub any_written : (items : List Item) → list_any (λ item. nat_lt 0 (length (item_written (item_view item)))) items ≡ nat_lt 0 (length (items_written (map item_view items)))
any_written [] = refl
any_written (item ∷ items) = ap (λ t. nat_lt 0 (length (item_written (item_view item))) || t) (any_written items) ∙ either (item_written (item_view item)) (items_written (map item_view items))

-- the output columns of one item more
outputs_more : (s : Scope) (g : Setting) (n : ℕ) (items : List ItemTree) (item : ItemTree) → outputs_from s g n (items ++ item ∷ []) ≡ outputs_from s g n items ++ item_outputs s g (n + length (items_written items)) item
outputs_more s g n [] item =
    let e : n ≡ n + 0 = omega arith in
    append-nil (item_outputs s g n item) ∙ ap (λ k. item_outputs s g k item) e
outputs_more s g n (i ∷ items) item =
    let e : n + length (item_written i) + length (items_written items) ≡ n + length (item_written i ++ items_written items) = omega (arith, length-append (item_written i) (items_written items)) in
    ap (λ r. item_outputs s g n i ++ r) (outputs_more s g (n + length (item_written i)) items item ∙ ap (λ k. outputs_from s g (n + length (item_written i)) items ++ item_outputs s g k item) e)
    ∙ sym (append_assoc (item_outputs s g n i) (outputs_from s g (n + length (item_written i)) items) (item_outputs s g (n + length (items_written (i ∷ items))) item))

-- one item more
items_on : (s : Scope) (g : Setting) (items : List ItemTree) (item : ItemTree) (old mid new : Gathered) (before between after : Outputs) → ItemsFound s g items old mid before between
    → Puts (item_outputs s g (next_column g mid) item) between after → Gathers s (next_column g mid) (item_written item) mid new → item_faults s g item ≡ [] → ItemsFound s g (items ++ item ∷ []) old new before after
items_on s g items item old mid new before between after found puts gathers sound =
    let n : next_column g mid ≡ next_column g old + length (items_written items) = next_after s g (next_column g old) (items_written items) old mid found.gathers in
    let ws : items_written (items ++ item ∷ []) ≡ items_written items ++ item_written item =
    flat_map-append item_written items (item ∷ []) ∙ ap (λ r. items_written items ++ r) (append-nil (item_written item)) in
    record {
      sound = flat_map-append (item_faults s g) items (item ∷ []) ∙ rw (found.sound, sound) refl;
      gathers = subst (λ w. Gathers s (next_column g old) w old new) (sym ws)
          (gathers_on s (next_column g old) (items_written items) (item_written item) old mid new found.gathers (subst (λ k. Gathers s k (item_written item) mid new) n gathers));
      puts = subst (λ o. Puts o before after) (sym (outputs_more s g (next_column g old) items item))
          (puts_on (outputs_from s g (next_column g old) items) (item_outputs s g (next_column g old + length (items_written items)) item) before between after found.puts
          (subst (λ k. Puts (item_outputs s g k item) between after) n puts));
    }

pub items_more : (s : Scope) (g : Setting) (items : List Item) (k : ℕ) (item : Item) (old mid new : Gathered) (before between after : Outputs) → k < length items → item ≡ get_or items k item
    → ItemsFound s g (map item_view (take k items)) old mid before between → Puts (item_outputs s g (next_column g mid) (item_view item)) between after
    → Gathers s (next_column g mid) (item_written (item_view item)) mid new → item_faults s g (item_view item) ≡ [] → ItemsFound s g (map item_view (take (k + 1) items)) old new before after
items_more s g items k item old mid new before between after within is found puts gathers sound =
    let e : map item_view (take (k + 1) items) ≡ map item_view (take k items) ++ item_view item ∷ [] =
    ap (map item_view) (take_more items k item within ∙ ap (λ i. take k items ++ i ∷ []) (sym is)) ∙ map_push item_view (take k items) item in
    subst (λ l. ItemsFound s g l old new before after) (sym e) (items_on s g (map item_view (take k items)) (item_view item) old mid new before between after found puts gathers sound)

-- a fault of one item
pub item_refuses : (s : Scope) (g : Setting) (items : List Item) (k : ℕ) (item : Item) (f : TypingFault) → k < length items → item ≡ get_or items k item
    → Refuses (item_faults s g (item_view item)) f → Refuses (items_faults s g (map item_view items)) f
item_refuses s g items k item f within is (inl m) = inl m
item_refuses s g items k item f within is (inr there) =
    inr (subst (λ fs. Contains fs f) (sym (flat_map-map (item_faults s g) item_view items)) (Contains-flat_map (λ (i : Item). item_faults s g (item_view i)) items k item f within is there))

-- a fault of WHERE, of a key, of an item and of HAVING
filter_refuses : (s : Scope) (g : Setting) (c : Clauses) (f : TypingFault) → Refuses (clause_faults s rows c.condition) f → Refuses (clauses_faults s g c) f
filter_refuses s g c f h = refuses_left _ _ f (refuses_left _ _ f (refuses_left (clause_faults s rows c.condition) (flat_map (name_faults s) c.keys) f h))

pub key_refuses : (s : Scope) (g : Setting) (c : Clauses) (f : TypingFault) → Refuses (flat_map (name_faults s) c.keys) f → Refuses (clauses_faults s g c) f
key_refuses s g c f h = refuses_left _ _ f (refuses_left _ _ f (refuses_right (clause_faults s rows c.condition) (flat_map (name_faults s) c.keys) f h))

list_refuses : (s : Scope) (g : Setting) (c : Clauses) (f : TypingFault) → Refuses (items_faults s g c.items) f → Refuses (clauses_faults s g c) f
list_refuses s g c f h = refuses_left _ _ f (refuses_right (clause_faults s rows c.condition ++ flat_map (name_faults s) c.keys) (items_faults s g c.items) f h)

having_refuses : (s : Scope) (g : Setting) (c : Clauses) (f : TypingFault) → Refuses (clause_faults s g c.having) f → Refuses (clauses_faults s g c) f
having_refuses s g c f h = refuses_right (clause_faults s rows c.condition ++ flat_map (name_faults s) c.keys ++ items_faults s g c.items) (clause_faults s g c.having) f h

-- nothing is wrong with the clauses
clauses_sound : (s : Scope) (g : Setting) (c : Clauses) (terms : ClauseTerms) → flat_map (name_faults s) c.keys ≡ [] → TermsFound s g c terms → clauses_faults s g c ≡ []
clauses_sound s g c terms keys t = rw (t.filter_sound, keys, t.items_sound, t.having_sound) refl

-- the terms of the clauses, from those of each
terms_found : (s : Scope) (g : Setting) (c : Clauses) (filter having : Option Expr) (start mid new : Gathered) (before after : Outputs)
    → start.arguments.items ≡ [] → start.aggs.items ≡ [] → before.exprs.items ≡ [] → before.columns.items ≡ []
    → FilterAnswers s c.condition (Ok filter) → ItemsFound s g c.items start mid before after → ClauseAnswers s g c.having mid new (Ok having)
    → TermsFound s g c (record { filter = filter; having = having; gathered = new; outputs = after })
terms_found s g c filter having start mid new before after no_arguments no_aggs no_exprs no_columns ff fi fh =
    let none : length start.arguments.items ≡ 0 = ap length no_arguments in
    let first : next_column g start ≡ first_column g = omega (arith, none) in
    let then : next_column g mid ≡ next_column g start + length (items_written c.items) = next_after s g (next_column g start) (items_written c.items) start mid fi.gathers in
    let all : Gathers s (next_column g start) (clauses_written c) start new =
    gathers_on s (next_column g start) (items_written c.items) (having_written c.having) start mid new fi.gathers (subst (λ k. Gathers s k (having_written c.having) mid new) then fh.2) in
    record {
      filter_sound = ff.0;
      items_sound = fi.sound;
      having_sound = fh.0;
      filter = ff.1;
      having = ap (λ k. clause_term s g k c.having) (sym (then ∙ ap (λ k. k + length (items_written c.items)) first)) ∙ fh.1;
      arguments = all.arguments ∙ ap (λ xs. map term xs ++ map (argument_of s) (clauses_written c)) no_arguments;
      aggs = all.aggs ∙ ap (λ xs. xs ++ taken_from (next_column g start) (clauses_written c)) no_aggs ∙ ap (λ k. taken_from k (clauses_written c)) first;
      exprs = fi.puts.exprs ∙ ap (λ xs. map term xs ++ map (λ (o : Output). o.term) (outputs_from s g (next_column g start) c.items)) no_exprs
          ∙ ap (λ k. map (λ (o : Output). o.term) (outputs_from s g k c.items)) first;
      columns = fi.puts.columns ∙ ap (λ xs. xs ++ columns_from (length xs + 1) (outputs_from s g (next_column g start) c.items)) no_columns ∙ ap (λ k. columns_from 1 (outputs_from s g k c.items)) first;
    }

pub terms_step : (s : Scope) (g : Setting) (c : Clauses) (filter : Result (Option Expr) TypingFault) (items : Result (Unit {0}) TypingFault) (having : Result (Option Expr) TypingFault)
    (start mid new : Gathered) (before after : Outputs) → start.arguments.items ≡ [] → start.aggs.items ≡ [] → before.exprs.items ≡ [] → before.columns.items ≡ []
    → FilterAnswers s c.condition filter → OnOk items (ItemsFound s g c.items start mid before after) → IfErr items (Refuses (items_faults s g c.items)) → ClauseAnswers s g c.having mid new having
    → TermsAnswer s g c (all_terms filter items having new after)
terms_step s g c (Ok filter) (Ok done) (Ok having) start mid new before after no_arguments no_aggs no_exprs no_columns ff found fault fh =
    terms_found s g c filter having start mid new before after no_arguments no_aggs no_exprs no_columns ff found fh
terms_step s g c (Ok filter) (Ok done) (Err f) start mid new before after no_arguments no_aggs no_exprs no_columns ff found fault fh = having_refuses s g c f fh
terms_step s g c (Ok filter) (Err f) having start mid new before after no_arguments no_aggs no_exprs no_columns ff found fault fh = list_refuses s g c f fault
terms_step s g c (Err f) items having start mid new before after no_arguments no_aggs no_exprs no_columns ff found fault fh = filter_refuses s g c f ff

-- a tree under a condition that is written
selected_is : (s : Scope) (g : Setting) (n : ℕ) (clause : Option (ℕ × TermTree)) (q : Query) → selected_by (clause_term s g n clause) q ≡ selected s g n clause q
selected_is s g n None q = refl
selected_is s g n (Some c) q = refl

-- the tree below the items
body_is : (s : Scope) (c : Clauses) (h : HeldSetting) (terms : ClauseTerms) (q : Query) → TermsFound s (setting_view h) c terms
    → held_body h (option_map term terms.filter) (option_map term terms.having) terms.gathered q ≡ body s (setting_view h) c q
body_is s c held.Rows terms q t = ap (λ o. selected_by o q) (sym t.filter) ∙ selected_is s rows 0 c.condition q
body_is s c (held.Groups g) terms q t =
    let below : selected_by (option_map term terms.filter) q ≡ selected s rows 0 c.condition q = ap (λ o. selected_by o q) (sym t.filter) ∙ selected_is s rows 0 c.condition q in
    let n = length g.keys.items in
    let columns = map Column g.keys.items ++ map term terms.gathered.arguments.items in
    let inner : groups_tree g.by n terms.gathered.aggs.items columns (selected_by (option_map term terms.filter) q)
    ≡ groups_tree g.by n (taken_from n (clauses_written c)) (arguments s g.keys.items c) (selected s rows 0 c.condition q) =
    ap (groups_tree g.by n terms.gathered.aggs.items columns) below ∙ ap (λ aggs. groups_tree g.by n aggs columns (selected s rows 0 c.condition q)) t.aggs
    ∙ ap (λ a. groups_tree g.by n (taken_from n (clauses_written c)) (map Column g.keys.items ++ a) (selected s rows 0 c.condition q)) t.arguments in
    ap (selected_by (option_map term terms.having)) inner
    ∙ ap (λ o. selected_by o (groups_tree g.by n (taken_from n (clauses_written c)) (arguments s g.keys.items c) (selected s rows 0 c.condition q))) (sym t.having)
    ∙ selected_is s (setting_view (held.Groups g)) (n + length (items_written c.items)) c.having (groups_tree g.by n (taken_from n (clauses_written c)) (arguments s g.keys.items c) (selected s rows 0 c.condition q))

-- what a SELECT is, from these faults, expressions, tree below them and columns
abbrev pub typing_with : Clauses → Bool → List TypingFault → Scope → Setting → Query → Typing
typing_with c joins faults s g q = record {
  faults = faults;
  tree = distinct_if c.distinct (Project (map (λ (o : Output). o.term) (outputs s g c)) (body s g c q));
  columns = columns_from 1 (outputs s g c);
  joins = joins;
}

typing_is : (s : Scope) (c : Clauses) (joins : Bool) (h : HeldSetting) (terms : ClauseTerms) (q : Query) → TermsFound s (setting_view h) c terms
    → held_typing c.distinct joins h terms q ≡ typing_with c joins [] s (setting_view h) q
typing_is s c joins h terms q t = rw (t.exprs, t.columns, body_is s c h terms q t) refl

-- what is answered over FROM items whose names are new
pub select_step : (c : Clauses) (from : List FromPart) (r : HeldClauses) → alias_faults [] (map from_view from) ≡ []
    → ClausesAnswer (scope_of (map from_view from)) (is_join (map from_view from)) c r → SelectAnswer c (map from_view from) r
select_step c from (Ok r) new found =
    let all = map from_view from in
    let s = scope_of all in
    let g = setting_of s (is_join all) c in
    let sound : then_faults (from_faults all) (clauses_faults s g c) ≡ [] =
    ap (λ fs. then_faults fs (clauses_faults s g c)) (from_sound from new)
    ∙ ap (λ h. clauses_faults s h c) (sym found.0) ∙ clauses_sound s (setting_view r.0) c r.1 found.1 found.2 in
    typing_is s c (is_join all) r.0 r.1 (from_product all) found.2 ∙ ap (λ h. typing_with c (is_join all) [] s h (from_product all)) found.0
    ∙ ap (λ fs. typing_with c (is_join all) fs s g (from_product all)) (sym sound)
select_step c from (Err f) new found =
    let all = map from_view from in
    let s = scope_of all in
    let g = setting_of s (is_join all) c in
    subst (λ fs. Refuses (then_faults fs (clauses_faults s g c)) f) (sym (from_sound from new)) found
