-- What the calls answer: what they look for where nothing is wrong with the text, or else one of its faults.
-- In this order: answers as such, what the calls hold, terms, output columns, and the clauses of a SELECT.
use Rattle.std.specs.Prelude.{ℕ, ◌+◌, ◌≡◌, ◌⊎◌, List, [], ◌∷◌, ◌++◌, length, map, flat_map, Option, Bool, Some, None, option_map, if◌then◌else◌, Result, Ok, Err}
use Rattle.au_value.specs.declared.kinds.Kind.{Kind}
use Rattle.au_expr.specs.declared.expr.Expr.{Expr}
use Rattle.au_expr.specs.Terms.{Term, term, Column, Case}
use Rattle.au_parse.specs.declared.AggWord.{AggWord}
use Rattle.au_parse.specs.declared.SelectPart.{SelectPart}
use Rattle.au_parse.specs.Views.{condition_view, item_view}
use Rattle.au_parse.specs.Tree.{TermTree, ItemTree, Operator}
use Rattle.au_typing.specs.Shapes.{signed_kind, signed_term, argument_given}
use Rattle.au_typing.specs.declared.shape.Sign.{Sign}
use Rattle.au_typing.specs.Aggregates.{Written, written, column_agg, taken_from}
use Rattle.au_typing.specs.Items.{Output, columns_from, items_faults, items_written, outputs_from, star_output, starred}
use Rattle.au_typing.specs.Scales.{rescaled}
use Rattle.au_typing.specs.Scopes.{Scope, name_faults}
use Rattle.au_typing.specs.declared.outputs.Outputs.{Outputs}
use Rattle.au_typing.specs.declared.from_items.FromPart.{FromPart}
use Rattle.au_typing.specs.declared.part.Part.{Part}
use Rattle.au_typing.specs.declared.select.ClauseTerms.{ClauseTerms}
use Rattle.au_typing.specs.Selects.{Clauses, FromItem, Typing, clause_faults, clauses_faults, clauses_written, distinct_if, having_written, is_join, outputs, from_product, resolved_select, setting_of}
use Rattle.au_algebra.specs.Trees.{Tree as Query, tree, Select, Project, Product, Group, Total}
use Rattle.au_algebra.specs.declared.query.Agg.{Agg}
use Rattle.au_value.specs.declared.kinds.Kind.TheVariants.{Flag}
use Rattle.au_expr.specs.Kinds.{is_kind, kind_if}
use Rattle.au_typing.specs.Terms.{Setting, rows, groups, term_faults, term_kind, resolved_expression, argument_of, first_column, operator_kind, operated, branches, when_kind, aggregate_kind}
use Rattle.au_typing.specs.declared.fault.TypingFault.{TypingFault}
use Rattle.au_typing.specs.declared.fault.TypingFault.TheVariants as fault
use Rattle.au_typing.specs.declared.scope.Scope.{Scope as HeldScope}
use Rattle.au_typing.specs.declared.setting.Setting.{Setting as HeldSetting}
use Rattle.au_typing.specs.declared.setting.Setting.TheVariants as held
use Rattle.au_typing.specs.declared.setting.Gathered.{Gathered}
use Rattle.au_typing.specs.Queries.{Refuses}

-- ---- answers

-- Kinds that don't fit, at this place, or want of memory.
abbrev pub Misfits : ℕ → Option Kind → TypingFault → Type 0
Misfits at kind f = (f ≡ fault.NoMemory) ⊎ ((f ≡ fault.KindMismatch at) × (kind ≡ None))

-- What was looked for is found, or one of the faults is named.
abbrev pub IsFoundOr : {A : Type 0} → List TypingFault → (A → Type 0) → Result A TypingFault → Type 0
IsFoundOr faults Found (Ok a) = Found a
IsFoundOr faults Found (Err f) = Refuses faults f

-- An answer is made of that of a part, or of those of two or three parts, whose first fault is handed on.
abbrev pub OfOne : {A R : Type 0} → (A → Result R TypingFault → Type 0) → Result A TypingFault → Result R TypingFault → Type 0
OfOne Made (Ok x) r = Made x r
OfOne Made (Err g) r = r ≡ Err g

abbrev pub OfTwo : {A B R : Type 0} → (A → B → Result R TypingFault → Type 0) → Result A TypingFault → Result B TypingFault → Result R TypingFault → Type 0
OfTwo Made (Ok x) y r = OfOne (Made x) y r
OfTwo Made (Err g) y r = r ≡ Err g

abbrev pub OfThree : {A B C R : Type 0} → (A → B → C → Result R TypingFault → Type 0) → Result A TypingFault → Result B TypingFault → Result C TypingFault → Result R TypingFault → Type 0
OfThree Made (Ok x) y z r = OfTwo (Made x) y z r
OfThree Made (Err g) y z r = r ≡ Err g

-- ---- what the calls hold

abbrev pub scope_view : HeldScope → Scope
scope_view s = record { owners = s.owners.items; fields = s.fields.items }

abbrev pub setting_view : HeldSetting → Setting
setting_view held.Rows = rows
setting_view (held.Groups g) = groups (record { keys = g.keys.items; by = g.by; joins = g.joins })

-- the column of the next aggregate
abbrev pub next_column : Setting → Gathered → ℕ
next_column setting gathered = first_column setting + length gathered.arguments.items

-- These aggregates have been put behind those that were gathered, the first at this column.
pub record Gathers (scope : Scope) (n : ℕ) (ws : List Written) (old new : Gathered) : Type 0 where
  pub arguments : map term new.arguments.items ≡ map term old.arguments.items ++ map (argument_of scope) ws
  pub aggs : new.aggs.items ≡ old.aggs.items ++ taken_from n ws

-- the aggregates of this tree
abbrev pub GathersAll : Scope → Setting → TermTree → Gathered → Gathered → Type 0
GathersAll scope setting tree old new = Gathers scope (next_column setting old) (written tree) old new

-- ---- terms

-- what a call answers of a term: its expression and its kind
abbrev pub Answer : Type 0
Answer = Result (Expr × Kind) TypingFault

-- Nothing is wrong with the term, and this is its expression and its kind.
pub record TermFound (scope : Scope) (setting : Setting) (around n : ℕ) (tree : TermTree) (e : Term) (k : Kind) : Type 0 where
  pub sound : term_faults scope setting around tree ≡ []
  pub kind : term_kind scope tree ≡ Some k
  pub term : resolved_expression scope setting n tree ≡ e

-- The term is found and its aggregates are gathered, or one of its faults is named.
abbrev pub Answers : Scope → Setting → ℕ → TermTree → Gathered → Gathered → Answer → Type 0
Answers scope setting around tree old new answer =
    IsFoundOr (term_faults scope setting around tree) (λ r. TermFound scope setting around (next_column setting old) tree (term r.0) r.1 × GathersAll scope setting tree old new) answer

-- This is the kind, and the expression is as claimed; or the kinds don't fit.
abbrev pub IsOfKind : ℕ → Option Kind → (Term → Type 0) → Answer → Type 0
IsOfKind at kind Is (Ok r) = (kind ≡ Some r.1) × Is (term r.0)
IsOfKind at kind Is (Err f) = Misfits at kind f

-- The answers of two operands are made that of their operator.
abbrev pub Joins : Operator → ℕ → Answer → Answer → Answer → Type 0
Joins o at left right answer =
    OfTwo (λ x y. IsOfKind at (operator_kind o (Some x.1) (Some y.1)) (λ e. operated o (Some x.1) (Some y.1) (term x.0) (term y.0) ≡ e)) left right answer

-- The answer of an operand is made that of its sign or NOT.
abbrev pub Signs : Sign → ℕ → Answer → Answer → Type 0
Signs s at operand answer = OfOne (λ x. IsOfKind at (signed_kind s (Some x.1)) (λ e. signed_term s (term x.0) ≡ e)) operand answer

-- Nothing is wrong with the parts of a CASE, and this is their expression with each branch brought to a kind, and their own kind.
pub record BranchesFound (scope : Scope) (setting : Setting) (around n : ℕ) (to : Option Kind) (tree : TermTree) (e : Term) (k : Kind) : Type 0 where
  pub sound : term_faults scope setting around tree ≡ []
  pub kind : term_kind scope tree ≡ Some k
  pub term : branches scope to tree (resolved_expression scope setting n tree) ≡ e

-- The parts of a CASE are found and their aggregates are gathered, or one of their faults is named.
abbrev pub CaseAnswers : Scope → Setting → ℕ → Option Kind → TermTree → Gathered → Gathered → Answer → Type 0
CaseAnswers scope setting around to tree old new answer =
    IsFoundOr (term_faults scope setting around tree) (λ r. BranchesFound scope setting around (next_column setting old) to tree (term r.0) r.1 × GathersAll scope setting tree old new) answer

-- The value of ELSE has the kind that it had, and is brought to that of the branches.
abbrev pub IsBrought : Option Kind → Expr × Kind → Answer → Type 0
IsBrought to x (Ok r) = (x.1 ≡ r.1) × (rescaled (Some x.1) to (term x.0) ≡ term r.0)
IsBrought to x (Err f) = f ≡ fault.NoMemory

-- The answer of the value of ELSE is made that of a branch.
abbrev pub EndsCase : Option Kind → Answer → Answer → Type 0
EndsCase to value answer = OfOne (IsBrought to) value answer

-- The answers of a condition, a value and what follows are made that of a WHEN part whose value is brought to a kind.
abbrev pub Chooses : ℕ → Option Kind → Answer → Answer → Answer → Answer → Type 0
Chooses at to condition value rest answer =
    OfThree (λ x y z. IsOfKind at (when_kind (Some x.1) (Some y.1) (Some z.1)) (λ e. Case (term x.0) (rescaled (Some y.1) to (term y.0)) (term z.0) ≡ e)) condition value rest answer

-- An aggregate of this argument has been put behind those that were gathered.
pub record TakesOne (setting : Setting) (word : AggWord) (old new : Gathered) (argument e : Term) : Type 0 where
  pub column : Column (next_column setting old) ≡ e
  pub arguments : map term new.arguments.items ≡ map term old.arguments.items ++ argument_given word argument ∷ []
  pub aggs : new.aggs.items ≡ old.aggs.items ++ column_agg word (next_column setting old) ∷ []

-- The answer of an argument is made that of its aggregate.
abbrev pub Takes : Setting → AggWord → ℕ → Gathered → Gathered → Answer → Answer → Type 0
Takes setting word at old new argument answer =
    OfOne (λ x. IsOfKind at (aggregate_kind word (Some x.1)) (λ e. TakesOne setting word old new (term x.0) e)) argument answer

-- ---- output columns

-- an output column of known kind
abbrev pub output : Term → Option (List ℕ) → Kind → Output
output e name kind = record { term = e; name = name; kind = Some kind }

abbrev pub star_outputs : Scope → Setting → Option (List ℕ) → List Output
star_outputs scope setting qualifier = map (star_output setting) (starred scope qualifier)

-- These output columns have been put behind the others.
pub record Puts (outs : List Output) (old new : Outputs) : Type 0 where
  pub exprs : map term new.exprs.items ≡ map term old.exprs.items ++ map (λ o. o.term) outs
  pub columns : new.columns.items ≡ old.columns.items ++ columns_from (length old.columns.items + 1) outs

-- This output column has been put behind the others, or memory is wanting.
abbrev pub PutsOne : Outputs → Outputs → Output → Result (Unit {0}) TypingFault → Type 0
PutsOne old new out (Ok done) = Puts (out ∷ []) old new
PutsOne old new out (Err f) = f ≡ fault.NoMemory

-- A term of this name and answer is put as an output column.
abbrev pub PutsValue : Outputs → Outputs → Result (Option (List ℕ)) TypingFault → Answer → Result (Unit {0}) TypingFault → Type 0
PutsValue old new name value answer = OfTwo (λ n x. PutsOne old new (output (term x.0) n x.1)) name value answer

-- Nothing is wrong with these items, and their columns and aggregates have been put behind the others.
pub record ItemsFound (scope : Scope) (setting : Setting) (items : List ItemTree) (old new : Gathered) (before after : Outputs) : Type 0 where
  pub sound : items_faults scope setting items ≡ []
  pub gathers : Gathers scope (next_column setting old) (items_written items) old new
  pub puts : Puts (outputs_from scope setting (next_column setting old) items) before after

-- ---- queries and FROM items

-- what a well-typed query is, and a FROM item
abbrev pub part_typing : Part → Typing
part_typing part = record { faults = []; tree = tree part.query; columns = part.columns.items; joins = part.joins }

abbrev pub from_view : FromPart → FromItem
from_view item = record { at = item.at; name = item.name; typing = part_typing item.part }

-- a tree joined with those before it
abbrev pub joined_to : Option Query → Query → Query
joined_to None q = q
joined_to (Some left) q = Product left q

-- ---- conditions: WHERE and HAVING

-- The term is a flag, and this is its expression; or it is none.
abbrev pub IsFlagOf : ℕ → Expr × Kind → Result (Option Expr) TypingFault → Type 0
IsFlagOf at x (Ok o) = (x.1 ≡ Flag) × (o ≡ Some x.0)
IsFlagOf at x (Err f) = (f ≡ fault.KindMismatch at) × (kind_if (is_kind Flag (Some x.1)) Flag ≡ None)

-- The answer of a term at this place is that of a condition: its expression, where it is a flag.
abbrev pub IsFlag : ℕ → Answer → Result (Option Expr) TypingFault → Type 0
IsFlag at value answer = OfOne (IsFlagOf at) value answer

abbrev pub clause_term : Scope → Setting → ℕ → Option (ℕ × TermTree) → Option Term
clause_term scope setting n clause = option_map (λ c. resolved_expression scope setting n c.1) clause

-- The condition is found and its aggregates are gathered, or one of its faults is named.
abbrev pub ClauseAnswers : Scope → Setting → Option (ℕ × TermTree) → Gathered → Gathered → Result (Option Expr) TypingFault → Type 0
ClauseAnswers scope setting clause old new answer =
    IsFoundOr (clause_faults scope setting clause)
    (λ o. (clause_faults scope setting clause ≡ []) × (clause_term scope setting (next_column setting old) clause ≡ option_map term o) × Gathers scope (next_column setting old) (having_written clause) old new)
    answer

-- The expression of WHERE is found, or one of its faults is named.
abbrev pub FilterAnswers : Scope → Option (ℕ × TermTree) → Result (Option Expr) TypingFault → Type 0
FilterAnswers scope clause answer =
    IsFoundOr (clause_faults scope rows clause) (λ o. (clause_faults scope rows clause ≡ []) × (clause_term scope rows 0 clause ≡ option_map term o)) answer

-- ---- the clauses of a SELECT

-- the clauses that were read
abbrev pub clauses_of : SelectPart → Clauses
clauses_of part = record { distinct = part.distinct; items = map item_view part.items.items; condition = condition_view part.condition; keys = part.keys.items; grouped = part.grouped; having = condition_view part.having }

-- the terms of the clauses, or the first fault
abbrev pub all_terms : Result (Option Expr) TypingFault → Result (Unit {0}) TypingFault → Result (Option Expr) TypingFault → Gathered → Outputs → Result ClauseTerms TypingFault
all_terms (Ok filter) (Ok done) (Ok having) gathered outputs = Ok (record { filter = filter; having = having; gathered = gathered; outputs = outputs })
all_terms (Ok filter) (Ok done) (Err f) gathered outputs = Err f
all_terms (Ok filter) (Err f) having gathered outputs = Err f
all_terms (Err f) items having gathered outputs = Err f

-- Nothing is wrong with WHERE, the items and HAVING, and these are their terms.
pub record TermsFound (scope : Scope) (setting : Setting) (c : Clauses) (terms : ClauseTerms) : Type 0 where
  pub filter_sound : clause_faults scope rows c.condition ≡ []
  pub items_sound : items_faults scope setting c.items ≡ []
  pub having_sound : clause_faults scope setting c.having ≡ []
  pub filter : clause_term scope rows 0 c.condition ≡ option_map term terms.filter
  pub having : clause_term scope setting (first_column setting + length (items_written c.items)) c.having ≡ option_map term terms.having
  pub arguments : map term terms.gathered.arguments.items ≡ map (argument_of scope) (clauses_written c)
  pub aggs : terms.gathered.aggs.items ≡ taken_from (first_column setting) (clauses_written c)
  pub exprs : map term terms.outputs.exprs.items ≡ map (λ o. o.term) (outputs scope setting c)
  pub columns : terms.outputs.columns.items ≡ columns_from 1 (outputs scope setting c)

abbrev pub TermsAnswer : Scope → Setting → Clauses → Result ClauseTerms TypingFault → Type 0
TermsAnswer scope setting c answer = IsFoundOr (clauses_faults scope setting c) (TermsFound scope setting c) answer

-- what a call answers of the clauses of a SELECT: what they stand over, and their terms
abbrev pub HeldClauses : Type 0
HeldClauses = Result (HeldSetting × ClauseTerms) TypingFault

-- Nothing is wrong with the clauses over this scope, or one of their faults is named.
abbrev pub ClausesAnswer : Scope → Bool → Clauses → HeldClauses → Type 0
ClausesAnswer scope joins c (Ok r) =
    (setting_view r.0 ≡ setting_of scope joins c) × (flat_map (name_faults scope) c.keys ≡ []) × TermsFound scope (setting_view r.0) c r.1
ClausesAnswer scope joins c (Err f) = Refuses (clauses_faults scope (setting_of scope joins c) c) f

-- ---- what a SELECT is

-- a tree under the expression of a condition, if there is one
abbrev pub selected_by : Option Term → Query → Query
selected_by None q = q
selected_by (Some e) q = Select e q

-- the groups of a tree, or the totals over its rows
abbrev pub groups_tree : Bool → ℕ → List Agg → List Term → Query → Query
groups_tree by keys aggs columns q = if by then Group keys aggs (Project columns q) else Total aggs (Project columns q)

-- the tree below the items
abbrev pub held_body : HeldSetting → Option Term → Option Term → Gathered → Query → Query
held_body held.Rows filter having gathered q = selected_by filter q
held_body (held.Groups g) filter having gathered q =
    selected_by having (groups_tree g.by (length g.keys.items) gathered.aggs.items (map Column g.keys.items ++ map term gathered.arguments.items) (selected_by filter q))

-- what a SELECT of these terms is over this tree
abbrev pub held_typing : Bool → Bool → HeldSetting → ClauseTerms → Query → Typing
held_typing distinct joins setting terms q = record {
  faults = [];
  tree = distinct_if distinct (Project (map term terms.outputs.exprs.items) (held_body setting (option_map term terms.filter) (option_map term terms.having) terms.gathered q));
  columns = terms.outputs.columns.items;
  joins = joins;
}

-- What the terms of a SELECT over FROM items make is what it is, or one of its faults is named.
abbrev pub SelectAnswer : Clauses → List FromItem → HeldClauses → Type 0
SelectAnswer c from answer = IsFoundOr ((resolved_select c from).faults) (λ r. held_typing c.distinct (is_join from) r.0 r.1 (from_product from) ≡ resolved_select c from) answer
