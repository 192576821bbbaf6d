-- The keys and the aggregates of groups have the kinds that are named.
use Rattle.std.specs.Prelude.{◌≡◌, ℕ, ◌+◌, ◌&&◌, not, Bool, true, false, List, [], ◌∷◌, ◌++◌, map, Option, Some, None, slice_get, is_some, if◌then◌else◌}
use Rattle.std.specs.List.{AllByRecursion, list_all}
use Rattle.std.proofs.Common.{refl, sym, ◌∙◌, ap}
use Rattle.std.proofs.lemmas.Bool.{true≢false, and_from}
use Rattle.au_value.specs.declared.kinds.Kind.{Kind}
use Rattle.au_value.specs.declared.kinds.Kind.TheVariants.{Int}
use Rattle.au_expr.specs.Kinds.{kind_in, is_kind, kind_if}
use Rattle.au_algebra.specs.Typing.{agg_kind, is_sum}
use Rattle.au_parse.specs.declared.AggWord.{AggWord}
use Rattle.au_parse.specs.declared.AggWord.TheVariants.{Count, Sum, Min, Max}
use Rattle.au_parse.specs.Tree.{TermTree, ItemTree}
use Rattle.au_typing.specs.Aggregates.{Written, written, column_agg, taken_from}
use Rattle.au_typing.specs.Scales.{number_if}
use Rattle.au_typing.specs.Scopes.{Scope, fault_if}
use Rattle.au_typing.specs.Terms.{Grouping, rows, groups, term_kind, term_faults, aggregate_kind, aggregate_faults, is_counting, is_extreme, argument_of, argument_term}
use Rattle.au_typing.specs.Items.{item_written, items_written, item_faults, items_faults}
use Rattle.au_typing.specs.declared.fault.TypingFault.TheVariants as fault
use Rattle.au_typing.proofs.Faults.{none_of}
use Rattle.au_typing.proofs.Found.{all_both, IsKnown, StandsAt}
use Rattle.au_typing.proofs.Rescaled.{data_of, data_known, itself_number}
use Rattle.au_typing.proofs.TermKinds.{field_kinds, written_kind, row_term_is, term_known, binary_parts, negate_parts, not_parts, when_parts, aggregate_parts}

-- the kind of an aggregate's argument over the rows of the FROM items
abbrev pub argument_kind : Scope → Written → Option Kind
argument_kind s w = kind_in (field_kinds s) (argument_of s w)

-- An aggregate in which nothing is wrong: its argument has a kind, and what is taken of that has the kind that is named.
pub record IsFine (s : Scope) (by : Bool) (w : Written) : Type 0 where
  pub argument : IsKnown (argument_kind s w)
  pub kind : (ks : List Kind) (place : ℕ) → slice_get ks place ≡ argument_kind s w → agg_kind ks (column_agg w.word place) ≡ written_kind s w
  pub is_known : IsKnown (written_kind s w)
  pub sums : by ≡ false → (place : ℕ) → is_sum (column_agg w.word place) ≡ true

-- a test that a kind is Int
is_int : (o : Option Kind) → o ≡ Some Int → (if is_kind Int o then Some Int else None) ≡ Some Int
is_int o e = ap (λ p. if is_kind Int p then Some Int else None) e

-- a count
counted :
    (s : Scope) (by : Bool) (argument : Option TermTree) → written_kind s (record { word = Count; argument = argument }) ≡ Some Int →
    argument_term s Count argument ≡ argument_term s Count None → IsFine s by (record { word = Count; argument = argument })
counted s by argument e a =
    let is : argument_kind s (record { word = Count; argument = argument }) ≡ Some Int = ap (kind_in (field_kinds s)) a in
    record { argument = ap is_some is; kind = λ ks place p. is_int (slice_get ks place) (p ∙ is) ∙ sym e; is_known = ap is_some e; sums = λ f place. refl }

-- MIN and MAX need GROUP BY
needs : (by counting : Bool) (at : ℕ) → fault_if (true && not by) (fault.MinMaxNeedsGroup at) ++ fault_if counting (fault.CountOverJoin at) ≡ [] → by ≡ false → ⊥
needs true counting at h e = absurd (true≢false e)
needs false counting at h e = cc

-- an aggregate of an argument
aggregates :
    (s : Scope) (g : Grouping) (at : ℕ) (word : AggWord) (e : TermTree) → aggregate_faults (groups g) at (is_extreme word) (is_counting word e) ≡ [] →
    term_faults s rows at e ≡ [] → IsKnown (aggregate_kind word (term_kind s e)) → IsFine s g.by (record { word = word; argument = Some e })
aggregates s g at Count e h f k = counted s g.by (Some e) (ap (λ b. data_of (kind_if b Int)) (term_known s rows at e f)) refl
aggregates s g at Sum e h f k =
    let is = row_term_is s 0 at e f in
    record {
      argument = ap is_some is ∙ data_known (term_kind s e) (term_known s rows at e f);
      kind = λ ks place p. let number = itself_number (term_kind s e) k in is_int (slice_get ks place) (p ∙ is ∙ number.0) ∙ sym number.1;
      is_known = data_known (number_if (term_kind s e)) k;
      sums = λ f place. refl;
    }
aggregates s g at Min e h f k =
    let is = row_term_is s 0 at e f in
    record {
      argument = ap is_some is ∙ data_known (term_kind s e) (term_known s rows at e f);
      kind = λ ks place p. p ∙ is;
      is_known = data_known (term_kind s e) k;
      sums = λ ungrouped place. absurd (needs g.by (is_counting Min e && g.joins) at h ungrouped);
    }
aggregates s g at Max e h f k =
    let is = row_term_is s 0 at e f in
    record {
      argument = ap is_some is ∙ data_known (term_kind s e) (term_known s rows at e f);
      kind = λ ks place p. p ∙ is;
      is_known = data_known (term_kind s e) k;
      sums = λ ungrouped place. absurd (needs g.by (is_counting Max e && g.joins) at h ungrouped);
    }

-- each aggregate of a term without a fault
pub term_aggregates : (s : Scope) (g : Grouping) (around : ℕ) (t : TermTree) → term_faults s (groups g) around t ≡ [] → AllByRecursion (IsFine s g.by) (written t)
term_aggregates s g around (TermTree.column name) h = tt
term_aggregates s g around (TermTree.number at m) h = tt
term_aggregates s g around (TermTree.decimal at n digits) h = tt
term_aggregates s g around (TermTree.text at m) h = tt
term_aggregates s g around (TermTree.flag at b) h = tt
term_aggregates s g around (TermTree.binary at operator left right) h =
    let p = binary_parts s (groups g) around at operator left right h in
    all_both (IsFine s g.by) (written left) (written right) (term_aggregates s g around left p.0) (term_aggregates s g around right p.1)
term_aggregates s g around (TermTree.negate at e) h = term_aggregates s g around e (negate_parts s (groups g) around at e h).0
term_aggregates s g around (TermTree.not at e) h = term_aggregates s g around e (not_parts s (groups g) around at e h).0
term_aggregates s g around (TermTree.case at parts) h = term_aggregates s g at parts h
term_aggregates s g around (TermTree.when condition value rest) h =
    let p = when_parts s (groups g) around condition value rest h in
    all_both (IsFine s g.by) (written condition ++ written value) (written rest)
    (all_both (IsFine s g.by) (written condition) (written value) (term_aggregates s g around condition p.0) (term_aggregates s g around value p.1))
    (term_aggregates s g around rest p.2)
term_aggregates s g around (TermTree.count_rows at) h = (counted s g.by None refl refl, tt)
term_aggregates s g around (TermTree.aggregate at word e) h =
    let p = aggregate_parts s (groups g) around at word e h in
    (aggregates s g at word e p.0 p.1 (term_known s (groups g) around (TermTree.aggregate at word e) h), tt)

-- each aggregate of an item without a fault
item_aggregates : (s : Scope) (g : Grouping) (item : ItemTree) → item_faults s (groups g) item ≡ [] → AllByRecursion (IsFine s g.by) (item_written item)
item_aggregates s g (ItemTree.star at) h = tt
item_aggregates s g (ItemTree.star_of at qualifier) h = tt
item_aggregates s g (ItemTree.value e alias) h = term_aggregates s g 0 e h

-- each aggregate of items without a fault
pub items_aggregates :
    (s : Scope) (g : Grouping) (items : List ItemTree) → items_faults s (groups g) items ≡ [] →
    AllByRecursion (IsFine s g.by) (items_written items)
items_aggregates s g [] h = tt
items_aggregates s g (item ∷ items) h =
    let p = none_of (item_faults s (groups g) item) (items_faults s (groups g) items) h in
    all_both (IsFine s g.by) (item_written item) (items_written items) (item_aggregates s g item p.0) (items_aggregates s g items p.1)

-- what is taken of the arguments has the kinds that are named
pub taken_kinds :
    (s : Scope) (by : Bool) (ks : List Kind) (n : ℕ) (ws : List Written) → AllByRecursion (IsFine s by) ws → StandsAt (argument_kind s) ks n ws →
    map (agg_kind ks) (taken_from n ws) ≡ map (written_kind s) ws
taken_kinds s by ks n [] a h = refl
taken_kinds s by ks n (w ∷ ws) a h =
    let e = a.0.kind ks n h.0 in
    let r = taken_kinds s by ks (n + 1) ws a.1 h.1 in
    λ i. e i ∷ r i

-- without GROUP BY all are sums
pub all_sums : (s : Scope) (n : ℕ) (ws : List Written) → AllByRecursion (IsFine s false) ws → list_all is_sum (taken_from n ws) ≡ true
all_sums s n [] a = refl
all_sums s n (w ∷ ws) a = and_from _ _ (a.0.sums refl n) (all_sums s (n + 1) ws a.1)

-- the kinds of aggregates are known
pub written_known : (s : Scope) (by : Bool) (ws : List Written) → AllByRecursion (IsFine s by) ws → AllByRecursion IsKnown (map (written_kind s) ws)
written_known s by [] a = tt
written_known s by (w ∷ ws) a = (a.0.is_known, written_known s by ws a.1)

-- and so are those of their arguments
pub arguments_known : (s : Scope) (by : Bool) (ws : List Written) → AllByRecursion (IsFine s by) ws → AllByRecursion IsKnown (map (argument_kind s) ws)
arguments_known s by [] a = tt
arguments_known s by (w ∷ ws) a = (a.0.argument, arguments_known s by ws a.1)
