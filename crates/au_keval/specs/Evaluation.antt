-- What is known of the rows that the evaluation of a tree gave.
-- They are lent by a table, or were made by an operator.
use Rattle.std.specs.Prelude.{◌≡◌, Bool, true, false, List, Some, flat_map, Result, MatchResult}
use Rattle.std.specs.List.{AllZip}
use Rattle.au_value.specs.declared.kinds.Kind.{Kind}
use Rattle.au_expr.specs.Evaluate.{Operators}
use Rattle.au_expr.specs.Figures.{Figures}
use Rattle.au_expr.specs.declared.fault.EvalFault.{EvalFault}
use Rattle.au_expr.specs.declared.fault.EvalFault.TheVariants as fault
use Rattle.au_algebra.specs.Entries.{Entry}
use Rattle.au_algebra.specs.Trees.{Tree}
use Rattle.au_algebra.specs.Typing.{kinds_of}
use Rattle.au_algebra.specs.Positive.{Annotations, positive}
use Rattle.au_keval.specs.declared.rows.Rows.{Rows}
use Rattle.au_keval.specs.declared.rows.Rows.TheVariants.{Lent, Made}
use Rattle.au_keval.specs.Held.{held_entries}
use Rattle.au_keval.specs.Passes.{kept}
use Rattle.au_keval.specs.Reading.{IsRelationOver, fits}

abbrev pub rows_in : {C K : Type 0} → Rows C K → List (Entry C K)
rows_in (Lent rows) = held_entries rows.now
rows_in (Made rows) = held_entries rows.items

-- no row that an operator made has the annotation zero
abbrev pub IsPresent : {C K : Type 0} → Annotations C K → Rows C K → Type 0
IsPresent a (Lent rows) = Unit {0}
IsPresent a (Made rows) = flat_map (kept a) (held_entries rows.items) ≡ held_entries rows.items

-- rows of the kinds that the tree is typed with
abbrev pub HasRows : {C K : Type 0} → (Kind → C → Type 0) → (K → Type 0) → Tree → List (List (Entry C K)) → List (Entry C K) → Type 0
HasRows is_kind is_valid q ts rows =
    (kinds : List (List Kind)) (ks : List Kind) → AllZip (IsRelationOver is_kind is_valid) kinds ts → kinds_of kinds q ≡ Some ks → IsRelationOver is_kind is_valid ks rows

-- the rows are the tree's, whose numbers fit
pub record Answered {C K : Type 0} (d : Operators C) (n : Figures C) (a : Annotations C K) (in_range : K → Bool) (is_kind : Kind → C → Type 0) (is_valid : K → Type 0) (q : Tree) (ts : List (List (Entry C K))) (rows : Rows C K) : Type 0 where
  pub rows_are : rows_in rows ≡ positive d a q ts
  pub fits_all : fits d n a in_range q ts ≡ true
  pub present : IsPresent a rows
  pub valid : HasRows is_kind is_valid q ts (positive d a q ts)

-- The rows of a tree are known, or an overflow comes only where its numbers don't fit.
abbrev pub Evaluates : {C K : Type 0} → Operators C → Figures C → Annotations C K → (K → Bool) → (Kind → C → Type 0) → (K → Type 0) → Tree → List (List (Entry C K)) → Result (Rows C K) EvalFault → Type 0
Evaluates d n a in_range is_kind is_valid q ts result =
    MatchResult result (λ rows. Answered d n a in_range is_kind is_valid q ts rows) (λ f. f ≡ fault.Overflow → fits d n a in_range q ts ≡ false)
