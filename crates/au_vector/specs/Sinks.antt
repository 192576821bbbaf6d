-- Sinks: where the rows of a stream go. They are listed, or put into groups.
use Rattle.std.specs.Prelude.{◌≡◌, Bool, ◌&&◌, true, false, ℕ, List, [], ◌++◌, flat_map, Result, Ok, Err, MatchResult}
use Rattle.au_expr.specs.declared.fault.EvalFault.{EvalFault}
use Rattle.au_expr.specs.declared.fault.EvalFault.TheVariants as fault
use Rattle.au_expr.specs.Figures.{fit}
use Rattle.au_plain.specs.declared.plan.PAgg.{PAgg}
use Rattle.au_codes.specs.Codes.{CellRows}
use Rattle.au_folds.specs.Merged.{merged}
use Rattle.au_folds.specs.Tables.{Table, empty_table, finished, grown, table_numbers}
use Rattle.au_vector.specs.declared.sink.Held.{Held}
use Rattle.au_vector.specs.declared.sink.Held.TheVariants as held
use Rattle.au_vector.specs.declared.sink.Kind.{Kind}
use Rattle.au_vector.specs.declared.sink.Kind.TheVariants as kind
use Rattle.au_vector.specs.Widths.{HaveWidth}

-- what is in a sink: rows, or the table of rows by these keys and aggregates
pub data Contents : Type 0 where
  Listed : CellRows → Contents
  Grouped : List ℕ → List PAgg → Table → Contents

-- with more rows
abbrev pub filled : Contents → CellRows → Contents
filled (Listed rows) more = Listed (rows ++ more)
filled (Grouped keys aggs t) more = Grouped keys aggs (grown t more)

-- without a row
abbrev pub emptied : Contents → Contents
emptied (Listed rows) = Listed []
emptied (Grouped keys aggs t) = Grouped keys aggs (empty_table keys aggs)

abbrev pub empty_of : Kind → Contents
empty_of kind.Rows = Listed []
empty_of (kind.Groups keys aggs) = Grouped keys.now aggs.now (empty_table keys.now aggs.now)

-- with those of another sink of its kind behind them
abbrev pub joined : Contents → Contents → Contents
joined (Listed rows) (Listed more) = Listed (rows ++ more)
joined (Listed rows) (Grouped keys aggs t) = Listed rows
joined (Grouped keys aggs t) (Listed more) = Grouped keys aggs t
joined (Grouped keys aggs t) (Grouped ms bs u) = Grouped keys aggs (merged t u)

-- whether the magnitudes of its sums fit
abbrev pub within : Contents → Bool
within (Listed rows) = true
within (Grouped keys aggs t) = fit (table_numbers t)

-- the rows that it gives
abbrev pub outcome : Contents → CellRows
outcome (Listed rows) = rows
outcome (Grouped keys aggs t) = finished t

-- rows of one width can be given
abbrev pub CanFinish : Contents → Type 0
CanFinish (Listed rows) = (w : ℕ) × HaveWidth w rows
CanFinish (Grouped keys aggs t) = Unit {0}

-- it was filled from nothing
abbrev pub IsFilled : Contents → Type 0
IsFilled contents = (rows : CellRows) × (contents ≡ filled (emptied contents) rows)

-- as it is held
abbrev pub contents_of : Held → Contents
contents_of (held.Rows batches) = Listed (flat_map (λ rows. rows) batches.items)
contents_of (held.Groups keys aggs groups) = Grouped keys.now aggs.now groups

-- a call that puts in some rows, of which is known whether the numbers fit that make them
abbrev pub Takes : Contents → CellRows → Bool → Result Contents EvalFault → Type 0
Takes before rows fits result =
    MatchResult result
    (λ after. (after ≡ filled before rows) × ((fits && within (filled before rows)) ≡ true))
    (λ f. f ≡ fault.Overflow → (fits && within (filled before rows)) ≡ false)

-- a call that puts two sinks together
abbrev pub Joins : Contents → Contents → Result Contents EvalFault → Type 0
Joins first second result =
    MatchResult result
    (λ after. (after ≡ joined first second) × (within (joined first second) ≡ true))
    (λ f. f ≡ fault.Overflow → within (joined first second) ≡ false)

-- a call that gives the rows of a sink, where it could be filled
abbrev pub Finishes : Result Contents EvalFault → Result CellRows EvalFault → Type 0
Finishes sink result =
    MatchResult result
    (λ made. (contents : Contents) × (sink ≡ Ok contents) × (made ≡ outcome contents))
    (λ f. f ≡ fault.Overflow → sink ≡ Err fault.Overflow)
