-- Two tables put together: that of some rows, and that of the rows behind them.
use Rattle.std.specs.Prelude.{◌≡◌, ℕ, true, false, List, [], ◌∷◌, Result, MatchResult, map}
use Rattle.au_value.specs.Adding.{Sum, no_terms}
use Rattle.au_value.specs.Joining.{joined_sum}
use Rattle.au_expr.specs.Figures.{fit}
use Rattle.au_expr.specs.declared.fault.EvalFault.{EvalFault}
use Rattle.au_expr.specs.declared.fault.EvalFault.TheVariants as fault
use Rattle.au_plain.specs.declared.plan.PAgg.{PAgg}
use Rattle.au_plain.specs.declared.plan.PAgg.TheVariants as agg
use Rattle.au_folds.specs.Kept.{Kept, Sums, Lowest, Highest, greatest_with, least_with}
use Rattle.au_folds.specs.Places.{places_among, seen_after}
use Rattle.au_folds.specs.Puts.{put_all}
use Rattle.au_folds.specs.Tables.{Table, table_numbers, table_with}

-- the aggregate of which something is kept
abbrev pub agg_of : Kept → PAgg
agg_of (Sums c ss) = agg.Sum c
agg_of (Lowest c zs) = agg.Min c
agg_of (Highest c zs) = agg.Max c

-- the tables have the same key columns and aggregates
pub record Alike (t u : Table) : Type 0 where
  pub keys : u.keys ≡ t.keys
  pub aggs : map agg_of u.kept ≡ map agg_of t.kept

-- sums that stand at places are added
abbrev pub sums_joined : List Sum → List ℕ → List Sum → List Sum
sums_joined ss places us = put_all (joined_sum no_terms) joined_sum ss places us

-- what is kept of an aggregate by both tables, by the places of the second one's keys
abbrev pub joined_kept : List ℕ → Kept → Kept → Kept
joined_kept places (Sums c ss) (Sums d us) = Sums c (sums_joined ss places us)
joined_kept places (Lowest c zs) (Lowest d us) = Lowest c (least_with zs places us)
joined_kept places (Highest c zs) (Highest d us) = Highest c (greatest_with zs places us)
joined_kept places k u = k

abbrev pub joined_all : List ℕ → List Kept → List Kept → List Kept
joined_all places [] us = []
joined_all places (k ∷ ks) [] = k ∷ ks
joined_all places (k ∷ ks) (u ∷ us) = joined_kept places k u ∷ joined_all places ks us

-- both tables
abbrev pub merged : Table → Table → Table
merged t u = table_with t.keys (seen_after t.seen u.seen) (joined_all (places_among t.seen u.seen) t.kept u.kept)

-- a call that gives both, unless a magnitude leaves 128 bits
abbrev pub Merges : Table → Table → Result Table EvalFault → Type 0
Merges t u result =
    MatchResult result
    (λ all. (all ≡ merged t u) × (fit (table_numbers all) ≡ true))
    (λ f. f ≡ fault.Overflow → fit (table_numbers (merged t u)) ≡ false)
