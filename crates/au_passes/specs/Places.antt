-- Which places some places are,
-- and what columns become over other rows.
use Rattle.std.specs.Prelude.{ℕ, Bool}
use Rattle.au_plain.specs.PTerms.{PTerm, pterm}
use Rattle.au_passes.specs.declared.columns.Places.{Places}
use Rattle.au_passes.specs.declared.columns.Places.TheVariants.{OtherThan, Before, From}
use Rattle.au_passes.specs.declared.columns.Change.{Change}
use Rattle.au_passes.specs.declared.columns.Change.TheVariants.{Defined, Renamed, CountedFrom}
use Rattle.au_passes.specs.Tests.{defined, renamed, counted_from}
use Rattle.au_passes.specs.Pushing.{other_than, before, from}

abbrev pub is_among : Places → ℕ → Bool
is_among (OtherThan n) i = other_than n i
is_among (Before n) i = before n i
is_among (From n) i = from n i

abbrev pub column_in : Change → ℕ → PTerm
column_in (Defined n e) i = defined n (pterm e.now) i
column_in (Renamed places) i = renamed places.now i
column_in (CountedFrom n) i = counted_from n i
