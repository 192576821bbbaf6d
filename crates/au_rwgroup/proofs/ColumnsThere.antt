-- Aggregates over columns that are there.
use Rattle.std.specs.Prelude.{ℕ, ◌<◌}
use Rattle.au_algebra.specs.declared.query.Agg.{Agg}
use Rattle.au_rwgroup.specs.Totals.{agg_place}

abbrev pub IsOn : ℕ → Agg → Type 0
IsOn c a = agg_place a < c
