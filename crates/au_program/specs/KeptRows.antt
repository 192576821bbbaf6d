-- Of rows the values in the places that are kept.
use Rattle.std.specs.Prelude.{ℕ, map, Option, Some, None, Vec}
use Rattle.std.specs.declared.alloc.Global.{Global}
use Rattle.au_algebra.specs.Ordinary.{Rows}
use Rattle.au_plain.specs.Meaning.{kept}

-- all of them, where no places are named
abbrev pub kept_rows : Option (Vec ℕ Global) → Rows → Rows
kept_rows None rows = rows
kept_rows (Some places) rows = map (kept places.items) rows
