-- What sources hold: as many tables as are counted, in which no number leaves the range.
use Rattle.std.specs.Prelude.{◌≡◌, ℕ, List, [], ◌∷◌, length, map, Option, Some, None, Vec}
use Rattle.std.specs.declared.alloc.Global.{Global}
use Rattle.std.proofs.Common.{arith, refl, sym, ap, subst}
use Rattle.std.proofs.lemmas.Bool.{and_from}
use Rattle.std.proofs.lemmas.List.{length-append}
use Rattle.au_value.specs.declared.value.Value.{Value}
use Rattle.au_algebra.specs.Ordinary.{Rows}
use Rattle.au_algebra.proofs.Each.{all_append}
use Rattle.au_blocks.specs.Tables.{BlockTable}
use Rattle.au_plain.specs.Meaning.{kept}
use Rattle.au_plain.specs.PlanKinds.{FitRows, FitTables}
use Rattle.au_plain.proofs.Held.{RowFits, column_fits}
use Rattle.au_program.specs.KeptRows.{kept_rows}
use Rattle.au_program.specs.Sources.{Holds, count}
use Rattle.au_program.specs.declared.sources.Sources.{Sources}
use Rattle.au_program.specs.declared.sources.Sources.TheVariants as code

-- ---- rows of which some columns are kept

row_kept : (places : List ℕ) (row : List Value) → RowFits row → RowFits (kept places row)
row_kept [] row h = refl
row_kept (i ∷ places) row h = and_from _ _ (column_fits row i h) (row_kept places row h)

all_kept : (places : List ℕ) (rows : Rows) → FitRows rows → FitRows (map (kept places) rows)
all_kept places [] h = tt
all_kept places (row ∷ rows) h = (row_kept places row h.0, all_kept places rows h.1)

pub kept_fit : (places : Option (Vec ℕ Global)) (rows : Rows) → FitRows rows → FitRows (kept_rows places rows)
kept_fit None rows h = h
kept_fit (Some places) rows h = all_kept places.items rows h

-- ---- what is held

module _ (ts : List BlockTable) where
  pub holds_count : (s : Sources) (rows : List Rows) → Holds ts s rows → length rows ≡ count s
  holds_count code.Nothing rows h = ap length h
  holds_count (code.Table' p before place places) rows h =
      let one : length h.back ≡ 1 = ap length h.here.are in
      let front = holds_count before h.front h.before in
      omega (arith, ap length h.are, length-append h.front h.back, front, one)
  holds_count (code.Step' p before q own how) rows h =
      let one : length h.back ≡ 1 = ap length h.here.are in
      let front = holds_count before h.front h.before in
      omega (arith, ap length h.are, length-append h.front h.back, front, one)
  holds_count (code.Pairs' p before q left r right pairing) rows h =
      let four : length h.back ≡ 4 = ap length h.here.are in
      let front = holds_count before h.front h.before in
      omega (arith, ap length h.are, length-append h.front h.back, front, four)

  pub holds_fit : (s : Sources) (rows : List Rows) → Holds ts s rows → FitTables rows
  holds_fit code.Nothing rows h = subst FitTables (sym h) tt
  holds_fit (code.Table' p before place places) rows h =
      let last : FitTables h.back = subst FitTables (sym h.here.are) (kept_fit places _ h.here.at.fit, tt) in
      subst FitTables (sym h.are) (all_append FitRows h.front h.back (holds_fit before h.front h.before) last)
  holds_fit (code.Step' p before q own how) rows h =
      let last : FitTables h.back = subst FitTables (sym h.here.are) (h.here.fit, tt) in
      subst FitTables (sym h.are) (all_append FitRows h.front h.back (holds_fit before h.front h.before) last)
  holds_fit (code.Pairs' p before q left r right pairing) rows h =
      subst FitTables (sym h.are) (all_append FitRows h.front h.back (holds_fit before h.front h.before) h.here.fit)
