-- What is put behind the inputs of a plan, and where finding them stops: a number of a plan leaves the range over something that
-- its sources hold.
use Rattle.std.specs.Prelude.{◌≡◌, ◌⊎◌, ◌++◌, false, List}
use Rattle.au_expr.specs.Figures.{fit}
use Rattle.au_algebra.specs.Ordinary.{Rows}
use Rattle.au_blocks.specs.Tables.{BlockTable}
use Rattle.au_physical.specs.PhysicalMeaning.{physical_rows}
use Rattle.au_physical.specs.PhysicalNumbers.{physical_numbers}
use Rattle.au_physical.specs.Physicals.{PhysicalTree}
use Rattle.au_program.specs.Sources.{Holds, LeavesOver, PairsLeave, Stops}
use Rattle.au_program.specs.declared.sources.Pairing.{Pairing}
use Rattle.au_program.specs.declared.sources.Sources.{Sources}
use Rattle.au_program.specs.declared.sources.Ways.{Ways}

-- rows were put behind others
abbrev pub IsAppended : (List Rows → Type 0) → List Rows → List Rows → Type 0
IsAppended Last old new = (back : List Rows) × (Last back × (new ≡ old ++ back))

-- it stops at a step or at a product behind other sources, and at one plan over its sources
abbrev pub StepStops : List BlockTable → Sources → Sources → Ways → Type 0
StepStops ts before own how = Stops ts before ⊎ (Stops ts own ⊎ LeavesOver (Holds ts own) how)

abbrev pub ProductStops : List BlockTable → Sources → Sources → Sources → Pairing → Type 0
ProductStops ts before left right pairing = Stops ts before ⊎ (Stops ts left ⊎ (Stops ts right ⊎ PairsLeave (Holds ts left) (Holds ts right) pairing))

-- rows that a plan gives over something that its sources hold
abbrev pub IsFoundBy : List BlockTable → Sources → PhysicalTree → Rows → Type 0
IsFoundBy ts own p rows = (held : List Rows) × (Holds ts own held × (rows ≡ physical_rows p held))

abbrev pub SideStops : List BlockTable → Sources → PhysicalTree → Type 0
SideStops ts own p = Stops ts own ⊎ ((held : List Rows) × (Holds ts own held × (fit (physical_numbers p held) ≡ false)))
