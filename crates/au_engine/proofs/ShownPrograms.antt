-- What the plan of a program gives over its sources: what is asked of the tree.
use Rattle.std.specs.Prelude.{◌≡◌, ℕ, Bool, false, List, [], map}
use Rattle.std.proofs.Common.{⊎_elim, refl}
use Rattle.au_value.specs.declared.kinds.Kind.{Kind}
use Rattle.au_expr.specs.Figures.{fit}
use Rattle.au_algebra.specs.Bounded.{Bounded, normal}
use Rattle.au_algebra.specs.Ordinary.{Rows}
use Rattle.au_algebra.specs.Trees.{Tree}
use Rattle.au_algebra.specs.Typing.{IsTyped}
use Rattle.au_blocks.specs.Tables.{BlockTable, column_kinds}
use Rattle.au_physical.specs.PhysicalKinds.{IsPhysicalFor}
use Rattle.au_physical.specs.PhysicalMeaning.{physical_rows}
use Rattle.au_physical.specs.PhysicalNumbers.{physical_numbers}
use Rattle.au_physical.specs.Physicals.{PhysicalTree}
use Rattle.au_encode.specs.Encode.{AreEncoded, decode}
use Rattle.au_program.specs.Inputs.{StandsReady}
use Rattle.au_program.specs.Programs.{HoldsMore, ShowsTree}
use Rattle.au_program.specs.Sources.{CanRun, Holds}
use Rattle.au_program.specs.Stages.{AddsTree, CanRunPlan, FindsRows}
use Rattle.au_program.specs.declared.rules.Rules.{Rules}
use Rattle.au_program.specs.declared.sources.Sources.{Sources}
use Rattle.au_program.proofs.CompressedPairs.{decodes, found_encoded}
use Rattle.au_program.proofs.FoundSteps.{own_part, own_runs, own_stops, ready_stands}
use Rattle.au_program.proofs.StageRuns.{finds, leaves, startable}
use Rattle.au_engine.specs.Answers.{Named, blocks_of, tree_asked, tree_asked_fits}
use Rattle.au_engine.specs.Finding.{SideStops}
use Rattle.au_engine.proofs.PlanRuns.{shown_decodes, shown_leaves, shown_runs, tree_leaves}

module _ (rules : Rules) (combined : Bool) (ts : List Named) (q : Tree) (typed : IsTyped (map column_kinds (blocks_of ts)) q) (sources : Sources) (p : PhysicalTree) (d : ℕ)
    (s : ShowsTree rules combined (map column_kinds (blocks_of ts)) q sources p d)
  where
    abbrev tables : List BlockTable
    tables = blocks_of ts

    abbrev kinds : List (List Kind)
    kinds = map column_kinds tables

    module _ (held : List Rows) (h : Holds tables sources held) where
      abbrev more : HoldsMore tables s.own held s.ready.improved p
      more = s.ready.reads.holds tables held h

      stands : StandsReady more.whole held s.shown p
      stands = ready_stands s.own sources s.shown p s.ready tables held h

      part : AddsTree rules tables q [] more.whole s.of s.columns
      part = own_part rules kinds q typed s.own s.of s.columns s.plans tables refl more.whole more.of

      can : CanRunPlan more.whole s.shown d
      can = shown_runs rules combined ts q typed more.whole s.of s.shown s.columns d s.wide s.shows part

      found : FindsRows more.whole s.shown d (physical_rows p held)
      found = finds more.whole held s.shown d p can stands (physical_rows p held) refl

      -- it can be run, and its rows be decoded
      pub shown_starts : IsPhysicalFor held p
      shown_starts = startable more.whole held s.shown d p can stands

      pub shown_encoded : AreEncoded d (physical_rows p held)
      shown_encoded = found_encoded more.whole s.shown d (physical_rows p held) can found

      -- they have the normal form of what is asked
      pub shown_answer : (rel : Bounded) → rel ≡ decode d (physical_rows p held) → normal rel ≡ tree_asked rules combined ts q
      shown_answer rel is =
          shown_decodes rules combined ts q typed more.whole s.of s.shown s.columns d s.wide s.shows part rel
          (decodes more.whole s.shown d (physical_rows p held) rel is found)

      shown_out : fit (physical_numbers p held) ≡ false → tree_asked_fits rules combined ts q ≡ false
      shown_out out =
          shown_leaves rules combined ts q typed more.whole s.of s.shown s.columns d s.wide s.shows part
          (leaves more.whole held s.shown d p can stands out)

    -- all steps before it can be run
    pub shown_can : CanRun tables sources
    shown_can = s.ready.reads.can_run tables (own_runs rules kinds q typed s.own s.of s.columns s.plans tables refl)

    -- a number that leaves the range is one of what is asked
    pub shown_stops : SideStops tables sources p → tree_asked_fits rules combined ts q ≡ false
    shown_stops stops =
        ⊎_elim
        (λ x. tree_leaves rules combined ts q (own_stops rules kinds q typed s.own s.of s.columns s.plans tables refl (s.ready.reads.may_stop tables x)))
        (λ l. shown_out l.0 l.1.0 l.1.1)
        stops
