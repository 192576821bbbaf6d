-- What a plan's run finds over tables that are held up to order, by a physical plan that stands for it.
use Rattle.std.specs.Prelude.{◌≡◌, ℕ, false, List, [], ◌∷◌, ◌++◌, ℤ, map, is_some}
use Rattle.std.specs.List.{AllZip}
use Rattle.std.proofs.Common.{refl, sym, ◌∙◌, ap, subst, append-nil}
use Rattle.std.proofs.lemmas.Bool.{true≢false}
use Rattle.au_value.specs.declared.kinds.Kind.{Kind}
use Rattle.au_value.specs.Order.{kind_of}
use Rattle.au_expr.specs.Figures.{Fit, fit}
use Rattle.au_algebra.specs.Bounded.{Bounded}
use Rattle.au_algebra.specs.Laws.{IsRelation}
use Rattle.au_algebra.specs.Lists.{copies}
use Rattle.au_algebra.specs.Ordinary.{Rows}
use Rattle.au_plain.specs.PlanKinds.{FitTables, HaveKinds, IsTypedFor}
use Rattle.au_plain.specs.Plans.{PlanTree}
use Rattle.au_plain.proofs.Held.{RowFits}
use Rattle.au_plan.specs.Implements.{Implements}
use Rattle.au_physical.specs.PhysicalKinds.{IsPhysicalFor}
use Rattle.au_physical.specs.PhysicalMeaning.{physical_rows}
use Rattle.au_physical.specs.PhysicalNumbers.{physical_numbers}
use Rattle.au_physical.specs.Physicals.{PhysicalTree}
use Rattle.au_plan.proofs.UpToOrder.{all_same}
use Rattle.au_encode.specs.Encode.{encode, encoded_kinds}
use Rattle.au_encode.specs.Gives.{GivesRelation}
use Rattle.au_program.specs.Inputs.{StandsReady}
use Rattle.au_program.specs.Stages.{Adds, CanRunPlan, FindsRows, GivesOver, LeavesRange, SameRows}
use Rattle.au_program.proofs.OtherTables.{numbers_fit, rows_same}

-- rows in another order have the same kinds, and numbers that fit as well
same_kinds : (kinds : List (List Kind)) (held tables : List Rows) → AllZip SameRows held tables → AllZip HaveKinds kinds tables → AllZip HaveKinds kinds held
same_kinds [] [] [] s h = tt
same_kinds [] [] (t ∷ tables) s h = elim h [ ]
same_kinds [] (x ∷ held) [] s h = elim s [ ]
same_kinds [] (x ∷ held) (t ∷ tables) s h = elim h [ ]
same_kinds (ks ∷ kinds) [] [] s h = elim h [ ]
same_kinds (ks ∷ kinds) [] (t ∷ tables) s h = elim s [ ]
same_kinds (ks ∷ kinds) (x ∷ held) [] s h = elim s [ ]
same_kinds (ks ∷ kinds) (x ∷ held) (t ∷ tables) s h = (all_same (λ row. map kind_of row ≡ ks) x t s.0 h.0, same_kinds kinds held tables s.1 h.1)

same_fits : (held tables : List Rows) → AllZip SameRows held tables → FitTables held → FitTables tables
same_fits [] [] s h = tt
same_fits [] (t ∷ tables) s h = elim s [ ]
same_fits (x ∷ held) [] s h = elim s [ ]
same_fits (x ∷ held) (t ∷ tables) s h = (all_same RowFits t x (λ v. sym (s.0 v)) h.0, same_fits held tables s.1 h.1)

module _ (held : List Rows) (p : PlanTree) (c : ℕ) (ks : List Kind) (rows : Bounded) (ns : List ℤ) (a : Adds [] held p c ks rows ns) where
  -- over all its tables
  own : GivesOver 0 held p ks rows ns
  own = subst (λ hs. GivesOver 0 hs p ks rows ns) (sym a.behind) a.over

  held_kinds : AllZip HaveKinds own.kinds held
  held_kinds = same_kinds own.kinds held own.tables own.same own.typed

  module _ (held_fit : FitTables held) where
    here : GivesRelation own.kinds own.tables p ks rows ns
    here =
        let t : own.tables ++ [] ≡ own.tables = append-nil own.tables in
        let k : own.kinds ++ [] ≡ own.kinds = append-nil own.kinds in
        subst (λ tk. GivesRelation tk own.tables p ks rows ns) k
        (subst (λ ts. GivesRelation (own.kinds ++ []) ts p ks rows ns) t (own.gives [] [] [] [] refl refl (subst FitTables (sym t) (same_fits held own.tables own.same held_fit))))

    -- it gives a relation
    pub adds_relation : IsRelation ks rows
    adds_relation = here.relation

    typed_for : IsTypedFor held p
    typed_for = record { kinds = own.kinds; tables = held_kinds; typed = ap is_some here.typed }

    module _ (q : PhysicalTree) (stands : Implements p q) where
      -- the physical plan can be run
      can_start : IsPhysicalFor held q
      can_start = record { kinds = own.kinds; tables = held_kinds; typed = ap is_some (stands.typed own.kinds (encoded_kinds ks) here.typed) }

      -- its rows are those of the relation
      same_found : SameRows (physical_rows q held) (encode rows)
      same_found v = stands.rows held typed_for v ∙ rows_same held own.tables own.same p v ∙ ap (copies v) here.encoded

      -- it leaves the range only where a number of the relation does
      run_fits : Fit ns → Fit (physical_numbers q held)
      run_fits f = stands.numbers held held_fit typed_for (numbers_fit held own.tables own.same p (here.fit f))

-- a plan that is ready to run over the rows that it reads
module _ (held now : List Rows) (p : PlanTree) (c : ℕ) (q : PhysicalTree) (can : CanRunPlan held p c) (r : StandsReady held now p q) where
  pub startable : IsPhysicalFor now q
  startable = r.reads.typed (can_start held p c can.0 can.1.0 can.1.1.0 can.1.1.1 r.fit r.improved r.stands)

  -- the numbers of the whole plan are those that are met
  numbers : physical_numbers q now ≡ physical_numbers r.improved held
  numbers = r.reads.numbers

  pub finds : (found : Rows) → found ≡ physical_rows q now → FindsRows held p c found
  finds found is = (
    r.fit,
    λ ks rows ns a v. ap (copies v) (is ∙ r.reads.rows) ∙ same_found held p c ks rows ns a r.fit r.improved r.stands v,
  )

  pub leaves : fit (physical_numbers q now) ≡ false → LeavesRange held p c
  leaves not ks rows ns a f =
      true≢false (sym (subst Fit (sym numbers) (run_fits held p c ks rows ns a r.fit r.improved r.stands f)) ∙ not)
