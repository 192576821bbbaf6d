-- What a plan finds over sources of its own, as a source of another plan.
use Rattle.std.specs.Prelude.{◌≡◌, ◌⊎◌, ◌+◌, ◌*◌, ℕ, false, List, [], ◌∷◌, ◌++◌, length, map}
use Rattle.std.proofs.Common.{⊎_elim, inl, inr, refl, sym, ◌∙◌, ap, subst, append-nil}
use Rattle.au_value.specs.declared.kinds.Kind.{Kind}
use Rattle.au_expr.specs.Figures.{Fit, fit}
use Rattle.au_expr.proofs.Fits.{fit_parts}
use Rattle.au_algebra.specs.declared.query.Agg.{Agg}
use Rattle.au_algebra.specs.Bounded.{Bounded, combine}
use Rattle.au_algebra.specs.Fits.{triple_numbers}
use Rattle.au_algebra.specs.Ordinary.{Rows}
use Rattle.au_algebra.specs.Trees.{Tree, Group}
use Rattle.au_algebra.specs.Typing.{IsTyped}
use Rattle.au_blocks.specs.Tables.{BlockTable, column_kinds}
use Rattle.au_translate.specs.Translate.{bounded_table}
use Rattle.au_plain.specs.Plans.{PlanTree, Scan}
use Rattle.au_physical.specs.declared.physical.Physical.{Physical}
use Rattle.au_physical.specs.PhysicalKinds.{IsPhysicalFor}
use Rattle.au_physical.specs.PhysicalMeaning.{physical_rows}
use Rattle.au_physical.specs.PhysicalNumbers.{physical_numbers}
use Rattle.au_physical.specs.Physicals.{PhysicalTree, physical_tree}
use Rattle.au_plan.specs.Implements.{Implements}
use Rattle.au_combine.specs.Gives.{Combines}
use Rattle.au_program.specs.Inputs.{ReadsAll, StandsReady}
use Rattle.au_program.specs.Programs.{ChoosesGroups, HoldsBehind, HoldsMore, IsReady, PlansCombined, PlansTree, ScansGroups, ScansStep, numbers_over}
use Rattle.au_program.specs.Rules.{tree_rows}
use Rattle.au_program.specs.Sources.{Behind, CanRun, CanStart, Gives, Holds, IsFound, Leaves, LeavesOver, Stops}
use Rattle.au_program.specs.Stages.{AddsTree, CanRunPlan, GroupsBy, LeavesRange, Materializes}
use Rattle.au_program.specs.declared.rules.Rules.{Rules}
use Rattle.au_program.specs.declared.sources.Sources.{Sources}
use Rattle.au_program.specs.declared.sources.Sources.TheVariants as code
use Rattle.au_program.specs.declared.sources.Ways.TheVariants as ways
use Rattle.au_program.proofs.HeldSources.{holds_count, holds_fit}
use Rattle.au_program.proofs.Materialized.{combined_leaves, combined_materializes, combined_runs, materializes}
use Rattle.au_program.proofs.Operators.{typed_kinds}
use Rattle.au_program.proofs.PlanSteps.{group_adds, tree_runs}
use Rattle.au_program.proofs.StageRuns.{adds_relation, finds, leaves, startable}
use Rattle.au_program.proofs.TreeNumbers.{of_group}

-- ---- a plan over sources of its own

-- a tree's plan over nothing else
module _ (rules : Rules) (kinds : List (List Kind)) (q : Tree) (typed : IsTyped kinds q) (own : Sources) (p : PlanTree) (c : ℕ) (plans : PlansTree rules kinds q code.Nothing own p c)
    (ts : List BlockTable) (is : map column_kinds ts ≡ kinds)
  where
    abbrev own_rows : Bounded
    own_rows = tree_rows rules q (map bounded_table ts)

    pub typed_here : IsTyped (map column_kinds ts) q
    typed_here = subst (λ ks. IsTyped ks q) (sym is) typed

    pub own_part : (whole : List Rows) → Holds ts own whole → AddsTree rules ts q [] whole p c
    own_part whole h =
        let k : HoldsBehind ts code.Nothing (λ front rows. AddsTree rules ts q front rows p c) whole = plans.holds ts is whole h in
        subst (λ front. AddsTree rules ts q front whole p c) k.before k.knows

    pub own_can : (whole : List Rows) → Holds ts own whole → CanRunPlan whole p c
    own_can whole h = tree_runs rules ts q whole p c typed_here (own_part whole h)

    pub own_runs : CanRun ts own
    own_runs = plans.runs ts is tt

    pub own_stops : Stops ts own → ¬ (Fit (numbers_over rules q ts))
    own_stops s = ⊎_elim (λ (n : ⊥). absurd n) (λ n. n) (plans.stops ts is s)

    pub own_leaves : (whole : List Rows) → Holds ts own whole → LeavesRange whole p c → ¬ (Fit (numbers_over rules q ts))
    own_leaves whole h out =
        let k = typed_kinds (map column_kinds ts) q typed_here in
        out k.0 own_rows (numbers_over rules q ts) (own_part whole h k.0 k.1)

-- what is read of sources that are ready
module _ (old new : Sources) (p : PlanTree) (q : PhysicalTree) (r : IsReady old new p q) (ts : List BlockTable) (held : List Rows) (h : Holds ts new held) where
  abbrev more : HoldsMore ts old held r.improved q
  more = r.reads.holds ts held h

  alone : ReadsAll more.whole held r.improved q
  alone =
      subst (λ ws. ReadsAll ws held r.improved q) (append-nil more.whole)
      (subst (λ hs. ReadsAll (more.whole ++ []) hs r.improved q) (append-nil held) (more.reads []))

  pub ready_stands : StandsReady more.whole held p q
  ready_stands = record { improved = r.improved; stands = r.stands; reads = alone; fit = holds_fit ts old more.whole more.of }

-- ---- the Scan of what a plan finds

-- what is held of sources behind which it was put
record Moves (ts : List BlockTable) (own : Sources) (p : PlanTree) (c : ℕ) (old : Sources) (scan : PlanTree) (d : ℕ) (rows : List Rows) : Type 0 where
  front : List Rows
  before : Holds ts old front
  whole : List Rows
  of : Holds ts own whole
  moves : Materializes whole p c front rows scan d

-- a number that leaves the range is one of the sources before it, of its own or of what its plan gives
record LeavesOwn (ts : List BlockTable) (own : Sources) (p : PlanTree) (c : ℕ) : Type 0 where
  whole : List Rows
  of : Holds ts own whole
  out : LeavesRange whole p c

module _ (own old new : Sources) (p scan : PlanTree) (c d : ℕ) (s : ScansStep own p c old new scan d) (ts : List BlockTable) (can : (whole : List Rows) → Holds ts own whole → CanRunPlan whole p c) where
  step_moves : (rows : List Rows) → Holds ts new rows → Moves ts own p c old scan d rows
  step_moves rows h =
      let b : Behind (Holds ts old) (IsFound (Holds ts s.ready) (ways.Plan s.physical)) rows = s.behind.holds ts rows h in
      let f : IsFound (Holds ts s.ready) (ways.Plan s.physical) b.back = b.here in
      let m : HoldsMore ts own f.held s.stands.improved (physical_tree s.physical) = s.stands.reads.holds ts f.held f.of in
      let r = ready_stands own s.ready p (physical_tree s.physical) s.stands ts f.held f.of in
      record {
        front = b.front;
        before = b.before;
        whole = m.whole;
        of = m.of;
        moves =
            materializes m.whole p c f.found b.front rows scan d (finds m.whole f.held p c (physical_tree s.physical) (can m.whole m.of) r f.found f.gives)
            (b.are ∙ ap (λ l. b.front ++ l) f.are) s.columns (s.is ∙ ap (λ n. Scan n (3 * c + 3)) (sym (holds_count ts old b.front b.before)));
      }

  step_runs : CanRun ts old → CanRun ts own → CanRun ts new
  step_runs before runs =
      s.behind.can_run ts before
      (record {
        sources = s.stands.reads.can_run ts runs;
        plan = λ held h.
            (let m : HoldsMore ts own held s.stands.improved (physical_tree s.physical) = s.stands.reads.holds ts held h in
            startable m.whole held p c (physical_tree s.physical) (can m.whole m.of) (ready_stands own s.ready p (physical_tree s.physical) s.stands ts held h));
      })

  own_leave : LeavesOver (Holds ts s.ready) (ways.Plan s.physical) → LeavesOwn ts own p c
  own_leave l =
      let m : HoldsMore ts own l.0 s.stands.improved (physical_tree s.physical) = s.stands.reads.holds ts l.0 l.1.0 in
      record {
        whole = m.whole;
        of = m.of;
        out = leaves m.whole l.0 p c (physical_tree s.physical) (can m.whole m.of) (ready_stands own s.ready p (physical_tree s.physical) s.stands ts l.0 l.1.0) l.1.1;
      }

  step_stops : Stops ts new → Stops ts old ⊎ (Stops ts own ⊎ LeavesOwn ts own p c)
  step_stops stops =
      ⊎_elim (λ (o : Stops ts old). inl o)
      (λ mine. ⊎_elim (λ x. inr (inl (s.stands.reads.may_stop ts x))) (λ l. inr (inr (own_leave l))) mine)
      (s.behind.may_stop ts stops)

module _ (rules : Rules) (kinds : List (List Kind)) (q : Tree) (typed : IsTyped kinds q) (own : Sources) (p : PlanTree) (c : ℕ) (plans : PlansTree rules kinds q code.Nothing own p c) where
  -- it gives the tree's relation
  pub found_planned : (old new : Sources) (scan : PlanTree) (d : ℕ) → ScansStep own p c old new scan d → PlansTree rules kinds q old new scan d
  found_planned old new scan d s = record {
    holds = λ ts is rows h.
        (let m : Moves ts own p c old scan d rows = step_moves own old new p scan c d s ts (own_can rules kinds q typed own p c plans ts is) rows h in
        record {
          front = m.front;
          before = m.before;
          knows = λ ks e. m.moves.1 ks (tree_rows rules q (map bounded_table ts)) (numbers_over rules q ts) (own_part rules kinds q typed own p c plans ts is m.whole m.of ks e);
        });
    runs = λ ts is before. step_runs own old new p scan c d s ts (own_can rules kinds q typed own p c plans ts is) before (own_runs rules kinds q typed own p c plans ts is);
    stops = λ ts is stops.
        ⊎_elim (λ (o : Stops ts old). inl o)
        (λ mine.
        ⊎_elim (λ x. inr (own_stops rules kinds q typed own p c plans ts is x))
        (λ (l : LeavesOwn ts own p c). inr (own_leaves rules kinds q typed own p c plans ts is l.whole l.of l.out)) mine)
        (step_stops own old new p scan c d s ts (own_can rules kinds q typed own p c plans ts is) stops);
  }

  -- that of its combined rows gives the combined relation
  module _ (made : PlanTree) (b : ℕ) (wide : b ≡ c) (joined : Combines c p made) where
    combined_can : (ts : List BlockTable) → map column_kinds ts ≡ kinds → (whole : List Rows) → Holds ts own whole → CanRunPlan whole made b
    combined_can ts is whole h = combined_runs whole p c made b wide joined (own_can rules kinds q typed own p c plans ts is whole h)

    pub combined_planned : (old new : Sources) (scan : PlanTree) (d : ℕ) → ScansStep own made b old new scan d → PlansCombined rules kinds q old new scan d
    combined_planned old new scan d s = record {
      holds = λ ts is rows h.
          (let m : Moves ts own made b old scan d rows = step_moves own old new made scan b d s ts (combined_can ts is) rows h in
          let all = combined_materializes m.whole p c made b wide joined m.front rows scan d m.moves in
          let here = map bounded_table ts in
          record {
            front = m.front;
            before = m.before;
            knows = λ ks e.
                (let a = own_part rules kinds q typed own p c plans ts is m.whole m.of ks e in
                (all.1 ks (tree_rows rules q here) (numbers_over rules q ts) a, adds_relation m.whole p c ks (tree_rows rules q here) (numbers_over rules q ts) a all.0));
          });
      runs = λ ts is before. step_runs own old new made scan b d s ts (combined_can ts is) before (own_runs rules kinds q typed own p c plans ts is);
      stops = λ ts is stops.
          ⊎_elim (λ (o : Stops ts old). inl o)
          (λ mine.
          ⊎_elim
          (λ x. inr (λ f. own_stops rules kinds q typed own p c plans ts is x (fit_parts (numbers_over rules q ts) (triple_numbers (combine (tree_rows rules q (map bounded_table ts)))) f).0))
          (λ (l : LeavesOwn ts own made b).
          inr
          (let k = typed_kinds (map column_kinds ts) q (typed_here rules kinds q typed own p c plans ts is) in
          combined_leaves l.whole p c made b wide joined l.out k.0 (tree_rows rules q (map bounded_table ts)) (numbers_over rules q ts)
          (own_part rules kinds q typed own p c plans ts is l.whole l.of k.0 k.1)))
          mine)
          (step_stops own old new made scan b d s ts (combined_can ts is) stops);
    }

-- ---- the Scan of groups

-- a plan is ready over all that it reads
whole_ready : (whole : List Rows) (p : PlanTree) (q : Physical) (ts : List BlockTable) (own : Sources) → Holds ts own whole → Implements p (physical_tree q) → StandsReady whole whole p (physical_tree q)
whole_ready whole p q ts own h stands = record {
  improved = physical_tree q;
  stands = stands;
  reads = record { typed = λ t. t; rows = refl; numbers = refl };
  fit = holds_fit ts own whole h;
}

module _ (rules : Rules) (kinds : List (List Kind)) (keys : ℕ) (aggs : List Agg) (q : Tree) (typed : IsTyped kinds q) (grouped : IsTyped kinds (Group keys aggs q))
    (own : Sources) (p : PlanTree) (c : ℕ) (plans : PlansTree rules kinds q code.Nothing own p c)
  where
    abbrev wide : ℕ
    wide = keys + length aggs

    -- one of the two plans
    module _ (made : PlanTree) (groups : GroupsBy rules.points c keys aggs p made) (physical : Physical) (stands : Implements made (physical_tree physical)) (ts : List BlockTable) (is : map column_kinds ts ≡ kinds) (whole : List Rows) (h : Holds ts own whole) where
      groups_part : AddsTree rules ts (Group keys aggs q) [] whole made wide
      groups_part = group_adds rules ts q [] whole p made c wide (own_part rules kinds q typed own p c plans ts is whole h) keys aggs refl groups

      grouped_here : IsTyped (map column_kinds ts) (Group keys aggs q)
      grouped_here = subst (λ ks. IsTyped ks (Group keys aggs q)) (sym is) grouped

      groups_can : CanRunPlan whole made wide
      groups_can = tree_runs rules ts (Group keys aggs q) whole made wide grouped_here groups_part

      groups_start : IsPhysicalFor whole (physical_tree physical)
      groups_start = startable whole whole made wide (physical_tree physical) groups_can (whole_ready whole made physical ts own h stands)

      groups_found :
          (found : Rows) → found ≡ physical_rows (physical_tree physical) whole → (front rows : List Rows) (scan : PlanTree) (d : ℕ) → rows ≡ front ++ found ∷ [] → d ≡ wide → scan ≡ Scan (length front) (3 * wide + 3) →
          AddsTree rules ts (Group keys aggs q) front rows scan d
      groups_found found gives front rows scan d behind columns place ks e =
          (materializes whole made wide found front rows scan d
          (finds whole whole made wide (physical_tree physical) groups_can (whole_ready whole made physical ts own h stands) found gives) behind columns place).1
          ks (tree_rows rules (Group keys aggs q) (map bounded_table ts)) (numbers_over rules (Group keys aggs q) ts) (groups_part ks e)

      groups_leave : fit (physical_numbers (physical_tree physical) whole) ≡ false → ¬ (Fit (numbers_over rules (Group keys aggs q) ts))
      groups_leave out =
          let k = typed_kinds (map column_kinds ts) (Group keys aggs q) grouped_here in
          leaves whole whole made wide (physical_tree physical) groups_can (whole_ready whole made physical ts own h stands) out
          k.0 (tree_rows rules (Group keys aggs q) (map bounded_table ts)) (numbers_over rules (Group keys aggs q) ts) (groups_part k.0 k.1)

    -- the one that is chosen
    module _ (old new : Sources) (scan : PlanTree) (d : ℕ) (s : ScansGroups rules.points keys aggs own p c old new scan d) where
      abbrev ch : ChoosesGroups rules.points keys aggs p c s.how
      ch = s.chooses

      one_found :
          (ts : List BlockTable) → map column_kinds ts ≡ kinds → (held : List Rows) → Holds ts own held → (found : Rows) → Gives (ways.ByKeys keys ch.first ch.second) held found →
          (front rows : List Rows) → rows ≡ front ++ found ∷ [] → scan ≡ Scan (length front) (3 * wide + 3) → AddsTree rules ts (Group keys aggs q) front rows scan d
      one_found ts is held h found given front rows behind place =
          ⊎_elim
          (λ e. groups_found ch.folded ch.groups_folded ch.first ch.first_stands ts is held h found e front rows scan d behind s.columns place)
          (λ e. groups_found ch.each ch.groups_each ch.second ch.second_stands ts is held h found e front rows scan d behind s.columns place)
          given

      one_leaves : (ts : List BlockTable) → map column_kinds ts ≡ kinds → (held : List Rows) → Holds ts own held → Leaves (ways.ByKeys keys ch.first ch.second) held → ¬ (Fit (numbers_over rules (Group keys aggs q) ts))
      one_leaves ts is held h out =
          ⊎_elim
          (λ o. groups_leave ch.folded ch.groups_folded ch.first ch.first_stands ts is held h o)
          (λ o. groups_leave ch.each ch.groups_each ch.second ch.second_stands ts is held h o)
          out

      pub groups_planned : PlansTree rules kinds (Group keys aggs q) old new scan d
      groups_planned = record {
        holds = λ ts is rows h.
            (let b : Behind (Holds ts old) (IsFound (Holds ts own) s.how) rows = s.behind.holds ts rows h in
            let f : IsFound (Holds ts own) s.how b.back = b.here in
            record {
              front = b.front;
              before = b.before;
              knows =
                  one_found ts is f.held f.of f.found (subst (λ how. Gives how f.held f.found) ch.is f.gives) b.front rows (b.are ∙ ap (λ l. b.front ++ l) f.are)
                  (s.is ∙ ap (λ n. Scan n (3 * wide + 3)) (sym (holds_count ts old b.front b.before)));
            });
        runs = λ ts is before.
            s.behind.can_run ts before
            (record {
              sources = own_runs rules kinds q typed own p c plans ts is;
              plan = λ held h.
                  subst (λ how. CanStart how held) (sym ch.is)
                  (groups_start ch.folded ch.groups_folded ch.first ch.first_stands ts is held h, groups_start ch.each ch.groups_each ch.second ch.second_stands ts is held h);
            });
        stops = λ ts is stops.
            ⊎_elim (λ (o : Stops ts old). inl o)
            (λ mine.
            ⊎_elim
            (λ x. inr (λ f. own_stops rules kinds q typed own p c plans ts is x (of_group rules (map bounded_table ts) keys aggs q f)))
            (λ (l : LeavesOver (Holds ts own) s.how). inr (one_leaves ts is l.0 l.1.0 (subst (λ how. Leaves how l.0) ch.is l.1.1)))
            mine)
            (s.behind.may_stop ts stops);
      }
