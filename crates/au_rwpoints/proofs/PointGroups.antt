-- The outputs of points are those of Group's plan over the points.
use Rattle.std.specs.Prelude.{◌≡◌, ◌≤◌, ℕ, ◌+◌, ◌*◌, List, ◌++◌, filter, flat_map, length, map, nat_le, take, Some, ℤ}
use Rattle.std.specs.List.{AllByRecursion, list_any}
use Rattle.std.proofs.Common.{arith, refl, sym, ◌∙◌, ap, subst}
use Rattle.std.proofs.Math.Nat.{le_of_eq}
use Rattle.std.proofs.lemmas.List.{length-take-le}
use Rattle.au_value.specs.declared.kinds.Kind.{Kind}
use Rattle.au_value.specs.declared.kinds.Kind.TheVariants.{Int}
use Rattle.au_value.specs.declared.value.Value.{Value}
use Rattle.au_value.specs.Ranges.{all_certain, all_overlap, certain, guesses}
use Rattle.au_expr.specs.Figures.{Fit}
use Rattle.au_expr.proofs.Fits.{fit_parts}
use Rattle.au_algebra.specs.declared.query.Agg.{Agg}
use Rattle.au_algebra.specs.Bounded.{Bounded, Grouped, aggregate, guessed_keys}
use Rattle.au_algebra.specs.Entries.{entry}
use Rattle.au_algebra.specs.Fits.{agg_numbers}
use Rattle.au_algebra.specs.Lists.{same_row}
use Rattle.au_algebra.specs.Ordinary.{Rows}
use Rattle.au_algebra.specs.Typing.{all_kinds, agg_kind}
use Rattle.au_plain.specs.declared.plan.PAgg.{PAgg}
use Rattle.au_plain.specs.PlanKinds.{FitTables, plan_kinds}
use Rattle.au_plain.specs.PlanNumbers.{plan_numbers, scans}
use Rattle.au_plain.specs.Plans.{PlanTree}
use Rattle.au_encode.specs.Encode.{encode, encoded_kinds}
use Rattle.au_encode.specs.Gives.{GivesRelation}
use Rattle.au_encode.proofs.HeldCells.{gives_held}
use Rattle.au_rwexpr.proofs.Coded.{own}
use Rattle.au_rwexpr.proofs.Counting.{scans-extend_all}
use Rattle.au_rwexpr.proofs.Picks.{coded_cells}
use Rattle.au_rwexpr.proofs.Places.{EndsOfAll, all_ends_more}
use Rattle.au_rwexpr.proofs.PlanNumbersOf.{all_fit}
use Rattle.au_combine.proofs.BoxKinds.{twice}
use Rattle.au_rwgroup.specs.declared.folding.Folding.{Folding}
use Rattle.au_rwgroup.specs.Groups.{group_columns}
use Rattle.au_rwgroup.specs.GroupPlan.{kept_for}
use Rattle.au_rwgroup.proofs.AggregatesOn.{Typed, are_on, typed_on}
use Rattle.au_rwgroup.proofs.FirstKinds.{four}
use Rattle.au_rwgroup.proofs.FirstNumbers.{held_keys, kept_ends}
use Rattle.au_rwgroup.proofs.GroupGives.{first_keys, take_there}
use Rattle.au_rwgroup.proofs.GroupKinds as kinds_of
use Rattle.au_rwgroup.proofs.GroupLaws.{first_fit, over_scanned, parts}
use Rattle.au_rwgroup.proofs.GroupNumbers.{over_fits}
use Rattle.au_rwgroup.proofs.GroupRows.{outputs_given}
use Rattle.au_rwgroup.proofs.KeyReading.{Keys, KeyReading, grouped_in, output_in}
use Rattle.au_rwgroup.proofs.Sharing.{fold_rows, sharing}
use Rattle.au_points.specs.Points.{at_point, point_counts, point_numbers, point_output, point_outputs}
use Rattle.au_points.proofs.PointBasics.{and_true, points_certain}
use Rattle.au_points.proofs.PointsKeep.{points_relation}
use Rattle.au_rwpoints.specs.Gives.{PointOutputs}
use Rattle.au_rwpoints.specs.PointPlan.{point_boxes, points_plan}
use Rattle.au_rwpoints.proofs.PointBoxes.{by_points, points_are, points_fit, points_typed}

-- ---- outputs with points for boxes

module _ (of : Keys) (rows : Bounded) (point : List Value) where
  -- the rows of a point are those of its box, of which all members with certain keys are certain
  pub point_is : grouped_in (by_points of) rows point ≡ at_point of.keys rows point
  point_is =
      let belonging = filter (λ r. same_row point (guesses (of.keys r.cells))) rows in
      let box = map certain point in
      λ i. record {
        belonging = belonging;
        box = box;
        members = filter (λ r. all_overlap (of.keys r.cells) box) rows;
        is_certain_member = λ r. and_true (all_certain (of.keys r.cells)) (all_certain box) (points_certain point) i;
        is_guessed = list_any (λ r. nat_le 1 r.annot.guess) belonging;
      }

  pub output_is : (aggs : List Agg) → output_in (by_points of) aggs rows point ≡ point_output of.keys aggs rows point
  output_is aggs = λ i. entry ((point_is i).box ++ map (aggregate (point_is i)) aggs) (point_counts of.keys (point_is i).belonging)

-- ---- the plan

module _ (how : Folding) (kinds : List (List Kind)) (tables : List Rows) (ks : List Kind) (m : ℕ) (aggs : List Agg) (of : PlanTree) (rows : Bounded) (ns : List ℤ) (others : List Kind) (enough : m ≤ length ks) (typed : all_kinds (map (agg_kind ks) aggs) ≡ Some others) (tables_fit : FitTables tables) (g : GivesRelation kinds tables of ks rows ns) where
  abbrev t : Typed ks aggs others
  t = typed_on ks aggs others typed

  abbrev keys : Keys
  keys = first_keys ks m enough

  abbrev by : KeyReading
  by = by_points keys

  abbrev more : List PAgg
  more = flat_map kept_for aggs

  abbrev boxes : PlanTree
  boxes = point_boxes (length ks) m more of

  keys_long : length (take m ks) ≡ m
  keys_long = length-take-le m ks enough

  abbrev kinds_there : (row : List Kind) (i : ℕ) → EndsOfAll own own own row i ks → EndsOfAll own own own row i (take m ks)
  kinds_there row i e = take_there own own own row i m ks e

  boxes_typed : plan_kinds kinds boxes ≡ Some (kinds_of.box_kinds ks (take m ks) m keys_long kinds_there aggs t.on)
  boxes_typed =
      let cells = coded_cells own own own own own own (length ks) ks Int refl in
      points_typed kinds ks (take m ks) m more (twice (kinds_of.ends_of ks (take m ks) m keys_long kinds_there aggs t.on aggs)) of keys_long
      (kinds_of.kept_long ks (take m ks) m keys_long kinds_there aggs t.on aggs) (kinds_there (encoded_kinds ks) 0 cells)
      (kinds_of.kept_kinds_are ks (take m ks) m keys_long kinds_there aggs t.on (encoded_kinds ks ++ four) (all_ends_more own own own (encoded_kinds ks) four 0 ks cells) aggs t.on) g.typed

  abbrev list : Rows
  list = guessed_keys (take m) rows

  outputs_are : map (output_in by aggs rows) list ≡ point_outputs (take m) aggs rows
  outputs_are = λ i. map (λ point. output_is keys rows point aggs i) list

  sums : Fit (point_numbers (take m) aggs rows) → AllByRecursion (λ key. Fit (flat_map (agg_numbers (grouped_in by rows key)) aggs)) list
  sums f =
      subst (λ (h : List Value → Grouped). AllByRecursion (λ key. Fit (flat_map (agg_numbers (h key)) aggs)) list) (λ i key. sym (point_is keys rows key) i)
      (all_fit (λ key. flat_map (agg_numbers (at_point (take m) rows key)) aggs) list f)

  numbers_fit : Fit (ns ++ point_numbers (take m) aggs rows) → Fit (plan_numbers (points_plan how (length ks) m aggs of) tables)
  numbers_fit f =
      let p = fit_parts ns (point_numbers (take m) aggs rows) f in
      let held = gives_held kinds tables of ks rows ns g tables_fit p.0 in
      over_fits by aggs t.on rows g.relation how kinds tables of g.typed tables_fit g.encoded (g.fit p.0) keys_long kinds_there (sums p.1)
      boxes (points_are keys more rows g.relation tables of g.encoded) boxes_typed
      (points_fit keys more rows (kept_ends aggs) g.relation tables of g.encoded (held_keys by (λ xs h. first_fit m xs h) rows held) (g.fit p.0))

  pub all_given : GivesRelation kinds tables (points_plan how (length ks) m aggs of) (take m ks ++ others) (point_outputs (take m) aggs rows) (ns ++ point_numbers (take m) aggs rows)
  all_given = record {
    typed =
        kinds_of.over_typed ks (take m ks) m keys_long kinds_there aggs t.on kinds of g.typed boxes boxes_typed how
        ∙ ap (λ es. Some (encoded_kinds (take m ks ++ es))) (sym t.kinds);
    relation = points_relation ks others m aggs typed rows g.relation;
    encoded =
        outputs_given by aggs (are_on ks aggs t.on) rows g.relation (sharing by rows g.relation how) how tables boxes of
        (points_are keys more rows g.relation tables of g.encoded)
        (fold_rows by rows g.relation how aggs (are_on ks aggs t.on) tables of g.encoded)
        ∙ ap encode outputs_are;
    fit = numbers_fit;
  }

module _ (how : Folding) (c m : ℕ) (aggs : List Agg) (of p : PlanTree) (is : p ≡ points_plan how c m aggs of) where
  outputs_as_is : PointOutputs c m aggs of (points_plan how c m aggs of)
  outputs_as_is kinds tables ks js rows ns fits long typed g =
      let own = point_numbers (take m) aggs rows in
      let q = parts m aggs ks js typed in
      subst (λ n. GivesRelation kinds tables (points_plan how n m aggs of) js (point_outputs (take m) aggs rows) (ns ++ own)) long
      (subst (λ es. GivesRelation kinds tables (points_plan how (length ks) m aggs of) es (point_outputs (take m) aggs rows) (ns ++ own)) q.whole
      (all_given how kinds tables ks m aggs of rows ns q.others q.enough q.typed fits g))

  pub outputs_give : PointOutputs c m aggs of p
  outputs_give = subst (λ q. PointOutputs c m aggs of q) (sym is) outputs_as_is

  -- the input's plan twice
  pub outputs_scans : scans p ≤ 2 * scans of
  outputs_scans =
      let boxes = point_boxes c m (flat_map kept_for aggs) of in
      le_of_eq {n = scans p} {m = 2 * scans of}
      (ap scans is ∙ over_scanned how c m aggs boxes of ∙ (let e : scans boxes + scans of ≡ 2 * scans of = omega (arith, scans-extend_all (group_columns c m) of) in e))
