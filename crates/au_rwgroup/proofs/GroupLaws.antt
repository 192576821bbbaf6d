-- What the plan of Group gives, with the numbers that it makes and the Scans that it has.
use Rattle.std.specs.Prelude.{◌≡◌, ◌≤◌, ℕ, zero, suc, ◌+◌, ◌*◌, List, [], ◌∷◌, ◌++◌, length, map, take, flat_map, nat_le, Some, option_and_then, ℤ}
use Rattle.std.proofs.Common.{arith, sym, ◌∙◌, ap, subst}
use Rattle.std.proofs.Math.Nat.{le_of_eq}
use Rattle.std.proofs.lemmas.Bool.{leb-true}
use Rattle.std.proofs.lemmas.List.{length-take-le}
use Rattle.au_value.specs.declared.kinds.Kind.{Kind}
use Rattle.au_value.specs.Ranges.{Span}
use Rattle.au_expr.specs.Figures.{Fit}
use Rattle.au_expr.proofs.Fits.{fit_parts}
use Rattle.au_algebra.specs.declared.query.Agg.{Agg}
use Rattle.au_algebra.specs.Bounded as bounded
use Rattle.au_algebra.specs.Bounded.{Bounded, guessed_keys, grouped}
use Rattle.au_algebra.specs.Fits.{agg_numbers, grouping_numbers, triple_numbers}
use Rattle.au_algebra.specs.Ordinary.{Rows}
use Rattle.au_algebra.specs.Typing.{all_kinds, agg_kind, group_kinds}
use Rattle.au_algebra.proofs.GroupRelation.{group_relation}
use Rattle.au_algebra.proofs.Items.{and_then_is, chosen_is, some_is}
use Rattle.au_plain.specs.PTerms.{Column}
use Rattle.au_plain.specs.Plans.{PlanTree, Join}
use Rattle.au_plain.specs.PlanKinds.{FitTables}
use Rattle.au_plain.specs.PlanNumbers.{scans, plan_numbers}
use Rattle.au_encode.specs.Encode.{encoded_kinds}
use Rattle.au_encode.specs.Gives.{GivesRelation}
use Rattle.au_encode.proofs.HeldCells.{AllFit, gives_held}
use Rattle.au_rwexpr.specs.Counts.{positive}
use Rattle.au_rwexpr.specs.Flatten.{sg}
use Rattle.au_rwexpr.specs.Meets.{meets_term}
use Rattle.au_rwexpr.proofs.Coded.{own}
use Rattle.au_rwexpr.proofs.Counting.{scans-extend_all}
use Rattle.au_rwexpr.proofs.Places.{EndsOfAll}
use Rattle.au_rwexpr.proofs.PlanNumbersOf.{all_fit}
use Rattle.au_rwgroup.specs.Gives.{Groups}
use Rattle.au_rwgroup.specs.declared.folding.Folding.{Folding}
use Rattle.au_rwgroup.specs.declared.folding.Folding.TheVariants as folding
use Rattle.au_rwgroup.specs.Folds.{fold_columns, fold_width, folds}
use Rattle.au_rwgroup.specs.Groups.{group_columns, first_grouping}
use Rattle.au_rwgroup.specs.GroupPlan.{kept_for, places, all_member_columns, all_member_aggs, all_result_columns, second_grouping, group_over, group_plan}
use Rattle.au_rwgroup.proofs.AggregatesOn.{Typed, typed_on, are_on}
use Rattle.au_rwgroup.proofs.GroupGives.{first_cells, group_gives, take_there}
use Rattle.au_rwgroup.proofs.FirstNumbers.{first_fits_ends, group_triples, held_keys, kept_ends}
use Rattle.au_rwgroup.proofs.FirstRows.{first_rows}
use Rattle.au_rwgroup.proofs.GroupKinds.{boxes_typed, group_typed}
use Rattle.au_rwgroup.proofs.GroupNumbers.{over_fits}

-- the first ranges fit where all do
pub first_fit : (m : ℕ) (xs : List Span) → AllFit xs → AllFit (take m xs)
first_fit zero xs f = tt
first_fit (suc m) [] f = tt
first_fit (suc m) (x ∷ xs) f = (f.0, first_fit m xs f.1)

-- the parts of typed keys and aggregates
pub record Parts (m : ℕ) (aggs : List Agg) (ks js : List Kind) : Type 0 where
  pub enough : m ≤ length ks
  pub others : List Kind
  pub typed : all_kinds (map (agg_kind ks) aggs) ≡ Some others
  pub whole : take m ks ++ others ≡ js

pub parts : (m : ℕ) (aggs : List Agg) (ks js : List Kind) → group_kinds m aggs ks ≡ Some js → Parts m aggs ks js
parts m aggs ks js h =
    let p = chosen_is (nat_le m (length ks)) (option_and_then (λ more. Some (take m ks ++ more)) (all_kinds (map (agg_kind ks) aggs))) js h in
    let q = and_then_is _ (all_kinds (map (agg_kind ks) aggs)) js p.1 in
    record { enough = leb-true m (length ks) p.0; others = q.0; typed = q.1; whole = some_is _ _ q.2 }

module _ (how : Folding) (kinds : List (List Kind)) (tables : List Rows) (ks : List Kind) (m : ℕ) (aggs : List Agg) (of : PlanTree) (rows : Bounded) (ns : List ℤ) (others : List Kind) (enough : m ≤ length ks) (typed : all_kinds (map (agg_kind ks) aggs) ≡ Some others) (tables_fit : FitTables tables) (g : GivesRelation kinds tables of ks rows ns) where
  abbrev t : Typed ks aggs others
  t = typed_on ks aggs others typed

  keys_long : length (take m ks) ≡ m
  keys_long = length-take-le m ks enough

  abbrev kinds_there : (row : List Kind) (i : ℕ) → EndsOfAll own own own row i ks → EndsOfAll own own own row i (take m ks)
  kinds_there row i e = take_there own own own row i m ks e

  abbrev own_numbers : List ℤ
  own_numbers = grouping_numbers (take m) aggs rows ++ triple_numbers (bounded.group m aggs rows)

  numbers_fit : Fit (ns ++ own_numbers) → Fit (plan_numbers (group_plan how (length ks) m aggs of) tables)
  numbers_fit f =
      let p = fit_parts ns own_numbers f in
      let q = fit_parts (grouping_numbers (take m) aggs rows) (triple_numbers (bounded.group m aggs rows)) p.1 in
      let by = first_cells ks m enough in
      let kept = flat_map kept_for aggs in
      let held = gives_held kinds tables of ks rows ns g tables_fit p.0 in
      over_fits by aggs t.on rows g.relation how kinds tables of g.typed tables_fit g.encoded (g.fit p.0) keys_long kinds_there
      (all_fit (λ key. flat_map (agg_numbers (grouped (take m) rows key)) aggs) (guessed_keys (take m) rows) q.0) (first_grouping (length ks) m kept of)
      (first_rows by tables of kept rows g.relation g.encoded) (boxes_typed ks (take m ks) m keys_long kinds_there aggs t.on kinds of g.typed)
      (first_fits_ends by tables of kept rows (kept_ends aggs) g.relation g.encoded (held_keys by (λ xs h. first_fit m xs h) rows held) (group_triples by aggs rows g.relation q.1) (g.fit p.0))

  all_given : GivesRelation kinds tables (group_plan how (length ks) m aggs of) (take m ks ++ others) (bounded.group m aggs rows) (ns ++ own_numbers)
  all_given = record {
    typed =
        group_typed ks (take m ks) m keys_long kinds_there aggs t.on kinds of g.typed how
        ∙ ap (λ es. Some (encoded_kinds (take m ks ++ es))) (sym t.kinds);
    relation = group_relation ks others m aggs rows typed g.relation;
    encoded = group_gives how ks m enough aggs (are_on ks aggs t.on) tables of rows g.relation g.encoded;
    fit = numbers_fit;
  }

-- the Scans of the boxes and of the input's plan, which Group's own boxes hold, too
folds_scanned : (how : Folding) (c k : ℕ) (aggs : List Agg) (p : PlanTree) → scans (folds how c k aggs p) ≡ scans p
folds_scanned folding.EqualKeys c k aggs p = scans-extend_all (fold_columns (3 * c) aggs) p
folds_scanned folding.Rows c k aggs p = scans-extend_all (fold_columns (3 * c) aggs) p

pub over_scanned : (how : Folding) (c k : ℕ) (aggs : List Agg) (boxes p : PlanTree) → scans (group_over how c k aggs boxes p) ≡ scans boxes + scans p
over_scanned how c k aggs boxes p =
    let b = 3 * k + 3 + length (flat_map kept_for aggs) in
    let t = b + fold_width k (length aggs) in
    let columns = all_member_columns (places k b t) (3 * k + 3) aggs in
    let folded = folds how c k aggs p in
    let second = second_grouping k b columns (all_member_aggs (t + 4) aggs) boxes folded in
    let finish = all_result_columns (positive (Column (b + 4 * length aggs))) (positive (sg (3 * k))) b aggs in
    scans-extend_all finish second
    ∙ scans-extend_all columns (Join (meets_term b 0 k) boxes folded)
    ∙ ap (λ n. scans boxes + n) (folds_scanned how c k aggs p)

twice_scanned : (how : Folding) (c k : ℕ) (aggs : List Agg) (p : PlanTree) → scans (group_plan how c k aggs p) ≡ 2 * scans p
twice_scanned how c k aggs p =
    let boxes = first_grouping c k (flat_map kept_for aggs) p in
    over_scanned how c k aggs boxes p ∙ (let e : scans boxes + scans p ≡ 2 * scans p = omega (arith, scans-extend_all (group_columns c k) p) in e)

module _ (how : Folding) (c m : ℕ) (aggs : List Agg) (of p : PlanTree) (is : p ≡ group_plan how c m aggs of) where
  group_as_is : Groups c m aggs of (group_plan how c m aggs of)
  group_as_is kinds tables ks js rows ns fits long typed g =
      let own = grouping_numbers (take m) aggs rows ++ triple_numbers (bounded.group m aggs rows) in
      let q = parts m aggs ks js typed in
      subst (λ n. GivesRelation kinds tables (group_plan how n m aggs of) js (bounded.group m aggs rows) (ns ++ own)) long
      (subst (λ es. GivesRelation kinds tables (group_plan how (length ks) m aggs of) es (bounded.group m aggs rows) (ns ++ own)) q.whole
      (all_given how kinds tables ks m aggs of rows ns q.others q.enough q.typed fits g))

  pub group_gives_all : Groups c m aggs of p
  group_gives_all = subst (λ q. Groups c m aggs of q) (sym is) group_as_is

  pub group_scans : scans p ≤ 2 * scans of
  group_scans = le_of_eq {n = scans p} {m = 2 * scans of} (ap scans is ∙ twice_scanned how c m aggs of)
