-- A grouping of some columns, without the aggregates that are not read.
use Rattle.std.specs.Prelude.{◌≡◌, ◌<◌, ◌+◌, ◌++◌, Bool, true, false, cond, ℕ, zero, suc, List, [], ◌∷◌, filter, flat_map, length, map, option_and_then, pos, nat_abs, slice_get, slice_index, sum_by, Some, None, unwrap_or}
use Rattle.std.specs.List.{AllByRecursion, range_with_len}
use Rattle.std.proofs.Common.{arith, refl, sym, ap, subst, ◌∙◌, append_assoc, length-append}
use Rattle.std.proofs.lemmas.List.{length-map}
use Rattle.std.proofs.lemmas.List.Sums.{sum_by-cons}
use Rattle.au_value.specs.declared.kinds.Kind.{Kind}
use Rattle.au_value.specs.declared.kinds.Kind.TheVariants as kind
use Rattle.au_value.specs.declared.value.Value.{Value}
use Rattle.au_value.specs.declared.value.Value.TheVariants.{Int}
use Rattle.au_value.specs.Lists.{distinct}
use Rattle.au_expr.specs.Figures.{Fit}
use Rattle.au_expr.specs.Kinds.{is_kind}
use Rattle.au_expr.specs.Ordinary.{number}
use Rattle.au_expr.proofs.Fits.{fit_both, fit_parts}
use Rattle.au_algebra.specs.Lists.{greatest, int_sum, least, same_row, value_at}
use Rattle.au_algebra.specs.Ordinary.{Rows}
use Rattle.au_algebra.specs.Typing.{all_kinds}
use Rattle.au_algebra.proofs.AggregateKinds.{kinds_parts}
use Rattle.au_algebra.proofs.Each.{all_distinct}
use Rattle.au_algebra.proofs.Items.{and_then_is, some_is}
use Rattle.au_plain.specs.declared.plan.PAgg.{PAgg}
use Rattle.au_plain.specs.declared.plan.PAgg.TheVariants.{Sum, Min, Max}
use Rattle.au_plain.specs.Meaning.{kept, plain_aggregate, plain_group, plain_rows}
use Rattle.au_plain.specs.PlanKinds.{kept_kinds, plain_agg_kind, plan_kinds}
use Rattle.au_plain.specs.PlanNumbers.{group_numbers, magnitudes, plan_numbers}
use Rattle.au_plain.specs.Plans.{PlanTree, Group}
use Rattle.au_passes.specs.Pruning.{Narrows, renumbered_agg}
use Rattle.au_plain.specs.Widths.{plan_width}
use Rattle.au_passes.specs.Reading.{agg_column, chosen, places_from, read_places}
use Rattle.au_passes.proofs.KeptColumns.{all_some, all_there, found_through, get_past, kept_gets, kept_itself, kinds_both, kinds_itself, kinds_past, kinds_through, kinds_wider, map-map, places_there, same_map, through}
use Rattle.au_passes.proofs.Narrowing.{each_through, pair_kept}
use Rattle.au_plain.proofs.Widths.{Wide, aggs_long, kept_long, kept_wide, width_is}
use Rattle.au_passes.proofs.Renumbering.{Reaches, kept_at, kind_at}

-- ---- chosen items

chosen_from : {A : Type 0} (marks : List Bool) (before xs : List A) (n : ℕ) → n ≡ length before → length marks ≡ length xs → map (slice_get (before ++ xs)) (places_from n marks) ≡ map (λ x. Some x) (chosen marks xs)
chosen_from [] before [] n h e = refl
chosen_from [] before (x ∷ xs) n h e = let never : ⊥ = omega (arith, e) in absurd never
chosen_from (b ∷ marks) before [] n h e = let never : ⊥ = omega (arith, e) in absurd never
chosen_from (true ∷ marks) before (x ∷ xs) n h e =
    let first = get_past before (x ∷ xs) 0 n (omega (arith, h)) in
    let rest = chosen_from marks (before ++ x ∷ []) xs (n + 1) (omega (arith, h, length-append before (x ∷ []))) (omega (arith, e)) in
    let same = ap (λ ys. map (slice_get ys) (places_from (n + 1) marks)) (append_assoc before (x ∷ []) xs) in
    λ i. first i ∷ (sym same ∙ rest) i
chosen_from (false ∷ marks) before (x ∷ xs) n h e =
    let rest = chosen_from marks (before ++ x ∷ []) xs (n + 1) (omega (arith, h, length-append before (x ∷ []))) (omega (arith, e)) in
    let same = ap (λ ys. map (slice_get ys) (places_from (n + 1) marks)) (append_assoc before (x ∷ []) xs) in
    sym same ∙ rest

-- the marked columns of a row are the marked ones of its values
chosen_kept : (marks : List Bool) (row : List Value) → length marks ≡ length row → kept (read_places marks) row ≡ chosen marks row
chosen_kept marks row e =
    kept_gets (read_places marks) row ∙ ap (map (λ o. unwrap_or o (Int (pos 0)))) (chosen_from marks [] row 0 refl e)
    ∙ map-map (λ v. Some v) (λ o. unwrap_or o (Int (pos 0))) (chosen marks row) ∙ same_map (chosen marks row)

chosen_kinds : (marks : List Bool) (ks : List Kind) → length marks ≡ length ks → kept_kinds (read_places marks) ks ≡ Some (chosen marks ks)
chosen_kinds marks ks e = ap all_kinds (chosen_from marks [] ks 0 refl e) ∙ all_some (chosen marks ks)

chosen_map : {A B : Type 0} (f : A → B) (marks : List Bool) (xs : List A) → chosen marks (map f xs) ≡ map f (chosen marks xs)
chosen_map f marks [] = refl
chosen_map f [] (x ∷ xs) = refl
chosen_map f (true ∷ marks) (x ∷ xs) = ap (λ ys. f x ∷ ys) (chosen_map f marks xs)
chosen_map f (false ∷ marks) (x ∷ xs) = chosen_map f marks xs

-- ---- aggregates

-- an aggregate whose column is found
abbrev pub AggFound : List ℕ → List ℕ → PAgg → Type 0
AggFound places found agg = Reaches places found (agg_column agg)

module _ (places found : List ℕ) where
  column_same : (c : ℕ) → Reaches places found c → (rows : Rows) → map (λ row. value_at row (slice_index found c)) (map (kept places) rows) ≡ map (λ row. value_at row c) rows
  column_same c h [] = refl
  column_same c h (r ∷ rows) = λ i. kept_at places r (slice_index found c) c h i ∷ column_same c h rows i

  numbers_of : (c : ℕ) → Reaches places found c → (rows : Rows) → map (λ row. number (value_at row (slice_index found c))) (map (kept places) rows) ≡ map (λ row. number (value_at row c)) rows
  numbers_of c h [] = refl
  numbers_of c h (r ∷ rows) = λ i. number (kept_at places r (slice_index found c) c h i) ∷ numbers_of c h rows i

  aggregate_same : (agg : PAgg) → AggFound places found agg → (rows : Rows) → plain_aggregate (map (kept places) rows) (renumbered_agg found agg) ≡ plain_aggregate rows agg
  aggregate_same (Sum c) h rows = ap (λ ns. Int (int_sum ns)) (numbers_of c h rows)
  aggregate_same (Min c) h rows = ap least (column_same c h rows)
  aggregate_same (Max c) h rows = ap greatest (column_same c h rows)

  aggregates_same : (aggs : List PAgg) → AllByRecursion (AggFound places found) aggs → (rows : Rows) → map (plain_aggregate (map (kept places) rows)) (map (renumbered_agg found) aggs) ≡ map (plain_aggregate rows) aggs
  aggregates_same [] h rows = refl
  aggregates_same (agg ∷ aggs) h rows = λ i. aggregate_same agg h.0 rows i ∷ aggregates_same aggs h.1 rows i

  sizes_same : (c : ℕ) → Reaches places found c → (rows : Rows) → sum_by (λ row. nat_abs (number (value_at row (slice_index found c)))) (map (kept places) rows) ≡ sum_by (λ row. nat_abs (number (value_at row c))) rows
  sizes_same c h [] = refl
  sizes_same c h (r ∷ rows) =
      sum_by-cons (λ row. nat_abs (number (value_at row (slice_index found c)))) (kept places r) (map (kept places) rows)
      ∙ (λ i. nat_abs (number (kept_at places r (slice_index found c) c h i)) + sizes_same c h rows i)
      ∙ sym (sum_by-cons (λ row. nat_abs (number (value_at row c))) r rows)

  magnitudes_same : (agg : PAgg) → AggFound places found agg → (rows : Rows) → magnitudes (map (kept places) rows) (renumbered_agg found agg) ≡ magnitudes rows agg
  magnitudes_same (Sum c) h rows = ap (λ n. pos n ∷ []) (sizes_same c h rows)
  magnitudes_same (Min c) h rows = refl
  magnitudes_same (Max c) h rows = refl

  all_magnitudes : (aggs : List PAgg) → AllByRecursion (AggFound places found) aggs → (rows : Rows) → flat_map (magnitudes (map (kept places) rows)) (map (renumbered_agg found) aggs) ≡ flat_map (magnitudes rows) aggs
  all_magnitudes [] h rows = refl
  all_magnitudes (agg ∷ aggs) h rows = λ i. magnitudes_same agg h.0 rows i ++ all_magnitudes aggs h.1 rows i

  agg_kind_same : (ks js : List Kind) → kept_kinds places ks ≡ Some js → (agg : PAgg) → AggFound places found agg → plain_agg_kind js (renumbered_agg found agg) ≡ plain_agg_kind ks agg
  agg_kind_same ks js t (Sum c) h = ap (λ o. cond (is_kind kind.Int o) (Some kind.Int) None) (kind_at places ks js t (slice_index found c) c h)
  agg_kind_same ks js t (Min c) h = kind_at places ks js t (slice_index found c) c h
  agg_kind_same ks js t (Max c) h = kind_at places ks js t (slice_index found c) c h

  agg_kinds_same : (ks js : List Kind) → kept_kinds places ks ≡ Some js → (aggs : List PAgg) → AllByRecursion (AggFound places found) aggs → map (plain_agg_kind js) (map (renumbered_agg found) aggs) ≡ map (plain_agg_kind ks) aggs
  agg_kinds_same ks js t [] h = refl
  agg_kinds_same ks js t (agg ∷ aggs) h = λ i. agg_kind_same ks js t agg h.0 i ∷ agg_kinds_same ks js t aggs h.1 i

-- the kinds of the marked aggregates
chosen_agg_kinds : (ks : List Kind) (marks : List Bool) (aggs : List PAgg) (more : List Kind) → all_kinds (map (plain_agg_kind ks) aggs) ≡ Some more → all_kinds (map (plain_agg_kind ks) (chosen marks aggs)) ≡ Some (chosen marks more)
chosen_agg_kinds ks marks [] more t = ap (λ js. Some (chosen marks js)) (some_is [] more t)
chosen_agg_kinds ks [] (agg ∷ aggs) more t =
    let p = kinds_parts (plain_agg_kind ks agg) (map (plain_agg_kind ks) aggs) more t in ap (λ js. Some (chosen [] js)) (sym p.whole)
chosen_agg_kinds ks (true ∷ marks) (agg ∷ aggs) more t =
    let p = kinds_parts (plain_agg_kind ks agg) (map (plain_agg_kind ks) aggs) more t in
    all_there (plain_agg_kind ks agg) (map (plain_agg_kind ks) (chosen marks aggs)) p.first (chosen marks p.others) p.first_is (chosen_agg_kinds ks marks aggs p.others p.others_are)
    ∙ ap (λ js. Some (chosen (true ∷ marks) js)) (sym p.whole)
chosen_agg_kinds ks (false ∷ marks) (agg ∷ aggs) more t =
    let p = kinds_parts (plain_agg_kind ks agg) (map (plain_agg_kind ks) aggs) more t in
    chosen_agg_kinds ks marks aggs p.others p.others_are ∙ ap (λ js. Some (chosen (false ∷ marks) js)) (sym p.whole)

chosen_fit : (rows : Rows) (marks : List Bool) (aggs : List PAgg) → Fit (flat_map (magnitudes rows) aggs) → Fit (flat_map (magnitudes rows) (chosen marks aggs))
chosen_fit rows marks [] f = refl
chosen_fit rows [] (agg ∷ aggs) f = refl
chosen_fit rows (true ∷ marks) (agg ∷ aggs) f =
    let p = fit_parts (magnitudes rows agg) (flat_map (magnitudes rows) aggs) f in
    fit_both (magnitudes rows agg) (flat_map (magnitudes rows) (chosen marks aggs)) p.0 (chosen_fit rows marks aggs p.1)
chosen_fit rows (false ∷ marks) (agg ∷ aggs) f =
    let p = fit_parts (magnitudes rows agg) (flat_map (magnitudes rows) aggs) f in
    chosen_fit rows marks aggs p.1

-- ---- groups

counted_within : (n k m : ℕ) → n + k ≡ m → AllByRecursion (λ i. i < m) (range_with_len n k)
counted_within n zero m h = tt
counted_within n (suc k) m h = (omega (arith, h), counted_within (n + 1) k m (omega (arith, h)))

module _ (places found keys : List ℕ) (aggs : List PAgg) (marks : List Bool) (long : length marks ≡ length aggs) (keyed : AllByRecursion (Reaches places found) keys) (read : AllByRecursion (AggFound places found) (chosen marks aggs)) where
  abbrev new_keys : List ℕ
  new_keys = map (slice_index found) keys

  abbrev new_aggs : List PAgg
  new_aggs = map (renumbered_agg found) (chosen marks aggs)

  -- the keys, and then the aggregates that are read
  abbrev given : List ℕ
  given = range_with_len 0 (length keys) ++ map (λ i. length keys + i) (read_places marks)

  key_same : (row : List Value) → kept new_keys (kept places row) ≡ kept keys row
  key_same row = through places new_keys keys (found_through places found keys keyed) row

  member_if : (b : Bool) (r : List Value) (rows : Rows) → cond b (kept places r ∷ map (kept places) rows) (map (kept places) rows) ≡ map (kept places) (cond b (r ∷ rows) rows)
  member_if true r rows = refl
  member_if false r rows = refl

  members_same : (key : List Value) (rows : Rows) → filter (λ row. same_row key (kept new_keys row)) (map (kept places) rows) ≡ map (kept places) (filter (λ row. same_row key (kept keys row)) rows)
  members_same key [] = refl
  members_same key (r ∷ rows) =
      (λ i. cond (same_row key (key_same r i)) (kept places r ∷ members_same key rows i) (members_same key rows i))
      ∙ member_if (same_row key (kept keys r)) r (filter (λ row. same_row key (kept keys row)) rows)

  group_row : (rows : Rows) (key : List Value) → length key ≡ length keys → key ++ map (plain_aggregate (filter (λ row. same_row key (kept new_keys row)) (map (kept places) rows))) new_aggs ≡ kept given (key ++ map (plain_aggregate (filter (λ row. same_row key (kept keys row)) rows)) aggs)
  group_row rows key h =
      let members = filter (λ row. same_row key (kept keys row)) rows in
      let values = plain_aggregate members in
      let are = ap (λ ms. map (plain_aggregate ms) new_aggs) (members_same key rows) ∙ aggregates_same places found (chosen marks aggs) read members ∙ sym (chosen_map values marks aggs) ∙ sym (chosen_kept marks (map values aggs) (long ∙ sym (length-map aggs values))) in
      (λ i. sym (kept_itself (length keys) key h) i ++ are i)
      ∙ pair_kept (length keys) (range_with_len 0 (length keys)) (read_places marks) key (map values aggs) h (counted_within 0 (length keys) (length keys) (omega arith))

  group_rows : (rows found_keys : Rows) → Wide (length keys) found_keys → map (λ key. key ++ map (plain_aggregate (filter (λ row. same_row key (kept new_keys row)) (map (kept places) rows))) new_aggs) found_keys ≡ map (kept given) (map (λ key. key ++ map (plain_aggregate (filter (λ row. same_row key (kept keys row)) rows)) aggs) found_keys)
  group_rows rows [] h = refl
  group_rows rows (key ∷ found_keys) h = λ i. group_row rows key h.0 i ∷ group_rows rows found_keys h.1 i

  keys_same : (rows : Rows) → map (kept new_keys) (map (kept places) rows) ≡ map (kept keys) rows
  keys_same rows = each_through places new_keys keys (found_through places found keys keyed) rows

  pub groups_same : (rows : Rows) → plain_group new_keys new_aggs (map (kept places) rows) ≡ map (kept given) (plain_group keys aggs rows)
  groups_same rows =
      ap (λ ks. map (λ key. key ++ map (plain_aggregate (filter (λ row. same_row key (kept new_keys row)) (map (kept places) rows))) new_aggs) (distinct same_row ks)) (keys_same rows)
      ∙ group_rows rows (distinct same_row (map (kept keys) rows)) (all_distinct (λ row. length row ≡ length keys) same_row (map (kept keys) rows) (kept_wide keys rows))

  groups_fit : (rows found_keys : Rows) → Fit (flat_map (λ key. flat_map (magnitudes (filter (λ row. same_row key (kept keys row)) rows)) aggs) found_keys) → Fit (flat_map (λ key. flat_map (magnitudes (filter (λ row. same_row key (kept new_keys row)) (map (kept places) rows))) new_aggs) found_keys)
  groups_fit rows [] f = refl
  groups_fit rows (key ∷ found_keys) f =
      let members = filter (λ row. same_row key (kept keys row)) rows in
      let own = flat_map (magnitudes members) aggs in
      let p = fit_parts own (flat_map (λ k. flat_map (magnitudes (filter (λ row. same_row k (kept keys row)) rows)) aggs) found_keys) f in
      let same = ap (λ ms. flat_map (magnitudes ms) new_aggs) (members_same key rows) ∙ all_magnitudes places found (chosen marks aggs) read members in
      fit_both (flat_map (magnitudes (filter (λ row. same_row key (kept new_keys row)) (map (kept places) rows))) new_aggs)
      (flat_map (λ k. flat_map (magnitudes (filter (λ row. same_row k (kept new_keys row)) (map (kept places) rows))) new_aggs) found_keys)
      (subst Fit (sym same) (chosen_fit members marks aggs p.0)) (groups_fit rows found_keys p.1)

  pub numbers_group : (rows : Rows) → Fit (group_numbers keys aggs rows) → Fit (group_numbers new_keys new_aggs (map (kept places) rows))
  numbers_group rows f =
      subst Fit (sym (ap (λ ks. flat_map (λ key. flat_map (magnitudes (filter (λ row. same_row key (kept new_keys row)) (map (kept places) rows))) new_aggs) (distinct same_row ks)) (keys_same rows)))
      (groups_fit rows (distinct same_row (map (kept keys) rows)) f)

-- the keys and the aggregates that are read are found, wherever the grouping is typed
abbrev pub GroupFound : List ℕ → List ℕ → ℕ → List ℕ → List PAgg → List PAgg → Type 0
GroupFound places found w keys aggs read =
    (ks js more : List Kind) → length ks ≡ w → kept_kinds keys ks ≡ Some js → all_kinds (map (plain_agg_kind ks) aggs) ≡ Some more →
    AllByRecursion (Reaches places found) keys × AllByRecursion (AggFound places found) read

pub of_group : (p q : PlanTree) (places found keys : List ℕ) (aggs : List PAgg) (marks : List Bool) → length marks ≡ length aggs → Narrows p places q → GroupFound places found (plan_width p) keys aggs (chosen marks aggs) → Narrows (Group keys aggs p) (range_with_len 0 (length keys) ++ map (λ i. length keys + i) (read_places marks)) (Group (map (slice_index found) keys) (map (renumbered_agg found) (chosen marks aggs)) q)
of_group p q places found keys aggs marks long n found_all =
    let k = length keys in
    let new_keys = map (slice_index found) keys in
    let new_aggs = map (renumbered_agg found) (chosen marks aggs) in
    let given = range_with_len 0 k ++ map (λ i. k + i) (read_places marks) in
    record {
      typed = λ kinds ks h.
          let u = and_then_is _ (plan_kinds kinds p) ks h in
          let s = and_then_is _ (kept_kinds keys u.0) ks u.2 in
          let v = and_then_is _ (all_kinds (map (plain_agg_kind u.0) aggs)) ks s.2 in
          let t = n.typed kinds u.0 u.1 in
          let f = found_all u.0 s.0 v.0 (width_is kinds p u.0 u.1) s.1 v.1 in
          let js = chosen marks v.0 in
          let key_kinds = kinds_through places new_keys keys (found_through places found keys f.0) u.0 t.0 t.1 ∙ s.1 in
          let agg_kinds = ap all_kinds (agg_kinds_same places found u.0 t.0 t.1 (chosen marks aggs) f.1) ∙ chosen_agg_kinds u.0 marks aggs v.0 v.1 in
          let key_long = kept_long keys u.0 s.0 s.1 in
          let first = kinds_itself k s.0 key_long in (
            s.0 ++ js,
            ap (kept_kinds given) (sym (some_is (s.0 ++ v.0) ks v.2))
                ∙ kinds_both (range_with_len 0 k) (map (λ i. k + i) (read_places marks)) (s.0 ++ v.0) s.0 js
                (kinds_wider (range_with_len 0 k) s.0 v.0 (places_there (range_with_len 0 k) s.0 s.0 first) ∙ first)
                (kinds_past (read_places marks) k s.0 v.0 key_long ∙ chosen_kinds marks v.0 (long ∙ sym (aggs_long aggs u.0 v.0 v.1))),
            ap (option_and_then (λ ms. option_and_then (λ hs. option_and_then (λ more. Some (hs ++ more)) (all_kinds (map (plain_agg_kind ms) new_aggs))) (kept_kinds new_keys ms))) t.2
                ∙ ap (option_and_then (λ hs. option_and_then (λ more. Some (hs ++ more)) (all_kinds (map (plain_agg_kind t.0) new_aggs)))) key_kinds
                ∙ ap (option_and_then (λ more. Some (s.0 ++ more))) agg_kinds,
          );
      rows = λ kinds ks ts ok h.
          let u = and_then_is _ (plan_kinds kinds p) ks h in
          let s = and_then_is _ (kept_kinds keys u.0) ks u.2 in
          let v = and_then_is _ (all_kinds (map (plain_agg_kind u.0) aggs)) ks s.2 in
          let f = found_all u.0 s.0 v.0 (width_is kinds p u.0 u.1) s.1 v.1 in
          ap (plain_group new_keys new_aggs) (n.rows kinds u.0 ts ok u.1) ∙ groups_same places found keys aggs marks long f.0 f.1 (plain_rows p ts);
      numbers = λ kinds ks ts ok h g.
          let u = and_then_is _ (plan_kinds kinds p) ks h in
          let s = and_then_is _ (kept_kinds keys u.0) ks u.2 in
          let v = and_then_is _ (all_kinds (map (plain_agg_kind u.0) aggs)) ks s.2 in
          let f = found_all u.0 s.0 v.0 (width_is kinds p u.0 u.1) s.1 v.1 in
          let parts = fit_parts (plan_numbers p ts) (group_numbers keys aggs (plain_rows p ts)) g in
          fit_both (plan_numbers q ts) (group_numbers new_keys new_aggs (plain_rows q ts)) (n.numbers kinds u.0 ts ok u.1 parts.0)
          (subst (λ rows. Fit (group_numbers new_keys new_aggs rows)) (sym (n.rows kinds u.0 ts ok u.1)) (numbers_group places found keys aggs marks long f.0 f.1 (plain_rows p ts) parts.1));
    }
