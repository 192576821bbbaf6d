-- Group's plan over any boxes gives the outputs with these.
use Rattle.std.specs.Prelude.{◌≡◌, ℕ, ◌+◌, ◌*◌, ◌<◌, Bool, true, false, List, [], ◌∷◌, ◌++◌, length, map, filter, flat_map, ◌&&◌, ℤ, pos, nat_le, Some, unwrap_or, if◌then◌else◌}
use Rattle.std.specs.List.{AllByRecursion, list_any}
use Rattle.std.proofs.Common.{arith, refl, sym, ◌∙◌, ap, subst, append_assoc}
use Rattle.std.proofs.lemmas.Bool.{and_parts}
use Rattle.std.proofs.lemmas.List.{length-append, length-map, append-nil}
use Rattle.au_value.specs.declared.value.Value.{Value}
use Rattle.au_value.specs.declared.value.Value.TheVariants as value
use Rattle.au_value.specs.Order.{below, at_most}
use Rattle.au_value.specs.Ranges.{Span, guesses, range, all_certain}
use Rattle.au_annot.specs.Triples.{Counts}
use Rattle.au_expr.specs.Ordinary as on_values
use Rattle.au_expr.specs.Ordinary.{number}
use Rattle.au_algebra.specs.declared.query.Agg.{Agg}
use Rattle.au_algebra.specs.declared.query.Agg.TheVariants as agg
use Rattle.au_algebra.specs.Lists.{same_row, int_sum, least, greatest, value_at}
use Rattle.au_algebra.specs.Ordinary.{Rows}
use Rattle.au_algebra.specs.Bounded.{RangeRow, Bounded, Grouped, lower_term, upper_term, guess_term, guess_if, guessed_keys, aggregate, range_at, or_else, surely_there, guessed_there}
use Rattle.au_algebra.specs.Laws.{IsRangeRow, IsRelation}
use Rattle.au_algebra.proofs.Copies.{same_row_refl}
use Rattle.au_algebra.proofs.Each.{all_filter, all_from, passing}
use Rattle.au_algebra.proofs.Extremes.{least_below, greatest_above}
use Rattle.au_plain.specs.declared.plan.PAgg.{PAgg}
use Rattle.au_plain.specs.declared.plan.PAgg.TheVariants.{Sum, Min, Max}
use Rattle.au_plain.specs.PTerms.{PTerm, Column}
use Rattle.au_plain.specs.Plans.{PlanTree}
use Rattle.au_plain.specs.Meaning.{plain_rows, kept, plain_aggregate}
use Rattle.au_encode.specs.Encode.{encode_row, encode_cells, encode_counts}
use Rattle.au_rwexpr.specs.Flatten.{sg}
use Rattle.au_rwexpr.specs.Cells.{cell_places, three_places}
use Rattle.au_rwexpr.specs.Counts.{positive}
use Rattle.au_rwgroup.specs.GroupPlan as plans
use Rattle.au_rwgroup.specs.GroupPlan.{Places, kept_for, all_member_columns, all_member_aggs, all_result_columns, second_grouping}
use Rattle.au_rwexpr.proofs.Places.{At, at_past, EndsOfAll, ends_more, all_ends, all_ends_at, all_ends_more}
use Rattle.au_rwexpr.proofs.Places.{Ends}
use Rattle.au_rwexpr.proofs.Columns.{AllMean, adds}
use Rattle.au_rwexpr.proofs.OnValues.{reading, Has, column_has}
use Rattle.au_rwexpr.proofs.Picks.{kept_are, picks_more, pick_cells, pick_three, ends_past, all_ends_long, all_ends-append}
use Rattle.au_rwexpr.proofs.Gives.{GivesEncoded, grow_is, rows-extend_all, map-map, map_valid}
use Rattle.au_rwexpr.specs.Adding.{grow}
use Rattle.au_rwgroup.proofs.FirstGroup as group
use Rattle.au_rwexpr.proofs.Flags.{counted, greatest_counted, below_zero}
use Rattle.au_combine.proofs.JoinGroups.{with_left}
use Rattle.au_rwgroup.proofs.SecondRows as second
use Rattle.au_rwgroup.proofs.MemberColumns as member
use Rattle.au_rwgroup.proofs.MemberColumns.{sum_same}
use Rattle.au_rwgroup.proofs.ColumnsThere.{IsOn}
use Rattle.au_rwgroup.proofs.FoldRows.{summed}
use Rattle.au_rwgroup.proofs.Sharing.{Fold, IsFold, Sharing, fold_row}
use Rattle.au_rwgroup.specs.declared.folding.Folding.{Folding}
use Rattle.au_rwgroup.specs.Folds as plans_of
use Rattle.au_rwgroup.specs.Folds.{fold_width}
use Rattle.au_rwgroup.proofs.Defaults.{nonempty, any_filter, or_else_is, least_if, greatest_if, sure_belongs}
use Rattle.au_rwgroup.proofs.Narrowed.{from_filter, narrowed}
use Rattle.au_rwexpr.proofs.Allowed.{all_both}
use Rattle.au_rwexpr.proofs.Coded.{rl, rs, rh, cl, cg, cm}
use Rattle.au_rwgroup.proofs.KeyReading.{KeyReading, counts_in, grouped_in, output_in}

-- four columns for each aggregate, and one for the sure members
member_aggs_long : (m : ℕ) (bs : List Agg) → length (all_member_aggs m bs) ≡ 4 * length bs + 1
member_aggs_long m [] = refl
member_aggs_long m (agg.Sum d ∷ bs) = omega (arith, member_aggs_long (m + 4) bs)
member_aggs_long m (agg.Min d ∷ bs) = omega (arith, member_aggs_long (m + 4) bs)
member_aggs_long m (agg.Max d ∷ bs) = omega (arith, member_aggs_long (m + 4) bs)

-- 1 or 0 is at least 1 where it is 1
one_if : (b : Bool) → nat_le 1 (if b then 1 else 0) ≡ b
one_if true = refl
one_if false = refl

-- the three ends of a range whose guess counts only where the group is guessed
low_of : (t : Bool) (r : Span) → r.lo ≡ (guess_if t r).lo
low_of true r = refl
low_of false r = refl

high_of : (t : Bool) (r : Span) → r.hi ≡ (guess_if t r).hi
high_of true r = refl
high_of false r = refl

guess_of : (t : Bool) (r : Span) → (if t then r.sg else r.lo) ≡ (guess_if t r).sg
guess_of true r = refl
guess_of false r = refl

module _ (by : KeyReading) (aggs : List Agg) (ok_aggs : AllByRecursion (IsOn (length by.ks)) aggs) (rows : Bounded) (ok : IsRelation by.ks rows) (shared : Sharing by rows) where
  abbrev c : ℕ
  c = length by.ks

  abbrev more : List PAgg
  more = flat_map kept_for aggs

  abbrev b : ℕ
  b = 3 * by.k + 3 + length more

  abbrev n : ℕ
  n = b + fold_width by.k (length aggs) + 4

  abbrev places : Places
  places = record { keys = by.k; fold = b; tests = b + fold_width by.k (length aggs) }

  abbrev box_row : List Value → List Value
  box_row key = second.box_row by more aggs rows ok key

  abbrev members : List Value → Bounded
  members key = second.members by more aggs rows ok key

  abbrev overlaps : List Value → RangeRow → Bool
  overlaps key r = second.overlaps by more aggs rows ok key r

  -- the folds that overlap a box
  abbrev folds : List Value → List Fold
  folds key = second.folds by more aggs rows ok shared key

  abbrev row_of : Fold → List Value
  row_of fold = fold_row by aggs fold

  -- a key that occurs
  abbrev IsKey : List Value → Type 0
  IsKey key = second.IsKey by more aggs rows ok key

  -- what is kept of the rows that belong to a box
  abbrev keep : List Value → PAgg → Value
  keep key a = member.keep by more aggs rows ok key a

  abbrev Pair : Type 0
  Pair = List Value × Fold

  abbrev values : List Agg → Pair → List Value
  values bs s = member.values by more aggs rows ok bs s

  abbrev joined : Pair → List Value
  joined s = box_row s.0 ++ row_of s.1

  -- what the tests and the weights say of a pair
  abbrev tests : Pair → List Value
  tests s = member.test_values by more aggs rows ok s

  abbrev weights : Pair → List Value
  weights s = member.weight_values by more aggs rows ok s

  abbrev added : Pair → List Value
  added s = tests s ++ (weights s ++ values aggs s)

  abbrev pub wide : Pair → List Value
  wide s = joined s ++ added s

  abbrev g : List Value → Grouped
  g key = grouped_in by rows key

  abbrev belongs : List Value → RangeRow → Bool
  belongs key r = same_row key (guesses (by.keys r.cells))

  abbrev v1 : Agg → List Value → RangeRow → Value
  v1 a key r = member.value_1 by more aggs rows ok a (key, r)

  abbrev v2 : Agg → List Value → RangeRow → Value
  v2 a key r = member.value_2 by more aggs rows ok a (key, r)

  abbrev v3 : Agg → List Value → RangeRow → Value
  v3 a key r = member.value_3 by more aggs rows ok a (key, r)

  abbrev v4 : Agg → List Value → RangeRow → Value
  v4 a key r = member.value_4 by more aggs rows ok a (key, r)

  -- a certain member with a copy in every world
  abbrev is_there : List Value → RangeRow → Bool
  is_there key r = (g key).is_certain_member r && nat_le 1 r.annot.least

  abbrev w1 : Agg → Pair → Value
  w1 a s = member.fold_1 by more aggs rows ok a s

  abbrev w2 : Agg → Pair → Value
  w2 a s = member.fold_2 by more aggs rows ok a s

  abbrev w3 : Agg → Pair → Value
  w3 a s = member.fold_3 by more aggs rows ok a s

  abbrev w4 : Agg → Pair → Value
  w4 a s = member.fold_4 by more aggs rows ok a s

  -- the values of a fold's columns, by their places
  abbrev pub ValuesAt : List Value → ℕ → Pair → List Agg → Type 0
  ValuesAt row m s [] = At row m (member.fold_there by more aggs rows ok s)
  ValuesAt row m s (a ∷ bs) = (At row m (w1 a s) × At row (m + 1) (w2 a s) × At row (m + 2) (w3 a s) × At row (m + 3) (w4 a s)) × ValuesAt row (m + 4) s bs

  -- the columns of a fold stand behind any front
  values_at : (pre : List Value) (m : ℕ) (s : Pair) (bs : List Agg) → length pre ≡ m → ValuesAt (pre ++ values bs s) m s bs
  values_at pre m s [] e = at_past pre (values [] s) 0 m _ (omega (arith, e)) refl
  values_at pre m s (a ∷ bs) e =
      let four = w1 a s ∷ w2 a s ∷ w3 a s ∷ w4 a s ∷ [] in (
        (
          at_past pre (values (a ∷ bs) s) 0 m _ (omega (arith, e)) refl,
          at_past pre (values (a ∷ bs) s) 1 (m + 1) _ (omega (arith, e)) refl,
          at_past pre (values (a ∷ bs) s) 2 (m + 2) _ (omega (arith, e)) refl,
          at_past pre (values (a ∷ bs) s) 3 (m + 3) _ (omega (arith, e)) refl,
        ),
        subst (λ row. ValuesAt row (m + 4) s bs) (append_assoc pre four (values bs s)) (values_at (pre ++ four) (m + 4) s bs (omega (arith, e, length-append pre four))),
      )

  -- the values behind the tests and the weights
  pub wide_at : (s : Pair) → IsKey s.0 → IsFold by s.1 → ValuesAt (wide s) n s aggs
  wide_at s some there =
      let tested = joined s ++ tests s in
      let front = tested ++ weights s in
      let turned : front ++ values aggs s ≡ wide s = append_assoc tested (weights s) (values aggs s) ∙ append_assoc (joined s) (tests s) (weights s ++ values aggs s) in
      subst (λ row. ValuesAt row n s aggs) turned
      (values_at front n s aggs (omega (arith, member.row_long by more aggs rows ok s (some, there), length-append (joined s) (tests s), length-append tested (weights s))))

  -- the four results of a box's aggregate, of which a sum takes three
  abbrev r1 : Agg → List Value → Value
  r1 (agg.Sum d) key = value.Int (int_sum (map (lower_term (g key) d) (members key)))
  r1 (agg.Min d) key = least (map (v1 (agg.Min d) key) (members key))
  r1 (agg.Max d) key = greatest (map (v1 (agg.Max d) key) (members key))

  abbrev r2 : Agg → List Value → Value
  r2 (agg.Sum d) key = value.Int (int_sum (map (guess_term d) (filter (belongs key) rows)))
  r2 (agg.Min d) key = least (map (v2 (agg.Min d) key) (members key))
  r2 (agg.Max d) key = greatest (map (v2 (agg.Max d) key) (members key))

  abbrev r3 : Agg → List Value → Value
  r3 (agg.Sum d) key = value.Int (int_sum (map (upper_term (g key) d) (members key)))
  r3 (agg.Min d) key = least (map (v3 (agg.Min d) key) (members key))
  r3 (agg.Max d) key = greatest (map (v3 (agg.Max d) key) (members key))

  -- a sum has no fourth
  abbrev FourthAt : List Value → ℕ → List Value → Agg → Type 0
  FourthAt row i key (agg.Sum d) = Unit {0}
  FourthAt row i key (agg.Min d) = At row i (greatest (map (v4 (agg.Min d) key) (members key)))
  FourthAt row i key (agg.Max d) = At row i (least (map (v4 (agg.Max d) key) (members key)))

  -- the results by their places, and whether a sure member is there
  abbrev ResultsAt : List Value → ℕ → List Value → List Agg → Type 0
  ResultsAt row z key [] = At row z (counted (list_any (is_there key) (members key)))
  ResultsAt row z key (a ∷ bs) = (At row z (r1 a key) × At row (z + 1) (r2 a key) × At row (z + 2) (r3 a key) × FourthAt row (z + 3) key a) × ResultsAt row (z + 4) key bs

  -- the last result
  last_at : (row : List Value) (z : ℕ) (key : List Value) (bs : List Agg) → ResultsAt row z key bs → At row (z + 4 * length bs) (counted (list_any (is_there key) (members key)))
  last_at row z key [] at = subst (λ i. At row i (counted (list_any (is_there key) (members key)))) (let e : z ≡ z + 0 = omega arith in e) at
  last_at row z key (a ∷ bs) at =
      subst (λ i. At row i (counted (list_any (is_there key) (members key)))) (let e : z + 4 + 4 * length bs ≡ z + 4 * length (a ∷ bs) = omega arith in e) (last_at row (z + 4) key bs at.1)

  -- an aggregate over the rows of a box with its folds
  abbrev over : List Value → PAgg → Value
  over key = plain_aggregate (map wide (with_left box_row folds key (folds key)))

  -- the members are rows of the kinds
  members_ok : (key : List Value) → IsRelation by.ks (members key)
  members_ok key = all_filter (IsRangeRow by.ks) (overlaps key) rows ok

  abbrev passes_by : List Value → List Value → Bool
  passes_by key fold = second.fold_overlaps by more aggs rows ok key fold

  folds_ok : (key : List Value) → AllByRecursion (IsFold by) (folds key)
  folds_ok key = second.folds_ok by more aggs rows ok shared key

  -- a column of the folds
  column_over : (key : List Value) (i : ℕ) (f : Fold → Value) → ((fold : Fold) → IsFold by fold → At (wide (key, fold)) i (f fold)) → map (λ row. value_at row i) (map wide (with_left box_row folds key (folds key))) ≡ map f (folds key)
  column_over key i f at =
      ap (map (λ row. value_at row i)) (map-map (λ fold. (key, fold)) wide (folds key))
      ∙ map-map (λ fold. wide (key, fold)) (λ row. value_at row i) (folds key)
      ∙ map_valid (IsFold by) (λ fold. value_at (wide (key, fold)) i) f (folds key) (folds_ok key) (λ fold v. ap (λ o. unwrap_or o (value.Int (pos 0))) (at fold v))

  -- a sum, a least and a greatest over the members, from those over their folds
  one_int : (key : List Value) (i : ℕ) (f : RangeRow → ℤ) → ((fold : Fold) → IsFold by fold → At (wide (key, fold)) i (summed f fold.rows)) → over key (Sum i) ≡ value.Int (int_sum (map f (members key)))
  one_int key i f at =
      ap value.Int (ap int_sum (ap (map (λ row. number (value_at row i))) (map-map (λ fold. (key, fold)) wide (folds key))
      ∙ map-map (λ fold. wide (key, fold)) (λ row. number (value_at row i)) (folds key)
      ∙ map_valid (IsFold by) (λ fold. number (value_at (wide (key, fold)) i)) (λ fold. int_sum (map f fold.rows)) (folds key) (folds_ok key)
      (λ fold v. ap (λ o. number (unwrap_or o (value.Int (pos 0)))) (at fold v)))
      ∙ shared.sums (passes_by key) f
      ∙ (λ j. int_sum (map f (second.members_are by more aggs rows ok key j))))

  one_least : (key : List Value) → IsKey key → (i : ℕ) (f : RangeRow → Value) → ((fold : Fold) → IsFold by fold → At (wide (key, fold)) i (least (map f fold.rows))) → over key (Min i) ≡ least (map f (members key))
  one_least key some i f at =
      ap least (column_over key i (λ fold. least (map f fold.rows)) at)
      ∙ shared.leasts (passes_by key) f (second.some_with_fold by more aggs rows ok key some)
      ∙ (λ j. least (map f (second.members_are by more aggs rows ok key j)))

  one_greatest : (key : List Value) → IsKey key → (i : ℕ) (f : RangeRow → Value) → ((fold : Fold) → IsFold by fold → At (wide (key, fold)) i (greatest (map f fold.rows))) → over key (Max i) ≡ greatest (map f (members key))
  one_greatest key some i f at =
      ap greatest (column_over key i (λ fold. greatest (map f fold.rows)) at)
      ∙ shared.greatests (passes_by key) f (second.some_with_fold by more aggs rows ok key some)
      ∙ (λ j. greatest (map f (second.members_are by more aggs rows ok key j)))

  -- four results behind a front, each with what it is
  four_at : (pre rest : List Value) (z : ℕ) (a b c d p q r s : Value) → length pre ≡ z → a ≡ p → b ≡ q → c ≡ r → d ≡ s → At (pre ++ (a ∷ b ∷ c ∷ d ∷ rest)) z p × At (pre ++ (a ∷ b ∷ c ∷ d ∷ rest)) (z + 1) q × At (pre ++ (a ∷ b ∷ c ∷ d ∷ rest)) (z + 2) r × At (pre ++ (a ∷ b ∷ c ∷ d ∷ rest)) (z + 3) s
  four_at pre rest z a b c d p q r s e one two three four =
      let tail = a ∷ b ∷ c ∷ d ∷ rest in
      let row = pre ++ tail in (
        subst (λ y. At row z y) one (at_past pre tail 0 z _ (omega (arith, e)) refl),
        subst (λ y. At row (z + 1) y) two (at_past pre tail 1 (z + 1) _ (omega (arith, e)) refl),
        subst (λ y. At row (z + 2) y) three (at_past pre tail 2 (z + 2) _ (omega (arith, e)) refl),
        subst (λ y. At row (z + 3) y) four (at_past pre tail 3 (z + 3) _ (omega (arith, e)) refl),
      )

  -- whether a sure member is there, behind all results
  sure_at : (key : List Value) → IsKey key → (some_member : RangeRow) (other_members : Bounded) → members key ≡ some_member ∷ other_members → (pre : List Value) (z m : ℕ) → length pre ≡ z → ((fold : Fold) → IsFold by fold → ValuesAt (wide (key, fold)) m (key, fold) []) → ResultsAt (pre ++ map (over key) (all_member_aggs m [])) z key []
  sure_at key some x xs is pre z m e at =
      let sure = λ (r : RangeRow). counted (is_there key r) in
      subst (λ y. At (pre ++ map (over key) (all_member_aggs m [])) z y)
      (one_greatest key some m sure at ∙ subst (λ ms. greatest (map sure ms) ≡ counted (list_any (is_there key) ms)) (sym is) (greatest_counted (is_there key) x xs))
      (at_past pre (map (over key) (all_member_aggs m [])) 0 z _ (omega (arith, e)) refl)

  -- the guessed sum of the members is that of the rows that belong
  guessed_sum : (key : List Value) → IsKey key → (d : ℕ) → int_sum (map (λ r. if belongs key r then guess_term d r else pos 0) (members key)) ≡ int_sum (map (guess_term d) (filter (belongs key) rows))
  guessed_sum key some d =
      sum_same (IsRangeRow by.ks) (overlaps key) (belongs key) (guess_term d) (λ r v h. second.belongs_overlaps by more aggs rows ok key some r v h) rows ok

  -- the results of a box, four of each aggregate
  results_at : (key : List Value) → IsKey key → (some_member : RangeRow) (other_members : Bounded) → members key ≡ some_member ∷ other_members → (pre : List Value) (z m : ℕ) (bs : List Agg) → length pre ≡ z → ((fold : Fold) → IsFold by fold → ValuesAt (wide (key, fold)) m (key, fold) bs) → ResultsAt (pre ++ map (over key) (all_member_aggs m bs)) z key bs
  results_at key some x xs is pre z m [] e at = sure_at key some x xs is pre z m e at
  results_at key some x xs is pre z m (agg.Sum d ∷ bs) e at =
      let l = one_int key m (lower_term (g key) d) (λ r v. (at r v).0.0) in
      let s = one_int key (m + 1) (λ r. if belongs key r then guess_term d r else pos 0) (λ r v. (at r v).0.1) ∙ ap value.Int (guessed_sum key some d) in
      let u = one_int key (m + 2) (upper_term (g key) d) (λ r v. (at r v).0.2) in
      let rest = map (over key) (all_member_aggs (m + 4) bs) in
      let four = over key (Sum m) ∷ over key (Sum (m + 1)) ∷ over key (Sum (m + 2)) ∷ over key (Sum (m + 3)) ∷ [] in
      let t = four_at pre rest z (over key (Sum m)) (over key (Sum (m + 1))) (over key (Sum (m + 2))) (over key (Sum (m + 3))) _ _ _ _ e l s u refl in (
        (t.0, t.1, t.2, tt),
        subst (λ r. ResultsAt r (z + 4) key bs) (append_assoc pre four rest)
            (results_at key some x xs is (pre ++ four) (z + 4) (m + 4) bs (omega (arith, e, length-append pre four)) (λ r v. (at r v).1)),
      )
  results_at key some x xs is pre z m (agg.Min d ∷ bs) e at =
      let l = one_least key some m (v1 (agg.Min d) key) (λ r v. (at r v).0.0) in
      let s = one_least key some (m + 1) (v2 (agg.Min d) key) (λ r v. (at r v).0.1) in
      let u = one_least key some (m + 2) (v3 (agg.Min d) key) (λ r v. (at r v).0.2) in
      let w = one_greatest key some (m + 3) (v4 (agg.Min d) key) (λ r v. (at r v).0.3) in
      let rest = map (over key) (all_member_aggs (m + 4) bs) in
      let four = over key (Min m) ∷ over key (Min (m + 1)) ∷ over key (Min (m + 2)) ∷ over key (Max (m + 3)) ∷ [] in (
        four_at pre rest z (over key (Min m)) (over key (Min (m + 1))) (over key (Min (m + 2))) (over key (Max (m + 3))) _ _ _ _ e l s u w,
        subst (λ r. ResultsAt r (z + 4) key bs) (append_assoc pre four rest)
            (results_at key some x xs is (pre ++ four) (z + 4) (m + 4) bs (omega (arith, e, length-append pre four)) (λ r v. (at r v).1)),
      )
  results_at key some x xs is pre z m (agg.Max d ∷ bs) e at =
      let l = one_greatest key some m (v1 (agg.Max d) key) (λ r v. (at r v).0.0) in
      let s = one_greatest key some (m + 1) (v2 (agg.Max d) key) (λ r v. (at r v).0.1) in
      let u = one_greatest key some (m + 2) (v3 (agg.Max d) key) (λ r v. (at r v).0.2) in
      let w = one_least key some (m + 3) (v4 (agg.Max d) key) (λ r v. (at r v).0.3) in
      let rest = map (over key) (all_member_aggs (m + 4) bs) in
      let four = over key (Max m) ∷ over key (Max (m + 1)) ∷ over key (Max (m + 2)) ∷ over key (Min (m + 3)) ∷ [] in (
        four_at pre rest z (over key (Max m)) (over key (Max (m + 1))) (over key (Max (m + 2))) (over key (Min (m + 3))) _ _ _ _ e l s u w,
        subst (λ r. ResultsAt r (z + 4) key bs) (append_assoc pre four rest)
            (results_at key some x xs is (pre ++ four) (z + 4) (m + 4) bs (omega (arith, e, length-append pre four)) (λ r v. (at r v).1)),
      )

  module _ (key : List Value) (some : IsKey key) where
    abbrev is_guess : RangeRow → Bool
    is_guess r = belongs key r && nat_le 1 r.annot.guess

    -- the guessed rows of the group are the guessed members
    guessed_are : guessed_there (g key) ≡ filter is_guess (members key)
    guessed_are = sym (narrowed (IsRangeRow by.ks) (overlaps key) (belongs key) (λ r. nat_le 1 r.annot.guess) rows ok (λ r v h. second.belongs_overlaps by more aggs rows ok key some r v h))

    -- the group is guessed where one of them is
    guessed_is : (g key).is_guessed ≡ nonempty (filter is_guess (members key))
    guessed_is = any_filter (λ r. nat_le 1 r.annot.guess) (filter (belongs key) rows) ∙ ap nonempty guessed_are

    -- a row of ranges that overlaps the box
    abbrev Sound : RangeRow → Type 0
    Sound r = IsRangeRow by.ks r × (overlaps key r ≡ true)

    -- each member is one
    all_sound : AllByRecursion Sound (members key)
    all_sound = all_both (IsRangeRow by.ks) (λ r. overlaps key r ≡ true) (members key) (members_ok key) (passing (overlaps key) rows)

    -- a sure member belongs to the box
    sure_is_belonging : (r : RangeRow) → Sound r → is_there key r ≡ true → belongs key r ≡ true
    sure_is_belonging r v t =
        let box = second.box by more aggs rows ok key in
        let p = and_parts _ _ t in
        let q = and_parts (all_certain (by.keys r.cells)) (all_certain box) p.0 in
        ap (same_row key) (sure_belongs by.kks (by.keys r.cells) box (by.kinded r v.0) (second.box_ranges by more aggs rows ok key some) q.0 q.1 v.1 ∙ second.box_guess by more aggs rows ok key some) ∙ same_row_refl key

    -- what holds of each row that belongs holds of the guessed members, and of the sure ones
    of_guessed : (P : RangeRow → Type 0) → AllByRecursion (λ r. belongs key r ≡ true → P r) rows → AllByRecursion (λ r. is_guess r ≡ true → P r) (members key)
    of_guessed P all =
        all_from (λ r. belongs key r ≡ true → P r) (λ r. is_guess r ≡ true → P r) (members key) (λ r h t. h (and_parts (belongs key r) (nat_le 1 r.annot.guess) t).0)
        (all_filter (λ r. belongs key r ≡ true → P r) (overlaps key) rows all)

    of_sure : (P : RangeRow → Type 0) → AllByRecursion (λ r. belongs key r ≡ true → P r) rows → AllByRecursion (λ r. is_there key r ≡ true → P r) (members key)
    of_sure P all =
        all_from (λ r. Sound r × (belongs key r ≡ true → P r)) (λ r. is_there key r ≡ true → P r) (members key) (λ r h t. h.1 (sure_is_belonging r h.0 t))
        (all_both Sound (λ r. belongs key r ≡ true → P r) (members key) all_sound (all_filter (λ r. belongs key r ≡ true → P r) (overlaps key) rows all))

    -- the greatest that is kept bounds each row that belongs, and so does the least
    below_kept : (f : RangeRow → Value) (dv : Value) → dv ≡ greatest (map f (filter (belongs key) rows)) → AllByRecursion (λ r. belongs key r ≡ true → at_most (f r) dv ≡ true) rows
    below_kept f dv e =
        subst (λ y. AllByRecursion (λ r. belongs key r ≡ true → at_most (f r) y ≡ true) rows) (sym e)
        (from_filter (λ r. at_most (f r) (greatest (map f (filter (belongs key) rows))) ≡ true) (belongs key) rows (greatest_above f (filter (belongs key) rows)))

    above_kept : (f : RangeRow → Value) (dv : Value) → dv ≡ least (map f (filter (belongs key) rows)) → AllByRecursion (λ r. belongs key r ≡ true → at_most dv (f r) ≡ true) rows
    above_kept f dv e =
        subst (λ y. AllByRecursion (λ r. belongs key r ≡ true → at_most y (f r) ≡ true) rows) (sym e)
        (from_filter (λ r. at_most (least (map f (filter (belongs key) rows))) (f r) ≡ true) (belongs key) rows (least_below f (filter (belongs key) rows)))

    -- the guess of MIN, where the group is guessed
    min_guess : (d : ℕ) → d < c → (o : Value) → (if (g key).is_guessed then r2 (agg.Min d) key else o) ≡ (if (g key).is_guessed then least (map (λ r. (range_at d r).sg) (guessed_there (g key))) else o)
    min_guess d here o =
        let dv = keep key (Max (3 * d + 1)) in
        let sg = λ (r : RangeRow). (range_at d r).sg in
        let bound = of_guessed (λ r. at_most ((range_at d r).sg) dv ≡ true) (below_kept sg dv (member.greatest_sg by more aggs rows ok key d here)) in
        (λ i. if guessed_is i then r2 (agg.Min d) key else o) ∙ least_if is_guess sg dv (members key) o bound
        ∙ sym (λ i. if guessed_is i then least (map sg (guessed_are i)) else o)

    -- the inner end of MIN
    min_inner : (d : ℕ) → d < c → (o : Value) → (if list_any (is_there key) (members key) then r3 (agg.Min d) key else o) ≡ or_else (surely_there (g key)) (least (map (λ r. (range_at d r).hi) (surely_there (g key)))) o
    min_inner d here o =
        let dv = keep key (Max (3 * d + 2)) in
        let end = λ (r : RangeRow). (range_at d r).hi in
        let bound = of_sure (λ r. at_most ((range_at d r).hi) dv ≡ true) (below_kept end dv (member.greatest_hi by more aggs rows ok key d here)) in
        (λ i. if any_filter (is_there key) (members key) i then r3 (agg.Min d) key else o) ∙ least_if (is_there key) end dv (members key) o bound
        ∙ sym (or_else_is (surely_there (g key)) (least (map end (surely_there (g key)))) o)

    -- the guess of MAX, where the group is guessed
    max_guess : (d : ℕ) → d < c → (o : Value) → (if (g key).is_guessed then r2 (agg.Max d) key else o) ≡ (if (g key).is_guessed then greatest (map (λ r. (range_at d r).sg) (guessed_there (g key))) else o)
    max_guess d here o =
        let dv = keep key (Min (3 * d + 1)) in
        let sg = λ (r : RangeRow). (range_at d r).sg in
        let bound = of_guessed (λ r. at_most dv ((range_at d r).sg) ≡ true) (above_kept sg dv (member.least_sg by more aggs rows ok key d here)) in
        (λ i. if guessed_is i then r2 (agg.Max d) key else o) ∙ greatest_if is_guess sg dv (members key) o bound
        ∙ sym (λ i. if guessed_is i then greatest (map sg (guessed_are i)) else o)

    -- the inner end of MAX
    max_inner : (d : ℕ) → d < c → (o : Value) → (if list_any (is_there key) (members key) then r3 (agg.Max d) key else o) ≡ or_else (surely_there (g key)) (greatest (map (λ r. (range_at d r).lo) (surely_there (g key)))) o
    max_inner d here o =
        let dv = keep key (Min (3 * d)) in
        let end = λ (r : RangeRow). (range_at d r).lo in
        let bound = of_sure (λ r. at_most dv ((range_at d r).lo) ≡ true) (above_kept end dv (member.least_lo by more aggs rows ok key d here)) in
        (λ i. if any_filter (is_there key) (members key) i then r3 (agg.Max d) key else o) ∙ greatest_if (is_there key) end dv (members key) o bound
        ∙ sym (or_else_is (surely_there (g key)) (greatest (map end (surely_there (g key)))) o)

    -- the ranges of the results
    finals : (row : List Value) (there has_guess : PTerm) (z : ℕ) (bs : List Agg) → AllByRecursion (IsOn c) bs → Has row there (value.Flag (list_any (is_there key) (members key))) → Has row has_guess (value.Flag (g key).is_guessed) → ResultsAt row z key bs → AllMean reading row (all_result_columns there has_guess z bs) (all_ends rl rs rh (map (aggregate (g key)) bs))
    finals row there has_guess z [] q t h at = tt
    finals row there has_guess z (agg.Sum d ∷ bs) q t h at =
        let l = column_has row z (r1 (agg.Sum d) key) at.0.0 in
        let s = column_has row (z + 1) (r2 (agg.Sum d) key) at.0.1 in
        let u = column_has row (z + 2) (r3 (agg.Sum d) key) at.0.2 in
        let whole = range (r1 (agg.Sum d) key) (r2 (agg.Sum d) key) (r3 (agg.Sum d) key) in (
          (λ more. ap Some (l more ∙ low_of (g key).is_guessed whole)),
          (
            (λ more. (λ i. Some (on_values.choose (h more i) (s more i) (l more i))) ∙ ap Some (guess_of (g key).is_guessed whole)),
            ((λ more. ap Some (u more ∙ high_of (g key).is_guessed whole)), finals row there has_guess (z + 4) bs q.1 t h at.1),
          ),
        )
    finals row there has_guess z (agg.Min d ∷ bs) q t h at =
        let low = r1 (agg.Min d) key in
        let far = greatest (map (v4 (agg.Min d) key) (members key)) in
        let inner = or_else (surely_there (g key)) (least (map (λ r. (range_at d r).hi) (surely_there (g key)))) far in
        let l = column_has row z low at.0.0 in
        let s = column_has row (z + 1) (r2 (agg.Min d) key) at.0.1 in
        let u = column_has row (z + 2) (r3 (agg.Min d) key) at.0.2 in
        let w = column_has row (z + 3) far at.0.3 in
        let whole = range low (least (map (λ r. (range_at d r).sg) (guessed_there (g key)))) inner in (
          (λ more. ap Some (l more ∙ low_of (g key).is_guessed whole)),
          (
            (λ more. (λ i. Some (on_values.choose (h more i) (s more i) (l more i))) ∙ ap Some (min_guess d q.0 low ∙ guess_of (g key).is_guessed whole)),
            (
              (λ more. (λ i. Some (on_values.choose (t more i) (u more i) (w more i))) ∙ ap Some (min_inner d q.0 far ∙ high_of (g key).is_guessed whole)),
              finals row there has_guess (z + 4) bs q.1 t h at.1,
            ),
          ),
        )
    finals row there has_guess z (agg.Max d ∷ bs) q t h at =
        let high = r1 (agg.Max d) key in
        let far = least (map (v4 (agg.Max d) key) (members key)) in
        let inner = or_else (surely_there (g key)) (greatest (map (λ r. (range_at d r).lo) (surely_there (g key)))) far in
        let l = column_has row z high at.0.0 in
        let s = column_has row (z + 1) (r2 (agg.Max d) key) at.0.1 in
        let u = column_has row (z + 2) (r3 (agg.Max d) key) at.0.2 in
        let w = column_has row (z + 3) far at.0.3 in
        let whole = range inner (greatest (map (λ r. (range_at d r).sg) (guessed_there (g key)))) high in (
          (λ more. (λ i. Some (on_values.choose (t more i) (u more i) (w more i))) ∙ ap Some (max_inner d q.0 far ∙ low_of (g key).is_guessed whole)),
          (
            (λ more.
                (λ i. Some (on_values.choose (h more i) (s more i) (on_values.choose (t more i) (u more i) (w more i))))
                ∙ (λ i. Some (if (g key).is_guessed then r2 (agg.Max d) key else max_inner d q.0 far i))
                ∙ ap Some (max_guess d q.0 inner ∙ guess_of (g key).is_guessed whole)),
            ((λ more. ap Some (l more ∙ high_of (g key).is_guessed whole)), finals row there has_guess (z + 4) bs q.1 t h at.1),
          ),
        )

  -- the rows that belong to a key, their box, their triple, and what is kept of them
  abbrev belonging : List Value → Bounded
  belonging key = filter (belongs key) rows

  abbrev box : List Value → List Span
  box key = by.box key (belonging key)

  abbrev triple : List Value → Counts
  triple key = counts_in by (belonging key)

  abbrev kept_values : List Value → List Value
  kept_values key = map (plain_aggregate (map (group.wide by) (belonging key))) more

  abbrev results : List Value → List Value
  results key = map (over key) (all_member_aggs n aggs)

  -- a row of the second grouping, and the columns that finish it
  abbrev grouped_row : List Value → List Value
  grouped_row key = box_row key ++ results key

  abbrev has_guess : PTerm
  has_guess = positive (sg (3 * by.k))

  abbrev has_member : PTerm
  has_member = positive (Column (b + 4 * length aggs))

  abbrev final_columns : List PTerm
  final_columns = all_result_columns has_member has_guess b aggs

  abbrev z : ℕ
  z = b + 4 * length aggs + 1

  abbrev final_places : List ℕ
  final_places = cell_places 0 by.k ++ (cell_places z (length aggs) ++ three_places (3 * by.k))

  abbrev out : List Value → RangeRow
  out key = output_in by aggs rows key

  -- the row of one box: its parts by their places, and the row of its output
  module _ (key : List Value) (some : IsKey key) where
    abbrev row : List Value
    row = grouped_row key

    abbrev ranges : List Span
    ranges = map (aggregate (g key)) aggs

    abbrev ends : List Value
    ends = all_ends rl rs rh ranges

    cells_long : length (encode_cells (box key)) ≡ 3 * by.k
    cells_long = all_ends_long rl rs rh (box key) ∙ ap (λ m. 3 * m) (second.box_long by more aggs rows ok key some)

    row_long : length row ≡ z
    row_long =
        let front = second.box_row_long by more aggs rows ok key some in
        omega (arith, length-append (box_row key) (results key), front, length-map (all_member_aggs n aggs) (over key), member_aggs_long n aggs)

    -- the box and its triple stand first
    box_at : EndsOfAll rl rs rh row 0 (box key)
    box_at = all_ends_more rl rs rh (box_row key) (results key) 0 (box key) (all_ends_at rl rs rh [] (encode_counts (triple key) ++ kept_values key) 0 (box key) refl)

    triple_at : Ends cl cg cm row (3 * by.k) (triple key)
    triple_at =
        ends_more cl cg cm (box_row key) (results key) (3 * by.k) (triple key) (ends_past cl cg cm (encode_cells (box key)) (kept_values key) (3 * by.k) (triple key) cells_long)

    -- the results stand behind them
    results_there : ResultsAt row b key aggs
    results_there =
        let met = second.found_member by more aggs rows ok key some in
        results_at key some met.first met.others met.is (box_row key) b n aggs (second.box_row_long by more aggs rows ok key some) (λ fold v. wide_at (key, fold) some v)

    -- whether the group is guessed, and whether a sure member is there
    guess_flag : Has row has_guess (value.Flag (g key).is_guessed)
    guess_flag =
        let guess_is = column_has row (3 * by.k + 1) (cg (triple key)) triple_at.sg in
        λ extra. (λ i. value.Flag (below (value.Int (pos 0)) (guess_is extra i))) ∙ ap value.Flag (below_zero (triple key).guess ∙ one_if (g key).is_guessed)

    sure_flag : Has row has_member (value.Flag (list_any (is_there key) (members key)))
    sure_flag =
        let any = list_any (is_there key) (members key) in
        let last_is = column_has row (b + 4 * length aggs) (counted any) (last_at row b key aggs results_there) in
        λ extra. (λ i. value.Flag (below (value.Int (pos 0)) (last_is extra i))) ∙ ap value.Flag (below_zero (if any then 1 else 0) ∙ one_if any)

    -- the last columns are the ranges of the results
    grown : grow final_columns row ≡ row ++ ends
    grown = grow_is final_columns row (row ++ ends) (adds reading row final_columns ends (finals key some row has_member has_guess b aggs ok_aggs sure_flag guess_flag results_there))

    -- what is kept of the row is the encoded output
    each_output : kept final_places (grow final_columns row) ≡ encode_row (out key)
    each_output =
        let whole = row ++ ends in
        let first = pick_cells rl rs rh whole 0 by.k (box key) (second.box_long by more aggs rows ok key some) (all_ends_more rl rs rh row ends 0 (box key) box_at) in
        let second_cells = pick_cells rl rs rh whole z (length aggs) ranges (length-map aggs (aggregate (g key)))
        (subst (λ q. EndsOfAll rl rs rh (row ++ q) z ranges) (append-nil ends) (all_ends_at rl rs rh row [] z ranges row_long)) in
        let last = pick_three cl cg cm whole (3 * by.k) (triple key) (ends_more cl cg cm row ends (3 * by.k) (triple key) triple_at) in
        ap (kept final_places) grown
        ∙ kept_are whole final_places (encode_cells (box key) ++ (ends ++ encode_counts (triple key)))
        (picks_more whole (cell_places 0 by.k) (cell_places z (length aggs) ++ three_places (3 * by.k)) (encode_cells (box key)) (ends ++ encode_counts (triple key)) first
        (picks_more whole (cell_places z (length aggs)) (three_places (3 * by.k)) ends (encode_counts (triple key)) second_cells last))
        ∙ sym (append_assoc (encode_cells (box key)) ends (encode_counts (triple key)))
        ∙ ap (λ q. q ++ encode_counts (triple key)) (sym (all_ends-append rl rs rh (box key) ranges))

  -- the kept columns stand behind the box and its triple
  pub kept_there : (s : Pair) → IsKey s.0 × IsFold by s.1 → member.KeptAt by more aggs rows ok (joined s) (3 * by.k + 3) s.0 aggs
  kept_there s v =
      let cells = encode_cells (box s.0) in
      let three = encode_counts (triple s.0) in
      let cells_long : length cells ≡ 3 * by.k = all_ends_long rl rs rh (box s.0) ∙ ap (λ m. 3 * m) (second.box_long by more aggs rows ok s.0 v.0) in
      subst (λ r. member.KeptAt by more aggs rows ok (r ++ row_of s.1) (3 * by.k + 3) s.0 aggs) (append_assoc cells three (kept_values s.0))
      (member.kept_at by more aggs rows ok (cells ++ three) (row_of s.1) (3 * by.k + 3) s.0 aggs (omega (arith, cells_long, length-append cells three)))

  -- The plan over the boxes gives the outputs.
  pub outputs_given : (how : Folding) (ts : List Rows) (boxes p : PlanTree) → plain_rows boxes ts ≡ map box_row (guessed_keys by.keys rows) → plain_rows (plans_of.folds how c by.k aggs p) ts ≡ map row_of shared.parts → GivesEncoded ts (plans.group_over how c by.k aggs boxes p) (map out (guessed_keys by.keys rows))
  outputs_given how ts boxes p boxes_are folded_are =
      let columns = all_member_columns places (3 * by.k + 3) aggs in
      let folded = plans_of.folds how c by.k aggs p in
      let grouped = second_grouping by.k b columns (all_member_aggs n aggs) boxes folded in
      let keys_list = second.keys_list by more aggs rows ok in
      let all_keys = second.all_keys by more aggs rows ok in
      let rows_are : plain_rows grouped ts ≡ map grouped_row keys_list =
      second.second_rows by more aggs rows ok shared columns added
      (λ s v. member.members_added by more aggs rows ok s v (3 * by.k + 3) (kept_there s v)) (all_member_aggs n aggs) ts boxes folded
      boxes_are folded_are in
      ap (map (kept final_places)) (rows-extend_all final_columns grouped ts ∙ ap (map (grow final_columns)) rows_are ∙ map-map grouped_row (grow final_columns) keys_list)
      ∙ map-map (λ key. grow final_columns (grouped_row key)) (kept final_places) keys_list
      ∙ map_valid IsKey (λ key. kept final_places (grow final_columns (grouped_row key))) (λ key. encode_row (out key)) keys_list all_keys each_output
      ∙ sym (map-map out encode_row keys_list)
