-- The outputs of a group: what makes each possible, and where their numbers lie in the range.
use Rattle.std.specs.Prelude.{◌≡◌, ℕ, zero, suc, ◌<◌, Bool, true, false, not, ◌&&◌, ◌||◌, cond, List, [], ◌∷◌, ◌++◌, length, map, filter, take, flat_map, pos, nat_le, ◌==◌, slice_get, Some}
use Rattle.std.specs.List.{AllByRecursion, AllZip, list_all, list_any}
use Rattle.std.proofs.Common.{arith, refl, sym, ◌∙◌, ap, subst, inl, inr}
use Rattle.std.proofs.lemmas.Bool.{cases_Bool, true≢false}
use Rattle.std.proofs.lemmas.List.{take-map}
use Rattle.std.proofs.lemmas.List.Folds.{list_all-append}
use Rattle.std.proofs.lemmas.Bool.{eqb-true}
use Rattle.au_value.specs.declared.kinds.Kind.{Kind}
use Rattle.au_value.specs.declared.value.Value.{Value}
use Rattle.au_value.specs.Ranges.{Span, IsRange, IsRangeOf, guesses, all_overlap}
use Rattle.au_value.specs.Numeral.{is_i128}
use Rattle.au_annot.specs.Counts.{count_fits}
use Rattle.au_annot.specs.Triples.{is_none}
use Rattle.au_algebra.specs.declared.query.Agg.{Agg}
use Rattle.au_algebra.specs.declared.query.Agg.TheVariants.{Sum, Min, Max}
use Rattle.au_algebra.specs.Keys.{with_key}
use Rattle.au_algebra.specs.Lists.{same_row, copies}
use Rattle.au_algebra.specs.Bounded.{RangeRow, Bounded, Grouped, grouped, aggregate, group_counts, group_by, guessed_keys, output, present, some_of}
use Rattle.au_algebra.specs.Fits.{triples_fit, triple_numbers, agg_numbers, grouping_numbers}
use Rattle.au_algebra.specs.Laws.{IsRangeRow, IsRelation}
use Rattle.au_algebra.specs.Typing.{agg_kind, all_kinds}
use Rattle.au_algebra.proofs.AggregateKinds.{kinds_parts}
use Rattle.au_algebra.proofs.DistinctKeys.{Occurs, occurs_distinct}
use Rattle.au_algebra.proofs.Each.{all_filter, all_from}
use Rattle.au_algebra.proofs.GroupRelation.{output_cells, output_triple, some_member, some_belongs, keys_ranges}
use Rattle.au_algebra.proofs.KeptByGroup.{take_holds, keys_wide, keys_valid}
use Rattle.au_algebra.proofs.RelationRows.{relation_holds, relation_ranges, relation_wide}
use Rattle.au_algebra.proofs.SumRanges.{column_kind}
use Rattle.au_kfull.specs.declared.keys.Keys.{Keys}
use Rattle.au_kfull.specs.declared.keys.Keys.TheVariants.{Leading, All}
use Rattle.au_kfull.specs.Extremes.{HasColumn, HaveColumn, HasExtremes, IsPossible}
use Rattle.au_kfull.specs.Keys.{keys_of}
use Rattle.au_kfull.specs.Outputs.{CanAggregate, IsOutput, output_fits, group_fits}
use Rattle.au_kfull.proofs.DifferenceRows.{list_all-flat_map}
use Rattle.au_kfull.proofs.Fitting.{count_in_range}

-- ---- what makes an output possible

inside_by : (k : Kind) (ks : List Kind) (cells : List Span) (c : ℕ) → AllZip IsRangeOf ks cells → slice_get ks c ≡ Some k → c < length cells
inside_by k [] cells c z h = cc
inside_by k (j ∷ ks) [] c z h = elim z [ ]
inside_by k (j ∷ ks) (r ∷ cells) zero z h = omega arith
inside_by k (j ∷ ks) (r ∷ cells) (suc c) z h = let rest = inside_by k ks cells c z.1 h in omega (arith, rest)

columns : (k : Kind) (c : ℕ) (ks : List Kind) (rows : Bounded) → IsRelation ks rows → slice_get ks c ≡ Some k → HaveColumn k c rows
columns k c ks rows ok h =
    all_from (IsRangeRow ks) (HasColumn k c) rows (λ r p. record { inside = inside_by k ks r.cells c p.cells h; range = column_kind k c ks r p h }) ok

some_passes : {A : Type 0} (test : A → Bool) (xs : List A) → list_any test xs ≡ true → 0 < length (filter test xs)
some_passes test [] h = absurd (true≢false (sym h))
some_passes test (x ∷ xs) h = elim (cases_Bool (test x)) [
  | inl t ↦ subst (λ b. 0 < length (cond b (x ∷ filter test xs) (filter test xs))) (sym t) (omega arith)
  | inr f ↦ (
      let rest = some_passes test xs (ap (λ b. b || list_any test xs) (sym f) ∙ h) in
      subst (λ b. 0 < length (cond b (x ∷ filter test xs) (filter test xs))) (sym f) rest)
]

module _ (key : List Span → List Span) (ks : List Kind) (rows : Bounded) (ok : IsRelation ks rows) (guess : List Value) where
  abbrev out : Grouped
  out = grouped key rows guess

  extremes : (c : ℕ) (k : Kind) → slice_get ks c ≡ Some k → 0 < length out.members → HasExtremes out c
  extremes c k h some =
      let all = columns k c ks rows ok h in
      record {
        some = some;
        guessed = some_passes (λ r. nat_le 1 r.annot.guess) out.belonging;
        columns = (
          k,
          all_filter (HasColumn k c) (λ r. all_overlap (key r.cells) out.box) rows all,
          all_filter (HasColumn k c) (λ r. same_row guess (guesses (key r.cells))) rows all,
        );
      }

  possible : (agg : Agg) (k : Kind) → agg_kind ks agg ≡ Some k → 0 < length out.members → IsPossible out agg
  possible (Sum c) k h some = tt
  possible (Min c) k h some = extremes c k h some
  possible (Max c) k h some = extremes c k h some

  all_can : (aggs : List Agg) (js : List Kind) → all_kinds (map (agg_kind ks) aggs) ≡ Some js → 0 < length out.members → AllByRecursion IsRange (map (aggregate out) aggs) → AllByRecursion (CanAggregate out) aggs
  all_can [] js typed some ranges = tt
  all_can (agg ∷ aggs) js typed some ranges =
      let parts = kinds_parts (agg_kind ks agg) (map (agg_kind ks) aggs) js typed in (
        record { possible = possible agg parts.first parts.first_is some; ordered = ranges.0 },
        all_can aggs parts.others parts.others_are some ranges.1,
      )

ranges_in : (ks : List Kind) (xs ys : List Span) → AllZip IsRangeOf ks (xs ++ ys) → AllByRecursion IsRange ys
ranges_in [] [] [] z = tt
ranges_in [] [] (y ∷ ys) z = elim z [ ]
ranges_in [] (x ∷ xs) ys z = elim z [ ]
ranges_in (k ∷ ks) [] [] z = tt
ranges_in (k ∷ ks) [] (y ∷ ys) z = (z.0.range, ranges_in ks [] ys z.1)
ranges_in (k ∷ ks) (x ∷ xs) ys z = ranges_in ks xs ys z.1

-- the rows with these guessed keys
abbrev pub own_rows : Keys → Bounded → List Value → Bounded
own_rows k rows guess = with_key (λ r. guesses (keys_of k r.cells)) rows guess

module _ (ks js : List Kind) (aggs : List Agg) (rows : Bounded) (typed : all_kinds (map (agg_kind ks) aggs) ≡ Some js) (ok : IsRelation ks rows) where
  -- the rows with the guessed keys of a row have an output
  pub is_output : (k : Keys) (guess : List Value) → 0 < copies guess (map (λ r. guesses (keys_of k r.cells)) rows) → IsOutput k aggs rows (own_rows k rows guess)
  is_output (Leading n) guess some =
      let natural : (cells : List Span) → guesses (take n cells) ≡ take n (guesses cells) = λ cells. sym (take-map (λ r. r.sg) n cells) in
      let wide = keys_wide n ks rows ok in
      let valid = keys_valid n ks rows ok in
      let ranges = keys_ranges n ks rows ok in
      let kk = take n ks in
      record {
        some = some_belongs (take n) (take n) (take_holds n) natural ks kk js aggs typed (length kk) rows ok wide valid ranges guess some;
        triple = output_triple (take n) (take n) (take_holds n) natural ks kk js aggs typed (length kk) rows ok wide valid ranges guess;
        aggregates =
            all_can (take n) ks rows ok guess aggs js typed
            (some_member (take n) (take n) (take_holds n) natural ks kk js aggs typed (length kk) rows ok wide valid ranges guess some)
            (ranges_in (kk ++ js) (grouped (take n) rows guess).box (map (aggregate (grouped (take n) rows guess)) aggs)
            (output_cells (take n) (take n) (take_holds n) natural ks kk js aggs typed (length kk) rows ok wide valid ranges guess some));
      }
  is_output All guess some =
      let wide = relation_wide ks rows ok in
      let valid = relation_holds ks rows ok in
      let ranges = relation_ranges ks rows ok in
      record {
        some = some_belongs (λ cells. cells) (λ v. v) (λ cells v h. h) (λ cells. refl) ks ks js aggs typed (length ks) rows ok wide valid ranges guess some;
        triple = output_triple (λ cells. cells) (λ v. v) (λ cells v h. h) (λ cells. refl) ks ks js aggs typed (length ks) rows ok wide valid ranges guess;
        aggregates =
            all_can (λ cells. cells) ks rows ok guess aggs js typed
            (some_member (λ cells. cells) (λ v. v) (λ cells v h. h) (λ cells. refl) ks ks js aggs typed (length ks) rows ok wide valid ranges guess some)
            (ranges_in (ks ++ js) (grouped (λ cells. cells) rows guess).box (map (aggregate (grouped (λ cells. cells) rows guess)) aggs)
            (output_cells (λ cells. cells) (λ v. v) (λ cells v h. h) (λ cells. refl) ks ks js aggs typed (length ks) rows ok wide valid ranges guess some));
      }

  outputs_by : (k : Keys) (gs : List (List Value)) → Occurs (map (λ r. guesses (keys_of k r.cells)) rows) gs → AllByRecursion (λ guess. IsOutput k aggs rows (own_rows k rows guess)) gs
  outputs_by k [] o = tt
  outputs_by k (g ∷ gs) o = (is_output k g o.0, outputs_by k gs o.1)

  -- and so have all distinct keys
  pub all_outputs : (k : Keys) → AllByRecursion (λ guess. IsOutput k aggs rows (own_rows k rows guess)) (guessed_keys (keys_of k) rows)
  all_outputs k = outputs_by k (guessed_keys (keys_of k) rows) (occurs_distinct (map (λ r. guesses (keys_of k r.cells)) rows))

-- ---- where the numbers lie in the range

one_or_none : (test : RangeRow → Bool) (rows : Bounded) → is_i128 (pos (some_of test rows)) ≡ true
one_or_none test rows = elim (cases_Bool (list_any test rows)) [
  | inl t ↦ ap (λ b. is_i128 (pos (cond b 1 0))) t
  | inr f ↦ ap (λ b. is_i128 (pos (cond b 1 0))) f
]

three_by : (l g m rest : Bool) → l ≡ true → g ≡ true → (l && (g && (m && rest))) ≡ (m && rest)
three_by true true m rest p q = refl
three_by true false m rest p q = absurd (true≢false (sym q))
three_by false g m rest p q = absurd (true≢false (sym p))

present_by : (b : Bool) (r : RangeRow) (rows : Bounded) → is_none r.annot ≡ b → is_i128 (pos r.annot.least) ≡ true → is_i128 (pos r.annot.guess) ≡ true → (b ≡ true → count_fits r.annot.most ≡ true) → triples_fit (cond (not b) (r ∷ rows) rows) ≡ (count_fits r.annot.most && triples_fit rows)
present_by true r rows e l g none = ap (λ b. b && triples_fit rows) (sym (none refl))
present_by false r rows e l g none =
    three_by (is_i128 (pos r.annot.least)) (is_i128 (pos r.annot.guess)) (is_i128 (pos r.annot.most)) (triples_fit rows) l g
    ∙ ap (λ b. b && triples_fit rows) (count_in_range r.annot.most)

zero_fits : (m : ℕ) → (m == 0) ≡ true → count_fits m ≡ true
zero_fits m h = let is : m ≡ 0 = eqb-true m 0 h in ap count_fits is

module _ (k : Keys) (aggs : List Agg) (rows : Bounded) where
  abbrev most_fits : List Value → Bool
  most_fits guess = count_fits (group_counts (keys_of k) (grouped (keys_of k) rows guess).belonging).most

  abbrev aggs_fit : List Value → Bool
  aggs_fit guess = list_all is_i128 (flat_map (agg_numbers (grouped (keys_of k) rows guess)) aggs)

  triples_by : (gs : List (List Value)) → triples_fit (present (map (output (keys_of k) aggs rows) gs)) ≡ list_all most_fits gs
  triples_by [] = refl
  triples_by (g ∷ gs) =
      let r = output (keys_of k) aggs rows g in
      let belonging = (grouped (keys_of k) rows g).belonging in
      present_by (is_none r.annot) r (present (map (output (keys_of k) aggs rows) gs)) refl
      (one_or_none _ belonging) (one_or_none _ belonging) (zero_fits r.annot.most)
      ∙ ap (λ b. most_fits g && b) (triples_by gs)

  -- the numbers of an output
  abbrev pub each : List Value → Bool
  each guess = output_fits k aggs rows (own_rows k rows guess)

  both_by : (a b c d : Bool) → ((b && d) && (a && c)) ≡ ((a && b) && (c && d))
  both_by true true true true = refl
  both_by true true true false = refl
  both_by true true false true = refl
  both_by true true false false = refl
  both_by true false c d = refl
  both_by false true c true = refl
  both_by false true c false = refl
  both_by false false c d = refl

  each_fits : (gs : List (List Value)) → (list_all aggs_fit gs && list_all most_fits gs) ≡ list_all each gs
  each_fits [] = refl
  each_fits (g ∷ gs) = both_by (most_fits g) (aggs_fit g) (list_all most_fits gs) (list_all aggs_fit gs) ∙ ap (λ b. each g && b) (swap (list_all most_fits gs) (list_all aggs_fit gs) ∙ each_fits gs)
    where
      swap : (a b : Bool) → (a && b) ≡ (b && a)
      swap true true = refl
      swap true false = refl
      swap false true = refl
      swap false false = refl

  -- the numbers of a group lie in the range where those of each output do
  pub group_fits-each : group_fits k aggs rows ≡ list_all each (guessed_keys (keys_of k) rows)
  group_fits-each =
      let gs = guessed_keys (keys_of k) rows in
      list_all-append is_i128 (grouping_numbers (keys_of k) aggs rows) (triple_numbers (group_by (keys_of k) aggs rows))
      ∙ (λ i. list_all-flat_map is_i128 (λ g. flat_map (agg_numbers (grouped (keys_of k) rows g)) aggs) gs i && triples_by gs i)
      ∙ each_fits gs
