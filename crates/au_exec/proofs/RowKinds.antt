-- The kinds of the rows that each operator makes of rows of known kinds.
use Rattle.std.specs.Prelude.{◌≡◌, ◌<◌, ◌==◌, ◌&&◌, ◌||◌, ℕ, zero, suc, Bool, true, false, cond, List, [], ◌∷◌, ◌++◌, filter, flat_map, length, map, slice_get, Some}
use Rattle.std.specs.List.{AllByRecursion, list_all, list_any}
use Rattle.std.proofs.Common.{refl, sym, ◌∙◌, ap, subst, arith, inl, inr}
use Rattle.std.proofs.lemmas.Bool.{and_parts, cases_Bool}
use Rattle.std.proofs.lemmas.List.{map-append}
use Rattle.au_value.specs.declared.kinds.Kind.{Kind}
use Rattle.au_value.specs.declared.value.Value.{Value}
use Rattle.au_value.specs.Order.{at_most, kind_of}
use Rattle.au_value.specs.Lists.{distinct}
use Rattle.au_algebra.specs.Lists.{greatest, least, same_row, value_at}
use Rattle.au_algebra.specs.Ordinary.{Rows}
use Rattle.au_algebra.specs.Typing.{all_kinds, same_kinds}
use Rattle.au_algebra.proofs.AggregateKinds.{kinds_parts, sum_kind}
use Rattle.au_algebra.proofs.Copies.{same_row_refl}
use Rattle.au_algebra.proofs.Each.{all_append, all_distinct, all_filter}
use Rattle.au_algebra.proofs.Items.{chosen_is, some_is}
use Rattle.au_algebra.proofs.PositiveRelation.{same_kinds_is}
use Rattle.au_plain.specs.declared.plan.PAgg.{PAgg}
use Rattle.au_plain.specs.declared.plan.PAgg.TheVariants.{Sum, Min, Max}
use Rattle.au_plain.specs.Meaning.{extended, kept, plain_aggregate, plain_group}
use Rattle.au_plain.specs.PTerms.{PTerm, plain_value}
use Rattle.au_plain.specs.PlanKinds.{HaveKinds, kept_kinds, list_kinds, plain_agg_kind, plain_kind, row_fits}
use Rattle.au_physical.specs.PhysicalMeaning.{pairs_where}
use Rattle.au_exec.proofs.ValueKinds.{cell_kind, one_of_two, value_kind}

-- ---- rows that a plan lists

all_same : (w : ℕ) (ks : List Kind) (rows : Rows) → list_all (λ r. (length r == w) && (same_kinds (map kind_of r) ks && row_fits r)) rows ≡ true → HaveKinds ks rows
all_same w ks [] h = tt
all_same w ks (r ∷ rows) h =
    let p = and_parts _ (list_all (λ r. (length r == w) && (same_kinds (map kind_of r) ks && row_fits r)) rows) h in
    let q = and_parts (length r == w) (same_kinds (map kind_of r) ks && row_fits r) p.0 in
    (same_kinds_is (map kind_of r) ks (and_parts _ (row_fits r) q.1).0, all_same w ks rows p.1)

pub listed_kinds : (w : ℕ) (rows : Rows) (ks : List Kind) → list_kinds w rows ≡ Some ks → HaveKinds ks rows
listed_kinds w [] ks h = tt
listed_kinds w (r ∷ rows) ks h =
    let p = chosen_is _ (Some (map kind_of r)) ks h in
    subst (λ js. HaveKinds js (r ∷ rows)) (some_is (map kind_of r) ks p.1) (all_same w (map kind_of r) (r ∷ rows) p.0)

-- ---- rows that are worked one by one

module _ (ks : List Kind) where
  pub extended_kinds : (e : PTerm) (k : Kind) → plain_kind ks e ≡ Some k → (rows : Rows) → HaveKinds ks rows → HaveKinds (ks ++ k ∷ []) (map (extended e) rows)
  extended_kinds e k t [] h = tt
  extended_kinds e k t (r ∷ rows) h =
      let own = value_kind r e k (ap (λ js. plain_kind js e) h.0 ∙ t) in
      (map-append kind_of r (plain_value e r ∷ []) ∙ (λ i. h.0 i ++ own i ∷ []), extended_kinds e k t rows h.1)

  kept_row : (ps : List ℕ) (js : List Kind) (row : List Value) → map kind_of row ≡ ks → kept_kinds ps ks ≡ Some js → map kind_of (kept ps row) ≡ js
  kept_row [] js row h t = some_is [] js t
  kept_row (i ∷ ps) js row h t =
      let p = kinds_parts (slice_get ks i) (map (slice_get ks) ps) js t in
      let first = cell_kind row i p.first (ap (λ ms. slice_get ms i) h ∙ p.first_is) in
      let others = kept_row ps p.others row h p.others_are in
      (λ j. first j ∷ others j) ∙ sym p.whole

  pub kept_all : (ps : List ℕ) (js : List Kind) → kept_kinds ps ks ≡ Some js → (rows : Rows) → HaveKinds ks rows → HaveKinds js (map (kept ps) rows)
  kept_all ps js t [] h = tt
  kept_all ps js t (row ∷ rows) h = (kept_row ps js row h.0 t, kept_all ps js t rows h.1)

-- ---- pairs

pairs_kinds : (ks js : List Kind) (a : List Value) → map kind_of a ≡ ks → (bs : Rows) → HaveKinds js bs → HaveKinds (ks ++ js) (map (λ b. a ++ b) bs)
pairs_kinds ks js a ha [] h = tt
pairs_kinds ks js a ha (b ∷ bs) h = (map-append kind_of a b ∙ (λ i. ha i ++ h.0 i), pairs_kinds ks js a ha bs h.1)

pub product_kinds : (ks js : List Kind) (xs bs : Rows) → HaveKinds ks xs → HaveKinds js bs → HaveKinds (ks ++ js) (flat_map (λ a. map (λ b. a ++ b) bs) xs)
product_kinds ks js [] bs h g = tt
product_kinds ks js (a ∷ xs) bs h g =
    all_append (λ row. map kind_of row ≡ ks ++ js) (map (λ b. a ++ b) bs) (flat_map (λ a. map (λ b. a ++ b) bs) xs) (pairs_kinds ks js a h.0 bs g) (product_kinds ks js xs bs h.1 g)

pub chosen_kinds : (chosen : List Value → List Value → Bool) (ks js : List Kind) (xs bs : Rows) → HaveKinds ks xs → HaveKinds js bs → HaveKinds (ks ++ js) (pairs_where chosen xs bs)
chosen_kinds chosen ks js [] bs h g = tt
chosen_kinds chosen ks js (a ∷ xs) bs h g =
    all_append (λ row. map kind_of row ≡ ks ++ js) (map (λ b. a ++ b) (filter (chosen a) bs)) (pairs_where chosen xs bs)
    (pairs_kinds ks js a h.0 (filter (chosen a) bs) (all_filter (λ row. map kind_of row ≡ js) (chosen a) bs g)) (chosen_kinds chosen ks js xs bs h.1 g)

-- ---- groups

least_all : (k : Kind) (v : Value) (vs : List Value) → AllByRecursion (λ u. kind_of u ≡ k) (v ∷ vs) → kind_of (least (v ∷ vs)) ≡ k
least_all k v [] h = h.0
least_all k v (w ∷ ws) h = one_of_two (at_most v (least (w ∷ ws))) k v (least (w ∷ ws)) h.0 (least_all k w ws h.1)

greatest_all : (k : Kind) (v : Value) (vs : List Value) → AllByRecursion (λ u. kind_of u ≡ k) (v ∷ vs) → kind_of (greatest (v ∷ vs)) ≡ k
greatest_all k v [] h = h.0
greatest_all k v (w ∷ ws) h = one_of_two (at_most v (greatest (w ∷ ws))) k (greatest (w ∷ ws)) v (greatest_all k w ws h.1) h.0

column_all : (ks : List Kind) (c : ℕ) (k : Kind) → slice_get ks c ≡ Some k → (rows : Rows) → HaveKinds ks rows → AllByRecursion (λ u. kind_of u ≡ k) (map (λ row. value_at row c) rows)
column_all ks c k t [] h = tt
column_all ks c k t (r ∷ rows) h = (cell_kind r c k (ap (λ ms. slice_get ms c) h.0 ∙ t), column_all ks c k t rows h.1)

aggregate_kind : (ks : List Kind) (agg : PAgg) (k : Kind) → plain_agg_kind ks agg ≡ Some k → (rows : Rows) → HaveKinds ks rows → 0 < length rows → kind_of (plain_aggregate rows agg) ≡ k
aggregate_kind ks (Sum c) k t rows h some = sym (sum_kind (slice_get ks c) k t).kind
aggregate_kind ks (Min c) k t [] h some = absurd (omega arith)
aggregate_kind ks (Min c) k t (r ∷ rows) h some = least_all k (value_at r c) (map (λ row. value_at row c) rows) (column_all ks c k t (r ∷ rows) h)
aggregate_kind ks (Max c) k t [] h some = absurd (omega arith)
aggregate_kind ks (Max c) k t (r ∷ rows) h some = greatest_all k (value_at r c) (map (λ row. value_at row c) rows) (column_all ks c k t (r ∷ rows) h)

aggregates_kinds : (ks : List Kind) (aggs : List PAgg) (more : List Kind) → all_kinds (map (plain_agg_kind ks) aggs) ≡ Some more → (rows : Rows) → HaveKinds ks rows → 0 < length rows → map kind_of (map (plain_aggregate rows) aggs) ≡ more
aggregates_kinds ks [] more t rows h some = some_is [] more t
aggregates_kinds ks (agg ∷ aggs) more t rows h some =
    let p = kinds_parts (plain_agg_kind ks agg) (map (plain_agg_kind ks) aggs) more t in
    let first = aggregate_kind ks agg p.first p.first_is rows h some in
    let others = aggregates_kinds ks aggs p.others p.others_are rows h some in
    (λ i. first i ∷ others i) ∙ sym p.whole

-- each key is that of some row
Seen : Rows → List Value → Type 0
Seen xs k = list_any (same_row k) xs ≡ true

or_right : (b c : Bool) → c ≡ true → (b || c) ≡ true
or_right true c h = refl
or_right false c h = h

or_left : (b c : Bool) → b ≡ true → (b || c) ≡ true
or_left true c h = refl
or_left false c h = cc

seen_later : (x : List Value) (xs ys : Rows) → AllByRecursion (Seen xs) ys → AllByRecursion (Seen (x ∷ xs)) ys
unfolding Seen
seen_later x xs [] h = tt
seen_later x xs (y ∷ ys) h = (or_right (same_row y x) (list_any (same_row y) xs) h.0, seen_later x xs ys h.1)

all_seen : (xs : Rows) → AllByRecursion (Seen xs) xs
unfolding Seen
all_seen [] = tt
all_seen (x ∷ xs) = (or_left (same_row x x) (list_any (same_row x) xs) (same_row_refl x), seen_later x xs xs (all_seen xs))

some_if : (b : Bool) (r : List Value) (rows : Rows) → b ≡ true → 0 < length (cond b (r ∷ rows) rows)
some_if true r rows h = omega arith
some_if false r rows h = cc

more_if : (b : Bool) (r : List Value) (rows : Rows) → 0 < length rows → 0 < length (cond b (r ∷ rows) rows)
more_if true r rows h = omega arith
more_if false r rows h = h

abbrev members : List ℕ → Rows → List Value → Rows
members keys rows key = filter (λ row. same_row key (kept keys row)) rows

some_members : (keys : List ℕ) (k : List Value) (rows : Rows) → Seen (map (kept keys) rows) k → 0 < length (members keys rows k)
unfolding Seen
some_members keys k [] h = cc
some_members keys k (r ∷ rows) h =
    elim (cases_Bool (same_row k (kept keys r))) [
      | inl here ↦ some_if (same_row k (kept keys r)) r (members keys rows k) here
      | inr here ↦ more_if (same_row k (kept keys r)) r (members keys rows k) (some_members keys k rows (rw here at h))
    ]

module _ (ks js more : List Kind) (keys : List ℕ) (aggs : List PAgg) (t : all_kinds (map (plain_agg_kind ks) aggs) ≡ Some more) (rows : Rows) (h : HaveKinds ks rows) where
  found_kinds : (found : Rows) → HaveKinds js found → AllByRecursion (Seen (map (kept keys) rows)) found → HaveKinds (js ++ more) (map (λ key. key ++ map (plain_aggregate (members keys rows key)) aggs) found)
  found_kinds [] hs seen = tt
  found_kinds (key ∷ found) hs seen =
      let own = members keys rows key in
      let kinds = all_filter (λ row. map kind_of row ≡ ks) (λ row. same_row key (kept keys row)) rows h in
      let values = aggregates_kinds ks aggs more t own kinds (some_members keys key rows seen.0) in
      (map-append kind_of key (map (plain_aggregate own) aggs) ∙ (λ i. hs.0 i ++ values i), found_kinds found hs.1 seen.1)

  pub group_kinds : kept_kinds keys ks ≡ Some js → HaveKinds (js ++ more) (plain_group keys aggs rows)
  group_kinds keyed =
      let all = map (kept keys) rows in
      found_kinds (distinct same_row all) (all_distinct (λ row. map kind_of row ≡ js) same_row all (kept_all ks keys js keyed rows h)) (all_distinct (Seen all) same_row all (all_seen all))
