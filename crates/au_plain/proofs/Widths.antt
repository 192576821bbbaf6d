-- A typed plan has as many kinds as columns, and so has each of its rows.
use Rattle.std.specs.Prelude.{◌≡◌, ◌+◌, ◌&&◌, ◌==◌, ℕ, zero, suc, IsTrue, List, [], ◌∷◌, ◌++◌, filter, flat_map, length, map, slice_get, unwrap_or, Some}
use Rattle.std.specs.List.{AllByRecursion, AllZip, list_all}
use Rattle.std.proofs.Common.{arith, sym, ◌∙◌, ap, subst, length-append}
use Rattle.std.proofs.lemmas.Bool.{and_parts}
use Rattle.std.proofs.lemmas.Bool.Decides.{nat_tests}
use Rattle.std.proofs.lemmas.List.{length-map}
use Rattle.au_value.specs.declared.kinds.Kind.{Kind}
use Rattle.au_value.specs.declared.value.Value.{Value}
use Rattle.au_value.specs.Order.{kind_of}
use Rattle.au_value.specs.Lists.{distinct}
use Rattle.au_algebra.specs.Lists.{same_row, value_at}
use Rattle.au_algebra.specs.Ordinary.{Rows}
use Rattle.au_algebra.specs.Typing.{all_kinds, same_kinds}
use Rattle.au_algebra.proofs.AggregateKinds.{kinds_parts}
use Rattle.au_algebra.proofs.Each.{all_append, all_distinct, all_filter}
use Rattle.au_algebra.proofs.Items.{and_then_is, chosen_is, some_is}
use Rattle.au_algebra.proofs.PositiveRelation.{same_kinds_is}
use Rattle.au_plain.specs.declared.plan.PAgg.{PAgg}
use Rattle.au_plain.specs.Meaning.{extended, kept, passes, plain_aggregate, plain_rows}
use Rattle.au_plain.specs.PTerms.{PTerm, plain_value}
use Rattle.au_plain.specs.PlanKinds.{HaveKinds, kept_kinds, list_kinds, plain_agg_kind, plain_kind, plan_kinds, row_fits}
use Rattle.au_plain.specs.Plans.{PlanTree}
use Rattle.au_plain.specs.Plans as plan
use Rattle.au_plain.specs.Widths.{plan_width}

pub same_number : (a b : ℕ) → IsTrue (a == b) → a ≡ b
same_number a b h = grind (arith, nat_tests)

-- ---- kinds

pub kept_long : (places : List ℕ) (ks js : List Kind) → kept_kinds places ks ≡ Some js → length js ≡ length places
kept_long [] ks js t = ap length (sym (some_is [] js t))
kept_long (p ∷ places) ks js t =
    let q = kinds_parts (slice_get ks p) (map (slice_get ks) places) js t in
    ap length q.whole ∙ ap suc (kept_long places ks q.others q.others_are)

pub aggs_long : (aggs : List PAgg) (ks more : List Kind) → all_kinds (map (plain_agg_kind ks) aggs) ≡ Some more → length more ≡ length aggs
aggs_long [] ks more t = ap length (sym (some_is [] more t))
aggs_long (agg ∷ aggs) ks more t =
    let q = kinds_parts (plain_agg_kind ks agg) (map (plain_agg_kind ks) aggs) more t in
    ap length q.whole ∙ ap suc (aggs_long aggs ks q.others q.others_are)

listed_width : (w : ℕ) (rows : Rows) (ks : List Kind) → list_kinds w rows ≡ Some ks → length ks ≡ w
listed_width w [] ks h =
    let p = chosen_is (w == 0) (Some []) ks h in
    ap length (sym (some_is [] ks p.1)) ∙ sym (same_number w 0 p.0)
listed_width w (r ∷ rows) ks h =
    let p = chosen_is _ (Some (map kind_of r)) ks h in
    let q = and_parts _ (list_all (λ r'. (length r' == w) && (same_kinds (map kind_of r') (map kind_of r) && row_fits r')) rows) p.0 in
    let s = and_parts (length r == w) (same_kinds (map kind_of r) (map kind_of r) && row_fits r) q.0 in
    ap length (sym (some_is (map kind_of r) ks p.1)) ∙ length-map r kind_of ∙ same_number (length r) w s.0

module _ (tk : List (List Kind)) where
  -- a typed plan has a kind for each column
  pub width_is : (p : PlanTree) (ks : List Kind) → plan_kinds tk p ≡ Some ks → length ks ≡ plan_width p
  width_is (plan.Scan t w) ks h =
      let p = and_then_is _ (slice_get tk t) ks h in
      let s = chosen_is (length p.0 == w) (Some p.0) ks p.2 in
      ap length (sym (some_is p.0 ks s.1)) ∙ same_number (length p.0) w s.0
  width_is (plan.Rows w rows) ks h = listed_width w rows ks h
  width_is (plan.Extend e q) ks h =
      let p = and_then_is _ (plan_kinds tk q) ks h in
      let s = and_then_is _ (plain_kind p.0 e) ks p.2 in
      ap length (sym (some_is (p.0 ++ s.0 ∷ []) ks s.2)) ∙ length-append p.0 (s.0 ∷ []) ∙ ap (λ n. n + 1) (width_is q p.0 p.1)
  width_is (plan.Keep places q) ks h =
      let p = and_then_is _ (plan_kinds tk q) ks h in
      kept_long places p.0 ks p.2
  width_is (plan.Filter e q) ks h =
      let p = and_then_is _ (plan_kinds tk q) ks h in
      let s = chosen_is _ (Some p.0) ks p.2 in
      ap length (sym (some_is p.0 ks s.1)) ∙ width_is q p.0 p.1
  width_is (plan.Join e q r) ks h =
      let p = and_then_is _ (plan_kinds tk q) ks h in
      let s = and_then_is _ (plan_kinds tk r) ks p.2 in
      let u = chosen_is _ (Some (p.0 ++ s.0)) ks s.2 in
      ap length (sym (some_is (p.0 ++ s.0) ks u.1)) ∙ length-append p.0 s.0 ∙ (λ i. width_is q p.0 p.1 i + width_is r s.0 s.1 i)
  width_is (plan.Union q r) ks h =
      let p = and_then_is _ (plan_kinds tk q) ks h in
      let s = and_then_is _ (plan_kinds tk r) ks p.2 in
      let u = chosen_is _ (Some p.0) ks s.2 in
      ap length (sym (some_is p.0 ks u.1)) ∙ width_is q p.0 p.1
  width_is (plan.Group keys aggs q) ks h =
      let p = and_then_is _ (plan_kinds tk q) ks h in
      let s = and_then_is _ (kept_kinds keys p.0) ks p.2 in
      let u = and_then_is _ (all_kinds (map (plain_agg_kind p.0) aggs)) ks s.2 in
      ap length (sym (some_is (s.0 ++ u.0) ks u.2)) ∙ length-append s.0 u.0 ∙ (λ i. kept_long keys p.0 s.0 s.1 i + aggs_long aggs p.0 u.0 u.1 i)

-- ---- rows

-- each row has so many columns
abbrev pub Wide : ℕ → Rows → Type 0
Wide w rows = AllByRecursion (λ row. length row ≡ w) rows

kinds_wide : (ks : List Kind) (rows : Rows) → HaveKinds ks rows → Wide (length ks) rows
kinds_wide ks [] h = tt
kinds_wide ks (r ∷ rows) h = (sym (length-map r kind_of) ∙ ap length h.0, kinds_wide ks rows h.1)

table_kinds : (tk : List (List Kind)) (ts : List Rows) → AllZip HaveKinds tk ts → (t : ℕ) (ks : List Kind) → slice_get tk t ≡ Some ks → HaveKinds ks (unwrap_or (slice_get ts t) [])
table_kinds [] [] z t ks h = tt
table_kinds [] (rows ∷ ts) z t ks h = elim z [ ]
table_kinds (k ∷ tk) [] z t ks h = elim z [ ]
table_kinds (k ∷ tk) (rows ∷ ts) z zero ks h = subst (λ js. HaveKinds js rows) (some_is k ks h) z.0
table_kinds (k ∷ tk) (rows ∷ ts) z (suc t) ks h = table_kinds tk ts z.1 t ks h

listed_wide : (w : ℕ) (ks : List Kind) (rows : Rows) → IsTrue (list_all (λ r. (length r == w) && (same_kinds (map kind_of r) ks && row_fits r)) rows) → Wide w rows
listed_wide w ks [] h = tt
listed_wide w ks (r ∷ rows) h =
    let p = and_parts _ (list_all (λ r'. (length r' == w) && (same_kinds (map kind_of r') ks && row_fits r')) rows) h in
    let q = and_parts (length r == w) (same_kinds (map kind_of r) ks && row_fits r) p.0 in
    (same_number (length r) w q.0, listed_wide w ks rows p.1)

rows_listed : (w : ℕ) (rows : Rows) (ks : List Kind) → list_kinds w rows ≡ Some ks → Wide w rows
rows_listed w [] ks h = tt
rows_listed w (r ∷ rows) ks h = listed_wide w (map kind_of r) (r ∷ rows) (chosen_is _ (Some (map kind_of r)) ks h).0

extended_wide : (e : PTerm) (w : ℕ) (rows : Rows) → Wide w rows → Wide (w + 1) (map (extended e) rows)
extended_wide e w [] h = tt
extended_wide e w (r ∷ rows) h = (length-append r (plain_value e r ∷ []) ∙ ap (λ n. n + 1) h.0, extended_wide e w rows h.1)

pub kept_wide : (places : List ℕ) (rows : Rows) → Wide (length places) (map (kept places) rows)
kept_wide places [] = tt
kept_wide places (r ∷ rows) = (length-map places (value_at r), kept_wide places rows)

beside_wide : (v w : ℕ) (a : List Value) (rows : Rows) → length a ≡ v → Wide w rows → Wide (v + w) (map (λ b. a ++ b) rows)
beside_wide v w a [] e h = tt
beside_wide v w a (b ∷ rows) e h = (length-append a b ∙ (λ i. e i + h.0 i), beside_wide v w a rows e h.1)

pub pairs_wide : (v w : ℕ) (xs ys : Rows) → Wide v xs → Wide w ys → Wide (v + w) (flat_map (λ a. map (λ b. a ++ b) ys) xs)
pairs_wide v w [] ys h k = tt
pairs_wide v w (a ∷ xs) ys h k =
    all_append (λ row. length row ≡ v + w) (map (λ b. a ++ b) ys) (flat_map (λ a'. map (λ b. a' ++ b) ys) xs) (beside_wide v w a ys h.0 k) (pairs_wide v w xs ys h.1 k)

grouped_wide : (keys : List ℕ) (aggs : List PAgg) (rows found : Rows) → Wide (length keys) found → Wide (length keys + length aggs) (map (λ key. key ++ map (plain_aggregate (filter (λ row. same_row key (kept keys row)) rows)) aggs) found)
grouped_wide keys aggs rows [] h = tt
grouped_wide keys aggs rows (key ∷ found) h =
    let values = plain_aggregate (filter (λ row. same_row key (kept keys row)) rows) in
    (length-append key (map values aggs) ∙ (λ i. h.0 i + length-map aggs values i), grouped_wide keys aggs rows found h.1)

module _ (tk : List (List Kind)) (ts : List Rows) (ok : AllZip HaveKinds tk ts) where
  -- each row of a typed plan has its columns
  pub rows_wide : (p : PlanTree) (ks : List Kind) → plan_kinds tk p ≡ Some ks → Wide (plan_width p) (plain_rows p ts)
  rows_wide (plan.Scan t w) ks h =
      let p = and_then_is _ (slice_get tk t) ks h in
      let s = chosen_is (length p.0 == w) (Some p.0) ks p.2 in
      subst (λ n. Wide n (plain_rows (plan.Scan t w) ts)) (same_number (length p.0) w s.0)
      (kinds_wide p.0 (plain_rows (plan.Scan t w) ts) (table_kinds tk ts ok t p.0 p.1))
  rows_wide (plan.Rows w rows) ks h = rows_listed w rows ks h
  rows_wide (plan.Extend e q) ks h =
      let p = and_then_is _ (plan_kinds tk q) ks h in
      extended_wide e (plan_width q) (plain_rows q ts) (rows_wide q p.0 p.1)
  rows_wide (plan.Keep places q) ks h = kept_wide places (plain_rows q ts)
  rows_wide (plan.Filter e q) ks h =
      let p = and_then_is _ (plan_kinds tk q) ks h in
      all_filter (λ row. length row ≡ plan_width q) (passes e) (plain_rows q ts) (rows_wide q p.0 p.1)
  rows_wide (plan.Join e q r) ks h =
      let p = and_then_is _ (plan_kinds tk q) ks h in
      let s = and_then_is _ (plan_kinds tk r) ks p.2 in
      all_filter (λ row. length row ≡ plan_width q + plan_width r) (passes e) (flat_map (λ a. map (λ b. a ++ b) (plain_rows r ts)) (plain_rows q ts))
      (pairs_wide (plan_width q) (plan_width r) (plain_rows q ts) (plain_rows r ts) (rows_wide q p.0 p.1) (rows_wide r s.0 s.1))
  rows_wide (plan.Union q r) ks h =
      let p = and_then_is _ (plan_kinds tk q) ks h in
      let s = and_then_is _ (plan_kinds tk r) ks p.2 in
      let u = chosen_is _ (Some p.0) ks s.2 in
      let same = sym (width_is tk r s.0 s.1) ∙ ap length (sym (same_kinds_is p.0 s.0 u.0)) ∙ width_is tk q p.0 p.1 in
      all_append (λ row. length row ≡ plan_width q) (plain_rows q ts) (plain_rows r ts) (rows_wide q p.0 p.1)
      (subst (λ n. Wide n (plain_rows r ts)) same (rows_wide r s.0 s.1))
  rows_wide (plan.Group keys aggs q) ks h =
      let rows = plain_rows q ts in
      grouped_wide keys aggs rows (distinct same_row (map (kept keys) rows))
      (all_distinct (λ row. length row ≡ length keys) same_row (map (kept keys) rows) (kept_wide keys rows))
