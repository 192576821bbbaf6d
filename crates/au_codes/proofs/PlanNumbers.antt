-- The numbers of a plan over cells are numbers of 128 bits exactly where those of the plan are.
use Rattle.std.specs.Prelude.{◌≡◌, ◌&&◌, ◌+◌, ℕ, Bool, true, false, List, [], ◌∷◌, ◌++◌, flat_map, map, sum_by, slice_get, Some, ℤ, pos, nat_abs, if◌then◌else◌}
use Rattle.std.specs.List.{AllByRecursion, AllZip}
use Rattle.std.proofs.Common.{refl, sym, ◌∙◌, ap}
use Rattle.std.proofs.lemmas.Bool.{and_parts}
use Rattle.std.proofs.lemmas.List.Folds.{list_all-append}
use Rattle.std.proofs.lemmas.List.Sums.{sum_by-cons}
use Rattle.au_value.specs.Numeral.{is_i128}
use Rattle.au_value.specs.declared.kinds.Kind.{Kind}
use Rattle.au_value.specs.declared.kinds.Kind.TheVariants as kind
use Rattle.au_value.specs.declared.value.Value.{Value}
use Rattle.au_value.specs.declared.value.Value.TheVariants.{Int, Text, Flag}
use Rattle.au_value.specs.Order.{kind_of}
use Rattle.au_value.specs.Lists.{distinct}
use Rattle.au_expr.specs.Figures.{fit}
use Rattle.au_expr.specs.Numbers.{number_if_any}
use Rattle.au_expr.specs.Ordinary.{is_true, number}
use Rattle.au_expr.specs.Kinds.{is_kind}
use Rattle.au_expr.proofs.Along.{agreed_is, both_of, is_kind_is, kind_if_is, one_of, only_if_is, some_agreed}
use Rattle.au_algebra.specs.Lists.{same_row, value_at}
use Rattle.au_algebra.specs.Ordinary.{Rows}
use Rattle.au_algebra.specs.Typing.{all_kinds}
use Rattle.au_algebra.proofs.AggregateKinds.{kinds_parts, sum_kind}
use Rattle.au_algebra.proofs.Each.{all_filter}
use Rattle.au_algebra.proofs.Items.{and_then_is, chosen_is}
use Rattle.au_algebra.proofs.TreeRelation.{its_kinds}
use Rattle.au_plain.specs.declared.plan.PAgg.{PAgg}
use Rattle.au_plain.specs.declared.plan.PAgg.TheVariants.{Sum, Min, Max}
use Rattle.au_plain.specs.PTerms.{PTerm, PTerms, nil, cons, plain_value}
use Rattle.au_plain.specs.PTerms as term
use Rattle.au_plain.specs.Meaning.{kept}
use Rattle.au_plain.specs.PlanKinds.{HaveKinds, kept_kinds, plain_agg_kind, plain_kind, common_kind}
use Rattle.au_plain.specs.PlanNumbers.{term_numbers, parts_numbers, magnitudes, group_numbers}
use Rattle.au_physical.specs.PhysicalKinds.{IsPhysicalFor, bounds_kinds, equal_kinds, physical_kinds}
use Rattle.au_physical.specs.PhysicalMeaning.{physical_rows, equal_pairs, overlap_pairs}
use Rattle.au_physical.specs.PhysicalNumbers.{physical_numbers}
use Rattle.au_physical.specs.Physicals.{PhysicalTree}
use Rattle.au_physical.specs.Physicals as physical
use Rattle.au_codes.specs.Codes.{Code, KeepsOrder, CellRows, code, coded_row, coded_rows, coded_tables, flag, Knows, KnowsRow, KnowsTables}
use Rattle.au_codes.specs.CodedPlans.{coded_term, coded_terms, coded_tree, literals, all_literals, written, KnowsTerm, KnowsPlan}
use Rattle.au_codes.specs.CellMeaning.{cell_value, cell_in, truth, cell_pairs, cells_equal_at, cells_overlap, cells_by_range, cell_members, plan_cells}
use Rattle.au_codes.specs.CellNumbers.{cell_numbers, parts_cells, cell_magnitudes, cell_group_numbers, plan_cell_numbers}
use Rattle.au_codes.proofs.Lists.{all_parts, flat_map-map, flat_map_same}
use Rattle.au_codes.proofs.Terms.{IsRow, HasCell, cell_at, cell_in_row, literal_cell, term_cell, truth_is, whole_cell}
use Rattle.au_codes.proofs.JoinedRows.{AreRows, AreCoded, product_coded, hash_coded, overlap_coded}
use Rattle.au_codes.proofs.GroupRows.{members, members_coded, keys_coded, found_rows}
use Rattle.au_codes.proofs.PlanRows.{plan_coded}

-- two lists of numbers that fit where two others do
pub fit_two : (xs ys us vs : List ℤ) → fit xs ≡ fit us → fit ys ≡ fit vs → fit (xs ++ ys) ≡ fit (us ++ vs)
fit_two xs ys us vs e g = list_all-append is_i128 xs ys ∙ (λ i. e i && g i) ∙ sym (list_all-append is_i128 us vs)

pub fit_three : (zs xs ys bs us vs : List ℤ) → fit zs ≡ fit bs → fit xs ≡ fit us → fit ys ≡ fit vs → fit (zs ++ (xs ++ ys)) ≡ fit (bs ++ (us ++ vs))
fit_three zs xs ys bs us vs d e g = fit_two zs (xs ++ ys) bs (us ++ vs) d (fit_two xs ys us vs e g)

pub fit_chosen : (s t : Bool) (xs ys us vs : List ℤ) → s ≡ t → fit xs ≡ fit us → fit ys ≡ fit vs → fit (if s then xs else ys) ≡ fit (if t then us else vs)
fit_chosen s true xs ys us vs h e g = ap (λ b. fit (if b then xs else ys)) h ∙ e
fit_chosen s false xs ys us vs h e g = ap (λ b. fit (if b then xs else ys)) h ∙ g

pub fit_each : {A : Type 0} (P : A → Type 0) (f g : A → List ℤ) → ((x : A) → P x → fit (f x) ≡ fit (g x)) → (xs : List A) → AllByRecursion P xs → fit (flat_map f xs) ≡ fit (flat_map g xs)
fit_each P f g same [] h = refl
fit_each P f g same (x ∷ xs) h = fit_two (f x) (flat_map f xs) (g x) (flat_map g xs) (same x h.0) (fit_each P f g same xs h.1)

flag_fits : (b : Bool) → fit (flag b ∷ []) ≡ true
flag_fits true = refl
flag_fits false = refl

module _ (c : Code) (keeps : KeepsOrder c) where
  -- a value and its number
  cell_fits : (v : Value) → Knows c v → fit (code c v ∷ []) ≡ fit (number_if_any v)
  cell_fits (Int n) h = refl
  cell_fits (Text w) h = ap (λ b. b && true) (keeps.fits w h)
  cell_fits (Flag b) h = flag_fits b

  has_fits : (k : Kind) (v : Value) (z : ℤ) → HasCell c k v z → fit (z ∷ []) ≡ fit (number_if_any v)
  has_fits k v z h = ap (λ y. fit (y ∷ [])) h.is ∙ cell_fits v h.known

  module _ (ks : List Kind) (row : List Value) (kinds : map kind_of row ≡ ks) (knows : KnowsRow c row) where
    -- the value of an expression
    value_fits : (e : PTerm) (k : Kind) → plain_kind ks e ≡ Some k → KnowsTerm c e → fit (cell_value (coded_term c e) (coded_row c row) ∷ []) ≡ fit (number_if_any (plain_value e row))
    value_fits e k h w = has_fits k (plain_value e row) (cell_value (coded_term c e) (coded_row c row)) (term_cell c keeps ks row kinds knows e k h w)

    true_where : (e : PTerm) → plain_kind ks e ≡ Some kind.Flag → KnowsTerm c e → truth (cell_value (coded_term c e) (coded_row c row)) ≡ is_true (plain_value e row)
    true_where e h w = truth_is c keeps (plain_value e row) (cell_value (coded_term c e) (coded_row c row)) (term_cell c keeps ks row kinds knows e kind.Flag h w)

    -- the numbers over cells
    abbrev first : PTerm → List ℤ
    first e = cell_value (coded_term c e) (coded_row c row) ∷ []

    abbrev each : PTerm → List ℤ
    each e = cell_numbers (coded_term c e) (coded_row c row)

    abbrev parts : PTerms → List ℤ
    parts es = parts_cells (coded_terms c es) (coded_row c row)

    mutual
      term_fits : (e : PTerm) (k : Kind) → plain_kind ks e ≡ Some k → KnowsTerm c e → fit (cell_numbers (coded_term c e) (coded_row c row)) ≡ fit (term_numbers e row)
      term_fits (term.Column i) k h w = value_fits (term.Column i) k h w
      term_fits (term.Literal v) k h w = ap (λ z. fit (z ∷ [])) (literal_cell c keeps v) ∙ cell_fits v w.0
      term_fits (term.Add a b) k h w =
          let p = both_of kind.Int kind.Int _ _ k h in
          let q = all_parts (Knows c) (literals a) (literals b) w in
          fit_three (first (term.Add a b)) (each a) (each b) (number_if_any (plain_value (term.Add a b) row)) (term_numbers a row) (term_numbers b row) (value_fits (term.Add a b) k h w) (term_fits a kind.Int p.0 q.0) (term_fits b kind.Int p.1 q.1)
      term_fits (term.Subtract a b) k h w =
          let p = both_of kind.Int kind.Int _ _ k h in
          let q = all_parts (Knows c) (literals a) (literals b) w in
          fit_three (first (term.Subtract a b)) (each a) (each b) (number_if_any (plain_value (term.Subtract a b) row)) (term_numbers a row) (term_numbers b row) (value_fits (term.Subtract a b) k h w) (term_fits a kind.Int p.0 q.0) (term_fits b kind.Int p.1 q.1)
      term_fits (term.Multiply a b) k h w =
          let p = both_of kind.Int kind.Int _ _ k h in
          let q = all_parts (Knows c) (literals a) (literals b) w in
          fit_three (first (term.Multiply a b)) (each a) (each b) (number_if_any (plain_value (term.Multiply a b) row)) (term_numbers a row) (term_numbers b row) (value_fits (term.Multiply a b) k h w) (term_fits a kind.Int p.0 q.0) (term_fits b kind.Int p.1 q.1)
      term_fits (term.Negate a) k h w =
          let p = one_of kind.Int kind.Int _ k h in
          fit_two (first (term.Negate a)) (each a) (number_if_any (plain_value (term.Negate a) row)) (term_numbers a row) (value_fits (term.Negate a) k h w) (term_fits a kind.Int p.0 w)
      term_fits (term.Compare op a b) k h w =
          let p = kind_if_is _ _ _ h in
          let s = some_agreed _ _ p.0 in
          let q = all_parts (Knows c) (literals a) (literals b) w in
          fit_two (each a) (each b) (term_numbers a row) (term_numbers b row) (term_fits a s.0 s.1 q.0) (term_fits b s.0 s.2 q.1)
      term_fits (term.And a b) k h w =
          let p = both_of kind.Flag kind.Flag _ _ k h in
          let q = all_parts (Knows c) (literals a) (literals b) w in
          fit_two (each a) (each b) (term_numbers a row) (term_numbers b row) (term_fits a kind.Flag p.0 q.0) (term_fits b kind.Flag p.1 q.1)
      term_fits (term.Or a b) k h w =
          let p = both_of kind.Flag kind.Flag _ _ k h in
          let q = all_parts (Knows c) (literals a) (literals b) w in
          fit_two (each a) (each b) (term_numbers a row) (term_numbers b row) (term_fits a kind.Flag p.0 q.0) (term_fits b kind.Flag p.1 q.1)
      term_fits (term.Not a) k h w =
          let p = one_of kind.Flag kind.Flag _ k h in
          term_fits a kind.Flag p.0 w
      term_fits (term.Case f a b) k h w =
          let p = only_if_is _ _ _ h in
          let s = agreed_is _ _ _ p.1 in
          let q = all_parts (Knows c) (literals f) (literals a ++ literals b) w in
          let r = all_parts (Knows c) (literals a) (literals b) q.1 in
          let is_flag = is_kind_is kind.Flag _ p.0 in
          fit_two (each f) (if truth (cell_value (coded_term c f) (coded_row c row)) then each a else each b) (term_numbers f row) (if is_true (plain_value f row) then term_numbers a row else term_numbers b row) (term_fits f kind.Flag is_flag q.0)
          (fit_chosen (truth (cell_value (coded_term c f) (coded_row c row))) (is_true (plain_value f row)) (each a) (each b) (term_numbers a row) (term_numbers b row) (true_where f is_flag q.0) (term_fits a k s.0 r.0) (term_fits b k s.1 r.1))
      term_fits (term.Least es) k h w =
          fit_two (first (term.Least es)) (parts es) (number_if_any (plain_value (term.Least es) row)) (parts_numbers es row) (value_fits (term.Least es) k h w) (parts_fits es k h w)
      term_fits (term.Greatest es) k h w =
          fit_two (first (term.Greatest es)) (parts es) (number_if_any (plain_value (term.Greatest es) row)) (parts_numbers es row) (value_fits (term.Greatest es) k h w) (parts_fits es k h w)

      parts_fits : (es : PTerms) (k : Kind) → common_kind ks es ≡ Some k → KnowsRow c (all_literals es) → fit (parts_cells (coded_terms c es) (coded_row c row)) ≡ fit (parts_numbers es row)
      parts_fits nil k h w = refl
      parts_fits (cons e nil) k h w = fit_two (each e) [] (term_numbers e row) [] (term_fits e k h (all_parts (Knows c) (literals e) [] w).0) refl
      parts_fits (cons e (cons f es)) k h w =
          let s = agreed_is (plain_kind ks e) (common_kind ks (cons f es)) k h in
          let q = all_parts (Knows c) (literals e) (all_literals (cons f es)) w in
          fit_two (each e) (parts (cons f es)) (term_numbers e row) (parts_numbers (cons f es) row) (term_fits e k s.0 q.0) (parts_fits (cons f es) k s.1 q.1)

  -- an expression on each of some rows
  terms_fit : (ks : List Kind) (e : PTerm) (k : Kind) → plain_kind ks e ≡ Some k → KnowsTerm c e → (rows : Rows) (numbers : CellRows) → AreCoded c ks rows numbers →
      fit (flat_map (cell_numbers (coded_term c e)) numbers) ≡ fit (flat_map (term_numbers e) rows)
  terms_fit ks e k h w rows numbers are =
      ap (λ all. fit (flat_map (cell_numbers (coded_term c e)) all)) are.coded
      ∙ ap fit (flat_map-map (coded_row c) (cell_numbers (coded_term c e)) rows)
      ∙ fit_each (IsRow c ks) (λ row. cell_numbers (coded_term c e) (coded_row c row)) (term_numbers e) (λ row g. term_fits ks row g.kinds g.known e k h w) rows are.rows

  -- ---- groups

  -- a sum over a column of numbers
  sum_cells : (ks : List Kind) (i : ℕ) → slice_get ks i ≡ Some kind.Int → (rows : Rows) → AreRows c ks rows → sum_by (λ row. nat_abs (cell_in row i)) (coded_rows c rows) ≡ sum_by (λ row. nat_abs (number (value_at row i))) rows
  sum_cells ks i s [] h = refl
  sum_cells ks i s (r ∷ rows) h =
      let here : nat_abs (cell_in (coded_row c r) i) ≡ nat_abs (number (value_at r i)) =
      ap nat_abs (cell_in_row c keeps r i ∙ whole_cell c keeps (value_at r i) (cell_at c keeps r ks i kind.Int h.0.kinds h.0.known s).kind) in
      sum_by-cons (λ row. nat_abs (cell_in row i)) (coded_row c r) (coded_rows c rows)
      ∙ (λ j. here j + sum_cells ks i s rows h.1 j)
      ∙ sym (sum_by-cons (λ row. nat_abs (number (value_at row i))) r rows)

  magnitudes_cells : (ks : List Kind) (agg : PAgg) (k : Kind) → plain_agg_kind ks agg ≡ Some k → (rows : Rows) → AreRows c ks rows → cell_magnitudes (coded_rows c rows) agg ≡ magnitudes rows agg
  magnitudes_cells ks (Sum i) k t rows h = ap (λ n. pos n ∷ []) (sum_cells ks i (sum_kind (slice_get ks i) k t).column rows h)
  magnitudes_cells ks (Min i) k t rows h = refl
  magnitudes_cells ks (Max i) k t rows h = refl

  all_magnitudes : (ks : List Kind) (aggs : List PAgg) (more : List Kind) → all_kinds (map (plain_agg_kind ks) aggs) ≡ Some more → (rows : Rows) → AreRows c ks rows → flat_map (cell_magnitudes (coded_rows c rows)) aggs ≡ flat_map (magnitudes rows) aggs
  all_magnitudes ks [] more t rows h = refl
  all_magnitudes ks (agg ∷ aggs) more t rows h =
      let p = kinds_parts (plain_agg_kind ks agg) (map (plain_agg_kind ks) aggs) more t in
      λ i. magnitudes_cells ks agg p.first p.first_is rows h i ++ all_magnitudes ks aggs p.others p.others_are rows h i

  group_fits : (ks : List Kind) (keys : List ℕ) (aggs : List PAgg) (js more : List Kind) → kept_kinds keys ks ≡ Some js → all_kinds (map (plain_agg_kind ks) aggs) ≡ Some more → (rows : Rows) → AreRows c ks rows →
      cell_group_numbers keys aggs (coded_rows c rows) ≡ group_numbers keys aggs rows
  group_fits ks keys aggs js more keyed typed rows h =
      ap (flat_map (λ key. flat_map (cell_magnitudes (cell_members keys (coded_rows c rows) key)) aggs)) (keys_coded c keeps ks keys aggs js more keyed typed rows h)
      ∙ flat_map-map (coded_row c) (λ key. flat_map (cell_magnitudes (cell_members keys (coded_rows c rows) key)) aggs) (distinct same_row (map (kept keys) rows))
      ∙ flat_map_same (IsRow c js) (λ key. flat_map (cell_magnitudes (cell_members keys (coded_rows c rows) (coded_row c key))) aggs) (λ key. flat_map (magnitudes (members keys rows key)) aggs)
      (λ key g.
      ap (λ all. flat_map (cell_magnitudes all) aggs) (members_coded c keeps ks keys aggs js more keyed typed rows h key g)
      ∙ all_magnitudes ks aggs more typed (members keys rows key) (all_filter (IsRow c ks) (λ row. same_row key (kept keys row)) rows h))
      (distinct same_row (map (kept keys) rows)) (found_rows c keeps ks keys aggs js more keyed typed rows h)

  -- ---- plans

  module _ (tk : List (List Kind)) (ts : List Rows) (ok : AllZip HaveKinds tk ts) (knows : KnowsTables c ts) where
    abbrev own : PhysicalTree → List ℤ
    own p = physical_numbers p ts

    abbrev on_cells : PhysicalTree → List ℤ
    on_cells p = plan_cell_numbers (coded_tree c p) (coded_tables c ts)

    abbrev plan_rows : PhysicalTree → Rows
    plan_rows p = physical_rows p ts

    abbrev number_rows : PhysicalTree → CellRows
    number_rows p = plan_cells (coded_tree c p) (coded_tables c ts)

    pub plan_fits : (p : PhysicalTree) (ks : List Kind) → physical_kinds tk p ≡ Some ks → KnowsPlan c p → fit (plan_cell_numbers (coded_tree c p) (coded_tables c ts)) ≡ fit (physical_numbers p ts)
    plan_fits (physical.Scan t w) ks h g = refl
    plan_fits (physical.Rows w rows) ks h g = refl
    plan_fits (physical.Extend e q) ks h g =
        let p = and_then_is _ (physical_kinds tk q) ks h in
        let s = and_then_is _ (plain_kind p.0 e) ks p.2 in
        let w = all_parts (Knows c) (literals e) (written q) g in
        fit_two (on_cells q) (flat_map (cell_numbers (coded_term c e)) (number_rows q)) (own q) (flat_map (term_numbers e) (plan_rows q)) (plan_fits q p.0 p.1 w.1)
        (terms_fit p.0 e s.0 s.1 w.0 (plan_rows q) (number_rows q) (plan_coded c keeps tk ts ok knows q p.0 p.1 w.1))
    plan_fits (physical.Keep places q) ks h g =
        let p = and_then_is _ (physical_kinds tk q) ks h in
        plan_fits q p.0 p.1 g
    plan_fits (physical.Filter e q) ks h g =
        let p = and_then_is _ (physical_kinds tk q) ks h in
        let s = chosen_is (is_kind kind.Flag (plain_kind p.0 e)) (Some p.0) ks p.2 in
        let w = all_parts (Knows c) (literals e) (written q) g in
        fit_two (on_cells q) (flat_map (cell_numbers (coded_term c e)) (number_rows q)) (own q) (flat_map (term_numbers e) (plan_rows q)) (plan_fits q p.0 p.1 w.1)
        (terms_fit p.0 e kind.Flag (is_kind_is kind.Flag (plain_kind p.0 e) s.0) w.0 (plan_rows q) (number_rows q) (plan_coded c keeps tk ts ok knows q p.0 p.1 w.1))
    plan_fits (physical.Nested e q r) ks h g =
        let p = and_then_is _ (physical_kinds tk q) ks h in
        let s = and_then_is _ (physical_kinds tk r) ks p.2 in
        let u = chosen_is (is_kind kind.Flag (plain_kind (p.0 ++ s.0) e)) (Some (p.0 ++ s.0)) ks s.2 in
        let w = all_parts (Knows c) (literals e) (written q ++ written r) g in
        let v = all_parts (Knows c) (written q) (written r) w.1 in
        let left = plan_coded c keeps tk ts ok knows q p.0 p.1 v.0 in
        let right = plan_coded c keeps tk ts ok knows r s.0 s.1 v.1 in
        let pairs = product_coded c keeps p.0 s.0 (plan_rows q) (plan_rows r) left.rows right.rows in
        fit_two (on_cells q ++ on_cells r) (flat_map (cell_numbers (coded_term c e)) (flat_map (λ a. map (λ b. a ++ b) (number_rows r)) (number_rows q)))
        (own q ++ own r) (flat_map (term_numbers e) (flat_map (λ a. map (λ b. a ++ b) (plan_rows r)) (plan_rows q)))
        (fit_two (on_cells q) (on_cells r) (own q) (own r) (plan_fits q p.0 p.1 v.0) (plan_fits r s.0 s.1 v.1))
        (terms_fit (p.0 ++ s.0) e kind.Flag (is_kind_is kind.Flag (plain_kind (p.0 ++ s.0) e) u.0) w.0
        (flat_map (λ a. map (λ b. a ++ b) (plan_rows r)) (plan_rows q)) (flat_map (λ a. map (λ b. a ++ b) (number_rows r)) (number_rows q))
        (record { rows = pairs.rows; coded = (λ i. flat_map (λ a. map (λ b. a ++ b) (right.coded i)) (left.coded i)) ∙ pairs.coded }))
    plan_fits (physical.Hash places e q r) ks h g =
        let p = and_then_is _ (physical_kinds tk q) ks h in
        let s = and_then_is _ (physical_kinds tk r) ks p.2 in
        let u = chosen_is (equal_kinds places p.0 s.0 && is_kind kind.Flag (plain_kind (p.0 ++ s.0) e)) (Some (p.0 ++ s.0)) ks s.2 in
        let b = and_parts (equal_kinds places p.0 s.0) (is_kind kind.Flag (plain_kind (p.0 ++ s.0) e)) u.0 in
        let w = all_parts (Knows c) (literals e) (written q ++ written r) g in
        let v = all_parts (Knows c) (written q) (written r) w.1 in
        let left = plan_coded c keeps tk ts ok knows q p.0 p.1 v.0 in
        let right = plan_coded c keeps tk ts ok knows r s.0 s.1 v.1 in
        let pairs = hash_coded c keeps p.0 s.0 places b.0 (plan_rows q) (plan_rows r) left.rows right.rows in
        fit_two (on_cells q ++ on_cells r) (flat_map (cell_numbers (coded_term c e)) (cell_pairs (cells_equal_at places) (number_rows q) (number_rows r)))
        (own q ++ own r) (flat_map (term_numbers e) (equal_pairs places (plan_rows q) (plan_rows r)))
        (fit_two (on_cells q) (on_cells r) (own q) (own r) (plan_fits q p.0 p.1 v.0) (plan_fits r s.0 s.1 v.1))
        (terms_fit (p.0 ++ s.0) e kind.Flag (is_kind_is kind.Flag (plain_kind (p.0 ++ s.0) e) b.1) w.0
        (equal_pairs places (plan_rows q) (plan_rows r)) (cell_pairs (cells_equal_at places) (number_rows q) (number_rows r))
        (record { rows = pairs.rows; coded = (λ i. cell_pairs (cells_equal_at places) (left.coded i) (right.coded i)) ∙ pairs.coded }))
    plan_fits (physical.Overlap at e q r) ks h g =
        let p = and_then_is _ (physical_kinds tk q) ks h in
        let s = and_then_is _ (physical_kinds tk r) ks p.2 in
        let u = chosen_is (bounds_kinds at p.0 s.0 && is_kind kind.Flag (plain_kind (p.0 ++ s.0) e)) (Some (p.0 ++ s.0)) ks s.2 in
        let b = and_parts (bounds_kinds at p.0 s.0) (is_kind kind.Flag (plain_kind (p.0 ++ s.0) e)) u.0 in
        let w = all_parts (Knows c) (literals e) (written q ++ written r) g in
        let v = all_parts (Knows c) (written q) (written r) w.1 in
        let left = plan_coded c keeps tk ts ok knows q p.0 p.1 v.0 in
        let right = plan_coded c keeps tk ts ok knows r s.0 s.1 v.1 in
        let pairs = overlap_coded c keeps p.0 s.0 at b.0 (plan_rows q) (plan_rows r) left.rows right.rows in
        fit_two (on_cells q ++ on_cells r) (flat_map (cell_numbers (coded_term c e)) (cell_pairs (cells_overlap at) (number_rows q) (cells_by_range at (number_rows r))))
        (own q ++ own r) (flat_map (term_numbers e) (overlap_pairs at (plan_rows q) (plan_rows r)))
        (fit_two (on_cells q) (on_cells r) (own q) (own r) (plan_fits q p.0 p.1 v.0) (plan_fits r s.0 s.1 v.1))
        (terms_fit (p.0 ++ s.0) e kind.Flag (is_kind_is kind.Flag (plain_kind (p.0 ++ s.0) e) b.1) w.0
        (overlap_pairs at (plan_rows q) (plan_rows r)) (cell_pairs (cells_overlap at) (number_rows q) (cells_by_range at (number_rows r)))
        (record { rows = pairs.rows; coded = (λ i. cell_pairs (cells_overlap at) (left.coded i) (cells_by_range at (right.coded i))) ∙ pairs.coded }))
    plan_fits (physical.Union q r) ks h g =
        let p = and_then_is _ (physical_kinds tk q) ks h in
        let s = and_then_is _ (physical_kinds tk r) ks p.2 in
        let v = all_parts (Knows c) (written q) (written r) g in
        fit_two (on_cells q) (on_cells r) (own q) (own r) (plan_fits q p.0 p.1 v.0) (plan_fits r s.0 s.1 v.1)
    plan_fits (physical.Group keys aggs q) ks h g =
        let p = and_then_is _ (physical_kinds tk q) ks h in
        let s = and_then_is _ (kept_kinds keys p.0) ks p.2 in
        let u = and_then_is _ (all_kinds (map (plain_agg_kind p.0) aggs)) ks s.2 in
        let below = plan_coded c keeps tk ts ok knows q p.0 p.1 g in
        fit_two (on_cells q) (cell_group_numbers keys aggs (number_rows q)) (own q) (group_numbers keys aggs (plan_rows q)) (plan_fits q p.0 p.1 g)
        (ap (λ all. fit (cell_group_numbers keys aggs all)) below.coded ∙ ap fit (group_fits p.0 keys aggs s.0 u.0 s.1 u.1 (plan_rows q) below.rows))

  -- the numbers of a typed plan over cells fit exactly where its own do
  pub plan_cell_fits : (p : PhysicalTree) (ts : List Rows) → IsPhysicalFor ts p → KnowsPlan c p → KnowsTables c ts → fit (plan_cell_numbers (coded_tree c p) (coded_tables c ts)) ≡ fit (physical_numbers p ts)
  plan_cell_fits p ts typed plan tables =
      let k = its_kinds (physical_kinds typed.kinds p) typed.typed in
      plan_fits typed.kinds ts typed.tables tables p k.0 k.1 plan
