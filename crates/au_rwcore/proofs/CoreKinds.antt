-- The plans of Select, Project, Product and Union are typed, with the encoded kinds of their columns.
use Rattle.std.specs.Prelude.{◌≡◌, ℕ, ◌+◌, ◌*◌, true, List, [], ◌∷◌, ◌++◌, length, map, Some, option_and_then}
use Rattle.std.proofs.Common.{refl, ◌∙◌, ap, subst}
use Rattle.std.proofs.lemmas.List.{length-append}
use Rattle.au_value.specs.declared.kinds.Kind.{Kind}
use Rattle.au_value.specs.declared.kinds.Kind.TheVariants.{Int, Flag}
use Rattle.au_value.specs.declared.value.Value.TheVariants as value
use Rattle.au_expr.specs.Terms.{Term}
use Rattle.au_expr.specs.Kinds.{kind_in, is_kind}
use Rattle.au_algebra.specs.Typing.{items_kinds, all_kinds, kinds_if, same_kinds}
use Rattle.au_algebra.proofs.Items.{and_then_is, some_is}
use Rattle.au_plain.specs.PTerms.{Case, Literal, Multiply}
use Rattle.au_plain.specs.Plans.{PlanTree, Join, Filter, extend_all}
use Rattle.au_plain.specs.PlanKinds.{plan_kinds, plain_kind}
use Rattle.au_encode.specs.Encode.{encoded_kinds}
use Rattle.au_rwexpr.specs.Flatten.{before, flatten, lo, sg, hi, three, flatten_items, item_places}
use Rattle.au_rwexpr.specs.Cells.{cell_places, three_places}
use Rattle.au_rwexpr.specs.Counts.{zero_term}
use Rattle.au_rwcore.specs.Core.{select_plan, project_plan, product_plan, union_plan}
use Rattle.au_rwexpr.proofs.Places.{ends_more, ends, all_ends}
use Rattle.au_rwexpr.proofs.Columns.{adds, means_now}
use Rattle.au_rwexpr.proofs.Structure.{flattened, found, added, added_long, items_law, items_picked, items_added, Any, any_of, below_any}
use Rattle.au_rwexpr.proofs.Coded.{own}
use Rattle.au_rwexpr.proofs.OnKinds.{kind_steps, result, result_is, KindsAt, column_kind, case_kind, multiply_kind}
use Rattle.au_rwexpr.proofs.Picks.{coded_long, coded_cells, coded_triple, select_picks, picks_more, pick_three, pair_picks, left_triple, right_triple}
use Rattle.au_rwexpr.proofs.Gives.{HasKinds, kinds-extend_all, kinds-keep, kinds-filter, same_kinds_itself}

module _ (tk : List (List Kind)) (ks : List Kind) where
  abbrev c : ℕ
  c = length ks

  abbrev n : ℕ
  n = 3 * c + 3

  abbrev row : List Kind
  row = encoded_kinds ks

  row_long : length row ≡ n
  row_long = coded_long own own own own own own c ks Int refl

  module _ (e : Term) (typed : kind_in ks e ≡ Some Flag) where
    abbrev i : ℕ
    i = n + before e

    abbrev flat : List Kind
    flat = added own own own plain_kind ks ks (result ks) e

    abbrev one : List Kind
    one = row ++ flat

    at_whole : KindsAt one i Flag
    at_whole = subst (λ k. KindsAt one i k) (result_is ks e Flag typed) (found own own own plain_kind ks ks (result ks) row n e row_long)

    at_triple : KindsAt one (3 * c) Int
    at_triple = ends_more own own own row flat (3 * c) Int (coded_triple own own own own own own c ks Int refl)

    -- Select's plan has the encoded kinds of its input.
    pub select_kinds : (p : PlanTree) → HasKinds tk p ks → HasKinds tk (select_plan c e p) ks
    select_kinds p h =
        let m = n + (before e + 3) in
        let inner = extend_all (flatten n e) p in
        let whole = flattened own own own plain_kind ks ks (result ks) Any below_any (kind_steps ks) e Flag tt typed row n row_long (coded_cells own own own own own own c ks Int refl) in
        let first = kinds-extend_all tk (flatten n e) p row one h whole in
        let passed = kinds-filter tk (hi i) inner one first (means_now plain_kind one (hi i) Flag (column_kind one (i + 2) Flag at_whole.hi)) in
        let new = Case (lo i) (lo (3 * c)) zero_term ∷ Case (sg i) (sg (3 * c)) zero_term ∷ [] in
        let grown =
        adds plain_kind one new (Int ∷ Int ∷ []) (
          case_kind one (lo (3 * c)) zero_term Int (lo i) (column_kind one i Flag at_whole.lo) (column_kind one (3 * c) Int at_triple.lo) (λ more. refl),
          (case_kind one (sg (3 * c)) zero_term Int (sg i) (column_kind one (i + 1) Flag at_whole.sg) (column_kind one (3 * c + 1) Int at_triple.sg) (λ more. refl), tt),
        ) in
        let long_one : length one ≡ m = length-append row flat ∙ (λ k. row_long k + added_long own own own plain_kind ks ks (result ks) e k) in
        kinds-keep tk (cell_places 0 c ++ (m ∷ (m + 1) ∷ (3 * c + 2) ∷ [])) (extend_all new (Filter (hi i) inner)) (one ++ (Int ∷ Int ∷ [])) (encoded_kinds ks)
        (kinds-extend_all tk new (Filter (hi i) inner) one (one ++ (Int ∷ Int ∷ [])) passed grown)
        (select_picks own own own own own own c ks Int refl flat Int Int m long_one)

  results_are : (items : List Term) (js : List Kind) → items_kinds ks items ≡ Some js → map (result ks) items ≡ js
  results_are [] js t = some_is [] js t
  results_are (e ∷ es) js t =
      let p = and_then_is _ (kind_in ks e) js t in
      let q = and_then_is _ (all_kinds (map (kind_in ks) es)) js p.2 in
      (λ i. result_is ks e p.0 p.1 i ∷ results_are es q.0 q.1 i) ∙ some_is (p.0 ∷ q.0) js q.2

  -- Project's plan has the encoded kinds of its items.
  pub project_kinds : (items : List Term) (js : List Kind) → items_kinds ks items ≡ Some js → (p : PlanTree) → HasKinds tk p ks → HasKinds tk (project_plan c items p) js
  project_kinds items js typed p h =
      let wide = items_added own own own plain_kind ks ks (result ks) items in
      let all = row ++ wide in
      let grown = items_law own own own plain_kind ks ks (result ks) Any below_any (kind_steps ks) items js (any_of items) typed row n row_long (coded_cells own own own own own own c ks Int refl) in
      let triple = ends_more own own own row wide (3 * c) Int (coded_triple own own own own own own c ks Int refl) in
      let picks =
      picks_more all (item_places n items) (three_places (3 * c)) (all_ends own own own (map (result ks) items)) (ends own own own Int)
      (items_picked own own own plain_kind ks ks (result ks) items row n row_long) (pick_three own own own all (3 * c) Int triple) in
      kinds-keep tk (item_places n items ++ three_places (3 * c)) (extend_all (flatten_items n items) p) all (encoded_kinds (map (result ks) items))
      (kinds-extend_all tk (flatten_items n items) p row all h grown) picks
      ∙ ap (λ ms. Some (encoded_kinds ms)) (results_are items js typed)

  -- Product's plan has the encoded kinds of both sides.
  pub product_kinds : (js : List Kind) (p q : PlanTree) → HasKinds tk p ks → HasKinds tk q js → HasKinds tk (product_plan c (length js) p q) (ks ++ js)
  product_kinds js p q h g =
      let d = length js in
      let t = 3 * c in
      let u = 3 * c + 3 + 3 * d in
      let pair = row ++ encoded_kinds js in
      let join = Join (Literal (value.Flag true)) p q in
      let joined : plan_kinds tk join ≡ Some pair =
      (λ i. option_and_then (λ a. option_and_then (λ b. kinds_if (is_kind Flag (plain_kind (a ++ b) (Literal (value.Flag true)))) (a ++ b)) (g i)) (h i)) in
      let a = left_triple own own own own own own c d ks js Int Int refl refl in
      let b = right_triple own own own own own own c d ks js Int Int refl refl in
      let products = three (Multiply (lo t) (lo u)) (Multiply (sg t) (sg u)) (Multiply (hi t) (hi u)) in
      let grown =
      adds plain_kind pair products (ends own own own Int) (
        multiply_kind pair (lo t) (lo u) (column_kind pair t Int a.lo) (column_kind pair u Int b.lo),
        (
          multiply_kind pair (sg t) (sg u) (column_kind pair (t + 1) Int a.sg) (column_kind pair (u + 1) Int b.sg),
          (multiply_kind pair (hi t) (hi u) (column_kind pair (t + 2) Int a.hi) (column_kind pair (u + 2) Int b.hi), tt),
        ),
      ) in
      kinds-keep tk (cell_places 0 c ++ (cell_places (3 * c + 3) d ++ three_places (u + 3))) (extend_all products join) (pair ++ ends own own own Int) (encoded_kinds (ks ++ js))
      (kinds-extend_all tk products join pair (pair ++ ends own own own Int) joined grown)
      (pair_picks own own own own own own c d ks js Int Int refl refl Int)

-- Union's plan has the encoded kinds of both.
pub union_kinds : (tk : List (List Kind)) (ks : List Kind) (p q : PlanTree) → HasKinds tk p ks → HasKinds tk q ks → HasKinds tk (union_plan p q) ks
union_kinds tk ks p q h g =
    (λ i. option_and_then (λ a. option_and_then (λ b. kinds_if (same_kinds a b) a) (g i)) (h i))
    ∙ ap (λ b. kinds_if b (encoded_kinds ks)) (same_kinds_itself (encoded_kinds ks))
