-- The plan of Difference is typed.
use Rattle.std.specs.Prelude.{◌≡◌, ℕ, ◌+◌, ◌*◌, List, [], ◌∷◌, ◌++◌, length, map, Some, None, option_and_then, if◌then◌else◌}
use Rattle.std.proofs.Common.{arith, refl, sym, ◌∙◌, ap, subst, append_assoc}
use Rattle.std.proofs.lemmas.List.{length-append}
use Rattle.au_value.specs.declared.kinds.Kind.{Kind}
use Rattle.au_value.specs.declared.kinds.Kind.TheVariants.{Int, Flag}
use Rattle.au_expr.specs.Kinds.{is_kind}
use Rattle.au_algebra.specs.Typing.{all_kinds, kinds_if, same_kinds}
use Rattle.au_plain.specs.declared.plan.PAgg.{PAgg}
use Rattle.au_plain.specs.declared.plan.PAgg.TheVariants.{Sum}
use Rattle.au_plain.specs.PTerms.{Subtract}
use Rattle.au_plain.specs.Plans.{PlanTree, Filter, Join, Union, extend_all}
use Rattle.au_plain.specs.PlanKinds.{plan_kinds, plain_kind, plain_agg_kind, kept_kinds}
use Rattle.au_encode.specs.Encode.{encoded_kinds, triple_kinds}
use Rattle.au_rwexpr.specs.Cells.{cell_places, run, three_places}
use Rattle.au_rwexpr.specs.Counts.{zero_term, positive}
use Rattle.au_rwexpr.specs.Flatten.{lo, sg, hi}
use Rattle.au_rwexpr.specs.Meets.{meets_term, same_guesses, surely_equal}
use Rattle.au_rwexpr.proofs.Coded.{own}
use Rattle.au_rwexpr.proofs.Columns.{adds, means_now}
use Rattle.au_rwexpr.proofs.Gives.{HasKinds, same_kinds_itself, kinds-keep, kinds-filter, kinds-extend_all}
use Rattle.au_rwexpr.proofs.MeetingKinds.{meets_kind, same_kind, surely_kind}
use Rattle.au_rwexpr.proofs.OnKinds.{HasKind, column_kind, case_kind, subtract_kind, greatest_kind, positive_kind}
use Rattle.au_rwexpr.proofs.Picks.{Picks, kinds_kept, picks_more, pick_cells, pick_three, coded_cells, coded_triple, coded_long, ends_past, left_cells, right_cells, right_triple}
use Rattle.au_rwexpr.proofs.Places.{At, ends_more, all_ends_more}
use Rattle.au_rwdiff.specs.Differences.{no_columns, taken_columns, left_columns, taken_plan, summed_plan, difference_plan}
use Rattle.au_combine.proofs.BoxPlaces.{first_picks}

abbrev ints : List Kind
ints = Int ∷ Int ∷ Int ∷ []

module _ (tk : List (List Kind)) (ks : List Kind) (p q : PlanTree) (hp : HasKinds tk p ks) (hq : HasKinds tk q ks) where
  abbrev c : ℕ
  c = length ks

  abbrev w : ℕ
  w = 3 * c + 3

  abbrev u : ℕ
  u = w + 3 * c

  abbrev row : List Kind
  row = encoded_kinds ks

  -- a left row with three counts
  abbrev counted : List Kind
  counted = row ++ ints

  long : length row ≡ w
  long = coded_long own own own own own own c ks Int refl

  -- each left row with a right row, and with what is taken
  taken_kinds : plan_kinds tk (taken_plan c w p q) ≡ Some counted
  taken_kinds =
      let pair = row ++ row in
      let lefts = left_cells own own own own own own c c ks ks Int Int refl refl in
      let rights = right_cells own own own own own own c c ks ks Int Int refl refl in
      let triple = right_triple own own own own own own c c ks ks Int Int refl refl in
      let pair_is_long : length pair ≡ w + w = omega (arith, length-append row row, long) in
      let join = Join (meets_term 0 w c) p q in
      let joined : plan_kinds tk join ≡ Some pair =
      (λ i. option_and_then (λ a. option_and_then (λ b. kinds_if (is_kind Flag (plain_kind (a ++ b) (meets_term 0 w c))) (a ++ b)) (hq i)) (hp i))
      ∙ ap (λ o. kinds_if (is_kind Flag o) pair) (means_now plain_kind pair (meets_term 0 w c) Flag (meets_kind pair 0 w c ks refl lefts rights)) in
      let z : HasKind pair zero_term Int = (λ more. refl) in
      let new = adds plain_kind pair (taken_columns c w u) ints (
        column_kind pair (u + 2) Int triple.hi,
        (
          case_kind pair (sg u) zero_term Int (same_guesses 0 w c) (same_kind pair 0 w c ks refl lefts rights) (column_kind pair (u + 1) Int triple.sg) z,
          (case_kind pair (lo u) zero_term Int (surely_equal 0 w c) (surely_kind pair 0 w c ks refl lefts rights) (column_kind pair u Int triple.lo) z, tt),
        ),
      ) in
      let wide = pair ++ ints in
      let first : Picks wide (run 0 w) row = subst (λ r. Picks r (run 0 w) row) (sym (append_assoc row row ints)) (first_picks row (row ++ ints) w long) in
      kinds-keep tk (run 0 w ++ three_places (w + w)) (extend_all (taken_columns c w u) join) wide counted (kinds-extend_all tk (taken_columns c w u) join pair wide joined new)
      (picks_more wide (run 0 w) (three_places (w + w)) row ints first (pick_three own own own wide (w + w) Int (ends_past own own own pair [] (w + w) Int pair_is_long)))

  -- the sums stand behind a left row, as the counts do
  summed_kinds : plan_kinds tk (summed_plan c w p q) ≡ Some counted
  summed_kinds =
      let zeros = kinds-extend_all tk no_columns p row counted hp (adds plain_kind row no_columns ints ((λ more. refl), ((λ more. refl), ((λ more. refl), tt)))) in
      let both : plan_kinds tk (Union (extend_all no_columns p) (taken_plan c w p q)) ≡ Some counted =
      (λ i. option_and_then (λ a. option_and_then (λ b. kinds_if (same_kinds a b) a) (taken_kinds i)) (zeros i)) ∙ ap (λ b. kinds_if b counted) (same_kinds_itself counted) in
      let at = ends_past own own own row [] w Int long in
      let sum_kind : (i : ℕ) → At counted i Int → plain_agg_kind counted (Sum i) ≡ Some Int = (λ i there. λ j. if is_kind Int (there j) then Some Int else None) in
      let s0 = sum_kind w at.lo in
      let s1 = sum_kind (w + 1) at.sg in
      let s2 = sum_kind (w + 2) at.hi in
      let aggs : List PAgg = Sum w ∷ Sum (w + 1) ∷ Sum (w + 2) ∷ [] in
      let sums : all_kinds (map (plain_agg_kind counted) aggs) ≡ Some ints =
      (λ j. option_and_then (λ a. option_and_then (λ more. Some (a ∷ more)) (option_and_then (λ b. option_and_then (λ more. Some (b ∷ more)) (option_and_then (λ d. Some (d ∷ [])) (s2 j))) (s1 j))) (s0 j)) in
      let keys : kept_kinds (run 0 w) counted ≡ Some row = kinds_kept counted (run 0 w) row (first_picks row ints w long) in
      ap (option_and_then (λ js. option_and_then (λ ms. option_and_then (λ more. Some (ms ++ more)) (all_kinds (map (plain_agg_kind js) aggs))) (kept_kinds (run 0 w) js))) both
      ∙ (λ i. option_and_then (λ ms. option_and_then (λ more. Some (ms ++ more)) (sums i)) (keys i))

  -- Difference's plan has the encoded kinds of its left side.
  pub difference_kinds : HasKinds tk (difference_plan c p q) ks
  difference_kinds =
      let t = 3 * c in
      let cells = triple_kinds ks in
      let own_triple = ends_more own own own row ints t Int (coded_triple own own own own own own c ks Int refl) in
      let sums = ends_past own own own row [] w Int long in
      let z : HasKind counted zero_term Int = (λ more. refl) in
      let rest = adds plain_kind counted (left_columns t w) ints (
        greatest_kind counted (Subtract (lo t) (lo w)) zero_term Int (subtract_kind counted (lo t) (lo w) (column_kind counted t Int own_triple.lo) (column_kind counted w Int sums.lo)) z,
        (
          greatest_kind counted (Subtract (sg t) (sg w)) zero_term Int (subtract_kind counted (sg t) (sg w) (column_kind counted (t + 1) Int own_triple.sg) (column_kind counted (w + 1) Int sums.sg)) z,
          (greatest_kind counted (Subtract (hi t) (hi w)) zero_term Int (subtract_kind counted (hi t) (hi w) (column_kind counted (t + 2) Int own_triple.hi) (column_kind counted (w + 2) Int sums.hi)) z, tt),
        ),
      ) in
      let whole = counted ++ ints in
      let counted_long : length counted ≡ w + 3 = omega (arith, length-append row ints, long) in
      let new = ends_past own own own counted [] (w + 3) Int counted_long in
      let plan = extend_all (left_columns t w) (summed_plan c w p q) in
      let extended = kinds-extend_all tk (left_columns t w) (summed_plan c w p q) counted whole summed_kinds rest in
      let passed = kinds-filter tk (positive (hi (w + 3))) plan whole extended
      (means_now plain_kind whole (positive (hi (w + 3))) Flag (positive_kind whole (hi (w + 3)) (column_kind whole (w + 3 + 2) Int new.hi))) in
      kinds-keep tk (cell_places 0 c ++ three_places (w + 3)) (Filter (positive (hi (w + 3))) plan) whole row passed
      (picks_more whole (cell_places 0 c) (three_places (w + 3)) cells ints
      (pick_cells own own own whole 0 c ks refl (all_ends_more own own own counted ints 0 ks (all_ends_more own own own row ints 0 ks (coded_cells own own own own own own c ks Int refl))))
      (pick_three own own own whole (w + 3) Int new))
