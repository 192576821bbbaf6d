-- A strengthened plan has the kinds of the plan.
use Rattle.std.specs.Prelude.{◌≡◌, ℕ, true, List, [], ◌∷◌, ◌++◌, length, map, Some, option_and_then}
use Rattle.std.specs.List.{list_all}
use Rattle.std.proofs.Common.{refl, sym, ◌∙◌, ap, subst}
use Rattle.std.proofs.lemmas.Bool.{and_from}
use Rattle.au_value.specs.declared.kinds.Kind.{Kind}
use Rattle.au_value.specs.declared.kinds.Kind.TheVariants as kind
use Rattle.au_expr.specs.Kinds.{is_kind}
use Rattle.au_expr.proofs.Along.{is_kind_is}
use Rattle.au_algebra.specs.Typing.{all_kinds, kinds_if, same_kinds}
use Rattle.au_algebra.proofs.Each.{all_append}
use Rattle.au_plain.specs.declared.plan.PAgg.{PAgg}
use Rattle.au_plain.specs.PTerms.{PTerm}
use Rattle.au_plain.specs.PlanKinds.{kept_kinds, plain_agg_kind, plain_kind, plan_kinds}
use Rattle.au_plain.specs.Plans.{PlanTree}
use Rattle.au_plain.specs.Plans as plan
use Rattle.au_passes.specs.Conditions.{condition}
use Rattle.au_passes.specs.Pushing.{filtered_by, below_column, above_column, on_left, on_right, on_both}
use Rattle.au_passes.proofs.Strengthening.{strengthened_by}
use Rattle.au_passes.specs.Tests.{with_columns, renamed, movable, staying}
use Rattle.au_plain.specs.Widths.{plan_width}
use Rattle.au_passes.proofs.Conjunctions.{of_condition, flags_both}
use Rattle.au_passes.proofs.PlanParts.{extend_parts, keep_parts, filter_parts, join_parts, union_parts, group_parts}
use Rattle.au_passes.proofs.Testing.{IsTest, Tests, Flags, tests_flags, flags_staying, tests_movable, tests_below, tests_above, tests_left, tests_right, tests_both, tests_kept}
use Rattle.au_plain.proofs.Widths.{width_is}

all_flags : (ks : List Kind) (es : List PTerm) → Flags ks es → list_all (λ e. is_kind kind.Flag (plain_kind ks e)) es ≡ true
all_flags ks [] h = refl
all_flags ks (e ∷ es) h = and_from _ _ (ap (is_kind kind.Flag) h.0) (all_flags ks es h.1)

-- the condition of some tests is a flag
flag_condition : (ks : List Kind) (es : List PTerm) → Flags ks es → plain_kind ks (condition es) ≡ Some kind.Flag
flag_condition ks es h =
    is_kind_is kind.Flag (plain_kind ks (condition es)) (of_condition (λ e. is_kind kind.Flag (plain_kind ks e)) (flags_both ks) es ∙ all_flags ks es h)

module _ (kinds : List (List Kind)) where
  -- a filter of a flag
  filter_kinds : (ks : List Kind) (e : PTerm) (p : PlanTree) → plan_kinds kinds p ≡ Some ks → plain_kind ks e ≡ Some kind.Flag → plan_kinds kinds (plan.Filter e p) ≡ Some ks
  filter_kinds ks e p h g =
      ap (λ o. option_and_then (λ js. kinds_if (is_kind kind.Flag (plain_kind js e)) js) o) h ∙ ap (λ o. kinds_if (is_kind kind.Flag o) ks) g

  pub filtered_by_kinds : (ks : List Kind) (es : List PTerm) (p : PlanTree) → plan_kinds kinds p ≡ Some ks → Flags ks es → plan_kinds kinds (filtered_by es p) ≡ Some ks
  filtered_by_kinds ks [] p h g = h
  filtered_by_kinds ks (e ∷ es) p h g = filter_kinds ks (condition (e ∷ es)) p h (flag_condition ks (e ∷ es) g)

  -- operators over plans of the same kinds
  pub extend_same : (ks of : List Kind) (c : PTerm) (p q : PlanTree) → plan_kinds kinds p ≡ Some of → plan_kinds kinds q ≡ Some of → plan_kinds kinds (plan.Extend c p) ≡ Some ks → plan_kinds kinds (plan.Extend c q) ≡ Some ks
  extend_same ks of c p q g k h =
      ap (λ o. option_and_then (λ js. option_and_then (λ own. Some (js ++ own ∷ [])) (plain_kind js c)) o) (k ∙ sym g) ∙ h

  pub group_same : (ks of : List Kind) (keys : List ℕ) (aggs : List PAgg) (p q : PlanTree) → plan_kinds kinds p ≡ Some of → plan_kinds kinds q ≡ Some of → plan_kinds kinds (plan.Group keys aggs p) ≡ Some ks → plan_kinds kinds (plan.Group keys aggs q) ≡ Some ks
  group_same ks of keys aggs p q g k h =
      ap (λ o. option_and_then (λ js. option_and_then (λ hs. option_and_then (λ more. Some (hs ++ more)) (all_kinds (map (plain_agg_kind js) aggs))) (kept_kinds keys js)) o) (k ∙ sym g) ∙ h

  join_kinds : (left right : List Kind) (c : PTerm) (p q : PlanTree) → plan_kinds kinds p ≡ Some left → plan_kinds kinds q ≡ Some right → plain_kind (left ++ right) c ≡ Some kind.Flag → plan_kinds kinds (plan.Join c p q) ≡ Some (left ++ right)
  join_kinds left right c p q g h f =
      ap (λ o. option_and_then (λ ks. option_and_then (λ js. kinds_if (is_kind kind.Flag (plain_kind (ks ++ js) c)) (ks ++ js)) (plan_kinds kinds q)) o) g
      ∙ ap (λ o. option_and_then (λ js. kinds_if (is_kind kind.Flag (plain_kind (left ++ js) c)) (left ++ js)) o) h
      ∙ ap (λ o. kinds_if (is_kind kind.Flag o) (left ++ right)) f

  union_same : (ks : List Kind) (p q r s : PlanTree) → plan_kinds kinds p ≡ plan_kinds kinds r → plan_kinds kinds q ≡ plan_kinds kinds s → plan_kinds kinds (plan.Union p q) ≡ Some ks → plan_kinds kinds (plan.Union r s) ≡ Some ks
  union_same ks p q r s g k h =
      sym (λ i. option_and_then (λ js. option_and_then (λ hs. kinds_if (same_kinds js hs) js) (k i)) (g i)) ∙ h

  pub strengthened_kinds : (es : List PTerm) (p : PlanTree) (ks : List Kind) → plan_kinds kinds p ≡ Some ks → Tests ks es → plan_kinds kinds (strengthened_by es p) ≡ Some ks
  strengthened_kinds es (plan.Scan t w) ks h g = filtered_by_kinds ks es (plan.Scan t w) h (tests_flags ks es g)
  strengthened_kinds es (plan.Rows w rows) ks h g = filtered_by_kinds ks es (plan.Rows w rows) h (tests_flags ks es g)
  strengthened_kinds es (plan.Extend c p) ks h g =
      let a = extend_parts kinds ks c p h in
      let at : plan_width p ≡ length a.0 = sym (width_is kinds p a.0 a.2) in
      let own = subst (λ js. Tests js es) (sym a.4) g in
      let q = strengthened_by (below_column (plan_width p) c es) p in
      let below = strengthened_kinds (below_column (plan_width p) c es) p a.0 a.2 (tests_below a.0 a.1 (plan_width p) at c a.3 es own) in
      let wider = extend_same ks a.0 c p q a.2 below h in
      filtered_by_kinds ks (above_column (plan_width p) c es) (plan.Extend c q) wider
      (tests_flags ks (above_column (plan_width p) c es)
      (subst (λ js. Tests js (above_column (plan_width p) c es)) a.4 (tests_above a.0 a.1 (plan_width p) at c a.3 es own)))
  strengthened_kinds es (plan.Keep places p) ks h g =
      let a = keep_parts kinds ks places p h in
      let below = strengthened_kinds (map (with_columns (renamed places)) es) p a.0 a.1 (tests_kept a.0 ks places a.2 es g) in
      ap (λ o. option_and_then (λ js. kept_kinds places js) o) (below ∙ sym a.1) ∙ h
  strengthened_kinds es (plan.Filter c p) ks h g =
      let a = filter_parts kinds ks c p h in
      filtered_by_kinds ks (staying c) (strengthened_by (es ++ movable c) p)
      (strengthened_kinds (es ++ movable c) p ks a.0 (all_append (IsTest ks) es (movable c) g (tests_movable ks c a.1)))
      (flags_staying ks c a.1)
  strengthened_kinds es (plan.Join c p q) ks h g =
      let a = join_parts kinds ks c p q h in
      let n = plan_width p in
      let at : n ≡ length a.0 = sym (width_is kinds p a.0 a.2) in
      let js = a.0 ++ a.1 in
      let tests = es ++ movable c in
      let own = all_append (IsTest js) es (movable c) (subst (λ ms. Tests ms es) (sym a.5) g) (tests_movable js c a.4) in
      join_kinds a.0 a.1 (condition (on_both n tests ++ staying c)) (strengthened_by (on_left n tests) p) (strengthened_by (on_right n tests) q)
      (strengthened_kinds (on_left n tests) p a.0 a.2 (tests_left a.0 a.1 n at tests own))
      (strengthened_kinds (on_right n tests) q a.1 a.3 (tests_right a.0 a.1 n at tests own))
      (flag_condition js (on_both n tests ++ staying c)
      (all_append (λ e. plain_kind js e ≡ Some kind.Flag) (on_both n tests) (staying c)
      (tests_flags js (on_both n tests) (tests_both a.0 a.1 n at tests own)) (flags_staying js c a.4)))
      ∙ ap Some a.5
  strengthened_kinds es (plan.Union p q) ks h g =
      let a = union_parts kinds ks p q h in
      union_same ks p q (strengthened_by es p) (strengthened_by es q) (a.0 ∙ sym (strengthened_kinds es p ks a.0 g)) (a.1 ∙ sym (strengthened_kinds es q ks a.1 g)) h
  strengthened_kinds es (plan.Group keys aggs p) ks h g =
      let a = group_parts kinds ks keys aggs p h in
      filtered_by_kinds ks es (plan.Group keys aggs (strengthened_by [] p))
      (group_same ks a.0 keys aggs p (strengthened_by [] p) a.3 (strengthened_kinds [] p a.0 a.3 tt) h) (tests_flags ks es g)
