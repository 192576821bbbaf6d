-- Each operator of a plan over inputs that physical plans stand for: the same operator over these stands for it.
use Rattle.std.specs.Prelude.{◌≡◌, ℕ, ◌++◌, IsTrue, List, [], ◌∷◌, map, flat_map, Option, Some, None, is_some, option_and_then}
use Rattle.std.proofs.Common.{refl, sym, ◌∙◌, ap}
use Rattle.std.proofs.lemmas.Bool.{true≢false}
use Rattle.au_value.specs.declared.kinds.Kind.{Kind}
use Rattle.au_value.specs.declared.kinds.Kind.TheVariants.{Flag}
use Rattle.au_expr.specs.Kinds.{is_kind}
use Rattle.au_expr.proofs.Fits.{fit_both, fit_parts}
use Rattle.au_algebra.specs.Ordinary.{Rows}
use Rattle.au_algebra.specs.Typing.{all_kinds, kinds_if, same_kinds}
use Rattle.au_algebra.proofs.Items.{and_then_is}
use Rattle.au_algebra.proofs.Occurring.{same_map}
use Rattle.au_plain.specs.declared.plan.PAgg.{PAgg}
use Rattle.au_plain.specs.Meaning.{extended, kept, passes, plain_rows}
use Rattle.au_plain.specs.PTerms.{PTerm}
use Rattle.au_plain.specs.PlanKinds.{IsTypedFor, kept_kinds, plain_agg_kind, plain_kind, plan_kinds}
use Rattle.au_plain.specs.PlanNumbers.{group_numbers, plan_numbers, term_numbers}
use Rattle.au_plain.specs.Plans.{PlanTree}
use Rattle.au_plain.specs.Plans as plan
use Rattle.au_physical.specs.Physicals.{PhysicalTree}
use Rattle.au_physical.specs.Physicals as physical
use Rattle.au_physical.specs.PhysicalKinds.{physical_kinds}
use Rattle.au_physical.specs.PhysicalMeaning.{physical_rows}
use Rattle.au_physical.specs.PhysicalNumbers.{physical_numbers}
use Rattle.au_plan.specs.Implements.{Implements}
use Rattle.au_plan.proofs.Groups.{same_group, same_group_fit}
use Rattle.au_plan.proofs.UpToOrder.{same_append, same_filter, same_fit}

-- ---- inputs of what is typed

-- a step that gave something had something to begin with
pub before : {A B : Type 0} (f : A → Option B) (o : Option A) → IsTrue (is_some (option_and_then f o)) → IsTrue (is_some o)
before f None h = h
before f (Some x) h = refl

-- and so had one that began with two
pub before_second : {A B C : Type 0} (f : A → B → Option C) (o : Option A) (u : Option B) → IsTrue (is_some (option_and_then (λ x. option_and_then (f x) u) o)) → IsTrue (is_some u)
before_second f None u h = absurd (true≢false (sym h))
before_second f (Some x) u h = before (f x) u h

-- the same step from the same kinds
pub one_typed : (f : List Kind → Option (List Kind)) (o u : Option (List Kind)) (ks : List Kind) → ((js : List Kind) → o ≡ Some js → u ≡ Some js) → option_and_then f o ≡ Some ks → option_and_then f u ≡ Some ks
one_typed f o u ks same h = let p = and_then_is f o ks h in ap (option_and_then f) (same p.0 p.1) ∙ p.2

-- a step from the kinds of two inputs, which goes on by another that allows no less
pub two_typed :
    (f g : List Kind → List Kind → Option (List Kind)) (o u l r : Option (List Kind)) (ks : List Kind) →
    ((js : List Kind) → o ≡ Some js → l ≡ Some js) → ((js : List Kind) → u ≡ Some js → r ≡ Some js) →
    ((js hs : List Kind) → o ≡ Some js → f js hs ≡ Some ks → g js hs ≡ Some ks) →
    option_and_then (λ js. option_and_then (f js) u) o ≡ Some ks → option_and_then (λ js. option_and_then (g js) r) l ≡ Some ks
two_typed f g o u l r ks left right on h =
    let p = and_then_is _ o ks h in
    let q = and_then_is (f p.0) u ks p.2 in
    ap (option_and_then (λ js. option_and_then (g js) r)) (left p.0 p.1) ∙ ap (option_and_then (g p.0)) (right q.0 q.1) ∙ on p.0 q.0 p.1 q.2

-- ---- operators

-- the rows of a table
pub scan_implements : (t w : ℕ) → Implements (plan.Scan t w) (physical.Scan t w)
scan_implements t w = record { typed = λ kinds ks h. h; rows = λ ts h v. refl; numbers = λ ts fit h f. f }

-- rows that are written out
pub rows_implements : (w : ℕ) (list : Rows) → Implements (plan.Rows w list) (physical.Rows w list)
rows_implements w list = record { typed = λ kinds ks h. h; rows = λ ts h v. refl; numbers = λ ts fit h f. f }

module _ (p : PlanTree) (q : PhysicalTree) (same : Implements p q) where
  -- a column more
  pub extend_implements : (e : PTerm) → Implements (plan.Extend e p) (physical.Extend e q)
  extend_implements e =
      let input : (ts : List Rows) → IsTypedFor ts (plan.Extend e p) → IsTypedFor ts p =
      λ ts h. record { kinds = h.kinds; tables = h.tables; typed = before _ (plan_kinds h.kinds p) h.typed } in
      record {
        typed = λ kinds ks h. one_typed (λ js. option_and_then (λ k. Some (js ++ k ∷ [])) (plain_kind js e)) (plan_kinds kinds p) (physical_kinds kinds q) ks (same.typed kinds) h;
        rows = λ ts h. same_map (extended e) (physical_rows q ts) (plain_rows p ts) (same.rows ts (input ts h));
        numbers = λ ts fit h f.
            let n = fit_parts (plan_numbers p ts) (flat_map (term_numbers e) (plain_rows p ts)) f in
            fit_both (physical_numbers q ts) (flat_map (term_numbers e) (physical_rows q ts)) (same.numbers ts fit (input ts h) n.0)
            (same_fit (term_numbers e) (physical_rows q ts) (plain_rows p ts) (same.rows ts (input ts h)) n.1);
      }

  -- some of the columns
  pub keep_implements : (places : List ℕ) → Implements (plan.Keep places p) (physical.Keep places q)
  keep_implements places =
      let input : (ts : List Rows) → IsTypedFor ts (plan.Keep places p) → IsTypedFor ts p =
      λ ts h. record { kinds = h.kinds; tables = h.tables; typed = before _ (plan_kinds h.kinds p) h.typed } in
      record {
        typed = λ kinds ks h. one_typed (λ js. kept_kinds places js) (plan_kinds kinds p) (physical_kinds kinds q) ks (same.typed kinds) h;
        rows = λ ts h. same_map (kept places) (physical_rows q ts) (plain_rows p ts) (same.rows ts (input ts h));
        numbers = λ ts fit h f. same.numbers ts fit (input ts h) f;
      }

  -- the rows that pass
  pub filter_implements : (e : PTerm) → Implements (plan.Filter e p) (physical.Filter e q)
  filter_implements e =
      let input : (ts : List Rows) → IsTypedFor ts (plan.Filter e p) → IsTypedFor ts p =
      λ ts h. record { kinds = h.kinds; tables = h.tables; typed = before _ (plan_kinds h.kinds p) h.typed } in
      record {
        typed = λ kinds ks h. one_typed (λ js. kinds_if (is_kind Flag (plain_kind js e)) js) (plan_kinds kinds p) (physical_kinds kinds q) ks (same.typed kinds) h;
        rows = λ ts h. same_filter (passes e) (physical_rows q ts) (plain_rows p ts) (same.rows ts (input ts h));
        numbers = λ ts fit h f.
            let n = fit_parts (plan_numbers p ts) (flat_map (term_numbers e) (plain_rows p ts)) f in
            fit_both (physical_numbers q ts) (flat_map (term_numbers e) (physical_rows q ts)) (same.numbers ts fit (input ts h) n.0)
            (same_fit (term_numbers e) (physical_rows q ts) (plain_rows p ts) (same.rows ts (input ts h)) n.1);
      }

  -- a grouping
  pub group_implements : (keys : List ℕ) (aggs : List PAgg) → Implements (plan.Group keys aggs p) (physical.Group keys aggs q)
  group_implements keys aggs =
      let input : (ts : List Rows) → IsTypedFor ts (plan.Group keys aggs p) → IsTypedFor ts p =
      λ ts h. record { kinds = h.kinds; tables = h.tables; typed = before _ (plan_kinds h.kinds p) h.typed } in
      record {
        typed = λ kinds ks h. one_typed (λ js. option_and_then (λ hs. option_and_then (λ more. Some (hs ++ more)) (all_kinds (map (plain_agg_kind js) aggs))) (kept_kinds keys js)) (plan_kinds kinds p) (physical_kinds kinds q) ks (same.typed kinds) h;
        rows = λ ts h. same_group keys aggs (physical_rows q ts) (plain_rows p ts) (same.rows ts (input ts h));
        numbers = λ ts fit h f.
            let n = fit_parts (plan_numbers p ts) (group_numbers keys aggs (plain_rows p ts)) f in
            fit_both (physical_numbers q ts) (group_numbers keys aggs (physical_rows q ts)) (same.numbers ts fit (input ts h) n.0)
            (same_group_fit keys aggs (physical_rows q ts) (plain_rows p ts) (same.rows ts (input ts h)) n.1);
      }

-- the rows of two plans, one after the other
pub union_implements : (p q : PlanTree) (l r : PhysicalTree) → Implements p l → Implements q r → Implements (plan.Union p q) (physical.Union l r)
union_implements p q l r left right =
    let first : (ts : List Rows) → IsTypedFor ts (plan.Union p q) → IsTypedFor ts p =
    λ ts h. record { kinds = h.kinds; tables = h.tables; typed = before _ (plan_kinds h.kinds p) h.typed } in
    let second : (ts : List Rows) → IsTypedFor ts (plan.Union p q) → IsTypedFor ts q =
    λ ts h. record { kinds = h.kinds; tables = h.tables; typed = before_second _ (plan_kinds h.kinds p) (plan_kinds h.kinds q) h.typed } in
    let step : List Kind → List Kind → Option (List Kind) = λ js hs. kinds_if (same_kinds js hs) js in
    record {
      typed = λ kinds ks h. two_typed step step (plan_kinds kinds p) (plan_kinds kinds q) (physical_kinds kinds l) (physical_kinds kinds r) ks (left.typed kinds) (right.typed kinds) (λ js hs e t. t) h;
      rows = λ ts h. same_append (physical_rows l ts) (physical_rows r ts) (plain_rows p ts) (plain_rows q ts) (left.rows ts (first ts h)) (right.rows ts (second ts h));
      numbers = λ ts fit h f.
          let n = fit_parts (plan_numbers p ts) (plan_numbers q ts) f in
          fit_both (physical_numbers l ts) (physical_numbers r ts) (left.numbers ts fit (first ts h) n.0) (right.numbers ts fit (second ts h) n.1);
    }
