-- What the plans of the operators add to the numbers of their inputs.
use Rattle.std.specs.Prelude.{◌≡◌, ℕ, ◌+◌, ◌*◌, List, [], ◌∷◌, ◌++◌, length}
use Rattle.std.proofs.Common.{refl, sym, ◌∙◌, ap}
use Rattle.au_expr.specs.Terms.{Term}
use Rattle.au_plain.specs.Plans.{PlanTree, Scan, Keep, Filter, extend_all}
use Rattle.au_plain.specs.PlanNumbers.{plan_numbers}
use Rattle.au_encode.specs.Encode.{encode, encoded_kinds}
use Rattle.au_rwexpr.specs.Cells.{cell_places, three_places}
use Rattle.au_rwexpr.specs.Flatten.{before, flatten, flatten_items, item_places, hi}
use Rattle.au_rwexpr.proofs.Filled.{filled, filled-extend_all, one_filled, one_adds, two_add, scan_gives}
use Rattle.au_rwcore.specs.Adds.{AddsBySelect, AddsByProject, AddsByProduct, AddsByUnion}
use Rattle.au_rwcore.specs.Core.{select_plan, project_plan, product_plan, union_plan, weighed}
use Rattle.au_rwcore.proofs.Laws.{select_gives, project_gives, product_gives}

-- ---- Scans in the plans of the operators

select_filled : (s : ℕ → PlanTree) (c : ℕ) (e : Term) (p : PlanTree) → filled s (select_plan c e p) ≡ select_plan c e (filled s p)
select_filled s c e p =
    let n = 3 * c + 3 in
    let i = n + before e in
    let m = n + (before e + 3) in
    ap (λ q. Keep (cell_places 0 c ++ (m ∷ (m + 1) ∷ (3 * c + 2) ∷ [])) (extend_all (weighed i (3 * c)) (Filter (hi i) q))) (filled-extend_all s (flatten n e) p)

project_filled : (s : ℕ → PlanTree) (c : ℕ) (items : List Term) (p : PlanTree) → filled s (project_plan c items p) ≡ project_plan c items (filled s p)
project_filled s c items p =
    let n = 3 * c + 3 in
    ap (Keep (item_places n items ++ three_places (3 * c))) (filled-extend_all s (flatten_items n items) p)

-- ---- the laws

module _ (c : ℕ) (e : Term) (of p : PlanTree) (is : p ≡ select_plan c e of) where
  pub select_adds : AddsBySelect c e of p
  select_adds tables ks rows long typed g f =
      let scan = Scan 0 (3 * length ks + 3) in
      let over = select_plan c e scan in
      let tk = encoded_kinds ks ∷ [] in
      let ts = encode rows ∷ [] in
      let gives = select_gives c e scan over refl tk ts ks rows [] long typed (scan_gives tk ts 0 ks rows [] refl refl g.relation) in
      one_adds tables of (encode rows) g.encoded over p (select_filled (one_filled of) c e scan ∙ sym is) (gives.fit f)

module _ (c : ℕ) (items : List Term) (of p : PlanTree) (is : p ≡ project_plan c items of) where
  pub project_adds : AddsByProject c items of p
  project_adds tables ks js rows long typed g f =
      let scan = Scan 0 (3 * length ks + 3) in
      let over = project_plan c items scan in
      let tk = encoded_kinds ks ∷ [] in
      let ts = encode rows ∷ [] in
      let gives = project_gives c items scan over refl tk ts ks js rows [] long typed (scan_gives tk ts 0 ks rows [] refl refl g.relation) in
      one_adds tables of (encode rows) g.encoded over p (project_filled (one_filled of) c items scan ∙ sym is) (gives.fit f)

module _ (c d : ℕ) (left right p : PlanTree) (is : p ≡ product_plan c d left right) where
  pub product_adds : AddsByProduct c d left right p
  product_adds tables ks js xs ys long wide g h f =
      let first = Scan 0 (3 * length ks + 3) in
      let second = Scan 1 (3 * length js + 3) in
      let over = product_plan c d first second in
      let tk = encoded_kinds ks ∷ encoded_kinds js ∷ [] in
      let ts = encode xs ∷ encode ys ∷ [] in
      let gives =
      product_gives c d first second over refl tk ts ks js xs ys [] [] long wide (scan_gives tk ts 0 ks xs [] refl refl g.relation)
      (scan_gives tk ts 1 js ys [] refl refl h.relation) in
      two_add tables left right (encode xs) (encode ys) g.encoded h.encoded over p (sym is) (gives.fit f)

module _ (left right p : PlanTree) (is : p ≡ union_plan left right) where
  pub union_adds : AddsByUnion left right p
  union_adds tables = ap (λ q. plan_numbers q tables) is
