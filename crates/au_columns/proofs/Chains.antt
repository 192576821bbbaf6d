-- The operators of a chain, one after the other, leave the rows of the chain.
use Rattle.std.specs.Prelude.{◌≡◌, ◌&&◌, ◌<◌, ◌+◌, ℕ, zero, suc, Bool, true, false, List, [], ◌∷◌, ◌++◌, length, drop, flat_map, map, filter, unwrap_or, slice_get, Result, Ok, Err, get_or}
use Rattle.std.specs.Borrow.{Bor}
use Rattle.std.proofs.Common.{refl, sym, ap, ◌∙◌, subst, arith, append_assoc, append-nil}
use Rattle.std.proofs.lemmas.List.{drop_all, length-map}
use Rattle.std.proofs.lemmas.Bool.{eqb-true, true≢false}
use Rattle.std.proofs.lemmas.List.Folds.{list_all-append}
use Rattle.au_value.specs.Numeral.{is_i128}
use Rattle.au_expr.specs.declared.fault.EvalFault.{EvalFault}
use Rattle.au_expr.specs.Figures.{fit}
use Rattle.au_physical.specs.Chains.{is_chain}
use Rattle.au_physical.specs.declared.physical.Physical.{Physical}
use Rattle.au_physical.specs.Physicals.{PhysicalTree, physical_tree}
use Rattle.au_physical.specs.Physicals as physical
use Rattle.au_codes.specs.Codes.{CellRows}
use Rattle.au_codes.specs.CellMeaning.{cells_extended, cells_kept, cells_pass, plan_cells}
use Rattle.au_codes.specs.CellNumbers.{cell_numbers, plan_cell_numbers}
use Rattle.au_columns.specs.Chains.{Ran, WorkedAll, all_cells, all_fit, below, downward, lent_trees, top_cells, top_numbers}

-- ---- all operators are the chain

abbrev cells_in : CellRows → ℕ → CellRows
cells_in rows t = unwrap_or (slice_get (rows ∷ []) t) []

pub chain_cells : (p : PhysicalTree) (rows : CellRows) → is_chain p ≡ true → all_cells (downward p) rows ≡ plan_cells p (rows ∷ [])
chain_cells (physical.Scan t w) rows is = ap (cells_in rows) (sym (eqb-true t 0 is))
chain_cells (physical.Rows w list) rows is = absurd (true≢false (sym is))
chain_cells (physical.Extend e p) rows is = ap (map (cells_extended e)) (chain_cells p rows is)
chain_cells (physical.Keep places p) rows is = ap (map (cells_kept places)) (chain_cells p rows is)
chain_cells (physical.Filter e p) rows is = ap (filter (cells_pass e)) (chain_cells p rows is)
chain_cells (physical.Nested e p q) rows is = absurd (true≢false (sym is))
chain_cells (physical.Hash places e p q) rows is = absurd (true≢false (sym is))
chain_cells (physical.Overlap at e p q) rows is = absurd (true≢false (sym is))
chain_cells (physical.Union p q) rows is = absurd (true≢false (sym is))
chain_cells (physical.Group keys aggs p) rows is = absurd (true≢false (sym is))

and_true : (b : Bool) → (b && true) ≡ b
and_true true = refl
and_true false = refl

pub chain_fit : (p : PhysicalTree) (rows : CellRows) → is_chain p ≡ true → all_fit (downward p) rows ≡ fit (plan_cell_numbers p (rows ∷ []))
chain_fit (physical.Scan t w) rows is = refl
chain_fit (physical.Rows w list) rows is = absurd (true≢false (sym is))
chain_fit (physical.Extend e p) rows is =
    (λ i. chain_fit p rows is i && fit (flat_map (cell_numbers e) (chain_cells p rows is i)))
    ∙ sym (list_all-append is_i128 (plan_cell_numbers p (rows ∷ [])) (flat_map (cell_numbers e) (plan_cells p (rows ∷ []))))
chain_fit (physical.Keep places p) rows is = and_true (all_fit (downward p) rows) ∙ chain_fit p rows is
chain_fit (physical.Filter e p) rows is =
    (λ i. chain_fit p rows is i && fit (flat_map (cell_numbers e) (chain_cells p rows is i)))
    ∙ sym (list_all-append is_i128 (plan_cell_numbers p (rows ∷ [])) (flat_map (cell_numbers e) (plan_cells p (rows ∷ []))))
chain_fit (physical.Nested e p q) rows is = absurd (true≢false (sym is))
chain_fit (physical.Hash places e p q) rows is = absurd (true≢false (sym is))
chain_fit (physical.Overlap at e p q) rows is = absurd (true≢false (sym is))
chain_fit (physical.Union p q) rows is = absurd (true≢false (sym is))
chain_fit (physical.Group keys aggs p) rows is = absurd (true≢false (sym is))

pub chain_ran : (p : PhysicalTree) (ps : List PhysicalTree) (rows : CellRows) (result : Result CellRows EvalFault) → is_chain p ≡ true → ps ≡ downward p → WorkedAll ps rows result → Ran p rows result
chain_ran p ps rows (Ok made) is all w = (
  w.0 ∙ (ap (λ os. all_cells os rows) all ∙ chain_cells p rows is),
  sym (chain_fit p rows is) ∙ (ap (λ os. all_fit os rows) (sym all) ∙ w.1),
)
chain_ran p ps rows (Err f) is all w = λ e. sym (chain_fit p rows is) ∙ (ap (λ os. all_fit os rows) (sym all) ∙ w e)

-- ---- one operator more

-- the rows that those behind a place leave, and whether their numbers fit
pub record Taken (ps : List PhysicalTree) (left : ℕ) (rows made : CellRows) : Type 0 where
  pub rows_are : made ≡ all_cells (drop left ps) rows
  pub fits : all_fit (drop left ps) rows ≡ true

-- before the first of them nothing is taken, and at the front all are
pub none_taken : (ops : List (Bor Physical)) (n : ℕ) (rows : CellRows) → n ≡ length ops → Taken (lent_trees ops) n rows rows
none_taken ops n rows all =
    let long : length (lent_trees ops) ≡ length ops = length-map ops (λ (p : Bor Physical). physical_tree p.now) in
    let none : drop n (lent_trees ops) ≡ [] = drop_all n (lent_trees ops) (omega (arith, long, all)) in
    record { rows_are = ap (λ os. all_cells os rows) (sym none); fits = ap (λ os. all_fit os rows) none }

pub all_taken : (ps : List PhysicalTree) (n : ℕ) (rows made : CellRows) → n ≡ 0 → Taken ps n rows made → (made ≡ all_cells ps rows) × (all_fit ps rows ≡ true)
all_taken ps n rows made none t = let all = subst (λ k. Taken ps k rows made) none t in (all.rows_are, all.fits)

-- one that leaves the range is one of all
leaves_later : (ps : List PhysicalTree) (i : ℕ) (rows : CellRows) → all_fit (drop i ps) rows ≡ false → all_fit ps rows ≡ false
leaves_later ps zero rows out = out
leaves_later [] (suc i) rows out = out
leaves_later (p ∷ ps) (suc i) rows out = ap (λ b. b && fit (top_numbers p (all_cells ps rows))) (leaves_later ps i rows out)

neither : (b : Bool) → (b && false) ≡ false
neither true = refl
neither false = refl

module _ (ps : List PhysicalTree) (n i : ℕ) (next : n ≡ i + 1) (p : PhysicalTree) (at : drop i ps ≡ p ∷ drop (i + 1) ps) (rows before : CellRows) (t : Taken ps n rows before) where
  behind : Taken ps (i + 1) rows before
  behind = subst (λ k. Taken ps k rows before) next t

  -- the operator works on what those behind it leave
  same_numbers : fit (top_numbers p (all_cells (drop (i + 1) ps) rows)) ≡ fit (top_numbers p before)
  same_numbers = ap (λ rs. fit (top_numbers p rs)) (sym behind.rows_are)

  pub next_taken : (made : CellRows) → made ≡ top_cells p before → fit (top_numbers p before) ≡ true → Taken ps i rows made
  next_taken made is fits = record {
    rows_are = is ∙ (ap (top_cells p) behind.rows_are ∙ ap (λ os. all_cells os rows) (sym at));
    fits = ap (λ os. all_fit os rows) at ∙ (λ j. behind.fits j && (same_numbers ∙ fits) j);
  }

  pub next_leaves : fit (top_numbers p before) ≡ false → all_fit ps rows ≡ false
  next_leaves out =
      leaves_later ps i rows
      (ap (λ os. all_fit os rows) at ∙ (ap (λ b. all_fit (drop (i + 1) ps) rows && b) (same_numbers ∙ out) ∙ neither (all_fit (drop (i + 1) ps) rows)))

-- ---- one operator further down

down_step : (p q : PhysicalTree) → below p ≡ q ∷ [] → downward p ≡ p ∷ downward q
down_step (physical.Scan t w) q is = cc
down_step (physical.Rows w list) q is = cc
down_step (physical.Extend e p) q is = let same : p ≡ q = cc in ap (λ r. physical.Extend e p ∷ downward r) same
down_step (physical.Keep places p) q is = let same : p ≡ q = cc in ap (λ r. physical.Keep places p ∷ downward r) same
down_step (physical.Filter e p) q is = let same : p ≡ q = cc in ap (λ r. physical.Filter e p ∷ downward r) same
down_step (physical.Nested e p r) q is = cc
down_step (physical.Hash places e p r) q is = cc
down_step (physical.Overlap at e p r) q is = cc
down_step (physical.Union p r) q is = cc
down_step (physical.Group keys aggs p) q is = cc

down_end : (p : PhysicalTree) → below p ≡ [] → downward p ≡ []
down_end (physical.Scan t w) is = refl
down_end (physical.Rows w list) is = refl
down_end (physical.Extend e p) is = cc
down_end (physical.Keep places p) is = cc
down_end (physical.Filter e p) is = cc
down_end (physical.Nested e p r) is = refl
down_end (physical.Hash places e p r) is = refl
down_end (physical.Overlap at e p r) is = refl
down_end (physical.Union p r) is = refl
down_end (physical.Group keys aggs p) is = refl

pub next_smaller : (p q : PhysicalTree) → below p ≡ q ∷ [] → length (downward q) < length (downward p)
next_smaller p q is = let long : length (downward p) ≡ suc (length (downward q)) = ap length (down_step p q is) in omega (arith, long)

pub next_down : (all ops more : List PhysicalTree) (p q : PhysicalTree) → below p ≡ q ∷ [] → more ≡ ops ++ p ∷ [] → ops ++ downward p ≡ all → more ++ downward q ≡ all
next_down all ops more p q is pushed h =
    ap (λ (l : List PhysicalTree). l ++ downward q) pushed
    ∙ (append_assoc ops (p ∷ []) (downward q)
    ∙ (ap (λ (l : List PhysicalTree). ops ++ l) (sym (down_step p q is)) ∙ h))

pub all_down : (all ops : List PhysicalTree) (p : PhysicalTree) → below p ≡ [] → ops ++ downward p ≡ all → ops ≡ all
all_down all ops p is h = sym (append-nil ops) ∙ (ap (λ (l : List PhysicalTree). ops ++ l) (sym (down_end p is)) ∙ h)

-- the operator at a place
pub tree_at : (ops : List (Bor Physical)) (i : ℕ) (p : Bor Physical) → i < length ops → p ≡ get_or ops i p → drop i (lent_trees ops) ≡ physical_tree p.now ∷ drop (i + 1) (lent_trees ops)
tree_at [] i p below is = let never : ⊥ = omega (arith, below) in absurd never
tree_at (o ∷ ops) zero p below is = ap (λ (r : Bor Physical). physical_tree r.now ∷ lent_trees ops) (sym is)
tree_at (o ∷ ops) (suc i) p below is =
    let behind : suc (i + 1) ≡ suc i + 1 = omega arith in
    tree_at ops i p (omega (arith, below)) is ∙ ap (λ k. physical_tree p.now ∷ drop k (lent_trees (o ∷ ops))) behind
