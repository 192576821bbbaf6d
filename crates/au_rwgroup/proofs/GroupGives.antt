-- Group by the first columns.
use Rattle.std.specs.Prelude.{ℕ, zero, suc, ◌+◌, ◌≤◌, List, [], ◌∷◌, flat_map, length, take}
use Rattle.std.specs.List.{AllByRecursion, AllZip}
use Rattle.std.proofs.Common.{arith, sym, ◌∙◌, ap}
use Rattle.std.proofs.lemmas.List.{length-take-le}
use Rattle.au_value.specs.declared.kinds.Kind.{Kind}
use Rattle.au_value.specs.Ranges.{IsRangeOf}
use Rattle.au_algebra.specs.declared.query.Agg.{Agg}
use Rattle.au_algebra.specs.Ordinary.{Rows}
use Rattle.au_algebra.specs.Bounded as bounded
use Rattle.au_algebra.specs.Bounded.{Bounded}
use Rattle.au_algebra.specs.Laws.{IsRelation}
use Rattle.au_plain.specs.Plans.{PlanTree}
use Rattle.au_encode.specs.Encode.{encode}
use Rattle.au_encode.proofs.Decoded.{cells_length}
use Rattle.au_rwgroup.specs.declared.folding.Folding.{Folding}
use Rattle.au_rwgroup.specs.Groups.{first_grouping}
use Rattle.au_rwgroup.specs.GroupPlan.{group_plan, kept_for}
use Rattle.au_rwexpr.proofs.Places.{EndsOfAll}
use Rattle.au_rwexpr.proofs.Gives.{GivesEncoded}
use Rattle.au_rwgroup.proofs.FirstRows.{all_present, first_rows}
use Rattle.au_rwgroup.proofs.GroupRows.{outputs_given}
use Rattle.au_rwgroup.proofs.KeyReading.{Keys, KeyReading, by_hulls}
use Rattle.au_rwgroup.proofs.Sharing.{fold_rows, sharing}
use Rattle.au_rwgroup.proofs.ColumnsThere.{IsOn}
use Rattle.au_rwexpr.proofs.Coded.{rl, rs, rh}

-- the first ranges stand in the same columns
pub take_there : {A X : Type 0} (l s h : X → A) (row : List A) (i m : ℕ) (xs : List X) → EndsOfAll l s h row i xs → EndsOfAll l s h row i (take m xs)
take_there l s h row i zero xs e = tt
take_there l s h row i (suc m) [] e = tt
take_there l s h row i (suc m) (x ∷ xs) e = (e.0, take_there l s h row (i + 3) m xs e.1)

-- the first ranges are of the first kinds
pub take_zip : {A B : Type 0} (Q : A → B → Type 0) (m : ℕ) (ks : List A) (xs : List B) → AllZip Q ks xs → AllZip Q (take m ks) (take m xs)
take_zip Q zero ks xs z = tt
take_zip Q (suc m) [] [] z = tt
take_zip Q (suc m) [] (x ∷ xs) z = elim z [ ]
take_zip Q (suc m) (k ∷ ks) [] z = elim z [ ]
take_zip Q (suc m) (k ∷ ks) (x ∷ xs) z = (z.0, take_zip Q m ks xs z.1)

-- the first cells are keys
abbrev pub first_keys : (kinds : List Kind) (m : ℕ) → m ≤ length kinds → Keys
first_keys kinds m fits = record {
  ks = kinds;
  k = m;
  keys = take m;
  long = λ r v. length-take-le m r.cells (omega (arith, fits, cells_length IsRangeOf kinds r.cells v.cells));
  shifted = λ r v row i e. take_there rl rs rh row i m r.cells e;
  kks = take m kinds;
  kinded = λ r v. take_zip IsRangeOf m kinds r.cells v.cells;
}

-- with their hulls for boxes
abbrev pub first_cells : (kinds : List Kind) (m : ℕ) → m ≤ length kinds → KeyReading
first_cells kinds m fits = by_hulls (first_keys kinds m fits)

-- Group's plan gives the rows of the bounded operator, if each aggregate is over a column that is there.
pub group_gives : (how : Folding) (ks : List Kind) (m : ℕ) → m ≤ length ks → (aggs : List Agg) → AllByRecursion (IsOn (length ks)) aggs → (ts : List Rows) (p : PlanTree) (rows : Bounded) → IsRelation ks rows → GivesEncoded ts p rows → GivesEncoded ts (group_plan how (length ks) m aggs p) (bounded.group m aggs rows)
group_gives how ks m fits aggs there ts p rows ok g =
    let by = first_cells ks m fits in
    outputs_given by aggs there rows ok (sharing by rows ok how) how ts (first_grouping (length ks) m (flat_map kept_for aggs) p) p
    (first_rows by ts p (flat_map kept_for aggs) rows ok g)
    (fold_rows by rows ok how aggs there ts p g)
    ∙ ap encode (sym (all_present by aggs rows ok))
