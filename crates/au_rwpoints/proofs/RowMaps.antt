-- A plan that adds one number to each row and keeps some places gives the rows that a function makes.
use Rattle.std.specs.Prelude.{◌≡◌, ℕ, List, [], ◌∷◌, ◌++◌, flat_map, map, pos, Some, ℤ}
use Rattle.std.specs.List.{AllByRecursion}
use Rattle.std.proofs.Common.{sym, ◌∙◌, ap, subst}
use Rattle.std.proofs.lemmas.List.{append-nil}
use Rattle.au_value.specs.declared.kinds.Kind.{Kind}
use Rattle.au_value.specs.declared.kinds.Kind.TheVariants as kind
use Rattle.au_value.specs.declared.value.Value.TheVariants.{Int}
use Rattle.au_expr.specs.Figures.{Fit}
use Rattle.au_expr.proofs.Fits.{fit_both}
use Rattle.au_algebra.specs.Bounded.{RangeRow, Bounded}
use Rattle.au_algebra.specs.Laws.{IsRangeRow, IsRelation}
use Rattle.au_algebra.specs.Ordinary.{Rows}
use Rattle.au_plain.specs.Meaning.{extended, kept, plain_rows}
use Rattle.au_plain.specs.PTerms.{PTerm, plain_value}
use Rattle.au_plain.specs.PlanKinds.{FitTables, plain_kind}
use Rattle.au_plain.specs.PlanNumbers.{plan_numbers, term_numbers}
use Rattle.au_plain.specs.Plans.{PlanTree, Extend, Keep}
use Rattle.au_encode.specs.Encode.{encode, encode_row, encoded_kinds}
use Rattle.au_encode.specs.Gives.{GivesRelation}
use Rattle.au_encode.proofs.HeldCells.{AllFitRows, FitRow, gives_held}
use Rattle.au_rwexpr.proofs.Allowed.{fits_now}
use Rattle.au_rwexpr.proofs.Careful.{Fits}
use Rattle.au_rwexpr.proofs.Gives.{kinds-extend, kinds-keep, map-map, map_valid}
use Rattle.au_rwexpr.proofs.OnValues.{Has}
use Rattle.au_rwexpr.proofs.Picks.{Picks, kept_are}
use Rattle.au_rwexpr.proofs.PlanNumbersOf.{fit_all}

-- the numbers of a term on each row
pub terms_fit : (e : PTerm) (P : RangeRow → Type 0) (fits : (r : RangeRow) → P r → FitRow r → Fits (encode_row r) e) (rows : Bounded) → AllByRecursion P rows → AllFitRows rows → AllByRecursion (λ row. Fit (term_numbers e row)) (encode rows)
terms_fit e P fits [] ok held = tt
terms_fit e P fits (r ∷ rows) ok held = (fits_now (encode_row r) e (fits r ok.0 held.0), terms_fit e P fits rows ok.1 held.1)

module _
    (ks js : List Kind) (f : RangeRow → RangeRow) (e : PTerm) (x : RangeRow → ℕ) (places : List ℕ)
    (valid : (r : RangeRow) → IsRangeRow ks r → IsRangeRow js (f r))
    (has : (r : RangeRow) → IsRangeRow ks r → Has (encode_row r) e (Int (pos (x r))))
    (picks : (r : RangeRow) → IsRangeRow ks r → Picks (encode_row r ++ (Int (pos (x r)) ∷ [])) places (encode_row (f r)))
    (is_number : plain_kind (encoded_kinds ks) e ≡ Some kind.Int)
    (kind_picks : Picks (encoded_kinds ks ++ (kind.Int ∷ [])) places (encoded_kinds js))
    (fits : (r : RangeRow) → IsRangeRow ks r → FitRow r → Fits (encode_row r) e)
  where
    each : (r : RangeRow) → IsRangeRow ks r → kept places (extended e (encode_row r)) ≡ encode_row (f r)
    each r v =
        let now : plain_value e (encode_row r) ≡ Int (pos (x r)) = ap (plain_value e) (sym (append-nil (encode_row r))) ∙ has r v [] in
        ap (λ y. kept places (encode_row r ++ (y ∷ []))) now
        ∙ kept_are (encode_row r ++ (Int (pos (x r)) ∷ [])) places (encode_row (f r)) (picks r v)

    pub all_valid : (rows : Bounded) → IsRelation ks rows → IsRelation js (map f rows)
    all_valid [] ok = tt
    all_valid (r ∷ rows) ok = (valid r ok.0, all_valid rows ok.1)

    pub map_gives :
        (kinds : List (List Kind)) (tables : List Rows) (p : PlanTree) (rows : Bounded) (ns : List ℤ) →
        FitTables tables → GivesRelation kinds tables p ks rows ns → GivesRelation kinds tables (Keep places (Extend e p)) js (map f rows) ns
    map_gives kinds tables p rows ns tables_fit g = record {
      typed =
          kinds-keep kinds places (Extend e p) (encoded_kinds ks ++ (kind.Int ∷ [])) (encoded_kinds js)
          (kinds-extend kinds e p (encoded_kinds ks) kind.Int g.typed is_number) kind_picks;
      relation = all_valid rows g.relation;
      encoded =
          ap (λ q. map (kept places) (map (extended e) q)) g.encoded
          ∙ map-map (extended e) (kept places) (encode rows)
          ∙ map-map encode_row (λ row. kept places (extended e row)) rows
          ∙ map_valid (IsRangeRow ks) (λ r. kept places (extended e (encode_row r))) (λ r. encode_row (f r)) rows g.relation each
          ∙ sym (map-map f encode_row rows);
      fit = λ fn.
          (let held = gives_held kinds tables p ks rows ns g tables_fit fn in
          let all = terms_fit e (IsRangeRow ks) fits rows g.relation held in
          fit_both (plan_numbers p tables) (flat_map (term_numbers e) (plain_rows p tables)) (g.fit fn)
          (subst (λ q. Fit (flat_map (term_numbers e) q)) (sym g.encoded) (fit_all (term_numbers e) (encode rows) all)));
    }
