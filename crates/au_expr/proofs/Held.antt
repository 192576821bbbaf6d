-- Rows of ranges that hold rows of values, by their kinds.
use Rattle.std.specs.Prelude.{◌≡◌, true, List, [], ◌∷◌}
use Rattle.std.specs.List.{AllZip}
use Rattle.std.proofs.Common.{sym, ◌∙◌}
use Rattle.std.proofs.lemmas.Bool.{and_parts, and_from, true≢false}
use Rattle.au_value.specs.declared.value.Value.{Value}
use Rattle.au_value.specs.declared.kinds.Kind.{Kind}
use Rattle.au_value.specs.Order.{kind_of}
use Rattle.au_value.specs.Ranges.{Span, all_hold, guesses, IsRangeOf}
use Rattle.au_value.proofs.OrderLaws.{kind_between}
use Rattle.au_expr.specs.Holding.{RangesHoldValues}
use Rattle.au_expr.specs.Related.{RelatedRows}
use Rattle.au_expr.proofs.Kept.{guesses_itself, range_from}
use Rattle.au_expr.proofs.Within.{Within, GuessIs, range_holds, range_guesses}

-- values that ranges of some kinds hold lie within them
pub cells_within : (ks : List Kind) (rs : List Span) (vs : List Value) → AllZip IsRangeOf ks rs → all_hold rs vs ≡ true → RelatedRows Within ks rs vs
cells_within [] (r ∷ rs) vs z h = elim z [ ]
cells_within (k ∷ ks) [] vs z h = elim z [ ]
cells_within [] [] [] z h = tt
cells_within [] [] (v ∷ vs) z h = absurd (true≢false (sym h))
cells_within (k ∷ ks) (r ∷ rs) [] z h = absurd (true≢false (sym h))
cells_within (k ∷ ks) (r ∷ rs) (v ∷ vs) z h =
    let p = and_parts _ _ h in
    let q = and_parts _ _ p.0 in
    let lo : kind_of r.lo ≡ k = z.0.range.lo_kind ∙ z.0.kind in
    let hi : kind_of r.hi ≡ k = z.0.range.hi_kind ∙ z.0.kind in
    (record { lo_kind = lo; hi_kind = hi; kind = kind_between k r.lo r.hi v lo hi q.0 q.1; lo = q.0; hi = q.1 }, cells_within ks rs vs z.1 p.1)

-- ranges of some kinds guess their guesses
pub cells_guess : (ks : List Kind) (rs : List Span) → AllZip IsRangeOf ks rs → RelatedRows GuessIs ks rs (guesses rs)
cells_guess [] [] z = tt
cells_guess [] (r ∷ rs) z = elim z [ ]
cells_guess (k ∷ ks) [] z = elim z [ ]
cells_guess (k ∷ ks) (r ∷ rs) z = (guesses_itself k r z.0, cells_guess ks rs z.1)

-- the range of a typed expression holds its value, and guesses its value on the guesses
pub ranges_hold_values : RangesHoldValues
ranges_hold_values = record {
  holds = λ e k ks rs vs h z g.
      let w = range_holds ks rs vs (cells_within ks rs vs z g) e k h in
      and_from _ _ w.lo w.hi;
  guesses = λ e k ks rs h z. (range_guesses ks rs (guesses rs) (cells_guess ks rs z) e k h).is;
  ranges = λ e k ks rs h z. range_from k _ (range_guesses ks rs (guesses rs) (cells_guess ks rs z) e k h).valid;
}
