-- What the columns of an expression over encoded rows hold, of which kinds they are, and that their numbers stay.
use Rattle.std.specs.Prelude.{◌≡◌, ℕ, ◌+◌, ◌*◌, ◌-◌, List, [], ◌∷◌, ◌++◌, length, map, drop, Some, option_and_then}
use Rattle.std.proofs.Common.{arith, refl, sym, ◌∙◌, ap, subst, append_assoc}
use Rattle.std.proofs.lemmas.List.{length-append}
use Rattle.au_value.specs.declared.kinds.Kind.{Kind}
use Rattle.au_value.specs.declared.kinds.Kind.TheVariants as kind
use Rattle.au_value.specs.Ranges.{IsRangeOf}
use Rattle.au_expr.specs.Terms.{Term}
use Rattle.au_expr.specs.OnRanges.{range_of}
use Rattle.au_plain.specs.declared.expr.PExpr.{PExpr}
use Rattle.au_plain.specs.PTerms.{PTerm, pterm}
use Rattle.au_plain.specs.PlanKinds.{plain_kind}
use Rattle.au_encode.specs.Encode.{encode_row, encoded_kinds}
use Rattle.au_encode.proofs.Decoded.{cells_length}
use Rattle.au_rwexpr.specs.Flatten.{before, flatten}
use Rattle.au_rwexpr.specs.Nodes.{AddsColumns, nodes}
use Rattle.au_rwexpr.specs.Adding.{grow_kinds, last_three, EndsWithRange, EndsWithKind, NumbersStay}
use Rattle.au_rwexpr.proofs.Places.{ends}
use Rattle.au_rwexpr.proofs.Columns.{add_columns}
use Rattle.au_rwexpr.proofs.Structure.{flattened, parts, added, Any, below_any}
use Rattle.au_rwexpr.proofs.OnValues.{reading, value_steps}
use Rattle.au_rwexpr.proofs.OnKinds as kinds
use Rattle.au_rwexpr.proofs.OnKinds.{kind_steps, result_is}
use Rattle.au_rwexpr.proofs.OnNumbers.{Fine, below_fine, careful_steps}
use Rattle.au_rwexpr.proofs.Careful.{careful, careful_grow}
use Rattle.au_rwexpr.proofs.Picks.{coded_long, coded_cells}
use Rattle.au_rwexpr.proofs.Coded.{rl, rs, rh, cl, cg, cm, own}
use Rattle.au_rwexpr.proofs.Gives.{grow_is}
use Rattle.au_rwexpr.proofs.Flattening.{adds_long, before_is}

drop_past : {A : Type 0} (xs ys : List A) → drop (length xs) (xs ++ ys) ≡ ys
drop_past [] ys = refl
drop_past (x ∷ xs) ys = drop_past xs ys

last_three_is : {A : Type 0} (xs : List A) (a b c : A) → last_three (xs ++ (a ∷ b ∷ c ∷ [])) ≡ a ∷ b ∷ c ∷ []
last_three_is xs a b c =
    let ys = a ∷ b ∷ c ∷ [] in
    let e : length (xs ++ ys) - 3 ≡ length xs = omega (arith, length-append xs ys) in
    ap (λ n. drop n (xs ++ ys)) e ∙ drop_past xs ys

pub grow_kinds_is : (es : List PTerm) (row : List Kind) → grow_kinds es row ≡ add_columns plain_kind es row
grow_kinds_is [] row = refl
grow_kinds_is (e ∷ es) row = λ i. option_and_then (λ k. grow_kinds_is es (row ++ k ∷ []) i) (plain_kind row e)

module _ (c : ℕ) (e : Term) where
  pub ends_with_range : EndsWithRange c e (flatten (3 * c + 3) e)
  ends_with_range ks k r en typed v =
      let n = 3 * c + 3 in
      let long = cells_length IsRangeOf ks r.cells v.cells in
      let wide = long ∙ en in
      let result : Term → _ = λ t. range_of t r.cells in
      let row = encode_row r in
      let front = parts rl rs rh reading ks r.cells result e in
      let x = range_of e r.cells in
      ap last_three
      (grow_is (flatten n e) row (row ++ added rl rs rh reading ks r.cells result e)
      (flattened rl rs rh reading ks r.cells result Any below_any (value_steps ks r.cells long) e k tt typed row n (coded_long rl rs rh cl cg cm c r.cells r.annot wide)
      (coded_cells rl rs rh cl cg cm c r.cells r.annot wide))
      ∙ sym (append_assoc row front (ends rl rs rh x)))
      ∙ last_three_is (row ++ front) x.lo x.sg x.hi

  pub ends_with_kind : EndsWithKind c e (flatten (3 * c + 3) e)
  ends_with_kind ks k en typed =
      let n = 3 * c + 3 in
      let row = encoded_kinds ks in
      let front = parts own own own plain_kind ks ks (kinds.result ks) e in (
        front,
        grow_kinds_is (flatten n e) row
            ∙ flattened own own own plain_kind ks ks (kinds.result ks) Any below_any (kind_steps ks) e k tt typed row n (coded_long own own own own own own c ks kind.Int en)
            (coded_cells own own own own own own c ks kind.Int en)
            ∙ ap (λ j. Some (row ++ (front ++ j ∷ j ∷ j ∷ []))) (result_is ks e k typed),
      )

  pub numbers_stay : NumbersStay c e (flatten (3 * c + 3) e)
  numbers_stay ks k r en typed v fine =
      let n = 3 * c + 3 in
      let long = cells_length IsRangeOf ks r.cells v.cells in
      let wide = long ∙ en in
      let result : Term → _ = λ t. range_of t r.cells in
      let row = encode_row r in
      (careful_grow (flatten n e) row (row ++ added rl rs rh careful ks r.cells result e)
      (flattened rl rs rh careful ks r.cells result (Fine ks r.cells long) (below_fine ks r.cells long) (careful_steps ks r.cells long) e k fine typed row n
      (coded_long rl rs rh cl cg cm c r.cells r.annot wide) (coded_cells rl rs rh cl cg cm c r.cells r.annot wide))).1

module _ (c w : ℕ) (e : Term) (new : List PExpr) (at : ℕ) (is : w ≡ 3 * c + 3) (x : AddsColumns w e [] new at) where
  pub columns_are : map pterm new ≡ flatten (3 * c + 3) e
  columns_are = x.columns ∙ ap (λ n. flatten n e) (let s : w + 0 ≡ 3 * c + 3 = omega (arith, is) in s)

  pub three_each : length new ≡ 3 * nodes e
  three_each = adds_long w e [] new at x ∙ (let s : 0 + (before e + 3) ≡ 3 * nodes e = omega (arith, before_is e) in s)

  pub range_last : EndsWithRange c e (map pterm new)
  range_last = subst (λ cs. EndsWithRange c e cs) (sym columns_are) (ends_with_range c e)

  pub kind_last : EndsWithKind c e (map pterm new)
  kind_last = subst (λ cs. EndsWithKind c e cs) (sym columns_are) (ends_with_kind c e)

  pub numbers_fit : NumbersStay c e (map pterm new)
  numbers_fit = subst (λ cs. NumbersStay c e cs) (sym columns_are) (numbers_stay c e)
