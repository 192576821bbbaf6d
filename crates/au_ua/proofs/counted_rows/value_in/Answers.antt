-- The value is the guess in the place's column, and a place behind all columns is one of a count.
use Rattle.std.specs.Prelude.{◌≡◌, ◌-◌, ◌+◌, ℕ, zero, suc, List, [], ◌∷◌, ◌++◌, length, map, Some, slice_get, IfOk}
use Rattle.std.proofs.Common.{arith, refl, sym, ap, subst, ◌∙◌}
use Rattle.std.proofs.lemmas.List.{length-map}
use Rattle.au_value.specs.declared.value.Value.{Value}
use Rattle.au_value.specs.Ranges.{Span, guesses}
use Rattle.au_blocks.specs.Scalars.{scalar_value}
use Rattle.au_algebra.specs.Lists.{value_at}
use Rattle.au_rwcounted.specs.CountedRows.{count_value}
use Rattle.au_ua.proofs.counted_rows.value_in.Goals as goal

in_front : (us vs : List Value) (i : ℕ) (v : Value) → slice_get us i ≡ Some v → value_at (us ++ vs) i ≡ v
in_front [] vs i v at = cc
in_front (u ∷ us) vs zero v at = cc
in_front (u ∷ us) vs (suc i) v at = in_front us vs i v at

behind : (us vs : List Value) (k n : ℕ) → n ≡ length us + k → value_at (us ++ vs) n ≡ value_at vs k
behind [] vs k n e = let same : n ≡ k = omega (arith, e) in ap (value_at vs) same
behind (u ∷ us) vs k n e =
    let is : n ≡ suc (length us + k) = omega (arith, e) in
    ap (value_at ((u ∷ us) ++ vs)) is ∙ behind us vs k (length us + k) refl

pub returns-then-place-width : goal.returns-then-place-width
returns-then-place-width c =
    let counts = map count_value (c.args.pair.certain ∷ c.args.pair.guess ∷ []) in
    let value = scalar_value c.sg.result in
    let is = in_front (guesses c.args.alternative.now.cells) counts c.args.place value c.sg.ensures in
    subst (λ w. IfOk c.to_value.result (λ v. v ≡ w)) (sym is) c.to_value.ensures

pub returns : goal.returns
returns c =
    let cells = c.args.alternative.now.cells in
    let width = c.width-width.result in
    let counts = map count_value (c.args.pair.certain ∷ c.args.pair.guess ∷ []) in
    let wide : width ≡ length (guesses cells) = c.width-width.ensures ∙ sym (length-map cells (λ (s : Span). s.sg)) in
    let at : c.args.place ≡ length (guesses cells) + (c.args.place - width) = omega (arith, wide, c.if-place-width.false) in
    c.count_in.ensures ∙ sym (behind (guesses cells) counts (c.args.place - width) c.args.place at)
