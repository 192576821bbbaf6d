-- The values in the places of an encoded row: three for each range, then the counts.
use Rattle.std.specs.Prelude.{◌≡◌, ◌≤◌, ◌/◌, ◌%◌, ℕ, zero, suc, ◌+◌, ◌*◌, List, [], ◌∷◌, ◌++◌, length, slice_get, Some}
use Rattle.std.proofs.Common.{arith, refl, ◌∙◌, ap}
use Rattle.au_value.specs.declared.value.Value.{Value}
use Rattle.au_value.specs.Ranges.{Span, guesses}
use Rattle.au_blocks.specs.Blocks.{Candidate}
use Rattle.au_algebra.specs.Lists.{value_at}
use Rattle.au_encode.specs.Encode.{encode_cells}
use Rattle.au_translate.specs.Translate.{span_in}
use Rattle.au_translate.proofs.Alternatives.{spans_from}

-- three places further
later : (a b c : Value) (vs : List Value) (n m : ℕ) → n ≡ 3 + m → value_at (a ∷ b ∷ c ∷ vs) n ≡ value_at vs m
later a b c vs n m e = let is : n ≡ suc (suc (suc m)) = omega (arith, e) in ap (value_at (a ∷ b ∷ c ∷ vs)) is

-- a part of a range
first_part : (r : Span) (vs : List Value) (n k : ℕ) → n ≡ k → suc k ≤ 3 → value_at (encode_cells (r ∷ []) ++ vs) n ≡ value_at (encode_cells (r ∷ [])) k
first_part r vs n zero e low = ap (value_at (encode_cells (r ∷ []) ++ vs)) e
first_part r vs n (suc zero) e low = ap (value_at (encode_cells (r ∷ []) ++ vs)) e
first_part r vs n (suc (suc zero)) e low = ap (value_at (encode_cells (r ∷ []) ++ vs)) e
first_part r vs n (suc (suc (suc k))) e low = let never : ⊥ = omega (arith, low) in absurd never

-- a place of a range
in_cells : (rs : List Span) (vs : List Value) (i k n : ℕ) (r : Span) → slice_get rs i ≡ Some r → n ≡ 3 * i + k → suc k ≤ 3 → value_at (encode_cells rs ++ vs) n ≡ value_at (encode_cells (r ∷ [])) k
in_cells [] vs i k n r at e low = cc
in_cells (s ∷ rs) vs zero k n r at e low =
    let same : s ≡ r = cc in
    ap (λ x. value_at (encode_cells (x ∷ rs) ++ vs) n) same ∙ first_part r (encode_cells rs ++ vs) n k (omega (arith, e)) low
in_cells (s ∷ rs) vs (suc i) k n r at e low =
    later s.lo s.sg s.hi (encode_cells rs ++ vs) n (3 * i + k) (omega (arith, e)) ∙ in_cells rs vs i k (3 * i + k) r at refl low

-- a place behind all ranges
pub behind_cells : (rs : List Span) (vs : List Value) (k n : ℕ) → n ≡ 3 * length rs + k → value_at (encode_cells rs ++ vs) n ≡ value_at vs k
behind_cells [] vs k n e = let same : n ≡ k = omega (arith, e) in ap (value_at vs) same
behind_cells (r ∷ rs) vs k n e =
    later r.lo r.sg r.hi (encode_cells rs ++ vs) n (3 * length rs + k) (omega (arith, e)) ∙ behind_cells rs vs k (3 * length rs + k) refl

-- a place by its column and its part
pub by_column : (rs : List Span) (vs : List Value) (p : ℕ) (r : Span) → slice_get rs (p / 3) ≡ Some r → value_at (encode_cells rs ++ vs) p ≡ value_at (encode_cells (r ∷ [])) (p % 3)
by_column rs vs p r at = in_cells rs vs (p / 3) (p % 3) p r at (omega arith) (omega arith)

-- one of some ranges that were made from a column on
pub span_at : (alternatives : List Candidate) (cs : List Span) (j i n : ℕ) (u : Span) → n ≡ j + i → slice_get cs i ≡ Some u → slice_get (spans_from alternatives j (guesses cs)) i ≡ Some (span_in alternatives n u.sg)
span_at alternatives [] j i n u place at = cc
span_at alternatives (c ∷ cs) j zero n u place at =
    let same : c ≡ u = cc in
    let here : j ≡ n = omega (arith, place) in
    ap (λ r. Some (span_in alternatives j r.sg)) same ∙ ap (λ m. Some (span_in alternatives m u.sg)) here
span_at alternatives (c ∷ cs) j (suc i) n u place at = span_at alternatives cs (j + 1) i n u (omega (arith, place)) at

-- there are as many as there are cells
pub length-spans : (alternatives : List Candidate) (cs : List Span) (j : ℕ) → length (spans_from alternatives j (guesses cs)) ≡ length cs
length-spans alternatives [] j = refl
length-spans alternatives (c ∷ cs) j = ap suc (length-spans alternatives cs (j + 1))
