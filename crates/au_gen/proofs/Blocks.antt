-- One more block: its three draws, and its records behind those before it.
use Rattle.std.proofs.Common.{◌≡◌, ℕ, suc, ◌+◌, ◌*◌, ◌/◌, List, [], ◌∷◌, ◌++◌, sym, ap, ◌∙◌, arith, zero-add, map-id}
use Rattle.std.specs.List.{flat_map, range_with_len}
use Rattle.std.proofs.lemmas.List.{flat_map_more}
use Rattle.std.proofs.lemmas.List.FromFn.{map-range_with_len_more}
use Rattle.au_gen.specs.Generator.{next, state, block_text, drawn_block, header}

-- the state after one, two and three more draws
state_one : (s k : ℕ) → state s (k + 1) ≡ next (state s k)
state_one s k =
    let e : k + 1 ≡ suc k = omega arith in
    ap (state s) e

state_two : (s k : ℕ) → state s (k + 2) ≡ next (next (state s k))
state_two s k =
    let e : k + 2 ≡ suc (suc k) = omega arith in
    ap (state s) e

state_three : (s k : ℕ) → state s (k + 3) ≡ next (next (next (state s k)))
state_three s k =
    let e : k + 3 ≡ suc (suc (suc k)) = omega arith in
    ap (state s) e

-- the state after the draws of one more block
pub state_more : (s j d e : ℕ) → d ≡ state s (3 * j) → e ≡ next (next (next d)) → e ≡ state s (3 * (j + 1))
state_more s j d e at_d at_e =
    let k : 3 * j + 3 ≡ 3 * (j + 1) = omega arith in
    at_e ∙ ap (λ x. next (next (next x))) at_d ∙ sym (state_three s (3 * j)) ∙ ap (state s) k

-- the numbers below n + 1
range_more : (n : ℕ) → range_with_len 0 (n + 1) ≡ range_with_len 0 n ++ n ∷ []
range_more n =
    sym (map-id (range_with_len 0 (n + 1)))
    ∙ map-range_with_len_more (λ j. j) 0 n n (zero-add n)
    ∙ ap (λ ys. ys ++ n ∷ []) (map-id (range_with_len 0 n))

-- the records of the next three draws
block_drawn : (s j d : ℕ) → d ≡ state s (3 * j) → block_text (j + 1) (next d / 65536) (next (next d) / 65536) (next (next (next d)) / 65536) ≡ drawn_block s j
block_drawn s j d at =
    let x = next d in
    let y = next (next d) in
    let z = next (next (next d)) in
    let ex : x ≡ state s (3 * j + 1) = ap next at ∙ sym (state_one s (3 * j)) in
    let ey : y ≡ state s (3 * j + 2) = ap (λ v. next (next v)) at ∙ sym (state_two s (3 * j)) in
    let ez : z ≡ state s (3 * j + 3) = ap (λ v. next (next (next v))) at ∙ sym (state_three s (3 * j)) in
    three (λ a b c. block_text (j + 1) (a / 65536) (b / 65536) (c / 65536)) ex ey ez
  where
    three : (f : ℕ → ℕ → ℕ → List ℕ) {a a' b b' c c' : ℕ} → a ≡ a' → b ≡ b' → c ≡ c' → f a b c ≡ f a' b' c'
    three f {a} {a'} {b} {b'} {c} {c'} p q r = ap (λ v. f v b c) p ∙ ap (λ v. f a' v c) q ∙ ap (f a' b') r

-- the text of one more block
pub text_more : (s j d : ℕ) (old new : List ℕ) → old ≡ header ++ flat_map (drawn_block s) (range_with_len 0 j) → d ≡ state s (3 * j) → new ≡ old ++ block_text (j + 1) (next d / 65536) (next (next d) / 65536) (next (next (next d)) / 65536) → new ≡ header ++ flat_map (drawn_block s) (range_with_len 0 (j + 1))
text_more s j d old new written drawn more =
    more
    ∙ ap (λ ys. old ++ ys) (block_drawn s j d drawn)
    ∙ ap (λ ys. ys ++ drawn_block s j) written
    ∙ flat_map_more (drawn_block s) header (range_with_len 0 j) j
    ∙ ap (λ ys. header ++ flat_map (drawn_block s) ys) (sym (range_more j))
