-- A field that is cut at its last colon.
use Rattle.std.proofs.Common.{◌≡◌, ◌≢◌, ℕ, ◌+◌, ◌-◌, ◌<◌, ◌≤◌, false, List, length, get_or, take, drop, Some, None, refl, arith, eq-eqb}
use Rattle.std.specs.Prelude.{not}
use Rattle.std.proofs.lemmas.Bool.{ne_eqb}
use Rattle.std.proofs.lemmas.List.{get_or_default}
use Rattle.std.proofs.lemmas.List.Folds.{list_any_at, list_any_none}
use Rattle.std.proofs.lemmas.List.Sums.{suffix_len_is}
use Rattle.au_blocks.specs.Headers.{cut, is_colon}

-- a colon with none behind it
pub cut-at : (bs : List ℕ) (i j : ℕ) → j ≡ i + 1 → j ≤ length bs → get_or bs i 0 ≡ 58 → ((k : ℕ) → j ≤ k → k < length bs → get_or bs k 0 ≢ 58)
    → cut bs ≡ Some (take i bs, drop j bs)
cut-at bs i j next within here behind =
    let any = list_any_at is_colon bs i 0 (omega arith) (eq-eqb (get_or bs i 0) 58 here) in
    let last : (0 < j → not (is_colon (get_or bs (j - 1) 0)) ≡ false) =
    λ _. let at : j - 1 ≡ i = omega arith in rw (at, eq-eqb (get_or bs i 0) 58 here) refl in
    let rest = suffix_len_is (λ x. not (is_colon x)) bs j 0 within (λ k low high. rw (ne_eqb (get_or bs k 0) 58 (behind k low high)) refl) last in
    let before : length bs - (length bs - j) - 1 ≡ i = omega arith in
    let after : length bs - (length bs - j) ≡ j = omega arith in
    rw (any, rest, before, after) refl

-- no colon
pub cut-none : (bs : List ℕ) → ((k : ℕ) → k < length bs → get_or bs k 0 ≢ 58) → cut bs ≡ None
cut-none bs none =
    let any = list_any_none is_colon bs (λ k d within. let at : get_or bs k d ≡ get_or bs k 0 = get_or_default bs k d 0 within in rw (at, ne_eqb (get_or bs k 0) 58 (none k within)) refl) in
    rw any refl
