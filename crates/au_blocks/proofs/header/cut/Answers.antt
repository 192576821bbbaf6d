-- The last colon of a text.
use Rattle.std.proofs.Common.{Bor, ◌≡◌, ◌≢◌, ◌∙◌, ℕ, ◌+◌, ◌-◌, ◌<◌, ◌≤◌, List, Option, Some, None, length, get_or, drop, arith, sym, ap}
use Rattle.std.specs.Prelude.{option_map, MatchOption}
use Rattle.std.specs.Str.Pattern.{RFindsChar, SplitsAroundMatch}
use Rattle.std.proofs.lemmas.List.{get_or-drop, length-drop}
use Rattle.std.proofs.lemmas.Str.Pattern.{NoCharPasses-char}
use Rattle.au_blocks.specs.Headers.{cut}
use Rattle.au_blocks.proofs.Cuts.{cut-at, cut-none}
use Rattle.au_blocks.proofs.header.cut.Goals as goal

last_colon : (s : List ℕ) (r : Option (Bor (List ℕ) × Bor (List ℕ)))
    → MatchOption r (RFindsChar 58 s None) (λ x. SplitsAroundMatch (RFindsChar 58) s x.0.now x.1.now) → option_map (λ p. (p.0.now, p.1.now)) r ≡ cut s
last_colon s None is = sym (cut-none s (λ k within. NoCharPasses-char 58 s k is (omega arith) within))
last_colon s (Some x) is =
    let (i, j, found, front, back, order, front_length, back_length) = is in
    let next : j ≡ i + 1 = found.1.ends in
    let behind : (k : ℕ) → j ≤ k → k < length s → get_or s k 0 ≢ 58 =
    λ k low high same.
    let place : j + (k - j) ≡ k = omega arith in
    let at : get_or (drop j s) (k - j) 0 ≡ 58 = get_or-drop j s (k - j) 0 ∙ ap (λ n. get_or s n 0) place ∙ same in
    NoCharPasses-char 58 (drop j s) (k - j) found.0 (omega arith) (omega (arith, length-drop j s)) at in
    let e = cut-at s i j next (omega arith) (found.1.byte (omega arith)) behind in
    rw (front, back) (sym e)

pub returns : goal.returns
returns c = last_colon c.args.field.now c.rsplit_once.result c.rsplit_once.ensures.cases
