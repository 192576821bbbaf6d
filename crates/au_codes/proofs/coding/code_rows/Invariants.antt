-- The rows so far are coded, and the others are as they were.
use Rattle.std.proofs.Common.{◌≡◌, ℕ, ◌<◌, ◌≤◌, length, get_or, Vec, Global}
use Rattle.au_value.specs.declared.value.Value.{Value}
use Rattle.au_codes.specs.CodedPlans.{coded_literals}
use Rattle.au_codes.specs.TextCodes.{text_code}
use Rattle.au_codes.proofs.coding.code_rows.Given as goal

abbrev pub invariant-loop-i : goal.invariant-loop-i
invariant-loop-i l =
    (length l.rows ≡ length l.initial.rows)
    × ((k : ℕ) (d : Vec Value Global) → l.i ≤ k → k < length l.rows → get_or l.rows k d ≡ get_or l.initial.rows k d)
    × ((k : ℕ) (d : Vec Value Global) → k < l.i → (get_or l.rows k d).items ≡ coded_literals (text_code l.book) (get_or l.initial.rows k d).items)
