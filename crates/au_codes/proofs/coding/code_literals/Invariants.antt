-- The values so far are coded, and the others are as they were.
use Rattle.std.proofs.Common.{◌≡◌, ℕ, ◌<◌, ◌≤◌, length, get_or}
use Rattle.au_value.specs.declared.value.Value.{Value}
use Rattle.au_codes.specs.CodedPlans.{coded_literal}
use Rattle.au_codes.specs.TextCodes.{text_code}
use Rattle.au_codes.proofs.coding.code_literals.Given as goal

abbrev pub invariant-loop-i : goal.invariant-loop-i
invariant-loop-i l =
    (length l.row ≡ length l.initial.row)
    × ((k : ℕ) (d : Value) → l.i ≤ k → k < length l.row → get_or l.row k d ≡ get_or l.initial.row k d)
    × ((k : ℕ) (d : Value) → k < l.i → get_or l.row k d ≡ coded_literal (text_code l.book) (get_or l.initial.row k d))
