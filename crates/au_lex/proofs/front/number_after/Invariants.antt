use Rattle.std.proofs.Common.{◌≡◌, ◌≤◌, length, true}
use Rattle.std.specs.List.{list_all}
use Rattle.std.specs.Char.{is_ascii_digit}
use Rattle.std.specs.Str.Parse.{digits_value_after}
use Rattle.au_lex.specs.Fronts.{most}
use Rattle.au_lex.proofs.front.number_after.Given as goal

-- the number so far and the digits that are left make the number of all
abbrev pub invariant-loop-digit : goal.invariant-loop-digit
invariant-loop-digit l = (digits_value_after 10 l.value l.rest ≡ digits_value_after 10 l.before l.digits) × (list_all is_ascii_digit l.rest ≡ true) × (l.value ≤ most)

abbrev pub decreases-loop-digit : goal.decreases-loop-digit
decreases-loop-digit l = length l.rest
