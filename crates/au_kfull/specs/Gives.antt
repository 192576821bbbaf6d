-- What an evaluation gives: a result and numbers in the range,
-- or an overflow where a number leaves it.
use Rattle.std.specs.Prelude.{◌≡◌, Bool, false, IsTrue, Result, MatchResult}
use Rattle.au_expr.specs.declared.fault.EvalFault.{EvalFault}
use Rattle.au_expr.specs.declared.fault.EvalFault.TheVariants as fault

-- the result is so, and the numbers fit, or they do not, unless memory was wanting
abbrev pub GivesOrOverflows : {T : Type 0} → Result T EvalFault → (T → Type 0) → Bool → Type 0
GivesOrOverflows result P fits = MatchResult result (λ v. P v × IsTrue fits) (λ f. f ≡ fault.Overflow → fits ≡ false)
