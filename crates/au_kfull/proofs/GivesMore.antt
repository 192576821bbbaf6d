-- What an evaluation gives, said of more.
use Rattle.std.specs.Prelude.{◌≡◌, Bool, true, false, IsTrue, Result, Ok, Err, IfOk, OnOk, IfErr}
use Rattle.std.proofs.Common.{◌∙◌}
use Rattle.au_expr.specs.declared.fault.EvalFault.{EvalFault}
use Rattle.au_expr.specs.declared.fault.EvalFault.TheVariants as fault
use Rattle.au_kfull.specs.Gives.{GivesOrOverflows}

-- a further result, and numbers that fit where these do
pub gives_more : {T : Type 0} (r : Result T EvalFault) (P Q : T → Type 0) (fits all : Bool) → ((v : T) → P v → Q v) → (fits ≡ true → all ≡ true) → (fits ≡ false → all ≡ false) → GivesOrOverflows r P fits → GivesOrOverflows r Q all
gives_more (Ok v) P Q fits all more up down g = (more v g.0, up g.1)
gives_more (Err f) P Q fits all more up down g = λ e. down (g e)

if_ok : {T : Type 0} (r : Result T EvalFault) (P Q : T → Type 0) (fits : Bool) → ((v : T) → P v → Q v) → GivesOrOverflows r P fits → IfOk r Q
if_ok (Ok v) P Q fits more g = more v g.0
if_ok (Err f) P Q fits more g = tt

on_ok : {T : Type 0} (r : Result T EvalFault) (P : T → Type 0) (fits all : Bool) → all ≡ fits → GivesOrOverflows r P fits → OnOk r (IsTrue all)
on_ok (Ok v) P fits all e g = e ∙ g.1
on_ok (Err f) P fits all e g = tt

if_err : {T : Type 0} (r : Result T EvalFault) (P : T → Type 0) (fits all : Bool) → all ≡ fits → GivesOrOverflows r P fits → IfErr r (λ f. f ≡ fault.Overflow → all ≡ false)
if_err (Ok v) P fits all e g = tt
if_err (Err f) P fits all e g = λ o. e ∙ g o

module _ {T : Type 0} (r : Result T EvalFault) (P : T → Type 0) (fits : Bool) (given : GivesOrOverflows r P fits) where
  -- what holds of the result
  pub gives_ok : (Q : T → Type 0) → ((v : T) → P v → Q v) → IfOk r Q
  gives_ok Q more = if_ok r P Q fits more given

  -- its numbers fit
  pub gives_fits : (all : Bool) → all ≡ fits → OnOk r (IsTrue all)
  gives_fits all e = on_ok r P fits all e given

  -- or an overflow
  pub gives_overflow : (all : Bool) → all ≡ fits → IfErr r (λ f. f ≡ fault.Overflow → all ≡ false)
  gives_overflow all e = if_err r P fits all e given
