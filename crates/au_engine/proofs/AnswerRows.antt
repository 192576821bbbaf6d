-- What holds of rows that are made holds of rows that are told, and the fault of a typed tree is one of its statement.
use Rattle.std.specs.Prelude.{◌≡◌, Bool, List, [], IfOk, Result, Ok}
use Rattle.std.proofs.Common.{subst}
use Rattle.au_expr.specs.declared.fault.EvalFault.{EvalFault}
use Rattle.au_typing.specs.declared.fault.TypingFault.{TypingFault}
use Rattle.au_engine.specs.Answers.{AnswerCause, RowsCause}
use Rattle.au_engine.specs.declared.faults.EngineFault.{EngineFault}
use Rattle.au_engine.specs.declared.faults.EngineFault.TheVariants as engine

pub made_rows_hold : {A : Type 0} (P : A → Type 0) (made : Result A EvalFault) (rows : A) → made ≡ Ok rows → IfOk made P → P rows
made_rows_hold P made rows e h = subst (λ r. IfOk r P) e h

pub rows_cause : (found : List TypingFault) (fit : Bool) (f : EngineFault) → found ≡ [] → RowsCause fit f → AnswerCause found fit f
rows_cause found fit engine.NoMemory e h = tt
rows_cause found fit engine.Overflow e h = (e, h)
rows_cause found fit (engine.Query q) e h = elim h [ ]
rows_cause found fit (engine.Limit l) e h = elim h [ ]
