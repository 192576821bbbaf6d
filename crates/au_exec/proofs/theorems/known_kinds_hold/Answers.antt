-- By induction on the plan.
use Rattle.au_exec.proofs.PlanKinds.{known_hold}
use Rattle.au_exec.proofs.theorems.known_kinds_hold.Goals as goal

pub returns : goal.returns
returns c = λ p ts typed. known_hold ts p typed
