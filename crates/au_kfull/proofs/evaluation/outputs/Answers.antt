-- A number of an output leaves the range.
use Rattle.std.proofs.lemmas.Result.{err_from_is_err_and}
use Rattle.au_kfull.proofs.evaluation.outputs.Goals as goal

pub returns-in_err-made : goal.returns-in_err-made
returns-in_err-made c =
    let p = err_from_is_err_and c.from_residual.result c.from_residual.ensures.1 in
    rw (p.1, p.2) (λ o. (let h = c.in_err-made.ensures o in rw c.slice.ensures at h))
