-- The rows that overlap the hull are those that the hull overlaps.
use Rattle.std.proofs.Common.{◌≡◌, subst}
use Rattle.std.specs.Prelude.{IfOk}
use Rattle.au_kfull.proofs.GroupRows.{overlapping}
use Rattle.au_kfull.proofs.grouping.members.Goals as goal

pub returns-else-is_empty : goal.returns-else-is_empty
returns-else-is_empty c =
    subst (λ rows. IfOk c.rows_meeting.result (λ v. v.items ≡ rows)) (overlapping c.args.keys c.args.hull.now c.args.rows.now) c.rows_meeting.ensures
