-- The columns so far.
use Rattle.std.proofs.Common.{◌≡◌, [], map}
use Rattle.std.specs.Option.{option_copied}
use Rattle.au_typing.specs.Items.{star_output}
use Rattle.au_typing.specs.Results.{Puts, setting_view}
use Rattle.au_typing.proofs.Stars.{stars_to, faults_to}
use Rattle.au_typing.proofs.outputs.put_star.Given as goal

abbrev pub invariant-loop-place : goal.invariant-loop-place
invariant-loop-place l =
    Puts (map (star_output (setting_view l.setting)) (stars_to (option_copied l.qualifier) l.place l.scope.fields.items)) l.initial.outputs l.outputs
    × (faults_to (setting_view l.setting) l.at (option_copied l.qualifier) l.place l.scope.fields.items ≡ [])
