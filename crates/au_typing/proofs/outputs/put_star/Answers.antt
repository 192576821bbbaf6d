-- One column more.
use Rattle.std.proofs.Common.{◌≡◌, ◌+◌, ◌<◌, length, get_or, true, sym, subst, ◌∙◌, rules, map, []}
use Rattle.std.specs.Option.{option_copied}
use Rattle.au_typing.specs.Scopes.{is_owner}
use Rattle.au_typing.specs.Items.{star_output}
use Rattle.au_typing.specs.Results.{Puts, scope_view, setting_view}
use Rattle.au_typing.proofs.Stars.{stars_to, faults_to, star_fault, star_on, star_past}
use Rattle.au_typing.proofs.outputs.put_star.Goals as goal
use Rattle.au_typing.proofs.outputs.put_star.Goals.{then-is_owner+in-Ok+in_ok-name+in_ok-push, else-is_owner}

pub returns-in-Err-clause-fault : goal.returns-in-Err-clause-fault
returns-in-Err-clause-fault c =
    let within : c.loop-place.place < length c.args.scope.now.fields.items = search (rules, c.loop-place-test.true) in
    let here : c.field-item.result ≡ get_or c.args.scope.now.fields.items c.loop-place.place c.field-item.result = search (rules, c.field-item.is) in
    let is : is_owner (option_copied c.args.qualifier) c.field-item.result.owner ≡ true = sym c.is_owner.ensures ∙ c.if-is_owner.true in
    star_fault (scope_view c.args.scope.now) (setting_view c.args.setting.now) c.args.at (option_copied c.args.qualifier) c.loop-place.place c.field-item.result c.in-Err.fault within here is c.in-Err.ensures.fault

pub loop-place-preserved : goal.loop-place-preserved
loop-place-preserved c =
    let within : c.loop-place.place < length c.args.scope.now.fields.items = search (rules, c.loop-place-test.true) in
    let here : c.field-item.result ≡ get_or c.args.scope.now.fields.items c.loop-place.place c.field-item.result = search (rules, c.field-item.is) in
    elim c.if-is_owner.branch [
      | then-is_owner+in-Ok+in_ok-name+in_ok-push w ↦
          subst (λ o. Puts (map (star_output (setting_view c.args.setting.now)) (stars_to (option_copied c.args.qualifier) (c.loop-place.place + 1) c.args.scope.now.fields.items)) c.args.outputs.now o
          × (faults_to (setting_view c.args.setting.now) c.args.at (option_copied c.args.qualifier) (c.loop-place.place + 1) c.args.scope.now.fields.items ≡ [])) (sym w.outputs-is)
          (star_on (setting_view c.args.setting.now) c.args.at (option_copied c.args.qualifier) c.loop-place.place c.args.scope.now.fields.items c.field-item.result c.args.outputs.now c.loop-place.outputs w.push.new.self
          w.in-Ok.expr w.in_ok-name.name within here (sym c.is_owner.ensures ∙ w.if-is_owner.true) w.in_ok-push.ensures.exprs w.in-Ok.ensures.found w.in_ok-push.ensures.columns w.in_ok-name.ensures w.in-Ok.ensures.sound c.loop-place.invariant)
      | else-is_owner w ↦
          subst (λ o. Puts (map (star_output (setting_view c.args.setting.now)) (stars_to (option_copied c.args.qualifier) (c.loop-place.place + 1) c.args.scope.now.fields.items)) c.args.outputs.now o
          × (faults_to (setting_view c.args.setting.now) c.args.at (option_copied c.args.qualifier) (c.loop-place.place + 1) c.args.scope.now.fields.items ≡ [])) (sym w.outputs-is)
          (star_past (setting_view c.args.setting.now) c.args.at (option_copied c.args.qualifier) c.loop-place.place c.args.scope.now.fields.items c.field-item.result c.args.outputs.now c.loop-place.outputs
          within here (sym c.is_owner.ensures ∙ w.if-is_owner.false) c.loop-place.invariant)
    ]
