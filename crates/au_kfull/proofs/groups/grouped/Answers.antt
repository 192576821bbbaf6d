-- The groups by guessed keys have an output each, and these are the group.
use Rattle.std.proofs.Common.{◌≡◌, ◌∙◌, sym, ap, subst, map}
use Rattle.std.specs.List.{AllByRecursion, list_all}
use Rattle.au_value.specs.Ranges.{guesses}
use Rattle.au_algebra.specs.Entries.{entry}
use Rattle.au_algebra.specs.Bounded.{RangeRow, group_by, present}
use Rattle.au_algebra.specs.Keys.{groups_by}
use Rattle.au_kfull.specs.Groups.{unsure}
use Rattle.au_kfull.specs.Keys.{keys_of}
use Rattle.au_kfull.specs.Outputs.{IsOutputReady, group_fits, made_output, made_fits}
use Rattle.au_kfull.specs.SameGuesses.{groups_held}
use Rattle.au_kfull.proofs.DifferenceRows.{relation_kinds}
use Rattle.au_kfull.proofs.GivesMore.{gives_more}
use Rattle.au_kfull.proofs.GroupParts.{ready_groups, groups_group, groups_fit, keys_held}
use Rattle.au_kfull.proofs.GroupOutputs.{all_outputs}
use Rattle.au_kfull.proofs.PutRows.{Held}
use Rattle.au_kfull.proofs.groups.grouped.Goals as goal

pub outputs-requires-clause-ready : goal.outputs-requires-clause-ready
outputs-requires-clause-ready c =
    let k = c.args.keys in
    let aggs = c.args.aggs.now in
    let rows = (map (λ r. entry r.0.items r.1) c.args.of.now) in
    let groups = c.in_ok-groups.groups.items in
    let same : groups_held groups ≡ groups_by (λ (r : RangeRow). guesses (keys_of k r.cells)) rows =
    c.in_ok-groups.ensures ∙ ap (groups_by (λ (r : RangeRow). guesses (keys_of k r.cells))) (c.deref-2.ensures.value ∙ c.in_ok-rows.ensures) in
    let ks = c.requires.0 in
    let can = c.requires.2 in
    let outs = all_outputs ks can.made aggs rows can.typed c.requires.1 k in
    let ready = ready_groups k aggs rows groups same ks (relation_kinds ks rows c.requires.1) (keys_held k ks rows c.requires.1) outs in
    let again : c.deref-4.result.now ≡ rows = c.deref-4.ensures.value ∙ c.in_ok-rows.ensures in
    subst (λ gs. AllByRecursion (λ (g : Held). IsOutputReady k aggs c.deref-4.result.now g.items) gs) (sym c.deref-3.ensures.value)
    (subst (λ rs. AllByRecursion (λ (g : Held). IsOutputReady k aggs rs g.items) groups) (sym again) ready)

pub outputs-requires-clause-unsure : goal.outputs-requires-clause-unsure
outputs-requires-clause-unsure c =
    c.deref-5.ensures.value ∙ c.in_ok-unsure.ensures ∙ ap (unsure c.args.keys) (c.deref.ensures.value ∙ sym c.deref-4.ensures.value)

pub returns : goal.returns
returns c =
    let k = c.args.keys in
    let aggs = c.args.aggs.now in
    let rows = (map (λ r. entry r.0.items r.1) c.args.of.now) in
    let groups = c.in_ok-groups.groups.items in
    let same : groups_held groups ≡ groups_by (λ (r : RangeRow). guesses (keys_of k r.cells)) rows =
    c.in_ok-groups.ensures ∙ ap (groups_by (λ (r : RangeRow). guesses (keys_of k r.cells))) (c.deref-2.ensures.value ∙ c.in_ok-rows.ensures) in
    let again : c.deref-4.result.now ≡ rows = c.deref-4.ensures.value ∙ c.in_ok-rows.ensures in
    let gs : c.deref-3.result.now ≡ groups = c.deref-3.ensures.value in
    let fits : list_all (λ (g : Held). made_fits k aggs c.deref-4.result.now g.items) c.deref-3.result.now ≡ group_fits k aggs rows =
    (λ i. list_all (λ (g : Held). made_fits k aggs (again i) g.items) (gs i)) ∙ groups_fit k aggs rows groups same in
    gives_more c.outputs.result
    (λ r. r ≡ present (map (λ (g : Held). made_output k aggs c.deref-4.result.now g.items) c.deref-3.result.now))
    (λ r. r ≡ group_by (keys_of k) aggs rows)
    (list_all (λ (g : Held). made_fits k aggs c.deref-4.result.now g.items) c.deref-3.result.now) (group_fits k aggs rows)
    (λ v e. e ∙ (λ i. present (map (λ (g : Held). made_output k aggs (again i) g.items) (gs i))) ∙ groups_group k aggs rows groups same)
    (λ h. sym fits ∙ h)
    (λ h. sym fits ∙ h)
    c.outputs.ensures
