-- A row in a new group behind the others, or in the group at the place.
use Rattle.std.proofs.Common.{◌≡◌, ◌∙◌, ◌++◌, ◌∷◌, [], ◌<◌, ap, arith, length}
use Rattle.std.proofs.lemmas.List.{map-append, length-map}
use Rattle.std.proofs.lemmas.Grind.{common_steps}
use Rattle.au_kfull.specs.SameGuesses.{groups_held}
use Rattle.au_kfull.proofs.PutRows.{Held, at_end, at_place}
use Rattle.au_kfull.proofs.same_guesses.put_row.Goals as goal

pub returns-in_ok-push-2 : goal.returns-in_ok-push-2
returns-in_ok-push-2 c =
    let held = c.args.groups.now.items in
    let view = λ (group : Held). group.items in
    let pushed = ap groups_held c.in_ok-push-2.ensures.items ∙ map-append view held (c.push.new.self ∷ []) in
    let first : c.push.new.self.items ≡ c.args.row ∷ [] = grind (arith, common_steps) in
    let index : c.args.place ≡ length (groups_held held) = omega (arith, length-map held view, c.args.groups.now.ok.0, c.len.ensures, c.if-place-len.true) in
    pushed ∙ (λ i. groups_held held ++ first i ∷ []) ∙ at_end (groups_held held) c.args.place c.args.row index

pub returns-in_ok-push-3 : goal.returns-in_ok-push-3
returns-in_ok-push-3 c =
    let held = c.args.groups.now.items in
    let below : c.args.place < length held = omega (arith, c.args.groups.now.ok.0, c.len.ensures, c.if-place-len.false, c.requires) in
    let more : c.push-else-place-len.new.self.items ≡ c.index_mut.result.now.items ++ c.args.row ∷ [] = grind (arith, common_steps) in
    at_place held c.args.place c.args.row c.index_mut.result.now c.push-else-place-len.new.self below c.index_mut.ensures.value more
