-- Blocks that stand once have the same value in the three places of a column of single values, and 1 for each count.
use Rattle.std.proofs.Common.{◌≡◌, ◌∙◌, ◌/◌, arith, eqb-true, length, rules, sym, true}
use Rattle.std.specs.Prelude.{is_some}
use Rattle.std.specs.List.{list_all}
use Rattle.au_value.specs.declared.value.Value.TheVariants.{Int, Text}
use Rattle.au_blocks.specs.Singles.{stands_once}
use Rattle.au_batches.proofs.ListedPlaces.{alike_counts, alike_if}
use Rattle.au_batches.proofs.coded_blocks.alike.Goals as goal

pub returns-then-at-columns : goal.returns-then-at-columns
returns-then-at-columns c =
    let same : c.args.first / 3 ≡ c.args.second / 3 = grind (arith, c.if-first-second.false) in
    let stand : list_all stands_once c.args.blocks.now ≡ true = search (rules, c.requires.once, c.if-not-once.false) in
    λ t.
    let at : c.args.first / 3 ≡ length c.args.columns.now = eqb-true _ _ t in
    alike_counts c.parts.result.0.now c.parts.result.1.now c.args.blocks.now c.parts.ensures.held c.parts.ensures.within c.args.columns.now c.requires.table c.args.first c.args.second at (sym same ∙ at) stand

pub returns-then-is_some : goal.returns-then-is_some
returns-then-is_some c =
    let same : c.args.first / 3 ≡ c.args.second / 3 = grind (arith, c.if-first-second.false) in
    let stand : list_all stands_once c.args.blocks.now ≡ true = search (rules, c.requires.once, c.if-not-once.false) in
    let some : c.is_some.result ≡ is_some c.numbers.result = search (rules, c.is_some.ensures) in
    alike_if c.parts.result.0.now c.parts.result.1.now c.args.blocks.now c.parts.ensures.held c.parts.ensures.within (λ x. Int x) (λ r. r.now) c.args.first c.args.second same stand c.numbers.result c.is_some.result some c.numbers.ensures

pub returns-else-is_some : goal.returns-else-is_some
returns-else-is_some c =
    let same : c.args.first / 3 ≡ c.args.second / 3 = grind (arith, c.if-first-second.false) in
    let stand : list_all stands_once c.args.blocks.now ≡ true = search (rules, c.requires.once, c.if-not-once.false) in
    let some : c.is_some-else-is_some.result ≡ is_some c.texts.result = search (rules, c.is_some-else-is_some.ensures) in
    alike_if c.parts.result.0.now c.parts.result.1.now c.args.blocks.now c.parts.ensures.held c.parts.ensures.within (λ x. Text x) (λ r. r.now) c.args.first c.args.second same stand c.texts.result c.is_some-else-is_some.result some c.texts.ensures
