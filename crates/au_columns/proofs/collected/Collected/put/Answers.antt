-- The rows of the batch stand behind those that are there.
use Rattle.std.proofs.Common.{◌≡◌, ◌++◌, ap, map, ◌∙◌}
use Rattle.au_columns.specs.Batches.{rows_of}
use Rattle.au_columns.proofs.collected.Collected.put.Goals as goal

pub returns : goal.returns
returns c =
    let ds = map (λ a. a.value) c.columns-more.result.now in
    let more : rows_of c.len-added.result ds ≡ c.args.rows.now = ap (λ k. rows_of k ds) c.len-added.ensures ∙ c.columns-more.ensures.rows in
    ap (λ k. rows_of k c.in_ok-columns.columns.items) c.in-Some.ensures.1 ∙ c.in_ok-columns.ensures.rows ∙ (λ j. c.self.view_is j ++ more j)
