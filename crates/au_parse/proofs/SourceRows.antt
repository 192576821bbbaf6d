-- A SELECT as the list of its sources.
use Rattle.std.proofs.Common.{◌≡◌, map, Box, Global, refl, ap, ◌∙◌}
use Rattle.au_parse.specs.declared.SelectPart.{SelectPart}
use Rattle.au_parse.specs.declared.Statement.{Statement, Select, Select', Row_of-Source, end_of-Source, more_of-Source, items-the_row-Source, items_hidden-the_row-Source-0}
use Rattle.au_parse.specs.Tree.{QueryTree}
use Rattle.au_parse.specs.Views.{statement_tree, sources_tree, source_before, item_view, condition_view}
use Rattle.au_parse.specs.Statements.{part_view, sources_of}

row_sources : (m : _) (k : Row_of-Source m) → sources_tree k ≡ sources_of (items-the_row-Source m k)
row_sources m end_of-Source = refl
row_sources m (more_of-Source s others) = ap (source_before s) (row_sources _ others)

abbrev row_of : Statement → (n : _) × Row_of-Source n
row_of (Select' p at distinct items shape sources condition keys grouped having) = (_, sources)
row_of _ = (_, end_of-Source)

pub select_view : (part : Box SelectPart Global) → statement_tree (Select part) ≡ part_view part.value
select_view part =
    let row = row_of (Select part) in
    ap (λ s. QueryTree.select part.value.at part.value.distinct (map item_view part.value.items.items) s (condition_view part.value.condition) part.value.keys.items part.value.grouped (condition_view part.value.having))
    (row_sources row.0 row.1 ∙ ap sources_of (items_hidden-the_row-Source-0 part.value.sources))
