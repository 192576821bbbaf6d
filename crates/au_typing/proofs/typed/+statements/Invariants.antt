-- Each call goes to a part of the statement.
use Rattle.std.proofs.Common.{◌≡◌, ◌+◌, ◌*◌, map, take}
use Rattle.au_parse.specs.Statements.{sources_of}
use Rattle.au_parse.specs.Tree.{Sources}
use Rattle.au_parse.specs.Views.{statement_tree, source_before}
use Rattle.au_typing.specs.Queries.{relations}
use Rattle.au_typing.specs.Judged.{source_item}
use Rattle.au_typing.specs.Results.{from_view}
use Rattle.au_typing.proofs.Sizes.{query_size, sources_size}
use Rattle.au_typing.proofs.typed.+statements.Given as goal

abbrev pub decreases-query : goal.decreases-query
decreases-query l = 3 * query_size (statement_tree l.statement.now)

abbrev pub decreases-sides : goal.decreases-sides
decreases-sides l = 3 * (query_size (statement_tree l.left.now) + query_size (statement_tree l.right.now)) + 1

abbrev pub decreases-sources : goal.decreases-sources
decreases-sources l = 3 * sources_size (sources_of l.list.now) + 2

abbrev pub decreases-from_part : goal.decreases-from_part
decreases-from_part l = 3 * sources_size (source_before l.source.now Sources.no_sources) + 1

abbrev pub invariant-sources-loop-source : goal.invariant-sources-loop-source
invariant-sources-loop-source l = map from_view l.from.items ≡ map (source_item (relations l.schemas)) (take l.source-index l.list)
