use Rattle.std.proofs.Common.{map}
use Rattle.au_parse.specs.Views.{condition_view, item_view}
use Rattle.au_parse.specs.Statements.{sources_of}
use Rattle.au_parse.proofs.Pairs.{no_select, one_select}
use Rattle.au_parse.proofs.queries.select_part.Goals as goal

pub returns-in-Some : goal.returns-in-Some
returns-in-Some c =
    one_select c.args.at c.args.distinct c.args.grouped (λ v. map item_view v.items) (λ v. sources_of v.items) (λ v. v.items) condition_view c.args.items c.args.sources c.args.keys c.args.condition c.args.having
    c.paired-lists.result c.paired-tests.result c.paired-rest.result c.paired.result (c.in-Some.lists, c.in-Some.rest)
    c.paired-lists.ensures c.paired-tests.ensures c.paired-rest.ensures c.paired.ensures c.in-Some.is

pub returns-in-None : goal.returns-in-None
returns-in-None c =
    no_select c.args.at c.args.distinct c.args.grouped (λ v. map item_view v.items) (λ v. sources_of v.items) (λ v. v.items) condition_view c.args.items c.args.sources c.args.keys c.args.condition c.args.having
    c.paired-lists.result c.paired-tests.result c.paired-rest.result c.paired.result c.paired-lists.ensures c.paired-tests.ensures c.paired-rest.ensures c.paired.ensures c.in-None.is
