-- The terms from those of each clause.
use Rattle.std.proofs.Common.{map, subst, sym}
use Rattle.std.specs.Prelude.{OnOk, IfErr}
use Rattle.au_parse.specs.Views.{item_view}
use Rattle.au_typing.specs.Items.{items_faults}
use Rattle.au_typing.specs.Results.{ItemsFound, TermsAnswer, clauses_of, scope_view, setting_view}
use Rattle.au_typing.proofs.Clauses.{terms_step}
use Rattle.au_typing.proofs.select.terms_of.Goals as goal
use Rattle.au_typing.specs.Queries.{Refuses}

pub returns : goal.returns
returns c =
    let s = scope_view c.args.scope.now in
    let g = setting_view c.args.setting.now in
    let found : OnOk c.put_items-items.result (ItemsFound s g (map item_view c.args.part.now.items.items) c.new-gathered.result c.put_items-items.new.gathered c.new-outputs.result c.put_items-items.new.outputs) =
    rw (c.as_slice-list.ensures.value) at c.put_items-items.ensures.found in
    let fault : IfErr c.put_items-items.result (Refuses (items_faults s g (map item_view c.args.part.now.items.items))) =
    rw (c.as_slice-list.ensures.value) at c.put_items-items.ensures.fault in
    subst (TermsAnswer s g (clauses_of c.args.part.now)) (sym c.all_terms.ensures)
    (terms_step s g (clauses_of c.args.part.now) c.filter_of-filter.result c.put_items-items.result c.condition-having.result
    c.new-gathered.result c.put_items-items.new.gathered c.condition-having.new.gathered c.new-outputs.result c.put_items-items.new.outputs
    c.new-gathered.ensures.arguments c.new-gathered.ensures.aggs c.new-outputs.ensures.exprs c.new-outputs.ensures.columns c.filter_of-filter.ensures found fault c.condition-having.ensures)
