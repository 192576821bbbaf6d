-- The gathered rows are all rows.
use Rattle.std.proofs.Common.{◌≡◌, ◌++◌, ◌∙◌, sym, subst, true, map}
use Rattle.std.specs.Prelude.{flat_map}
use Rattle.std.specs.List.{AllByRecursion, list_all}
use Rattle.au_value.specs.Numeral.{is_i128}
use Rattle.au_algebra.specs.Entries.{entry}
use Rattle.au_algebra.specs.Bounded.{aggregate, all_rows}
use Rattle.au_algebra.specs.Fits.{agg_numbers}
use Rattle.au_kfull.specs.declared.keys.Keys.TheVariants.{Leading}
use Rattle.au_kfull.specs.Groups.{gathered}
use Rattle.au_kfull.specs.Outputs.{CanAggregate, total_fits}
use Rattle.au_kfull.proofs.GivesMore.{gives_more}
use Rattle.au_kfull.proofs.TotalRows.{everything, all_can_sum, all_aggregate, all_numbers}
use Rattle.au_kfull.proofs.totals.sums.Goals as goal

pub push_aggregates-requires : goal.push_aggregates-requires
push_aggregates-requires c =
    let belonging = c.in_ok-belonging.ensures in
    let members = c.in_ok-members.ensures in
    let whole : everything (map (λ r. entry r.0.items r.1) c.args.of.now) ≡ gathered (Leading 0) true true c.in_ok-belonging.belonging.items c.in_ok-members.members.items = (λ i. gathered (Leading 0) true true (sym belonging i) (sym members i)) in
    subst (λ g. AllByRecursion (CanAggregate g) c.args.aggs.now) whole (all_can_sum c.requires.0 (map (λ r. entry r.0.items r.1) c.args.of.now) c.args.aggs.now c.requires.1 c.requires.2)

pub returns : goal.returns
returns c =
    let of = (map (λ r. entry r.0.items r.1) c.args.of.now) in
    let aggs = c.args.aggs.now in
    let belonging = c.in_ok-belonging.ensures in
    let members = c.in_ok-members.ensures in
    let seen = gathered (Leading 0) true true c.in_ok-belonging.belonging.items c.in_ok-members.members.items in
    let whole : seen ≡ everything of = (λ i. gathered (Leading 0) true true (belonging i) (members i)) in
    let cells : c.new.result.items ++ map (aggregate seen) aggs ≡ map (aggregate (all_rows of)) aggs =
    (λ i. c.new.ensures.items i ++ map (aggregate (whole i)) aggs) ∙ (λ i. map (λ a. all_aggregate of a i) aggs) in
    let fits : list_all is_i128 (flat_map (agg_numbers seen) aggs) ≡ total_fits aggs of =
    (λ i. list_all is_i128 (flat_map (agg_numbers (whole i)) aggs)) ∙ (λ i. list_all is_i128 (flat_map (λ a. all_numbers of a i) aggs)) in
    gives_more c.push_aggregates.result
    (λ v. v.items ≡ c.new.result.items ++ map (aggregate seen) aggs) (λ v. v.items ≡ map (aggregate (all_rows of)) aggs)
    (list_all is_i128 (flat_map (agg_numbers seen) aggs)) (total_fits aggs of)
    (λ v e. e ∙ cells) (λ h. sym fits ∙ h) (λ h. sym fits ∙ h)
    c.push_aggregates.ensures
