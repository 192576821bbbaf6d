-- What is gathered makes the output.
use Rattle.std.proofs.Common.{◌≡◌, ◌<◌, ◌^◌, ◌++◌, ◌∙◌, sym, ap, subst, map, arith, rules}
use Rattle.std.proofs.lemmas.Grind.{common_steps}
use Rattle.std.specs.Prelude.{flat_map}
use Rattle.std.specs.List.{list_all}
use Rattle.std.proofs.lemmas.Bool.{and_from}
use borrow.Author.Tests.{lt-ltb}
use Rattle.au_value.specs.Numeral.{is_i128}
use Rattle.au_annot.specs.Counts.{count_fits}
use Rattle.au_algebra.specs.Bounded.{aggregate, group_counts}
use Rattle.au_algebra.specs.Entries.{entry}
use Rattle.au_kfull.specs.Groups.{grouped_with}
use Rattle.au_kfull.specs.Keys.{keys_of}
use Rattle.au_kfull.specs.Outputs.{made_output, made_fits}
use Rattle.au_kfull.proofs.DifferenceRows.{and_false}
use Rattle.au_kfull.proofs.Gathered.{can_all, seen_aggregate, seen_numbers}
use Rattle.au_kfull.proofs.output.output.Goals as goal

pub push_aggregates-requires : goal.push_aggregates-requires
push_aggregates-requires c =
    can_all c.args.keys c.args.rows.now c.args.belonging.now c.in_ok-hull.hull.items c.in_ok-hull.group c.in_ok-hull.ensures c.args.aggs.now c.requires.ready.out.aggregates

pub returns-in-Ok : goal.returns-in-Ok
unfolding made_output made_fits
returns-in-Ok c =
    let k = c.args.keys in
    let rows = c.args.rows.now in
    let aggs = c.args.aggs.now in
    let own = c.args.belonging.now in
    let g = grouped_with k rows own in
    let h = c.in_ok-hull.ensures in
    let group = c.in_ok-hull.group in
    let box = c.in_ok-hull.hull.items in
    let cells : c.in-Ok.cells.items ≡ g.box ++ map (aggregate g) aggs =
    c.in-Ok.ensures.0 ∙ (λ i. h.box_is i ++ map (λ a. seen_aggregate k rows own box group h a i) aggs) in
    let belonging = c.deref.ensures.value ∙ h.belonging_are in
    let triple : c.in_ok-triple.triple ≡ group_counts (keys_of k) g.belonging = c.in_ok-triple.ensures.1 ∙ ap (group_counts (keys_of k)) belonging in
    let most = subst (λ rs. (group_counts (keys_of k) rs).most < 2 ^ 127) belonging c.in_ok-triple.ensures.0 in
    let numbers = (λ i. list_all is_i128 (flat_map (λ a. sym (seen_numbers k rows own box group h a) i) aggs)) ∙ c.in-Ok.ensures.1 in (
      (λ i. entry (cells i) (triple i)),
      and_from (count_fits (group_counts (keys_of k) g.belonging).most) _ (lt-ltb (group_counts (keys_of k) g.belonging).most (2 ^ 127) most) numbers,
    )

pub returns-in_err-triple : goal.returns-in_err-triple
unfolding made_fits
returns-in_err-triple c =
    let belonging = c.deref.ensures.value ∙ c.in_ok-hull.ensures.belonging_are in
    first_of (search rules, grind (arith, common_steps))

pub returns : goal.returns
unfolding made_fits
returns c e =
    let k = c.args.keys in
    let rows = c.args.rows.now in
    let own = c.args.belonging.now in
    let g = grouped_with k rows own in
    let numbers = (λ i. list_all is_i128 (flat_map (λ a. sym (seen_numbers k rows own c.in_ok-hull.hull.items c.in_ok-hull.group c.in_ok-hull.ensures a) i) c.args.aggs.now)) ∙ c.in-Err.ensures e in
    and_false (count_fits (group_counts (keys_of k) g.belonging).most) _ numbers
