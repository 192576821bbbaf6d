-- A sum's numbers lie in the range where its sums of magnitudes do.
use Rattle.std.proofs.Common.{◌≡◌, ◌∙◌, sym, ap}
use Rattle.std.specs.List.{list_all}
use Rattle.au_value.specs.Numeral.{is_i128}
use Rattle.au_algebra.specs.declared.query.Agg.TheVariants.{Sum}
use Rattle.au_algebra.specs.Bounded.{aggregate}
use Rattle.au_algebra.specs.Fits.{agg_numbers}
use Rattle.au_kfull.specs.Groups.{seen}
use Rattle.au_kfull.proofs.SumNumbers.{sum_numbers_fit}
use Rattle.au_kfull.proofs.aggregates.aggregate.Goals as goal

pub returns-in_ok-sum_range-in-Sum : goal.returns-in_ok-sum_range-in-Sum
returns-in_ok-sum_range-in-Sum c =
    let g = seen c.args.group.now in
    let e : c.args.agg ≡ Sum c.in-Sum.at = c.in-Sum.is in
    let h = c.in_ok-sum_range-in-Sum.ensures in
    (h.1 ∙ ap (aggregate g) (sym e), ap (λ a. list_all is_i128 (agg_numbers g a)) e ∙ sum_numbers_fit g c.in-Sum.at h.0)
