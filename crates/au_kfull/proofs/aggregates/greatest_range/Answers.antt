-- The three values are those of the output.
use Rattle.std.proofs.Common.{◌≡◌, ◌∙◌, sym, ap, subst, filter, cond, IfOk}
use Rattle.std.specs.Prelude.{◌&&◌, nat_le}
use Rattle.au_value.specs.declared.extreme.Extreme.TheVariants.{Least, Greatest}
use Rattle.au_value.specs.Ranges.{IsRange, all_certain}
use Rattle.au_algebra.specs.Bounded.{RangeRow, guessed_there, surely_there, or_else}
use Rattle.au_algebra.proofs.Each.{all_filter}
use Rattle.au_kfull.specs.declared.sums.Bound.TheVariants.{Lower, Guess, Upper}
use Rattle.au_kfull.specs.Extremes.{extreme_of, values_at, HasColumn, HaveColumn}
use Rattle.au_kfull.specs.Groups.{seen}
use Rattle.au_kfull.specs.Keys.{keys_of}
use Rattle.au_kfull.proofs.ExtremeRanges.{greatest_whole}
use Rattle.au_kfull.proofs.aggregates.greatest_range.Goals as goal

pub farthest-lo-requires-clause-columns : goal.farthest-lo-requires-clause-columns
farthest-lo-requires-clause-columns c =
    let group = c.args.group.now in
    let test = λ (r : RangeRow). (all_certain (keys_of group.keys r.cells) && group.is_certain) && nat_le 1 r.annot.least in
    let have = c.requires.possible.columns in
    let sure = c.deref-3.ensures.value ∙ c.in_ok-sure.ensures ∙ ap (filter test) c.deref.ensures.value in (
      have.0,
      subst (HaveColumn have.0 c.args.at) (sym sure) (all_filter (HasColumn have.0 c.args.at) test group.members.items have.1),
      subst (HaveColumn have.0 c.args.at) (sym c.deref-4.ensures.value) have.1,
    )

pub guess-sg-requires-clause-columns : goal.guess-sg-requires-clause-columns
guess-sg-requires-clause-columns c =
    let group = c.args.group.now in
    let test = λ (r : RangeRow). nat_le 1 r.annot.guess in
    let have = c.requires.possible.columns in
    let guessed = c.deref-6.ensures.value ∙ c.in_ok-guessed.ensures ∙ ap (filter test) c.deref-2.ensures.value in
    (have.0, subst (HaveColumn have.0 c.args.at) (sym guessed) (all_filter (HasColumn have.0 c.args.at) test group.belonging.items have.2))

pub range-requires : goal.range-requires
range-requires c =
    let g = seen c.args.group.now in
    let at = c.args.at in
    let group = c.args.group.now in
    let test = λ (r : RangeRow). (all_certain (keys_of group.keys r.cells) && group.is_certain) && nat_le 1 r.annot.least in
    let sure : c.deref-3.result.now ≡ surely_there g = c.deref-3.ensures.value ∙ c.in_ok-sure.ensures ∙ ap (filter test) c.deref.ensures.value in
    let guessed : c.deref-6.result.now ≡ guessed_there g = c.deref-6.ensures.value ∙ c.in_ok-guessed.ensures ∙ ap (filter (λ (r : RangeRow). nat_le 1 r.annot.guess)) c.deref-2.ensures.value in
    let whole = greatest_whole g at c.farthest-lo.result.now c.guess-sg.result.now c.nearest-hi.result.now
    (c.farthest-lo.ensures ∙ (λ i. or_else (sure i) (extreme_of Greatest (values_at Lower at (sure i))) (extreme_of Least (values_at Lower at (c.deref-4.ensures.value i)))))
    (c.guess-sg.ensures ∙ ap (λ rows. cond g.is_guessed (extreme_of Greatest (values_at Guess at rows)) c.farthest-lo.result.now) guessed)
    (c.nearest-hi.ensures ∙ ap (λ rows. extreme_of Greatest (values_at Upper at rows)) c.deref-5.ensures.value) in
    subst IsRange (sym whole) c.requires.ordered

pub returns : goal.returns
returns c =
    let g = seen c.args.group.now in
    let at = c.args.at in
    let group = c.args.group.now in
    let test = λ (r : RangeRow). (all_certain (keys_of group.keys r.cells) && group.is_certain) && nat_le 1 r.annot.least in
    let sure : c.deref-3.result.now ≡ surely_there g = c.deref-3.ensures.value ∙ c.in_ok-sure.ensures ∙ ap (filter test) c.deref.ensures.value in
    let guessed : c.deref-6.result.now ≡ guessed_there g = c.deref-6.ensures.value ∙ c.in_ok-guessed.ensures ∙ ap (filter (λ (r : RangeRow). nat_le 1 r.annot.guess)) c.deref-2.ensures.value in
    let whole = greatest_whole g at c.farthest-lo.result.now c.guess-sg.result.now c.nearest-hi.result.now
    (c.farthest-lo.ensures ∙ (λ i. or_else (sure i) (extreme_of Greatest (values_at Lower at (sure i))) (extreme_of Least (values_at Lower at (c.deref-4.ensures.value i)))))
    (c.guess-sg.ensures ∙ ap (λ rows. cond g.is_guessed (extreme_of Greatest (values_at Guess at rows)) c.farthest-lo.result.now) guessed)
    (c.nearest-hi.ensures ∙ ap (λ rows. extreme_of Greatest (values_at Upper at rows)) c.deref-5.ensures.value) in
    subst (λ s. IfOk c.range.result (λ r. r ≡ s)) whole c.range.ensures
