-- The rows that are found are those of the output.
use Rattle.std.proofs.Common.{◌≡◌, ◌∙◌, refl, sym, ap, subst, filter}
use Rattle.au_value.specs.Ranges.{all_certain, all_overlap}
use Rattle.au_algebra.specs.Bounded.{RangeRow}
use Rattle.au_kfull.specs.Groups.{grouped_with}
use Rattle.au_kfull.specs.Keys.{keys_of, kinds, HasKeyKinds}
use Rattle.au_kfull.proofs.GroupRows.{hull_kinds}
use Rattle.au_kfull.proofs.grouping.output_grouping.Goals as goal

hull_is : (c : goal.After-deref) → c.deref.result.now ≡ (grouped_with c.args.keys c.args.rows.now c.args.belonging.now).box
hull_is c = c.deref.ensures.value ∙ c.in_ok-hull.ensures

pub hull_of-requires : goal.hull_of-requires
hull_of-requires c = (c.requires.group.one_kinds.0, c.requires.group.one_kinds.2)

pub members-requires-clause-kinds : goal.members-requires-clause-kinds
members-requires-clause-kinds c =
    let k = c.args.keys in
    let rows = c.args.rows.now in
    let own = c.requires.group.one_kinds in
    subst (λ box. HasKeyKinds k (kinds box) rows) (sym (hull_is c)) (hull_kinds k own.0 rows c.args.belonging.now c.requires.group.some own.1 own.2)

pub members-requires-clause-certain : goal.members-requires-clause-certain
members-requires-clause-certain c none =
    ap (λ box. filter (λ (r : RangeRow). all_overlap (keys_of c.args.keys r.cells) box) c.args.rows.now) (hull_is c)
    ∙ c.requires.group.certain (sym c.requires.unsure ∙ none)

pub returns : goal.returns
returns c =
    let k = c.args.keys in
    let rows = c.args.rows.now in
    let box = (grouped_with k rows c.args.belonging.now).box in
    let hull : c.in_ok-hull.hull.items ≡ box = c.in_ok-hull.ensures in
    record {
      keys_are = refl;
      box_is = hull;
      belonging_are = c.in_ok-belonging.ensures;
      members_are = c.in_ok-members.ensures ∙ ap (λ rs. filter (λ (r : RangeRow). all_overlap (keys_of k r.cells) rs) rows) (c.deref.ensures.value ∙ hull);
      certain_is = c.all_certain-is_certain.ensures ∙ ap all_certain (c.deref-2.ensures.value ∙ hull);
      guessed_is = c.has_guess-is_guessed.ensures;
    }
