-- Where the keys of the rows that guess a point are certain, its row is Group's own.
use Rattle.std.specs.Prelude.{◌≡◌, ◌+◌, ◌<◌, Bool, true, false, not, ◌&&◌, ◌||◌, cond, nat_le, List, [], ◌∷◌, ◌++◌, length, map, filter, take}
use Rattle.std.specs.List.{AllByRecursion, AllZip, list_any}
use Rattle.std.proofs.Common.{arith, refl, sym, ◌∙◌, ap}
use Rattle.std.proofs.lemmas.Bool.{and_parts}
use Rattle.std.proofs.lemmas.List.{append-nil}
use Rattle.au_value.specs.declared.kinds.Kind.{Kind}
use Rattle.au_value.specs.declared.value.Value.{Value}
use Rattle.au_value.specs.Order.{at_most}
use Rattle.au_value.specs.Ranges.{Span, IsRangeOf, certain, is_certain, all_overlap, all_certain, guesses, range}
use Rattle.au_value.proofs.OrderLaws.{equal_is, equal_from}
use Rattle.au_annot.specs.Triples.{counts}
use Rattle.au_algebra.specs.declared.query.Agg.{Agg}
use Rattle.au_algebra.specs.Entries.{entry}
use Rattle.au_algebra.specs.Lists.{same_row}
use Rattle.au_algebra.specs.Bounded.{RangeRow, Bounded, Grouped, aggregate, group_by, group_counts, grouped, hull_of, most_of, output, present, some_of}
use Rattle.au_algebra.proofs.Copies.{same_row_is}
use Rattle.au_algebra.proofs.DistinctKeys.{Keys, Occurs, occurs_distinct}
use Rattle.au_algebra.proofs.Each as each
use Rattle.au_algebra.proofs.Each.{all_filter}
use Rattle.au_algebra.proofs.Filters.{filter_none}
use Rattle.au_algebra.proofs.GroupRelation.{keys_ranges}
use Rattle.au_points.specs.BesideGroup.{SameWhereCertain, SameWhereAllCertain}
use Rattle.au_points.specs.Points.{at_point, point_output, points_of, possible_row, other_outputs}
use Rattle.au_points.proofs.CertainRows.{own_some}
use Rattle.au_points.proofs.PointBasics.{certain_beside, hull_of_point}

-- a range that is certain is its guess alone
certain_is : (k : Kind) (r : Span) → IsRangeOf k r → is_certain r ≡ true → r ≡ certain r.sg
certain_is k r v c =
    let ends : r.lo ≡ r.hi = equal_is r.lo r.hi c in
    let above : at_most r.sg r.lo ≡ true = ap (at_most r.sg) ends ∙ v.range.sg_hi in
    let low : r.lo ≡ r.sg = equal_is r.lo r.sg (equal_from r.lo r.sg v.range.lo_sg above) in
    λ i. range (low i) r.sg ((sym ends ∙ low) i)

all_certain_are : (ks : List Kind) (rs : List Span) → AllZip IsRangeOf ks rs → all_certain rs ≡ true → rs ≡ map certain (guesses rs)
all_certain_are [] [] v c = refl
all_certain_are [] (r ∷ rs) v c = elim v [ ]
all_certain_are (k ∷ ks) [] v c = elim v [ ]
all_certain_are (k ∷ ks) (r ∷ rs) v c =
    let p = and_parts (is_certain r) (all_certain rs) c in
    λ i. certain_is k r v.0 p.0 i ∷ all_certain_are ks rs v.1 p.1 i

module _ (key : List Span → List Span) (ks : List Kind) where
  abbrev sure : RangeRow → Bool
  sure r = all_certain (key r.cells)

  boxes : (p : List Value) (q : Bounded) → AllByRecursion (λ r. AllZip IsRangeOf ks (key r.cells)) q → AllByRecursion (λ r. sure r ≡ true) q → AllByRecursion (λ r. same_row p (guesses (key r.cells)) ≡ true) q → AllByRecursion (λ cells. cells ≡ map certain p) (map (λ r. key r.cells) q)
  boxes p [] v c s = tt
  boxes p (r ∷ q) v c s =
      (all_certain_are ks (key r.cells) v.0 c.0 ∙ ap (map certain) (sym (same_row_is p (guesses (key r.cells)) s.0)), boxes p q v.1 c.1 s.1)

  boxes_some : (q : Bounded) → 0 < length q → 0 < length (map (λ r. key r.cells) q)
  boxes_some [] some = some
  boxes_some (r ∷ q) some = omega arith

  none_unsure : (q : Bounded) → AllByRecursion (λ r. sure r ≡ true) q → AllByRecursion (λ r. not (sure r) ≡ false) q
  none_unsure [] c = tt
  none_unsure (r ∷ q) c = (ap not c.0, none_unsure q c.1)

  some_sure : (q : Bounded) → AllByRecursion (λ r. sure r ≡ true) q → 0 < length q → list_any sure q ≡ true
  some_sure [] c some = let never : ⊥ = omega (arith, some) in absurd never
  some_sure (r ∷ q) c some = ap (λ b. b || list_any sure q) c.0

  most_one : (q : Bounded) → AllByRecursion (λ r. sure r ≡ true) q → 0 < length q → most_of (filter (λ r. not (sure r)) q) + some_of sure q ≡ 1
  most_one q c some = λ i. most_of (filter_none (λ r. not (sure r)) q (none_unsure q c) i) + cond (some_sure q c some i) 1 0

  module _ (aggs : List Agg) (rows : Bounded) (ranges : AllByRecursion (λ r. AllZip IsRangeOf ks (key r.cells)) rows) (p : List Value) where
    abbrev own : Bounded
    own = filter (λ r. same_row p (guesses (key r.cells))) rows

    module _ (some : 0 < length own) (certain_keys : AllByRecursion (λ r. sure r ≡ true) own) where
      box_is : hull_of (map (λ r. key r.cells) own) ≡ map certain p
      box_is =
          hull_of_point p (map (λ r. key r.cells) own)
          (boxes p own (all_filter (λ r. AllZip IsRangeOf ks (key r.cells)) (λ r. same_row p (guesses (key r.cells))) rows ranges) certain_keys (each.passing (λ r. same_row p (guesses (key r.cells))) rows))
          (boxes_some own some)

      abbrev with_box : List Span → (RangeRow → Bool) → Grouped
      with_box box certain_member = record {
        belonging = own;
        box = box;
        members = filter (λ r. all_overlap (key r.cells) box) rows;
        is_certain_member = certain_member;
        is_guessed = list_any (λ r. nat_le 1 r.annot.guess) own;
      }

      group_is : grouped key rows p ≡ at_point key rows p
      group_is =
          (λ i. with_box (box_is i) (λ r. all_certain (key r.cells) && all_certain (box_is i)))
          ∙ (λ i. with_box (map certain p) (λ r. sym (certain_beside (key r.cells) p) i))

      pub same_output : point_output key aggs rows p ≡ output key aggs rows p
      same_output =
          sym
          ((λ i. entry ((group_is i).box ++ map (aggregate (group_is i)) aggs) (group_counts key own))
          ∙ (λ i. entry (map certain p ++ map (aggregate (at_point key rows p)) aggs)
          (counts (some_of (λ r. sure r && nat_le 1 r.annot.least) own) (some_of (λ r. nat_le 1 r.annot.guess) own) (most_one own certain_keys some i))))

  -- ---- where all keys are certain

  outputs_same : (aggs : List Agg) (rows : Bounded) → AllByRecursion (λ r. AllZip IsRangeOf ks (key r.cells)) rows → AllByRecursion (λ r. sure r ≡ true) rows → (ps : Keys) → Occurs (map (λ r. guesses (key r.cells)) rows) ps → map (point_output key aggs rows) ps ≡ map (output key aggs rows) ps
  outputs_same aggs rows ranges c [] o = refl
  outputs_same aggs rows ranges c (p ∷ ps) o =
      let own = all_filter (λ r. sure r ≡ true) (λ r. same_row p (guesses (key r.cells))) rows c in
      λ i. same_output aggs rows ranges p (own_some key p rows o.0) own i ∷ outputs_same aggs rows ranges c ps o.1 i

  no_others : (aggs : List Agg) (rows : Bounded) → AllByRecursion (λ r. sure r ≡ true) rows → other_outputs key aggs rows ≡ []
  no_others aggs rows c = ap (λ q. group_by key aggs (map possible_row q)) (filter_none (λ r. not (sure r)) rows (none_unsure rows c))

  pub same_groups : (aggs : List Agg) (rows : Bounded) → AllByRecursion (λ r. AllZip IsRangeOf ks (key r.cells)) rows → AllByRecursion (λ r. sure r ≡ true) rows → present (map (point_output key aggs rows) (points_of key rows) ++ other_outputs key aggs rows) ≡ group_by key aggs rows
  same_groups aggs rows ranges c =
      ap (λ q. present (map (point_output key aggs rows) (points_of key rows) ++ q)) (no_others aggs rows c)
      ∙ ap present (append-nil (map (point_output key aggs rows) (points_of key rows)))
      ∙ ap present (outputs_same aggs rows ranges c (points_of key rows) (occurs_distinct (map (λ r. guesses (key r.cells)) rows)))

pub same_where_certain : SameWhereCertain
same_where_certain ks keys aggs rows point ok some c =
    same_output (take keys) (take keys ks) aggs rows (keys_ranges keys ks rows ok) point some c

pub same_where_all_certain : SameWhereAllCertain
same_where_all_certain ks keys aggs rows ok c = same_groups (take keys) (take keys ks) aggs rows (keys_ranges keys ks rows ok) c
