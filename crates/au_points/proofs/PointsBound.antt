-- Grouping by points bounds the groups: those with guessed keys go to their points, and the others have rows with unsure
-- keys alone.
use Rattle.std.specs.Prelude.{◌≡◌, ℕ, ◌+◌, ◌≤◌, ◌<◌, Bool, true, false, not, cond, List, [], ◌∷◌, ◌++◌, length, map, filter, nat_le, nat_lt}
use Rattle.std.specs.List.{AllByRecursion, AllZip, list_any}
use Rattle.std.proofs.Common.{arith, refl, sym, ◌∙◌, ap, subst, inl, inr}
use Rattle.std.proofs.lemmas.List.{length-map}
use Rattle.std.proofs.lemmas.Bool.{and_parts, and_from, cases_Bool, cases_lt, lt-ltb, ltb-true, ltb-false, leb-true, true≢false}
use Rattle.au_value.specs.declared.kinds.Kind.{Kind}
use Rattle.au_value.specs.declared.value.Value.{Value}
use Rattle.au_value.specs.Ranges.{Span, certain, all_hold, all_overlap, all_certain, guesses}
use Rattle.au_value.specs.Lists.{distinct}
use Rattle.au_algebra.specs.declared.query.Agg.{Agg}
use Rattle.au_algebra.specs.Lists.{same_row, copies}
use Rattle.au_algebra.specs.Bounded.{RangeRow, Bounded, aggregate, group_by, union}
use Rattle.au_algebra.specs.Ordinary as ordinary
use Rattle.au_algebra.specs.Ordinary.{Rows}
use Rattle.au_algebra.specs.Distribution.{Bounds}
use Rattle.au_algebra.specs.Laws.{IsRangeRow, IsRelation}
use Rattle.au_algebra.proofs.Spread.{Takes, Bounds-Spread, Spread-Bounds}
use Rattle.au_algebra.proofs.Parts.{Held, joined, Parted, Spread-Parted, Parted-Spread, bounds_up_to_order}
use Rattle.au_algebra.proofs.Occurring.{SameCopies, copies-filter, map_occurs, first_occurs, source, same_map}
use Rattle.au_algebra.proofs.Places.{At, at_first, at_later, at_takes, at_copies, Place, place_of, passing, row_keys, is_sure, is_sure_there}
use Rattle.au_algebra.proofs.SharedKeys.{shares_together}
use Rattle.au_algebra.proofs.AggregateRanges.{IsFitting, aggregates_hold, all_unless_sum}
use Rattle.au_algebra.proofs.Members as members
use Rattle.au_algebra.proofs.GroupHomes as homes
use Rattle.au_algebra.proofs.Outputs.{row_of}
use Rattle.au_algebra.proofs.Copies.{same_row_is, copies-cons, copies-append, same_row_refl, counted_equal}
use Rattle.au_algebra.proofs.Choices.{cond_plus}
use Rattle.au_algebra.proofs.Each as each
use Rattle.au_algebra.proofs.Each.{all_filter, all_from}
use Rattle.au_algebra.proofs.Cells.{hold_append}
use Rattle.au_algebra.proofs.Hulls.{KeysWide}
use Rattle.au_algebra.proofs.KeptByGroup.{group_by_bounds}
use Rattle.au_algebra.proofs.KeptBySelect.{union_bounds}
use Rattle.au_algebra.proofs.MergedBy.{pick_parts, takes_picked}
use Rattle.au_algebra.proofs.DistinctKeys.{Keys, Occurs, none_twice_distinct, occurs_distinct, none_twice_filter, still_occurs, once}
use Rattle.au_points.specs.Points.{at_point, point_output, points_of, unsure_rows, other_rows, group_by_points}
use Rattle.au_points.proofs.PointBasics.{hold_themselves, certain_beside}
use Rattle.au_points.proofs.Possible.{same_aggregates, distinct_none, bounds_behind, possible_asks, possible_relation, possible_takes, possible_each, groups_ask}

-- ---- lists

some_length : (v : List Value) (p : Rows) → 0 < copies v p → 0 < length p
some_length v [] some = some
some_length v (x ∷ p) some = omega arith

-- what passes of each part is what passes of all together
joined-filter : (test : List Value → Bool) (v : List Value) (ps : List Rows) → copies v (joined (map (filter test) ps)) ≡ cond (test v) (copies v (joined ps)) 0
joined-filter test v [] = elim (cases_Bool (test v)) [
  | inl t ↦ ap (λ b. cond b 0 0) (sym t)
  | inr f ↦ ap (λ b. cond b 0 0) (sym f)
]
joined-filter test v (p ∷ ps) =
    let whole = ap (λ n. cond (test v) n 0) (copies-append v p (joined ps)) in
    omega (arith, whole, cond_plus (test v) (copies v p) (copies v (joined ps)), copies-filter test v p, joined-filter test v ps, copies-append v (filter test p) (joined (map (filter test) ps)))

-- what passes a test and what does not are together the whole list
split_if : (b : Bool) (v : List Value) (f : List Value → List Value) (k : List Value) (xs ys zs : Keys) → copies v (map f xs) + copies v (map f ys) ≡ copies v (map f zs) → copies v (map f (cond b (k ∷ xs) xs)) + copies v (map f (cond (not b) (k ∷ ys) ys)) ≡ copies v (map f (k ∷ zs))
split_if true v f k xs ys zs e = omega (arith, e, copies-cons v (f k) (map f xs), copies-cons v (f k) (map f zs))
split_if false v f k xs ys zs e = omega (arith, e, copies-cons v (f k) (map f ys), copies-cons v (f k) (map f zs))

split : (test : List Value → Bool) (v : List Value) (f : List Value → List Value) (ks : Keys) → copies v (map f (filter test ks)) + copies v (map f (filter (λ k. not (test k)) ks)) ≡ copies v (map f ks)
split test v f [] = refl
split test v f (k ∷ ks) = split_if (test k) v f k (filter test ks) (filter (λ j. not (test j)) ks) ks (split test v f ks)

module _ (key : List Span → List Span) (key_of : List Value → List Value) (keeps : (cells : List Span) (v : List Value) → all_hold cells v ≡ true → all_hold (key cells) (key_of v) ≡ true) where
  -- whether the values have this key
  abbrev has : List Value → List Value → Bool
  has k = members.has_key key key_of keeps k

  abbrev is_unsure : RangeRow → Bool
  is_unsure r = not (is_sure key r)

  -- the guessed keys of a row occur
  pub guess_occurs : {r : RangeRow} {p : Rows} {rows : Bounded} {ps : List Rows} → At r p rows ps → 0 < copies (guesses (key r.cells)) (row_keys key rows)
  guess_occurs {r} (at_first {rows}) = first_occurs (guesses (key r.cells)) (row_keys key rows)
  guess_occurs {r} (at_later {s} {rows} a) =
      omega (arith, guess_occurs a, copies-cons (guesses (key r.cells)) (guesses (key s.cells)) (row_keys key rows))

  -- a row with certain keys has no copy whose key nobody guessed
  none_sure : (v : List Value) (r : RangeRow) (p : Rows) (rows : Bounded) (ps : List Rows) → is_sure key r ≡ true → AllZip Takes (r ∷ rows) (p ∷ ps) → homes.HoldsGuessedKeys key key_of keeps (r ∷ rows) → copies (key_of v) (row_keys key (r ∷ rows)) ≡ 0 → copies v p ≤ 0
  none_sure v r p rows ps sure z valid none = elim (cases_lt 0 (copies v p)) [
    | inl some ↦ (
        let k = key_of v in
        let copy : homes.certain_copy key key_of keeps k r p ≡ true = and_from _ _ sure (lt-ltb 0 (copies k (map key_of p)) (map_occurs key_of v p some)) in
        let own = homes.own_key key key_of keeps k (r ∷ rows) (p ∷ ps) at_first z valid copy in
        let there : 0 < copies k (row_keys key (r ∷ rows)) = subst (λ q. 0 < copies q (row_keys key (r ∷ rows))) (sym own) (first_occurs (guesses (key r.cells)) (row_keys key rows)) in
        let never : ⊥ = omega (arith, there, none) in absurd never)
    | inr few ↦ few
  ]

  unsure_if : (b : Bool) (v : List Value) (p : Rows) (qs ps : List Rows) → (b ≡ true → copies v p ≤ 0) → copies v (joined qs) ≡ copies v (joined ps) → copies v (joined (cond (not b) (p ∷ qs) qs)) ≡ copies v (joined (p ∷ ps))
  unsure_if true v p qs ps none e = omega (arith, e, none refl, copies-append v p (joined ps))
  unsure_if false v p qs ps none e = omega (arith, e, copies-append v p (joined qs), copies-append v p (joined ps))

  -- all copies whose key nobody guessed lie in rows with unsure keys
  unsure_copies : (v : List Value) (rows : Bounded) (ps : List Rows) → AllZip Takes rows ps → homes.HoldsGuessedKeys key key_of keeps rows → copies (key_of v) (row_keys key rows) ≡ 0 → copies v (joined (pick_parts is_unsure rows ps)) ≡ copies v (joined ps)
  unfolding pick_parts
  unsure_copies v [] [] z valid none = refl
  unsure_copies v [] (p ∷ ps) z valid none = elim z [ ]
  unsure_copies v (r ∷ rows) [] z valid none = elim z [ ]
  unsure_copies v (r ∷ rows) (p ∷ ps) z valid none =
      let later : copies (key_of v) (row_keys key rows) ≡ 0 = omega (arith, none, copies-cons (key_of v) (guesses (key r.cells)) (row_keys key rows)) in
      unsure_if (is_sure key r) v p (pick_parts is_unsure rows ps) ps (λ sure. none_sure v r p rows ps sure z valid none) (unsure_copies v rows ps z.1 valid.1 later)

  module _ (ks : List Kind) (aggs : List Agg) (fit : AllByRecursion (IsFitting ks) aggs) (n : ℕ) (rows : Bounded) (ok : IsRelation ks rows) (wide : KeysWide key n rows) (valid : homes.HoldsGuessedKeys key key_of keeps rows) (ps : List Rows) (w : Rows) (z : AllZip Takes rows ps) (same : SameCopies (joined ps) w) where
    -- the keys of the world's rows
    abbrev world_keys : Keys
    world_keys = map key_of w

    -- the rows of the world that have a key
    abbrev group_of : List Value → Rows
    group_of k = filter (has k) w

    some_group : (k : List Value) → 0 < copies k world_keys → 0 < length (group_of k)
    some_group k some =
        let s = source key_of k w some in
        let passes : has k s.row ≡ true = ap (same_row k) (sym s.value) ∙ same_row_refl k in
        let kept = copies-filter (has k) s.row w ∙ ap (λ b. cond b (copies s.row w) 0) passes in
        some_length s.row (group_of k) (omega (arith, kept, s.occurs))

    -- whether somebody guesses these keys
    abbrev is_point : List Value → Bool
    is_point k = nat_lt 0 (copies k (row_keys key rows))

    -- the keys of all groups, of those with guessed keys, and of the others
    abbrev groups : Keys
    groups = distinct same_row world_keys

    abbrev guessed_groups : Keys
    guessed_groups = filter is_point groups

    abbrev other_groups : Keys
    other_groups = filter (λ k. not (is_point k)) groups

    -- ---- the points

    -- the groups that go to a point
    abbrev groups_at : List Value → Keys
    groups_at g = filter (λ k. same_row k g) guessed_groups

    -- the aggregates of a point hold the values over its group
    pub point_aggregates : (g : List Value) → 0 < copies g world_keys → all_hold (map (aggregate (at_point key rows g)) aggs) (map (ordinary.aggregate (filter (λ row. same_row g (key_of row)) w)) aggs) ≡ true
    point_aggregates g some =
        let out = at_point key rows g in
        let inside = hold_themselves g in
        let parts = members.group_parts key key_of keeps out g inside rows ps in
        let gives = members.members_give key key_of keeps out g inside (λ r. certain_beside (key r.cells) g) rows ps z in
        let together : SameCopies (joined parts) (group_of g) = λ v.
        (members.group_together key key_of keeps out g inside v rows ps z ∙ ap (λ m. cond (has g v) m 0) (same v) ∙ sym (copies-filter (has g) v w)) in
        aggregates_hold ks out parts (group_of g) (all_filter (IsRangeRow ks) (λ r. all_overlap (key r.cells) out.box) rows ok) gives together aggs fit (all_unless_sum (0 < length (group_of g)) aggs (some_group g some))

    point_holds : (g : List Value) → 0 < copies g world_keys → all_hold (point_output key aggs rows g).cells (row_of key_of aggs w g) ≡ true
    point_holds g some =
        hold_append (map certain g) (map (aggregate (at_point key rows g)) aggs) g (map (ordinary.aggregate (filter (λ row. same_row g (key_of row)) w)) aggs) (hold_themselves g) (point_aggregates g some)

    held_if : (b : Bool) (g k : List Value) (more : Keys) → same_row k g ≡ b → 0 < copies k world_keys → Held (point_output key aggs rows g) (map (row_of key_of aggs w) more) → Held (point_output key aggs rows g) (map (row_of key_of aggs w) (cond b (k ∷ more) more))
    held_if true g k more e some h =
        (subst (λ q. all_hold (point_output key aggs rows q).cells (row_of key_of aggs w k) ≡ true) (same_row_is k g e) (point_holds k some), h)
    held_if false g k more e some h = h

    all_held : (g : List Value) (more : Keys) → Occurs world_keys more → Held (point_output key aggs rows g) (map (row_of key_of aggs w) (filter (λ k. same_row k g) more))
    all_held g [] o = tt
    all_held g (k ∷ more) o = held_if (same_row k g) g k (filter (λ j. same_row j g) more) refl o.0 (all_held g more o.1)

    -- one group goes to a point at most
    one_group : (g : List Value) → length (groups_at g) ≤ 1
    one_group g =
        homes.no_longer (groups_at g) (g ∷ []) (none_twice_filter (λ k. same_row k g) guessed_groups (none_twice_filter is_point groups (none_twice_distinct world_keys)))
        (all_from (λ k. same_row k g ≡ true) (λ k. 0 < copies k (g ∷ [])) (groups_at g) (λ k e. omega (arith, copies-cons k g [], counted_equal k g e)) (each.passing (λ k. same_row k g) guessed_groups))

    -- a row that belongs and has certain keys gives the point its group
    its_group : (g : List Value) (r : RangeRow) (p : Rows) → At r p rows ps → same_row g (guesses (key r.cells)) ≡ true → is_sure_there key r ≡ true → 0 < length (groups_at g)
    its_group g r [] a b h =
        let c = and_parts (all_certain (key r.cells)) (nat_le 1 r.annot.least) h in
        let never : ⊥ = omega (arith, (at_takes a z).least, leb-true 1 r.annot.least c.1) in absurd never
    its_group g r (x ∷ p) a b h =
        let k = key_of x in
        let c = and_parts (all_certain (key r.cells)) (nat_le 1 r.annot.least) h in
        let copy : homes.certain_copy key key_of keeps k r (x ∷ p) ≡ true = and_from _ _ c.0 (lt-ltb 0 (copies k (map key_of (x ∷ p))) (first_occurs k (map key_of p))) in
        let own = homes.own_key key key_of keeps k rows ps a z valid copy in
        let is_g : k ≡ g = own ∙ sym (same_row_is g (guesses (key r.cells)) b) in
        let there : 0 < copies x w = omega (arith, same x, at_copies x a (first_occurs x p)) in
        let among = still_occurs k world_keys (map_occurs key_of x w there) in
        let point : is_point k ≡ true = lt-ltb 0 (copies k (row_keys key rows)) (subst (λ q. 0 < copies q (row_keys key rows)) (sym own) (guess_occurs a)) in
        let kept = copies-filter is_point k groups ∙ ap (λ q. cond q (copies k groups) 0) point in
        let comes : same_row k g ≡ true = ap (same_row k) (sym is_g) ∙ same_row_refl k in
        let all = copies-filter (λ j. same_row j g) k guessed_groups ∙ ap (λ q. cond q (copies k guessed_groups) 0) comes in
        some_length k (groups_at g) (omega (arith, all, kept, among))

    least_if : (b : Bool) (g : List Value) → list_any (is_sure_there key) (at_point key rows g).belonging ≡ b → cond b 1 0 ≤ length (groups_at g)
    least_if true g e =
        let f = passing (is_sure_there key) (λ r. same_row g (guesses (key r.cells))) rows ps z e in
        omega (arith, its_group g f.row f.part f.place f.kept f.passes)
    least_if false g e = omega arith

    point_takes : (g : List Value) → Takes (point_output key aggs rows g) (map (row_of key_of aggs w) (groups_at g))
    point_takes g = record {
      held = all_held g guessed_groups (all_filter (λ k. 0 < copies k world_keys) is_point groups (occurs_distinct world_keys));
      least = omega (arith, least_if (list_any (is_sure_there key) (at_point key rows g).belonging) g refl, length-map (groups_at g) (row_of key_of aggs w));
      most = omega (arith, one_group g, length-map (groups_at g) (row_of key_of aggs w));
    }

    points_take : (gs : Keys) → AllZip Takes (map (point_output key aggs rows) gs) (map (λ g. map (row_of key_of aggs w) (groups_at g)) gs)
    points_take [] = tt
    points_take (g ∷ gs) = (point_takes g, points_take gs)

    -- the points bound the groups with guessed keys
    points_parted : Parted (map (point_output key aggs rows) (points_of key rows)) (map (row_of key_of aggs w) guessed_groups)
    points_parted = record {
      parts = map (λ g. map (row_of key_of aggs w) (groups_at g)) (points_of key rows);
      takes = points_take (points_of key rows);
      together = λ v. shares_together v (row_of key_of aggs w) (λ k. k) guessed_groups (points_of key rows)
          (all_from (λ k. is_point k ≡ true) (λ k. copies k (points_of key rows) ≡ 1) guessed_groups (λ k e. once k (row_keys key rows) (ltb-true 0 (copies k (row_keys key rows)) e)) (each.passing is_point groups));
    }

    -- ---- the others

    abbrev unsure : Bounded
    unsure = unsure_rows key rows

    abbrev unsure_parts : List Rows
    unsure_parts = pick_parts is_unsure rows ps

    unsure_take : AllZip Takes unsure unsure_parts
    unsure_take = takes_picked is_unsure rows ps z

    not_guessed : (b : Bool) (k : List Value) → is_point k ≡ b → not b ≡ true → copies k (row_keys key rows) ≡ 0
    not_guessed true k e h = absurd (true≢false (sym h))
    not_guessed false k e h = omega (arith, ltb-false 0 (copies k (row_keys key rows)) e)

    -- a copy of the group of this key, in a row with unsure keys
    record OtherCopy (k : List Value) : Type 0 where
      row : List Value
      value : k ≡ key_of row
      place : Place row unsure unsure_parts

    other_copy : (k : List Value) → 0 < copies k world_keys → not (is_point k) ≡ true → OtherCopy k
    other_copy k some other =
        let s = source key_of k w some in
        let none = subst (λ q. copies q (row_keys key rows) ≡ 0) s.value (not_guessed (is_point k) k refl other) in
        let here = unsure_copies s.row rows ps z valid none in
        record {
          row = s.row;
          value = s.value;
          place = place_of s.row unsure unsure_parts unsure_take (omega (arith, here, same s.row, s.occurs));
        }

    other_together : (k : List Value) → not (is_point k) ≡ true → SameCopies (joined (map (filter (has k)) unsure_parts)) (group_of k)
    other_together k other v =
        joined-filter (has k) v unsure_parts ∙ same_if (has k v) refl ∙ sym (copies-filter (has k) v w)
      where
        same_if : (b : Bool) → has k v ≡ b → cond b (copies v (joined unsure_parts)) 0 ≡ cond b (copies v w) 0
        same_if true e =
            let none = subst (λ q. copies q (row_keys key rows) ≡ 0) (same_row_is k (key_of v) e) (not_guessed (is_point k) k refl other) in
            unsure_copies v rows ps z valid none ∙ same v
        same_if false e = refl

    -- ---- all groups

    -- rows that bound the groups whose keys nobody guessed bound, beside the points, all groups
    all_by : (others : Bounded) → Bounds others (map (row_of key_of aggs w) other_groups) → Bounds (union (map (point_output key aggs rows) (points_of key rows)) others) (map (row_of key_of aggs w) groups)
    all_by others rest =
        let f = row_of key_of aggs w in
        let points = map (point_output key aggs rows) (points_of key rows) in
        let there = Spread-Bounds points (map f guessed_groups) (Parted-Spread points (map f guessed_groups) points_parted) in
        bounds_up_to_order (union points others) (map f guessed_groups ++ map f other_groups) (map f groups)
        (λ v. copies-append v (map f guessed_groups) (map f other_groups) ∙ split is_point v f groups)
        (union_bounds points others (map f guessed_groups) (map f other_groups) there rest)

    abbrev loose : Bounded
    loose = other_rows key rows

    -- the copies in the rows with unsure keys, and the keys of their groups
    abbrev loose_world : Rows
    loose_world = joined unsure_parts

    abbrev loose_groups : Keys
    loose_groups = distinct same_row (map key_of loose_world)

    loose_bound : Bounds (group_by key aggs loose) (map (row_of key_of aggs loose_world) loose_groups)
    loose_bound =
        let takes = possible_takes unsure unsure_parts unsure_take in
        let ok_loose = possible_relation ks unsure (all_filter (IsRangeRow ks) is_unsure rows ok) in
        let wide_loose = possible_each (λ cells. length (key cells) ≡ n) unsure (all_filter (λ r. length (key r.cells) ≡ n) is_unsure rows wide) in
        let valid_loose = possible_each (λ cells. all_hold (key cells) (guesses (key cells)) ≡ true) unsure (all_filter (λ r. all_hold (key r.cells) (guesses (key r.cells)) ≡ true) is_unsure rows valid) in
        group_by_bounds key key_of keeps ks aggs n loose loose_world fit ok_loose wide_loose valid_loose
        (Spread-Bounds loose loose_world (Parted-Spread loose loose_world (record { parts = unsure_parts; takes = takes; together = λ v. refl })))

    -- a key that nobody guessed occurs in these rows where it occurs at all
    occurs_loose : (k : List Value) → not (is_point k) ≡ true → 0 < copies k world_keys → 0 < copies k (map key_of loose_world)
    occurs_loose k other some =
        let c = other_copy k some other in
        subst (λ q. 0 < copies q (map key_of loose_world)) (sym c.value) (map_occurs key_of c.row loose_world (at_copies c.row c.place.place c.place.occurs))

    loose_occurs : (k : List Value) → not (is_point k) ≡ true → 0 < copies k (map key_of loose_world) → 0 < copies k world_keys
    loose_occurs k other some =
        let s = source key_of k loose_world some in
        let none = subst (λ q. copies q (row_keys key rows) ≡ 0) s.value (not_guessed (is_point k) k refl other) in
        let here = unsure_copies s.row rows ps z valid none in
        subst (λ q. 0 < copies q world_keys) (sym s.value) (map_occurs key_of s.row w (omega (arith, here, same s.row, s.occurs)))

    same_others_if : (b : Bool) (v : List Value) → is_point v ≡ b → cond (not b) (copies v loose_groups) 0 ≡ cond (not b) (copies v groups) 0
    same_others_if true v e = refl
    same_others_if false v e = elim (cases_lt 0 (copies v world_keys)) [
      | inl some ↦ once v (map key_of loose_world) (occurs_loose v (ap not e) some) ∙ sym (once v world_keys some)
      | inr none ↦ (
          let few : copies v (map key_of loose_world) ≤ 0 = elim (cases_lt 0 (copies v (map key_of loose_world))) [
            | inl some ↦ (let there = loose_occurs v (ap not e) some in let never : ⊥ = omega (arith, there, none) in absurd never)
            | inr less ↦ less
          ] in
          let a = distinct_none v (map key_of loose_world) few in
          let b = distinct_none v world_keys none in
          omega (arith, a, b))
    ]

    -- the other groups are those of these rows that nobody guessed
    same_others : SameCopies (filter (λ k. not (is_point k)) loose_groups) other_groups
    same_others v =
        copies-filter (λ k. not (is_point k)) v loose_groups ∙ same_others_if (is_point v) v refl ∙ sym (copies-filter (λ k. not (is_point k)) v groups)

    -- such a group has all its rows there
    loose_group : (k : List Value) → not (is_point k) ≡ true → SameCopies (filter (has k) loose_world) (group_of k)
    loose_group k other v = copies-filter (has k) v loose_world ∙ sym (joined-filter (has k) v unsure_parts) ∙ other_together k other v

    same_rows : (more : Keys) → AllByRecursion (λ k. not (is_point k) ≡ true) more → map (row_of key_of aggs loose_world) more ≡ map (row_of key_of aggs w) more
    same_rows [] other = refl
    same_rows (k ∷ more) other =
        λ i. (k ++ same_aggregates (filter (has k) loose_world) (group_of k) (loose_group k other.0) aggs i) ∷ same_rows more other.1 i

    others_bound : Bounds (group_by key aggs loose) (map (row_of key_of aggs w) other_groups)
    others_bound =
        let f = row_of key_of aggs loose_world in
        let known = filter is_point loose_groups in
        let others = filter (λ k. not (is_point k)) loose_groups in
        let same_list : SameCopies (map f loose_groups) (map f known ++ map (row_of key_of aggs w) other_groups) = λ v.
        (let e = same_map f others other_groups same_others v in
        let r = ap (copies v) (same_rows other_groups (each.passing (λ k. not (is_point k)) groups)) in
        omega (arith, e, r, split is_point v f loose_groups, copies-append v (map f known) (map (row_of key_of aggs w) other_groups))) in
        bounds_behind (group_by key aggs loose) (map f known) (map (row_of key_of aggs w) other_groups)
        (groups_ask key aggs loose (possible_asks unsure))
        (bounds_up_to_order (group_by key aggs loose) (map f loose_groups) (map f known ++ map (row_of key_of aggs w) other_groups) same_list loose_bound)

    all_bounded : Bounds (group_by_points key aggs rows) (map (row_of key_of aggs w) groups)
    all_bounded = all_by (group_by key aggs loose) others_bound

  -- grouping by points bounds the rows of the groups
  pub group_by_points_bounds : (ks : List Kind) (aggs : List Agg) (n : ℕ) (rows : Bounded) (w : Rows) → AllByRecursion (IsFitting ks) aggs → IsRelation ks rows → KeysWide key n rows → homes.HoldsGuessedKeys key key_of keeps rows → Bounds rows w → Bounds (group_by_points key aggs rows) (map (row_of key_of aggs w) (distinct same_row (map key_of w)))
  group_by_points_bounds ks aggs n rows w fit ok wide valid b =
      let k = Spread-Parted rows w (Bounds-Spread rows w b) in
      all_bounded ks aggs fit n rows ok wide valid k.parts w k.takes k.together
