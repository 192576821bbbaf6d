-- What the plan of Difference adds to the numbers of its inputs.
use Rattle.std.specs.Prelude.{◌≡◌, ℕ, ◌+◌, ◌*◌, [], ◌∷◌, length}
use Rattle.std.proofs.Common.{refl, sym}
use Rattle.au_algebra.specs.Bounded.{combine}
use Rattle.au_plain.specs.Plans.{PlanTree, Scan}
use Rattle.au_encode.specs.Encode.{encode, encoded_kinds}
use Rattle.au_rwexpr.proofs.Filled.{two_add, scan_gives}
use Rattle.au_rwdiff.specs.Adds.{AddsByDifference}
use Rattle.au_rwdiff.specs.Differences.{difference_plan}
use Rattle.au_rwdiff.proofs.Laws.{difference_gives}

module _ (c : ℕ) (left right p : PlanTree) (is : p ≡ difference_plan c left right) where
  pub difference_adds : AddsByDifference c left right p
  difference_adds tables ks xs ys long ok g h f =
      let rows = combine xs in
      let first = Scan 0 (3 * length ks + 3) in
      let second = Scan 1 (3 * length ks + 3) in
      let over = difference_plan c first second in
      let tk = encoded_kinds ks ∷ encoded_kinds ks ∷ [] in
      let ts = encode rows ∷ encode ys ∷ [] in
      let gives =
      difference_gives c first second over refl tk ts ks xs ys [] [] (g.held, (h.held, tt)) long ok
      (scan_gives tk ts 0 ks rows [] refl refl g.encodes.relation) (scan_gives tk ts 1 ks ys [] refl refl h.encodes.relation) in
      two_add tables left right (encode rows) (encode ys) g.encodes.encoded h.encodes.encoded over p (sym is) (gives.fit f)
