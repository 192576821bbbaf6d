-- What the plan of Combine adds to the numbers of its input.
use Rattle.std.specs.Prelude.{◌≡◌, ℕ, ◌+◌, ◌*◌, [], ◌∷◌, length}
use Rattle.std.proofs.Common.{refl, sym}
use Rattle.au_plain.specs.Plans.{PlanTree, Scan}
use Rattle.au_encode.specs.Encode.{encode, encoded_kinds}
use Rattle.au_rwexpr.proofs.Filled.{one_adds, scan_gives}
use Rattle.au_combine.specs.Adds.{AddsByCombine}
use Rattle.au_combine.specs.Boxes.{combine_plan}
use Rattle.au_combine.proofs.Laws.{combine_gives}

module _ (c : ℕ) (of p : PlanTree) (is : p ≡ combine_plan c of) where
  pub combine_adds : AddsByCombine c of p
  combine_adds tables ks rows long g f =
      let scan = Scan 0 (3 * length ks + 3) in
      let over = combine_plan c scan in
      let tk = encoded_kinds ks ∷ [] in
      let ts = encode rows ∷ [] in
      let gives = combine_gives c scan over refl tk ts ks rows [] long (scan_gives tk ts 0 ks rows [] refl refl g.relation) in
      one_adds tables of (encode rows) g.encoded over p (sym is) (gives.fit f)
