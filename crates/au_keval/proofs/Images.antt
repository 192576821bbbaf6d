-- Maps that go along with the operators commute with the general reading.
use Rattle.std.specs.Prelude.{◌≡◌, Bool, true}
use Rattle.std.specs.List.{AllByRecursion}
use Rattle.std.proofs.Common.{sym, ◌∙◌, ap, subst}
use Rattle.au_value.specs.declared.kinds.Kind.{Kind}
use Rattle.au_annot.specs.Annotations.{IsPartialOrder, IsCommutativeSemiring, IsLeast}
use Rattle.au_expr.specs.Evaluate.{Operators}
use Rattle.au_algebra.specs.Typing.{kinds_of}
use Rattle.au_algebra.proofs.PositiveMaps.{KeepsOperations, IsValid, images-positive}
use Rattle.au_algebra.proofs.TreeRelation.{its_kinds}
use Rattle.au_algebra.proofs.Each.{all_from, zip_from}
use Rattle.au_keval.specs.Homs.{Commutes, KeepsOperation, KeepsCells, KeepsTruth, KeepsWeight}
use Rattle.au_keval.specs.Reading.{annotations, IsRow, IsRelationOver}

-- what is at most zero stays so under an operation that keeps zero
module _ {L : Type 0} (zero one : L) (plus times : L → L → L) (below : L → L → Bool) (order : IsPartialOrder below) (laws : IsCommutativeSemiring zero one plus times) (least : IsLeast below zero) where
  none_left : (k l : L) → below k zero ≡ true → below (times k l) zero ≡ true
  none_left k l h =
      subst (λ m. below m zero ≡ true) (sym (ap (λ m. times m l) (order.antisymmetric k zero h (least k)) ∙ laws.times_comm zero l ∙ laws.times_zero l)) (order.reflexive zero)

  none_right : (k l : L) → below l zero ≡ true → below (times k l) zero ≡ true
  none_right k l h =
      subst (λ m. below m zero ≡ true) (sym (ap (times k) (order.antisymmetric l zero h (least l)) ∙ laws.times_zero k)) (order.reflexive zero)

module _ {C D T U K L : Type 0} (V : Kind → C → Type 0) (valid : T → Type 0) (W : K → Type 0) (c : Operators C) (d : Operators D) (t : C → T) (u : D → U) (zero one : K) (plus times : K → K → K) (below : K → K → Bool) (weight : T → K) (zero' one' : L) (plus' times' : L → L → L) (below' : L → L → Bool) (weight' : U → L) (f : C → D) (g : T → U) (h : K → L) where
  -- the images of a tree's rows are the tree's rows over the images
  pub commutes : KeepsCells V c d f → KeepsTruth V valid t u f g → KeepsWeight valid weight weight' g h → h zero ≡ zero' → KeepsOperation times times' h → ((k l : K) → W k → W l → W (times k l)) → ((x : T) → valid x → W (weight x)) → IsPartialOrder below → IsLeast below zero → IsPartialOrder below' → IsCommutativeSemiring zero' one' plus' times' → IsLeast below' zero' → Commutes V W c d (annotations zero one plus times below weight t) (annotations zero' one' plus' times' below' weight' u) f h
  commutes cells truths weights keeps_zero keeps_times times_valid weight_valid order least order' laws' least' q ts over =
      let keeps : KeepsOperations V W c d (annotations zero one plus times below weight t) (annotations zero' one' plus' times' below' weight' u) f h = record {
        cells = cells;
        times = keeps_times;
        weight = λ x ok. let p = truths x ok in weights (t x) p.0 ∙ ap weight' p.1;
        valid_times = times_valid;
        valid_weight = λ x ok. weight_valid (t x) (truths x ok).0;
        none = λ k ok e. subst (λ m. below' m zero' ≡ true) (sym (ap h (order.antisymmetric k zero e (least k)) ∙ keeps_zero)) (order'.reflexive zero');
        none_left = none_left zero' one' plus' times' below' order' laws' least';
        none_right = none_right zero' one' plus' times' below' order' laws' least';
      } in
      let k = its_kinds (kinds_of over.kinds q) over.typed in
      let tables = zip_from (IsRelationOver V W) (λ ks rows. AllByRecursion (IsValid V W ks) rows) over.kinds ts
      (λ ks rows ok. all_from (IsRow V W ks) (IsValid V W ks) rows (λ r v. record { cells = v.cells; annot = v.annot }) ok) over.tables in
      images-positive V W c d (annotations zero one plus times below weight t) (annotations zero' one' plus' times' below' weight' u) f h keeps over.kinds ts tables q k.0 k.1
