-- A map of cells and one of annotations that go along with the operators commutes with the general reading, rows of
-- annotation zero left out on both sides (Green, Karvounarakis, Tannen, PODS 2007). Where they keep kinds and validity, a
-- tree that can be evaluated over tables can be evaluated over their images.
use Rattle.std.specs.Prelude.{◌≡◌, List, map}
use Rattle.au_value.specs.declared.kinds.Kind.{Kind}
use Rattle.au_value.specs.declared.kinds.Kind.TheVariants.{Flag}
use Rattle.au_expr.specs.Evaluate.{Operators}
use Rattle.au_expr.specs.Related.{Related}
use Rattle.au_algebra.specs.Entries.{Entry, entry}
use Rattle.au_algebra.specs.Trees.{Tree}
use Rattle.au_algebra.specs.Positive.{Annotations, positive, present}
use Rattle.au_keval.specs.Reading.{IsPositiveOver}

-- cells of a kind stay of the kind, and each operator goes along
abbrev pub KeepsCells : {C D : Type 0} → (Kind → C → Type 0) → Operators C → Operators D → (C → D) → Type 0
KeepsCells is_kind c d f = Related (λ k x u. is_kind k x × (f x ≡ u)) c d

-- the image of a cell of a kind is of the kind
abbrev pub KeepsKinds : {C D : Type 0} → (Kind → C → Type 0) → (Kind → D → Type 0) → (C → D) → Type 0
KeepsKinds {C} is_kind has_kind f = (k : Kind) (x : C) → is_kind k x → has_kind k (f x)

-- the image of a valid annotation is valid
abbrev pub KeepsValid : {K L : Type 0} → (K → Type 0) → (L → Type 0) → (K → L) → Type 0
KeepsValid {K} is_valid to_valid h = (k : K) → is_valid k → to_valid (h k)

-- the truth of a flag is valid and goes along
abbrev pub KeepsTruth : {C D T U : Type 0} → (Kind → C → Type 0) → (T → Type 0) → (C → T) → (D → U) → (C → D) → (T → U) → Type 0
KeepsTruth {C} is_kind is_valid t u f g = (x : C) → is_kind Flag x → is_valid (t x) × (g (t x) ≡ u (f x))

-- the weights of valid truths go along
abbrev pub KeepsWeight : {T U K L : Type 0} → (T → Type 0) → (T → K) → (U → L) → (T → U) → (K → L) → Type 0
KeepsWeight {T} is_valid v w g h = (t : T) → is_valid t → h (v t) ≡ w (g t)

-- an operation goes along
abbrev pub KeepsOperation : {K L : Type 0} → (K → K → K) → (L → L → L) → (K → L) → Type 0
KeepsOperation {K} op to h = (k l : K) → h (op k l) ≡ to (h k) (h l)

-- the images of rows, without those of annotation zero
abbrev pub images : {C D K L : Type 0} → Operators D → Annotations D L → (C → D) → (K → L) → List (Entry C K) → List (Entry D L)
images d b f h rows = present d b (map (λ r. entry (map f r.cells) (h r.annot)) rows)

-- the images of a tree's rows are the tree's rows over the tables' images
abbrev pub Commutes : {C D K L : Type 0} → (Kind → C → Type 0) → (K → Type 0) → Operators C → Operators D → Annotations C K → Annotations D L → (C → D) → (K → L) → Type 0
Commutes {C} {D} {K} is_kind is_valid c d a b f h =
    (q : Tree) (ts : List (List (Entry C K))) →
    IsPositiveOver is_kind is_valid q ts →
    images d b f h (positive c a q ts) ≡ positive d b q (map (images d b f h) ts)

-- a tree that is positive over tables is positive over their images
abbrev pub StaysPositive : {C D K L : Type 0} → (Kind → C → Type 0) → (K → Type 0) → (Kind → D → Type 0) → (L → Type 0) → Operators D → Annotations D L → (C → D) → (K → L) → Type 0
StaysPositive {C} {D} {K} is_kind is_valid has_kind to_valid d b f h =
    (q : Tree) (ts : List (List (Entry C K))) →
    IsPositiveOver is_kind is_valid q ts → IsPositiveOver has_kind to_valid q (map (images d b f h) ts)
