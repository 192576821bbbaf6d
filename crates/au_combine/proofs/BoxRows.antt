-- The rows of boxes: the hull of each group's cells, and then the other aggregates.
use Rattle.std.specs.Prelude.{◌≡◌, ℕ, zero, suc, ◌+◌, ◌*◌, ◌<◌, List, [], ◌∷◌, ◌++◌, length, map, filter, Option, slice_get, unwrap_or, pos}
use Rattle.std.specs.List.{AllByRecursion}
use Rattle.std.proofs.Common.{arith, refl, sym, ◌∙◌, ap, subst, append_assoc}
use Rattle.std.proofs.lemmas.List.{length-append, length-map, map-append}
use Rattle.au_value.specs.declared.value.Value.{Value}
use Rattle.au_value.specs.declared.value.Value.TheVariants as value
use Rattle.au_value.specs.Ranges.{Span, range, certain, hull, hulls, guesses}
use Rattle.au_value.specs.Lists.{distinct}
use Rattle.au_algebra.specs.Lists.{same_row, least, greatest, value_at}
use Rattle.au_algebra.specs.Ordinary.{Rows}
use Rattle.au_algebra.specs.Bounded.{hull_of}
use Rattle.au_algebra.proofs.Copies.{same_row_is}
use Rattle.au_algebra.proofs.Items.{some_is}
use Rattle.au_algebra.proofs.Each.{all_filter, all_from}
use Rattle.au_plain.specs.declared.plan.PAgg.{PAgg}
use Rattle.au_plain.specs.declared.plan.PAgg.TheVariants.{Min, Max}
use Rattle.au_plain.specs.Plans.{PlanTree}
use Rattle.au_plain.specs.Meaning.{plain_rows, kept, plain_aggregate, plain_group}
use Rattle.au_encode.specs.Encode.{encode_cells}
use Rattle.au_combine.specs.Boxes.{sg_places, box_aggs, weave, boxes}
use Rattle.au_rwexpr.specs.Cells.{run}
use Rattle.au_rwexpr.proofs.Places.{At, at_more, at_past, EndsOfAll, ends_at}
use Rattle.au_rwexpr.proofs.Picks.{Picks, kept_are, picks_more}
use Rattle.au_combine.proofs.BoxPlaces.{map_at, at_own, at_within, box_aggs_long, box_low, box_high, weave_picks, run_picks}
use Rattle.au_rwexpr.proofs.Gives.{map_valid, map-map}
use Rattle.au_combine.proofs.Grouping.{group_made, map_groups}
use Rattle.au_rwexpr.proofs.Coded.{rl, rs, rh}

-- the cell of a column, and 0 past the last
abbrev pub cell : List Span → ℕ → Span
cell xs d = unwrap_or (slice_get xs d) (certain (value.Int (pos 0)))

pub hulls_at : (xs ys : List Span) (i : ℕ) (x y : Span) → At xs i x → At ys i y → At (hulls xs ys) i (hull x y)
hulls_at [] ys i x y h g = cc
hulls_at (a ∷ xs) [] i x y h g = cc
hulls_at (a ∷ xs) (b ∷ ys) zero x y h g = λ k. Option.Some (hull (some_is a x h k) (some_is b y g k))
hulls_at (a ∷ xs) (b ∷ ys) (suc i) x y h g = hulls_at xs ys i x y h g

module _ {S : Type 0} (cells : S → List Span) where
  -- the hull's column: the least lo, the first's guess and the greatest hi
  pub hull_at : (i : ℕ) (g : S) (gs : List S) → AllByRecursion (λ s. At (cells s) i (cell (cells s) i)) (g ∷ gs) → At (hull_of (map cells (g ∷ gs))) i (range (least (map (λ s. (cell (cells s) i).lo) (g ∷ gs))) (cell (cells g) i).sg (greatest (map (λ s. (cell (cells s) i).hi) (g ∷ gs))))
  hull_at i g [] v = v.0
  hull_at i g (s ∷ gs) v = hulls_at (cells g) (hull_of (map cells (s ∷ gs))) i (cell (cells g) i) _ v.0 (hull_at i s gs v.1)

  pub hulls_long : (k : ℕ) (xs ys : List Span) → length xs ≡ k → length ys ≡ k → length (hulls xs ys) ≡ k
  hulls_long k [] ys e h = e
  hulls_long k (x ∷ xs) [] e h = let never : ⊥ = omega (arith, e, h) in absurd never
  hulls_long zero (x ∷ xs) (y ∷ ys) e h = let never : ⊥ = omega (arith, e) in absurd never
  hulls_long (suc k) (x ∷ xs) (y ∷ ys) e h = omega (arith, hulls_long k xs ys (omega (arith, e)) (omega (arith, h)))

  pub hull_long : (k : ℕ) (g : S) (gs : List S) → AllByRecursion (λ s. length (cells s) ≡ k) (g ∷ gs) → length (hull_of (map cells (g ∷ gs))) ≡ k
  hull_long k g [] v = v.0
  hull_long k g (s ∷ gs) v = hulls_long k (cells g) (hull_of (map cells (s ∷ gs))) v.0 (hull_long k s gs v.1)

module _ {S : Type 0} (P : S → Type 0) (f : S → List Value) (cells : S → List Span) (k : ℕ) (there : (s : S) → P s → EndsOfAll rl rs rh (f s) 0 (cells s)) (long : (s : S) → P s → length (cells s) ≡ k) where
  -- the guesses by their places
  guess_picks : (row : List Value) (i k : ℕ) (xs : List Span) → length xs ≡ k → EndsOfAll rl rs rh row i xs → Picks row (sg_places i k) (guesses xs)
  guess_picks row i zero [] e z = tt
  guess_picks row i (suc k) [] e z = let never : ⊥ = omega (arith, e) in absurd never
  guess_picks row i zero (x ∷ xs) e z = let never : ⊥ = omega (arith, e) in absurd never
  guess_picks row i (suc k) (x ∷ xs) e z = (z.0.sg, guess_picks row (i + 3) k xs (omega (arith, e)) z.1)

  abbrev pub keys : S → List Value
  keys s = guesses (cells s)

  pub keys_are : (s : S) → P s → kept (sg_places 0 k) (f s) ≡ keys s
  keys_are s p = kept_are (f s) (sg_places 0 k) (keys s) (guess_picks (f s) 0 k (cells s) (long s p) (there s p))

  -- the columns of a cell
  at_cell : (d : ℕ) → d < k → (s : S) → P s → At (cells s) d (cell (cells s) d)
  at_cell d h s p = at_own (cells s) d (certain (value.Int (pos 0))) (omega (arith, h, long s p))

  read : (d m : ℕ) → d < k → m ≡ 0 + 3 * d → (s : S) → P s → (value_at (f s) m ≡ (cell (cells s) d).lo) × (value_at (f s) (m + 2) ≡ (cell (cells s) d).hi)
  read d m h e s p =
      let x = cell (cells s) d in
      let at = ends_at rl rs rh (f s) 0 d m (cells s) x (there s p) (at_cell d h s p) e in
      (ap (λ o. unwrap_or o (value.Int (pos 0))) at.lo, ap (λ o. unwrap_or o (value.Int (pos 0))) at.hi)

  module _ (extra : List PAgg) where
    abbrev places : List ℕ
    places = weave 0 k k ++ run (k + 2 * k) (length extra)

    abbrev aggs : List PAgg
    aggs = box_aggs 0 k ++ extra

    -- one group's row
    box_row : (key : List Value) (g : S) (gs : List S) → AllByRecursion P (g ∷ gs) → key ≡ keys g → kept places (key ++ map (plain_aggregate (map f (g ∷ gs))) aggs) ≡ encode_cells (hull_of (map cells (g ∷ gs))) ++ map (plain_aggregate (map f (g ∷ gs))) extra
    box_row key g gs v key_is =
        let all = g ∷ gs in
        let agg = plain_aggregate (map f all) in
        let row = key ++ map agg aggs in
        let box = hull_of (map cells all) in
        let key_long : length key ≡ k = ap length key_is ∙ length-map (cells g) (λ r. r.sg) ∙ long g v.0 in
        let box_long = hull_long cells k g gs (all_from P (λ s. length (cells s) ≡ k) all long v) in
        let pre = key ++ map agg (box_aggs 0 k) in
        let turned : pre ++ map agg extra ≡ row = append_assoc key (map agg (box_aggs 0 k)) (map agg extra) ∙ ap (λ q. key ++ q) (sym (map-append agg (box_aggs 0 k) extra)) in
        let pre_long : length pre ≡ k + 2 * k =
        length-append key (map agg (box_aggs 0 k)) ∙ (λ i. key_long i + (length-map (box_aggs 0 k) agg ∙ box_aggs_long 0 k) i) in
        let found : (d : ℕ) (x : Span) → At box d x → At row (0 + d) x.sg × At row (k + 2 * d) x.lo × At row (k + 2 * d + 1) x.hi =
        (λ d x at.
        (let lt : d < k = omega (arith, at_within box d x at, box_long) in
        let is : x ≡ range (least (map (λ s. (cell (cells s) d).lo) all)) (cell (cells g) d).sg (greatest (map (λ s. (cell (cells s) d).hi) all)) =
        some_is _ _ (sym at ∙ hull_at cells d g gs (all_from P (λ s. At (cells s) d (cell (cells s) d)) all (at_cell d lt) v)) in
        let low : agg (Min (0 + 3 * d)) ≡ x.lo =
        ap least (map-map f (λ r. value_at r (0 + 3 * d)) all ∙ map_valid P (λ s. value_at (f s) (0 + 3 * d)) (λ s. (cell (cells s) d).lo) all v (λ s p. (read d (0 + 3 * d) lt refl s p).0))
        ∙ ap (λ r. r.lo) (sym is) in
        let high : agg (Max (0 + 3 * d + 2)) ≡ x.hi =
        ap greatest (map-map f (λ r. value_at r (0 + 3 * d + 2)) all ∙ map_valid P (λ s. value_at (f s) (0 + 3 * d + 2)) (λ s. (cell (cells s) d).hi) all v (λ s p. (read d (0 + 3 * d) lt refl s p).1))
        ∙ ap (λ r. r.hi) (sym is) in
        let at_low = at_more (box_aggs 0 k) extra (2 * d) (Min (0 + 3 * d)) (box_low 0 k d (2 * d) (0 + 3 * d) lt refl refl) in
        let at_high = at_more (box_aggs 0 k) extra (2 * d + 1) (Max (0 + 3 * d + 2)) (box_high 0 k d (2 * d + 1) (0 + 3 * d + 2) lt refl refl) in
        let guess : At key d x.sg =
        subst (λ q. At q d x.sg) (sym key_is)
        (subst (λ r. At (keys g) d r.sg) (sym is) (map_at (λ r. r.sg) (cells g) d (cell (cells g) d) (at_cell d lt g v.0))) in (
          at_more key (map agg aggs) (0 + d) x.sg (subst (λ n. At key n x.sg) (let q : d ≡ 0 + d = omega arith in q) guess),
          at_past key (map agg aggs) (2 * d) (k + 2 * d) x.lo (omega (arith, key_long)) (subst (λ w. At (map agg aggs) (2 * d) w) low (map_at agg aggs (2 * d) (Min (0 + 3 * d)) at_low)),
          at_past key (map agg aggs) (2 * d + 1) (k + 2 * d + 1) x.hi (omega (arith, key_long)) (subst (λ w. At (map agg aggs) (2 * d + 1) w) high (map_at agg aggs (2 * d + 1) (Max (0 + 3 * d + 2)) at_high)),
        ))) in
        kept_are row places (encode_cells box ++ map agg extra)
        (picks_more row (weave 0 k k) (run (k + 2 * k) (length extra)) (encode_cells box) (map agg extra) (weave_picks rl rs rh row 0 k k box box_long found)
        (subst (λ r. Picks r (run (k + 2 * k) (length extra)) (map agg extra)) turned (run_picks agg pre extra (k + 2 * k) pre_long)))

    -- The rows of boxes over rows that are made from others.
    pub boxes_rows : (ts : List Rows) (p : PlanTree) (xs : List S) → AllByRecursion P xs → plain_rows p ts ≡ map f xs → plain_rows (boxes k extra p) ts ≡ map (λ key. encode_cells (hull_of (map cells (filter (λ s. same_row key (keys s)) xs))) ++ map (plain_aggregate (map f (filter (λ s. same_row key (keys s)) xs))) extra) (distinct same_row (map keys xs))
    boxes_rows ts p xs v g =
        let group = λ (key : List Value). filter (λ s. same_row key (keys s)) xs in
        ap (λ rows. map (kept places) (plain_group (sg_places 0 k) aggs rows)) g
        ∙ ap (map (kept places)) (group_made P f keys (sg_places 0 k) keys_are aggs xs v)
        ∙ map-map (λ key. key ++ map (plain_aggregate (map f (group key))) aggs) (kept places) (distinct same_row (map keys xs))
        ∙ map_groups keys xs (λ key. kept places (key ++ map (plain_aggregate (map f (group key))) aggs))
        (λ key. encode_cells (hull_of (map cells (group key))) ++ map (plain_aggregate (map f (group key))) extra)
        (λ key some.
        (let all = subst (λ ss. AllByRecursion P ss) some.is (all_filter P (λ s. same_row key (keys s)) xs v) in
        subst (λ ss. kept places (key ++ map (plain_aggregate (map f ss)) aggs) ≡ encode_cells (hull_of (map cells ss)) ++ map (plain_aggregate (map f ss)) extra) (sym some.is)
        (box_row key some.first some.others all (same_row_is key (keys some.first) some.key_is))))
