-- The plan of a compressed product gives it, whatever the order in which the plans of its sides gave their rows.
use Rattle.std.specs.Prelude.{◌≡◌, ℕ, ◌+◌, ◌*◌, ◌<◌, not, ◌&&◌, Bool, true, false, cond, List, [], ◌∷◌, ◌++◌, length, map, filter, flat_map, ℤ, pos}
use Rattle.std.specs.List.{AllByRecursion}
use Rattle.std.specs.List.Sorted.{IsPermutation}
use Rattle.std.proofs.Common.{arith, refl, sym, ◌∙◌, ap, subst, append-nil}
use Rattle.std.proofs.lemmas.Bool.{true≢false}
use Rattle.std.proofs.lemmas.List.{length-append}
use Rattle.std.proofs.lemmas.List.Concat.{flat_map-append}
use Rattle.au_value.specs.declared.kinds.Kind.{Kind}
use Rattle.au_value.specs.declared.value.Value.{Value}
use Rattle.au_annot.specs.Triples.{is_none, times}
use Rattle.au_expr.specs.Figures.{Fit}
use Rattle.au_expr.proofs.Fits.{fit_parts}
use Rattle.au_algebra.specs.Entries.{entry}
use Rattle.au_algebra.specs.Bounded.{Bounded, RangeRow, present, product, union}
use Rattle.au_algebra.specs.Fits.{triple_numbers, triples_fit}
use Rattle.au_algebra.specs.Laws.{IsRangeRow, IsRelation}
use Rattle.au_algebra.specs.Lists.{copies}
use Rattle.au_algebra.specs.Ordinary.{Rows}
use Rattle.au_algebra.proofs.Occurring.{same_map}
use Rattle.au_plain.specs.Plans.{PlanTree, Scan}
use Rattle.au_plan.proofs.UpToOrder.{all_same, same_filter}
use Rattle.au_encode.specs.Encode.{AreEncoded, IsEncoded, decode, decode_row, encode, encode_row}
use Rattle.au_encode.proofs.Decoded.{rows_back, rows_encoded}
use Rattle.au_rwcore.specs.Gives.{Multiplies, Unites}
use Rattle.au_compress.specs.CompressedFits.{part_numbers, product_numbers}
use Rattle.au_compress.specs.Kinds.{HasKinds}
use Rattle.au_compress.specs.Splitting.{compressed, compressed_fits, compressed_product, guess_part, guess_row}
use Rattle.au_compress.proofs.AnyOrder.{compressed_same, possible_same}
use Rattle.au_compress.proofs.Covered.{covered, has_kinds}
use Rattle.au_compress.proofs.GuessParts.{guess_relation}
use Rattle.au_compress.proofs.PossibleParts.{compressed_relation}
use Rattle.au_program.specs.Stages.{Adds, AddsCompressed, AddsPairs, AddsRelation, AreSides, CanRunPlan, Decodes, FindsRows, HasRows, HaveSides, LeavesCompressed, LeavesMultiplied, MultipliesCompressed, SameRows}
use Rattle.au_program.proofs.Reordered.{decoded_same}
use Rattle.au_program.proofs.RelationColumns.{have_columns}
use Rattle.au_program.proofs.StageRuns.{adds_relation}
use Rattle.au_program.proofs.StageSteps.{more_adds, scan_adds, two_adds}

-- ---- what a run found

-- its rows can be decoded
pub found_encoded : (held : List Rows) (p : PlanTree) (c : ℕ) (found : Rows) → CanRunPlan held p c → FindsRows held p c found → AreEncoded c found
found_encoded held p c found can finds =
    let ks = can.0 in
    let rows = can.1.0 in
    let ns = can.1.1.0 in
    let a = can.1.1.1 in
    let relation = adds_relation held p c ks rows ns a finds.0 in
    all_same (IsEncoded c) found (encode rows) (finds.1 ks rows ns a) (rows_encoded ks c rows relation (have_columns ks c rows a.columns relation))

-- and decode to the relation
pub decodes : (held : List Rows) (p : PlanTree) (c : ℕ) (found : Rows) (rel : Bounded) → rel ≡ decode c found → FindsRows held p c found → Decodes held p c rel
decodes held p c found rel is finds = (finds.0, λ ks rows ns a. (found, (is, finds.1 ks rows ns a)))

-- ---- a relation whose rows are those of another one

each_read : (Q : RangeRow → Type 0) (f : List Value → RangeRow) (vs : Rows) → AllByRecursion Q (map f vs) → AllByRecursion (λ v. Q (f v)) vs
each_read Q f [] h = tt
each_read Q f (v ∷ vs) h = (h.0, each_read Q f vs h.1)

all_read : (Q : RangeRow → Type 0) (f : List Value → RangeRow) (vs : Rows) → AllByRecursion (λ v. Q (f v)) vs → AllByRecursion Q (map f vs)
all_read Q f [] h = tt
all_read Q f (v ∷ vs) h = (h.0, all_read Q f vs h.1)

-- the guesses of decoded rows, as encoded rows
abbrev guess_of_row : ℕ → List Value → List Value
guess_of_row c v = encode_row (guess_row (decode_row c v))

abbrev is_guessed : ℕ → List Value → Bool
is_guessed c v = not (is_none (guess_row (decode_row c v)).annot)

guesses_encoded : (c : ℕ) (vs : Rows) → encode (guess_part (decode c vs)) ≡ map (guess_of_row c) (filter (is_guessed c) vs)
guesses_encoded c [] = refl
guesses_encoded c (v ∷ vs) =
    encoded_if (is_guessed c v) (guess_row (decode_row c v)) (guess_part (decode c vs)) v (filter (is_guessed c) vs) refl (guesses_encoded c vs)
  where
    encoded_if : (b : Bool) (r : RangeRow) (rest : Bounded) (w : List Value) (ws : Rows) → encode_row r ≡ guess_of_row c w → encode rest ≡ map (guess_of_row c) ws → encode (cond b (r ∷ rest) rest) ≡ map (guess_of_row c) (cond b (w ∷ ws) ws)
    encoded_if true r rest w ws e h = λ i. e i ∷ h i
    encoded_if false r rest w ws e h = h

module _ (c : ℕ) (rel rows : Bounded) (ks : List Kind) (long : length ks ≡ c) (relation : IsRelation ks rows) (has : HasRows c rel rows) where
  back : decode c (encode rows) ≡ rows
  back = rows_back c rows (have_columns ks c rows long relation)

  -- it is the same in another order
  pub reordered : IsPermutation rel rows
  reordered = subst (λ l. IsPermutation rel l) back (subst (λ l. IsPermutation l (decode c (encode rows))) (sym has.1.0) (decoded_same c has.0 (encode rows) has.1.1))

  -- it has the same kinds
  pub kinds_held : HasKinds ks rel
  kinds_held =
      has_kinds ks rel
      (subst (IsRelation ks) (sym has.1.0)
      (all_read (IsRangeRow ks) (decode_row c) has.0
      (all_same (λ v. IsRangeRow ks (decode_row c v)) has.0 (encode rows) has.1.1
      (each_read (IsRangeRow ks) (decode_row c) (encode rows) (subst (IsRelation ks) (sym back) relation)))))

  -- and so have its guesses
  pub guesses_same : SameRows (encode (guess_part rel)) (encode (guess_part rows))
  guesses_same v =
      ap (λ l. copies v (encode (guess_part l))) has.1.0
      ∙ ap (copies v) (guesses_encoded c has.0)
      ∙ same_map (guess_of_row c) (filter (is_guessed c) has.0) (filter (is_guessed c) (encode rows)) (same_filter (is_guessed c) has.0 (encode rows) has.1.1) v
      ∙ sym (ap (copies v) (guesses_encoded c (encode rows)))
      ∙ ap (λ l. copies v (encode (guess_part l))) back

  -- and what is possible
  pub possible_rows_same : (n : ℕ) → SameRows (encode (compressed n rel)) (encode (compressed n rows))
  possible_rows_same n v = ap (λ l. copies v (encode l)) (compressed_same n rel rows reordered)

  pub fits_same : (n : ℕ) → compressed_fits n rel ≡ compressed_fits n rows
  fits_same n = λ i. triples_fit (possible_same rel rows reordered i) && triples_fit (compressed_same n rel rows reordered i)

-- ---- the plans

-- the Scan of its encoded rows
pub relation_adds :
    (rel : Bounded) (c : ℕ) (held : Rows) (old new : List Rows) (p : PlanTree) (d : ℕ) → held ≡ encode rel → new ≡ old ++ held ∷ [] → d ≡ c → p ≡ Scan (length old) (3 * c + 3) →
    AddsRelation rel c old new p d
relation_adds rel c held old new p d is behind wide scan ks rows long relation same =
    let from_held : SameRows held (encode rows) = λ v. ap (copies v) is ∙ same v in
    subst (λ n. Adds old new p n ks rows []) (sym wide)
    (scan_adds old new held behind c ks rows long relation from_held p scan [])

-- the pairs of two
pub pairs_adds :
    (left : Bounded) (m : ℕ) (right : Bounded) (n : ℕ) (old mid new : List Rows) (p q made : PlanTree) (b c d : ℕ) → AddsRelation left m old mid p b → AddsRelation right n mid new q c →
    d ≡ b + c → Multiplies b c p q made → AddsPairs left m right n old new made d
pairs_adds left m right n old mid new p q made b c d first second wide step ks js xs ys lk lj rx ry sx sy =
    let f = first ks xs lk rx sx in
    let g = second js ys lj ry sy in
    let long : length (ks ++ js) ≡ d = length-append ks js ∙ omega (arith, f.columns, g.columns, wide) in
    two_adds p q made ks js (ks ++ js) xs ys (product xs ys) [] [] (triple_numbers (product xs ys))
    (λ tk tables fits l r. step tk tables ks js xs ys [] [] f.columns g.columns l r)
    old mid new b d c long f g

-- rows of which a copy is possible stay in a union
kept_if : (b : Bool) (r : RangeRow) (rest more : Bounded) → not (is_none r.annot) ≡ b → present (rest ++ more) ≡ rest ++ present more → present (cond b (r ∷ rest) rest ++ more) ≡ cond b (r ∷ rest) rest ++ present more
kept_if true r rest more e h = ap (λ t. cond t (r ∷ present (rest ++ more)) (present (rest ++ more))) e ∙ ap (λ l. r ∷ l) h
kept_if false r rest more e h = h

kept : (rows more : Bounded) → present (present rows ++ more) ≡ present rows ++ present more
kept [] more = refl
kept (r ∷ rows) more = kept_if (not (is_none r.annot)) r (present rows) more refl (kept rows more)

twice : (rows : Bounded) → present (present rows) ≡ present rows
twice rows = ap present (sym (append-nil (present rows))) ∙ kept rows [] ∙ append-nil (present rows)

present_both : (xs ys : Bounded) → present (present xs ++ present ys) ≡ present xs ++ present ys
present_both xs ys = kept xs (present ys) ∙ ap (λ l. present xs ++ l) (twice ys)

-- each pair, also those of which no copy is possible
abbrev each_pair : Bounded → Bounded → Bounded
each_pair xs ys = flat_map (λ x. map (λ y. entry (x.cells ++ y.cells) (times x.annot y.annot)) ys) xs

pub union_of_products : (a b c d : Bounded) → union (product a b) (product c d) ≡ product a b ++ product c d
union_of_products a b c d = present_both (each_pair a b) (each_pair c d)

-- the product of the guesses, and that of what is possible
pub compressed_pairs_adds :
    (size : ℕ) → 0 < size → (left : Bounded) (m : ℕ) (right : Bounded) (n : ℕ) (old mid new : List Rows) (p q made : PlanTree) (b c d : ℕ) →
    AddsPairs (guess_part left) m (guess_part right) n old mid p b → AddsPairs (compressed size left) m (compressed size right) n mid new q c → d ≡ b → Unites p q made →
    AddsCompressed size left m right n old new made d
compressed_pairs_adds size some left m right n old mid new p q made b c d first second wide step ks js xs ys are =
    let gx = guess_part xs in
    let gy = guess_part ys in
    let cx = compressed size xs in
    let cy = compressed size ys in
    let guesses = triple_numbers (product gx gy) in
    let possible = triple_numbers (product cx cy) in
    let f =
    first ks js gx gy are.left_columns are.right_columns (guess_relation ks xs are.left_relation) (guess_relation js ys are.right_relation)
    (guesses_same m left xs ks are.left_columns are.left_relation are.left_rows) (guesses_same n right ys js are.right_columns are.right_relation are.right_rows) in
    let g =
    second ks js cx cy are.left_columns are.right_columns (compressed_relation size some ks xs are.left_relation) (compressed_relation size some js ys are.right_relation)
    (possible_rows_same m left xs ks are.left_columns are.left_relation are.left_rows size) (possible_rows_same n right ys js are.right_columns are.right_relation are.right_rows size) in
    let whole : triple_numbers (product gx gy ++ product cx cy) ≡ guesses ++ possible = flat_map-append (λ r. pos r.annot.least ∷ pos r.annot.guess ∷ pos r.annot.most ∷ []) (product gx gy) (product cx cy) in
    more_adds old new made d (ks ++ js) (compressed_product size xs ys) (guesses ++ possible) (product_numbers size xs ys)
    (λ h.
    let parts = fit_parts (part_numbers size xs) (part_numbers size ys ++ triple_numbers (compressed_product size xs ys)) h in
    subst Fit whole (fit_parts (part_numbers size ys) (triple_numbers (compressed_product size xs ys)) parts.1).1)
    (subst (λ rows. Adds old new made d (ks ++ js) rows (guesses ++ possible)) (union_of_products gx gy cx cy)
    (two_adds p q made (ks ++ js) (ks ++ js) (ks ++ js) (product gx gy) (product cx cy) (union (product gx gy) (product cx cy)) guesses possible (guesses ++ possible)
    (λ tk tables fits l r. step tk tables (ks ++ js) (product gx gy) (product cx cy) guesses possible l r)
    old mid new b d c (f.columns ∙ sym wide) f g))

-- ---- what is asked of two sides

-- the kinds of each
pub left_kinds_held : (left : Bounded) (m : ℕ) (right : Bounded) (n : ℕ) → HaveSides left m right n → (ks : List Kind) × HasKinds ks left
left_kinds_held left m right n h =
    let are = h.1.1.1.1 in
    (h.0, kinds_held m left h.1.1.0 h.0 are.left_columns are.left_relation are.left_rows)

pub right_kinds_held : (left : Bounded) (m : ℕ) (right : Bounded) (n : ℕ) → HaveSides left m right n → (ks : List Kind) × HasKinds ks right
right_kinds_held left m right n h =
    let are = h.1.1.1.1 in
    (h.1.0, kinds_held n right h.1.1.1.0 h.1.0 are.right_columns are.right_relation are.right_rows)

-- a sum of greatest counts that leaves the range is a number of the product
pub parts_leave : (size : ℕ) (left : Bounded) (m : ℕ) (right : Bounded) (n : ℕ) → (compressed_fits size left && compressed_fits size right) ≡ false → LeavesCompressed size left m right n
parts_leave size left m right n out ks js xs ys are h =
    let parts = fit_parts (part_numbers size xs) (part_numbers size ys ++ triple_numbers (compressed_product size xs ys)) h in
    let more = fit_parts (part_numbers size ys) (triple_numbers (compressed_product size xs ys)) parts.1 in
    let l : compressed_fits size left ≡ true = fits_same m left xs ks are.left_columns are.left_relation are.left_rows size ∙ covered size xs parts.0 in
    let r : compressed_fits size right ≡ true = fits_same n right ys js are.right_columns are.right_relation are.right_rows size ∙ covered size ys more.0 in
    true≢false (sym (λ i. l i && r i) ∙ out)

module _ (lefts : List Rows) (p : PlanTree) (m : ℕ) (rights : List Rows) (q : PlanTree) (n : ℕ) (left right : Bounded) (of_left : Decodes lefts p m left) (of_right : Decodes rights q n right) where
  sides : (ks js : List Kind) (xs ys : Bounded) (ms ns : List ℤ) → Adds [] lefts p m ks xs ms → Adds [] rights q n js ys ns → AreSides left m right n ks js xs ys
  sides ks js xs ys ms ns a b = record {
    left_columns = a.columns;
    right_columns = b.columns;
    left_relation = adds_relation lefts p m ks xs ms a of_left.0;
    right_relation = adds_relation rights q n js ys ns b of_right.0;
    left_rows = of_left.1 ks xs ms a;
    right_rows = of_right.1 js ys ns b;
  }

  pub have_sides : CanRunPlan lefts p m → CanRunPlan rights q n → HaveSides left m right n
  have_sides c d = (c.0, (d.0, (c.1.0, (d.1.0, sides c.0 d.0 c.1.0 d.1.0 c.1.1.0 d.1.1.0 c.1.1.1 d.1.1.1))))

  pub multiplied : (size : ℕ) (old new : List Rows) (made : PlanTree) (d : ℕ) → AddsCompressed size left m right n old new made d → MultipliesCompressed size lefts p m rights q n old new made d
  multiplied size old new made d adds ks js xs ys ms ns a b = adds ks js xs ys (sides ks js xs ys ms ns a b)

  pub product_leaves : (size : ℕ) → LeavesCompressed size left m right n → LeavesMultiplied size lefts p m rights q n
  product_leaves size leaves ks js xs ys ms ns a b h =
      leaves ks js xs ys (sides ks js xs ys ms ns a b) (fit_parts ns (product_numbers size xs ys) (fit_parts ms (ns ++ product_numbers size xs ys) h).1).1
