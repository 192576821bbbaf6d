-- The parts of what the plans of two sides find, and the plan of the compressed product over them.
use Rattle.std.specs.Prelude.{◌≡◌, ◌+◌, ◌≤◌, ◌<◌, ◌*◌, ◌&&◌, ℕ, false, List, [], ◌∷◌, ◌++◌, length, map, Some}
use Rattle.std.proofs.Common.{⊎_elim, arith, inl, inr, refl, sym, ◌∙◌, ap, subst, append_assoc}
use Rattle.std.proofs.lemmas.List.{length-append}
use Rattle.au_value.specs.declared.kinds.Kind.{Kind}
use Rattle.au_expr.specs.Figures.{Fit, fit}
use Rattle.au_algebra.specs.Ordinary.{Rows}
use Rattle.au_algebra.specs.Trees.{Tree, Product}
use Rattle.au_algebra.specs.Typing.{IsTyped}
use Rattle.au_blocks.specs.Tables.{BlockTable, column_kinds}
use Rattle.au_compress.specs.Splitting.{compressed, compressed_fits, guess_part}
use Rattle.au_translate.specs.Translate.{bounded_table}
use Rattle.au_plain.specs.Plans.{PlanTree, Scan}
use Rattle.au_physical.specs.PhysicalKinds.{IsPhysicalFor}
use Rattle.au_physical.specs.PhysicalMeaning.{physical_rows}
use Rattle.au_physical.specs.PhysicalNumbers.{physical_numbers}
use Rattle.au_physical.specs.Physicals.{PhysicalTree, physical_tree}
use Rattle.au_encode.specs.Encode.{AreEncoded, decode, encode}
use Rattle.au_rwcore.specs.Gives.{Multiplies, Unites}
use Rattle.au_program.specs.Programs.{HoldsMore, IsReady, PairsAt, PairsParts, PlansTree, ScansPairs, numbers_over}
use Rattle.au_program.specs.Sources.{AreParts, Behind, Holds, LeftLeaves, PairsLeave, PairsOver, PartsLeave, RightLeaves, Stops, count, left_side, part_rows, right_side}
use Rattle.au_program.specs.Stages.{AddsCompressed, AddsPairs, AddsTree, CanRunPlan, Decodes, FindsRows, HaveSides, LeavesMultiplied, LeavesRange}
use Rattle.au_program.specs.declared.rules.Rules.{Rules}
use Rattle.au_program.specs.declared.sources.Sources.{Sources}
use Rattle.au_program.specs.declared.sources.Sources.TheVariants as code
use Rattle.au_program.proofs.CompressedPairs.{compressed_pairs_adds, decodes, found_encoded, have_sides, multiplied, pairs_adds, parts_leave, product_leaves, relation_adds}
use Rattle.au_program.proofs.FoundSteps.{own_can, own_leaves, own_part, own_runs, own_stops, ready_stands}
use Rattle.au_program.proofs.HeldSources.{holds_count}
use Rattle.au_program.proofs.PlanSteps.{compressed_adds, compressed_leaves, first_typed, second_typed}
use Rattle.au_program.proofs.StageRuns.{finds, leaves, startable}
use Rattle.au_program.proofs.TreeNumbers.{of_product}

-- ---- the plan over the parts

-- the pairs of two tables
pub table_pairs :
    (place m n : ℕ) (left right made : PlanTree) (b c d : ℕ) → b ≡ m → left ≡ Scan place (3 * m + 3) → c ≡ n → right ≡ Scan (place + 1) (3 * n + 3) → d ≡ b + c → Multiplies b c left right made →
    PairsAt place m n made d
table_pairs place m n left right made b c d bm first cn second wide step front l r long =
    let mid = front ++ encode l ∷ [] in
    let all = front ++ (encode l ∷ encode r ∷ []) in
    let behind : all ≡ mid ++ encode r ∷ [] = sym (append_assoc front (encode l ∷ []) (encode r ∷ [])) in
    let next : place + 1 ≡ length mid = omega (arith, length-append front (encode l ∷ []), long) in
    let of_left = relation_adds l m (encode l) front mid left b refl refl bm (first ∙ ap (λ k. Scan k (3 * m + 3)) (sym long)) in
    let of_right = relation_adds r n (encode r) mid all right c refl behind cn (second ∙ ap (λ k. Scan k (3 * n + 3)) next) in
    pairs_adds l m r n front mid all left right made b c d of_left of_right wide step

-- the pairs of the guesses, and those of what is possible
pub part_pairs :
    (place m n : ℕ) (guesses possible made : PlanTree) (b c d : ℕ) → PairsAt place m n guesses b → PairsAt (place + 2) m n possible c → d ≡ b → Unites guesses possible made →
    (size : ℕ) → 1 ≤ size → PairsParts size place m n made d
part_pairs place m n guesses possible made b c d first second wide step size some front l r long =
    let mid = front ++ (encode (guess_part l) ∷ encode (guess_part r) ∷ []) in
    let last = encode (compressed size l) ∷ encode (compressed size r) ∷ [] in
    let next : length mid ≡ place + 2 = omega (arith, length-append front (encode (guess_part l) ∷ encode (guess_part r) ∷ []), long) in
    let all = append_assoc front (encode (guess_part l) ∷ encode (guess_part r) ∷ []) last in
    let positive : 0 < size = omega (arith, some) in
    compressed_pairs_adds size positive l m r n front mid (front ++ part_rows size l r) guesses possible made b c d
    (first front (guess_part l) (guess_part r) long)
    (subst (λ rows. AddsPairs (compressed size l) m (compressed size r) n mid rows possible c) all (second mid (compressed size l) (compressed size r) next))
    wide step

-- ---- a side

-- what its plan finds over what its sources hold, when it is ready
module _ (rules : Rules) (kinds : List (List Kind)) (q : Tree) (typed : IsTyped kinds q) (own ready : Sources) (p : PlanTree) (c : ℕ) (plans : PlansTree rules kinds q code.Nothing own p c) (physical : PhysicalTree) (stands : IsReady own ready p physical)
    (ts : List BlockTable) (is : map column_kinds ts ≡ kinds) (held : List Rows) (h : Holds ts ready held)
  where
    abbrev more : HoldsMore ts own held stands.improved physical
    more = stands.reads.holds ts held h

    pub side_can : CanRunPlan more.whole p c
    side_can = own_can rules kinds q typed own p c plans ts is more.whole more.of

    pub side_starts : IsPhysicalFor held physical
    side_starts = startable more.whole held p c physical side_can (ready_stands own ready p physical stands ts held h)

    side_finds : FindsRows more.whole p c (physical_rows physical held)
    side_finds = finds more.whole held p c physical side_can (ready_stands own ready p physical stands ts held h) (physical_rows physical held) refl

    pub side_encoded : AreEncoded c (physical_rows physical held)
    side_encoded = found_encoded more.whole p c (physical_rows physical held) side_can side_finds

    pub side_decodes : Decodes more.whole p c (decode c (physical_rows physical held))
    side_decodes = decodes more.whole p c (physical_rows physical held) (decode c (physical_rows physical held)) refl side_finds

    pub side_leaves : fit (physical_numbers physical held) ≡ false → LeavesRange more.whole p c
    side_leaves out = leaves more.whole held p c physical side_can (ready_stands own ready p physical stands ts held h) out

-- ---- the product

module _ (rules : Rules) (kinds : List (List Kind)) (size : ℕ) (is_size : rules.compress ≡ Some size) (some : (1 ≤ size) × (size ≤ 1000)) (a b : Tree) (typed : IsTyped kinds (Product a b))
    (lefts rights old new : Sources) (left right made : PlanTree) (m n d : ℕ) (of_left : PlansTree rules kinds a code.Nothing lefts left m) (of_right : PlansTree rules kinds b code.Nothing rights right n)
    (s : ScansPairs size lefts left m rights right n old new made d)
  where
    a_typed : IsTyped kinds a
    a_typed = first_typed kinds a b typed

    b_typed : IsTyped kinds b
    b_typed = second_typed kinds a b typed

    abbrev lp : PhysicalTree
    lp = physical_tree s.pairing.left

    abbrev rp : PhysicalTree
    rp = physical_tree s.pairing.right

    module _ (ts : List BlockTable) (is : map column_kinds ts ≡ kinds) where
      -- what both sides find
      module _ (ls : List Rows) (hl : Holds ts s.ready_lefts ls) where
        abbrev wl : List Rows
        wl = (s.left_stands.reads.holds ts ls hl).whole

        left_holds : Holds ts lefts wl
        left_holds = (s.left_stands.reads.holds ts ls hl).of

        left_can : CanRunPlan wl left m
        left_can = side_can rules kinds a a_typed lefts s.ready_lefts left m of_left lp s.left_stands ts is ls hl

        left_decodes : Decodes wl left m (left_side s.pairing ls)
        left_decodes =
            subst (λ c. Decodes wl left m (decode c (physical_rows lp ls))) (sym s.left_columns)
            (side_decodes rules kinds a a_typed lefts s.ready_lefts left m of_left lp s.left_stands ts is ls hl)

        left_encoded : AreEncoded s.pairing.left_columns (physical_rows lp ls)
        left_encoded = subst (λ c. AreEncoded c (physical_rows lp ls)) (sym s.left_columns) (side_encoded rules kinds a a_typed lefts s.ready_lefts left m of_left lp s.left_stands ts is ls hl)

      module _ (rs : List Rows) (hr : Holds ts s.ready_rights rs) where
        abbrev wr : List Rows
        wr = (s.right_stands.reads.holds ts rs hr).whole

        right_holds : Holds ts rights wr
        right_holds = (s.right_stands.reads.holds ts rs hr).of

        right_can : CanRunPlan wr right n
        right_can = side_can rules kinds b b_typed rights s.ready_rights right n of_right rp s.right_stands ts is rs hr

        right_decodes : Decodes wr right n (right_side s.pairing rs)
        right_decodes =
            subst (λ c. Decodes wr right n (decode c (physical_rows rp rs))) (sym s.right_columns)
            (side_decodes rules kinds b b_typed rights s.ready_rights right n of_right rp s.right_stands ts is rs hr)

        right_encoded : AreEncoded s.pairing.right_columns (physical_rows rp rs)
        right_encoded = subst (λ c. AreEncoded c (physical_rows rp rs)) (sym s.right_columns) (side_encoded rules kinds b b_typed rights s.ready_rights right n of_right rp s.right_stands ts is rs hr)

      module _ (ls rs : List Rows) (hl : Holds ts s.ready_lefts ls) (hr : Holds ts s.ready_rights rs) where
        -- they are two sides
        both_sides : HaveSides (left_side s.pairing ls) s.pairing.left_columns (right_side s.pairing rs) s.pairing.right_columns
        both_sides =
            subst (λ c. HaveSides (left_side s.pairing ls) c (right_side s.pairing rs) s.pairing.right_columns) (sym s.left_columns)
            (subst (λ c. HaveSides (left_side s.pairing ls) m (right_side s.pairing rs) c) (sym s.right_columns)
            (have_sides (wl ls hl) left m (wr rs hr) right n (left_side s.pairing ls) (right_side s.pairing rs) (left_decodes ls hl) (right_decodes rs hr) (left_can ls hl) (right_can rs hr)))

        -- their compressed product
        product_here : (front rows : List Rows) → length front ≡ count old → rows ≡ front ++ part_rows s.pairing.size (left_side s.pairing ls) (right_side s.pairing rs) → AddsTree rules ts (Product a b) front rows made d
        product_here front rows long are =
            let l = left_side s.pairing ls in
            let r = right_side s.pairing rs in
            let behind : rows ≡ front ++ part_rows size l r = are ∙ ap (λ k. front ++ part_rows k l r) s.sizes in
            compressed_adds rules size is_size ts a b (wl ls hl) (wr rs hr) left right m n
            (own_part rules kinds a a_typed lefts left m of_left ts is (wl ls hl) (left_holds ls hl))
            (own_part rules kinds b b_typed rights right n of_right ts is (wr rs hr) (right_holds rs hr)) front rows made d
            (multiplied (wl ls hl) left m (wr rs hr) right n l r (left_decodes ls hl) (right_decodes rs hr) size front rows made d
            (subst (λ all. AddsCompressed size l m r n front all made d) (sym behind) (s.adds front l r long)))

        -- a number of its making that leaves the range
        multiplied_leaves : LeavesMultiplied size (wl ls hl) left m (wr rs hr) right n → ¬ (Fit (numbers_over rules (Product a b) ts))
        multiplied_leaves out =
            compressed_leaves rules size is_size ts a b (wl ls hl) (wr rs hr) left right m n
            (own_part rules kinds a a_typed lefts left m of_left ts is (wl ls hl) (left_holds ls hl))
            (own_part rules kinds b b_typed rights right n of_right ts is (wr rs hr) (right_holds rs hr))
            (subst (λ ks. IsTyped ks (Product a b)) (sym is) typed) out

        parts_out : (compressed_fits s.pairing.size (left_side s.pairing ls) && compressed_fits s.pairing.size (right_side s.pairing rs)) ≡ false → ¬ (Fit (numbers_over rules (Product a b) ts))
        parts_out out =
            let l = left_side s.pairing ls in
            let r = right_side s.pairing rs in
            multiplied_leaves
            (product_leaves (wl ls hl) left m (wr rs hr) right n l r (left_decodes ls hl) (right_decodes rs hr) size
            (parts_leave size l m r n (sym (ap (λ k. compressed_fits k l && compressed_fits k r) s.sizes) ∙ out)))

      -- a number of one side that leaves the range
      left_out : LeftLeaves (Holds ts s.ready_lefts) s.pairing → ¬ (Fit (numbers_over rules (Product a b) ts))
      left_out l f =
          own_leaves rules kinds a a_typed lefts left m of_left ts is (wl l.0 l.1.0) (left_holds l.0 l.1.0)
          (side_leaves rules kinds a a_typed lefts s.ready_lefts left m of_left lp s.left_stands ts is l.0 l.1.0 l.1.1)
          (of_product rules (map bounded_table ts) a b f).0

      right_out : RightLeaves (Holds ts s.ready_rights) s.pairing → ¬ (Fit (numbers_over rules (Product a b) ts))
      right_out r f =
          own_leaves rules kinds b b_typed rights right n of_right ts is (wr r.0 r.1.0) (right_holds r.0 r.1.0)
          (side_leaves rules kinds b b_typed rights s.ready_rights right n of_right rp s.right_stands ts is r.0 r.1.0 r.1.1)
          (of_product rules (map bounded_table ts) a b f).1

      pair_out : PairsLeave (Holds ts s.ready_lefts) (Holds ts s.ready_rights) s.pairing → ¬ (Fit (numbers_over rules (Product a b) ts))
      pair_out out =
          ⊎_elim left_out
          (λ others. ⊎_elim right_out (λ (p : PartsLeave (Holds ts s.ready_lefts) (Holds ts s.ready_rights) s.pairing). parts_out p.lefts p.rights p.of_left p.of_right p.leave) others)
          out

      can_pair : PairsOver (Holds ts s.ready_lefts) (Holds ts s.ready_rights) s.pairing
      can_pair = record {
        size = subst (λ k. (1 ≤ k) × (k ≤ 1000)) (sym s.sizes) some;
        left = λ held h. side_starts rules kinds a a_typed lefts s.ready_lefts left m of_left lp s.left_stands ts is held h;
        left_rows = λ held h. left_encoded held h;
        right = λ held h. side_starts rules kinds b b_typed rights s.ready_rights right n of_right rp s.right_stands ts is held h;
        right_rows = λ held h. right_encoded held h;
        sides = λ ls rs hl hr. both_sides ls rs hl hr;
      }

    pub pairs_planned : PlansTree rules kinds (Product a b) old new made d
    pairs_planned = record {
      holds = λ ts is rows h.
          (let k : Behind (Holds ts old) (AreParts (Holds ts s.ready_lefts) (Holds ts s.ready_rights) s.pairing) rows = s.behind.holds ts rows h in
          let parts : AreParts (Holds ts s.ready_lefts) (Holds ts s.ready_rights) s.pairing k.back = k.here in
          record {
            front = k.front;
            before = k.before;
            knows =
                product_here ts is parts.lefts parts.rights parts.of_left parts.of_right k.front rows (holds_count ts old k.front k.before)
                (k.are ∙ ap (λ l. k.front ++ l) parts.are);
          });
      runs = λ ts is before.
          s.behind.can_run ts before
          (record {
            lefts = s.left_stands.reads.can_run ts (own_runs rules kinds a a_typed lefts left m of_left ts is);
            rights = s.right_stands.reads.can_run ts (own_runs rules kinds b b_typed rights right n of_right ts is);
            plans = can_pair ts is;
          });
      stops = λ ts is stops.
          ⊎_elim (λ (o : Stops ts old). inl o)
          (λ mine.
          inr
          (⊎_elim
          (λ l. λ f. own_stops rules kinds a a_typed lefts left m of_left ts is (s.left_stands.reads.may_stop ts l) (of_product rules (map bounded_table ts) a b f).0)
          (λ others.
          ⊎_elim
          (λ r. λ f. own_stops rules kinds b b_typed rights right n of_right ts is (s.right_stands.reads.may_stop ts r) (of_product rules (map bounded_table ts) a b f).1)
          (pair_out ts is)
          others)
          mine))
          (s.behind.may_stop ts stops);
    }
