-- Rows that are put into a sink one after the other.
use Rattle.std.specs.Prelude.{◌≡◌, Bool, true, false, ◌&&◌, ℕ, List, [], ◌∷◌, ◌++◌, flat_map, map, Option, Some, None, Result, Ok, Err}
use Rattle.std.specs.Borrow.{Bor}
use Rattle.std.proofs.Common.{refl, sym, ◌∙◌, ap, subst, append-nil, append_assoc}
use Rattle.std.proofs.lemmas.Bool.{and_from, and_parts}
use Rattle.std.proofs.lemmas.List.Folds.{list_all-append}
use Rattle.au_value.specs.Adding.{no_terms, with_term}
use Rattle.au_value.specs.Numeral.{is_i128}
use Rattle.au_expr.specs.declared.fault.EvalFault.{EvalFault}
use Rattle.au_expr.specs.Figures.{fit}
use Rattle.au_plain.specs.declared.plan.PAgg.{PAgg}
use Rattle.au_plain.specs.declared.plan.PAgg.TheVariants as agg
use Rattle.au_physical.specs.Physicals.{PhysicalTree}
use Rattle.au_codes.specs.Codes.{CellRows}
use Rattle.au_columns.specs.Chains.{all_cells, all_fit}
use Rattle.au_folds.specs.Kept.{Kept, Sums, Lowest, Highest, column_of, kept_numbers, kept_with, nothing_kept}
use Rattle.au_folds.specs.Merged.{Alike, merged}
use Rattle.au_folds.specs.Places.{places_among}
use Rattle.au_folds.specs.Tables.{Table, empty_table, grown, keys_of, table_numbers}
use Rattle.au_folds.proofs.MergeLaws.{in_two_parts, stay_alike}
use Rattle.au_folds.proofs.PutLaws.{fewer_all, term_grows}
use Rattle.au_folds.proofs.TableLaws.{grown_none, in_parts}
use Rattle.au_joins.specs.Drawn.{Draws}
use Rattle.au_vector.specs.Sinks.{Contents, Listed, Grouped, IsFilled, Takes, contents_of, emptied, filled, joined, within}
use Rattle.au_vector.specs.declared.sink.Held.{Held}
use Rattle.au_vector.specs.declared.sink.Held.TheVariants as held
use Rattle.au_vector.specs.Widths.{HaveWidth}
use Rattle.au_vector.proofs.RowWise.{cells_both, cells_none, fit_both, fit_none}

-- ---- what is in it

pub filled_none : (s : Contents) → filled s [] ≡ s
filled_none (Listed rows) = ap Listed (append-nil rows)
filled_none (Grouped keys aggs t) = ap (Grouped keys aggs) (grown_none t)

pub filled_twice : (s : Contents) (xs ys : CellRows) → filled (filled s xs) ys ≡ filled s (xs ++ ys)
filled_twice (Listed rows) xs ys = ap Listed (append_assoc rows xs ys)
filled_twice (Grouped keys aggs t) xs ys = ap (Grouped keys aggs) (in_parts t xs ys)

pub emptied_filled : (s : Contents) (rows : CellRows) → emptied (filled s rows) ≡ emptied s
emptied_filled (Listed xs) rows = refl
emptied_filled (Grouped keys aggs t) rows = refl

pub emptied_twice : (s : Contents) → emptied (emptied s) ≡ emptied s
emptied_twice (Listed xs) = refl
emptied_twice (Grouped keys aggs t) = refl

-- one that was filled from nothing, and more rows
pub filled_more : (s : Contents) (rows : CellRows) → IsFilled s → IsFilled (filled s rows)
filled_more s rows is = (
  is.0 ++ rows,
  ap (λ c. filled c rows) is.1 ∙ (filled_twice (emptied s) is.0 rows ∙ ap (λ c. filled c (is.0 ++ rows)) (sym (emptied_filled s rows))),
)

-- the table in it
abbrev table_in : Table → Contents → Table
table_in other (Listed rows) = other
table_in other (Grouped keys aggs t) = t

-- ---- the magnitudes of its sums

-- without the rows that came last they fit where they do with them
kept_fits : (places : List ℕ) (rows : CellRows) (k : Kept) → fit (kept_numbers (kept_with places rows k)) ≡ true → fit (kept_numbers k) ≡ true
kept_fits places rows (Sums c ss) h = fewer_all (with_term no_terms) with_term term_grows ss places (column_of c rows) h
kept_fits places rows (Lowest c zs) h = refl
kept_fits places rows (Highest c zs) h = refl

all_kept_fits : (places : List ℕ) (rows : CellRows) (ks : List Kept) → fit (flat_map kept_numbers (map (kept_with places rows) ks)) ≡ true → fit (flat_map kept_numbers ks) ≡ true
all_kept_fits places rows [] h = refl
all_kept_fits places rows (k ∷ ks) h =
    let more = kept_numbers (kept_with places rows k) in
    let others = flat_map kept_numbers (map (kept_with places rows) ks) in
    let p = and_parts (fit more) (fit others) (sym (list_all-append is_i128 more others) ∙ h) in
    list_all-append is_i128 (kept_numbers k) (flat_map kept_numbers ks) ∙ and_from _ _ (kept_fits places rows k p.0) (all_kept_fits places rows ks p.1)

pub within_before : (s : Contents) (rows : CellRows) → within (filled s rows) ≡ true → within s ≡ true
within_before (Listed xs) rows h = refl
within_before (Grouped keys aggs t) rows h = all_kept_fits (places_among t.seen (keys_of t.keys rows)) rows t.kept h

-- ---- calls one after the other

and_false : (a b c : Bool) → (c ≡ true → b ≡ true) → (a && b) ≡ false → (a && c) ≡ false
and_false false b c up h = refl
and_false true b true up h = absurd (let t : true ≡ false = sym (up refl) ∙ h in cc)
and_false true b false up h = refl

first_false : (a b c : Bool) → (a && c) ≡ false → ((a && b) && c) ≡ false
first_false true true c h = h
first_false true false c h = refl
first_false false b c h = refl

second_false : (a b c : Bool) → a ≡ true → (b && c) ≡ false → ((a && b) && c) ≡ false
second_false true b c is h = h
second_false false b c is h = absurd (let t : true ≡ false = sym is in cc)

both_true : (a b c : Bool) → a ≡ true → (b && c) ≡ true → ((a && b) && c) ≡ true
both_true true b c is h = h
both_true false b c is h = absurd (let t : true ≡ false = sym is in cc)

-- rows, and those behind them; a refusal of the first is one of all
pub takes_later : (s t : Contents) (xs ys : CellRows) (a b : Bool) (result : Result Contents EvalFault)
    → t ≡ filled s xs → (a && within (filled s xs)) ≡ true → Takes t ys b result → Takes s (xs ++ ys) (a && b) result
takes_later s t xs ys a b (Ok u) is fits h =
    let whole : filled t ys ≡ filled s (xs ++ ys) = ap (λ c. filled c ys) is ∙ filled_twice s xs ys in
    (h.0 ∙ whole, both_true a b (within (filled s (xs ++ ys))) (and_parts a (within (filled s xs)) fits).0 (ap (λ c. b && within c) (sym whole) ∙ h.1))
takes_later s t xs ys a b (Err f) is fits h = λ over.
    let whole : filled t ys ≡ filled s (xs ++ ys) = ap (λ c. filled c ys) is ∙ filled_twice s xs ys in
    second_false a b (within (filled s (xs ++ ys))) (and_parts a (within (filled s xs)) fits).0 (ap (λ c. b && within c) (sym whole) ∙ h over)

pub refused_first : (s : Contents) (xs ys : CellRows) (a b : Bool) → (a && within (filled s xs)) ≡ false → ((a && b) && within (filled s (xs ++ ys))) ≡ false
refused_first s xs ys a b h =
    first_false a b (within (filled s (xs ++ ys)))
    (and_false a (within (filled s xs)) (within (filled s (xs ++ ys))) (λ fits. within_before (filled s xs) ys (ap within (filled_twice s xs ys) ∙ fits)) h)

-- ---- a loop over batches

-- what is put in so far, with what is left, is all
pub record Feeding (steps : List PhysicalTree) (before : Contents) (all : CellRows) (now : Contents) (left : CellRows) : Type 0 where
  pub contents : filled now (all_cells steps left) ≡ filled before (all_cells steps all)
  pub numbers : all_fit steps left ≡ all_fit steps all

module _ (steps : List PhysicalTree) (before : Contents) (all : CellRows) where
  module _ (now : Contents) (batch rest left : CellRows) (parts : left ≡ batch ++ rest) (f : Feeding steps before all now left) where
    contents_in_parts : filled (filled now (all_cells steps batch)) (all_cells steps rest) ≡ filled before (all_cells steps all)
    contents_in_parts =
        filled_twice now (all_cells steps batch) (all_cells steps rest)
        ∙ (ap (filled now) (sym (cells_both steps batch rest)) ∙ (ap (λ rows. filled now (all_cells steps rows)) (sym parts) ∙ f.contents))

    numbers_in_parts : (all_fit steps batch && all_fit steps rest) ≡ all_fit steps all
    numbers_in_parts = sym (fit_both steps batch rest) ∙ (ap (all_fit steps) (sym parts) ∙ f.numbers)

    pub feeding_more : (next : Contents) → next ≡ filled now (all_cells steps batch) → (all_fit steps batch && within (filled now (all_cells steps batch))) ≡ true → Feeding steps before all next rest
    feeding_more next is fits = record {
      contents = ap (λ c. filled c (all_cells steps rest)) is ∙ contents_in_parts;
      numbers = ap (λ b. b && all_fit steps rest) (sym (and_parts (all_fit steps batch) _ fits).0) ∙ numbers_in_parts;
    }

    pub feeding_refused : (all_fit steps batch && within (filled now (all_cells steps batch))) ≡ false → (all_fit steps all && within (filled before (all_cells steps all))) ≡ false
    feeding_refused h =
        let later =
        first_false (all_fit steps batch) (all_fit steps rest) (within (filled (filled now (all_cells steps batch)) (all_cells steps rest)))
        (and_false (all_fit steps batch) (within (filled now (all_cells steps batch))) (within (filled (filled now (all_cells steps batch)) (all_cells steps rest)))
        (λ fits. within_before (filled now (all_cells steps batch)) (all_cells steps rest) fits) h) in
        (λ i. sym numbers_in_parts i && within (sym contents_in_parts i)) ∙ later

  pub feeding_ends : (now : Contents) (left : CellRows) → left ≡ [] → within now ≡ true → Feeding steps before all now left → (now ≡ filled before (all_cells steps all)) × ((all_fit steps all && within (filled before (all_cells steps all))) ≡ true)
  feeding_ends now left none fits f =
      let whole : now ≡ filled before (all_cells steps all) =
      sym (filled_none now) ∙ (ap (filled now) (sym (ap (all_cells steps) none ∙ cells_none steps)) ∙ f.contents) in
      (whole, and_from _ _ (sym f.numbers ∙ (ap (all_fit steps) none ∙ fit_none steps)) (ap within (sym whole) ∙ fits))

-- ---- what is held

-- nothing in it
empty_numbers : (aggs : List PAgg) → fit (flat_map kept_numbers (map nothing_kept aggs)) ≡ true
empty_numbers [] = refl
empty_numbers (agg.Sum c ∷ aggs) = empty_numbers aggs
empty_numbers (agg.Min c ∷ aggs) = empty_numbers aggs
empty_numbers (agg.Max c ∷ aggs) = empty_numbers aggs

pub empty_held : (keys : List ℕ) (aggs : List PAgg) (t : Table) → t ≡ empty_table keys aggs → IsFilled (Grouped keys aggs t) × (within (Grouped keys aggs t) ≡ true)
empty_held keys aggs t is = (
  ([], ap (Grouped keys aggs) (is ∙ sym (grown_none (empty_table keys aggs)))),
  ap (λ u. fit (table_numbers u)) is ∙ empty_numbers aggs,
)

-- what was filled from nothing and gets more rows, as long as its numbers fit
pub more_held : (s t : Contents) (rows : CellRows) → IsFilled s → t ≡ filled s rows → within t ≡ true → IsFilled t × (within t ≡ true)
more_held s t rows held is fits = (subst IsFilled (sym is) (filled_more s rows held), fits)

-- rows of one width among others of it
front_wide : (w : ℕ) (xs ys : CellRows) → HaveWidth w (xs ++ ys) → HaveWidth w xs
front_wide w [] ys h = tt
front_wide w (x ∷ xs) ys h = (h.0, front_wide w xs ys h.1)

pub wide_front : (w : ℕ) (xs ys rest all : CellRows) → xs ++ (ys ++ rest) ≡ all → HaveWidth w all → HaveWidth w (xs ++ ys)
wide_front w xs ys rest all parts h = front_wide w (xs ++ ys) rest (subst (HaveWidth w) (sym parts ∙ sym (append_assoc xs ys rest)) h)

-- ---- two sinks

-- what another sink of its kind was filled with is put behind
pub joined_more : (s u : Contents) (ys : CellRows) → IsFilled s → u ≡ filled (emptied s) ys → joined s u ≡ filled s ys
joined_more (Listed rows) u ys held is = ap (joined (Listed rows)) is
joined_more (Grouped keys aggs t) u ys held is =
    let xs = held.0 in
    let none = empty_table keys aggs in
    let own : t ≡ grown none xs = ap (table_in none) held.1 in
    ap (joined (Grouped keys aggs t)) is
    ∙ ap (Grouped keys aggs)
    ((λ i. merged (own i) (grown none ys)) ∙ (in_two_parts keys aggs xs ys ∙ (sym (in_parts none xs ys) ∙ ap (λ u. grown u ys) (sym own))))

pub joined_held : (s u t : Contents) → IsFilled s → IsFilled u → emptied u ≡ emptied s → t ≡ joined s u → within t ≡ true → IsFilled t × (within t ≡ true)
joined_held s u t first second same is fits =
    let more : u ≡ filled (emptied s) second.0 = second.1 ∙ ap (λ e. filled e second.0) same in
    more_held s t second.0 first (is ∙ joined_more s u second.0 first more) fits

-- two groups of a kind are alike
pub alike_held : (keys ms : List ℕ) (aggs bs : List PAgg) (t u : Table) → IsFilled (Grouped keys aggs t) → IsFilled (Grouped ms bs u) → emptied (Grouped ms bs u) ≡ emptied (Grouped keys aggs t) → Alike t u
alike_held keys ms aggs bs t u first second same =
    let none = empty_table keys aggs in
    let own : t ≡ grown none first.0 = ap (table_in none) first.1 in
    let more : u ≡ grown none second.0 =
    ap (table_in none) (second.1 ∙ ap (λ e. filled e second.0) same) in
    subst (λ v. Alike v u) (sym own) (subst (λ v. Alike (grown none first.0) v) (sym more) (stay_alike keys aggs first.0 second.0))

module _ (h k : Held) (keys ms : Bor (List ℕ)) (aggs bs : Bor (List PAgg)) (t u : Table) (left : h ≡ held.Groups keys aggs t) (right : k ≡ held.Groups ms bs u)
    (first : IsFilled (contents_of h)) (second : IsFilled (contents_of k)) (same : emptied (contents_of k) ≡ emptied (contents_of h)) where
  pub groups_alike : Alike t u
  groups_alike =
      alike_held keys.now ms.now aggs.now bs.now t u (subst (λ x. IsFilled (contents_of x)) left first) (subst (λ x. IsFilled (contents_of x)) right second)
      (sym (ap (λ x. emptied (contents_of x)) right) ∙ (same ∙ ap (λ x. emptied (contents_of x)) left))

  pub groups_joined : (v : Table) → v ≡ merged t u → fit (table_numbers v) ≡ true → IsFilled (Grouped keys.now aggs.now v) × (within (Grouped keys.now aggs.now v) ≡ true)
  groups_joined v is fits =
      joined_held (contents_of h) (contents_of k) (Grouped keys.now aggs.now v) first second same
      (ap (Grouped keys.now aggs.now) is ∙ (λ i. joined (contents_of (sym left i)) (contents_of (sym right i)))) fits

pub groups_more : (h : Held) (keys : Bor (List ℕ)) (aggs : Bor (List PAgg)) (t u : Table) (rows : CellRows) → h ≡ held.Groups keys aggs t → IsFilled (contents_of h)
    → u ≡ grown t rows → fit (table_numbers u) ≡ true → IsFilled (Grouped keys.now aggs.now u) × (within (Grouped keys.now aggs.now u) ≡ true)
groups_more h keys aggs t u rows same held is fits =
    more_held (contents_of h) (Grouped keys.now aggs.now u) rows held
    (ap (Grouped keys.now aggs.now) is ∙ ap (λ x. filled (contents_of x) rows) (sym same)) fits

-- ---- batches that are drawn

pub drawn_some : (before after : CellRows) (o : Option CellRows) (rows : CellRows) → o ≡ Some rows → Draws before after o → before ≡ rows ++ after
drawn_some before after o rows is h = (subst (Draws before after) is h).0

pub drawn_none : (before after : CellRows) (o : Option CellRows) → ((rows : CellRows) → o ≡ Some rows → ⊥) → Draws before after o → before ≡ []
drawn_none before after None never h = h
drawn_none before after (Some rows) never h = absurd (never rows refl)
