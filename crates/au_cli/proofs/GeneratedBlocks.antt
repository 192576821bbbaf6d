-- The generated records have no defect: each has its five fields, the records of one label are those of one block,
-- and each block has one guess.
use Rattle.std.proofs.Common.{◌≡◌, ℕ, zero, suc, ◌+◌, ◌*◌, ◌%◌, ◌<◌, ◌≤◌, ◌==◌, Bool, true, false, List, [], ◌∷◌, ◌++◌, length, map, pos, ℤ, Some, refl, ap, ◌∙◌, subst, arith, decimal, codes, inl, inr, bytes_eq, Option}
use Rattle.std.specs.List.{flat_map, range_with_len, AllByRecursion, enumerate_from, list_all}
use Rattle.std.specs.Str.{is_utf8}
use Rattle.std.proofs.lemmas.Bool.{cases_Bool, cases_lt}
use Rattle.std.proofs.lemmas.List.{append-nil, length-map}
use Rattle.std.proofs.lemmas.List.Elements.{filter-append}
use Rattle.au_value.specs.declared.kinds.Kind.{Kind}
use Rattle.au_value.specs.declared.kinds.Kind.TheVariants as kind
use Rattle.au_value.specs.Lists.{distinct}
use Rattle.au_value.specs.Numeral.{numeral_value}
use Rattle.au_value.proofs.FirstSeen.{others}
use Rattle.au_csv.specs.Texts.{Record, is_text}
use Rattle.au_gen.specs.Generator.{draw}
use Rattle.au_blocks.specs.Headers.{format_of}
use Rattle.au_blocks.specs.Entries.{BlockEntry, entries_of, label_of, labelled, entry_blocks}
use Rattle.au_blocks.specs.Defects.{record_defects, block_defects, blocks_defects}
use Rattle.au_blocks.proofs.Distinct.{itself}
use Rattle.au_cli.proofs.GeneratedDigits.{codes_utf8, decimal_utf8, lettered_utf8, decimal_numeral, decimal_apart}
use Rattle.au_cli.proofs.GeneratedRecords.{header_fields, guess_fields, alternative_fields, absent_fields, row_if, labelled_rows, block_rows, drawn_rows, rows_from}

-- ---- each record

-- the written kinds of the columns
abbrev pub written : List (Option Kind)
written = Some kind.Int ∷ Some kind.Text ∷ Some kind.Int ∷ []

-- a record is text, and has no defect at any place
pub record IsSound (r : Record) : Type 0 where
  pub text : is_text r ≡ true
  pub faults : (k : ℕ) → record_defects (format_of header_fields) 5 written (k, r) ≡ []

guess_sound : (label group amount : List ℕ) (i n : ℤ) → is_utf8 label ≡ true → is_utf8 (codes "g" ++ group) ≡ true → is_utf8 amount ≡ true
    → numeral_value label ≡ Some i → numeral_value amount ≡ Some n → IsSound (guess_fields label group amount)
guess_sound label group amount i n ul ug ua vl va = let word = codes_utf8 (codes "guess") refl in record { text = rw (ul, word, ug, ua) refl; faults = λ k. rw (vl, va) refl }

alternative_sound : (label group amount : List ℕ) (i n : ℤ) → is_utf8 label ≡ true → is_utf8 (codes "g" ++ group) ≡ true → is_utf8 amount ≡ true
    → numeral_value label ≡ Some i → numeral_value amount ≡ Some n → IsSound (alternative_fields label group amount)
alternative_sound label group amount i n ul ug ua vl va = let word = codes_utf8 (codes "alt") refl in record { text = rw (ul, word, ug, ua) refl; faults = λ k. rw (vl, va) refl }

absent_sound : (label : List ℕ) → is_utf8 label ≡ true → IsSound (absent_fields label)
absent_sound label ul = let word = codes_utf8 (codes "absent") refl in let empty = codes_utf8 [] refl in record { text = rw (ul, word, empty) refl; faults = λ k. refl }

all_if : (P : Record → Type 0) (there : Bool) (row : Record) → P row → AllByRecursion P (row_if there row)
all_if P true row p = (p, tt)
all_if P false row p = tt

all_append : (P : Record → Type 0) (xs ys : List Record) → AllByRecursion P xs → AllByRecursion P ys → AllByRecursion P (xs ++ ys)
all_append P [] ys h k = k
all_append P (x ∷ xs) ys h k = (h.0, all_append P xs ys h.1 k)

block_sound : (i a b c : ℕ) → i ≤ 100000 → AllByRecursion IsSound (block_rows i a b c)
block_sound i a b c few =
    let label = decimal i in
    let u = decimal_utf8 i few in
    let v = decimal_numeral i few in (
      guess_sound label (decimal (a % 4)) (decimal (b % 100)) (pos i) (pos (b % 100)) u (lettered_utf8 (a % 4) (omega arith)) (decimal_utf8 (b % 100) (omega arith)) v (decimal_numeral (b % 100) (omega arith)),
      all_append IsSound (row_if (c % 3 == 0) (alternative_fields label (decimal ((a + 1) % 4)) (decimal (b % 100 + 7)))) (row_if (c % 5 == 0) (absent_fields label))
          (all_if IsSound (c % 3 == 0) (alternative_fields label (decimal ((a + 1) % 4)) (decimal (b % 100 + 7)))
          (alternative_sound label (decimal ((a + 1) % 4)) (decimal (b % 100 + 7)) (pos i) (pos (b % 100 + 7)) u (lettered_utf8 ((a + 1) % 4) (omega arith)) (decimal_utf8 (b % 100 + 7) (omega arith)) v (decimal_numeral (b % 100 + 7) (omega arith))))
          (all_if IsSound (c % 5 == 0) (absent_fields label) (absent_sound label u)),
    )

-- each record below the header
pub rows_sound : (start a n : ℕ) → a + n ≤ 100000 → AllByRecursion IsSound (rows_from start a n)
rows_sound start a zero few = tt
rows_sound start a (suc n) few =
    all_append IsSound (drawn_rows start a) (rows_from start (a + 1) n)
    (block_sound (a + 1) (draw start (3 * a + 1)) (draw start (3 * a + 2)) (draw start (3 * a + 3)) (omega arith))
    (rows_sound start (a + 1) n (omega arith))

pub all_text : (rows : List Record) → AllByRecursion IsSound rows → list_all is_text rows ≡ true
all_text [] h = refl
all_text (r ∷ rows) h = rw (h.0.text) (all_text rows h.1)

pub no_row_defects : (k : ℕ) (rows : List Record) → AllByRecursion IsSound rows → flat_map (record_defects (format_of header_fields) 5 written) (enumerate_from k rows) ≡ []
no_row_defects k [] h = refl
no_row_defects k (r ∷ rows) h = rw (h.0.faults k) (no_row_defects (k + 1) rows h.1)

-- ---- the labels

-- the labels of the blocks behind the first a
abbrev pub labels : ℕ → ℕ → List (List ℕ)
labels a n = map (λ j. decimal (j + 1)) (range_with_len a n)

-- an earlier label is none of the later ones
others_later : (i a n : ℕ) → i < a → a + n ≤ 100000 → others bytes_eq (decimal (i + 1)) (labels a n) ≡ labels a n
others_later i a zero before few = refl
others_later i a (suc n) before few =
    rw (decimal_apart (i + 1) (a + 1) (omega arith) (omega arith) (λ e. omega arith))
    (ap (λ ls. decimal (a + 1) ∷ ls) (others_later i (a + 1) n (omega arith) (omega arith)))

others_twice : (label : List ℕ) (xs : List (List ℕ)) → others bytes_eq label (others bytes_eq label xs) ≡ others bytes_eq label xs
others_twice label [] = refl
others_twice label (x ∷ xs) = elim (cases_Bool (bytes_eq label x)) [
  | inl same ↦ rw same (others_twice label xs)
  | inr apart ↦ rw (apart, apart) (ap (λ ys. x ∷ ys) (others_twice label xs))
]

-- a text that comes twice in a row counts once
distinct_again : (x : List ℕ) (xs : List (List ℕ)) → distinct bytes_eq (x ∷ x ∷ xs) ≡ distinct bytes_eq (x ∷ xs)
distinct_again x xs = rw (itself x) (ap (λ ys. x ∷ ys) (others_twice x (distinct bytes_eq xs)))

distinct_block : (label group amount other more : List ℕ) (two absent : Bool) (rest : List Record)
    → distinct bytes_eq (map label_of (labelled_rows label group amount other more two absent ++ rest)) ≡ label ∷ others bytes_eq label (distinct bytes_eq (map label_of rest))
distinct_block label group amount other more true true rest = distinct_again label (label ∷ map label_of rest) ∙ distinct_again label (map label_of rest)
distinct_block label group amount other more true false rest = distinct_again label (map label_of rest)
distinct_block label group amount other more false true rest = distinct_again label (map label_of rest)
distinct_block label group amount other more false false rest = refl

pub generated_labels : (start a n : ℕ) → a + n ≤ 100000 → distinct bytes_eq (map label_of (rows_from start a n)) ≡ labels a n
generated_labels start a zero few = refl
generated_labels start a (suc n) few =
    let c = draw start (3 * a + 3) in
    distinct_block (decimal (a + 1)) (decimal (draw start (3 * a + 1) % 4)) (decimal (draw start (3 * a + 2) % 100)) (decimal ((draw start (3 * a + 1) + 1) % 4)) (decimal (draw start (3 * a + 2) % 100 + 7)) (c % 3 == 0) (c % 5 == 0) (rows_from start (a + 1) n)
    ∙ ap (λ ls. decimal (a + 1) ∷ others bytes_eq (decimal (a + 1)) ls) (generated_labels start (a + 1) n (omega arith))
    ∙ ap (λ ls. decimal (a + 1) ∷ ls) (others_later a (a + 1) n (omega arith) (omega arith))

-- ---- the records of a label

own_rows : (label group amount other more : List ℕ) (two absent : Bool) → labelled label (labelled_rows label group amount other more two absent) ≡ labelled_rows label group amount other more two absent
own_rows label group amount other more true true = rw (itself label) refl
own_rows label group amount other more true false = rw (itself label) refl
own_rows label group amount other more false true = rw (itself label) refl
own_rows label group amount other more false false = rw (itself label) refl

other_rows : (l label group amount other more : List ℕ) (two absent : Bool) → bytes_eq l label ≡ false → labelled l (labelled_rows label group amount other more two absent) ≡ []
other_rows l label group amount other more true true apart = rw apart refl
other_rows l label group amount other more true false apart = rw apart refl
other_rows l label group amount other more false true apart = rw apart refl
other_rows l label group amount other more false false apart = rw apart refl

labelled-append : (l : List ℕ) (xs ys : List Record) → labelled l (xs ++ ys) ≡ labelled l xs ++ labelled l ys
labelled-append l xs ys = filter-append (λ r. bytes_eq l (label_of r)) xs ys

own_drawn : (start j : ℕ) → labelled (decimal (j + 1)) (drawn_rows start j) ≡ drawn_rows start j
own_drawn start j =
    let a = draw start (3 * j + 1) in
    let b = draw start (3 * j + 2) in
    let c = draw start (3 * j + 3) in
    own_rows (decimal (j + 1)) (decimal (a % 4)) (decimal (b % 100)) (decimal ((a + 1) % 4)) (decimal (b % 100 + 7)) (c % 3 == 0) (c % 5 == 0)

other_drawn : (start i j : ℕ) → i + 1 ≤ 100000 → j + 1 ≤ 100000 → (i + 1 ≡ j + 1 → ⊥) → labelled (decimal (i + 1)) (drawn_rows start j) ≡ []
other_drawn start i j few_i few_j apart =
    let a = draw start (3 * j + 1) in
    let b = draw start (3 * j + 2) in
    let c = draw start (3 * j + 3) in
    other_rows (decimal (i + 1)) (decimal (j + 1)) (decimal (a % 4)) (decimal (b % 100)) (decimal ((a + 1) % 4)) (decimal (b % 100 + 7)) (c % 3 == 0) (c % 5 == 0) (decimal_apart (i + 1) (j + 1) few_i few_j apart)

none_later : (start i a n : ℕ) → i < a → a + n ≤ 100000 → labelled (decimal (i + 1)) (rows_from start a n) ≡ []
none_later start i a zero before few = refl
none_later start i a (suc n) before few =
    labelled-append (decimal (i + 1)) (drawn_rows start a) (rows_from start (a + 1) n)
    ∙ rw (other_drawn start i a (omega arith) (omega arith) (λ e. omega arith), none_later start i (a + 1) n (omega arith) (omega arith)) refl

at_first : (start a n : ℕ) → a + suc n ≤ 100000 → labelled (decimal (a + 1)) (rows_from start a (suc n)) ≡ drawn_rows start a
at_first start a n few =
    labelled-append (decimal (a + 1)) (drawn_rows start a) (rows_from start (a + 1) n)
    ∙ rw (own_drawn start a, none_later start a (a + 1) n (omega arith) (omega arith)) (append-nil (drawn_rows start a))

behind_first : (start a n j : ℕ) → a < j → j < a + suc n → a + suc n ≤ 100000 → labelled (decimal (j + 1)) (rows_from start (a + 1) n) ≡ drawn_rows start j
    → labelled (decimal (j + 1)) (rows_from start a (suc n)) ≡ drawn_rows start j
behind_first start a n j before to few later =
    labelled-append (decimal (j + 1)) (drawn_rows start a) (rows_from start (a + 1) n)
    ∙ rw (other_drawn start j a (omega arith) (omega arith) (λ e. omega arith)) later

-- the records of a block's label are those of the block
pub block_labelled : (start a n j : ℕ) → a ≤ j → j < a + n → a + n ≤ 100000 → labelled (decimal (j + 1)) (rows_from start a n) ≡ drawn_rows start j
block_labelled start a zero j from to few = absurd (omega arith)
block_labelled start a (suc n) j from to few = elim (cases_lt a j) [
  | inl before ↦ behind_first start a n j before to few (block_labelled start (a + 1) n j (omega arith) (omega arith) (omega arith))
  | inr here ↦ (let e : a ≡ j = omega arith in subst (λ i. labelled (decimal (i + 1)) (rows_from start a (suc n)) ≡ drawn_rows start i) e (at_first start a n few))
]

-- ---- the blocks

-- a block without a defect, at any place
abbrev pub IsFine : List BlockEntry → Type 0
IsFine es = (k : ℕ) → block_defects (k, es) ≡ []

block_fine : (label group amount other more : List ℕ) (two absent : Bool) → IsFine (entries_of (format_of header_fields) (labelled_rows label group amount other more two absent))
block_fine label group amount other more true true k = refl
block_fine label group amount other more true false k = refl
block_fine label group amount other more false true k = refl
block_fine label group amount other more false false k = refl

drawn_fine : (start j : ℕ) → IsFine (entries_of (format_of header_fields) (drawn_rows start j))
drawn_fine start j =
    let a = draw start (3 * j + 1) in
    let b = draw start (3 * j + 2) in
    let c = draw start (3 * j + 3) in
    block_fine (decimal (j + 1)) (decimal (a % 4)) (decimal (b % 100)) (decimal ((a + 1) % 4)) (decimal (b % 100 + 7)) (c % 3 == 0) (c % 5 == 0)

-- the entries of a label
abbrev entries_at : List Record → List ℕ → List BlockEntry
entries_at rows label = entries_of (format_of header_fields) (labelled label rows)

labels_fine : (start all a n : ℕ) → a + n ≤ all → all ≤ 100000 → AllByRecursion IsFine (map (entries_at (rows_from start 0 all)) (labels a n))
labels_fine start all a zero fits few = tt
labels_fine start all a (suc n) fits few = (
  (λ k. ap (λ rows. block_defects (k, entries_of (format_of header_fields) rows)) (block_labelled start 0 all a (omega arith) (omega arith) (omega arith)) ∙ drawn_fine start a k),
  labels_fine start all (a + 1) n (omega arith) few,
)

no_block_defects : (k : ℕ) (bs : List (List BlockEntry)) → AllByRecursion IsFine bs → flat_map block_defects (enumerate_from k bs) ≡ []
no_block_defects k [] h = refl
no_block_defects k (b ∷ bs) h = rw (h.0 k) (no_block_defects (k + 1) bs h.1)

length_labels : (a n : ℕ) → length (labels a n) ≡ n
length_labels a zero = refl
length_labels a (suc n) = let more : length (labels (a + 1) n) ≡ n = length_labels (a + 1) n in omega arith

blocks_are : (start n : ℕ) → n ≤ 100000 → entry_blocks (format_of header_fields) (rows_from start 0 n) ≡ map (entries_at (rows_from start 0 n)) (labels 0 n)
blocks_are start n few = ap (map (entries_at (rows_from start 0 n))) (generated_labels start 0 n (omega arith))

-- the blocks have no defect, and there is one for each number
pub no_defects_of_blocks : (start n : ℕ) → n ≤ 100000 → blocks_defects (entry_blocks (format_of header_fields) (rows_from start 0 n)) ≡ []
no_defects_of_blocks start n few =
    ap blocks_defects (blocks_are start n few)
    ∙ no_block_defects 0 (map (entries_at (rows_from start 0 n)) (labels 0 n)) (labels_fine start n 0 n (omega arith) few)

pub count_of_blocks : (start n : ℕ) → n ≤ 100000 → length (entry_blocks (format_of header_fields) (rows_from start 0 n)) ≡ n
count_of_blocks start n few =
    ap length (blocks_are start n few) ∙ length-map (labels 0 n) (entries_at (rows_from start 0 n)) ∙ length_labels 0 n
