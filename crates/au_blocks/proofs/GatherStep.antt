-- What is gathered under each label, one record more.
use Rattle.std.proofs.Common.{◌≡◌, ℕ, zero, suc, ◌+◌, ◌≤◌, ◌<◌, Bool, true, false, cond, List, [], ◌∷◌, ◌++◌, length, map, get_or, set, Some, inl, inr, refl, sym, ap, ◌∙◌, arith}
use Rattle.std.specs.Prelude.{bytes_eq}
use Rattle.std.specs.List.{list_any, position_or_len, cons_option}
use Rattle.std.proofs.lemmas.Bool.{cases_Bool}
use Rattle.std.proofs.lemmas.List.{append-nil, map-append, length-map, get_or_at, set_at, length_push}
use Rattle.std.proofs.lemmas.List.Elements.{filter-append, filter_map-append}
use Rattle.std.proofs.lemmas.List.Sums.{count_by-le-length, length-filter}
use Rattle.std.proofs.lemmas.Slice.Eq.{bytes_eq-Decides}
use Rattle.indexmap.specs.IndexSet.{insert_key}
use Rattle.au_value.specs.Lists.{distinct}
use Rattle.au_value.specs.Texts.{Text}
use Rattle.au_value.proofs.FirstSeen.{Apart, one, any-distinct, apart-distinct}
use Rattle.au_csv.specs.Texts.{Record}
use Rattle.au_blocks.specs.declared.format.Format.{Format}
use Rattle.au_blocks.specs.declared.role.Role.{Role}
use Rattle.au_blocks.specs.declared.tally.Tally.{Tally}
use Rattle.au_blocks.specs.Headers.{cells_of, has_blocks}
use Rattle.au_blocks.specs.Entries.{block_entry, block_entry_of, copies_in, role_of, entries_of, label_of, labelled, entry_blocks}
use Rattle.au_blocks.specs.Order.{labels}
use Rattle.au_blocks.specs.Tallies.{nothing, tally_of, with_role}
use Rattle.au_blocks.proofs.Tallying.{few-alternatives, tally-push}
use Rattle.au_blocks.proofs.Places.{absent-place, known-place}
use Rattle.au_blocks.proofs.Distinct.{itself, turned, same, distinct-push}

-- a list by labels, where the value of one label changes
module _ (G H : Text → Tally) (l : Text) (keeps : (m : Text) → bytes_eq l m ≡ false → H m ≡ G m) where
  map-others : (ls : List Text) → list_any (bytes_eq l) ls ≡ false → map H ls ≡ map G ls
  map-others [] absent = refl
  map-others (m ∷ ls) absent =
      elim (cases_Bool (bytes_eq l m)) [
        | inl here ↦ let t : true ≡ false = rw here at absent in cc
        | inr here ↦
            let later : list_any (bytes_eq l) ls ≡ false = rw here at absent in
            rw (keeps m here, map-others ls later) refl
      ]

  get-label : (ls : List Text) (d : Tally) → list_any (bytes_eq l) ls ≡ true → get_or (map G ls) (position_or_len (bytes_eq l) ls) d ≡ G l
  get-label [] d present = cc
  get-label (m ∷ ls) d present =
      elim (cases_Bool (bytes_eq l m)) [
        | inl here ↦ rw here (ap G (sym (same l m here)))
        | inr here ↦
            let later : list_any (bytes_eq l) ls ≡ true = rw here at present in
            let next : 1 + position_or_len (bytes_eq l) ls ≡ suc (position_or_len (bytes_eq l) ls) = omega arith in
            rw (here, next) (get-label ls d later)
      ]

  set-label : (ls : List Text) → Apart bytes_eq ls → list_any (bytes_eq l) ls ≡ true → set (map G ls) (position_or_len (bytes_eq l) ls) (H l) ≡ map H ls
  set-label [] apart present = cc
  set-label (m ∷ ls) (one absent apart) present =
      elim (cases_Bool (bytes_eq l m)) [
        | inl here ↦
            let e : l ≡ m = same l m here in
            let none : list_any (bytes_eq l) ls ≡ false = rw e absent in
            rw (here, map-others ls none) (ap (λ (x : Text). H x ∷ map G ls) e)
        | inr here ↦
            let later : list_any (bytes_eq l) ls ≡ true = rw here at present in
            let next : 1 + position_or_len (bytes_eq l) ls ≡ suc (position_or_len (bytes_eq l) ls) = omega arith in
            rw (here, next, keeps m here, set-label ls apart later) refl
      ]

-- no record has a label that is none of theirs
pub labelled-absent : (l : Text) (rows : List Record) → list_any (bytes_eq l) (map label_of rows) ≡ false → labelled l rows ≡ []
labelled-absent l [] absent = refl
labelled-absent l (r ∷ rows) absent =
    elim (cases_Bool (bytes_eq l (label_of r))) [
      | inl here ↦ let t : true ≡ false = rw here at absent in cc
      | inr here ↦
          let later : list_any (bytes_eq l) (map label_of rows) ≡ false = rw here at absent in
          rw here (labelled-absent l rows later)
    ]

-- the records of a label, one record more: of another label, and of this one
pub labelled-other : (l : Text) (rows : List Record) (r : Record) → bytes_eq l (label_of r) ≡ false → labelled l (rows ++ r ∷ []) ≡ labelled l rows
labelled-other l rows r other = rw other at (filter-append (λ (x : Record). bytes_eq l (label_of x)) rows (r ∷ [])) ∙ append-nil (labelled l rows)

pub labelled-own : (rows : List Record) (r : Record) → labelled (label_of r) (rows ++ r ∷ []) ≡ labelled (label_of r) rows ++ r ∷ []
labelled-own rows r = rw (itself (label_of r)) at (filter-append (λ (x : Record). bytes_eq (label_of r) (label_of x)) rows (r ∷ []))

-- what is gathered under a label
abbrev pub under : Format → List Record → Text → Tally
under f rows label = tally_of (entries_of f (labelled label rows))

under-same : (f : Format) (rows : List Record) (r : Record) (x : Role) → role_of f r ≡ Some x → under f (rows ++ r ∷ []) (label_of r) ≡ with_role (under f rows (label_of r)) x
under-same f rows r x has =
    let e = block_entry x (copies_in f r) (cells_of f r) in
    let is : block_entry_of f r ≡ Some e = rw has refl in
    let entries : entries_of f (labelled (label_of r) (rows ++ r ∷ [])) ≡ entries_of f (labelled (label_of r) rows) ++ e ∷ [] =
    ap (entries_of f) (labelled-own rows r) ∙ filter_map-append (block_entry_of f) (labelled (label_of r) rows) (r ∷ []) ∙ ap (λ o. entries_of f (labelled (label_of r) rows) ++ cons_option o []) is in
    ap tally_of entries ∙ tally-push (entries_of f (labelled (label_of r) rows)) e

under-other : (f : Format) (rows : List Record) (r : Record) (m : Text) → bytes_eq (label_of r) m ≡ false
    → under f (rows ++ r ∷ []) m ≡ under f rows m
under-other f rows r m apart =
    ap (λ rs. tally_of (entries_of f rs)) (labelled-other m rows r (turned m (label_of r) ∙ apart))

-- what is gathered under each label
abbrev pub tallies : Format → List Record → List Tally
tallies f rows = map (under f rows) (labels rows)

-- a tally more, where the label is new
abbrev pub with_tally : List Tally → Bool → List Tally
with_tally ts known = ts ++ cond known [] (nothing ∷ [])

-- the tallies with one more where the label is new
pub tallies-are : (f : Format) (rows : List Record) (l : Text) (ls : List Text) (ts hs : List Tally) → ls ≡ labels rows → ts ≡ tallies f rows
    → hs ≡ with_tally ts (list_any (bytes_eq l) ls) → hs ≡ with_tally (tallies f rows) (list_any (bytes_eq l) (labels rows))
tallies-are f rows l ls ts hs same are later =
    later ∙ ap (λ (g : List Tally). with_tally g (list_any (bytes_eq l) ls)) are ∙ ap (λ (x : List Text). with_tally (tallies f rows) (list_any (bytes_eq l) x)) same

-- the labels, one record more
pub labels-push : (rows : List Record) (r : Record) → labels (rows ++ r ∷ []) ≡ insert_key bytes_eq (labels rows) (label_of r)
labels-push rows r = ap (distinct bytes_eq) (map-append label_of rows (r ∷ [])) ∙ distinct-push (map label_of rows) (label_of r)

step-known : (f : Format) (rows : List Record) (r : Record) (x : Role) → role_of f r ≡ Some x → list_any (bytes_eq (label_of r)) (labels rows) ≡ true
    → set (tallies f rows) (position_or_len (bytes_eq (label_of r)) (labels rows)) (with_role (get_or (tallies f rows) (position_or_len (bytes_eq (label_of r)) (labels rows)) nothing) x)
    ≡ map (under f (rows ++ r ∷ [])) (labels rows)
step-known f rows r x is known =
    let G = under f rows in
    let H = under f (rows ++ r ∷ []) in
    let l = label_of r in
    rw (get-label G H l (under-other f rows r) (labels rows) nothing known, ← under-same f rows r x is)
    (set-label G H l (under-other f rows r) (labels rows) (apart-distinct bytes_eq (map label_of rows)) known)

step-new : (f : Format) (rows : List Record) (r : Record) (x : Role) → role_of f r ≡ Some x → list_any (bytes_eq (label_of r)) (labels rows) ≡ false
    → set (tallies f rows ++ nothing ∷ []) (position_or_len (bytes_eq (label_of r)) (labels rows)) (with_role (get_or (tallies f rows ++ nothing ∷ []) (position_or_len (bytes_eq (label_of r)) (labels rows)) nothing) x)
    ≡ map (under f (rows ++ r ∷ [])) (labels rows ++ label_of r ∷ [])
step-new f rows r x is new =
    let G = under f rows in
    let H = under f (rows ++ r ∷ []) in
    let l = label_of r in
    let at : position_or_len (bytes_eq l) (labels rows) ≡ length (labels rows) = absent-place (bytes_eq l) (labels rows) new in
    let long : length (tallies f rows) ≡ length (labels rows) = length-map (labels rows) G in
    let none : list_any (bytes_eq l) (map label_of rows) ≡ false = sym (any-distinct bytes_eq bytes_eq-Decides l (map label_of rows)) ∙ new in
    let start : under f rows l ≡ nothing = ap (λ rs. tally_of (entries_of f rs)) (labelled-absent l rows none) in
    let value : with_role nothing x ≡ H l = ap (λ g. with_role g x) (sym start) ∙ sym (under-same f rows r x is) in
    rw (at, get_or_at (tallies f rows) nothing [] nothing (length (labels rows)) long, value)
    (set_at (tallies f rows) nothing [] (H l) (length (labels rows)) long
    ∙ ap (λ ts. ts ++ H l ∷ []) (sym (map-others G H l (under-other f rows r) (labels rows) new))
    ∙ sym (map-append H (labels rows) (l ∷ [])))

-- a record more: its label has one record more
pub tallies-push : (f : Format) (rows : List Record) (r : Record) (x : Role) → role_of f r ≡ Some x
    → (ts : List Tally) → ts ≡ with_tally (tallies f rows) (list_any (bytes_eq (label_of r)) (labels rows))
    → set ts (position_or_len (bytes_eq (label_of r)) (labels rows)) (with_role (get_or ts (position_or_len (bytes_eq (label_of r)) (labels rows)) nothing) x) ≡ tallies f (rows ++ r ∷ [])
tallies-push f rows r x is ts are =
    elim (cases_Bool (list_any (bytes_eq (label_of r)) (labels rows))) [
      | inl known ↦
          let kept : ts ≡ tallies f rows = are ∙ rw known (append-nil (tallies f rows)) in
          rw (kept, labels-push rows r, known) (step-known f rows r x is known)
      | inr new ↦
          let more : ts ≡ tallies f rows ++ nothing ∷ [] = are ∙ rw new refl in
          rw (more, labels-push rows r, new) (step-new f rows r x is new)
    ]

-- the label's place is one of a builder
pub place-within : (f : Format) (rows : List Record) (l : Text) (ts : List Tally) → ts ≡ with_tally (tallies f rows) (list_any (bytes_eq l) (labels rows))
    → position_or_len (bytes_eq l) (labels rows) < length ts
place-within f rows l ts are =
    let long : length (tallies f rows) ≡ length (labels rows) = length-map (labels rows) (under f rows) in
    elim (cases_Bool (list_any (bytes_eq l) (labels rows))) [
      | inl known ↦
          let kept : ts ≡ tallies f rows = are ∙ rw known (append-nil (tallies f rows)) in
          let low = known-place (bytes_eq l) (labels rows) known in
          rw (kept, long) low
      | inr new ↦
          let more : ts ≡ tallies f rows ++ nothing ∷ [] = are ∙ rw new refl in
          rw (more, absent-place (bytes_eq l) (labels rows) new, length_push (tallies f rows) nothing, long) (omega arith)
    ]

-- what is gathered under each label is what each block's entries amount to
pub tallies-blocks : (f : Format) (rows : List Record) → has_blocks f ≡ true → tallies f rows ≡ map tally_of (entry_blocks f rows)
tallies-blocks f rows is = rw is (map-both (labels rows)) where
  map-both : (ls : List Text) → map (under f rows) ls ≡ map tally_of (map (λ label. entries_of f (labelled label rows)) ls)
  map-both [] = refl
  map-both (l ∷ ls) = ap (λ r. under f rows l ∷ r) (map-both ls)

-- no more alternatives than records are gathered under a label
few-under : (f : Format) (rows : List Record) (l : Text) → (under f rows l).count ≤ length rows
few-under f rows l =
    let own = λ (r : Record). bytes_eq l (label_of r) in
    omega (arith, few-alternatives f (labelled l rows), length-filter own rows, count_by-le-length own rows)

few-in : (f : Format) (rows : List Record) (ls : List Text) (known : Bool) (i : ℕ) → (get_or (with_tally (map (under f rows) ls) known) i nothing).count ≤ length rows
few-in f rows [] true i = omega arith
few-in f rows [] false zero = omega arith
few-in f rows [] false (suc i) = omega arith
few-in f rows (l ∷ ls) known zero = few-under f rows l
few-in f rows (l ∷ ls) known (suc i) = few-in f rows ls known i

pub few-at : (f : Format) (rows : List Record) (ts : List Tally) (known : Bool) (i : ℕ) → ts ≡ with_tally (tallies f rows) known → (get_or ts i nothing).count ≤ length rows
few-at f rows ts known i are = rw are (few-in f rows (labels rows) known i)
