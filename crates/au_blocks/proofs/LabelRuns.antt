-- Records that are cut where the label changes are the records of each label, where each label comes behind the one before.
use Rattle.std.proofs.Common.{◌≡◌, ℕ, ◌+◌, ◌-◌, ◌<◌, ◌≤◌, true, false, List, [], ◌∷◌, ◌++◌, length, map, get_or, take, drop, inl, inr, refl, sym, ap, ◌∙◌, subst, arith, Less, Equal}
use Rattle.std.specs.Prelude.{bytes_eq, slice_range}
use Rattle.std.specs.List.{list_any}
use Rattle.std.proofs.lemmas.Bool.{cases_Bool}
use Rattle.std.proofs.lemmas.List.{get_or-drop, length-drop, map-append, take_more}
use Rattle.std.proofs.lemmas.Slice.Eq.{bytes_eq-Decides}
use Rattle.au_value.specs.Texts.{Text}
use Rattle.au_value.proofs.FirstSeen.{any-distinct}
use Rattle.au_csv.specs.Texts.{Record}
use Rattle.au_blocks.specs.BlockPlaces.{Before, Parted}
use Rattle.au_blocks.specs.Entries.{label_of, labelled}
use Rattle.au_blocks.specs.Runs.{label_order}
use Rattle.au_blocks.proofs.Distinct.{itself, turned}
use Rattle.au_blocks.specs.Order.{labels}
use Rattle.au_blocks.proofs.GatherStep.{labels-push, labelled-absent, labelled-other, labelled-own}
use Rattle.au_blocks.proofs.LabelOrder.{apart, label_total, one_label}

-- where labels come before l, and l before m, all come before m; l is none of those before it, but one of those up to it
before-push : (ks : List Text) (l m : Text) → Before ks l → label_order l m ≡ Less → Before (ks ++ l ∷ []) m
before-push [] l m h g = (g, tt)
before-push (k ∷ ks) l m h g = (label_total.trans k l m h.0 g, before-push ks l m h.1 g)

before-absent : (ks : List Text) (l : Text) → Before ks l → list_any (bytes_eq l) ks ≡ false
before-absent [] l h = refl
before-absent (k ∷ ks) l h =
    let other : bytes_eq l k ≡ false = turned l k ∙ apart k l h.0 in
    rw other (before-absent ks l h.1)

any-last : (ks : List Text) (l : Text) → list_any (bytes_eq l) (ks ++ l ∷ []) ≡ true
any-last [] l = rw (itself l) refl
any-last (k ∷ ks) l =
    elim (cases_Bool (bytes_eq l k)) [
      | inl here ↦ rw here refl
      | inr other ↦ rw other (any-last ks l)
    ]

-- a record whose label comes behind these is none of theirs
kept : (ks : List Text) (rows : List Record) (r : Record) → Before ks (label_of r) → map (λ l. labelled l (rows ++ r ∷ [])) ks ≡ map (λ l. labelled l rows) ks
kept [] rows r h = refl
kept (k ∷ ks) rows r h = rw (labelled-other k rows r (apart k (label_of r) h.0), kept ks rows r h.1) refl

-- these are the records of each label
pub all-runs : (rows : List Record) (done : List (List Record)) (run : List Record) (last : Text) (p : Parted rows done run last) → done ++ run ∷ [] ≡ map (λ l. labelled l rows) (p.known ++ last ∷ [])
all-runs rows done run last p = rw (p.others, p.own) (sym (map-append (λ l. labelled l rows) p.known (last ∷ [])))

-- one record more of the last run
pub longer-run : (rows : List Record) (done : List (List Record)) (run : List Record) (r : Record) → Parted rows done run (label_of r) → Parted (rows ++ r ∷ []) done (run ++ r ∷ []) (label_of r)
longer-run rows done run r p =
    let there : list_any (bytes_eq (label_of r)) (labels rows) ≡ true = ap (list_any (bytes_eq (label_of r))) p.all ∙ any-last p.known (label_of r) in
    record {
      known = p.known;
      all = labels-push rows r ∙ rw there p.all;
      before = p.before;
      others = p.others ∙ sym (kept p.known rows r p.before);
      own = ap (λ (x : List Record). x ++ r ∷ []) p.own ∙ sym (labelled-own rows r);
    }

-- the first record of a new run
pub new-run : (rows : List Record) (done : List (List Record)) (run : List Record) (last : Text) (r : Record) → label_order last (label_of r) ≡ Less → Parted rows done run last
    → Parted (rows ++ r ∷ []) (done ++ run ∷ []) (r ∷ []) (label_of r)
new-run rows done run last r less p =
    let l = label_of r in
    let ks = p.known ++ last ∷ [] in
    let before : Before ks l = before-push p.known last l p.before less in
    let new : list_any (bytes_eq l) (labels rows) ≡ false = ap (list_any (bytes_eq l)) p.all ∙ before-absent ks l before in
    let none : labelled l rows ≡ [] = labelled-absent l rows (sym (any-distinct bytes_eq bytes_eq-Decides l (map label_of rows)) ∙ new) in
    record {
      known = ks;
      all = labels-push rows r ∙ rw new (ap (λ (x : List Text). x ++ l ∷ []) p.all);
      before = before;
      others = all-runs rows done run last p ∙ sym (kept ks rows r before);
      own = ap (λ (x : List Record). x ++ r ∷ []) (sym none) ∙ sym (labelled-own rows r);
    }

-- the items from one place to another, one item more, and one item alone
range-more : {X : Type 0} (xs : List X) (begun place : ℕ) (d : X) → begun ≤ place → place < length xs → slice_range xs begun (place + 1) ≡ slice_range xs begun place ++ get_or xs place d ∷ []
range-more {X = X} xs begun place d order within =
    let long : place + 1 - begun ≡ (place - begun) + 1 = omega arith in
    let low : place - begun < length (drop begun xs) = rw (length-drop begun xs) (omega arith) in
    let at : begun + (place - begun) ≡ place = omega arith in
    rw long
    (take_more (drop begun xs) (place - begun) d low
    ∙ ap (λ (x : X). take (place - begun) (drop begun xs) ++ x ∷ []) (get_or-drop begun xs (place - begun) d ∙ ap (λ n. get_or xs n d) at))

range-one : {X : Type 0} (xs : List X) (place : ℕ) (d : X) → place < length xs → slice_range xs place (place + 1) ≡ get_or xs place d ∷ []
range-one xs place d within =
    let none : place - place ≡ 0 = omega arith in
    range-more xs place place d (omega arith) within ∙ ap (λ n. take n (drop place xs) ++ get_or xs place d ∷ []) none

-- the record at a place has the label of the one above it
pub runs-same : (rows : List Record) (done : List (List Record)) (begun place : ℕ) (last label : Text) → begun ≤ place → place < length rows → label ≡ label_of (get_or rows place [])
    → label_order last label ≡ Equal → Parted (take place rows) done (slice_range rows begun place) last → Parted (take (place + 1) rows) done (slice_range rows begun (place + 1)) last
runs-same rows done begun place last label order within is equal p =
    let one : last ≡ label_of (get_or rows place []) = one_label last label equal ∙ is in
    rw (one, take_more rows place [] within, range-more rows begun place [] order within)
    (longer-run (take place rows) done (slice_range rows begun place) (get_or rows place []) (subst (Parted (take place rows) done (slice_range rows begun place)) one p))

-- or one that comes behind it
pub runs-new : (rows : List Record) (done : List (List Record)) (begun place : ℕ) (last label : Text) → place < length rows → label ≡ label_of (get_or rows place [])
    → label_order last label ≡ Less → Parted (take place rows) done (slice_range rows begun place) last → Parted (take (place + 1) rows) (done ++ slice_range rows begun place ∷ []) (slice_range rows place (place + 1)) label
runs-new rows done begun place last label within is less p =
    rw (is, take_more rows place [] within, range-one rows place [] within)
    (new-run (take place rows) done (slice_range rows begun place) last (get_or rows place []) (rw is at less) p)
