-- Rows that are decoded one by one give what all of them decode to.
use Rattle.std.specs.Prelude.{◌≡◌, ℕ, List, [], ◌∷◌, ◌++◌, Ok, Err, Vec, map}
use Rattle.std.specs.declared.alloc.Global.{Global}
use Rattle.std.specs.List.{All, AllByRecursion, AllZip}
use Rattle.std.proofs.Common.{refl, sym, ◌∙◌, ap, subst, append_assoc}
use Rattle.std.proofs.lemmas.List.Elements.{All-from_recursion}
use Rattle.au_value.specs.declared.value.Value.{Value}
use Rattle.au_value.specs.Ranges.{Span}
use Rattle.au_annot.specs.Triples.{Counts}
use Rattle.au_algebra.specs.Entries.{entry}
use Rattle.au_algebra.specs.Bounded.{Bounded}
use Rattle.au_encode.specs.Encode.{decode, decode_row}
use Rattle.au_encode.specs.Gathered.{AreDecoded, DecodesTo, Part}

abbrev pub Row : Type 0
Row = Vec Value Global

pub decoded_all : (c : ℕ) (rows : List Row) (parts : List Part) (rel : Bounded) → AllZip (λ row part. DecodesTo c row.items part) rows parts → AreDecoded parts rel → rel ≡ decode c (map (λ row. row.items) rows)
decoded_all c [] [] rel z d = d
decoded_all c [] (p ∷ parts) rel z d = absurd z
decoded_all c (row ∷ rows) [] rel z d = absurd z
decoded_all c (row ∷ rows) (Err e ∷ parts) rel z d = absurd d
decoded_all c (row ∷ rows) (Ok r ∷ parts) [] z d = absurd d
decoded_all c (row ∷ rows) (Ok r ∷ parts) (first ∷ rel) z d = λ i. (d.0 ∙ z.0) i ∷ decoded_all c rows parts rel z.1 d.1 i

-- one part more
pub decoded_more :
    (all left later : List Part) (part : Part) (r : Vec Span Global × Counts) (rel more : Bounded) → left ≡ part ∷ later → part ≡ Ok r → more ≡ rel ++ entry r.0.items r.1 ∷ []
    → ((rest : Bounded) → AreDecoded left rest → AreDecoded all (rel ++ rest)) → (rest : Bounded) → AreDecoded later rest → AreDecoded all (more ++ rest)
decoded_more all left later part r rel more is ok pushed before rest d =
    let first = entry r.0.items r.1 in
    let here : AreDecoded (Ok r ∷ later) (first ∷ rest) = (refl, d) in
    let there : AreDecoded left (first ∷ rest) = subst (λ ps. AreDecoded ps (first ∷ rest)) (sym (is ∙ ap (λ (p : Part). p ∷ later) ok)) here in
    subst (AreDecoded all) (sym (ap (λ (m : Bounded). m ++ rest) pushed ∙ append_assoc rel (first ∷ []) rest)) (before (first ∷ rest) there)

pub decoded_end : (all left : List Part) (rel : Bounded) → left ≡ [] → ((rest : Bounded) → AreDecoded left rest → AreDecoded all (rel ++ rest)) → AreDecoded all rel
decoded_end all left rel none before =
    subst (AreDecoded all) (without rel) (before [] (subst (λ (ps : List Part). AreDecoded ps []) (sym none) refl))
  where
    without : (xs : Bounded) → xs ++ [] ≡ xs
    without [] = refl
    without (x ∷ xs) = ap (λ (ys : Bounded). x ∷ ys) (without xs)

by_values : (P : List Value → Type 0) (rows : List Row) → AllByRecursion P (map (λ (r : Row). r.items) rows) → AllByRecursion (λ (r : Row). P r.items) rows
by_values P [] h = tt
by_values P (r ∷ rows) h = (h.0, by_values P rows h.1)

-- a fact of the values of each row that is held, as one of the row
pub each_row : (P : List Value → Type 0) (rows : List Row) → AllByRecursion P (map (λ (r : Row). r.items) rows) → All (λ (r : Row). P r.items) rows
each_row P rows h = All-from_recursion (λ (r : Row). P r.items) rows (by_values P rows h)
