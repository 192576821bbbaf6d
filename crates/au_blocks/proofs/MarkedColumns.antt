-- The columns with numerals alone, record by record, and the kinds that follow.
use Rattle.std.proofs.Common.{◌≡◌, ◌<◌, ◌+◌, ◌∙◌, ℕ, zero, suc, Bool, true, false, ◌&&◌, List, [], ◌∷◌, ◌++◌, length, take, drop, get_or, map, Option, Some, None, refl, ap, sym, arith}
use Rattle.std.specs.Prelude.{is_none, set, unwrap_or, zip}
use Rattle.std.specs.List.{enumerate_from, list_all, list_any}
use Rattle.std.proofs.lemmas.List.Folds.{list_all-append}
use Rattle.au_value.specs.declared.kinds.Kind.{Kind}
use Rattle.au_csv.specs.Texts.{Record}
use Rattle.au_blocks.specs.declared.format.Format.{Format}
use Rattle.au_blocks.specs.Entries.{entries_of}
use Rattle.au_blocks.specs.Inferring.{column_kind, holds_numeral, inferred, is_alternative}
use Rattle.au_blocks.specs.Marks.{marks}
use Rattle.au_blocks.proofs.InferredKinds.{inferred_kind-rows}

regroup : (a b c : Bool) → ((a && b) && c) ≡ (a && (b && c))
regroup true b c = refl
regroup false b c = refl

-- some records, and more behind them
pub marks-append : (f : Format) (rows more : List Record) (j : ℕ) (bs : List Bool) → marks f more j (marks f rows j bs) ≡ marks f (rows ++ more) j bs
marks-append f rows more j [] = refl
marks-append f rows more j (b ∷ bs) =
    let here : ((b && list_all (holds_numeral f j) rows) && list_all (holds_numeral f j) more) ≡ (b && list_all (holds_numeral f j) (rows ++ more)) =
    regroup b (list_all (holds_numeral f j) rows) (list_all (holds_numeral f j) more) ∙ ap (λ h. b && h) (sym (list_all-append (holds_numeral f j) rows more)) in
    let rest = marks-append f rows more (j + 1) bs in
    λ i. here i ∷ rest i

stays : (b : Bool) → (b && true) ≡ b
stays true = refl
stays false = refl

-- no record
pub marks-none : (f : Format) (j : ℕ) (bs : List Bool) → marks f [] j bs ≡ bs
marks-none f j [] = refl
marks-none f j (b ∷ bs) = let here = stays b in let rest = marks-none f (j + 1) bs in λ i. here i ∷ rest i

-- there are as many marks as before
pub marks-long : (f : Format) (rows : List Record) (j : ℕ) (bs : List Bool) → length (marks f rows j bs) ≡ length bs
marks-long f rows j [] = refl
marks-long f rows j (b ∷ bs) = ap suc (marks-long f rows (j + 1) bs)

-- one column more of a record
pub marks-set : (f : Format) (r : Record) (bs : List Bool) (i k : ℕ) (v d : Bool) → i < length bs → v ≡ (get_or bs i d && holds_numeral f k r)
    → take (i + 1) (set bs i v) ++ marks f (r ∷ []) (k + 1) (drop (i + 1) (set bs i v)) ≡ take i bs ++ marks f (r ∷ []) k (drop i bs)
marks-set f r [] i k v d low is = absurd (omega arith)
marks-set f r (b ∷ bs) zero k v d low is = let here : v ≡ (b && (holds_numeral f k r && true)) = is ∙ ap (λ h. b && h) (sym (stays (holds_numeral f k r))) in λ j. here j ∷ marks f (r ∷ []) (k + 1) bs
marks-set f r (b ∷ bs) (suc i) k v d low is =
    let next : suc i + 1 ≡ suc (i + 1) = omega arith in
    rw next (ap (λ (xs : List Bool). b ∷ xs) (marks-set f r bs i k v d (omega (arith, low)) is))

-- the kinds of columns by their marks
kind-here : (w : Option Kind) (any all : Bool) → unwrap_or w (inferred ((is_none w && any) && all)) ≡ unwrap_or w (inferred (any && all))
kind-here None any all = refl
kind-here (Some k) any all = refl

pub kinds-marked : (f : Format) (rows : List Record) (any : Bool) (j : ℕ) (ws : List (Option Kind)) → any ≡ list_any (is_alternative f) rows
    → map (λ c. unwrap_or c.0 (inferred c.1)) (zip ws (marks f rows j (map (λ w. is_none w && any) ws))) ≡ map (column_kind (entries_of f rows)) (enumerate_from j ws)
kinds-marked f rows any j [] is = refl
kinds-marked f rows any j (w ∷ ws) is =
    let here : unwrap_or w (inferred ((is_none w && any) && list_all (holds_numeral f j) rows)) ≡ column_kind (entries_of f rows) (j, w) =
    kind-here w any (list_all (holds_numeral f j) rows)
    ∙ ap (λ b. unwrap_or w (inferred (b && list_all (holds_numeral f j) rows))) is
    ∙ ap (unwrap_or w) (sym (inferred_kind-rows f j rows)) in
    let rest = kinds-marked f rows any (j + 1) ws is in
    λ i. here i ∷ rest i
