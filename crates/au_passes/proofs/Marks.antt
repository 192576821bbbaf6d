-- Marks that are set one after the other.
use Rattle.std.proofs.Common.{◌≡◌, ℕ, zero, suc, ◌+◌, ◌<◌, List, [], ◌∷◌, ◌++◌, Bool, true, false, cond, Vec, Global, length, drop, get_or, refl, sym, ap, add-one, append_assoc, ◌∙◌, arith, slice_set, flat_map}
use Rattle.au_plain.specs.declared.expr.PExpr.{PExpr}
use Rattle.au_plain.specs.declared.expr.PExpr.TheVariants.{Least, Greatest}
use Rattle.au_plain.specs.PTerms.{pterm}
use Rattle.au_passes.specs.Reading.{columns, all_columns, mark_all, is_marked, chosen}
use Rattle.au_plain.proofs.TermLists.{terms_of, least_view, greatest_view}

-- the columns of one list of places, and then those of another
pub marked_in_turn : (xs ys : List ℕ) (marks : List Bool) → mark_all ys (mark_all xs marks) ≡ mark_all (xs ++ ys) marks
marked_in_turn [] ys marks = refl
marked_in_turn (x ∷ xs) ys marks = marked_in_turn xs ys (slice_set marks x true)

-- those of two parts
pub in_two : (whole xs ys : List ℕ) (old between new : List Bool) → whole ≡ xs ++ ys → between ≡ mark_all xs old → new ≡ mark_all ys between → new ≡ mark_all whole old
in_two whole xs ys old between new w x y = y ∙ ap (mark_all ys) x ∙ marked_in_turn xs ys old ∙ sym (ap (λ cs. mark_all cs old) w)

-- those of an item, and then of the items behind it
pub left_to_mark : {A : Type 0} (f : A → List ℕ) (xs : List A) (i : ℕ) (d : A) (marks : List Bool) → i < length xs → mark_all (flat_map f (drop i xs)) marks ≡ mark_all (flat_map f (drop (suc i) xs)) (mark_all (f (get_or xs i d)) marks)
left_to_mark f [] i d marks h = let never : ⊥ = omega (arith, h) in absurd never
left_to_mark f (x ∷ xs) zero d marks h = sym (marked_in_turn (f x) (flat_map f xs) marks)
left_to_mark f (x ∷ xs) (suc i) d marks h = left_to_mark f xs i d marks (omega (arith, h))

listed_columns : (es : List PExpr) → all_columns (terms_of es) ≡ flat_map (λ e. columns (pterm e)) es
listed_columns [] = refl
listed_columns (e ∷ es) = ap (λ cs. columns (pterm e) ++ cs) (listed_columns es)

pub least_columns : (es : Vec PExpr Global) → columns (pterm (Least es)) ≡ flat_map (λ e. columns (pterm e)) es.items
least_columns es = ap columns (least_view es) ∙ listed_columns es.items

pub greatest_columns : (es : Vec PExpr Global) → columns (pterm (Greatest es)) ≡ flat_map (λ e. columns (pterm e)) es.items
greatest_columns es = ap columns (greatest_view es) ∙ listed_columns es.items

-- where nothing is marked nothing is chosen
pub chosen_none : {A : Type 0} (xs : List A) → chosen [] xs ≡ []
chosen_none [] = refl
chosen_none (x ∷ xs) = refl

chosen_less : {A : Type 0} (xs : List A) (i : ℕ) → chosen [] (drop i xs) ≡ chosen [] (drop (suc i) (xs))
chosen_less xs i = chosen_none (drop i xs) ∙ sym (chosen_none (drop (suc i) xs))

-- the item at a place, if it is marked, and then the marked ones behind it
pub chosen_left : {A : Type 0} (marks : List Bool) (xs : List A) (i : ℕ) (d : A) → i < length xs → chosen (drop i marks) (drop i xs) ≡ cond (is_marked marks i) (get_or xs i d ∷ []) [] ++ chosen (drop (suc i) marks) (drop (suc i) xs)
chosen_left marks [] i d h = let never : ⊥ = omega (arith, h) in absurd never
chosen_left [] (x ∷ xs) zero d h = sym (chosen_none xs)
chosen_left (true ∷ marks) (x ∷ xs) zero d h = refl
chosen_left (false ∷ marks) (x ∷ xs) zero d h = refl
chosen_left [] (x ∷ xs) (suc i) d h = chosen_less xs i
chosen_left (b ∷ marks) (x ∷ xs) (suc i) d h = chosen_left marks xs i d (omega (arith, h))

-- one more item, if it is marked
pub next_chosen : {A : Type 0} (marks : List Bool) (xs : List A) (i : ℕ) (d : A) (read new whole : List A) (b : Bool) → i < length xs → b ≡ is_marked marks i → new ≡ read ++ cond b (get_or xs i d ∷ []) [] → read ++ chosen (drop i marks) (drop i xs) ≡ whole → new ++ chosen (drop (i + 1) marks) (drop (i + 1) xs) ≡ whole
next_chosen marks xs i d read new whole b h m n w =
    let rest = chosen (drop (suc i) marks) (drop (suc i) xs) in
    ap (λ k. new ++ chosen (drop k marks) (drop k xs)) (add-one i)
    ∙ ap (λ ys. ys ++ rest) (n ∙ ap (λ t. read ++ cond t (get_or xs i d ∷ []) []) m)
    ∙ append_assoc read (cond (is_marked marks i) (get_or xs i d ∷ []) []) rest
    ∙ sym (ap (λ ys. read ++ ys) (chosen_left marks xs i d h))
    ∙ w
