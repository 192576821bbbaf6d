-- Expressions and rows that are coded where they stand.
use Rattle.std.proofs.Common.{◌≡◌, ℕ, zero, suc, ◌<◌, List, [], ◌∷◌, Vec, Global, length, get_or, map, refl, sym, ap, ◌∙◌, arith}
use Rattle.au_plain.specs.declared.expr.PExpr.{PExpr}
use Rattle.au_plain.specs.declared.expr.PExpr.TheVariants.{Least, Greatest}
use Rattle.au_plain.specs.PTerms.{pterm}
use Rattle.au_plain.specs.PTerms as term
use Rattle.au_plain.proofs.TermLists.{terms_of, least_view, greatest_view}
use Rattle.au_codes.specs.Codes.{Code}
use Rattle.au_codes.specs.CodedPlans.{coded_term, coded_terms}
use Rattle.au_codes.specs.Gathering.{terms}

-- two lists of one length that agree item by item
pub same_items : {A B : Type 0} (f g : A → B) (xs ys : List A) → length xs ≡ length ys → ((k : ℕ) (d : A) → k < length ys → f (get_or xs k d) ≡ g (get_or ys k d)) → map f xs ≡ map g ys
same_items f g [] [] n h = refl
same_items f g [] (y ∷ ys) n h = let never : ⊥ = omega (arith, n) in absurd never
same_items f g (x ∷ xs) [] n h = let never : ⊥ = omega (arith, n) in absurd never
same_items f g (x ∷ xs) (y ∷ ys) n h =
    let rest = same_items f g xs ys (omega (arith, n)) (λ k d l. h (suc k) d (omega (arith, l))) in
    let first : f x ≡ g y = h zero x (omega arith) in
    λ i. first i ∷ rest i

pub map_itself : {A : Type 0} (xs : List A) → map (λ x. x) xs ≡ xs
map_itself [] = refl
map_itself (x ∷ xs) = ap (λ l. x ∷ l) (map_itself xs)

coded_all : (c : Code) (es fs : List PExpr) → map pterm fs ≡ map (λ e. coded_term c (pterm e)) es → terms_of fs ≡ coded_terms c (terms_of es)
coded_all c [] [] h = refl
coded_all c [] (f ∷ fs) h = cc
coded_all c (e ∷ es) [] h = cc
coded_all c (e ∷ es) (f ∷ fs) h =
    let first : pterm f ≡ coded_term c (pterm e) = cc in
    let rest : map pterm fs ≡ map (λ x. coded_term c (pterm x)) es = cc in
    λ i. term.cons (first i) (coded_all c es fs rest i)

pub least_coded : (c : Code) (es fs : Vec PExpr Global) → map pterm fs.items ≡ map (λ e. coded_term c (pterm e)) es.items → pterm (Least fs) ≡ coded_term c (pterm (Least es))
least_coded c es fs h = least_view fs ∙ ap term.Least (coded_all c es.items fs.items h) ∙ sym (ap (coded_term c) (least_view es))

pub greatest_coded : (c : Code) (es fs : Vec PExpr Global) → map pterm fs.items ≡ map (λ e. coded_term c (pterm e)) es.items → pterm (Greatest fs) ≡ coded_term c (pterm (Greatest es))
greatest_coded c es fs h = greatest_view fs ∙ ap term.Greatest (coded_all c es.items fs.items h) ∙ sym (ap (coded_term c) (greatest_view es))

-- the terms of a list
terms_same : (es : List PExpr) → terms_of es ≡ terms es
terms_same [] = refl
terms_same (e ∷ es) = ap (term.cons (pterm e)) (terms_same es)

pub least_terms : (es : Vec PExpr Global) → pterm (Least es) ≡ term.Least (terms es.items)
least_terms es = least_view es ∙ ap term.Least (terms_same es.items)

pub greatest_terms : (es : Vec PExpr Global) → pterm (Greatest es) ≡ term.Greatest (terms es.items)
greatest_terms es = greatest_view es ∙ ap term.Greatest (terms_same es.items)
