-- Expressions that are renumbered where they stand.
use Rattle.std.proofs.Common.{◌≡◌, ℕ, zero, suc, ◌<◌, List, [], ◌∷◌, Vec, Global, length, get_or, map, refl, sym, ap, ◌∙◌, arith}
use Rattle.au_plain.specs.declared.expr.PExpr.{PExpr}
use Rattle.au_plain.specs.declared.expr.PExpr.TheVariants.{Least, Greatest}
use Rattle.au_plain.specs.PTerms.{PTerm, pterm}
use Rattle.au_plain.specs.PTerms as term
use Rattle.au_passes.specs.Pruning.{renumbered, all_renumbered}
use Rattle.au_plain.proofs.TermLists.{terms_of, least_view, greatest_view}

-- two lists of one length that agree item by item
pub same_items : {A B : Type 0} (f g : A → B) (xs ys : List A) → length xs ≡ length ys → ((k : ℕ) (d : A) → k < length ys → f (get_or xs k d) ≡ g (get_or ys k d)) → map f xs ≡ map g ys
same_items f g [] [] n h = refl
same_items f g [] (y ∷ ys) n h = let never : ⊥ = omega (arith, n) in absurd never
same_items f g (x ∷ xs) [] n h = let never : ⊥ = omega (arith, n) in absurd never
same_items f g (x ∷ xs) (y ∷ ys) n h =
    let rest = same_items f g xs ys (omega (arith, n)) (λ k d l. h (suc k) d (omega (arith, l))) in
    let first : f x ≡ g y = h zero x (omega arith) in
    λ i. first i ∷ rest i

renumbered_terms : (found : List ℕ) (es fs : List PExpr) → map pterm fs ≡ map (λ e. renumbered found (pterm e)) es → terms_of fs ≡ all_renumbered found (terms_of es)
renumbered_terms found [] [] h = refl
renumbered_terms found [] (f ∷ fs) h = cc
renumbered_terms found (e ∷ es) [] h = cc
renumbered_terms found (e ∷ es) (f ∷ fs) h =
    let first : pterm f ≡ renumbered found (pterm e) = cc in
    let rest : map pterm fs ≡ map (λ x. renumbered found (pterm x)) es = cc in
    λ i. term.cons (first i) (renumbered_terms found es fs rest i)

pub least_renumbered : (found : List ℕ) (es fs : Vec PExpr Global) → map pterm fs.items ≡ map (λ e. renumbered found (pterm e)) es.items → pterm (Least fs) ≡ renumbered found (pterm (Least es))
least_renumbered found es fs h = least_view fs ∙ ap term.Least (renumbered_terms found es.items fs.items h) ∙ sym (ap (renumbered found) (least_view es))

pub greatest_renumbered : (found : List ℕ) (es fs : Vec PExpr Global) → map pterm fs.items ≡ map (λ e. renumbered found (pterm e)) es.items → pterm (Greatest fs) ≡ renumbered found (pterm (Greatest es))
greatest_renumbered found es fs h = greatest_view fs ∙ ap term.Greatest (renumbered_terms found es.items fs.items h) ∙ sym (ap (renumbered found) (greatest_view es))
