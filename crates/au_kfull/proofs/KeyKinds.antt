-- The kinds of keys and of hulls.
use Rattle.std.specs.Prelude.{◌≡◌, List, [], ◌∷◌, take}
use Rattle.std.proofs.Common.{refl, sym, ◌∙◌, ap}
use Rattle.std.proofs.lemmas.List.{take-map}
use Rattle.au_value.specs.Order.{kind_of}
use Rattle.au_value.specs.Ranges.{Span, hulls}
use Rattle.au_kfull.specs.declared.keys.Keys.{Keys}
use Rattle.au_kfull.specs.declared.keys.Keys.TheVariants.{Leading, All}
use Rattle.au_kfull.specs.Keys.{keys_of, kinds}

-- rows of the same kinds have keys of the same kinds
pub kinds-keys_of : (k : Keys) (a b : List Span) → kinds a ≡ kinds b → kinds (keys_of k a) ≡ kinds (keys_of k b)
kinds-keys_of (Leading n) a b h =
    sym (take-map (λ r. kind_of r.sg) n a) ∙ ap (take n) h ∙ take-map (λ r. kind_of r.sg) n b
kinds-keys_of All a b h = h

-- hulls have the kinds of the first row
pub kinds-hulls : (a b : List Span) → kinds a ≡ kinds b → kinds (hulls a b) ≡ kinds a
kinds-hulls [] b h = refl
kinds-hulls (x ∷ a) [] h = cc
kinds-hulls (x ∷ a) (y ∷ b) h = let rest : kinds a ≡ kinds b = cc in ap (λ ks. kind_of x.sg ∷ ks) (kinds-hulls a b rest)
