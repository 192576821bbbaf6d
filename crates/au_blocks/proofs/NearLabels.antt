-- A label that stands at a place among the keys of a set: since no key is there twice, it is the label's place.
use Rattle.std.proofs.Common.{◌≡◌, ◌∙◌, ◌<◌, ℕ, zero, suc, ◌+◌, true, false, List, [], ◌∷◌, get_or, length, map, refl, sym, ap, subst, arith}
use Rattle.std.specs.Prelude.{bytes_eq}
use Rattle.std.specs.List.{AllByRecursion, IsDistinct, list_any, position_or_len}
use Rattle.au_blocks.proofs.Distinct.{same, turned}
use Rattle.au_blocks.proofs.LabelKeys.{same_key}

next_place : (p : ℕ) → 1 + p ≡ suc p
next_place p = omega arith

module _ {K : Type 0} (text : K → List ℕ) where
  at_place : (P : K → Type 0) (ks : List K) (p : ℕ) (d k : K) → AllByRecursion P ks → p < length ks → k ≡ get_or ks p d → P k
  at_place P [] p d k h below is = absurd (omega (arith, below))
  at_place P (x ∷ ks) zero d k h below is = subst P (sym is) h.0
  at_place P (x ∷ ks) (suc p) d k h below is = at_place P ks p d k h.1 (omega (arith, below)) is

  pub stands : (label : List ℕ) (ks : List K) (p : ℕ) (d k : K) → IsDistinct (same_key text) ks → p < length ks → k ≡ get_or ks p d → bytes_eq label (text k) ≡ true
      → (list_any (bytes_eq label) (map text ks) ≡ true) × (p ≡ position_or_len (bytes_eq label) (map text ks))
  unfolding IsDistinct
  stands label [] p d k apart below is h = absurd (omega (arith, below))
  stands label (x ∷ ks) zero d k apart below is h =
      let here : bytes_eq label (text x) ≡ true = ap (λ (y : K). bytes_eq label (text y)) (sym is) ∙ h in
      rw here (refl, refl)
  stands label (x ∷ ks) (suc p) d k apart below is h =
      let more = stands label ks p d k apart.1 (omega (arith, below)) is h in
      let other : bytes_eq (text x) (text k) ≡ false = at_place (λ (y : K). same_key text x y ≡ false) ks p d k apart.0 (omega (arith, below)) is in
      let no : bytes_eq (text k) (text x) ≡ false = turned (text k) (text x) ∙ other in
      let here : bytes_eq label (text x) ≡ false = ap (λ (y : List ℕ). bytes_eq y (text x)) (same label (text k) h) ∙ no in
      rw here (more.0, ap suc more.1 ∙ sym (next_place (position_or_len (bytes_eq label) (map text ks))))
