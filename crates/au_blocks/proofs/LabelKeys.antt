-- The keys of a set of labels, by their bytes.
use Rattle.std.proofs.Common.{◌≡◌, ◌∙◌, ◌+◌, true, false, cond, ◌||◌, ℕ, List, [], ◌∷◌, ◌++◌, map, Bool, refl, sym, ap}
use Rattle.std.specs.Prelude.{not, bytes_eq}
use Rattle.std.specs.List.{list_any, position_or_len}
use Rattle.std.proofs.lemmas.List.{append-nil, map-append}
use Rattle.indexmap.specs.IndexSet.{insert_key}
use Rattle.au_blocks.specs.declared.tally.Tally.{Tally}
use Rattle.au_blocks.specs.Tallies.{nothing}

module _ {K : Type 0} (text : K → List ℕ) where
  -- a label is looked up by its bytes
  abbrev pub is_label : List ℕ → K → Bool
  is_label label k = bytes_eq label (text k)

  -- two keys are one by their bytes
  abbrev pub same_key : K → K → Bool
  same_key a b = bytes_eq (text a) (text b)

  pub any-bytes : (label : List ℕ) (ks : List K) → list_any (is_label label) ks ≡ list_any (bytes_eq label) (map text ks)
  any-bytes label [] = refl
  any-bytes label (x ∷ ks) = ap (λ b. bytes_eq label (text x) || b) (any-bytes label ks)

  pub position-bytes : (label : List ℕ) (ks : List K) → position_or_len (is_label label) ks ≡ position_or_len (bytes_eq label) (map text ks)
  position-bytes label [] = refl
  position-bytes label (x ∷ ks) = ap (λ n. cond (not (bytes_eq label (text x))) (1 + n) 0) (position-bytes label ks)

  -- the place of a key, and the keys with one more
  pub key-place : (label : List ℕ) (k : K) (ks : List K) → text k ≡ label → position_or_len (same_key k) ks ≡ position_or_len (bytes_eq label) (map text ks)
  key-place label k ks is = position-bytes (text k) ks ∙ ap (λ b. position_or_len (bytes_eq b) (map text ks)) is

  pub any-label : (label : List ℕ) (k : K) (ks : List K) → text k ≡ label → list_any (same_key k) ks ≡ list_any (bytes_eq label) (map text ks)
  any-label label k ks is = any-bytes (text k) ks ∙ ap (λ b. list_any (bytes_eq b) (map text ks)) is

  pub insert-bytes : (label : List ℕ) (k : K) (ks : List K) → text k ≡ label → map text (insert_key same_key ks k) ≡ insert_key bytes_eq (map text ks) label
  insert-bytes label k ks is =
      ap (λ b. map text (cond b ks (ks ++ k ∷ []))) (any-bytes (text k) ks)
      ∙ (elim (list_any (bytes_eq (text k)) (map text ks)) as (λ b. map text (cond b ks (ks ++ k ∷ [])) ≡ cond b (map text ks) (map text ks ++ text k ∷ [])) [
        | true ↦ refl
        | false ↦ map-append text ks (k ∷ [])
      ])
      ∙ ap (insert_key bytes_eq (map text ks)) is

-- whether a label was known, as putting it in tells whether it was new
pub was-new : (known new : Bool) → new ≡ not known → new ≡ true → known ≡ false
was-new true new told is_new = cc
was-new false new told is_new = refl

pub was-known : (known new : Bool) → new ≡ not known → new ≡ false → known ≡ true
was-known true new told is_known = refl
was-known false new told is_known = cc

-- what is gathered where a label is known, and where it is new
pub known-tallies : (known : Bool) (ts : List Tally) → known ≡ true → ts ≡ ts ++ cond known [] (nothing ∷ [])
known-tallies known ts is = rw is (sym (append-nil ts))

pub new-tallies : (known : Bool) (ts us : List Tally) → known ≡ false → us ≡ ts ++ nothing ∷ [] → us ≡ ts ++ cond known [] (nothing ∷ [])
new-tallies known ts us new is = rw new is
