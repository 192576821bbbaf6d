-- Parts that were read side by side.
use Rattle.std.proofs.Common.{◌≡◌, ℕ, Bool, List, Some, None, refl, ap}
use Rattle.std.specs.Prelude.{Option, option_map}
use Rattle.au_parse.specs.declared.Name.{Name}
use Rattle.au_parse.specs.Tree.{TermTree, ItemTree, QueryTree, Sources}
use Rattle.au_parse.specs.Expressions.{both}
use Rattle.au_parse.specs.Queries.{select_of}

-- two parts side by side
abbrev pub pair : {A B : Type 0} → Option A → Option B → Option (A × B)
pair a b = both (λ x y. (x, y)) a b

-- a tree of both parts is the tree of the pair
both_views : {A B C D E : Type 0} (f : C → D → E) (g : A → C) (h : B → D) (a : Option A) (b : Option B) → both f (option_map g a) (option_map h b) ≡ option_map (λ (r : A × B). f (g r.0) (h r.1)) (pair a b)
both_views f g h (Some x) (Some y) = refl
both_views f g h (Some x) None = refl
both_views f g h None b = refl

pub both_read : {A B C D E : Type 0} (f : C → D → E) (g : A → C) (h : B → D) (a : Option A) (b : Option B) (made : Option (A × B)) (r : A × B) (x : E) → made ≡ pair a b → made ≡ Some r → x ≡ f (g r.0) (h r.1)
    → Some x ≡ both f (option_map g a) (option_map h b)
both_read f g h a b made r x are is x_is = rw (x_is, both_views f g h a b, ← are, is) refl

pub none_read : {A B C D E : Type 0} (f : C → D → E) (g : A → C) (h : B → D) (a : Option A) (b : Option B) (made : Option (A × B)) → made ≡ pair a b → made ≡ None → None ≡ both f (option_map g a) (option_map h b)
none_read f g h a b made are is = rw (both_views f g h a b, ← are, is) refl

-- both parts of a pair are there
pub both_there : {A B : Type 0} (a : Option A) (b : Option B) (r : A × B) → pair a b ≡ Some r → (a ≡ Some r.0) × (b ≡ Some r.1)
both_there (Some x) (Some y) r is = let same : (x, y) ≡ r = cc in (ap (λ p. Some p.0) same, ap (λ p. Some p.1) same)
both_there (Some x) None r is = (cc, cc)
both_there None b r is = (cc, cc)

-- a SELECT of parts that were read is a SELECT of them side by side
select_views : {A B C K : Type 0} (at : ℕ) (distinct grouped : Bool) (f : A → List ItemTree) (s : B → Sources) (k : K → List Name) (v : C → Option (ℕ × TermTree)) (items : Option A) (sources : Option B) (keys : Option K) (condition having : Option C)
    → select_of at distinct grouped (option_map f items) (option_map s sources) (option_map v condition) (option_map k keys) (option_map v having)
    ≡ option_map (λ (r : (A × B) × (K × (C × C))). QueryTree.select at distinct (f r.0.0) (s r.0.1) (v r.1.1.0) (k r.1.0) grouped (v r.1.1.1)) (pair (pair items sources) (pair keys (pair condition having)))
select_views at distinct grouped f s k v (Some is) (Some from) (Some ks) (Some c) (Some h) = refl
select_views at distinct grouped f s k v (Some is) (Some from) (Some ks) (Some c) None = refl
select_views at distinct grouped f s k v (Some is) (Some from) (Some ks) None having = refl
select_views at distinct grouped f s k v (Some is) (Some from) None (Some c) having = refl
select_views at distinct grouped f s k v (Some is) (Some from) None None having = refl
select_views at distinct grouped f s k v (Some is) None keys condition having = refl
select_views at distinct grouped f s k v None sources keys condition having = refl

pub one_select : {A B C K : Type 0} (at : ℕ) (distinct grouped : Bool) (f : A → List ItemTree) (s : B → Sources) (k : K → List Name) (v : C → Option (ℕ × TermTree)) (items : Option A) (sources : Option B) (keys : Option K) (condition having : Option C)
    (lists : Option (A × B)) (tests : Option (C × C)) (rest : Option (K × (C × C))) (all : Option ((A × B) × (K × (C × C)))) (r : (A × B) × (K × (C × C)))
    → lists ≡ pair items sources → tests ≡ pair condition having → rest ≡ pair keys tests → all ≡ pair lists rest → all ≡ Some r
    → Some (QueryTree.select at distinct (f r.0.0) (s r.0.1) (v r.1.1.0) (k r.1.0) grouped (v r.1.1.1))
    ≡ select_of at distinct grouped (option_map f items) (option_map s sources) (option_map v condition) (option_map k keys) (option_map v having)
one_select at distinct grouped f s k v items sources keys condition having lists tests rest all r lists_are tests_are rest_is all_is is =
    rw (select_views at distinct grouped f s k v items sources keys condition having, ← lists_are, ← tests_are, ← rest_is, ← all_is, is) refl

pub no_select : {A B C K : Type 0} (at : ℕ) (distinct grouped : Bool) (f : A → List ItemTree) (s : B → Sources) (k : K → List Name) (v : C → Option (ℕ × TermTree)) (items : Option A) (sources : Option B) (keys : Option K) (condition having : Option C)
    (lists : Option (A × B)) (tests : Option (C × C)) (rest : Option (K × (C × C))) (all : Option ((A × B) × (K × (C × C))))
    → lists ≡ pair items sources → tests ≡ pair condition having → rest ≡ pair keys tests → all ≡ pair lists rest → all ≡ None
    → None ≡ select_of at distinct grouped (option_map f items) (option_map s sources) (option_map v condition) (option_map k keys) (option_map v having)
no_select at distinct grouped f s k v items sources keys condition having lists tests rest all lists_are tests_are rest_is all_is is =
    rw (select_views at distinct grouped f s k v items sources keys condition having, ← lists_are, ← tests_are, ← rest_is, ← all_is, is) refl
