-- What the answers of all workers say, taken together.
use Rattle.std.proofs.Common.{◌≡◌, ℕ, zero, suc, ◌+◌, ◌*◌, ◌<◌, ◌≤◌, Bool, true, true≢false, ⊎_elim, MatchResult, List, [], ◌∷◌, ◌++◌, map, length, get_or, All, Result, Ok, Err, Vec, Global, sym, refl, ap, ◌∙◌, subst, arith}
use mathlib.Core.List.{map-append}
use Rattle.std.proofs.lemmas.List.{get_or_at, length_push}
use Rattle.std.proofs.lemmas.List.Elements.{All-nil, All-append}
use Rattle.std.specs.Fork.{slice_chunk}
use Rattle.au_board.specs.Views.{BoardView, PassView, AreOf, all_drawn, number_ended}
use Rattle.au_expr.specs.declared.fault.EvalFault.{EvalFault}
use Rattle.au_expr.specs.declared.fault.EvalFault.TheVariants as fault
use Rattle.au_par.specs.Joined.{Behind}
use Rattle.au_par.specs.States.{Drew, AllDrew, NoneDrew, passes_in, states_in, none_failed, some_overflowed, StandInOrder}

abbrev Gain : Type 0 → Type 0
Gain S = Result (PassView × Vec (ℕ × S) Global) EvalFault

module _ {T S : Type 0} (stands : S → List T → Type 0) (overflows : List T → Bool) (rows : List T) (size : ℕ) (board : BoardView) where
  abbrev D : ℕ → Gain S → Type 0
  D = Drew stands overflows rows size board

  abbrev Ds : ℕ → List (Gain S) → Type 0
  Ds = AllDrew stands overflows rows size board

  drew_push : (k : ℕ) (answers : List (Gain S)) (answer : Gain S) → Ds k answers → D (k + length answers) answer → Ds k (answers ++ answer ∷ [])
  drew_push k [] answer all drew = (subst (λ (n : ℕ). D n answer) (omega arith) drew, tt)
  drew_push k (a ∷ answers) answer all drew = (all.0, drew_push (k + 1) answers answer all.1 (subst (λ (n : ℕ). D n answer) (omega arith) drew))

  -- what each of so many workers gives
  abbrev pub Given : ℕ → Result (Vec (Gain S) Global) EvalFault → Type 0
  Given count answers = MatchResult answers (λ v. (length v.items ≡ count) × Ds 0 v.items) (λ f. f ≡ fault.NoMemory)

  -- what one worker gives, behind what the workers before it give
  pub given_behind : (count : ℕ) (others all : Result (Vec (Gain S) Global) EvalFault) (answer : Gain S) → Given count others → D count answer → Behind others answer all → Given (count + 1) all
  given_behind count others (Ok v) answer given drew put =
      let first : Given count (Ok put.0) = subst (Given count) put.1 given in
      let long = ap length put.2 ∙ length_push put.0.items answer in
      let number : count ≡ 0 + length put.0.items = omega (arith, first.0) in
      (omega (arith, long, first.0), subst (Ds 0) (sym put.2) (drew_push 0 put.0.items answer first.1 (subst (λ (n : ℕ). D n answer) number drew)))
  given_behind count others (Err f) answer given drew put = ⊎_elim (λ want. want) (λ is. subst (Given count) is given) put

  pub an_overflow : (k : ℕ) (answers : List (Gain S)) → Ds k answers → some_overflowed answers ≡ true → overflows rows ≡ true
  an_overflow k [] all over = absurd (true≢false (sym over))
  an_overflow k (Ok t ∷ answers) all over = an_overflow (k + 1) answers all.1 over
  an_overflow k (Err fault.Overflow ∷ answers) all over = all.0 refl
  an_overflow k (Err fault.NoMemory ∷ answers) all over = an_overflow (k + 1) answers all.1 over

  pub all_back : (k : ℕ) (answers : List (Gain S)) → Ds k answers → none_failed answers ≡ true → length (passes_in answers) ≡ length answers
  all_back k [] all none = refl
  all_back k (Ok t ∷ answers) all none = ap suc (all_back (k + 1) answers all.1 none)
  all_back k (Err f ∷ answers) all none = absurd (true≢false (sym none))

  boards : (k : ℕ) (answers : List (Gain S)) → Ds k answers → (i : ℕ) (d : PassView) → i < length (passes_in answers) → (get_or (passes_in answers) i d).board ≡ board
  boards k [] all i d below = absurd (omega arith)
  boards k (Ok t ∷ answers) all zero d below = all.0.board_is
  boards k (Ok t ∷ answers) all (suc i) d below = boards (k + 1) answers all.1 i d (omega arith)
  boards k (Err f ∷ answers) all i d below = boards (k + 1) answers all.1 i d below

  numbers : (k : ℕ) (answers : List (Gain S)) → Ds k answers → none_failed answers ≡ true → (i : ℕ) (d : PassView) → i < length (passes_in answers) → (get_or (passes_in answers) i d).number ≡ k + i
  numbers k [] all none i d below = absurd (omega arith)
  numbers k (Ok t ∷ answers) all none zero d below = let is = all.0.number_is in omega arith
  numbers k (Ok t ∷ answers) all none (suc i) d below = let rest = numbers (k + 1) answers all.1 none i d (omega arith) in omega arith
  numbers k (Err f ∷ answers) all none i d below = absurd (true≢false (sym none))

  -- the passes are those of the board, where no worker failed
  pub passes_of : (answers : List (Gain S)) → Ds 0 answers → none_failed answers ≡ true → length answers ≡ board.passes → AreOf board (passes_in answers)
  passes_of answers all none count = record {
    all = all_back 0 answers all none ∙ count;
    boards = boards 0 answers all;
    numbers = λ i d below. let is = numbers 0 answers all none i d below in omega arith;
  }

  pub all_ended : (k : ℕ) (answers : List (Gain S)) → Ds k answers → none_failed answers ≡ true → number_ended (passes_in answers) ≡ length answers
  all_ended k [] all none = refl
  all_ended k (Ok t ∷ answers) all none = let rest = all_ended (k + 1) answers all.1 none in rw all.0.ended (omega arith)
  all_ended k (Err f ∷ answers) all none = absurd (true≢false (sym none))

  pub states_drawn : (k : ℕ) (answers : List (Gain S)) → Ds k answers → map (λ e. e.0) (states_in answers) ≡ all_drawn (passes_in answers)
  states_drawn k [] all = refl
  states_drawn k (Ok t ∷ answers) all = map-append (λ e. e.0) t.1.items (states_in answers) ∙ (λ i. all.0.drawn i ++ states_drawn (k + 1) answers all.1 i)
  states_drawn k (Err f ∷ answers) all = states_drawn (k + 1) answers all.1

  abbrev pub ForPiece : ℕ × S → Type 0
  ForPiece e = stands e.1 (slice_chunk rows size e.0)

  pub states_stand : (k : ℕ) (answers : List (Gain S)) → Ds k answers → All ForPiece (states_in answers)
  states_stand k [] all = All-nil ForPiece
  states_stand k (Ok t ∷ answers) all = All-append ForPiece t.1.items (states_in answers) all.0.stand (states_stand (k + 1) answers all.1)
  states_stand k (Err f ∷ answers) all = states_stand (k + 1) answers all.1

  -- states in the order of their numbers
  pub stand_in_order : (k : ℕ) (states : List (ℕ × S)) → ((i : ℕ) (d : ℕ × S) → i < length states → (get_or states i d).0 ≡ k + i) → All ForPiece states → length rows ≤ (k + length states) * size
      → StandInOrder stands rows size k states
  stand_in_order k [] places all enough = subst (λ (n : ℕ). length rows ≤ n * size) (omega arith) enough
  stand_in_order k (state ∷ states) places all enough =
      let here : state.0 ≡ k = let is = places zero state (omega arith) in omega arith in (
        subst (λ (n : ℕ). stands state.1 (slice_chunk rows size n)) here (all zero state (omega arith)),
        stand_in_order (k + 1) states
            (λ i d below. let is = places (suc i) d (omega arith) in omega arith)
            (λ i d below. all (suc i) d (omega arith))
            (subst (λ (n : ℕ). length rows ≤ n * size) (omega arith) enough),
      )

-- the number of the last of the passes
pub last_number : (board : BoardView) (others : List PassView) (pass : PassView) (passes : List PassView) → passes ≡ others ++ pass ∷ [] → NoneDrew board passes → pass.number ≡ length others
last_number board others pass passes is none =
    let n = length others in
    let long : n < length passes = let l = ap length is ∙ length_push others pass in omega arith in
    ap (λ (p : PassView). p.number) (sym (get_or_at others pass [] pass n refl) ∙ sym (ap (λ ps. get_or ps n pass) is) ∙ none n pass long)
