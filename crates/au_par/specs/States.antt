-- What the work of workers that draw their pieces gives.
use Rattle.std.specs.Prelude.{◌≡◌, ℕ, ◌+◌, ◌*◌, ◌<◌, ◌≤◌, Bool, true, false, List, [], ◌∷◌, ◌++◌, map, length, slice_index_or, Result, Ok, Err, MatchResult, Vec}
use Rattle.std.specs.declared.alloc.Global.{Global}
use Rattle.std.specs.Fork.{slice_chunk}
use Rattle.std.specs.List.{All}
use Rattle.au_board.specs.Views.{BoardView, PassView, fresh}
use Rattle.au_expr.specs.declared.fault.EvalFault.{EvalFault}
use Rattle.au_expr.specs.declared.fault.EvalFault.TheVariants as fault

module _ {T S : Type 0} where
  -- a state for these rows, which don't overflow, or an overflow of rows that do; want of memory says nothing
  abbrev pub StandsOrOverflows : (S → List T → Type 0) → (List T → Bool) → List T → Result S EvalFault → Type 0
  StandsOrOverflows stands overflows rows answer = MatchResult answer (λ s. stands s rows × (overflows rows ≡ false)) (λ f. f ≡ fault.Overflow → overflows rows ≡ true)

  -- for any lists that two states stand for, the answer is of the two lists put together
  abbrev pub Merges : (T → Type 0) → (S → List T → Type 0) → (List T → Bool) → S → S → Result S EvalFault → Type 0
  Merges takes stands overflows first second answer =
      (xs ys : List T) → All takes xs → All takes ys → stands first xs → stands second ys → StandsOrOverflows stands overflows (xs ++ ys) answer

  -- the states of all pieces of this size from the k-th on, in order
  abbrev pub StandInOrder : (S → List T → Type 0) → List T → ℕ → ℕ → List (ℕ × S) → Type 0
  StandInOrder stands rows size k [] = length rows ≤ k * size
  StandInOrder stands rows size k (state ∷ states) = stands state.1 (slice_chunk rows size k) × StandInOrder stands rows size (k + 1) states

-- the passes from number 0 on, none of which has drawn a piece
abbrev pub NoneDrew : BoardView → List PassView → Type 0
NoneDrew board passes = (i : ℕ) (d : PassView) → i < length passes → slice_index_or passes i d ≡ fresh board i

-- a pass drew until the end, and there is a state for each piece that it drew
pub record HasDrawn {T S : Type 0} (stands : S → List T → Type 0) (rows : List T) (size : ℕ) (board : BoardView) (number : ℕ) (pass : PassView) (states : List (ℕ × S)) : Type 0 where
  pub board_is : pass.board ≡ board
  pub number_is : pass.number ≡ number
  pub ended : pass.ended ≡ true
  pub drawn : map (λ e. e.0) states ≡ pass.drawn
  pub stand : All (λ e. stands e.1 (slice_chunk rows size e.0)) states

-- what one worker gives
abbrev Gain : Type 0 → Type 0
Gain S = Result (PassView × Vec (ℕ × S) Global) EvalFault

module _ {T S : Type 0} (stands : S → List T → Type 0) (overflows : List T → Bool) (rows : List T) (size : ℕ) (board : BoardView) where
  abbrev pub Drew : ℕ → Gain S → Type 0
  Drew number answer = MatchResult answer (λ t. HasDrawn stands rows size board number t.0 t.1.items) (λ f. f ≡ fault.Overflow → overflows rows ≡ true)

  -- each worker in order, from the one of this number on
  abbrev pub AllDrew : ℕ → List (Gain S) → Type 0
  AllDrew number [] = Unit {0}
  AllDrew number (answer ∷ answers) = Drew number answer × AllDrew (number + 1) answers

module _ {S : Type 0} where
  -- the passes that came back
  abbrev pub passes_in : List (Gain S) → List PassView
  passes_in [] = []
  passes_in (Ok t ∷ answers) = t.0 ∷ passes_in answers
  passes_in (Err f ∷ answers) = passes_in answers

  -- the states that were given, each beside the number of its piece
  abbrev pub states_in : List (Gain S) → List (ℕ × S)
  states_in [] = []
  states_in (Ok t ∷ answers) = t.1.items ++ states_in answers
  states_in (Err f ∷ answers) = states_in answers

  abbrev pub none_failed : List (Gain S) → Bool
  none_failed [] = true
  none_failed (Ok t ∷ answers) = none_failed answers
  none_failed (Err f ∷ answers) = false

  abbrev pub some_overflowed : List (Gain S) → Bool
  some_overflowed [] = false
  some_overflowed (Ok t ∷ answers) = some_overflowed answers
  some_overflowed (Err fault.Overflow ∷ answers) = true
  some_overflowed (Err fault.NoMemory ∷ answers) = some_overflowed answers

  -- all passes and all states, where no worker failed, or an overflow where one had it
  abbrev pub Collects : List (Gain S) → Result (Vec PassView Global × Vec (ℕ × S) Global) EvalFault → Type 0
  Collects answers result =
      MatchResult result
      (λ t. (t.0.items ≡ passes_in answers) × (t.1.items ≡ states_in answers) × (none_failed answers ≡ true))
      (λ f. f ≡ fault.Overflow → some_overflowed answers ≡ true)

  -- the element of number k stands at place k, and there are so many
  abbrev pub IsNumbered : ℕ → List (ℕ × S) → Type 0
  IsNumbered count states = (length states ≡ count) × ((k : ℕ) (d : ℕ × S) → k < length states → (slice_index_or states k d).0 ≡ k)
