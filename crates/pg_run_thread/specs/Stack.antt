-- The frames of a thread in one list of registers.
use Rattle.std.specs.Prelude.{◌≡◌, ℕ, ◌+◌, ◌<◌, ◌≤◌, List, [], ◌∷◌, length, take, drop, Bool, true, false, Option}
use Rattle.pg_ir.specs.pg_num.declared.limits.TheConstants.{CALL_DEPTH_LIMIT, FUNCTION_REGISTER_LIMIT, THREAD_REGISTER_LIMIT}
use Rattle.pg_run_thread.specs.declared.head.Head.{Head}
use Rattle.pg_run_thread.specs.LocalState.{Frame}

abbrev pub frame_of : Head → List (Option ℕ) → Frame
frame_of h registers = record { function = h.function; place = h.place; registers = registers; height = h.height }

-- how many registers the calls have together
abbrev pub counts : List Head → ℕ
counts [] = 0
counts (h ∷ hs) = h.count + counts hs

-- the frames of waiting calls; the calls come from the first one on, and the frames from the last one on
abbrev pub waiting : List Head → List (Option ℕ) → List Frame → List Frame
waiting [] registers fs = fs
waiting (h ∷ hs) registers fs = waiting hs (drop h.count registers) (frame_of h (take h.count registers) ∷ fs)

-- the present call stands apart: its registers are those from the base on
unfoldable pub frames_of : Bool → Head → ℕ → List Head → List (Option ℕ) → List Frame
frames_of true top base heads registers = []
frames_of false top base heads registers = frame_of top (drop base registers) ∷ waiting heads (take base registers) []

-- the waiting calls' registers lie below the base, and there is room for all
pub record IsStack (low : ℕ) (hs : List Head) (rs : List (Option ℕ)) (heads_room registers_room values_room : ℕ) : Type 0 where
  pub base : low ≡ counts hs
  pub above : low ≤ length rs
  pub few : length hs < CALL_DEPTH_LIMIT
  pub small : length rs ≤ THREAD_REGISTER_LIMIT
  pub heads : CALL_DEPTH_LIMIT ≤ heads_room
  pub registers : THREAD_REGISTER_LIMIT ≤ registers_room
  pub values : FUNCTION_REGISTER_LIMIT ≤ values_room
