-- Effects, gates and turns, computed by hand.
use Rattle.std.proofs.Common.{◌≡◌, ℕ, [], ◌∷◌, true, false, Option, Some, None, refl}
use Rattle.pg_num.specs.Places.{ByteRange}
use Rattle.pg_ir.specs.declared.request.Request.TheVariants as requests
use Rattle.pg_run.specs.pg_run_objects.Sync as sync
use Rattle.pg_run_thread.specs.declared.action.Action.TheVariants as actions
use Rattle.pg_run.specs.pg_run_trace.declared.step.StepKind.TheVariants as told
use Rattle.pg_run.specs.pg_run_trace.declared.turn.Turn.{Turn}
use Rattle.pg_run.specs.pg_run_trace.declared.turn.TurnKind.TheVariants as kinds
use Rattle.pg_run.specs.State.{State}
use Rattle.pg_law_effects.specs.Effect.{Effect, Write, effect, value_left, word_left, word_read_by, write_of}
use Rattle.pg_law_effects.specs.Gates.{marked}
use Rattle.pg_law_effects.specs.Meets.{byte_written, meets}
use Rattle.pg_law_effects.specs.PermittedSteps.{one_more, turns_behind}

-- ---- bytes

abbrev at : ℕ → ℕ → ByteRange
at start bytes = record { start = start; bytes = bytes }

abbrev plain : ℕ → Option ByteRange → Option Write → Effect
plain t reads writes = record { thread = t; local = None; reads = reads; word_read = None; writes = writes; request = None }

-- a store of 258 in four bytes from 8 on
abbrev store : Effect
store = plain 0 None (Some (record { at = at 8 4; number = 258 }))

low_byte : byte_written store 8 ≡ Some 2
low_byte = refl

next_byte : byte_written store 9 ≡ Some 1
next_byte = refl

last_byte : byte_written store 11 ≡ Some 0
last_byte = refl

byte_behind : byte_written store 12 ≡ None
byte_behind = refl

-- a load of two bytes from 10 on, and one of eight from 16 on
load_meets : meets 10 store (plain 1 (Some (at 10 2)) None) ≡ true
load_meets = refl

load_elsewhere : meets 16 store (plain 1 (Some (at 16 8)) None) ≡ false
load_elsewhere = refl

-- two loads of the same byte don't meet
loads_apart : meets 10 (plain 0 (Some (at 10 2)) None) (plain 1 (Some (at 10 2)) None) ≡ false
loads_apart = refl

-- ---- requests

abbrev some_state : State
some_state = record { locals = []; memory = []; sync = sync.fresh; words = 5 ∷ 6 ∷ []; printed = 72 ∷ []; value = 0 }

-- what an exit with 7 leaves
abbrev exits : ℕ → Effect
exits t = record {
  thread = t;
  local = None;
  reads = None;
  word_read = None;
  writes = None;
  request = Some (record { objects = sync.fresh; word = word_left (requests.Exit 7 false); value = value_left t (requests.Exit 7 false); printed = []; made = None });
}

main_value : (effect some_state (exits 0)).value ≡ 7
unfolding effect
main_value = refl

other_value : (effect some_state (exits 1)).value ≡ 0
unfolding effect
other_value = refl

exit_words : (effect some_state (exits 1)).words ≡ 5 ∷ 7 ∷ []
unfolding effect
exit_words = refl

-- a join with a place reads and writes the exit value, one without a place neither
join_reads : word_read_by 0 (actions.Event (requests.Join 1 (Some (at 16 8)))) ≡ Some 1
join_reads = refl

join_writes : write_of some_state (actions.Event (requests.Join 1 (Some (at 16 8)))) ≡ Some (record { at = at 16 8; number = 6 })
join_writes = refl

join_without : write_of some_state (actions.Event (requests.Join 1 None)) ≡ None
join_without = refl

-- a create writes the number of the new thread
create_writes : write_of some_state (actions.Event (requests.Create (at 16 8) 3 9)) ≡ Some (record { at = at 16 8; number = 0 })
create_writes = refl

-- ---- gates

gated_load : marked true (told.Access (record { pointer = 1; number = 2; bytes = 4; writes = false; event = false }))
    ≡ told.Access (record { pointer = 1; number = 2; bytes = 4; writes = false; event = true })
gated_load = refl

gated_branch : marked true (told.Branch 1) ≡ told.Branch 1
gated_branch = refl

-- ---- turns and counts

abbrev lock : Turn
lock = record { thread = record { 0 = 1 }; instr = record { 0 = 4 }; kind = kinds.Lock; object = 24 }

after_plain : turns_behind None (lock ∷ []) ≡ lock ∷ []
after_plain = refl

after_turn : turns_behind (Some lock) (lock ∷ []) ≡ []
after_turn = refl

counted : one_more 1 (λ t. t) 1 ≡ 2
counted = refl

not_counted : one_more 1 (λ t. t) 2 ≡ 2
not_counted = refl
