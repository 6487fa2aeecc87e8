-- A thread stores 7 at the upper half of a number, and main 5 at the lower one; main joins the thread, reads the whole and prints it. The
-- number lies in granule 1, and what names the thread in granule 2. Instructions 0 to 2 are the thread's, 3 to 9 main's.
use Rattle.std.specs.Prelude.{ℕ, ◌+◌, List, [], ◌∷◌, true, false, Some, None}
use Rattle.pg_num.specs.declared.layout.TheConstants.{MEMORY_BYTES}
use Rattle.pg_ir.specs.declared.request.Request.TheVariants as requests
use Rattle.pg_run_thread.specs.declared.action.Action.TheVariants as actions
use Rattle.pg_run_trace.specs.declared.turn.TurnKind.TheVariants as turns
use Rattle.pg_num.specs.Pointers.{word_of}
use Rattle.pg_law_seats.specs.Rows.{IsRunOf, Row, access, event}
use Rattle.pg_seats.specs.declared.run.Run.{Run}

-- the thread that owns each turn: main starts and creates the thread, which starts and exits; main joins it, prints and exits
abbrev pub owners : List ℕ
owners = 0 ∷ 0 ∷ 1 ∷ 1 ∷ 0 ∷ 0 ∷ 0 ∷ []

-- both halves as one number
abbrev pub both : ℕ
both = 30064771077

abbrev pub main_start : Row
main_start = record { thread = 0; instr = 3; action = actions.Event requests.Start; made = 0; told = event turns.Start 0 None }

abbrev pub create : Row
create = record {
  thread = 0;
  instr = 3;
  action = actions.Event (requests.Create (record { start = 16; bytes = 8 }) 0 0);
  made = 1;
  told = event turns.Create 1 (Some (record { pointer = word_of (record { start = 2; length = 8; offset = 0 }); number = 1 }));
}

abbrev pub start : Row
start = record { thread = 1; instr = 0; action = actions.Event requests.Start; made = 0; told = event turns.Start 1 None }

abbrev pub upper : Row
upper = record { thread = 1; instr = 1; action = actions.Store (record { start = 12; bytes = 4 }) 7; made = 0; told = access 1 4 4 7 true }

abbrev pub exit : Row
exit = record { thread = 1; instr = 2; action = actions.Event (requests.Exit 0 true); made = 0; told = event turns.Exit 1 None }

abbrev pub lower : Row
lower = record { thread = 0; instr = 4; action = actions.Store (record { start = 8; bytes = 4 }) 5; made = 0; told = access 1 0 4 5 true }

abbrev pub name : Row
name = record { thread = 0; instr = 5; action = actions.Load (record { start = 16; bytes = 8 }); made = 0; told = access 2 0 8 1 false }

abbrev pub join : Row
join = record { thread = 0; instr = 6; action = actions.Event (requests.Join 1 None); made = 0; told = event turns.Join 1 None }

abbrev pub whole : Row
whole = record { thread = 0; instr = 7; action = actions.Load (record { start = 8; bytes = 8 }); made = 0; told = access 1 0 8 both false }

abbrev pub print : Row
print = record { thread = 0; instr = 8; action = actions.Event (requests.Out both true); made = 0; told = event turns.Out 0 None }

abbrev pub main_exit : Row
main_exit = record { thread = 0; instr = 9; action = actions.Event (requests.Exit 0 true); made = 0; told = event turns.Exit 0 None }

-- its shared steps in the order of the full guided run: of each turn's owner those on the way to the turn, and the turn
abbrev pub rows : List Row
rows = main_start ∷ create ∷ start ∷ upper ∷ exit ∷ lower ∷ name ∷ join ∷ whole ∷ print ∷ main_exit ∷ []

-- its run
abbrev pub IsHalves : Run → Type 0
IsHalves r = IsRunOf r owners rows

-- the bytes of both granules, and the words of main and of thread 1
abbrev pub cells : List ℕ
cells = 8 ∷ 9 ∷ 11 ∷ 12 ∷ 13 ∷ 15 ∷ 16 ∷ 17 ∷ 23 ∷ MEMORY_BYTES ∷ (MEMORY_BYTES + 1) ∷ []
