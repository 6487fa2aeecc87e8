-- Two threads each sum the input in memory of their own and add the sum to a number under a mutex. What names the threads lies in granules 7
-- and 8. The first seven shared steps: main starts and creates both threads, and the first of them starts, stores 0 in its two numbers and
-- reads the second.
use Rattle.std.specs.Prelude.{ℕ, ◌+◌, ◌*◌, List, [], ◌∷◌, true, false, Some, None}
use Rattle.pg_num.specs.Pointers.{word_of}
use Rattle.pg_ir.specs.declared.request.Request.TheVariants as requests
use Rattle.pg_run_thread.specs.declared.action.Action.TheVariants as actions
use Rattle.pg_run_trace.specs.declared.turn.TurnKind.TheVariants as turns
use Rattle.pg_law_seats.specs.Rows.{BeginsAs, Row, access, event}
use Rattle.pg_seats.specs.declared.run.Run.{Run}

-- the thread that owns each turn: of both threads start, lock, unlock and exit, between main's start and creates, and its joins, print and
-- exit
abbrev pub owners : List ℕ
owners = 0 ∷ 0 ∷ 0 ∷ 1 ∷ 1 ∷ 1 ∷ 1 ∷ 2 ∷ 2 ∷ 2 ∷ 2 ∷ 0 ∷ 0 ∷ 0 ∷ 0 ∷ []

-- a create of this thread, whose number is stored at an offset in the 16 bytes from granule 7 on
abbrev pub create : ℕ → ℕ → ℕ → Row
create instr made offset = record {
  thread = 0;
  instr = instr;
  action = actions.Event (requests.Create (record { start = 56 + offset; bytes = 8 }) 0 0);
  made = made;
  told = event turns.Create made (Some (record { pointer = word_of (record { start = 7; length = 16; offset = offset }); number = made }));
}

abbrev pub start_of : ℕ → ℕ → Row
start_of t instr = record { thread = t; instr = instr; action = actions.Event requests.Start; made = 0; told = event turns.Start t None }

-- the granule with which the memory of thread 1 begins
abbrev pub own_granule : ℕ
own_granule = 2129920

abbrev pub own_byte : ℕ
own_byte = 17039360

-- a store of 0 in a granule of its own
abbrev pub zero_at : ℕ → ℕ → Row
zero_at instr k = record {
  thread = 1;
  instr = instr;
  action = actions.Store (record { start = own_byte + 8 * k; bytes = 8 }) 0;
  made = 0;
  told = access (own_granule + k) 0 8 0 true;
}

-- and a load of it
abbrev pub read_at : ℕ → ℕ → Row
read_at instr k = record {
  thread = 1;
  instr = instr;
  action = actions.Load (record { start = own_byte + 8 * k; bytes = 8 });
  made = 0;
  told = access (own_granule + k) 0 8 0 false;
}

abbrev pub rows : List Row
rows = start_of 0 23 ∷ create 24 1 0 ∷ create 25 2 8 ∷ start_of 1 0 ∷ zero_at 2 0 ∷ zero_at 3 1 ∷ read_at 5 1 ∷ []

-- its run
abbrev pub BeginsSums : Run → Type 0
BeginsSums r = BeginsAs r owners rows
