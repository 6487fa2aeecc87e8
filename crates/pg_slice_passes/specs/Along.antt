-- The steps of a run with what is known before each, and what the steps before one ask.
use Rattle.std.specs.Prelude.{ℕ, List, ◌++◌, take}
use Rattle.pg_slice_rules.specs.declared.decision.Decision.{Decision}
use Rattle.pg_slice_rules.specs.Closed.{conditions_at}
use Rattle.pg_slice_rules.specs.Extents.{is_live}
use Rattle.pg_slice_rules.specs.Known.{Reference, SymbolicState, Seen, Taken, region_of, seen_in, thread_of}
use Rattle.pg_slice_rules.specs.Moments.{Moment, instr_in, thread_in}
use Rattle.pg_slice_rules.specs.Rules.{Condition, Need, all_of, asks_pins, bounds_needs, need_blames, value_needs}

abbrev pub first_steps : Reference → Taken → ℕ → List Seen
first_steps R d n = take n (seen_in R d)

-- step n, with what is known before it
abbrev pub step_from : Reference → Taken → ℕ → SymbolicState → Moment → Seen
step_from R d n s m = record {
  number = n;
  moment = m;
  region = region_of R.program R.regions m (instr_in R.program m);
  live = is_live d.pinned (thread_of s (thread_in m)).extents;
  before = s;
}

-- ---- what a step asks by itself: the rules but for the two on conflicts

abbrev pub needs_at : Reference → Taken → Seen → List Need
needs_at R d x = value_needs R d x ++ bounds_needs R x

abbrev pub own_asks : Reference → Taken → Seen → List Decision
own_asks R d x = asks_pins d x ++ all_of need_blames (needs_at R d x)

-- the decisions that the first n steps ask for by themselves, and the conditions on an input
abbrev pub asked_before : Reference → Taken → ℕ → List Decision
asked_before R d n = all_of (own_asks R d) (first_steps R d n)

abbrev pub conditions_before : Reference → Taken → ℕ → List Condition
conditions_before R d n = all_of (conditions_at R d) (first_steps R d n)
