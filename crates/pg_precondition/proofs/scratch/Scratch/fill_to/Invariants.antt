use Rattle.std.proofs.Common.{◌≡◌, ◌≤◌, length, vec_capacity}
use Rattle.pg_precondition.specs.Scratches.{AreFirst}
use Rattle.pg_precondition.proofs.scratch.Scratch.fill_to.Given as goal

abbrev pub invariant-loop-i : goal.invariant-loop-i
invariant-loop-i l =
    AreFirst l.input l.nodes l.self-inside.numbers.items × (length l.self-inside.numbers.items ≡ l.i) × (l.i ≤ l.self-inside.room)
    × (l.self-inside.room ≡ l.fn.self.room) × (l.self-inside.room ≤ vec_capacity l.self-inside.numbers)
