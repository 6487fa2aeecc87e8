use Rattle.std.proofs.Common.{◌≡◌, ℕ, ◌+◌, take}
use Rattle.std.specs.List.{sum_by}
use Rattle.pg_check_bodies.specs.BodyBlocks.{node_count, capped}
use Rattle.pg_check_bodies.proofs.limits.lines_until.Given as goal

abbrev pub invariant-loop-block : goal.invariant-loop-block
invariant-loop-block l = (lines : ℕ) → l.fn.before ≡ capped lines → l.count ≡ capped (lines + sum_by node_count (take l.block-index l.blocks))
