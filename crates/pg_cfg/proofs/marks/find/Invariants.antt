use Rattle.std.proofs.Common.{take}
use Rattle.pg_cfg.specs.Searches.{IsFoundFrom}
use Rattle.pg_cfg.proofs.marks.find.Given as goal

abbrev pub invariant-loop-target : goal.invariant-loop-target
invariant-loop-target l = IsFoundFrom (take l.target-index l.targets) l.initial.found.items l.initial.pending.items l.found.items l.pending.items
