use Rattle.std.proofs.Common.{◌≡◌, drop}
use Rattle.std.specs.List.{list_any}
use Rattle.pg_slice_replay.specs.Apart.{is_stored}
use Rattle.pg_slice_replay.specs.Paths.{accesses_with}
use Rattle.pg_slice_replay.proofs.apart.are_stored.Given as goal

abbrev pub invariant-loop-word : goal.invariant-loop-word
invariant-loop-word l = list_any (is_stored (accesses_with l.accesses l.ats)) l.words ≡ list_any (is_stored (accesses_with l.accesses l.ats)) (drop l.word-index l.words)
