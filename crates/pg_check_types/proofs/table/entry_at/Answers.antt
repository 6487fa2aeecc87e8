use Rattle.std.proofs.Common.{sym, true≢false}
use Rattle.pg_check_types.proofs.table.entry_at.Goals as goal

pub unreachable-requires : goal.unreachable-requires
unreachable-requires c = true≢false (sym (c.in-None.ensures.found.1 c.requires))

pub returns : goal.returns
returns c = sym c.in-Some.ensures.entry
