use Rattle.pg_slice_registers.proofs.ThreadsMade.{on_one}
use Rattle.pg_slice_registers.proofs.laws.one_thread_changes.Goals as goal

pub returns : goal.returns
returns c old new f t threads calls extents grew are long within e = on_one old new f t threads calls extents grew are long within e
