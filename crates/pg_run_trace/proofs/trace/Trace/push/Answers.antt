use Rattle.pg_run_trace.proofs.trace.Trace.push.Goals as goal

pub push_cell-requires-in-Access-clause-plain : goal.push_cell-requires-in-Access-clause-plain
push_cell-requires-in-Access-clause-plain c =
    let a = c.in-Access.access in
    c.access_kind.ensures.plain 0 (record { first = a.pointer; second = a.number; instr = c.args.step.instr; thread = c.args.step.thread; kind = c.access_kind.result; bytes = a.bytes })
