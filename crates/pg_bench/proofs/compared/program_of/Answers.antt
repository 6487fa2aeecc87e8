use Rattle.pg_bench.proofs.compared.program_of.Goals as goal

-- a tree that was read is in order
pub check-requires : goal.check-requires
check-requires c = c.a_module_is_in_order.ensures c.args.text.now _ c.in-Ok.ensures.found
