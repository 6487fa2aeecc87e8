use Rattle.pg_run_thread.proofs.operands.operand_numbers.Goals as goal

pub returns-in-Phi : goal.returns-in-Phi
returns-in-Phi c = rw c.in-Phi.is (rw c.as_slice.ensures.items at c.incoming_numbers.ensures)

pub returns-in-Switch : goal.returns-in-Switch
returns-in-Switch c = rw c.in-Switch.is (rw c.as_slice-in-Switch.ensures.items at c.switch_numbers.ensures)

pub returns-in-Gep : goal.returns-in-Gep
returns-in-Gep c = rw c.in-Gep.is (rw c.as_slice-in-Gep.ensures.items at c.index_numbers.ensures)
