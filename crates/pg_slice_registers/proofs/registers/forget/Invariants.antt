use Rattle.std.proofs.Common.{◌≡◌, ◌++◌, take, drop}
use Rattle.pg_slice_registers.specs.SymbolicRegisterNodes.{marked}
use Rattle.pg_slice_registers.proofs.SetRegisters.{forgotten}
use Rattle.pg_slice_registers.proofs.registers.forget.Given as goal

abbrev pub invariant-loop-i : goal.invariant-loop-i
invariant-loop-i l =
    take l.i l.registers ++ forgotten l.i (marked l.sets) l.by (drop l.i l.registers) ≡ forgotten 0 (marked l.sets) l.by l.fn.registers
