-- The registers that the phis of a block set.
use Rattle.std.proofs.Common.{◌≡◌, ℕ, zero, suc, ◌+◌, ◌-◌, ◌<◌, ◌≤◌, Bool, List, [], ◌∷◌, length, take, drop, Option, Some, None, refl, ap, arith}
use Rattle.std.specs.Prelude.{IfSome, slice_get, take_while}
use Rattle.std.specs.List.{prefix_len}
use Rattle.pg_num.specs.declared.limits.TheConstants.{FUNCTION_REGISTER_LIMIT}
use Rattle.pg_ir.specs.declared.instr.Instr.{Instr}
use Rattle.pg_ir.specs.Program.{NumberedProgram, end_of, first_of, function_of, types_of}
use Rattle.pg_ir.specs.Edges.{instrs_of, is_phi, phis_of}
use Rattle.pg_ir.specs.WellFormed.{IsProgram}
use Rattle.pg_run_thread.proofs.StepRooms.{few_registers}

get_past : (xs : List Instr) (n k : ℕ) (x : Instr) → slice_get (take n xs) k ≡ Some x → slice_get xs k ≡ Some x
get_past xs zero k x e = absurd (nothing k e)
  where
    nothing : (k : ℕ) → slice_get {X = Instr} [] k ≡ Some x → ⊥
    nothing zero e = cc
    nothing (suc k) e = cc
get_past [] (suc n) k x e = e
get_past (y ∷ xs) (suc n) zero x e = e
get_past (y ∷ xs) (suc n) (suc k) x e = get_past xs n k x e

get_rest : (xs : List Instr) (n k : ℕ) (x : Instr) → slice_get (drop n xs) k ≡ Some x → slice_get xs (n + k) ≡ Some x
get_rest xs zero k x e = let z : 0 + k ≡ k = omega arith in rw z e
get_rest [] (suc n) k x e = absurd (nothing k e)
  where
    nothing : (k : ℕ) → slice_get {X = Instr} [] k ≡ Some x → ⊥
    nothing zero e = cc
    nothing (suc k) e = cc
get_rest (y ∷ xs) (suc n) k x e = let z : suc n + k ≡ suc (n + k) = omega arith in rw z (get_rest xs n k x e)

get_while : (f : Instr → Bool) (xs : List Instr) (k : ℕ) (x : Instr) → slice_get (take_while f xs) k ≡ Some x → slice_get xs k ≡ Some x
get_while f xs k x e = get_past xs (prefix_len f xs) k x e

-- a phi of a block is an instruction of the program
phi_at : (p : NumberedProgram) (b k : ℕ) (x : Instr) → slice_get (phis_of p b) k ≡ Some x → (i : ℕ) × (slice_get p.instrs i ≡ Some x)
unfolding phis_of instrs_of
phi_at p b k x e =
    (first_of p b + k, get_rest p.instrs (first_of p b) k x (get_past (drop (first_of p b) p.instrs) (end_of p b - first_of p b) k x (get_while (λ (y : Instr). is_phi y.op) (instrs_of p b) k x e)))

small : (n m : ℕ) (o : Option ℕ) → n ≤ m → IfSome o (λ r. r < n) → IfSome o (λ r. r < m)
small n m None le h = h
small n m (Some r) le h = omega (arith, h, le)

pub phi_small : (p : NumberedProgram) (b k : ℕ) (x : Instr) → IsProgram p → slice_get (phis_of p b) k ≡ Some x → IfSome x.result (λ r. r < FUNCTION_REGISTER_LIMIT)
phi_small p b k x program e =
    let i = phi_at p b k x e in
    small (length (types_of p (function_of p x.block.0))) FUNCTION_REGISTER_LIMIT x.result (few_registers p (function_of p x.block.0) program) (program.instrs i.0 x i.1).target

take_whole : (xs : List Instr) (k : ℕ) → length xs ≤ k → take k xs ≡ xs
take_whole [] zero h = refl
take_whole [] (suc k) h = refl
take_whole (x ∷ xs) zero h = absurd (omega (arith, h))
take_whole (x ∷ xs) (suc k) h = ap (λ (l : List Instr). x ∷ l) (take_whole xs k (omega (arith, h)))
