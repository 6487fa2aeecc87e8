-- The blocks of a program are counted by its instructions.
use Rattle.std.proofs.Common.{◌≡◌, ℕ, zero, suc, ◌<◌, ◌≤◌, List, [], ◌∷◌, length, Option, Some, None, refl, arith, inl, inr, ◌⊎◌}
use Rattle.std.specs.Prelude.{slice_get}
use Rattle.std.proofs.lemmas.Bool.{cases_lt}
use Rattle.std.proofs.lemmas.Option.{slice_get_within}
use Rattle.pg_region_paths.specs.pg_ir.declared.function.Block.{Block}
use Rattle.pg_region_paths.specs.pg_ir.declared.instr.Instr.{Instr}
use Rattle.pg_region_paths.specs.pg_ir.Program.{NumberedProgram}
use Rattle.pg_region_paths.specs.pg_ir.WellFormed.{IsProgram, FitsBlock, IsInBlock}

-- the last block is the block of an instruction
pub counted : (p : NumberedProgram) (count : ℕ) → IsProgram p → ((k : ℕ) (x : Instr) → k < length p.instrs → slice_get p.instrs k ≡ Some x → x.block.0 < count)
    → count ≤ length p.blocks → count ≡ length p.blocks
counted p count program covers within = omega (arith, within, all (cases_lt count (length p.blocks)))
  where
    in_block : (b : ℕ) (o : Option Instr) (i : ℕ) → slice_get p.instrs i ≡ o → IsInBlock b o → b < count
    in_block b None i e h = absurd h
    in_block b (Some x) i e h = omega (arith, covers i x (slice_get_within p.instrs i x e) e, h)

    block_counted : (b : ℕ) (o : Option Block) → slice_get p.blocks b ≡ o → b < length p.blocks → b < count
    block_counted b None e lt = absurd (some_within p.blocks b lt e)
      where
        some_within : (ys : List Block) (k : ℕ) → k < length ys → slice_get ys k ≡ None → ⊥
        some_within [] k lt e = omega arith
        some_within (y ∷ ys) zero lt e = cc
        some_within (y ∷ ys) (suc k) lt e = some_within ys k (omega arith) e
    block_counted b (Some y) e lt =
        let f : FitsBlock p b y = program.blocks b y e in
        in_block b (slice_get p.instrs y.first.0) y.first.0 refl (f.holds y.first.0 (omega arith) (omega (arith, f.some)))

    all : (count < length p.blocks) ⊎ (length p.blocks ≤ count) → length p.blocks ≤ count
    all (inl lt) = absurd (omega (arith, block_counted count (slice_get p.blocks count) refl lt))
    all (inr le) = le
