-- The functions that are called are listed one after another.
use Rattle.std.proofs.Common.{◌≡◌, ℕ, zero, suc, ◌+◌, ◌<◌, ◌≤◌, List, [], ◌∷◌, ◌++◌, length, get_or, drop, Some, refl, sym, ap, ◌∙◌, arith, append_assoc}
use Rattle.std.specs.Prelude.{slice_get}
use Rattle.std.proofs.lemmas.List.{append-nil}
use Rattle.pg_ir.specs.declared.function.Block.{Block}
use Rattle.pg_ir.specs.declared.instr.Instr.{Instr}
use Rattle.pg_ir.specs.Program.{NumberedProgram}
use Rattle.pg_ir.specs.Edges.{instrs_of}
use Rattle.pg_region_accesses.proofs.BlockInstructions.{instrs_end}
use Rattle.pg_region_summaries.specs.Callees.{op_calls, instrs_calls, block_calls, blocks_calls}

instr_more : (xs : List Instr) (k : ℕ) (x : Instr) → slice_get xs k ≡ Some x → instrs_calls (drop k xs) ≡ op_calls x.op ++ instrs_calls (drop (k + 1) xs)
instr_more [] zero x e = absurd cc
instr_more [] (suc k) x e = absurd cc
instr_more (y ∷ xs) zero x e = let q : y ≡ x = cc in ap (λ (z : Instr). op_calls z.op ++ instrs_calls xs) q
instr_more (y ∷ xs) (suc k) x e = let q : suc k + 1 ≡ suc (k + 1) = omega arith in rw q (instr_more xs k x e)

block_more : (p : NumberedProgram) (bs : List ℕ) (k d : ℕ) → k < length bs → blocks_calls p (drop k bs) ≡ block_calls p (get_or bs k d) ++ blocks_calls p (drop (k + 1) bs)
block_more p [] k d lt = absurd (omega (arith, lt))
block_more p (b ∷ bs) zero d lt = refl
block_more p (b ∷ bs) (suc k) d lt = let q : suc k + 1 ≡ suc (k + 1) = omega arith in rw q (block_more p bs k d (omega (arith, lt)))

block_end : (p : NumberedProgram) (bs : List ℕ) (k : ℕ) → length bs ≤ k → blocks_calls p (drop k bs) ≡ []
block_end p [] zero le = refl
block_end p [] (suc k) le = refl
block_end p (b ∷ bs) zero le = absurd (omega (arith, le))
block_end p (b ∷ bs) (suc k) le = block_end p bs k (omega (arith, le))

pushed : (all old new next rest : List ℕ) → all ≡ old ++ (next ++ rest) → new ≡ old ++ next → all ≡ new ++ rest
pushed all old new next rest h e = h ∙ sym (append_assoc old next rest) ∙ ap (λ l. l ++ rest) (sym e)

pub instr_pushed : (xs : List Instr) (k : ℕ) (x : Instr) (all old new : List ℕ) → slice_get xs k ≡ Some x → all ≡ old ++ instrs_calls (drop k xs) → new ≡ old ++ op_calls x.op
    → all ≡ new ++ instrs_calls (drop (k + 1) xs)
instr_pushed xs k x all old new e h g = pushed all old new (op_calls x.op) (instrs_calls (drop (k + 1) xs)) (h ∙ ap (λ l. old ++ l) (instr_more xs k x e)) g

pub block_pushed : (p : NumberedProgram) (b k : ℕ) (y : Block) (before new : List ℕ) → slice_get p.blocks b ≡ Some y → y.count ≤ k
    → before ++ instrs_calls (instrs_of p b) ≡ new ++ instrs_calls (drop k (instrs_of p b)) → new ≡ before ++ block_calls p b
unfolding block_calls
block_pushed p b k y before new e le h =
    let q : instrs_calls (drop k (instrs_of p b)) ≡ [] = ap instrs_calls (instrs_end p b y k e le) in
    sym (h ∙ ap (λ l. new ++ l) q ∙ append-nil new)

pub block_listed : (p : NumberedProgram) (bs : List ℕ) (k d : ℕ) (old new : List ℕ) → k < length bs → blocks_calls p bs ≡ old ++ blocks_calls p (drop k bs)
    → new ≡ old ++ block_calls p (get_or bs k d) → blocks_calls p bs ≡ new ++ blocks_calls p (drop (k + 1) bs)
block_listed p bs k d old new lt h e = pushed (blocks_calls p bs) old new (block_calls p (get_or bs k d)) (blocks_calls p (drop (k + 1) bs)) (h ∙ ap (λ l. old ++ l) (block_more p bs k d lt)) e

pub all_listed : (p : NumberedProgram) (bs : List ℕ) (k : ℕ) (new : List ℕ) → length bs ≤ k → blocks_calls p bs ≡ new ++ blocks_calls p (drop k bs) → new ≡ blocks_calls p bs
all_listed p bs k new le h = sym (h ∙ ap (λ l. new ++ l) (block_end p bs k le) ∙ append-nil new)
