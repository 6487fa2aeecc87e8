-- A function begins at an instruction of its own, and an instruction that doesn't end its block is
-- followed by one of the same function.
use Rattle.std.proofs.Common.{◌≡◌, ℕ, ◌+◌, ◌<◌, ◌≤◌, List, [], ◌∷◌, length, zero, suc, Bool, true, false, Option, Some, None, arith, refl, ◌∙◌, subst, ap}
use Rattle.std.proofs.Common.{IsTrue, ◌↔◌, inl, inr}
use Rattle.std.specs.Prelude.{slice_get}
use Rattle.std.proofs.lemmas.Option.{slice_get_within}
use Rattle.pg_ir.specs.declared.function.Function.{Function}
use Rattle.pg_ir.specs.declared.function.Block.{Block}
use Rattle.pg_ir.specs.declared.instr.Instr.{Instr}
use Rattle.pg_ir.specs.Program.{NumberedProgram, function_of, function_in, first_of, first_in, end_of, end_in, entry_of, first_block_of, parameter_count, parameter_count_in, types_of, types_in}
use Rattle.pg_ir.specs.WellFormed.{IsProgram, IsInBlock, IsInFunction, StandsIn, StartsAs, BeginsThread, IsMain}
use Rattle.pg_ir.specs.Edges.{is_terminator}

-- an instruction of block b stands in the function of b
in_block_stands : (p : NumberedProgram) (b : ℕ) (o : Option Instr) → IsInBlock b o → StandsIn p (function_of p b) o
in_block_stands p b None h = absurd h
in_block_stands p b (Some x) h = ap (function_of p) h

-- block b, which is this, has an instruction at i where i is in its range
pub holds_at : (p : NumberedProgram) (b i : ℕ) (o : Option Block) → IsProgram p → slice_get p.blocks b ≡ o → first_in o ≤ i → i < end_in o → IsInBlock b (slice_get p.instrs i)
holds_at p b i None h e l u = absurd (omega arith)
holds_at p b i (Some x) h e l u = (h.blocks b x e).holds i l u

pub block_held : (p : NumberedProgram) (b i : ℕ) → IsProgram p → first_of p b ≤ i → i < end_of p b → IsInBlock b (slice_get p.instrs i)
unfolding first_of end_of
block_held p b i h l u = holds_at p b i (slice_get p.blocks b) h refl l u

pub block_holds : (p : NumberedProgram) (b i : ℕ) → IsProgram p → first_of p b ≤ i → i < end_of p b → StandsIn p (function_of p b) (slice_get p.instrs i)
unfolding first_of end_of
block_holds p b i h l u = in_block_stands p b (slice_get p.instrs i) (holds_at p b i (slice_get p.blocks b) h refl l u)

pub no_part : (xs : List Block) (b : ℕ) → slice_get xs b ≡ None → b < length xs → ⊥
no_part [] b h l = omega arith
no_part (x ∷ xs) zero h l = cc
no_part (x ∷ xs) (suc b) h l = no_part xs b h (omega arith)

-- a block has an instruction
pub some_in : (p : NumberedProgram) (b : ℕ) (o : Option Block) → IsProgram p → slice_get p.blocks b ≡ o → b < length p.blocks → first_in o < end_in o
some_in p b None h e l = absurd (no_part p.blocks b e l)
some_in p b (Some x) h e l = let s = (h.blocks b x e).some in omega (arith, s)

pub first_in_function : (p : NumberedProgram) (f b : ℕ) (o : Option Block) → slice_get p.blocks b ≡ o → IsInFunction f o → function_of p b ≡ f
unfolding function_of
first_in_function p f b None e h = absurd h
first_in_function p f b (Some x) e h = ap function_in e ∙ h

pub within_blocks : (p : NumberedProgram) (f b : ℕ) (o : Option Block) → slice_get p.blocks b ≡ o → IsInFunction f o → b < length p.blocks
within_blocks p f b None e h = absurd h
within_blocks p f b (Some x) e h = slice_get_within p.blocks b x e

pub entry_stands : (p : NumberedProgram) (f : ℕ) (x : Function) → IsProgram p → slice_get p.functions f ≡ Some x → StandsIn p f (slice_get p.instrs (entry_of p f))
unfolding entry_of first_block_of first_of end_of
entry_stands p f x h e =
    let fits = h.functions f x e in
    let b = x.first_block.0 in
    let held : IsInFunction f (slice_get p.blocks b) = fits.holds b (omega arith) (omega (arith, fits.some)) in
    let within : b < length p.blocks = within_blocks p f b (slice_get p.blocks b) refl held in
    let some : first_of p b < end_of p b = some_in p b (slice_get p.blocks b) h refl within in
    let stands : StandsIn p (function_of p b) (slice_get p.instrs (first_of p b)) = block_holds p b (first_of p b) h (omega arith) some in
    let same : function_of p b ≡ f = first_in_function p f b (slice_get p.blocks b) refl held in
    rw e (subst (λ (g : ℕ). StandsIn p g (slice_get p.instrs (first_of p b))) same stands)

pub no_truth : false ≡ true → ⊥
no_truth h = cc

pub not_last : (t : Bool) (i e : ℕ) → t ≡ false → IsTrue t ↔ (i + 1 ≡ e) → i < e → i + 1 < e
not_last true i e n h l = absurd cc
not_last false i e n h l = let other : (i + 1 ≡ e) → false ≡ true = λ (q : i + 1 ≡ e). h.1 q in omega (arith, λ (q : i + 1 ≡ e). no_truth (other q))

pub goes_on : (p : NumberedProgram) (i : ℕ) (x : Instr) → IsProgram p → slice_get p.instrs i ≡ Some x → is_terminator x.op ≡ false
    → StandsIn p (function_of p x.block.0) (slice_get p.instrs (i + 1))
goes_on p i x h e n =
    let fits = h.instrs i x e in
    let from : first_of p x.block.0 ≤ i = fits.from in
    block_holds p x.block.0 (i + 1) h (omega arith) (not_last (is_terminator x.op) i (end_of p x.block.0) n fits.ends fits.before)

begins_within : (fs : List Function) (f : ℕ) (o : Option Function) → slice_get fs f ≡ o → BeginsThread o → f < length fs
begins_within fs f None e h = absurd h
begins_within fs f (Some x) e h = slice_get_within fs f x e

main_within : (fs : List Function) (f : ℕ) (o : Option Function) → slice_get fs f ≡ o → IsMain o → f < length fs
main_within fs f None e h = absurd h
main_within fs f (Some x) e h = slice_get_within fs f x e

pub starts_within : (p : NumberedProgram) (f : ℕ) → IsProgram p → StartsAs p f → f < length p.functions
starts_within p f program (inl e) = let m : p.main < length p.functions = main_within p.functions p.main (slice_get p.functions p.main) refl program.main in omega (arith, e, m)
starts_within p f program (inr h) = begins_within p.functions f (slice_get p.functions f) refl h

block_function : (p : NumberedProgram) (b : ℕ) (o : Option Block) → IsProgram p → slice_get p.blocks b ≡ o → b < length p.blocks → function_in o < length p.functions
block_function p b None h e l = absurd (no_part p.blocks b e l)
block_function p b (Some x) h e l = (h.blocks b x e).function

-- the function of an instruction is one of the program's
pub stands_within : (p : NumberedProgram) (f i : ℕ) (o : Option Instr) → IsProgram p → slice_get p.instrs i ≡ o → StandsIn p f o → f < length p.functions
unfolding function_of
stands_within p f i None h e s = absurd s
stands_within p f i (Some x) h e s = let b = block_function p x.block.0 (slice_get p.blocks x.block.0) h refl (h.instrs i x e).block in subst (λ (n : ℕ). n < length p.functions) s b

few_in : (p : NumberedProgram) (f : ℕ) (o : Option Function) → IsProgram p → slice_get p.functions f ≡ o → parameter_count_in o ≤ length (types_in o)
few_in p f None h e = omega arith
few_in p f (Some x) h e = (h.functions f x e).params

-- a function's parameters are among its registers
pub few_parameters : (p : NumberedProgram) (f : ℕ) → IsProgram p → parameter_count p f ≤ length (types_of p f)
unfolding parameter_count types_of
few_parameters p f h = few_in p f (slice_get p.functions f) h refl
