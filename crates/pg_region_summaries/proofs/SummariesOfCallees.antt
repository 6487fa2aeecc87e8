-- A function's summary hangs on the summaries of the functions that it calls alone, and all of these have one where it does.
use Rattle.std.proofs.Common.{◌≡◌, ℕ, suc, ◌+◌, ◌<◌, Bool, true, List, [], ◌∷◌, length, Option, Some, None, refl, sym, ap, ◌∙◌, subst}
use Rattle.std.specs.Prelude.{Contains, slice_get}
use Rattle.pg_ir.specs.declared.value.Scalar.{Scalar}
use Rattle.pg_ir.specs.declared.instr.Instr.{Instr}
use Rattle.pg_ir.specs.declared.instr.Op.{Op}
use Rattle.pg_ir.specs.declared.instr.Op.TheVariants as op
use Rattle.pg_ir.specs.Program.{NumberedProgram, types_of, function_of, first_of, parameter_count}
use Rattle.pg_ir.specs.Edges.{instrs_of}
use Rattle.pg_ir.specs.WellFormed.{IsProgram}
use Rattle.pg_region_paths.specs.declared.path.Path.{Path}
use Rattle.pg_region_paths.specs.Registers.{register_path}
use Rattle.pg_region_accesses.specs.Accesses.{RootedList, gathered, called_accesses, op_accesses, accesses_from, block_accesses, sets, set_accesses}
use Rattle.pg_region_accesses.specs.Laws.{IsQuiet}
use Rattle.pg_region_paths.proofs.Elements.{here, there}
use Rattle.pg_region_accesses.proofs.QuietInstructions.{set_quiet}
use Rattle.pg_region_summaries.specs.Blocks.{blocks_of}
use Rattle.pg_region_summaries.specs.Calls.{Calls, IsCallOf}
use Rattle.pg_region_summaries.specs.Summaries.{seen_by_callers, summary_by}
use Rattle.pg_region_summaries.proofs.InstructionPlaces.{callee_small, in_any_block, in_block, stands, own_block}

module _ (m : Bool) (gated : ℕ → Bool) (s s' : ℕ → Option RootedList) where
  op_same : (f : ℕ → Option Path) (i : ℕ) (o : Op) → ((g : ℕ) → IsCallOf g o → s g ≡ s' g) → op_accesses m gated s f i o ≡ op_accesses m gated s' f i o
  op_same f i (op.Call g args) h = ap (called_accesses f args) (h g refl)
  op_same f i _ h = refl

  from_same : (is_set : ℕ → Bool) (types : List Scalar) (before : List Instr) (i : ℕ) (xs : List Instr)
      → ((k : ℕ) (x : Instr) → slice_get xs k ≡ Some x → (g : ℕ) → IsCallOf g x.op → s g ≡ s' g) →
      accesses_from m gated s is_set types before i xs ≡ accesses_from m gated s' is_set types before i xs
  from_same is_set types before i [] h = refl
  from_same is_set types before i (x ∷ xs) h =
      let a : op_accesses m gated s (register_path is_set types before) i x.op ≡ op_accesses m gated s' (register_path is_set types before) i x.op =
      op_same (register_path is_set types before) i x.op (h 0 x refl) in
      let b : accesses_from m gated s is_set types (x ∷ before) (i + 1) xs ≡ accesses_from m gated s' is_set types (x ∷ before) (i + 1) xs =
      from_same is_set types (x ∷ before) (i + 1) xs (λ k y e. h (suc k) y e) in
      rw (a, b) refl

  block_same : (p : NumberedProgram) (is_set : ℕ → Bool) (b : ℕ) → ((k : ℕ) (x : Instr) → slice_get (instrs_of p b) k ≡ Some x → (g : ℕ) → IsCallOf g x.op → s g ≡ s' g)
      → block_accesses m p gated s is_set b ≡ block_accesses m p gated s' is_set b
  unfolding block_accesses
  block_same p is_set b h = from_same is_set (types_of p (function_of p b)) [] (first_of p b) (instrs_of p b) h

gathered_same : (f f' : ℕ → Option RootedList) (xs : List ℕ) → ((x : ℕ) → Contains xs x → f x ≡ f' x) → gathered f xs ≡ gathered f' xs
gathered_same f f' [] h = refl
gathered_same f f' (x ∷ xs) h =
    let a : f x ≡ f' x = h x (here x xs) in
    let b : gathered f xs ≡ gathered f' xs = gathered_same f f' xs (λ z c. h z (there x xs z c)) in
    rw (a, b) refl

-- tables that agree on the functions of the program give blocks the same accesses
pub blocks_same : (m : Bool) (p : NumberedProgram) (gated : ℕ → Bool) (s s' : ℕ → Option RootedList) (bs : List ℕ) → IsProgram p
    → ((g : ℕ) → g < length p.functions → s g ≡ s' g) → set_accesses m p gated s bs ≡ set_accesses m p gated s' bs
blocks_same m p gated s s' bs program h = gathered_same (block_accesses m p gated s (sets p bs)) (block_accesses m p gated s' (sets p bs)) bs (λ b c. block_same m gated s s' p (sets p bs) b (called b))
  where
    called : (b k : ℕ) (x : Instr) → slice_get (instrs_of p b) k ≡ Some x → (g : ℕ) → IsCallOf g x.op → s g ≡ s' g
    called b k x e g call =
        let at = in_any_block p b k x e in
        h g (callee_small p (function_of p x.block.0) g program (record { at = at.0; instr = x; is = at.1; within = refl; call = call }))

-- the same summaries of callees give the same summary
pub summary_same : (p : NumberedProgram) (gated : ℕ → Bool) (s s' : ℕ → Option RootedList) (f : ℕ) → IsProgram p → ((g : ℕ) → Calls p f g → s g ≡ s' g)
    → summary_by p gated s f ≡ summary_by p gated s' f
summary_same p gated s s' f program h = ap (seen_by_callers (parameter_count p f)) all
  where
    called : (b : ℕ) → Contains (blocks_of p f) b → (k : ℕ) (x : Instr) → slice_get (instrs_of p b) k ≡ Some x → (g : ℕ) → IsCallOf g x.op → s g ≡ s' g
    called b c k x e g call = let at = in_block p f b k x program c e in h g (record { at = first_of p b + k; instr = x; is = at.0; within = at.1; call = call })

    all : set_accesses true p gated s (blocks_of p f) ≡ set_accesses true p gated s' (blocks_of p f)
    all = gathered_same (block_accesses true p gated s (sets p (blocks_of p f))) (block_accesses true p gated s' (sets p (blocks_of p f))) (blocks_of p f)
        (λ b c. block_same true gated s s' p (sets p (blocks_of p f)) b (called b c))

-- a function with a summary has accesses
pub summary_some : (n : ℕ) (o : Option RootedList) (xs : RootedList) → seen_by_callers n o ≡ Some xs → (ys : RootedList) × (o ≡ Some ys)
summary_some n None xs e = cc
summary_some n (Some ys) xs e = (ys, refl)

call_some : (m : Bool) (gated : ℕ → Bool) (sums : ℕ → Option RootedList) (i g : ℕ) (o : Op) → IsQuiet m gated sums i o → IsCallOf g o → (xs : RootedList) × (sums g ≡ Some xs)
call_some m gated sums i g (op.Call f args) h e = (h.0, ap sums (sym e) ∙ h.1)
call_some m gated sums i g _ h e = absurd e

-- a function that a quiet one calls is quiet
pub callee_some : (p : NumberedProgram) (gated : ℕ → Bool) (sums : ℕ → Option RootedList) (f g : ℕ) (xs : RootedList) → IsProgram p → summary_by p gated sums f ≡ Some xs
    → Calls p f g → (bs : RootedList) × (sums g ≡ Some bs)
callee_some p gated sums f g xs program e c =
    let ys = summary_some (parameter_count p f) (set_accesses true p gated sums (blocks_of p f)) xs e in
    let s = stands p c.at c.instr program c.is in
    let b : Contains (blocks_of p f) c.instr.block.0 = subst (λ (z : ℕ). Contains (blocks_of p z) c.instr.block.0) c.within (own_block p c.at c.instr program c.is) in
    let quiet = set_quiet true p gated sums (blocks_of p f) ys.0 ys.1 c.instr.block.0 s.0 c.instr b s.2 in
    call_some true gated sums (first_of p c.instr.block.0 + s.0) g c.instr.op quiet c.call
