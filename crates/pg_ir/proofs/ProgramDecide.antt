-- The test of a program's parts decides what holds of each program: of phis and edges it tests at each
-- instruction what is told by its neighbour and by the targets of its block alone.
use Rattle.std.proofs.Common.{◌≡◌, ℕ, ◌+◌, ◌-◌, ◌<◌, ◌≤◌, List, [], ◌∷◌, length, Bool, true, false, zero, suc, arith, refl, sym, ap, ◌∙◌, subst}
use Rattle.std.proofs.Common.{◌&&◌, inl, inr, ◌⊎◌, IsTrue, map}
use Rattle.std.specs.Prelude.{slice_get, ◌==◌, IsSomeAnd, Option, Some, None, Contains}
use Rattle.std.specs.List.{AllByRecursion}
use Rattle.std.specs.Bool.{Decides}
use Rattle.std.proofs.lemmas.Bool.{or_cases, or_left, or_right, eqb-true, eq-eqb, cases_lt}
use Rattle.std.proofs.lemmas.Bool.Decides.{Decides-and, Decides-like}
use Rattle.pg_ir.specs.declared.edge.Incoming.{Incoming}
use Rattle.pg_ir.specs.declared.function.Block.{Block}
use Rattle.pg_ir.specs.declared.function.Function.{Function}
use Rattle.pg_ir.specs.declared.instr.Op.{Op}
use Rattle.pg_ir.specs.declared.instr.Op.TheVariants as op
use Rattle.pg_ir.specs.declared.instr.Instr.{Instr}
use Rattle.pg_ir.specs.declared.value.Scalar.{Scalar}
use Rattle.pg_ir.specs.Program.{NumberedProgram, types_of, result_of, function_of, first_of, first_in, end_of, end_in}
use Rattle.pg_ir.specs.Edges.{is_phi, is_terminator, targets_of, targets_in, successors, incoming_of, sources_of, instrs_of, phis_of}
use Rattle.pg_ir.specs.PlaceTests.{phis_list, lists_block, goes_to, sources_fit, follows_phi, phi_at, instr_fits, block_fits, function_fits, main_fits, counts_fit, lie_from, functions_fit}
use Rattle.pg_ir.specs.PlaceTests.{blocks_fit, instrs_fit, program_fits}
use Rattle.pg_ir.specs.WellFormed.{IsProgram, FitsInstr, FitsBlock, FitsFunction, FitsPhi, FitsOp, FitsIncoming, IsInBlock, IsInFunction, IsPhi, type_at}
use Rattle.pg_ir.proofs.DecidedFacts.{decides_numbered, decides_three}
use Rattle.pg_ir.proofs.LeadingElements.{Passes, leading_passes, leading_all, range_get, range_within}
use Rattle.pg_ir.proofs.EdgesDecide.{told_in, each_in, all_in, in_all, decides_goes, decides_lists}
use Rattle.pg_ir.proofs.PlaceDecide.{TargetFits, InstrFits, PhiFits, decides_instr, decides_block, decides_function, decides_main, decides_counts}
use Rattle.pg_ir.proofs.GlobalsDecide.{decides_lie_from}

-- ---- blocks

abbrev BlocksFit : NumberedProgram → Type 0
BlocksFit p = (b : ℕ) (x : Block) → slice_get p.blocks b ≡ Some x → FitsBlock p b x

abbrev InstrsFit : NumberedProgram → Type 0
InstrsFit p = (i : ℕ) (x : Instr) → slice_get p.instrs i ≡ Some x → InstrFits p i x

held_at : (p : NumberedProgram) (b i : ℕ) (o : Option Block) → BlocksFit p → slice_get p.blocks b ≡ o → first_in o ≤ i → i < end_in o → IsInBlock b (slice_get p.instrs i)
held_at p b i None h e l u = absurd (omega arith)
held_at p b i (Some x) h e l u = (h b x e).holds i l u

-- an instruction in the range of a block is one of that block
held : (p : NumberedProgram) (b i : ℕ) → BlocksFit p → first_of p b ≤ i → i < end_of p b → IsInBlock b (slice_get p.instrs i)
unfolding first_of end_of
held p b i h l u = held_at p b i (slice_get p.blocks b) h refl l u

no_block : (xs : List Block) (b : ℕ) → slice_get xs b ≡ None → b < length xs → ⊥
no_block [] b h l = omega arith
no_block (x ∷ xs) zero h l = cc
no_block (x ∷ xs) (suc b) h l = no_block xs b h (omega arith)

some_in : (p : NumberedProgram) (b : ℕ) (o : Option Block) → BlocksFit p → slice_get p.blocks b ≡ o → b < length p.blocks → first_in o < end_in o
some_in p b None h e l = absurd (no_block p.blocks b e l)
some_in p b (Some x) h e l = let s = (h b x e).some in omega (arith, s)

-- a block has an instruction
some_held : (p : NumberedProgram) (b : ℕ) → BlocksFit p → b < length p.blocks → first_of p b < end_of p b
unfolding first_of end_of
some_held p b h l = some_in p b (slice_get p.blocks b) h refl l

-- ---- from the tests to the facts

earlier_at : (p : NumberedProgram) (b j i : ℕ) (o : Option Instr) → slice_get p.instrs i ≡ o → IsInBlock b o → phi_at o ≡ true → (j ≡ i) ⊎ (j < i)
    → ((y : Instr) → slice_get p.instrs i ≡ Some y → y.block.0 ≡ b → is_phi y.op ≡ true → j < i → IsPhi (slice_get p.instrs j)) → IsPhi (slice_get p.instrs j)
earlier_at p b j i None e h t near more = absurd h
earlier_at p b j i (Some y) e h t (inl same) more = subst (λ (n : ℕ). IsPhi (slice_get p.instrs n)) (sym same) (subst IsPhi (sym e) t)
earlier_at p b j i (Some y) e h t (inr l) more = more y e h t l

at_or_below : (j i : ℕ) → j < suc i → (j ≡ i) ⊎ (j < i)
at_or_below j i l = settle (cases_lt j i) where
  settle : (j < i) ⊎ (i ≤ j) → (j ≡ i) ⊎ (j < i)
  settle (inl k) = inr k
  settle (inr k) = inl (omega arith)

earlier_step : (p : NumberedProgram) (b i j : ℕ) → BlocksFit p → suc i < end_of p b → first_of p b ≤ j → j < suc i
    → ((suc i == first_of p b) ≡ true) ⊎ (phi_at (slice_get p.instrs (suc i - 1)) ≡ true)
    → ((y : Instr) → slice_get p.instrs i ≡ Some y → y.block.0 ≡ b → is_phi y.op ≡ true → j < i → IsPhi (slice_get p.instrs j)) → IsPhi (slice_get p.instrs j)
earlier_step p b i j bs u l k (inl first) more = let same : suc i ≡ first_of p b = eqb-true (suc i) (first_of p b) first in absurd (omega arith)
earlier_step p b i j bs u l k (inr phi) more =
    let at : suc i - 1 ≡ i = omega arith in
    let phi_here : phi_at (slice_get p.instrs i) ≡ true = subst (λ (n : ℕ). phi_at (slice_get p.instrs n) ≡ true) at phi in
    earlier_at p b j i (slice_get p.instrs i) refl (held p b i bs (omega arith) (omega arith)) phi_here (at_or_below j i k) more

-- each instruction of a phi's block before it is a phi
earlier : (p : NumberedProgram) (i : ℕ) (x : Instr) → BlocksFit p → InstrsFit p → slice_get p.instrs i ≡ Some x → IsTrue (is_phi x.op) → (j : ℕ) → first_of p x.block.0 ≤ j
    → j < i → IsPhi (slice_get p.instrs j)
earlier p zero x bs is e t j l u = absurd (omega arith)
earlier p (suc i) x bs is e t j l u =
    earlier_step p x.block.0 i j bs (is (suc i) x e).place.2 l u
    (or_cases (suc i == first_of p x.block.0) (phi_at (slice_get p.instrs (suc i - 1))) ((is (suc i) x e).phi t).0)
    (λ y at same phi k. earlier p i y bs is at phi j (subst (λ (b : ℕ). first_of p b ≤ j) (sym same) l) k)

-- a phi, told by its block's phis together, passes as one of them
phi_passes : (o : Option Instr) → IsPhi o → Passes (λ (x : Instr). is_phi x.op) o
phi_passes None h = absurd h
phi_passes (Some x) h = h

-- so is each up to it
phi_up_to : (p : NumberedProgram) (i j : ℕ) (x : Instr) → BlocksFit p → InstrsFit p → slice_get p.instrs i ≡ Some x → IsTrue (is_phi x.op) → first_of p x.block.0 ≤ j
    → (j ≡ i) ⊎ (j < i) → IsPhi (slice_get p.instrs j)
phi_up_to p i j x bs is e t l (inl same) = subst (λ (n : ℕ). IsPhi (slice_get p.instrs n)) (sym same) (subst IsPhi (sym e) t)
phi_up_to p i j x bs is e t l (inr k) = earlier p i x bs is e t j l k

-- each phi of a block whose phis list b lists b
phi_lists : (p : NumberedProgram) (i b : ℕ) (x : Instr) → BlocksFit p → InstrsFit p → slice_get p.instrs i ≡ Some x → IsTrue (is_phi x.op) → phis_list p b x.block.0 ≡ true
    → lists_block b x ≡ true
unfolding phis_list phis_of instrs_of
phi_lists p i b x bs is e t told =
    let first = first_of p x.block.0 in
    let low : first ≤ i = (is i x e).place.1 in
    let high : i < end_of p x.block.0 = (is i x e).place.2 in
    let g = λ (y : Instr). is_phi y.op in
    let place : (k : ℕ) → k ≤ i - first → slice_get (instrs_of p x.block.0) k ≡ slice_get p.instrs (first + k) =
    λ (k : ℕ) l. range_get p.instrs first (end_of p x.block.0 - first) k (omega arith) in
    let back : first + (i - first) ≡ i = omega arith in
    leading_passes (lists_block b) g (instrs_of p x.block.0) (i - first) x told
    (place (i - first) (omega arith) ∙ ap (slice_get p.instrs) back ∙ e)
    (λ k l. subst (Passes g) (sym (place k l)) (phi_passes (slice_get p.instrs (first + k)) (phi_up_to p i (first + k) x bs is e t (omega arith) (at_or_below (first + k) i (omega arith)))))

-- an instruction of block b at the end of b's range tells of b's targets
last_tells : (p : NumberedProgram) (b t i : ℕ) (o : Option Instr) → InstrsFit p → slice_get p.instrs i ≡ o → IsInBlock b o → Contains (targets_in o) t → phis_list p b t ≡ true
last_tells p b t i None is e h m = absurd h
last_tells p b t i (Some y) is e h m =
    let told : TargetFits p (function_of p y.block.0) y.block.0 t = told_in (TargetFits p (function_of p y.block.0) y.block.0) (targets_of y.op) t (is i y e).targets m in
    subst (λ (c : ℕ). phis_list p c t ≡ true) h told.1

-- the phis of a block to which b goes on list b
edge_told : (p : NumberedProgram) (b t : ℕ) → BlocksFit p → InstrsFit p → b < length p.blocks → Contains (successors p b) t → phis_list p b t ≡ true
unfolding successors
edge_told p b t bs is l m =
    let some : first_of p b < end_of p b = some_held p b bs l in
    last_tells p b t (end_of p b - 1) (slice_get p.instrs (end_of p b - 1)) is refl (held p b (end_of p b - 1) bs (omega arith) (omega arith)) m

sources_tell : (p : NumberedProgram) (x : Instr) (b : ℕ) → sources_fit p x ≡ true → Contains (sources_of x.op) b → Contains (successors p b) x.block.0
sources_tell p x b e m =
    let all = all_in (λ (i : Incoming). i.block.0) (λ (c : ℕ). goes_to p c x.block.0) (incoming_of x.op) e in
    let goes : goes_to p b x.block.0 ≡ true = told_in (λ (c : ℕ). goes_to p c x.block.0 ≡ true) (sources_of x.op) b all m in
    (decides_goes p b x.block.0).0 goes

phi_fits : (p : NumberedProgram) (i : ℕ) (x : Instr) → BlocksFit p → InstrsFit p → slice_get p.instrs i ≡ Some x → IsTrue (is_phi x.op) → FitsPhi p i x
phi_fits p i x bs is e t = record {
  first = earlier p i x bs is e t;
  entered = ((is i x e).phi t).1;
  sources = λ b l. (λ m. sources_tell p x b ((is i x e).phi t).2 m, λ m. (decides_lists b x).0 (phi_lists p i b x bs is e t (edge_told p b x.block.0 bs is l m)));
}

in_functions : (p : NumberedProgram) (f b : ℕ) (ts : List ℕ) → AllByRecursion (TargetFits p f b) ts → AllByRecursion (λ (t : ℕ). IsInFunction f (slice_get p.blocks t)) ts
in_functions p f b [] h = tt
in_functions p f b (t ∷ ts) h = (h.0.0, in_functions p f b ts h.1)

instr_fits_whole : (p : NumberedProgram) (i : ℕ) (x : Instr) → BlocksFit p → InstrsFit p → slice_get p.instrs i ≡ Some x → FitsInstr p i x
instr_fits_whole p i x bs is e =
    let h = is i x e in
    record {
      block = h.place.0;
      from = h.place.1;
      before = h.place.2;
      ends = h.place.3;
      target = h.operation.0;
      targets = in_functions p (function_of p x.block.0) x.block.0 (targets_of x.op) h.targets;
      phi = λ t. phi_fits p i x bs is e t;
      op = h.operation.1;
    }

-- ---- from the facts to the tests

-- an operation with a target is a terminator
target_ends : (o : Op) (t : ℕ) → Contains (targets_of o) t → IsTrue (is_terminator o)
target_ends (op.Br to) t m = refl
target_ends (op.CondBr c y n) t m = refl
target_ends (op.Switch w on other cases) t m = refl
target_ends (op.Ret v) t m = refl
target_ends op.Unreachable t m = refl
target_ends _ t m = absurd (omega (arith, m.1))

-- the last instruction of a block tells its successors
successors_are : (p : NumberedProgram) (i : ℕ) (x : Instr) → slice_get p.instrs i ≡ Some x → i + 1 ≡ end_of p x.block.0 → successors p x.block.0 ≡ targets_of x.op
unfolding successors
successors_are p i x e last =
    let at : end_of p x.block.0 - 1 ≡ i = omega arith in
    ap (λ (n : ℕ). targets_in (slice_get p.instrs n)) at ∙ ap targets_in e

-- a phi of block t, at its place in the program, lists each block that goes on to t
phi_told : (p : NumberedProgram) (b t i : ℕ) (o : Option Instr) (y : Instr) → IsProgram p → slice_get p.instrs i ≡ o → IsInBlock t o → o ≡ Some y → is_phi y.op ≡ true
    → b < length p.blocks → Contains (successors p b) t → lists_block b y ≡ true
phi_told p b t i None y h e held same phi l m = absurd held
phi_told p b t i (Some z) y h e held same phi l m =
    let is_y : z ≡ y = cc in
    let at : y.block.0 ≡ t = subst (λ (w : Instr). w.block.0 ≡ t) is_y held in
    let fits : FitsPhi p i y = (h.instrs i y (e ∙ same)).phi phi in
    let here : Contains (successors p b) y.block.0 = subst (Contains (successors p b)) (sym at) m in
    (decides_lists b y).1 ((fits.sources b l).1 here)

phis_told : (p : NumberedProgram) (b t : ℕ) → IsProgram p → b < length p.blocks → Contains (successors p b) t → phis_list p b t ≡ true
unfolding phis_list phis_of instrs_of
phis_told p b t h l m =
    let first = first_of p t in
    let count = end_of p t - first in
    leading_all (lists_block b) (λ (y : Instr). is_phi y.op) (instrs_of p t)
    (λ k y at phi.
    let short : k < count = range_within p.instrs first count k y at in
    let there : slice_get p.instrs (first + k) ≡ Some y = sym (range_get p.instrs first count k short) ∙ at in
    phi_told p b t (first + k) (slice_get p.instrs (first + k)) y h refl (held p t (first + k) h.blocks (omega arith) (omega arith)) there phi l m)

targets_told : (p : NumberedProgram) (i : ℕ) (x : Instr) → IsProgram p → slice_get p.instrs i ≡ Some x → AllByRecursion (TargetFits p (function_of p x.block.0) x.block.0) (targets_of x.op)
targets_told p i x h e =
    let fits = h.instrs i x e in
    let f = function_of p x.block.0 in
    each_in (TargetFits p f x.block.0) (targets_of x.op)
    (λ t m.
    let last : i + 1 ≡ end_of p x.block.0 = fits.ends.0 (target_ends x.op t m) in
    let among : Contains (successors p x.block.0) t = subst (λ (ts : List ℕ). Contains ts t) (sym (successors_are p i x e last)) m in
    (told_in (λ (u : ℕ). IsInFunction f (slice_get p.blocks u)) (targets_of x.op) t fits.targets m, phis_told p x.block.0 t h fits.block among))

phi_holds : (o : Option Instr) → IsPhi o → phi_at o ≡ true
phi_holds None h = absurd h
phi_holds (Some x) h = h

follows : (p : NumberedProgram) (i : ℕ) (x : Instr) → FitsPhi p i x → first_of p x.block.0 ≤ i → (first_of p x.block.0 < i) ⊎ (i ≤ first_of p x.block.0) → follows_phi p i x ≡ true
follows p i x h l (inl k) = or_right (i == first_of p x.block.0) (phi_at (slice_get p.instrs (i - 1))) (phi_holds (slice_get p.instrs (i - 1)) (h.first (i - 1) (omega arith) (omega arith)))
follows p i x h l (inr k) = or_left (i == first_of p x.block.0) (phi_at (slice_get p.instrs (i - 1))) (eq-eqb i (first_of p x.block.0) (omega arith))

-- the blocks that a phi lists are blocks of the program
lists_blocks : (p : NumberedProgram) (types : List Scalar) (s : Scalar) (from : List Incoming) → AllByRecursion (FitsIncoming p types s) from
    → AllByRecursion (λ (b : ℕ). b < length p.blocks) (map (λ (i : Incoming). i.block.0) from)
lists_blocks p types s [] h = tt
lists_blocks p types s (i ∷ is) h = (h.0.0, lists_blocks p types s is h.1)

listed_at : (p : NumberedProgram) (types : List Scalar) (result : Option Scalar) (from : List Incoming) → IsSomeAnd result (λ s. AllByRecursion (FitsIncoming p types s) from)
    → AllByRecursion (λ (b : ℕ). b < length p.blocks) (map (λ (i : Incoming). i.block.0) from)
listed_at p types None from h = absurd h
listed_at p types (Some s) from h = lists_blocks p types s from h

listed : (p : NumberedProgram) (types : List Scalar) (returns result : Option Scalar) (o : Op) → FitsOp p types returns result o → AllByRecursion (λ (b : ℕ). b < length p.blocks) (sources_of o)
listed p types returns result (op.Phi from) h = listed_at p types result from h
listed p types returns result _ h = tt

phi_tests : (p : NumberedProgram) (i : ℕ) (x : Instr) → IsProgram p → slice_get p.instrs i ≡ Some x → IsTrue (is_phi x.op) → PhiFits p i x
phi_tests p i x h e t =
    let fits = h.instrs i x e in
    let f = function_of p x.block.0 in
    let phi = fits.phi t in
    let blocks = listed p (types_of p f) (result_of p f) (type_at (types_of p f) x.result) x.op fits.op in
    let goes : AllByRecursion (λ (b : ℕ). goes_to p b x.block.0 ≡ true) (sources_of x.op) = each_in (λ (b : ℕ). goes_to p b x.block.0 ≡ true) (sources_of x.op)
    (λ b m. (decides_goes p b x.block.0).1 ((phi.sources b (told_in (λ (c : ℕ). c < length p.blocks) (sources_of x.op) b blocks m)).0 m)) in
    (follows p i x phi fits.from (cases_lt (first_of p x.block.0) i), phi.entered, in_all (λ (j : Incoming). j.block.0) (λ (c : ℕ). goes_to p c x.block.0) (incoming_of x.op) goes)

instr_tests : (p : NumberedProgram) (i : ℕ) (x : Instr) → IsProgram p → slice_get p.instrs i ≡ Some x → InstrFits p i x
instr_tests p i x h e =
    let fits = h.instrs i x e in
    record {
      place = (fits.block, fits.from, fits.before, fits.ends);
      operation = (fits.target, fits.op);
      targets = targets_told p i x h e;
      phi = λ t. phi_tests p i x h e t;
    }

-- ---- the whole

decides_functions : (p : NumberedProgram) → Decides (functions_fit p) ((f : ℕ) (x : Function) → slice_get p.functions f ≡ Some x → FitsFunction p f x)
unfolding functions_fit
decides_functions p = decides_numbered (function_fits p) (FitsFunction p) (decides_function p) p.functions

decides_blocks : (p : NumberedProgram) → Decides (blocks_fit p) (BlocksFit p)
unfolding blocks_fit
decides_blocks p = decides_numbered (block_fits p) (FitsBlock p) (decides_block p) p.blocks

decides_instrs : (p : NumberedProgram) → Decides (instrs_fit p) (InstrsFit p)
unfolding instrs_fit
decides_instrs p = decides_numbered (instr_fits p) (InstrFits p) (decides_instr p) p.instrs

-- the parts are those of a program exactly where the test passes
pub decides_program : (p : NumberedProgram) → Decides (program_fits p) (IsProgram p)
unfolding program_fits
decides_program p =
    let main = main_fits (slice_get p.functions p.main) in
    let globals = lie_from 1 p.globals in
    Decides-like ((main && (counts_fit p && globals)) && ((functions_fit p && blocks_fit p) && instrs_fit p))
    (λ h. record {
      functions = h.1.0.0;
      blocks = h.1.0.1;
      instrs = λ i x e. instr_fits_whole p i x h.1.0.1 h.1.1 e;
      main = h.0.0;
      globals = h.0.2;
      few_functions = h.0.1.0;
      few_instrs = h.0.1.1;
      few_globals = h.0.1.2;
    })
    (λ r. ((r.main, (r.few_functions, r.few_instrs, r.few_globals), r.globals), ((r.functions, r.blocks), λ i x e. instr_tests p i x r e)))
    (Decides-and (main && (counts_fit p && globals)) ((functions_fit p && blocks_fit p) && instrs_fit p)
    (decides_three main (counts_fit p) globals (decides_main (slice_get p.functions p.main)) (decides_counts p) (decides_lie_from 1 p.globals))
    (Decides-and (functions_fit p && blocks_fit p) (instrs_fit p)
    (Decides-and (functions_fit p) (blocks_fit p) (decides_functions p) (decides_blocks p))
    (decides_instrs p)))

pub fits_program : (p : NumberedProgram) → program_fits p ≡ true → IsProgram p
fits_program p e = (decides_program p).0 e

no_fit : (t : Bool) → t ≡ true → t ≡ false → ⊥
no_fit t e n = cc

pub no_program : (p : NumberedProgram) → program_fits p ≡ false → IsProgram p → ⊥
no_program p e h = no_fit (program_fits p) ((decides_program p).1 h) e
