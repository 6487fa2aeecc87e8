-- The instructions of a block, one after another.
use Rattle.std.proofs.Common.{◌≡◌, ℕ, zero, suc, ◌+◌, ◌-◌, ◌<◌, ◌≤◌, Bool, true, false, cond, List, [], ◌∷◌, ◌++◌, length, drop, take, reverse, Option}
use Rattle.std.proofs.Common.{Some, None, refl, sym, ap, ◌∙◌, subst, arith}
use mathlib.Core.Path.{fun_ext}
use Rattle.std.specs.Prelude.{slice_get, IfSome}
use Rattle.std.specs.List.{AllByRecursion}
use Rattle.std.proofs.lemmas.List.{reverse-append}
use Rattle.pg_region_paths.specs.pg_ir.declared.function.Block.{Block}
use Rattle.pg_region_paths.specs.pg_ir.declared.function.Function.{Function}
use Rattle.pg_region_paths.specs.pg_ir.declared.value.Index.{Index}
use Rattle.pg_region_paths.specs.pg_ir.declared.value.Value.{Value}
use Rattle.pg_region_paths.specs.pg_ir.declared.value.Value.TheVariants as value
use Rattle.pg_region_paths.specs.pg_ir.declared.value.Scalar.{Scalar}
use Rattle.pg_region_paths.specs.pg_ir.declared.value.Scalar.TheVariants.{Int}
use Rattle.pg_region_paths.specs.pg_num.declared.width.Width.{Width}
use Rattle.pg_region_paths.specs.pg_ir.declared.instr.Instr.{Instr}
use Rattle.pg_region_paths.specs.pg_ir.declared.instr.Op.{Op}
use Rattle.pg_region_paths.specs.pg_ir.declared.instr.Op.TheVariants as op
use Rattle.pg_region_paths.specs.pg_ir.Program.{NumberedProgram, first_of, end_of, types_of, function_of}
use Rattle.pg_region_paths.specs.pg_ir.Edges.{instrs_of}
use Rattle.pg_region_paths.specs.pg_ir.WellFormed.{FitsBlock, FitsInstr, FitsOp, FitsIndex, HasType, IsInBlock}
use Rattle.pg_region_paths.specs.declared.path.Path.{Path}
use Rattle.pg_region_paths.specs.Fits.{FitsWidth, FitsConstant, FitsGep}
use Rattle.pg_region_paths.specs.Registers.{register_path, path_by, is_register, has_pointer}
use Rattle.pg_region_accesses.specs.Accesses.{RootedList, op_accesses, accesses_from, block_accesses}
use Rattle.pg_region_accesses.specs.Appends.{Appends, behind}
use Rattle.pg_region_accesses.proofs.AddedAccesses.{step_true, step_false, appends_all, appends_none}

get_drop : (xs : List Instr) (k : ℕ) (x : Instr) → slice_get xs k ≡ Some x → drop k xs ≡ x ∷ drop (k + 1) xs
get_drop [] zero x e = absurd cc
get_drop [] (suc k) x e = absurd cc
get_drop (y ∷ xs) zero x e = let q : y ≡ x = cc in ap (λ z. z ∷ xs) q
get_drop (y ∷ xs) (suc k) x e = let q : suc k + 1 ≡ suc (k + 1) = omega arith in rw q (get_drop xs k x e)

pub get_take : (xs : List Instr) (k : ℕ) (x : Instr) → slice_get xs k ≡ Some x → take (k + 1) xs ≡ take k xs ++ x ∷ []
get_take [] zero x e = absurd cc
get_take [] (suc k) x e = absurd cc
get_take (y ∷ xs) zero x e = let q : y ≡ x = cc in ap (λ z. z ∷ []) q
get_take (y ∷ xs) (suc k) x e = let q : suc k + 1 ≡ suc (k + 1) = omega arith in rw q (ap (λ l. y ∷ l) (get_take xs k x e))

pub before_more : (xs : List Instr) (k : ℕ) (x : Instr) → slice_get xs k ≡ Some x → reverse (take (k + 1) xs) ≡ x ∷ reverse (take k xs)
before_more xs k x e = rw (get_take xs k x e) (reverse-append (take k xs) (x ∷ []))

get_past : (xs : List Instr) (n k : ℕ) → k < n → slice_get (take n xs) k ≡ slice_get xs k
get_past xs zero k lt = absurd (omega arith)
get_past [] (suc n) zero lt = refl
get_past [] (suc n) (suc k) lt = refl
get_past (x ∷ xs) (suc n) zero lt = refl
get_past (x ∷ xs) (suc n) (suc k) lt = get_past xs n k (omega arith)

get_none : (k : ℕ) → slice_get {X = Instr} [] k ≡ None
get_none zero = refl
get_none (suc k) = refl

get_rest : (xs : List Instr) (n k : ℕ) → slice_get (drop n xs) k ≡ slice_get xs (n + k)
get_rest xs zero k = let z : 0 + k ≡ k = omega arith in rw z refl
get_rest [] (suc n) k = get_none k ∙ sym (get_none (suc n + k))
get_rest (x ∷ xs) (suc n) k = let z : suc n + k ≡ suc (n + k) = omega arith in rw z (get_rest xs n k)

-- instruction k of a block, by the block's record
pub instr_at : (p : NumberedProgram) (b k : ℕ) (block : Block) (x : Instr) → slice_get p.blocks b ≡ Some block → k < block.count → slice_get p.instrs (block.first.0 + k) ≡ Some x
    → slice_get (instrs_of p b) k ≡ Some x
unfolding instrs_of first_of end_of
instr_at p b k block x e lt at = rw e (get_past (drop block.first.0 p.instrs) (block.first.0 + block.count - block.first.0) k (omega arith) ∙ get_rest p.instrs block.first.0 k ∙ at)

pub first_is : (p : NumberedProgram) (b : ℕ) (block : Block) → slice_get p.blocks b ≡ Some block → first_of p b ≡ block.first.0
unfolding first_of
first_is p b block e = rw e refl

pub types_are : (p : NumberedProgram) (b : ℕ) (block : Block) (f : Function) → slice_get p.blocks b ≡ Some block → slice_get p.functions block.function ≡ Some f
    → types_of p (function_of p b) ≡ f.registers
unfolding types_of function_of
types_are p b block f e g = rw e (rw g refl)

-- behind its last instruction a block has none
pub instrs_end : (p : NumberedProgram) (b : ℕ) (block : Block) (k : ℕ) → slice_get p.blocks b ≡ Some block → block.count ≤ k → drop k (instrs_of p b) ≡ []
unfolding instrs_of first_of end_of
instrs_end p b block k e le = rw e (past (block.first.0 + block.count - block.first.0) (drop block.first.0 p.instrs) k (omega arith))
  where
    past : (n : ℕ) (ys : List Instr) (k : ℕ) → n ≤ k → drop k (take n ys) ≡ []
    past zero ys zero le = refl
    past zero ys (suc k) le = refl
    past (suc n) [] zero le = refl
    past (suc n) [] (suc k) le = refl
    past (suc n) (y ∷ ys) zero le = absurd (omega arith)
    past (suc n) (y ∷ ys) (suc k) le = past n ys k (omega arith)

-- ---- one instruction is passed

module _ (m : Bool) (gated : ℕ → Bool) (sums : ℕ → Option RootedList) (is_set : ℕ → Bool) (types : List Scalar) (xs : List Instr) (first k : ℕ) (x : Instr)
    (at : slice_get xs k ≡ Some x) where
  pub pass_true : (cur new : RootedList) → Appends (op_accesses m gated sums (register_path is_set types (reverse (take k xs))) (first + k) x.op) cur true new →
      behind cur (accesses_from m gated sums is_set types (reverse (take k xs)) (first + k) (drop k xs))
      ≡ behind new (accesses_from m gated sums is_set types (reverse (take (k + 1) xs)) (first + (k + 1)) (drop (k + 1) xs))
  pass_true cur new h =
      let q : first + (k + 1) ≡ first + k + 1 = omega arith in
      rw (
        get_drop xs k x at,
        before_more xs k x at,
        q,
      ) (step_true (op_accesses m gated sums (register_path is_set types (reverse (take k xs))) (first + k) x.op)
      (accesses_from m gated sums is_set types (x ∷ reverse (take k xs)) (first + k + 1) (drop (k + 1) xs)) cur new h)

  pub pass_false : (cur new : RootedList) → Appends (op_accesses m gated sums (register_path is_set types (reverse (take k xs))) (first + k) x.op) cur false new →
      behind cur (accesses_from m gated sums is_set types (reverse (take k xs)) (first + k) (drop k xs)) ≡ None
  pass_false cur new h =
      rw (get_drop xs k x at) (step_false (op_accesses m gated sums (register_path is_set types (reverse (take k xs))) (first + k) x.op)
      (accesses_from m gated sums is_set types (x ∷ reverse (take k xs)) (first + k + 1) (drop (k + 1) xs)) cur new h)

-- ---- a getelementptr's constants fit

width_fits : (p : NumberedProgram) (types : List Scalar) (w : Width) (v : Value) → HasType p types (Int w) v → FitsWidth w v
width_fits p types w (value.Const n) h = h
width_fits p types w (value.Register r) h = tt
width_fits p types w (value.Global g) h = tt
width_fits p types w (value.Function f) h = tt

indices_fit : (p : NumberedProgram) (types : List Scalar) (is : List Index) → AllByRecursion (FitsIndex p types) is → AllByRecursion FitsConstant is
indices_fit p types [] h = tt
indices_fit p types (i ∷ is) h = (width_fits p types i.width i.value h.0, indices_fit p types is h.1)

pub gep_fits : (p : NumberedProgram) (types : List Scalar) (returns result : Option Scalar) (o : Op) → FitsOp p types returns result o → FitsGep o
gep_fits p types returns result (op.Gep base indices) h = indices_fit p types indices h.2
gep_fits p types returns result _ h = tt

-- ---- the paths behind one more instruction

pub paths_more : (is_set : ℕ → Bool) (types : List Scalar) (xs : List Instr) (k : ℕ) (x : Instr) (f g : ℕ → Option Path) → slice_get xs k ≡ Some x
    → ((r : ℕ) → f r ≡ register_path is_set types (reverse (take k xs)) r) →
    ((s : ℕ) → g s ≡ cond (is_register x.result s) (path_by f (has_pointer types x.result) x.op) (f s)) → (r : ℕ) → g r ≡ register_path is_set types (reverse (take (k + 1) xs)) r
paths_more is_set types xs k x f g at h n r =
    let e : f ≡ register_path is_set types (reverse (take k xs)) = fun_ext h in
    rw (before_more xs k x at) (n r ∙ ap (λ (F : ℕ → Option Path). cond (is_register x.result r) (path_by F (has_pointer types x.result) x.op) (F r)) e)

pub op_same : (m : Bool) (gated : ℕ → Bool) (sums : ℕ → Option RootedList) (f g : ℕ → Option Path) (i : ℕ) (o : Op) (cur : RootedList) (b : Bool) (new : RootedList)
    → ((r : ℕ) → f r ≡ g r) → Appends (op_accesses m gated sums f i o) cur b new → Appends (op_accesses m gated sums g i o) cur b new
op_same m gated sums f g i o cur b new h a = subst (λ (F : ℕ → Option Path). Appends (op_accesses m gated sums F i o) cur b new) (fun_ext h) a

some_small : (n m : ℕ) (o : Option ℕ) → n ≤ m → IfSome o (λ r. r < n) → IfSome o (λ r. r < m)
some_small n m None le h = h
some_small n m (Some r) le h = omega (arith, h, le)

in_block : (b : ℕ) (o : Option Instr) (x : Instr) → o ≡ Some x → IsInBlock b o → x.block.0 ≡ b
in_block b None x e h = absurd h
in_block b (Some y) x e h = let q : y ≡ x = cc in subst (λ (z : Instr). z.block.0 ≡ b) q h

-- an instruction of a block stands in it
pub stands_in : (p : NumberedProgram) (b i : ℕ) (block : Block) (x : Instr) → FitsBlock p b block → block.first.0 ≤ i → i < block.first.0 + block.count
    → slice_get p.instrs i ≡ Some x → x.block.0 ≡ b
stands_in p b i block x h lo hi e = in_block b (slice_get p.instrs i) x e (h.holds i lo hi)

-- the register that an instruction sets is one of its function's
pub result_small : (p : NumberedProgram) (b i n : ℕ) (block : Block) (f : Function) (x : Instr) → slice_get p.blocks b ≡ Some block → slice_get p.functions block.function ≡ Some f
    → length f.registers ≤ n → FitsBlock p b block → block.first.0 ≤ i → i < block.first.0 + block.count →
    slice_get p.instrs i ≡ Some x → FitsInstr p i x → IfSome x.result (λ r. r < n)
result_small p b i n block f x e g few h lo hi at fits =
    let q : x.block.0 ≡ b = stands_in p b i block x h lo hi at in
    let t : types_of p (function_of p x.block.0) ≡ f.registers = ap (λ z. types_of p (function_of p z)) q ∙ types_are p b block f e g in
    some_small (length (types_of p (function_of p x.block.0))) n x.result (omega (arith, ap (λ (l : List Scalar). length l) t, few)) fits.target

-- ---- a block, as far as it was passed

module _ (m : Bool) (p : NumberedProgram) (gated : ℕ → Bool) (sums : ℕ → Option RootedList) (is_set : ℕ → Bool) (b : ℕ) (block : Block) (e : slice_get p.blocks b ≡ Some block) where
  -- what is accessed from instruction k of the block on
  abbrev pub rest_from : ℕ → Option RootedList
  rest_from k = accesses_from m gated sums is_set (types_of p (function_of p b)) (reverse (take k (instrs_of p b))) (first_of p b + k) (drop k (instrs_of p b))

  module _ (k : ℕ) (x : Instr) (lt : k < block.count) (at : slice_get p.instrs (block.first.0 + k) ≡ Some x) (f : ℕ → Option Path)
      (h : (r : ℕ) → f r ≡ register_path is_set (types_of p (function_of p b)) (reverse (take k (instrs_of p b))) r) where
    op_here : (cur : RootedList) (quiet : Bool) (new : RootedList) → Appends (op_accesses m gated sums f (block.first.0 + k) x.op) cur quiet new →
        Appends (op_accesses m gated sums (register_path is_set (types_of p (function_of p b)) (reverse (take k (instrs_of p b)))) (first_of p b + k) x.op) cur quiet new
    op_here cur quiet new a =
        subst (λ (z : ℕ). Appends (op_accesses m gated sums (register_path is_set (types_of p (function_of p b)) (reverse (take k (instrs_of p b)))) (z + k) x.op) cur quiet new)
        (sym (first_is p b block e))
        (op_same m gated sums f (register_path is_set (types_of p (function_of p b)) (reverse (take k (instrs_of p b)))) (block.first.0 + k) x.op cur quiet new h a)

    pub block_more : (cur new : RootedList) → Appends (op_accesses m gated sums f (block.first.0 + k) x.op) cur true new → behind cur (rest_from k) ≡ behind new (rest_from (k + 1))
    block_more cur new a = pass_true m gated sums is_set (types_of p (function_of p b)) (instrs_of p b) (first_of p b) k x (instr_at p b k block x e lt at) cur new (op_here cur true new a)

    block_stops : (cur new : RootedList) → Appends (op_accesses m gated sums f (block.first.0 + k) x.op) cur false new → behind cur (rest_from k) ≡ None
    block_stops cur new a = pass_false m gated sums is_set (types_of p (function_of p b)) (instrs_of p b) (first_of p b) k x (instr_at p b k block x e lt at) cur new (op_here cur false new a)

    pub block_none : (old cur new : RootedList) → behind old (accesses_from m gated sums is_set (types_of p (function_of p b)) [] (first_of p b) (instrs_of p b)) ≡ behind cur (rest_from k) →
        (quiet : Bool) → quiet ≡ false → Appends (op_accesses m gated sums f (block.first.0 + k) x.op) cur quiet new → Appends (block_accesses m p gated sums is_set b) old false new
    unfolding block_accesses
    block_none old cur new q quiet r a =
        appends_none (accesses_from m gated sums is_set (types_of p (function_of p b)) [] (first_of p b) (instrs_of p b)) old new
        (q ∙ block_stops cur new (subst (λ (z : Bool). Appends (op_accesses m gated sums f (block.first.0 + k) x.op) cur z new) r a))

  pub block_all : (k : ℕ) → block.count ≤ k → (old cur : RootedList)
      → behind old (accesses_from m gated sums is_set (types_of p (function_of p b)) [] (first_of p b) (instrs_of p b)) ≡ behind cur (rest_from k) →
      Appends (block_accesses m p gated sums is_set b) old true cur
  unfolding block_accesses
  block_all k le old cur q =
      appends_all (accesses_from m gated sums is_set (types_of p (function_of p b)) [] (first_of p b) (instrs_of p b)) old cur
      (q ∙ ap (λ (l : List Instr). behind cur (accesses_from m gated sums is_set (types_of p (function_of p b)) (reverse (take k (instrs_of p b))) (first_of p b + k) l))
      (instrs_end p b block k e le))
