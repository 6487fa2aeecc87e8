-- How many accesses a set of blocks has at most, where the summaries of the functions that it calls are short.
use Rattle.std.proofs.Common.{◌≡◌, ℕ, zero, suc, ◌+◌, ◌-◌, ◌*◌, ◌<◌, ◌≤◌, Bool, true, false, cond, List, [], ◌∷◌, ◌++◌, length, take, drop, Option}
use Rattle.std.proofs.Common.{Some, None, refl, ap, arith, length-append}
use Rattle.std.specs.Prelude.{All, slice_get}
use Rattle.std.specs.List.{AllByRecursion}
use Rattle.std.proofs.lemmas.List.Elements.{All-drop, All-take, recursion_from_All}
use Rattle.pg_ir.specs.declared.library_call.LibraryCall.{LibraryCall}
use Rattle.pg_ir.specs.declared.library_call.LibraryCall.TheVariants.{PgIn, PgInLen}
use Rattle.pg_ir.specs.declared.value.Value.{Value}
use Rattle.pg_ir.specs.declared.value.Scalar.{Scalar}
use Rattle.pg_ir.specs.declared.instr.Instr.{Instr}
use Rattle.pg_ir.specs.declared.instr.Op.{Op}
use Rattle.pg_ir.specs.declared.instr.Op.TheVariants as op
use Rattle.pg_ir.specs.Program.{NumberedProgram, end_of, first_of, function_of, types_of}
use Rattle.pg_ir.specs.Edges.{instrs_of}
use Rattle.pg_region_paths.specs.declared.path.Path.{Path}
use Rattle.pg_region_paths.specs.declared.path.Root.{Root}
use Rattle.pg_region_paths.specs.declared.path.Root.TheVariants as root
use Rattle.pg_region_paths.specs.declared.path.RootPath.{RootPath}
use Rattle.pg_region_paths.specs.Paths.{composed}
use Rattle.pg_region_paths.specs.Registers.{register_path, value_path}
use Rattle.pg_region_accesses.specs.declared.rooted.Rooted.{Rooted}
use Rattle.pg_region_accesses.specs.Accesses.{RootedList, accesses_from, behind_argument, behind_path, block_accesses, both, called_access, called_accesses, gathered, known_accesses, one_access}
use Rattle.pg_region_accesses.specs.Accesses.{op_accesses, set_accesses, sets, with_path}
use Rattle.pg_region_accesses.proofs.QuietInstructions.{parts}

-- these are at most so many, if there are any to be had
abbrev pub Most : Option RootedList → ℕ → Type 0
Most o n = (ys : RootedList) → o ≡ Some ys → length ys ≤ n

none_most : (n : ℕ) → Most None n
none_most n ys e = absurd cc

empty_most : (n : ℕ) → Most (Some []) n
empty_most n ys e = let q : [] ≡ ys = cc in let k : 0 ≡ length ys = ap (λ (l : RootedList). length l) q in omega (arith, k)

single_most : (x : Rooted) (n : ℕ) → 0 < n → Most (Some (x ∷ [])) n
single_most x n lt ys e = let q : x ∷ [] ≡ ys = cc in let k : 1 ≡ length ys = ap (λ (l : RootedList). length l) q in omega (arith, k, lt)

both_most : (a b : Option RootedList) (n m : ℕ) → Most a n → Most b m → Most (both a b) (n + m)
both_most a b n m h k ys e =
    let s = parts a b ys e in
    let l : length ys ≡ length (s.0 ++ s.1) = ap (λ (l : RootedList). length l) s.4 in
    let t : length (s.0 ++ s.1) ≡ length s.0 + length s.1 = length-append s.0 s.1 in
    omega (arith, l, t, h s.0 s.2, k s.1 s.3)

abbrev times : ℕ → ℕ → ℕ
times zero n = 0
times (suc k) n = n + times k n

gathered_most : {A : Type 0} (f : A → Option RootedList) (n : ℕ) → ((a : A) → Most (f a) n) → (xs : List A) → Most (gathered f xs) (times (length xs) n)
gathered_most f n h [] = empty_most 0
gathered_most f n h (x ∷ xs) = both_most (f x) (gathered f xs) n (times (length xs) n) (h x) (gathered_most f n h xs)

-- ---- one instruction

access_most : (i : ℕ) (w : Bool) (o : Option Path) → Most (one_access i w o) 1024
access_most i w None = none_most 1024
access_most i w (Some p) = single_most _ 1024 (omega arith)

gated_most : (b : Bool) (o : Option RootedList) (n : ℕ) → Most o n → Most (cond b None o) n
gated_most true o n h = none_most n
gated_most false o n h = h

with_most : (a : Rooted) (o : Option RootPath) → Most (with_path a o) 1
with_most a None = none_most 1
with_most a (Some p) = single_most _ 1 (omega arith)

behind_most : (a : Rooted) (o : Option Path) → Most (behind_path a o) 1
behind_most a None = none_most 1
behind_most a (Some p) = with_most a (composed p a.path.loads)

argument_most : (f : ℕ → Option Path) (a : Rooted) (o : Option Value) → Most (behind_argument f a o) 1
argument_most f a None = none_most 1
argument_most f a (Some v) = behind_most a (value_path f v)

called_most : (f : ℕ → Option Path) (args : List Value) (a : Rooted) (r : Root) → Most (called_access f args a r) 1
called_most f args a (root.Param k) = argument_most f a (slice_get args k)
called_most f args a (root.Register k) = none_most 1
called_most f args a (root.Global k) = single_most a 1 (omega arith)
called_most f args a (root.Const k) = single_most a 1 (omega arith)

times_one : (k : ℕ) → times k 1 ≡ k
times_one zero = refl
times_one (suc k) = let h : times k 1 ≡ k = times_one k in omega (arith, h)

-- a summary, if there is one, is short
abbrev pub IsShort : Option RootedList → Type 0
IsShort None = Unit {0}
IsShort (Some xs) = length xs ≤ 1024

call_most : (f : ℕ → Option Path) (args : List Value) (o : Option RootedList) → IsShort o → Most (called_accesses f args o) 1024
call_most f args None h ys e = absurd cc
call_most f args (Some xs) h ys e =
    let k : length ys ≤ times (length xs) 1 = gathered_most (λ (a : Rooted). called_access f args a a.path.root) 1 (λ a. called_most f args a a.path.root) xs ys e in
    omega (arith, k, times_one (length xs), h)

known_most : (k : LibraryCall) → Most (known_accesses k) 1024
known_most PgIn = empty_most 1024
known_most PgInLen = empty_most 1024
known_most _ = none_most 1024

return_most : (b : Bool) → Most (cond b (Some []) None) 1024
return_most true = empty_most 1024
return_most false = none_most 1024

-- the operation calls functions with short summaries alone
abbrev pub CallsShort : (ℕ → Option RootedList) → Op → Type 0
CallsShort sums (op.Call g args) = IsShort (sums g)
CallsShort sums o = Unit {0}

module _ (m : Bool) (gated : ℕ → Bool) (sums : ℕ → Option RootedList) where
  op_most : (f : ℕ → Option Path) (i : ℕ) (o : Op) → CallsShort sums o → Most (op_accesses m gated sums f i o) 1024
  op_most f i (op.Load w from) h = gated_most (gated i) (one_access i false (value_path f from)) 1024 (access_most i false (value_path f from))
  op_most f i (op.Store w v at) h = gated_most (gated i) (one_access i true (value_path f at)) 1024 (access_most i true (value_path f at))
  op_most f i (op.Call g args) h = call_most f args (sums g) h
  op_most f i (op.CallLibrary k args) h = known_most k
  op_most f i (op.Alloca bytes) h = none_most 1024
  op_most f i (op.Ret v) h = return_most m
  op_most f i _ h = empty_most 1024

  -- ---- blocks

  from_most : (is_set : ℕ → Bool) (types : List Scalar) (before : List Instr) (i : ℕ) (xs : List Instr) → AllByRecursion (λ (x : Instr). CallsShort sums x.op) xs
      → Most (accesses_from m gated sums is_set types before i xs) (times (length xs) 1024)
  from_most is_set types before i [] h = empty_most 0
  from_most is_set types before i (x ∷ xs) h =
      both_most (op_accesses m gated sums (register_path is_set types before) i x.op) (accesses_from m gated sums is_set types (x ∷ before) (i + 1) xs) 1024 (times (length xs) 1024)
      (op_most (register_path is_set types before) i x.op h.0) (from_most is_set types (x ∷ before) (i + 1) xs h.1)

  take_length : (n : ℕ) (xs : List Instr) → length (take n xs) ≤ length xs
  take_length zero xs = omega arith
  take_length (suc n) [] = omega arith
  take_length (suc n) (x ∷ xs) = let h : length (take n xs) ≤ length xs = take_length n xs in omega (arith, h)

  drop_length : (n : ℕ) (xs : List Instr) → length (drop n xs) ≤ length xs
  drop_length zero xs = omega arith
  drop_length (suc n) [] = omega arith
  drop_length (suc n) (x ∷ xs) = let h : length (drop n xs) ≤ length xs = drop_length n xs in omega (arith, h)

  times_linear : (k : ℕ) → times k 1024 ≡ 1024 * k
  times_linear zero = refl
  times_linear (suc k) = let h : times k 1024 ≡ 1024 * k = times_linear k in omega (arith, h)

  times_large : (k : ℕ) → times k 67108864 ≡ 67108864 * k
  times_large zero = refl
  times_large (suc k) = let h : times k 67108864 ≡ 67108864 * k = times_large k in omega (arith, h)

  module _ (p : NumberedProgram) (few : length p.instrs ≤ 65536) (short : All (λ (x : Instr). CallsShort sums x.op) p.instrs) where
    block_most : (is_set : ℕ → Bool) (b : ℕ) → Most (block_accesses m p gated sums is_set b) 67108864
    unfolding block_accesses instrs_of
    block_most is_set b ys e =
        let n = end_of p b - first_of p b in
        let xs : List Instr = take n (drop (first_of p b) p.instrs) in
        let h = recursion_from_All (λ (x : Instr). CallsShort sums x.op) xs
        (All-take (λ (x : Instr). CallsShort sums x.op) n (drop (first_of p b) p.instrs) (All-drop (λ (x : Instr). CallsShort sums x.op) (first_of p b) p.instrs short)) in
        let k : length ys ≤ times (length xs) 1024 = from_most is_set (types_of p (function_of p b)) [] (first_of p b) xs h ys e in
        omega (arith, k, times_linear (length xs), take_length n (drop (first_of p b) p.instrs), drop_length (first_of p b) p.instrs, few)

    pub set_most : (bs : List ℕ) → Most (set_accesses m p gated sums bs) (67108864 * length bs)
    set_most bs ys e =
        let k : length ys ≤ times (length bs) 67108864 = gathered_most (block_accesses m p gated sums (sets p bs)) 67108864 (block_most (sets p bs)) bs ys e in
        omega (arith, k, times_large (length bs))
