-- How many accesses a function has, counted before they are listed.
use Rattle.std.proofs.Common.{◌≡◌, ℕ, zero, suc, ◌+◌, ◌<◌, ◌≤◌, Bool, true, false, cond, List, [], ◌∷◌, ◌++◌, length, get_or, drop, Option, Some, None, refl}
use Rattle.std.proofs.Common.{sym, ap, ◌∙◌, subst, arith, length-append}
use Rattle.std.specs.Prelude.{nat_le, slice_get}
use Rattle.std.proofs.lemmas.Bool.{leb-true, leb-false, le-leb, lt-leb}
use Rattle.pg_ir.specs.declared.library_call.LibraryCall.{LibraryCall}
use Rattle.pg_ir.specs.declared.library_call.LibraryCall.TheVariants.{PgIn, PgInLen}
use Rattle.pg_ir.specs.declared.value.Value.{Value}
use Rattle.pg_ir.specs.declared.value.Scalar.{Scalar}
use Rattle.pg_ir.specs.declared.instr.Instr.{Instr}
use Rattle.pg_ir.specs.declared.instr.Op.{Op}
use Rattle.pg_ir.specs.declared.instr.Op.TheVariants as op
use Rattle.pg_ir.specs.Program.{NumberedProgram, types_of, function_of, first_of, parameter_count}
use Rattle.pg_ir.specs.Edges.{instrs_of}
use Rattle.pg_region_paths.specs.declared.path.Root.{Root}
use Rattle.pg_region_paths.specs.declared.path.Root.TheVariants as root
use Rattle.pg_region_paths.specs.declared.path.RootPath.{RootPath}
use Rattle.pg_region_paths.specs.declared.path.Path.{Path}
use Rattle.pg_region_paths.specs.Paths.{composed}
use Rattle.pg_region_paths.specs.Registers.{value_path, register_path}
use Rattle.pg_region_accesses.specs.declared.rooted.Rooted.{Rooted}
use Rattle.pg_region_accesses.specs.Accesses.{RootedList, both, gathered, one_access, with_path, behind_path, behind_argument, called_access, called_accesses, known_accesses, op_accesses}
use Rattle.pg_region_accesses.specs.Accesses.{accesses_from, block_accesses, sets, set_accesses}
use Rattle.pg_region_accesses.proofs.QuietInstructions.{parts}
use Rattle.pg_region_summaries.specs.declared.limits.TheConstants.{SUMMARY_LIMIT}
use Rattle.pg_region_summaries.specs.Blocks.{blocks_of}
use Rattle.pg_region_summaries.specs.Summaries.{seen_root, with_root, seen, if_few, seen_by_callers, summary_by}
use Rattle.pg_region_summaries.specs.Counts.{count_in, op_count, instrs_count, block_count, blocks_count, within_limit}

-- ---- as many accesses as are counted

-- these are so many, if there are any to be had
abbrev Sized : Option RootedList → ℕ → Type 0
Sized o n = (ys : RootedList) → o ≡ Some ys → length ys ≡ n

none_sized : Sized (Some []) 0
none_sized ys e = let q : [] ≡ ys = cc in ap (λ (l : RootedList). length l) (sym q)

single_sized : (x : Rooted) → Sized (Some (x ∷ [])) 1
single_sized x ys e = let q : x ∷ [] ≡ ys = cc in ap (λ (l : RootedList). length l) (sym q)

nothing_sized : (n : ℕ) → Sized None n
nothing_sized n ys e = absurd cc

both_sized : (a b : Option RootedList) (n m : ℕ) → Sized a n → Sized b m → Sized (both a b) (n + m)
both_sized a b n m h k ys e =
    let s = parts a b ys e in
    let l : length ys ≡ length (s.0 ++ s.1) = ap (λ (l : RootedList). length l) s.4 in
    let t : length (s.0 ++ s.1) ≡ length s.0 + length s.1 = length-append s.0 s.1 in
    omega (arith, l, t, h s.0 s.2, k s.1 s.3)

gathered_sized : (f : Rooted → Option RootedList) → ((a : Rooted) → Sized (f a) 1) → (xs : RootedList) → Sized (gathered f xs) (length xs)
gathered_sized f h [] = none_sized
gathered_sized f h (x ∷ xs) =
    let e : 1 + length xs ≡ suc (length xs) = omega arith in
    subst (λ (n : ℕ). Sized (both (f x) (gathered f xs)) n) e (both_sized (f x) (gathered f xs) 1 (length xs) (h x) (gathered_sized f h xs))

access_sized : (i : ℕ) (w : Bool) (o : Option Path) → Sized (one_access i w o) 1
access_sized i w None = nothing_sized 1
access_sized i w (Some p) = single_sized _

gated_sized : (b : Bool) (o : Option RootedList) (n : ℕ) → Sized o n → Sized (cond b None o) n
gated_sized true o n h = nothing_sized n
gated_sized false o n h = h

with_sized : (a : Rooted) (o : Option RootPath) → Sized (with_path a o) 1
with_sized a None = nothing_sized 1
with_sized a (Some p) = single_sized _

behind_sized : (a : Rooted) (o : Option Path) → Sized (behind_path a o) 1
behind_sized a None = nothing_sized 1
behind_sized a (Some p) = with_sized a (composed p a.path.loads)

argument_sized : (f : ℕ → Option Path) (a : Rooted) (o : Option Value) → Sized (behind_argument f a o) 1
argument_sized f a None = nothing_sized 1
argument_sized f a (Some v) = behind_sized a (value_path f v)

called_sized : (f : ℕ → Option Path) (args : List Value) (a : Rooted) (r : Root) → Sized (called_access f args a r) 1
called_sized f args a (root.Param k) = argument_sized f a (slice_get args k)
called_sized f args a (root.Register k) = nothing_sized 1
called_sized f args a (root.Global k) = single_sized a
called_sized f args a (root.Const k) = single_sized a

call_sized : (f : ℕ → Option Path) (args : List Value) (o : Option RootedList) → Sized (called_accesses f args o) (count_in o)
call_sized f args None = nothing_sized 0
call_sized f args (Some xs) = gathered_sized (λ (a : Rooted). called_access f args a a.path.root) (λ a. called_sized f args a a.path.root) xs

known_sized : (k : LibraryCall) → Sized (known_accesses k) 0
known_sized PgIn = none_sized
known_sized PgInLen = none_sized
known_sized _ = nothing_sized 0

return_sized : (b : Bool) → Sized (cond b (Some []) None) 0
return_sized true = none_sized
return_sized false = nothing_sized 0

module _ (m : Bool) (gated : ℕ → Bool) (sums : ℕ → Option RootedList) where
  op_sized : (f : ℕ → Option Path) (i : ℕ) (o : Op) → Sized (op_accesses m gated sums f i o) (op_count sums o)
  op_sized f i (op.Load w from) = gated_sized (gated i) (one_access i false (value_path f from)) 1 (access_sized i false (value_path f from))
  op_sized f i (op.Store w v at) = gated_sized (gated i) (one_access i true (value_path f at)) 1 (access_sized i true (value_path f at))
  op_sized f i (op.Call g args) = call_sized f args (sums g)
  op_sized f i (op.CallLibrary k args) = known_sized k
  op_sized f i (op.Alloca bytes) = nothing_sized 0
  op_sized f i (op.Ret v) = return_sized m
  op_sized f i _ = none_sized

  from_sized : (is_set : ℕ → Bool) (types : List Scalar) (before : List Instr) (i : ℕ) (xs : List Instr) → Sized (accesses_from m gated sums is_set types before i xs) (instrs_count sums xs)
  from_sized is_set types before i [] = none_sized
  from_sized is_set types before i (x ∷ xs) =
      both_sized (op_accesses m gated sums (register_path is_set types before) i x.op) (accesses_from m gated sums is_set types (x ∷ before) (i + 1) xs) (op_count sums x.op) (instrs_count sums xs)
      (op_sized (register_path is_set types before) i x.op) (from_sized is_set types (x ∷ before) (i + 1) xs)

  block_sized : (p : NumberedProgram) (is_set : ℕ → Bool) (b : ℕ) → Sized (block_accesses m p gated sums is_set b) (block_count p sums b)
  unfolding block_accesses block_count
  block_sized p is_set b = from_sized is_set (types_of p (function_of p b)) [] (first_of p b) (instrs_of p b)

  blocks_sized : (p : NumberedProgram) (is_set : ℕ → Bool) (bs : List ℕ) → Sized (gathered (block_accesses m p gated sums is_set) bs) (blocks_count p sums bs)
  blocks_sized p is_set [] = none_sized
  blocks_sized p is_set (b ∷ bs) =
      both_sized (block_accesses m p gated sums is_set b) (gathered (block_accesses m p gated sums is_set) bs) (block_count p sums b) (blocks_count p sums bs) (block_sized p is_set b)
      (blocks_sized p is_set bs)

root_sized : (a : Rooted) (o : Option Root) → Sized (with_root a o) 1
root_sized a None = nothing_sized 1
root_sized a (Some r) = single_sized _

seen_sized : (n : ℕ) (xs : RootedList) → Sized (seen n xs) (length xs)
seen_sized n xs = gathered_sized (λ (a : Rooted). with_root a (seen_root n a.path.root)) (λ a. root_sized a (seen_root n a.path.root)) xs

-- where more are counted than a summary may have there is none
pub over : (p : NumberedProgram) (gated : ℕ → Bool) (sums : ℕ → Option RootedList) (f : ℕ) → nat_le (blocks_count p sums (blocks_of p f)) SUMMARY_LIMIT ≡ false
    → summary_by p gated sums f ≡ None
over p gated sums f many = go (set_accesses true p gated sums (blocks_of p f)) refl
  where
    few : (xs ys : RootedList) → set_accesses true p gated sums (blocks_of p f) ≡ Some xs → (o : Option RootedList) → seen (parameter_count p f) xs ≡ o → if_few o ≡ None
    few xs ys e None q = refl
    few xs ys e (Some zs) q =
        let n : length xs ≡ blocks_count p sums (blocks_of p f) = blocks_sized true gated sums p (sets p (blocks_of p f)) (blocks_of p f) xs e in
        let k : length zs ≡ blocks_count p sums (blocks_of p f) = seen_sized (parameter_count p f) xs zs q ∙ n in
        let t : nat_le (length zs) SUMMARY_LIMIT ≡ false = ap (λ z. nat_le z SUMMARY_LIMIT) k ∙ many in
        rw t refl

    go : (o : Option RootedList) → set_accesses true p gated sums (blocks_of p f) ≡ o → seen_by_callers (parameter_count p f) o ≡ None
    go None e = refl
    go (Some xs) e = few xs [] e (seen (parameter_count p f) xs) refl

-- ---- counting

-- an instruction more
pub instr_more : (sums : ℕ → Option RootedList) (xs : List Instr) (k : ℕ) (x : Instr) → slice_get xs k ≡ Some x
    → instrs_count sums (drop k xs) ≡ op_count sums x.op + instrs_count sums (drop (k + 1) xs)
instr_more sums [] zero x e = absurd cc
instr_more sums [] (suc k) x e = absurd cc
instr_more sums (y ∷ xs) zero x e = let q : y ≡ x = cc in ap (λ (z : Instr). op_count sums z.op + instrs_count sums xs) q
instr_more sums (y ∷ xs) (suc k) x e = let q : suc k + 1 ≡ suc (k + 1) = omega arith in rw q (instr_more sums xs k x e)

pub block_more : (p : NumberedProgram) (sums : ℕ → Option RootedList) (bs : List ℕ) (k d : ℕ) → k < length bs
    → blocks_count p sums (drop k bs) ≡ block_count p sums (get_or bs k d) + blocks_count p sums (drop (k + 1) bs)
block_more p sums [] k d lt = absurd (omega (arith, lt))
block_more p sums (b ∷ bs) zero d lt = refl
block_more p sums (b ∷ bs) (suc k) d lt = let q : suc k + 1 ≡ suc (k + 1) = omega arith in rw q (block_more p sums bs k d (omega (arith, lt)))

pub block_end : (p : NumberedProgram) (sums : ℕ → Option RootedList) (bs : List ℕ) (k : ℕ) → length bs ≤ k → blocks_count p sums (drop k bs) ≡ 0
block_end p sums [] zero le = refl
block_end p sums [] (suc k) le = refl
block_end p sums (b ∷ bs) zero le = absurd (omega (arith, le))
block_end p sums (b ∷ bs) (suc k) le = block_end p sums bs k (omega (arith, le))

pub within_some : (n : ℕ) → n ≤ SUMMARY_LIMIT → within_limit n ≡ Some n
within_some n le = rw (le-leb n SUMMARY_LIMIT le) refl

pub within_none : (n : ℕ) → SUMMARY_LIMIT < n → within_limit n ≡ None
within_none n lt = rw (lt-leb n SUMMARY_LIMIT lt) refl

pub some_within : (n k : ℕ) → within_limit n ≡ Some k → (k ≡ n) × (n ≤ SUMMARY_LIMIT)
some_within n k e = go (nat_le n SUMMARY_LIMIT) refl e
  where
    go : (b : Bool) → nat_le n SUMMARY_LIMIT ≡ b → cond b (Some n) None ≡ Some k → (k ≡ n) × (n ≤ SUMMARY_LIMIT)
    go true q h = let t : n ≡ k = cc in (sym t, leb-true n SUMMARY_LIMIT q)
    go false q h = absurd cc

pub none_within : (n : ℕ) → within_limit n ≡ None → SUMMARY_LIMIT < n
none_within n e = go (nat_le n SUMMARY_LIMIT) refl e
  where
    go : (b : Bool) → nat_le n SUMMARY_LIMIT ≡ b → cond b (Some n) None ≡ None → SUMMARY_LIMIT < n
    go true q h = absurd cc
    go false q h = leb-false n SUMMARY_LIMIT q

pub count_is : (p : NumberedProgram) (sums : ℕ → Option RootedList) (b : ℕ) → block_count p sums b ≡ instrs_count sums (instrs_of p b)
unfolding block_count
count_is p sums b = refl

pub limit_at : (n k : ℕ) → n ≡ k → k ≤ SUMMARY_LIMIT → Some k ≡ within_limit n
limit_at n k e le = rw e (sym (within_some k le))

-- ---- the blocks of a function, one after another

pub few_more : (n k : ℕ) → Some k ≡ within_limit n → k ≤ SUMMARY_LIMIT
few_more n k e = let s = some_within n k (sym e) in omega (arith, s.0, s.1)

pub counted_more : (p : NumberedProgram) (sums : ℕ → Option RootedList) (bs : List ℕ) (k count more : ℕ) → k < length bs
    → blocks_count p sums bs ≡ count + blocks_count p sums (drop k bs) → Some more ≡ within_limit (count + block_count p sums (get_or bs k 0)) →
    blocks_count p sums bs ≡ more + blocks_count p sums (drop (k + 1) bs)
counted_more p sums bs k count more lt h e =
    let s = some_within (count + block_count p sums (get_or bs k 0)) more (sym e) in
    omega (arith, h, s.0, block_more p sums bs k 0 lt)

pub counted_over : (p : NumberedProgram) (sums : ℕ → Option RootedList) (bs : List ℕ) (k count : ℕ) → k < length bs
    → blocks_count p sums bs ≡ count + blocks_count p sums (drop k bs) → None ≡ within_limit (count + block_count p sums (get_or bs k 0)) →
    false ≡ nat_le (blocks_count p sums bs) SUMMARY_LIMIT
counted_over p sums bs k count lt h e =
    let s = none_within (count + block_count p sums (get_or bs k 0)) (sym e) in
    sym (lt-leb (blocks_count p sums bs) SUMMARY_LIMIT (omega (arith, h, s, block_more p sums bs k 0 lt)))

pub counted_all : (p : NumberedProgram) (sums : ℕ → Option RootedList) (bs : List ℕ) (k count : ℕ) → length bs ≤ k → count ≤ SUMMARY_LIMIT
    → blocks_count p sums bs ≡ count + blocks_count p sums (drop k bs) → true ≡ nat_le (blocks_count p sums bs) SUMMARY_LIMIT
counted_all p sums bs k count le few h = sym (le-leb (blocks_count p sums bs) SUMMARY_LIMIT (omega (arith, h, few, block_end p sums bs k le)))
