-- What the instructions of a quiet set of blocks are, and where their accesses begin.
use Rattle.std.proofs.Common.{◌≡◌, ℕ, zero, suc, ◌+◌, Bool, true, false, cond, List, [], ◌∷◌, ◌++◌, Option, Some, None, refl, sym, subst, arith, inl, inr, ◌⊎◌}
use Rattle.std.specs.Prelude.{Contains, option_map, option_and_then, slice_get}
use Rattle.std.proofs.lemmas.List.Elements.{Contains-append_cases}
use Rattle.pg_region_paths.specs.pg_ir.declared.library_call.LibraryCall.{LibraryCall}
use Rattle.pg_region_paths.specs.pg_ir.declared.library_call.LibraryCall.TheVariants.{PgIn, PgInLen}
use Rattle.pg_region_paths.specs.pg_ir.declared.value.Value.{Value}
use Rattle.pg_region_paths.specs.pg_ir.declared.value.Value.TheVariants as value
use Rattle.pg_region_paths.specs.pg_ir.declared.value.Index.{Index}
use Rattle.pg_region_paths.specs.pg_ir.declared.value.Scalar.{Scalar}
use Rattle.pg_region_paths.specs.pg_ir.declared.instr.Instr.{Instr}
use Rattle.pg_region_paths.specs.pg_ir.declared.instr.Op.{Op}
use Rattle.pg_region_paths.specs.pg_ir.declared.instr.Op.TheVariants as op
use Rattle.pg_region_paths.specs.pg_ir.Program.{NumberedProgram, types_of, function_of, first_of}
use Rattle.pg_region_paths.specs.pg_ir.Edges.{instrs_of}
use Rattle.pg_region_paths.specs.declared.path.Root.{Root}
use Rattle.pg_region_paths.specs.declared.path.Root.TheVariants as root
use Rattle.pg_region_paths.specs.declared.path.Loads.{Loads}
use Rattle.pg_region_paths.specs.declared.path.Path.{Path}
use Rattle.pg_region_paths.specs.Paths.{loaded, loaded_at, path_with, one_more, rooted, root_path_with, loads_behind}
use Rattle.pg_region_paths.specs.Registers.{value_path, path_by, register_path, is_register, has_pointer, moved}
use Rattle.pg_region_accesses.specs.declared.rooted.Rooted.{Rooted}
use Rattle.pg_region_accesses.specs.Accesses.{RootedList, both, gathered, one_access, with_path, behind_path, behind_argument, called_access, called_accesses, known_accesses, op_accesses}
use Rattle.pg_region_accesses.specs.Accesses.{accesses_from, block_accesses, sets, set_accesses}
use Rattle.pg_region_accesses.specs.Laws.{IsQuiet, IsOutside}
use Rattle.pg_region_paths.proofs.Elements.{only_here, none_in}
use Rattle.pg_region_accesses.proofs.QuietInParts.{gathered_each}

-- both of two lists are there where their sum is
pub parts : (a b : Option RootedList) (ys : RootedList) → both a b ≡ Some ys → (y : RootedList) × (z : RootedList) × (a ≡ Some y) × (b ≡ Some z) × (ys ≡ y ++ z)
parts None b ys q = cc
parts (Some a) None ys q = cc
parts (Some a) (Some b) ys q = let e : a ++ b ≡ ys = cc in (a, b, refl, refl, sym e)

-- ---- which instructions are quiet

not_gated : (b : Bool) (o : Option RootedList) (ys : RootedList) → cond b None o ≡ Some ys → b ≡ false
not_gated true o ys e = cc
not_gated false o ys e = refl

may : (b : Bool) (ys : RootedList) → cond b (Some []) None ≡ Some ys → b ≡ true
may true ys e = refl
may false ys e = cc

called_some : (f : ℕ → Option Path) (args : List Value) (o : Option RootedList) (ys : RootedList) → called_accesses f args o ≡ Some ys → (called : RootedList) × (o ≡ Some called)
called_some f args None ys e = cc
called_some f args (Some called) ys e = (called, refl)

reads_input : (k : LibraryCall) (ys : RootedList) → known_accesses k ≡ Some ys → (k ≡ PgIn) ⊎ (k ≡ PgInLen)
reads_input PgIn ys e = inl refl
reads_input PgInLen ys e = inr refl
reads_input _ ys e = absurd cc

op_quiet : (m : Bool) (gated : ℕ → Bool) (sums : ℕ → Option RootedList) (f : ℕ → Option Path) (i : ℕ) (o : Op) (ys : RootedList) → op_accesses m gated sums f i o ≡ Some ys
    → IsQuiet m gated sums i o
op_quiet m gated sums f i (op.Load w from) ys e = not_gated (gated i) (one_access i false (value_path f from)) ys e
op_quiet m gated sums f i (op.Store w v at) ys e = not_gated (gated i) (one_access i true (value_path f at)) ys e
op_quiet m gated sums f i (op.Call g args) ys e = called_some f args (sums g) ys e
op_quiet m gated sums f i (op.CallLibrary k args) ys e = reads_input k ys e
op_quiet m gated sums f i (op.Alloca bytes) ys e = absurd cc
op_quiet m gated sums f i (op.Ret v) ys e = may m ys e
op_quiet m gated sums f i _ ys e = tt

from_quiet : (m : Bool) (gated : ℕ → Bool) (sums : ℕ → Option RootedList) (is_set : ℕ → Bool) (types : List Scalar) (before : List Instr) (i : ℕ) (xs : List Instr) (ys : RootedList)
    → accesses_from m gated sums is_set types before i xs ≡ Some ys →
    (k : ℕ) (x : Instr) → slice_get xs k ≡ Some x → IsQuiet m gated sums (i + k) x.op
from_quiet m gated sums is_set types before i [] ys e zero x at = absurd cc
from_quiet m gated sums is_set types before i [] ys e (suc k) x at = absurd cc
from_quiet m gated sums is_set types before i (y ∷ xs) ys e zero x at =
    let q : y ≡ x = cc in
    let z : i + 0 ≡ i = omega arith in
    let h = parts (op_accesses m gated sums (register_path is_set types before) i y.op) (accesses_from m gated sums is_set types (y ∷ before) (i + 1) xs) ys e in
    rw z (subst (λ (w : Instr). IsQuiet m gated sums i w.op) q (op_quiet m gated sums (register_path is_set types before) i y.op h.0 h.2))
from_quiet m gated sums is_set types before i (y ∷ xs) ys e (suc k) x at =
    let z : i + suc k ≡ i + 1 + k = omega arith in
    let h = parts (op_accesses m gated sums (register_path is_set types before) i y.op) (accesses_from m gated sums is_set types (y ∷ before) (i + 1) xs) ys e in
    rw z (from_quiet m gated sums is_set types (y ∷ before) (i + 1) xs h.1 h.3 k x at)

pub block_quiet : (m : Bool) (p : NumberedProgram) (gated : ℕ → Bool) (sums : ℕ → Option RootedList) (is_set : ℕ → Bool) (b : ℕ) (ys : RootedList)
    → block_accesses m p gated sums is_set b ≡ Some ys →
    (k : ℕ) (x : Instr) → slice_get (instrs_of p b) k ≡ Some x → IsQuiet m gated sums (first_of p b + k) x.op
unfolding block_accesses
block_quiet m p gated sums is_set b ys e k x at = from_quiet m gated sums is_set (types_of p (function_of p b)) [] (first_of p b) (instrs_of p b) ys e k x at

pub set_quiet : (m : Bool) (p : NumberedProgram) (gated : ℕ → Bool) (sums : ℕ → Option RootedList) (blocks : List ℕ) (ys : RootedList) → set_accesses m p gated sums blocks ≡ Some ys →
    (b k : ℕ) (x : Instr) → Contains blocks b → slice_get (instrs_of p b) k ≡ Some x → IsQuiet m gated sums (first_of p b + k) x.op
set_quiet m p gated sums blocks ys e b k x c at =
    let h = gathered_each (block_accesses m p gated sums (sets p blocks)) blocks ys e b c in
    block_quiet m p gated sums (sets p blocks) b h.0 h.1 k x at

-- ---- where accesses begin

module _ (is_set : ℕ → Bool) where
  abbrev AllOutside : RootedList → Type 0
  AllOutside listed = (a : Rooted) → Contains listed a → IsOutside is_set a.path.root

  abbrev ArePaths : (ℕ → Option Path) → Type 0
  ArePaths f = (r : ℕ) (q : Path) → f r ≡ Some q → IsOutside is_set q.root

  value_outside : (f : ℕ → Option Path) → ArePaths f → (v : Value) (q : Path) → value_path f v ≡ Some q → IsOutside is_set q.root
  value_outside f h (value.Register r) q e = h r q e
  value_outside f h (value.Const n) q e = let t : rooted (root.Const n) ≡ q = cc in subst (λ (z : Path). IsOutside is_set z.root) t tt
  value_outside f h (value.Global n) q e = let t : rooted (root.Global n) ≡ q = cc in subst (λ (z : Path). IsOutside is_set z.root) t tt
  value_outside f h (value.Function n) q e = absurd cc

  moved_outside : (is : List Index) (o : Option Path) → ((q : Path) → o ≡ Some q → IsOutside is_set q.root) → (q : Path) → option_map (moved is) o ≡ Some q → IsOutside is_set q.root
  moved_outside is None h q e = absurd cc
  moved_outside is (Some p) h q e = let t : moved is p ≡ q = cc in subst (λ (z : Path). IsOutside is_set z.root) t (h p refl)

  with_outside : (r : Root) (o : Option Loads) (q : Path) → IsOutside is_set r → path_with r o ≡ Some q → IsOutside is_set q.root
  with_outside r None q h e = absurd cc
  with_outside r (Some l) q h e = let t : record { root = r; loads = l; added = Some 0 } ≡ q = cc in subst (λ (z : Path). IsOutside is_set z.root) t h

  loaded_outside : (p : Path) (o : Option ℕ) (q : Path) → IsOutside is_set p.root → loaded_at p o ≡ Some q → IsOutside is_set q.root
  loaded_outside p None q h e = absurd cc
  loaded_outside p (Some k) q h e = with_outside p.root (one_more p.loads k) q h e

  load_outside : (o : Option Path) → ((q : Path) → o ≡ Some q → IsOutside is_set q.root) → (q : Path) → option_and_then loaded o ≡ Some q → IsOutside is_set q.root
  load_outside None h q e = absurd cc
  load_outside (Some p) h q e = loaded_outside p p.added q (h p refl) e

  by_outside : (f : ℕ → Option Path) → ArePaths f → (b : Bool) (o : Op) (q : Path) → path_by f b o ≡ Some q → IsOutside is_set q.root
  by_outside f h b (op.Gep base is) q e = moved_outside is (value_path f base) (value_outside f h base) q e
  by_outside f h true (op.Load w from) q e = load_outside (value_path f from) (value_outside f h from) q e
  by_outside f h false (op.Load w from) q e = absurd cc
  by_outside f h b _ q e = absurd cc

  root_outside : (r : ℕ) (b : Bool) → is_set r ≡ b → (q : Path) → cond b None (Some (rooted (root.Register r))) ≡ Some q → IsOutside is_set q.root
  root_outside r true s q e = absurd cc
  root_outside r false s q e = let t : rooted (root.Register r) ≡ q = cc in subst (λ (z : Path). IsOutside is_set z.root) t s

  register_outside : (types : List Scalar) (before : List Instr) → ArePaths (register_path is_set types before)
  register_outside types [] r q e = root_outside r (is_set r) refl q e
  register_outside types (x ∷ before) r q e = go (register_outside types before) (is_register x.result r) e
    where
      go : ArePaths (register_path is_set types before) → (b : Bool)
          → cond b (path_by (register_path is_set types before) (has_pointer types x.result) x.op) (register_path is_set types before r) ≡ Some q → IsOutside is_set q.root
      go h true k = by_outside (register_path is_set types before) h (has_pointer types x.result) x.op q k
      go h false k = h r q k

  none_outside : (ys : RootedList) → Some [] ≡ Some ys → AllOutside ys
  none_outside ys e a c = let t : [] ≡ ys = cc in absurd (none_in a (subst (λ (z : RootedList). Contains z a) (sym t) c))

  single_outside : (x : Rooted) (ys : RootedList) → Some (x ∷ []) ≡ Some ys → IsOutside is_set x.path.root → AllOutside ys
  single_outside x ys e h a c =
      let t : x ∷ [] ≡ ys = cc in
      let q : x ≡ a = only_here x a (subst (λ (z : RootedList). Contains z a) (sym t) c) in
      subst (λ (z : Rooted). IsOutside is_set z.path.root) q h

  access_outside : (i : ℕ) (w : Bool) (o : Option Path) → ((q : Path) → o ≡ Some q → IsOutside is_set q.root) → (ys : RootedList) → one_access i w o ≡ Some ys → AllOutside ys
  access_outside i w None h ys e = absurd cc
  access_outside i w (Some p) h ys e = single_outside _ ys e (h p refl)

  both_outside : (a b : Option RootedList) → ((ys : RootedList) → a ≡ Some ys → AllOutside ys) → ((ys : RootedList) → b ≡ Some ys → AllOutside ys) → (ys : RootedList)
      → both a b ≡ Some ys → AllOutside ys
  both_outside a b h k ys e x c = go (Contains-append_cases s.0 s.1 x (subst (λ (z : RootedList). Contains z x) s.4 c))
    where
      s : (y : RootedList) × (z : RootedList) × (a ≡ Some y) × (b ≡ Some z) × (ys ≡ y ++ z)
      s = parts a b ys e

      go : Contains s.0 x ⊎ Contains s.1 x → IsOutside is_set x.path.root
      go (inl d) = h s.0 s.2 x d
      go (inr d) = k s.1 s.3 x d

  gathered_outside : {A : Type 0} (f : A → Option RootedList) (xs : List A) → ((x : A) (ys : RootedList) → f x ≡ Some ys → AllOutside ys) → (ys : RootedList)
      → gathered f xs ≡ Some ys → AllOutside ys
  gathered_outside f [] h ys e = none_outside ys e
  gathered_outside f (x ∷ xs) h ys e = both_outside (f x) (gathered f xs) (h x) (gathered_outside f xs h) ys e

  path_outside : (a : Rooted) (r : Root) (o : Option Loads) (ys : RootedList) → IsOutside is_set r → with_path a (root_path_with r o) ≡ Some ys → AllOutside ys
  path_outside a r None ys h e = absurd cc
  path_outside a r (Some l) ys h e = single_outside _ ys e h

  behind_outside : (a : Rooted) (o : Option Path) → ((q : Path) → o ≡ Some q → IsOutside is_set q.root) → (ys : RootedList) → behind_path a o ≡ Some ys → AllOutside ys
  behind_outside a None h ys e = absurd cc
  behind_outside a (Some p) h ys e = path_outside a p.root (loads_behind p.loads p.added a.path.loads) ys (h p refl) e

  argument_outside : (f : ℕ → Option Path) → ArePaths f → (a : Rooted) (o : Option Value) (ys : RootedList) → behind_argument f a o ≡ Some ys → AllOutside ys
  argument_outside f h a None ys e = absurd cc
  argument_outside f h a (Some v) ys e = behind_outside a (value_path f v) (value_outside f h v) ys e

  called_outside : (f : ℕ → Option Path) → ArePaths f → (args : List Value) (a : Rooted) (r : Root) → a.path.root ≡ r → (ys : RootedList) → called_access f args a r ≡ Some ys
      → AllOutside ys
  called_outside f h args a (root.Param k) q ys e = argument_outside f h a (slice_get args k) ys e
  called_outside f h args a (root.Register k) q ys e = absurd cc
  called_outside f h args a (root.Global k) q ys e = single_outside a ys e (subst (λ (z : Root). IsOutside is_set z) (sym q) tt)
  called_outside f h args a (root.Const k) q ys e = single_outside a ys e (subst (λ (z : Root). IsOutside is_set z) (sym q) tt)

  summary_outside : (f : ℕ → Option Path) → ArePaths f → (args : List Value) (o : Option RootedList) (ys : RootedList) → called_accesses f args o ≡ Some ys → AllOutside ys
  summary_outside f h args None ys e = absurd cc
  summary_outside f h args (Some xs) ys e = gathered_outside (λ (a : Rooted). called_access f args a a.path.root) xs (λ a zs q. called_outside f h args a a.path.root refl zs q) ys e

  gated_outside : (b : Bool) (o : Option RootedList) → ((ys : RootedList) → o ≡ Some ys → AllOutside ys) → (ys : RootedList) → cond b None o ≡ Some ys → AllOutside ys
  gated_outside true o h ys e = absurd cc
  gated_outside false o h ys e = h ys e

  known_outside : (k : LibraryCall) (ys : RootedList) → known_accesses k ≡ Some ys → AllOutside ys
  known_outside PgIn ys e = none_outside ys e
  known_outside PgInLen ys e = none_outside ys e
  known_outside _ ys e = absurd cc

  return_outside : (b : Bool) (ys : RootedList) → cond b (Some []) None ≡ Some ys → AllOutside ys
  return_outside true ys e = none_outside ys e
  return_outside false ys e = absurd cc

  op_outside : (m : Bool) (gated : ℕ → Bool) (sums : ℕ → Option RootedList) (f : ℕ → Option Path) → ArePaths f → (i : ℕ) (o : Op) (ys : RootedList)
      → op_accesses m gated sums f i o ≡ Some ys → AllOutside ys
  op_outside m gated sums f h i (op.Load w from) ys e = gated_outside (gated i) (one_access i false (value_path f from)) (access_outside i false (value_path f from) (value_outside f h from)) ys e
  op_outside m gated sums f h i (op.Store w v at) ys e = gated_outside (gated i) (one_access i true (value_path f at)) (access_outside i true (value_path f at) (value_outside f h at)) ys e
  op_outside m gated sums f h i (op.Call g args) ys e = summary_outside f h args (sums g) ys e
  op_outside m gated sums f h i (op.CallLibrary k args) ys e = known_outside k ys e
  op_outside m gated sums f h i (op.Alloca bytes) ys e = absurd cc
  op_outside m gated sums f h i (op.Ret v) ys e = return_outside m ys e
  op_outside m gated sums f h i _ ys e = none_outside ys e

  from_outside : (m : Bool) (gated : ℕ → Bool) (sums : ℕ → Option RootedList) (types : List Scalar) (before : List Instr) (i : ℕ) (xs : List Instr) (ys : RootedList)
      → accesses_from m gated sums is_set types before i xs ≡ Some ys → AllOutside ys
  from_outside m gated sums types before i [] ys e = none_outside ys e
  from_outside m gated sums types before i (x ∷ xs) ys e =
      both_outside (op_accesses m gated sums (register_path is_set types before) i x.op) (accesses_from m gated sums is_set types (x ∷ before) (i + 1) xs)
      (op_outside m gated sums (register_path is_set types before) (register_outside types before) i x.op)
      (from_outside m gated sums types (x ∷ before) (i + 1) xs) ys e

block_outside : (is_set : ℕ → Bool) (m : Bool) (p : NumberedProgram) (gated : ℕ → Bool) (sums : ℕ → Option RootedList) (b : ℕ) (ys : RootedList)
    → block_accesses m p gated sums is_set b ≡ Some ys → (a : Rooted) → Contains ys a → IsOutside is_set a.path.root
unfolding block_accesses
block_outside is_set m p gated sums b ys e = from_outside is_set m gated sums (types_of p (function_of p b)) [] (first_of p b) (instrs_of p b) ys e

pub set_outside : (m : Bool) (p : NumberedProgram) (gated : ℕ → Bool) (sums : ℕ → Option RootedList) (blocks : List ℕ) (ys : RootedList)
    → set_accesses m p gated sums blocks ≡ Some ys → (a : Rooted) → Contains ys a → IsOutside (sets p blocks) a.path.root
set_outside m p gated sums blocks ys e = gathered_outside (sets p blocks) (block_accesses m p gated sums (sets p blocks)) blocks (λ b zs q. block_outside (sets p blocks) m p gated sums b zs q) ys e
