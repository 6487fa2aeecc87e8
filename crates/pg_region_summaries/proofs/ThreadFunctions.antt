-- The functions that creates name, as a table.
use Rattle.std.proofs.Common.{◌≡◌, ℕ, zero, suc, ◌+◌, ◌≤◌, ◌||◌, Bool, true, false, List, [], ◌∷◌, length, take, Option, Some, None, refl, sym, ap, ◌∙◌, arith}
use Rattle.std.specs.Prelude.{slice_get}
use Rattle.std.specs.List.{list_any}
use Rattle.std.proofs.lemmas.Bool.{eq-eqb, eqb-true}
use Rattle.pg_ir.specs.declared.library_call.LibraryCall.{LibraryCall}
use Rattle.pg_ir.specs.declared.library_call.LibraryCall.TheVariants.{PthreadCreate}
use Rattle.pg_ir.specs.declared.value.Value.{Value}
use Rattle.pg_ir.specs.declared.value.Value.TheVariants as value
use Rattle.pg_ir.specs.declared.instr.Instr.{Instr}
use Rattle.pg_ir.specs.declared.instr.Op.{Op}
use Rattle.pg_ir.specs.declared.instr.Op.TheVariants as op
use Rattle.pg_ir.specs.Program.{NumberedProgram}
use Rattle.pg_region_paths.specs.Registers.{is_register}
use Rattle.pg_region_summaries.specs.Calls.{IsStarted, NamesStarted}
use Rattle.pg_region_summaries.specs.Creates.{named, op_starts, is_started}

or_swap : (a b c : Bool) → (a || (b || c)) ≡ (b || (a || c))
or_swap true true c = refl
or_swap true false c = refl
or_swap false true c = refl
or_swap false false c = refl

or_false : (b : Bool) → (b || false) ≡ b
or_false true = refl
or_false false = refl

any_more : (f : Instr → Bool) (xs : List Instr) (i : ℕ) (x : Instr) → slice_get xs i ≡ Some x → list_any f (take (i + 1) xs) ≡ (f x || list_any f (take i xs))
any_more f [] zero x e = absurd cc
any_more f [] (suc i) x e = absurd cc
any_more f (y ∷ xs) zero x e = let q : y ≡ x = cc in ap (λ (z : Instr). f z || false) q
any_more f (y ∷ xs) (suc i) x e = let q : suc i + 1 ≡ suc (i + 1) = omega arith in rw q (ap (λ b. f y || b) (any_more f xs i x e) ∙ or_swap (f y) (f x) (list_any f (take i xs)))

-- one instruction more
pub started_more : (xs : List Instr) (i f : ℕ) (x : Instr) (old new : Bool) → slice_get xs i ≡ Some x → old ≡ list_any (λ (z : Instr). is_register (op_starts z.op) f) (take i xs)
    → new ≡ (is_register (op_starts x.op) f || old) →
    new ≡ list_any (λ (z : Instr). is_register (op_starts z.op) f) (take (i + 1) xs)
started_more xs i f x old new e h k = k ∙ ap (λ b. is_register (op_starts x.op) f || b) h ∙ sym (any_more (λ (z : Instr). is_register (op_starts z.op) f) xs i x e)

-- ---- what the table says

any_at : (f : Instr → Bool) (xs : List Instr) (k : ℕ) (x : Instr) → slice_get xs k ≡ Some x → f x ≡ true → list_any f xs ≡ true
any_at f [] zero x e h = absurd cc
any_at f [] (suc k) x e h = absurd cc
any_at f (y ∷ xs) zero x e h = let q : y ≡ x = cc in let t : f y ≡ true = ap f q ∙ h in rw t refl
any_at f (y ∷ xs) (suc k) x e h = let t : list_any f xs ≡ true = any_at f xs k x e h in or_right (f y) (list_any f xs) t
  where
    or_right : (a b : Bool) → b ≡ true → (a || b) ≡ true
    or_right true b q = refl
    or_right false b q = q

any_some : (f : Instr → Bool) (xs : List Instr) → list_any f xs ≡ true → (k : ℕ) × (x : Instr) × (slice_get xs k ≡ Some x) × (f x ≡ true)
any_some f [] e = absurd cc
any_some f (y ∷ xs) e = go (f y) refl e (λ q. any_some f xs q)
  where
    go : (b : Bool) → f y ≡ b → (b || list_any f xs) ≡ true → (list_any f xs ≡ true → (k : ℕ) × (x : Instr) × (slice_get xs k ≡ Some x) × (f x ≡ true))
        → (k : ℕ) × (x : Instr) × (slice_get (y ∷ xs) k ≡ Some x) × (f x ≡ true)
    go true q t h = (0, y, refl, q)
    go false q t h = let r = h t in (suc r.0, r.1, r.2, r.3)

known_names : (f : ℕ) (k : LibraryCall) (args : List Value) → NamesStarted f (op.CallLibrary k args) → is_register (op_starts (op.CallLibrary k args)) f ≡ true
known_names f PthreadCreate args e = rw e (eq-eqb f f refl)
known_names f _ args e = absurd e

names : (f : ℕ) (o : Op) → NamesStarted f o → is_register (op_starts o) f ≡ true
names f (op.CallLibrary k args) e = known_names f k args e
names f _ e = absurd e

value_named : (f : ℕ) (o : Option Value) → is_register (named o) f ≡ true → o ≡ Some (value.Function f)
value_named f None e = absurd cc
value_named f (Some (value.Function g)) e = ap (λ z. Some (value.Function z)) (eqb-true g f e)
value_named f (Some (value.Register r)) e = absurd cc
value_named f (Some (value.Const n)) e = absurd cc
value_named f (Some (value.Global g)) e = absurd cc

known_named : (f : ℕ) (k : LibraryCall) (args : List Value) → is_register (op_starts (op.CallLibrary k args)) f ≡ true → NamesStarted f (op.CallLibrary k args)
known_named f PthreadCreate args e = value_named f (slice_get args 2) e
known_named f _ args e = absurd cc

op_named : (f : ℕ) (o : Op) → is_register (op_starts o) f ≡ true → NamesStarted f o
op_named f (op.CallLibrary k args) e = known_named f k args e
op_named f _ e = absurd cc

pub started_true : (p : NumberedProgram) (f : ℕ) → IsStarted p f → is_started p f ≡ true
unfolding is_started
started_true p f s = any_at (λ (x : Instr). is_register (op_starts x.op) f) p.instrs s.at s.instr s.is (names f s.instr.op s.names)

pub true_started : (p : NumberedProgram) (f : ℕ) → is_started p f ≡ true → IsStarted p f
unfolding is_started
true_started p f e = let r = any_some (λ (x : Instr). is_register (op_starts x.op) f) p.instrs e in record { at = r.0; instr = r.1; is = r.2; names = op_named f r.1.op r.3 }

pub started_all : (p : NumberedProgram) (i f : ℕ) (t : Bool) → length p.instrs ≤ i → t ≡ list_any (λ (z : Instr). is_register (op_starts z.op) f) (take i p.instrs) → t ≡ is_started p f
unfolding is_started
started_all p i f t le h = h ∙ ap (list_any (λ (z : Instr). is_register (op_starts z.op) f)) (all p.instrs i le)
  where
    all : (xs : List Instr) (i : ℕ) → length xs ≤ i → take i xs ≡ xs
    all [] zero le = refl
    all [] (suc i) le = refl
    all (x ∷ xs) zero le = absurd (omega (arith, le))
    all (x ∷ xs) (suc i) le = ap (λ l. x ∷ l) (all xs i (omega (arith, le)))
