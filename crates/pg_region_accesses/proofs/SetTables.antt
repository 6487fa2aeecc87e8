-- Sets of registers as tables.
use Rattle.std.proofs.Common.{◌≡◌, ℕ, zero, suc, ◌+◌, ◌<◌, ◌≤◌, ◌||◌, Bool, true, false, List, [], ◌∷◌, ◌++◌, length, get_or, take, drop, replicate, Some}
use Rattle.std.proofs.Common.{None, refl, sym, ap, ◌∙◌, subst, arith, inl, inr, ◌⊎◌, get_or-set_same, get_or-set_other}
use Rattle.std.specs.List.{list_any}
use Rattle.std.proofs.Math.ListN.{set}
use Rattle.std.proofs.lemmas.Bool.{cases_eq, cases_lt, eq-eqb, ne_eqb}
use Rattle.std.proofs.lemmas.List.{take_more, length-replicate, get_or-replicate, get_or_past}
use Rattle.std.specs.Prelude.{slice_get}
use Rattle.pg_region_paths.specs.pg_ir.declared.function.Block.{Block}
use Rattle.pg_region_paths.specs.pg_ir.declared.instr.Instr.{Instr}
use Rattle.pg_region_paths.specs.pg_ir.Program.{NumberedProgram}
use Rattle.pg_region_paths.specs.pg_ir.Edges.{instrs_of}
use Rattle.pg_region_paths.specs.Registers.{is_register}
use Rattle.pg_region_accesses.specs.Accesses.{block_sets}
use Rattle.pg_region_accesses.specs.Tables.{in_table}
use Rattle.pg_region_accesses.proofs.BlockInstructions.{get_take, instrs_end}

pub added_none : (table : List Bool) (r : ℕ) → in_table table r ≡ (is_register None r || in_table table r)
added_none table r = refl

pub added_one : (table : List Bool) (s r : ℕ) → s < length table → in_table (set table s true) r ≡ (is_register (Some s) r || in_table table r)
added_one table s r lt = go (cases_eq s r)
  where
    go : (s ≡ r) ⊎ (s ≡ r → ⊥) → in_table (set table s true) r ≡ (is_register (Some s) r || in_table table r)
    go (inl e) = rw (eq-eqb s r e) (subst (λ (z : ℕ). in_table (set table s true) z ≡ true) e (get_or-set_same table s true false lt))
    go (inr ne) = rw (ne_eqb s r ne) (get_or-set_other table s r true false (λ e. ne (sym e)))

or_assoc : (a b c : Bool) → ((a || b) || c) ≡ (a || (b || c))
or_assoc true b c = refl
or_assoc false b c = refl

or_swap : (a b c : Bool) → (a || (b || c)) ≡ (b || (a || c))
or_swap true true c = refl
or_swap true false c = refl
or_swap false true c = refl
or_swap false false c = refl

any_push : {A : Type 0} (f : A → Bool) (xs : List A) (x : A) → list_any f (xs ++ x ∷ []) ≡ (f x || list_any f xs)
any_push f [] x = refl
any_push f (y ∷ xs) x = ap (λ b. f y || b) (any_push f xs x) ∙ or_swap (f y) (f x) (list_any f xs)

-- one element more is taken
pub any_more : {A : Type 0} (f : A → Bool) (xs : List A) (i : ℕ) (d : A) → i < length xs → list_any f (take (i + 1) xs) ≡ (f (get_or xs i d) || list_any f (take i xs))
any_more f xs i d lt = rw (take_more xs i d lt) (any_push f (take i xs) (get_or xs i d))

pub or_more : (f x old new rest : Bool) → new ≡ (f || old) → old ≡ (x || rest) → new ≡ ((f || x) || rest)
or_more f x old new rest h k = h ∙ ap (λ b. f || b) k ∙ sym (or_assoc f x rest)

pub nothing_in : (n r : ℕ) → in_table (replicate n false) r ≡ false
nothing_in n r = go (cases_lt r n)
  where
    go : (r < n) ⊎ (n ≤ r) → in_table (replicate n false) r ≡ false
    go (inl lt) = get_or-replicate n r false false lt
    go (inr le) = get_or_past (replicate n false) r false (omega (arith, length-replicate n false, le))

-- ---- the registers that a block sets

-- one instruction more is passed
pub set_more : (xs : List Instr) (k : ℕ) (x : Instr) (r : ℕ) (old new rest : Bool) → slice_get xs k ≡ Some x → new ≡ (is_register x.result r || old)
    → old ≡ (list_any (λ (y : Instr). is_register y.result r) (take k xs) || rest) →
    new ≡ (list_any (λ (y : Instr). is_register y.result r) (take (k + 1) xs) || rest)
set_more xs k x r old new rest e h q =
    let t : list_any (λ (y : Instr). is_register y.result r) (take (k + 1) xs) ≡ (is_register x.result r || list_any (λ (y : Instr). is_register y.result r) (take k xs)) =
    ap (λ (l : List Instr). list_any (λ (y : Instr). is_register y.result r) l) (get_take xs k x e) ∙ any_push (λ (y : Instr). is_register y.result r) (take k xs) x in
    or_more (is_register x.result r) (list_any (λ (y : Instr). is_register y.result r) (take k xs)) old new rest h q ∙ ap (λ b. b || rest) (sym t)

take_all : (xs : List Instr) (k : ℕ) → drop k xs ≡ [] → take k xs ≡ xs
take_all [] zero e = refl
take_all [] (suc k) e = refl
take_all (x ∷ xs) zero e = absurd cc
take_all (x ∷ xs) (suc k) e = ap (λ l. x ∷ l) (take_all xs k e)

pub sets_all : (p : NumberedProgram) (b : ℕ) (block : Block) (k r : ℕ) → slice_get p.blocks b ≡ Some block → block.count ≤ k
    → list_any (λ (y : Instr). is_register y.result r) (take k (instrs_of p b)) ≡ block_sets p r b
unfolding block_sets
sets_all p b block k r e le = ap (λ (l : List Instr). list_any (λ (y : Instr). is_register y.result r) l) (take_all (instrs_of p b) k (instrs_end p b block k e le))
