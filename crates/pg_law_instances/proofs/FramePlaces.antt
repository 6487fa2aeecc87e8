-- Where frames of an instance stand: the instruction, what it accesses, and the registers that are set.
use Rattle.std.proofs.Common.{◌≡◌, ℕ, zero, suc, ◌+◌, Bool, true, false, List, [], ◌∷◌, ◌++◌, Option, Some, None, refl, sym, ap, ◌∙◌, subst, arith, inl, inr, ◌⊎◌}
use Rattle.std.specs.Prelude.{Contains, slice_get, slice_set}
use Rattle.std.specs.List.{list_any}
use Rattle.std.proofs.lemmas.Bool.{eqb-true, eqb-false, true≢false}
use Rattle.std.proofs.lemmas.List.Elements.{Contains-append_left, Contains-append_right}
use Rattle.pg_ir.specs.declared.value.Scalar.{Scalar}
use Rattle.pg_ir.specs.declared.instr.Instr.{Instr}
use Rattle.pg_ir.specs.Program.{NumberedProgram, types_of, function_of, first_of}
use Rattle.pg_ir.specs.Edges.{instrs_of}
use Rattle.pg_ir.specs.WellFormed.{IsProgram, IsInBlock}
use Rattle.pg_ir.proofs.FunctionPlaces.{block_held}
use Rattle.pg_region_paths.specs.Registers.{is_register, register_path}
use Rattle.pg_region_accesses.specs.declared.rooted.Rooted.{Rooted}
use Rattle.pg_region_accesses.specs.Accesses.{RootedList, gathered, op_accesses, accesses_from, block_accesses, block_sets, sets}
use Rattle.pg_region_paths.proofs.Elements.{here, there, cases, none_in}
use Rattle.pg_region_accesses.proofs.QuietInstructions.{parts}
use Rattle.pg_region_summaries.proofs.InstructionPlaces.{stands}
use Rattle.pg_run.proofs.Threads.{set_other}
use Rattle.pg_run_thread.specs.LocalState.{Frame}
use Rattle.pg_run_thread.specs.Operands.{flat}
use Rattle.pg_run_thread.specs.EdgeStep.{set_register}
use Rattle.pg_law_instances.specs.Leads.{Leads}
use Rattle.pg_law_instances.specs.Inside.{Instance, QuietSet, IsQuietSet, StandsIn, passed, registers_by}

-- ---- lists

pub some_of : {A : Type 0} (f : A → Bool) (xs : List A) (x : A) → Contains xs x → f x ≡ true → list_any f xs ≡ true
some_of f [] x c e = absurd (none_in x c)
some_of f (y ∷ xs) x c e = go (f y) refl (cases y xs x c) (λ d. some_of f xs x d e)
  where
    go : (b : Bool) → f y ≡ b → (y ≡ x) ⊎ Contains xs x → (Contains xs x → list_any f xs ≡ true) → list_any f (y ∷ xs) ≡ true
    go true q d k = rw q refl
    go false q (inl t) k = absurd (true≢false (sym e ∙ ap f (sym t) ∙ q))
    go false q (inr d) k = rw q (k d)

pub got_among : {A : Type 0} (xs : List A) (k : ℕ) (x : A) → slice_get xs k ≡ Some x → Contains xs x
got_among [] zero x e = absurd cc
got_among [] (suc k) x e = absurd cc
got_among (y ∷ xs) zero x e = let q : y ≡ x = cc in subst (λ z. Contains (y ∷ xs) z) q (here y xs)
got_among (y ∷ xs) (suc k) x e = there y xs x (got_among xs k x e)

-- ---- instructions

-- the instruction of a frame in its block
pub at_block : (I : Instance) (a : QuietSet) (f : Frame) (x : Instr) → IsProgram I.program → (s : StandsIn I a f) → slice_get I.program.instrs f.place ≡ Some x
    → (x.block.0 ≡ s.block) × (slice_get (instrs_of I.program s.block) s.behind ≡ Some x)
at_block I a f x program s e = (same, got)
  where
    in_block : (o : Option Instr) → o ≡ Some x → IsInBlock s.block o → x.block.0 ≡ s.block
    in_block None q h = absurd h
    in_block (Some y) q h = let t : y ≡ x = cc in subst (λ (z : Instr). z.block.0 ≡ s.block) t h

    same : x.block.0 ≡ s.block
    same = in_block (slice_get I.program.instrs f.place) e (block_held I.program s.block f.place program (omega (arith, s.place)) s.within)

    got : slice_get (instrs_of I.program s.block) s.behind ≡ Some x
    got =
        let k = stands I.program f.place x program e in
        let first : first_of I.program x.block.0 ≡ first_of I.program s.block = ap (first_of I.program) same in
        let n : k.0 ≡ s.behind = omega (arith, k.1, s.place, first) in
        subst (λ (b : ℕ). slice_get (instrs_of I.program b) s.behind ≡ Some x) same (subst (λ (j : ℕ). slice_get (instrs_of I.program x.block.0) j ≡ Some x) n k.2)

pub passed_more : (before xs : List Instr) (k : ℕ) (x : Instr) → slice_get xs k ≡ Some x → passed before xs (suc k) ≡ x ∷ passed before xs k
passed_more before [] zero x e = absurd cc
passed_more before [] (suc k) x e = absurd cc
passed_more before (y ∷ xs) zero x e = let q : y ≡ x = cc in ap (λ (z : Instr). z ∷ before) q
passed_more before (y ∷ xs) (suc k) x e = passed_more (y ∷ before) xs k x e

-- ---- accesses

-- what one of them accesses, of what they access together
pub gathered_part : {A : Type 0} (f : A → Option RootedList) (xs : List A) (listed : RootedList) (x : A) → gathered f xs ≡ Some listed → Contains xs x
    → (ys : RootedList) × (f x ≡ Some ys) × ((y : Rooted) → Contains ys y → Contains listed y)
gathered_part f [] listed x e c = absurd (none_in x c)
gathered_part {A} f (z ∷ zs) listed x e c = go (parts (f z) (gathered f zs) listed e) (cases z zs x c) (λ l q d. gathered_part f zs l x q d)
  where
    go : (y : RootedList) × (r : RootedList) × (f z ≡ Some y) × (gathered f zs ≡ Some r) × (listed ≡ y ++ r) → (z ≡ x) ⊎ Contains zs x →
        ((l : RootedList) → gathered f zs ≡ Some l → Contains zs x → (ys : RootedList) × (f x ≡ Some ys) × ((y : Rooted) → Contains ys y → Contains l y)) →
        (ys : RootedList) × (f x ≡ Some ys) × ((y : Rooted) → Contains ys y → Contains listed y)
    go h (inl q) more = (h.0, subst (λ (w : A). f w ≡ Some h.0) q h.2, λ y d. subst (λ (l : RootedList). Contains l y) (sym h.4) (Contains-append_left h.0 h.1 y d))
    go h (inr d) more = let r = more h.1 h.3 d in (r.0, r.1, λ y k. subst (λ (l : RootedList). Contains l y) (sym h.4) (Contains-append_right h.0 h.1 y (r.2 y k)))

-- of what a block's instructions access, what one of them does
pub accesses_at : (m : Bool) (gated : ℕ → Bool) (sums : ℕ → Option RootedList) (is_set : ℕ → Bool) (types : List Scalar) (before : List Instr) (i : ℕ) (xs : List Instr)
    (ys : RootedList) (k : ℕ) (x : Instr) → accesses_from m gated sums is_set types before i xs ≡ Some ys → slice_get xs k ≡ Some x →
    (zs : RootedList) × (op_accesses m gated sums (register_path is_set types (passed before xs k)) (i + k) x.op ≡ Some zs) × ((z : Rooted) → Contains zs z → Contains ys z)
accesses_at m gated sums is_set types before i [] ys zero x e at = absurd cc
accesses_at m gated sums is_set types before i [] ys (suc k) x e at = absurd cc
accesses_at m gated sums is_set types before i (y ∷ xs) ys zero x e at =
    let q : y ≡ x = cc in
    let n : i + 0 ≡ i = omega arith in
    let h = parts (op_accesses m gated sums (register_path is_set types before) i y.op) (accesses_from m gated sums is_set types (y ∷ before) (i + 1) xs) ys e in (
      h.0,
      rw n (subst (λ (z : Instr). op_accesses m gated sums (register_path is_set types before) i z.op ≡ Some h.0) q h.2),
      λ z c. subst (λ (l : RootedList). Contains l z) (sym h.4) (Contains-append_left h.0 h.1 z c),
    )
accesses_at m gated sums is_set types before i (y ∷ xs) ys (suc k) x e at =
    let n : i + suc k ≡ i + 1 + k = omega arith in
    let h = parts (op_accesses m gated sums (register_path is_set types before) i y.op) (accesses_from m gated sums is_set types (y ∷ before) (i + 1) xs) ys e in
    let r = accesses_at m gated sums is_set types (y ∷ before) (i + 1) xs h.1 k x h.3 at in
    (r.0, rw n r.1, λ z c. subst (λ (l : RootedList). Contains l z) (sym h.4) (Contains-append_right h.0 h.1 z (r.2 z c)))

pub block_accesses_at : (m : Bool) (p : NumberedProgram) (gated : ℕ → Bool) (sums : ℕ → Option RootedList) (is_set : ℕ → Bool) (b : ℕ) (ys : RootedList) (k : ℕ) (x : Instr)
    → block_accesses m p gated sums is_set b ≡ Some ys → slice_get (instrs_of p b) k ≡ Some x →
    (zs : RootedList) × (op_accesses m gated sums (register_path is_set (types_of p (function_of p b)) (passed [] (instrs_of p b) k)) (first_of p b + k) x.op ≡ Some zs)
    × ((z : Rooted) → Contains zs z → Contains ys z)
unfolding block_accesses
block_accesses_at m p gated sums is_set b ys k x e at = accesses_at m gated sums is_set (types_of p (function_of p b)) [] (first_of p b) (instrs_of p b) ys k x e at

-- what the instruction of a frame accesses leads to recorded bounds
pub quiet_at : (I : Instance) (a : QuietSet) (f : Frame) (x : Instr) → IsProgram I.program → IsQuietSet I a → (s : StandsIn I a f) → slice_get I.program.instrs f.place ≡ Some x →
    (zs : RootedList) × (op_accesses a.returns I.gated I.sums
    (register_path (sets I.program a.blocks) (types_of I.program (function_of I.program s.block)) (passed [] (instrs_of I.program s.block) s.behind)) f.place x.op ≡ Some zs)
    × ((z : Rooted) → Contains zs z → Leads I.program a.registers I.memory I.recorded z)
quiet_at I a f x program q s e =
    let at = at_block I a f x program s e in
    let b = gathered_part (block_accesses a.returns I.program I.gated I.sums (sets I.program a.blocks)) a.blocks a.accesses s.block q.quiet s.among in
    let i = block_accesses_at a.returns I.program I.gated I.sums (sets I.program a.blocks) s.block b.0 s.behind x b.1 at.1 in (
      i.0,
      subst (λ (n : ℕ). op_accesses a.returns I.gated I.sums
          (register_path (sets I.program a.blocks) (types_of I.program (function_of I.program s.block)) (passed [] (instrs_of I.program s.block) s.behind)) n x.op ≡ Some i.0) (sym s.place) i.1,
      λ z c. q.leads z (b.2 z (i.2 z c)),
    )

-- ---- registers

pub sets_here : (p : NumberedProgram) (blocks : List ℕ) (b k r : ℕ) (x : Instr) → Contains blocks b → slice_get (instrs_of p b) k ≡ Some x → is_register x.result r ≡ true
    → sets p blocks r ≡ true
unfolding block_sets
sets_here p blocks b k r x c at e = some_of (block_sets p r) blocks b c (some_of (λ (y : Instr). is_register y.result r) (instrs_of p b) x (got_among (instrs_of p b) k x at) e)

set_own : (rs : List (Option ℕ)) (s : ℕ) (v : Option ℕ) (w : ℕ) → flat (slice_get (slice_set rs s v) s) ≡ Some w → v ≡ Some w
set_own [] zero v w e = absurd cc
set_own [] (suc s) v w e = absurd cc
set_own (x ∷ rs) zero v w e = e
set_own (x ∷ rs) (suc s) v w e = set_own rs s v w e

pub other_register : (rs : List (Option ℕ)) (target : Option ℕ) (v : Option ℕ) (r : ℕ) → is_register target r ≡ false → registers_by (set_register rs target v) r ≡ registers_by rs r
other_register rs None v r e = refl
other_register rs (Some s) v r e = ap flat (set_other rs s r v (λ q. eqb-false s r e (sym q)))

pub own_register : (rs : List (Option ℕ)) (target : Option ℕ) (v : Option ℕ) (r w : ℕ) → is_register target r ≡ true → registers_by (set_register rs target v) r ≡ Some w
    → v ≡ Some w
own_register rs None v r w e h = absurd cc
own_register rs (Some s) v r w e h = let q : s ≡ r = eqb-true s r e in set_own rs s v w (subst (λ (z : ℕ). flat (slice_get (slice_set rs s v) z) ≡ Some w) (sym q) h)
