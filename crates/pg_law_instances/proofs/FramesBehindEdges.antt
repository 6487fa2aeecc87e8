-- A frame of an instance behind an edge: at a block of its set, or at the join.
use Rattle.std.proofs.Common.{◌≡◌, ℕ, zero, suc, ◌+◌, ◌-◌, ◌<◌, ◌≤◌, Bool, true, false, cond, List, [], ◌∷◌, length, map, take, Option, Some, None, IsTrue}
use Rattle.std.proofs.Common.{refl, sym, ap, ◌∙◌, subst, arith, inl, inr, ◌⊎◌}
use Rattle.std.specs.Prelude.{Contains, slice_get, ◌||◌, ◌==◌, if◌then◌else◌}
use Rattle.std.specs.List.{list_any, take_while, prefix_len}
use Rattle.std.proofs.lemmas.Bool.{true≢false, cases_lt}
use Rattle.std.proofs.lemmas.List.Elements.{All-from_recursion, All-contains}
use Rattle.pg_ir.specs.declared.edge.Case.{Case}
use Rattle.pg_ir.specs.declared.value.Scalar.{Scalar}
use Rattle.pg_ir.specs.declared.instr.Instr.{Instr}
use Rattle.pg_ir.specs.declared.instr.Op.{Op}
use Rattle.pg_ir.specs.declared.instr.Op.TheVariants as op
use Rattle.pg_ir.specs.Program.{NumberedProgram, types_of, function_of, first_of, end_of}
use Rattle.pg_ir.specs.Edges.{instrs_of, is_terminator, is_phi, targets_of, targets_in, successors, phis_of, body_of}
use Rattle.pg_ir.specs.WellFormed.{IsProgram, IsInBlock, IsInFunction}
use Rattle.pg_ir.proofs.FunctionPlaces.{block_held, some_in, first_in_function, within_blocks}
use Rattle.pg_region_paths.specs.declared.path.Path.{Path}
use Rattle.pg_region_paths.specs.declared.path.Root.TheVariants as root
use Rattle.pg_region_paths.specs.Paths.{rooted}
use Rattle.pg_region_paths.specs.Registers.{is_register, register_path, path_by, has_pointer}
use Rattle.pg_region_accesses.specs.Accesses.{block_sets, sets}
use Rattle.pg_region_paths.proofs.Elements.{here, there, cases, none_in}
use Rattle.pg_region_summaries.proofs.InstructionPlaces.{stands}
use Rattle.pg_run_thread.specs.LocalState.{Frame}
use Rattle.pg_run_thread.specs.Compute.{chosen}
use Rattle.pg_run_thread.specs.EdgeStep.{set_each, set_register, phi_values, over_edge, case_of}
use Rattle.pg_run_thread.specs.Step.{moved}
use Rattle.pg_law_instances.specs.Leads.{HasPath}
use Rattle.pg_law_instances.specs.Inside.{Instance, QuietSet, StandsIn, HasJoined, passed, registers_by, phis_set}
use Rattle.pg_law_instances.proofs.FramePlaces.{some_of, other_register}
use Rattle.pg_law_instances.proofs.PathsOfValues.{root_has}

-- ---- the phis of a block

while_true : {A : Type 0} (g : A → Bool) (x : A) (xs : List A) → g x ≡ true → take_while g (x ∷ xs) ≡ x ∷ take_while g xs
while_true g x xs e =
    let count : 1 + prefix_len g xs ≡ suc (prefix_len g xs) = omega arith in
    ap (λ (b : Bool). take (cond b (1 + prefix_len g xs) 0) (x ∷ xs)) e ∙ ap (λ (n : ℕ). take n (x ∷ xs)) count

while_false : {A : Type 0} (g : A → Bool) (x : A) (xs : List A) → g x ≡ false → take_while g (x ∷ xs) ≡ []
while_false g x xs e = ap (λ (b : Bool). take (cond b (1 + prefix_len g xs) 0) (x ∷ xs)) e

-- each of the first that pass is one of all, and passes
pub while_among : {A : Type 0} (g : A → Bool) (xs : List A) (x : A) → Contains (take_while g xs) x → Contains xs x × (g x ≡ true)
while_among g [] x c = absurd (none_in x c)
while_among {A} g (y ∷ xs) x c = go (g y) refl (λ d. while_among g xs x d)
  where
    go : (b : Bool) → g y ≡ b → (Contains (take_while g xs) x → Contains xs x × (g x ≡ true)) → Contains (y ∷ xs) x × (g x ≡ true)
    go false e more = absurd (none_in x (subst (λ (l : List A). Contains l x) (while_false g y xs e) c))
    go true e more = pick (cases y (take_while g xs) x (subst (λ (l : List A). Contains l x) (while_true g y xs e) c))
      where
        pick : (y ≡ x) ⊎ Contains (take_while g xs) x → Contains (y ∷ xs) x × (g x ≡ true)
        pick (inl q) = (subst (λ (z : A). Contains (y ∷ xs) z) q (here y xs), ap g (sym q) ∙ e)
        pick (inr d) = let r = more d in (there y xs x r.0, r.1)

while_passes : {A : Type 0} (g : A → Bool) (xs : List A) (k : ℕ) (x : A) → slice_get xs k ≡ Some x → k < length (take_while g xs) → g x ≡ true
while_passes g [] zero x e lt = absurd cc
while_passes g [] (suc k) x e lt = absurd cc
while_passes {A} g (y ∷ xs) k x e lt = go (g y) refl k e lt (λ j q l. while_passes g xs j x q l)
  where
    go : (b : Bool) → g y ≡ b → (k : ℕ) → slice_get (y ∷ xs) k ≡ Some x → k < length (take_while g (y ∷ xs))
        → ((j : ℕ) → slice_get xs j ≡ Some x → j < length (take_while g xs) → g x ≡ true) → g x ≡ true
    go false q k e lt more = let n : length (take_while g (y ∷ xs)) ≡ 0 = ap (λ (l : List A). length l) (while_false g y xs q) in absurd (omega (arith, lt, n))
    go true q zero e lt more = let t : y ≡ x = cc in ap g (sym t) ∙ q
    go true q (suc k) e lt more = let n : length (take_while g (y ∷ xs)) ≡ suc (length (take_while g xs)) = ap (λ (l : List A). length l) (while_true g y xs q) in more k e (omega (arith, lt, n))

abbrev ArePhis : List Instr → Type 0
ArePhis xs = (x : Instr) → Contains xs x → is_phi x.op ≡ true

passed_phis : (before xs : List Instr) → ArePhis before → ArePhis (passed before xs (length (take_while (λ (x : Instr). is_phi x.op) xs)))
passed_phis before [] h = h
passed_phis before (y ∷ xs) h = go (is_phi y.op) refl (λ k. passed_phis (y ∷ before) xs k)
  where
    go : (b : Bool) → is_phi y.op ≡ b → (ArePhis (y ∷ before) → ArePhis (passed (y ∷ before) xs (length (take_while (λ (x : Instr). is_phi x.op) xs))))
        → ArePhis (passed before (y ∷ xs) (length (take_while (λ (x : Instr). is_phi x.op) (y ∷ xs))))
    go false e more = rw (while_false (λ (x : Instr). is_phi x.op) y xs e) h
    go true e more = rw (while_true (λ (x : Instr). is_phi x.op) y xs e) (more both)
      where
        both : ArePhis (y ∷ before)
        both x c = pick (cases y before x c)
          where
            pick : (y ≡ x) ⊎ Contains before x → is_phi x.op ≡ true
            pick (inl q) = ap (λ (z : Instr). is_phi z.op) (sym q) ∙ e
            pick (inr d) = h x d

pub phis_passed : (p : NumberedProgram) (b : ℕ) → ArePhis (passed [] (instrs_of p b) (length (phis_of p b)))
unfolding phis_of
phis_passed p b = passed_phis [] (instrs_of p b) (λ x c. absurd (none_in x c))

phi_no_path : (f : ℕ → Option Path) (b : Bool) (o : Op) (q : Path) → is_phi o ≡ true → path_by f b o ≡ Some q → ⊥
phi_no_path f b (op.Phi from) q i e = cc
phi_no_path f b o q i e = cc

-- behind phis alone a register has no path but as a root
root_only : (is_set : ℕ → Bool) (types : List Scalar) (before : List Instr) (r : ℕ) (q : Path) → ArePhis before → register_path is_set types before r ≡ Some q
    → (is_set r ≡ false) × (rooted (root.Register r) ≡ q)
root_only is_set types [] r q h e = go (is_set r) refl e
  where
    go : (b : Bool) → is_set r ≡ b → cond b None (Some (rooted (root.Register r))) ≡ Some q → (is_set r ≡ false) × (rooted (root.Register r) ≡ q)
    go true s t = absurd cc
    go false s t = (s, cc)
root_only is_set types (x ∷ before) r q h e = go (is_register x.result r) e (λ k. root_only is_set types before r q (λ y c. h y (there x before y c)) k)
  where
    go : (b : Bool) → cond b (path_by (register_path is_set types before) (has_pointer types x.result) x.op) (register_path is_set types before r) ≡ Some q
        → (register_path is_set types before r ≡ Some q → (is_set r ≡ false) × (rooted (root.Register r) ≡ q)) → (is_set r ≡ false) × (rooted (root.Register r) ≡ q)
    go true t more = absurd (phi_no_path (register_path is_set types before) (has_pointer types x.result) x.op q (h x (here x before)) t)
    go false t more = more t

-- ---- registers behind an edge

each_other : (rs : List (Option ℕ)) (xs : List Instr) (vs : List (Option ℕ)) (r : ℕ) → ((x : Instr) → Contains xs x → is_register x.result r ≡ false)
    → registers_by (set_each rs xs vs) r ≡ registers_by rs r
each_other rs [] vs r h = refl
each_other rs (x ∷ xs) [] r h = refl
each_other rs (x ∷ xs) (v ∷ vs) r h = each_other (set_register rs x.result v) xs vs r (λ y c. h y (there x xs y c)) ∙ other_register rs x.result v r (h x (here x xs))

-- registers that no phi of the block sets stay
pub edge_other : (p : NumberedProgram) (rs : List (Option ℕ)) (from to r : ℕ) → phis_set p to r ≡ false → registers_by (over_edge p rs from to) r ≡ registers_by rs r
unfolding over_edge
edge_other p rs from to r h = each_other rs (phis_of p to) (phi_values p rs from (phis_of p to)) r (λ x c. unset x c (is_register x.result r) refl)
  where
    unset : (x : Instr) → Contains (phis_of p to) x → (b : Bool) → is_register x.result r ≡ b → is_register x.result r ≡ false
    unset x c true e = absurd (true≢false (sym (some_of (λ (y : Instr). is_register y.result r) (phis_of p to) x c e) ∙ h))
    unset x c false e = e

-- a register that the block doesn't set no phi of it sets
pub phis_unset : (p : NumberedProgram) (blocks : List ℕ) (b r : ℕ) → Contains blocks b → sets p blocks r ≡ false → phis_set p b r ≡ false
unfolding block_sets phis_of
phis_unset p blocks b r c h = go (list_any (λ (x : Instr). is_register x.result r) (phis_of p b)) refl
  where
    found : (xs : List Instr) → list_any (λ (x : Instr). is_register x.result r) xs ≡ true → (x : Instr) × Contains xs x × (is_register x.result r ≡ true)
    found [] e = absurd cc
    found (y ∷ xs) e = pick (is_register y.result r) refl e (λ k. found xs k)
      where
        pick : (t : Bool) → is_register y.result r ≡ t → list_any (λ (x : Instr). is_register x.result r) (y ∷ xs) ≡ true
            → (list_any (λ (x : Instr). is_register x.result r) xs ≡ true → (x : Instr) × Contains xs x × (is_register x.result r ≡ true))
            → (x : Instr) × Contains (y ∷ xs) x × (is_register x.result r ≡ true)
        pick true q e more = (y, here y xs, q)
        pick false q e more = let m = more (rw q at e) in (m.0, there y xs m.0 m.1, m.2)

    go : (t : Bool) → list_any (λ (x : Instr). is_register x.result r) (phis_of p b) ≡ t → list_any (λ (x : Instr). is_register x.result r) (phis_of p b) ≡ false
    go false e = e
    go true e =
        let x = found (phis_of p b) e in
        let i = while_among (λ (y : Instr). is_phi y.op) (instrs_of p b) x.0 x.1 in
        absurd (true≢false (sym (some_of (block_sets p r) blocks b c (some_of (λ (y : Instr). is_register y.result r) (instrs_of p b) x.0 i.0 x.2)) ∙ h))

-- ---- where an edge leads

terminator_no_phi : (o : Op) → is_terminator o ≡ true → is_phi o ≡ true → ⊥
terminator_no_phi (op.Phi from) t h = cc
terminator_no_phi o t h = cc

is_true : (t : Bool) → IsTrue t → t ≡ true
is_true true h = refl
is_true false h = absurd cc

true_is : (t : Bool) → t ≡ true → IsTrue t
true_is true h = refl
true_is false h = absurd cc

-- behind its phis a block has an instruction
pub body_within : (p : NumberedProgram) (b : ℕ) → IsProgram p → b < length p.blocks → body_of p b < end_of p b
unfolding body_of phis_of first_of end_of
body_within p b program lt = go (cases_lt (body_of p b) (end_of p b))
  where
    some : first_of p b < end_of p b
    some = some_in p b (slice_get p.blocks b) program refl lt

    instr_in : (o : Option Instr) → IsInBlock b o → (x : Instr) × (o ≡ Some x) × (x.block.0 ≡ b)
    instr_in None h = absurd h
    instr_in (Some x) h = (x, refl, h)

    last : ℕ
    last = end_of p b - 1

    go : (body_of p b < end_of p b) ⊎ (end_of p b ≤ body_of p b) → body_of p b < end_of p b
    go (inl l) = l
    go (inr l) =
        let x = instr_in (slice_get p.instrs (end_of p b - 1)) (block_held p b (end_of p b - 1) program (omega (arith, some)) (omega (arith, some))) in
        let s = stands p (end_of p b - 1) x.0 program x.1 in
        let got : slice_get (instrs_of p b) s.0 ≡ Some x.0 = subst (λ (c : ℕ). slice_get (instrs_of p c) s.0 ≡ Some x.0) x.2 s.2 in
        let first : first_of p x.0.block.0 ≡ first_of p b = ap (first_of p) x.2 in
        let end : end_of p x.0.block.0 ≡ end_of p b = ap (end_of p) x.2 in
        let phi : is_phi x.0.op ≡ true = while_passes (λ (y : Instr). is_phi y.op) (instrs_of p b) s.0 x.0 got (omega (arith, s.1, first, l, some)) in
        let ends = (program.instrs (end_of p b - 1) x.0 x.1).ends.1 (omega (arith, some, end)) in
        absurd (terminator_no_phi x.0.op (is_true (is_terminator x.0.op) ends) phi)

pub edge_stands : (I : Instance) (a : QuietSet) (f : Frame) (from to : ℕ) → IsProgram I.program → to < length I.program.blocks → function_of I.program to ≡ f.function
    → Contains a.blocks to →
    ((r : ℕ) → sets I.program a.blocks r ≡ false → registers_by f.registers r ≡ a.registers r) → StandsIn I a (moved I.program f from to)
unfolding body_of
edge_stands I a f from to program lt fn c kept = record {
  block = to;
  behind = length (phis_of I.program to);
  among = c;
  function = fn;
  place = refl;
  within = body_within I.program to program lt;
  kept = after;
  paths = λ r q w e v.
      let o = root_only (sets I.program a.blocks) (types_of I.program (function_of I.program to)) (passed [] (instrs_of I.program to) (length (phis_of I.program to))) r q
      (phis_passed I.program to) e in
      subst (λ (z : Path). HasPath I.program a.registers I.memory I.recorded z w) o.1 (root_has I.program a.registers I.memory I.recorded (root.Register r) w (sym (after r o.0) ∙ v));
}
  where
    after : (r : ℕ) → sets I.program a.blocks r ≡ false → registers_by (over_edge I.program f.registers from to) r ≡ a.registers r
    after r u = edge_other I.program f.registers from to r (phis_unset I.program a.blocks to r c u) ∙ kept r u

or_parts : (a b : Bool) → (a || b) ≡ false → (a ≡ false) × (b ≡ false)
or_parts true b e = absurd cc
or_parts false b e = (refl, e)

pub edge_joins : (I : Instance) (f : Frame) (from : ℕ) → f.function ≡ I.frame.function → f.height ≡ I.frame.height
    → ((r : ℕ) → sets I.program I.blocks r ≡ false → registers_by f.registers r ≡ registers_by I.frame.registers r) → HasJoined I (moved I.program f from I.join)
edge_joins I f from fn height kept = record {
  place = refl;
  function = fn;
  height = height;
  kept = λ r u. let o = or_parts (sets I.program I.blocks r) (phis_set I.program I.join r) u in edge_other I.program f.registers from I.join r o.1 ∙ kept r o.0;
}

-- ---- the targets of an instruction that ends its block

pub target_fits : (p : NumberedProgram) (i : ℕ) (x : Instr) (to : ℕ) → IsProgram p → slice_get p.instrs i ≡ Some x → Contains (targets_of x.op) to
    → (to < length p.blocks) × (function_of p to ≡ function_of p x.block.0)
target_fits p i x to program e c =
    let all = All-from_recursion (λ (b : ℕ). IsInFunction (function_of p x.block.0) (slice_get p.blocks b)) (targets_of x.op) (program.instrs i x e).targets in
    let at : IsInFunction (function_of p x.block.0) (slice_get p.blocks to) = All-contains (λ (b : ℕ). IsInFunction (function_of p x.block.0) (slice_get p.blocks b)) (targets_of x.op) to all c in
    (within_blocks p (function_of p x.block.0) to (slice_get p.blocks to) refl at, first_in_function p (function_of p x.block.0) to (slice_get p.blocks to) refl at)

pub successors_of : (p : NumberedProgram) (i : ℕ) (x : Instr) → IsProgram p → slice_get p.instrs i ≡ Some x → is_terminator x.op ≡ true → successors p x.block.0 ≡ targets_of x.op
unfolding successors
successors_of p i x program e t =
    let l = (program.instrs i x e).ends.0 (true_is (is_terminator x.op) t) in
    let n : end_of p x.block.0 - 1 ≡ i = omega (arith, l) in
    ap (λ (k : ℕ). targets_in (slice_get p.instrs k)) n ∙ ap targets_in e

pub chosen_among : (n a b : ℕ) → Contains (a ∷ b ∷ []) (chosen n a b)
chosen_among n a b = go (n == 0)
  where
    go : (t : Bool) → Contains (a ∷ b ∷ []) (if t then b else a)
    go true = there a (b ∷ []) b (here b [])
    go false = here a (b ∷ [])

case_among : (cases : List Case) (other n : ℕ) → (case_of cases other n ≡ other) ⊎ Contains (map (λ (c : Case). c.to.0) cases) (case_of cases other n)
case_among [] other n = inl refl
case_among (c ∷ cs) other n = go (c.value == n) (case_among cs other n)
  where
    go : (t : Bool) → (case_of cs other n ≡ other) ⊎ Contains (map (λ (c : Case). c.to.0) cs) (case_of cs other n)
        → ((if t then c.to.0 else case_of cs other n) ≡ other) ⊎ Contains (c.to.0 ∷ map (λ (c : Case). c.to.0) cs) (if t then c.to.0 else case_of cs other n)
    go true h = inr (here c.to.0 (map (λ (c : Case). c.to.0) cs))
    go false (inl q) = inl q
    go false (inr d) = inr (there c.to.0 (map (λ (c : Case). c.to.0) cs) (case_of cs other n) d)

pub switched_among : (cs : List Case) (other n : ℕ) → Contains (other ∷ map (λ (c : Case). c.to.0) cs) (case_of cs other n)
switched_among cs other n = go (case_among cs other n)
  where
    go : (case_of cs other n ≡ other) ⊎ Contains (map (λ (c : Case). c.to.0) cs) (case_of cs other n) → Contains (other ∷ map (λ (c : Case). c.to.0) cs) (case_of cs other n)
    go (inl q) = subst (λ (z : ℕ). Contains (other ∷ map (λ (c : Case). c.to.0) cs) z) (sym q) (here other (map (λ (c : Case). c.to.0) cs))
    go (inr d) = there other (map (λ (c : Case). c.to.0) cs) (case_of cs other n) d
