-- The flow of control between the blocks of a program is a closed graph.
use Rattle.std.proofs.Common.{◌≡◌, ℕ, zero, suc, ◌+◌, ◌-◌, ◌<◌, ◌≤◌, ◌^◌, List, [], ◌∷◌, ◌++◌, length, get_or, Option, Some, None, refl, sym, ap}
use Rattle.std.proofs.Common.{◌∙◌, arith, inl, inr, ◌⊎◌, length-append}
use Rattle.std.specs.Prelude.{Contains, All, slice_get}
use Rattle.std.proofs.lemmas.Bool.{cases_eq, cases_lt}
use Rattle.std.proofs.lemmas.List.Elements.{Contains-get_or, All-from_recursion, All-contains}
use Rattle.std.proofs.lemmas.Option.{slice_get_within}
use Rattle.pg_cfg.specs.Graphs.{EdgeLists, Walk, IsClosed, IsReach, targets_of, targets_in}
use Rattle.pg_cfg.specs.Graphs.Walk.{first, then}
use Rattle.pg_ir.specs.declared.function.Block.{Block}
use Rattle.pg_ir.specs.declared.instr.Instr.{Instr}
use Rattle.pg_ir.specs.Program.{NumberedProgram, function_of, end_of}
use Rattle.pg_ir.specs.Edges as edges
use Rattle.pg_ir.specs.WellFormed.{IsProgram, IsInFunction}
use Rattle.pg_region.specs.Regions.{flow_between, flow_of}

pub length_flow : (p : NumberedProgram) (n : ℕ) → length (flow_between p n) ≡ n
length_flow p zero = refl
length_flow p (suc n) = length-append (flow_between p n) (edges.successors p n ∷ []) ∙ (let q : length (flow_between p n) ≡ n = length_flow p n in omega (arith, q))

got_before : (xs ys : EdgeLists) (k : ℕ) → k < length xs → slice_get (xs ++ ys) k ≡ slice_get xs k
got_before [] ys k lt = absurd (omega arith)
got_before (x ∷ xs) ys zero lt = refl
got_before (x ∷ xs) ys (suc k) lt = got_before xs ys k (omega arith)

got_last : (xs : EdgeLists) (y : List ℕ) (k : ℕ) → k ≡ length xs → slice_get (xs ++ y ∷ []) k ≡ Some y
got_last [] y zero e = refl
got_last [] y (suc k) e = absurd (omega (arith, e))
got_last (x ∷ xs) y zero e = absurd (omega (arith, e))
got_last (x ∷ xs) y (suc k) e = got_last xs y k (omega (arith, e))

pub flow_at : (p : NumberedProgram) (n b : ℕ) → b < n → slice_get (flow_between p n) b ≡ Some (edges.successors p b)
flow_at p zero b lt = absurd (omega arith)
flow_at p (suc n) b lt = go (cases_eq b n) (λ l. flow_at p n b l)
  where
    go : (b ≡ n) ⊎ (b ≡ n → ⊥) → (b < n → slice_get (flow_between p n) b ≡ Some (edges.successors p b))
        → slice_get (flow_between p n ++ edges.successors p n ∷ []) b ≡ Some (edges.successors p b)
    go (inl e) f = got_last (flow_between p n) (edges.successors p n) b (e ∙ sym (length_flow p n)) ∙ ap (λ z. Some (edges.successors p z)) (sym e)
    go (inr ne) f = let l : b < n = omega (arith, ne) in got_before (flow_between p n) (edges.successors p n ∷ []) b (omega (arith, l, length_flow p n)) ∙ f l

pub got_past : (xs : EdgeLists) (k : ℕ) → length xs ≤ k → slice_get xs k ≡ None
got_past [] k le = refl
got_past (x ∷ xs) zero le = absurd (omega arith)
got_past (x ∷ xs) (suc k) le = got_past xs k (omega arith)

-- the targets of an instruction are blocks
targets_within : (p : NumberedProgram) (o : Option Instr) (i : ℕ) (b : ℕ) → IsProgram p → slice_get p.instrs i ≡ o → Contains (edges.targets_in o) b → b < length p.blocks
targets_within p None i b program e c = absurd (omega (arith, c.1))
targets_within p (Some x) i b program e c =
    let all = All-from_recursion (λ (b : ℕ). IsInFunction (function_of p x.block.0) (slice_get p.blocks b)) (edges.targets_of x.op) (program.instrs i x e).targets in
    let here = All-contains (λ (b : ℕ). IsInFunction (function_of p x.block.0) (slice_get p.blocks b)) (edges.targets_of x.op) b all c in
    within (slice_get p.blocks b) refl here
  where
    within : (o : Option Block) → slice_get p.blocks b ≡ o → IsInFunction (function_of p x.block.0) o → b < length p.blocks
    within None q h = absurd h
    within (Some y) q h = slice_get_within p.blocks b y q

pub flow_closed : (p : NumberedProgram) → IsProgram p → length p.blocks ≤ 2 ^ 32 → IsClosed (flow_of p)
unfolding flow_of targets_of edges.successors
flow_closed p program few = record { closed = closed; few = omega (arith, few, length_flow p (length p.blocks)) }
  where
    size : length (flow_between p (length p.blocks)) ≡ length p.blocks
    size = length_flow p (length p.blocks)

    from_block : (a b : ℕ) → (a < length p.blocks) ⊎ (length p.blocks ≤ a) → Contains (targets_in (slice_get (flow_between p (length p.blocks)) a)) b
        → b < length (flow_between p (length p.blocks))
    from_block a b (inl lt) c =
        let d = rw (flow_at p (length p.blocks) a lt) at c in
        let w : b < length p.blocks = targets_within p (slice_get p.instrs (end_of p a - 1)) (end_of p a - 1) b program refl d in
        omega (arith, size, w)
    from_block a b (inr le) c = let d : Contains [] b = rw (got_past (flow_between p (length p.blocks)) a (omega (arith, size, le))) at c in absurd (omega (arith, d.1))

    closed : (a b : ℕ) → Contains (targets_in (slice_get (flow_between p (length p.blocks)) a)) b → b < length (flow_between p (length p.blocks))
    closed a b c = from_block a b (cases_lt a (length p.blocks)) c

pub flow_size : (p : NumberedProgram) → length (flow_of p) ≡ length p.blocks
unfolding flow_of
flow_size p = length_flow p (length p.blocks)

walk_within : {g : EdgeLists} {j a x : ℕ} → IsClosed g → Walk g j a x → x < length g
walk_within {g} {j} {a} {x} closed (first e h) = closed.closed a x e.leads
walk_within {g} {j} {a} {x} closed (then {b = y} w e h) = closed.closed y x e.leads

-- the blocks before a join are blocks of the program
pub reach_within : (p : NumberedProgram) (c j : ℕ) (xs : List ℕ) → IsClosed (flow_of p) → IsReach (flow_of p) c j xs → All (λ b. b < length p.blocks) xs
reach_within p c j xs closed reach = λ k d lt. let w = walk_within closed ((reach.exact (get_or xs k d)).0 (Contains-get_or xs k d lt)) in omega (arith, w, flow_size p)

-- the targets of a block's last instruction are its successors
pub successors_are : (p : NumberedProgram) (b : ℕ) (block : Block) (x : Instr) → slice_get p.blocks b ≡ Some block → 0 < block.count
    → slice_get p.instrs (block.first.0 + (block.count - 1)) ≡ Some x → edges.targets_of x.op ≡ edges.successors p b
unfolding edges.successors end_of
successors_are p b block x e pos at =
    let n : block.first.0 + block.count - 1 ≡ block.first.0 + (block.count - 1) = omega (arith, pos) in
    rw e (sym (ap (λ (k : ℕ). edges.targets_in (slice_get p.instrs k)) n ∙ ap (λ (o : Option Instr). edges.targets_in o) at))

pub flow_whole : (p : NumberedProgram) (n : ℕ) (g : EdgeLists) → g ≡ flow_between p n → n ≡ length p.blocks → g ≡ flow_of p
unfolding flow_of
flow_whole p n g e q = e ∙ ap (λ k. flow_between p k) q
