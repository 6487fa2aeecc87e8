-- Where the instructions of a function stand, and which functions they call.
use Rattle.std.proofs.Common.{◌≡◌, ℕ, zero, suc, ◌+◌, ◌-◌, ◌<◌, ◌≤◌, List, [], ◌∷◌, ◌++◌, length, drop, take, Option, Some, None, refl, sym, ap}
use Rattle.std.proofs.Common.{◌∙◌, subst, arith, inl, inr, ◌⊎◌, length-append}
use Rattle.std.specs.Prelude.{Contains, slice_get, slice_range}
use Rattle.std.proofs.lemmas.Bool.{cases_eq, cases_lt}
use Rattle.std.proofs.lemmas.List.Elements.{Contains-append_left, Contains-append_right, Contains-append_cases}
use Rattle.pg_cfg.specs.Graphs.{EdgeLists, Edge, IsClosed, targets_of, targets_in}
use Rattle.pg_ir.specs.declared.function.Block.{Block}
use Rattle.pg_ir.specs.declared.value.Scalar.{Scalar}
use Rattle.pg_ir.specs.declared.instr.Instr.{Instr}
use Rattle.pg_ir.specs.declared.instr.Op.{Op}
use Rattle.pg_ir.specs.declared.instr.Op.TheVariants as op
use Rattle.pg_ir.specs.Program.{NumberedProgram, types_of, result_of, function_of, first_of, first_in, end_of, end_in}
use Rattle.pg_ir.specs.Edges.{instrs_of}
use Rattle.pg_ir.specs.WellFormed.{IsProgram, FitsOp, FitsInstr, type_at}
use Rattle.pg_region_paths.proofs.Elements.{here, there, only_here, cases, none_in}
use Rattle.pg_region_accesses.proofs.BlockInstructions.{stands_in}
use Rattle.pg_region_summaries.specs.Blocks.{blocks_of}
use Rattle.pg_region_summaries.specs.Calls.{Calls, IsCallOf}
use Rattle.pg_region_summaries.specs.Callees.{op_calls, instrs_calls, block_calls, blocks_calls, calls_below, calls_of}
use Rattle.pg_region_summaries.proofs.BlockSpans.{has_block, only_blocks}

get_past : {A : Type 0} (xs : List A) (n k : ℕ) → k < n → slice_get (take n xs) k ≡ slice_get xs k
get_past xs zero k lt = absurd (omega (arith, lt))
get_past [] (suc n) zero lt = refl
get_past [] (suc n) (suc k) lt = refl
get_past (x ∷ xs) (suc n) zero lt = refl
get_past (x ∷ xs) (suc n) (suc k) lt = get_past xs n k (omega (arith, lt))

get_none : {A : Type 0} (k : ℕ) → slice_get {X = A} [] k ≡ None
get_none zero = refl
get_none (suc k) = refl

get_rest : {A : Type 0} (xs : List A) (n k : ℕ) → slice_get (drop n xs) k ≡ slice_get xs (n + k)
get_rest xs zero k = let z : 0 + k ≡ k = omega arith in rw z refl
get_rest [] (suc n) k = get_none k ∙ sym (get_none (suc n + k))
get_rest (x ∷ xs) (suc n) k = let z : suc n + k ≡ suc (n + k) = omega arith in rw z (get_rest xs n k)

get_taken : {A : Type 0} (xs : List A) (n k : ℕ) (x : A) → slice_get (take n xs) k ≡ Some x → (k < n) × (slice_get xs k ≡ Some x)
get_taken xs zero zero x e = absurd cc
get_taken xs zero (suc k) x e = absurd cc
get_taken [] (suc n) zero x e = absurd cc
get_taken [] (suc n) (suc k) x e = absurd cc
get_taken (y ∷ xs) (suc n) zero x e = (omega arith, e)
get_taken (y ∷ xs) (suc n) (suc k) x e = let r = get_taken xs n k x e in (omega (arith, r.0), r.1)

-- an instruction of a block of a function
pub in_block : (p : NumberedProgram) (f b k : ℕ) (x : Instr) → IsProgram p → Contains (blocks_of p f) b → slice_get (instrs_of p b) k ≡ Some x
    → (slice_get p.instrs (first_of p b + k) ≡ Some x) × (function_of p x.block.0 ≡ f)
unfolding instrs_of first_of end_of
in_block p f b k x program c e = go (slice_get p.blocks b) refl e
  where
    go : (o : Option Block) → slice_get p.blocks b ≡ o → slice_get (slice_range p.instrs (first_in o) (end_in o)) k ≡ Some x
        → (slice_get p.instrs (first_in o + k) ≡ Some x) × (function_of p x.block.0 ≡ f)
    go None q e = absurd (let r = get_taken (drop 0 p.instrs) 0 k x e in omega (arith, r.0))
    go (Some y) q e =
        let r = get_taken (drop y.first.0 p.instrs) (y.first.0 + y.count - y.first.0) k x e in
        let at : slice_get p.instrs (y.first.0 + k) ≡ Some x = sym (get_rest p.instrs y.first.0 k) ∙ r.1 in
        let s : x.block.0 ≡ b = stands_in p b (y.first.0 + k) y x (program.blocks b y q) (omega arith) (omega (arith, r.0)) at in
        (at, ap (function_of p) s ∙ (only_blocks p f b c).1)

-- an instruction of any block
pub in_any_block : (p : NumberedProgram) (b k : ℕ) (x : Instr) → slice_get (instrs_of p b) k ≡ Some x → (i : ℕ) × (slice_get p.instrs i ≡ Some x)
unfolding instrs_of
in_any_block p b k x e =
    let r = get_taken (drop (first_of p b) p.instrs) (end_of p b - first_of p b) k x e in
    (first_of p b + k, sym (get_rest p.instrs (first_of p b) k) ∙ r.1)

-- an instruction in its block
pub stands : (p : NumberedProgram) (i : ℕ) (x : Instr) → IsProgram p → slice_get p.instrs i ≡ Some x
    → (k : ℕ) × (first_of p x.block.0 + k ≡ i) × (slice_get (instrs_of p x.block.0) k ≡ Some x)
unfolding instrs_of
stands p i x program e =
    let fits : FitsInstr p i x = program.instrs i x e in
    let sum : first_of p x.block.0 + (i - first_of p x.block.0) ≡ i = omega (arith, fits.from) in (
      i - first_of p x.block.0,
      sum,
      get_past (drop (first_of p x.block.0) p.instrs) (end_of p x.block.0 - first_of p x.block.0) (i - first_of p x.block.0) (omega (arith, fits.from, fits.before))
          ∙ get_rest p.instrs (first_of p x.block.0) (i - first_of p x.block.0) ∙ ap (slice_get p.instrs) sum ∙ e,
    )

pub own_block : (p : NumberedProgram) (i : ℕ) (x : Instr) → IsProgram p → slice_get p.instrs i ≡ Some x → Contains (blocks_of p (function_of p x.block.0)) x.block.0
own_block p i x program e = has_block p (function_of p x.block.0) x.block.0 (program.instrs i x e).block refl

-- ---- the functions that are called

pub op_has : (g : ℕ) (o : Op) → IsCallOf g o → Contains (op_calls o) g
op_has g (op.Call f args) e = subst (λ (z : ℕ). Contains (f ∷ []) z) e (here f [])
op_has g _ h = absurd h

pub op_only : (g : ℕ) (o : Op) → Contains (op_calls o) g → IsCallOf g o
op_only g (op.Call f args) c = only_here f g c
op_only g _ c = absurd (none_in g c)

instrs_has : (xs : List Instr) (k : ℕ) (x : Instr) (g : ℕ) → slice_get xs k ≡ Some x → Contains (op_calls x.op) g → Contains (instrs_calls xs) g
instrs_has [] zero x g e c = absurd cc
instrs_has [] (suc k) x g e c = absurd cc
instrs_has (y ∷ xs) zero x g e c = let q : y ≡ x = cc in Contains-append_left (op_calls y.op) (instrs_calls xs) g (subst (λ (z : Instr). Contains (op_calls z.op) g) (sym q) c)
instrs_has (y ∷ xs) (suc k) x g e c = Contains-append_right (op_calls y.op) (instrs_calls xs) g (instrs_has xs k x g e c)

instrs_only : (xs : List Instr) (g : ℕ) → Contains (instrs_calls xs) g → (k : ℕ) × (x : Instr) × (slice_get xs k ≡ Some x) × Contains (op_calls x.op) g
instrs_only [] g c = absurd (none_in g c)
instrs_only (y ∷ xs) g c = go (Contains-append_cases (op_calls y.op) (instrs_calls xs) g c) (λ d. instrs_only xs g d)
  where
    go : Contains (op_calls y.op) g ⊎ Contains (instrs_calls xs) g → (Contains (instrs_calls xs) g → (k : ℕ) × (x : Instr) × (slice_get xs k ≡ Some x) × Contains (op_calls x.op) g) →
        (k : ℕ) × (x : Instr) × (slice_get (y ∷ xs) k ≡ Some x) × Contains (op_calls x.op) g
    go (inl d) h = (0, y, refl, d)
    go (inr d) h = let r = h d in (suc r.0, r.1, r.2, r.3)

block_has : (p : NumberedProgram) (b k : ℕ) (x : Instr) (g : ℕ) → slice_get (instrs_of p b) k ≡ Some x → IsCallOf g x.op → Contains (block_calls p b) g
unfolding block_calls
block_has p b k x g e c = instrs_has (instrs_of p b) k x g e (op_has g x.op c)

block_only : (p : NumberedProgram) (b g : ℕ) → Contains (block_calls p b) g → (k : ℕ) × (x : Instr) × (slice_get (instrs_of p b) k ≡ Some x) × Contains (op_calls x.op) g
unfolding block_calls
block_only p b g c = instrs_only (instrs_of p b) g c

blocks_has : (p : NumberedProgram) (bs : List ℕ) (b g : ℕ) → Contains bs b → Contains (block_calls p b) g → Contains (blocks_calls p bs) g
blocks_has p [] b g c d = absurd (none_in b c)
blocks_has p (a ∷ bs) b g c d = go (cases a bs b c) (λ k. blocks_has p bs b g k d)
  where
    go : (a ≡ b) ⊎ Contains bs b → (Contains bs b → Contains (blocks_calls p bs) g) → Contains (blocks_calls p (a ∷ bs)) g
    go (inl q) h = Contains-append_left (block_calls p a) (blocks_calls p bs) g (subst (λ (z : ℕ). Contains (block_calls p z) g) (sym q) d)
    go (inr k) h = Contains-append_right (block_calls p a) (blocks_calls p bs) g (h k)

blocks_only : (p : NumberedProgram) (bs : List ℕ) (g : ℕ) → Contains (blocks_calls p bs) g → (b : ℕ) × Contains bs b × Contains (block_calls p b) g
blocks_only p [] g c = absurd (none_in g c)
blocks_only p (a ∷ bs) g c = go (Contains-append_cases (block_calls p a) (blocks_calls p bs) g c) (λ d. blocks_only p bs g d)
  where
    go : Contains (block_calls p a) g ⊎ Contains (blocks_calls p bs) g → (Contains (blocks_calls p bs) g → (b : ℕ) × Contains bs b × Contains (block_calls p b) g)
        → (b : ℕ) × Contains (a ∷ bs) b × Contains (block_calls p b) g
    go (inl d) h = (a, here a bs, d)
    go (inr d) h = let r = h d in (r.0, there a bs r.0 r.1, r.2)

pub calls_listed : (p : NumberedProgram) (f g : ℕ) → IsProgram p → Calls p f g → Contains (blocks_calls p (blocks_of p f)) g
calls_listed p f g program c =
    let s = stands p c.at c.instr program c.is in
    blocks_has p (blocks_of p f) c.instr.block.0 g
    (subst (λ (z : ℕ). Contains (blocks_of p z) c.instr.block.0) c.within (own_block p c.at c.instr program c.is))
    (block_has p c.instr.block.0 s.0 c.instr g s.2 c.call)

pub listed_calls : (p : NumberedProgram) (f g : ℕ) → IsProgram p → Contains (blocks_calls p (blocks_of p f)) g → Calls p f g
listed_calls p f g program c =
    let b = blocks_only p (blocks_of p f) g c in
    let i = block_only p b.0 g b.2 in
    let at = in_block p f b.0 i.0 i.1 program b.1 i.2 in
    record { at = first_of p b.0 + i.0; instr = i.1; is = at.0; within = at.1; call = op_only g i.1.op i.3 }

-- a function that is called is one of the program's
op_small : (p : NumberedProgram) (types : List Scalar) (returns result : Option Scalar) (g : ℕ) (o : Op) → FitsOp p types returns result o → IsCallOf g o → g < length p.functions
op_small p types returns result g (op.Call f args) h e = omega (arith, h.1, e)
op_small p types returns result g _ h e = absurd e

pub callee_small : (p : NumberedProgram) (f g : ℕ) → IsProgram p → Calls p f g → g < length p.functions
callee_small p f g program c =
    op_small p (types_of p (function_of p c.instr.block.0)) (result_of p (function_of p c.instr.block.0)) (type_at (types_of p (function_of p c.instr.block.0)) c.instr.result) g c.instr.op
    (program.instrs c.at c.instr c.is).op c.call

-- ---- the graph of calls

pub calls_size : (p : NumberedProgram) (n : ℕ) → length (calls_below p n) ≡ n
calls_size p zero = refl
calls_size p (suc f) = length-append (calls_below p f) (blocks_calls p (blocks_of p f) ∷ []) ∙ (let q : length (calls_below p f) ≡ f = calls_size p f in omega (arith, q))

got_before : (xs ys : EdgeLists) (k : ℕ) → k < length xs → slice_get (xs ++ ys) k ≡ slice_get xs k
got_before [] ys k lt = absurd (omega (arith, lt))
got_before (x ∷ xs) ys zero lt = refl
got_before (x ∷ xs) ys (suc k) lt = got_before xs ys k (omega (arith, lt))

got_last : (xs : EdgeLists) (y : List ℕ) (k : ℕ) → k ≡ length xs → slice_get (xs ++ y ∷ []) k ≡ Some y
got_last [] y zero e = refl
got_last [] y (suc k) e = absurd (omega (arith, e))
got_last (x ∷ xs) y zero e = absurd (omega (arith, e))
got_last (x ∷ xs) y (suc k) e = got_last xs y k (omega (arith, e))

got_past : (xs : EdgeLists) (k : ℕ) → length xs ≤ k → slice_get xs k ≡ None
got_past [] zero le = refl
got_past [] (suc k) le = refl
got_past (x ∷ xs) zero le = absurd (omega (arith, le))
got_past (x ∷ xs) (suc k) le = got_past xs k (omega (arith, le))

calls_at : (p : NumberedProgram) (n f : ℕ) → f < n → slice_get (calls_below p n) f ≡ Some (blocks_calls p (blocks_of p f))
calls_at p zero f lt = absurd (omega (arith, lt))
calls_at p (suc n) f lt = go (cases_eq f n) (λ l. calls_at p n f l)
  where
    go : (f ≡ n) ⊎ (f ≡ n → ⊥) → (f < n → slice_get (calls_below p n) f ≡ Some (blocks_calls p (blocks_of p f)))
        → slice_get (calls_below p n ++ blocks_calls p (blocks_of p n) ∷ []) f ≡ Some (blocks_calls p (blocks_of p f))
    go (inl e) h = got_last (calls_below p n) (blocks_calls p (blocks_of p n)) f (e ∙ sym (calls_size p n)) ∙ ap (λ z. Some (blocks_calls p (blocks_of p z))) (sym e)
    go (inr ne) h = let l : f < n = omega (arith, ne, lt) in got_before (calls_below p n) (blocks_calls p (blocks_of p n) ∷ []) f (omega (arith, l, calls_size p n)) ∙ h l

pub calls_edge : (p : NumberedProgram) (f g : ℕ) → IsProgram p → f < length p.functions → Calls p f g → Edge (calls_of p) f g
unfolding calls_of targets_of
calls_edge p f g program lt c = record { leads = rw (calls_at p (length p.functions) f lt) (calls_listed p f g program c) }

pub edge_calls : (p : NumberedProgram) (f g : ℕ) → IsProgram p → Edge (calls_of p) f g → Calls p f g
unfolding calls_of targets_of
edge_calls p f g program e = go (cases_lt f (length p.functions)) e.leads
  where
    go : (f < length p.functions) ⊎ (length p.functions ≤ f) → Contains (targets_in (slice_get (calls_below p (length p.functions)) f)) g → Calls p f g
    go (inl lt) c = listed_calls p f g program (rw (calls_at p (length p.functions) f lt) at c)
    go (inr le) c = absurd (none_in g (rw (got_past (calls_below p (length p.functions)) f (omega (arith, le, calls_size p (length p.functions)))) at c))

pub graph_size : (p : NumberedProgram) → length (calls_of p) ≡ length p.functions
unfolding calls_of
graph_size p = calls_size p (length p.functions)

pub graph_closed : (p : NumberedProgram) → IsProgram p → IsClosed (calls_of p)
graph_closed p program = record {
  closed = λ a b c. omega (arith, graph_size p, callee_small p a b program (edge_calls p a b program (record { leads = c })));
  few = omega (arith, graph_size p, program.few_functions);
}

pub graph_is : (p : NumberedProgram) (f : ℕ) → f ≡ length p.functions → calls_below p f ≡ calls_of p
unfolding calls_of
graph_is p f e = ap (calls_below p) e
