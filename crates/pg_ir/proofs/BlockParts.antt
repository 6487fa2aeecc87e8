-- What stands in a basic block: its phis, and behind them an instruction of another kind.
use Rattle.std.proofs.Common.{◌≡◌, ℕ, ◌+◌, ◌-◌, ◌<◌, ◌≤◌, List, [], ◌∷◌, length, zero, suc, Bool, true, false, Option, Some, None, arith, refl, sym}
use Rattle.std.proofs.Common.{◌∙◌, subst, ap, IsTrue, get_or, take, drop, cond, ◌⊎◌, inl, inr}
use Rattle.std.specs.Prelude.{slice_get, slice_range, take_while}
use Rattle.std.specs.List.{AllByRecursion, prefix_len}
use Rattle.std.proofs.lemmas.Option.{slice_get_within, get_or_from_slice_get}
use Rattle.std.proofs.lemmas.List.Sums.{take_while-cons, prefix_len_passes, prefix_len_stops}
use Rattle.std.proofs.lemmas.List.Folds.{length-prefix_len}
use Rattle.std.proofs.lemmas.Bool.{cases_lt}
use Rattle.pg_ir.specs.declared.function.Function.{Function}
use Rattle.pg_ir.specs.declared.function.Block.{Block}
use Rattle.pg_ir.specs.declared.edge.Incoming.{Incoming}
use Rattle.pg_ir.specs.declared.value.Scalar.{Scalar}
use Rattle.pg_ir.specs.declared.instr.Op.{Op}
use Rattle.pg_ir.specs.declared.instr.Op.TheVariants as op
use Rattle.pg_ir.specs.declared.instr.Instr.{Instr}
use Rattle.pg_ir.specs.Program.{NumberedProgram, function_of, first_of, first_in, end_of, end_in, entry_of, first_block_of, first_block_in, types_of, result_of}
use Rattle.pg_ir.specs.Edges.{is_terminator, is_phi, instrs_of, phis_of, body_of, targets_of, incoming_of}
use Rattle.pg_ir.specs.Operands.{CanRead, CanTakePhi, CanEnter, CanGoOn}
use Rattle.pg_ir.specs.WellFormed.{IsProgram, FitsInstr, FitsOp, IsInBlock, IsInFunction, IsPhi, StandsIn, type_at}
use Rattle.pg_ir.proofs.ReadableOperands.{phi_reads}
use Rattle.pg_ir.proofs.FunctionPlaces.{block_holds, block_held, not_last, no_truth, holds_at, some_in, goes_on, entry_stands, first_in_function, within_blocks}

-- ---- parts of lists

got_in_taken : (n : ℕ) (xs : List Instr) (k : ℕ) (x : Instr) → slice_get (take n xs) k ≡ Some x → slice_get xs k ≡ Some x
got_in_taken zero xs k x e = absurd cc
got_in_taken (suc n) [] k x e = absurd cc
got_in_taken (suc n) (y ∷ ys) zero x e = e
got_in_taken (suc n) (y ∷ ys) (suc k) x e = got_in_taken n ys k x e

got_in_rest : (n : ℕ) (xs : List Instr) (k : ℕ) (x : Instr) → slice_get (drop n xs) k ≡ Some x → slice_get xs (n + k) ≡ Some x
got_in_rest zero xs k x e = let z : 0 + k ≡ k = omega arith in rw z e
got_in_rest (suc n) [] k x e = absurd cc
got_in_rest (suc n) (y ∷ ys) k x e = let z : suc n + k ≡ suc (n + k) = omega arith in rw z (got_in_rest n ys k x e)

got_in_range : (xs : List Instr) (a b k : ℕ) (x : Instr) → slice_get (slice_range xs a b) k ≡ Some x → slice_get xs (a + k) ≡ Some x
got_in_range xs a b k x e = got_in_rest a xs k x (got_in_taken (b - a) (drop a xs) k x e)

length_of_range : (xs : List Instr) (a b k : ℕ) (x : Instr) → slice_get (slice_range xs a b) k ≡ Some x → k < b - a
length_of_range xs a b k x e = taken_below (b - a) (drop a xs) k x e
  where
    taken_below : (n : ℕ) (ys : List Instr) (j : ℕ) (y : Instr) → slice_get (take n ys) j ≡ Some y → j < n
    taken_below zero ys j y e = absurd cc
    taken_below (suc n) [] j y e = absurd cc
    taken_below (suc n) (z ∷ zs) zero y e = omega arith
    taken_below (suc n) (z ∷ zs) (suc j) y e = omega (arith, taken_below n zs j y e)

-- ---- an instruction of a block

in_block : (b : ℕ) (x : Instr) (o : Option Instr) → o ≡ Some x → IsInBlock b o → x.block.0 ≡ b
in_block b x None e h = absurd h
in_block b x (Some y) e h = let same : y ≡ x = cc in subst (λ (z : Instr). z.block.0 ≡ b) same h

pub got_in_block : (p : NumberedProgram) (b k : ℕ) (x : Instr) → IsProgram p → slice_get (instrs_of p b) k ≡ Some x
    → (slice_get p.instrs (first_of p b + k) ≡ Some x) × (x.block.0 ≡ b) × (first_of p b + k < end_of p b)
unfolding instrs_of first_of end_of
got_in_block p b k x program e =
    let at : slice_get p.instrs (first_of p b + k) ≡ Some x = got_in_range p.instrs (first_of p b) (end_of p b) k x e in
    let below : k < end_of p b - first_of p b = length_of_range p.instrs (first_of p b) (end_of p b) k x e in
    let held : IsInBlock b (slice_get p.instrs (first_of p b + k)) = holds_at p b (first_of p b + k) (slice_get p.blocks b) program refl (omega arith) (omega arith) in
    (at, in_block b x (slice_get p.instrs (first_of p b + k)) at held, omega arith)

-- ---- the phis of a block can be taken

starts_with : (P : Instr → Type 0) (xs : List Instr) → ((k : ℕ) (x : Instr) → slice_get xs k ≡ Some x → is_phi x.op ≡ true → P x)
    → AllByRecursion P (take_while (λ (x : Instr). is_phi x.op) xs)
starts_with P [] h = tt
starts_with P (x ∷ xs) h = rw (take_while-cons (λ (x : Instr). is_phi x.op) x xs) (go (is_phi x.op) refl (starts_with P xs (λ k y. h (suc k) y)))
  where
    go : (t : Bool) → is_phi x.op ≡ t → AllByRecursion P (take_while (λ (x : Instr). is_phi x.op) xs) → AllByRecursion P (cond t (x ∷ take_while (λ (x : Instr). is_phi x.op) xs) [])
    go false e more = tt
    go true e more = (h 0 x refl e, more)

phi_incoming : (p : NumberedProgram) (types : List Scalar) (returns result : Option Scalar) (o : Op) → is_phi o ≡ true → FitsOp p types returns result o
    → AllByRecursion (λ (i : Incoming). CanRead p (length types) i.value) (incoming_of o)
phi_incoming p types returns result (op.Phi from) e h = phi_reads p types result from h
phi_incoming p types returns result o e h = absurd cc

can_take : (p : NumberedProgram) (i : ℕ) (x : Instr) → is_phi x.op ≡ true → FitsInstr p i x → CanTakePhi p (length (types_of p (function_of p x.block.0))) x
can_take p i x e h = record {
  target = h.target;
  values = phi_incoming p (types_of p (function_of p x.block.0)) (result_of p (function_of p x.block.0)) (type_at (types_of p (function_of p x.block.0)) x.result) x.op e h.op;
}

phis_taken : (p : NumberedProgram) (b : ℕ) → IsProgram p → AllByRecursion (CanTakePhi p (length (types_of p (function_of p b)))) (phis_of p b)
unfolding phis_of
phis_taken p b program = starts_with (CanTakePhi p (length (types_of p (function_of p b)))) (instrs_of p b) each
  where
    each : (k : ℕ) (x : Instr) → slice_get (instrs_of p b) k ≡ Some x → is_phi x.op ≡ true → CanTakePhi p (length (types_of p (function_of p b))) x
    each k x e t =
        let at = got_in_block p b k x program e in
        subst (λ (c : ℕ). CanTakePhi p (length (types_of p (function_of p c))) x) at.1 (can_take p (first_of p b + k) x t (program.instrs (first_of p b + k) x at.0))

block_entered : (p : NumberedProgram) (f b : ℕ) (o : Option Block) → IsProgram p → slice_get p.blocks b ≡ o → IsInFunction f o → CanEnter p (length (types_of p f)) b
block_entered p f b None program e h = absurd h
block_entered p f b (Some x) program e h =
    let same : function_of p b ≡ f = first_in_function p f b (Some x) e h in
    record {
      block = slice_get_within p.blocks b x e;
      phis = subst (λ (g : ℕ). AllByRecursion (CanTakePhi p (length (types_of p g))) (phis_of p b)) same (phis_taken p b program);
      few = (program.blocks b x e).few_phis;
    }

all_entered : (p : NumberedProgram) (f : ℕ) (bs : List ℕ) → IsProgram p → AllByRecursion (λ (b : ℕ). IsInFunction f (slice_get p.blocks b)) bs
    → AllByRecursion (CanEnter p (length (types_of p f))) bs
all_entered p f [] program h = tt
all_entered p f (b ∷ bs) program h = (block_entered p f b (slice_get p.blocks b) program refl h.0, all_entered p f bs program h.1)

pub can_go_on : (p : NumberedProgram) (i : ℕ) (x : Instr) → IsProgram p → FitsInstr p i x → CanGoOn p (length (types_of p (function_of p x.block.0))) x.op
can_go_on p i x program h = all_entered p (function_of p x.block.0) (targets_of x.op) program h.targets

-- ---- where no phi stands

abbrev pub IsNoPhi : Option Instr → Type 0
IsNoPhi None = ⊥
IsNoPhi (Some x) = is_phi x.op ≡ false

no_phi_or : (p : NumberedProgram) (f : ℕ) (o : Option Instr) → ((x : Instr) → o ≡ Some x → is_phi x.op ≡ true → ⊥) → StandsIn p f o → IsNoPhi o
no_phi_or p f None h s = s
no_phi_or p f (Some x) h s = go (is_phi x.op) refl
  where
    go : (t : Bool) → is_phi x.op ≡ t → is_phi x.op ≡ false
    go false e = e
    go true e = absurd (h x refl e)

true_is : (t : Bool) → t ≡ true → IsTrue t
true_is true e = refl
true_is false e = absurd cc

stands_is : (p : NumberedProgram) (f : ℕ) (y : Instr) (o : Option Instr) → o ≡ Some y → StandsIn p f o → function_of p y.block.0 ≡ f
stands_is p f y None e h = absurd h
stands_is p f y (Some z) e h = let same : z ≡ y = cc in subst (λ (w : Instr). function_of p w.block.0 ≡ f) same h

entry_in_first : (p : NumberedProgram) (f : ℕ) (x : Function) → IsProgram p → slice_get p.functions f ≡ Some x → IsInBlock x.first_block.0 (slice_get p.instrs (first_of p x.first_block.0))
unfolding first_of
entry_in_first p f x program e =
    let fits = program.functions f x e in
    let b = x.first_block.0 in
    let held : IsInFunction f (slice_get p.blocks b) = fits.holds b (omega arith) (omega (arith, fits.some)) in
    let within : b < length p.blocks = within_blocks p f b (slice_get p.blocks b) refl held in
    let some : first_in (slice_get p.blocks b) < end_in (slice_get p.blocks b) = some_in p b (slice_get p.blocks b) program refl within in
    holds_at p b (first_in (slice_get p.blocks b)) (slice_get p.blocks b) program refl (omega arith) some

first_block_is : (p : NumberedProgram) (f : ℕ) (x : Function) → slice_get p.functions f ≡ Some x → first_block_of p f ≡ x.first_block.0
unfolding first_block_of
first_block_is p f x e = ap first_block_in e

-- a function doesn't begin with a phi
pub entry_no_phi : (p : NumberedProgram) (f : ℕ) (x : Function) → IsProgram p → slice_get p.functions f ≡ Some x → IsNoPhi (slice_get p.instrs (entry_of p f))
unfolding entry_of
entry_no_phi p f x program e = no_phi_or p f (slice_get p.instrs (first_of p (first_block_of p f))) never (entry_stands p f x program e)
  where
    never : (y : Instr) → slice_get p.instrs (first_of p (first_block_of p f)) ≡ Some y → is_phi y.op ≡ true → ⊥
    never y at t =
        let b : first_block_of p f ≡ x.first_block.0 = first_block_is p f x e in
        let here : slice_get p.instrs (first_of p x.first_block.0) ≡ Some y = subst (λ (n : ℕ). slice_get p.instrs (first_of p n) ≡ Some y) b at in
        let block : y.block.0 ≡ x.first_block.0 = in_block x.first_block.0 y (slice_get p.instrs (first_of p x.first_block.0)) here (entry_in_first p f x program e) in
        let function : function_of p y.block.0 ≡ f = stands_is p f y (slice_get p.instrs (first_of p (first_block_of p f))) at (entry_stands p f x program e) in
        let fits = program.instrs (first_of p (first_block_of p f)) y at in
        (fits.phi (true_is (is_phi y.op) t)).entered (block ∙ sym b ∙ ap (first_block_of p) (sym function))

-- what follows an instruction that doesn't end its block and is no phi is no phi
phi_is : (x : Instr) (o : Option Instr) → o ≡ Some x → IsPhi o → is_phi x.op ≡ true
phi_is x None e h = absurd h
phi_is x (Some y) e h = let same : y ≡ x = cc in subst (λ (z : Instr). is_phi z.op ≡ true) same h

pub goes_on_no_phi : (p : NumberedProgram) (i : ℕ) (x : Instr) → IsProgram p → slice_get p.instrs i ≡ Some x → is_terminator x.op ≡ false → is_phi x.op ≡ false
    → IsNoPhi (slice_get p.instrs (i + 1))
goes_on_no_phi p i x program e n f = no_phi_or p (function_of p x.block.0) (slice_get p.instrs (i + 1)) never (goes_on p i x program e n)
  where
    never : (y : Instr) → slice_get p.instrs (i + 1) ≡ Some y → is_phi y.op ≡ true → ⊥
    never y at t =
        let fits = program.instrs i x e in
        let from : first_of p x.block.0 ≤ i = fits.from in
        let below : i + 1 < end_of p x.block.0 = not_last (is_terminator x.op) i (end_of p x.block.0) n fits.ends fits.before in
        let block : y.block.0 ≡ x.block.0 = in_block x.block.0 y (slice_get p.instrs (i + 1)) at (block_held p x.block.0 (i + 1) program (omega arith) below) in
        let first = (program.instrs (i + 1) y at).phi (true_is (is_phi y.op) t) in
        let phi : is_phi x.op ≡ true = phi_is x (slice_get p.instrs i) e (first.first i (subst (λ (b : ℕ). first_of p b ≤ i) (sym block) from) (omega arith)) in
        no_truth (sym f ∙ phi)

-- ---- behind the phis of a block

terminator_no_phi : (o : Op) → is_terminator o ≡ true → is_phi o ≡ true → ⊥
terminator_no_phi (op.Phi from) t h = cc
terminator_no_phi o t h = cc

-- the last instruction of a block ends it, so it is no phi
last_no_phi : (p : NumberedProgram) (b k : ℕ) (x : Instr) → IsProgram p → slice_get (instrs_of p b) k ≡ Some x → first_of p b + k + 1 ≡ end_of p b → is_phi x.op ≡ true → ⊥
last_no_phi p b k x program e l t =
    let at = got_in_block p b k x program e in
    let fits = program.instrs (first_of p b + k) x at.0 in
    let ends : IsTrue (is_terminator x.op) = fits.ends.1 (l ∙ sym (ap (end_of p) at.1)) in
    terminator_no_phi x.op ends t

rest_at : (n : ℕ) (xs : List Instr) (k : ℕ) → slice_get (drop n xs) k ≡ slice_get xs (n + k)
rest_at zero xs k = let z : 0 + k ≡ k = omega arith in rw z refl
rest_at (suc n) [] k = refl
rest_at (suc n) (y ∷ ys) k = let z : suc n + k ≡ suc (n + k) = omega arith in rw z (rest_at n ys k)

taken_at : (n : ℕ) (xs : List Instr) (k : ℕ) → k < n → slice_get (take n xs) k ≡ slice_get xs k
taken_at zero xs k h = absurd (omega arith)
taken_at (suc n) [] k h = refl
taken_at (suc n) (y ∷ ys) zero h = refl
taken_at (suc n) (y ∷ ys) (suc k) h = taken_at n ys k (omega arith)

block_at : (p : NumberedProgram) (b k : ℕ) → first_of p b + k < end_of p b → slice_get (instrs_of p b) k ≡ slice_get p.instrs (first_of p b + k)
unfolding instrs_of
block_at p b k h = taken_at (end_of p b - first_of p b) (drop (first_of p b) p.instrs) k (omega arith) ∙ rest_at (first_of p b) p.instrs k

passes_before : (xs : List Instr) (k : ℕ) (x : Instr) → slice_get xs k ≡ Some x → k < prefix_len (λ (y : Instr). is_phi y.op) xs → is_phi x.op ≡ true
passes_before xs k x e h = let same : get_or xs k x ≡ x = get_or_from_slice_get xs k x x e in
    subst (λ (y : Instr). is_phi y.op ≡ true) same (prefix_len_passes (λ (y : Instr). is_phi y.op) xs k x h)

stops_at : (xs : List Instr) (x : Instr) → slice_get xs (prefix_len (λ (y : Instr). is_phi y.op) xs) ≡ Some x → is_phi x.op ≡ false
stops_at xs x e =
    let n = prefix_len (λ (y : Instr). is_phi y.op) xs in
    let same : get_or xs n x ≡ x = get_or_from_slice_get xs n x x e in
    subst (λ (y : Instr). is_phi y.op ≡ false) same (prefix_len_stops (λ (y : Instr). is_phi y.op) xs x (slice_get_within xs n x e))

-- where an instruction of the block stands, there is one
there : (b : ℕ) (o : Option Instr) → IsInBlock b o → (x : Instr) × (o ≡ Some x)
there b None h = absurd h
there b (Some x) h = (x, refl)

few_or : (p : NumberedProgram) (b n k : ℕ) → IsProgram p → n ≡ prefix_len (λ (y : Instr). is_phi y.op) (instrs_of p b) → first_of p b + k + 1 ≡ end_of p b → (k < n) ⊎ (n ≤ k)
    → first_of p b + n < end_of p b
few_or p b n k program e l (inr h) = omega arith
few_or p b n k program e l (inl h) =
    let x = there b (slice_get p.instrs (first_of p b + k)) (block_held p b (first_of p b + k) program (omega arith) (omega arith)) in
    let at : slice_get (instrs_of p b) k ≡ Some x.0 = block_at p b k (omega arith) ∙ x.1 in
    absurd (last_no_phi p b k x.0 program at l (passes_before (instrs_of p b) k x.0 at (subst (λ (m : ℕ). k < m) e h)))

few_phis : (p : NumberedProgram) (b : ℕ) → IsProgram p → first_of p b < end_of p b → first_of p b + prefix_len (λ (y : Instr). is_phi y.op) (instrs_of p b) < end_of p b
few_phis p b program h =
    let n = prefix_len (λ (y : Instr). is_phi y.op) (instrs_of p b) in
    let k = end_of p b - first_of p b - 1 in
    few_or p b n k program refl (omega arith) (cases_lt k n)

phis_count : (p : NumberedProgram) (b : ℕ) → body_of p b ≡ first_of p b + prefix_len (λ (y : Instr). is_phi y.op) (instrs_of p b)
unfolding body_of phis_of
phis_count p b = ap (λ (n : ℕ). first_of p b + n) (length-prefix_len (λ (y : Instr). is_phi y.op) (instrs_of p b))

block_some : (p : NumberedProgram) (b : ℕ) → IsProgram p → b < length p.blocks → first_of p b < end_of p b
unfolding first_of end_of
block_some p b program h = some_in p b (slice_get p.blocks b) program refl h

-- behind the phis of a block stands an instruction of its function that is none
pub body_stands : (p : NumberedProgram) (b : ℕ) → IsProgram p → b < length p.blocks → StandsIn p (function_of p b) (slice_get p.instrs (body_of p b))
body_stands p b program h =
    let few = few_phis p b program (block_some p b program h) in
    rw (phis_count p b) (block_holds p b (first_of p b + prefix_len (λ (y : Instr). is_phi y.op) (instrs_of p b)) program (omega arith) few)

pub body_no_phi : (p : NumberedProgram) (b : ℕ) → IsProgram p → b < length p.blocks → IsNoPhi (slice_get p.instrs (body_of p b))
body_no_phi p b program h =
    let n = prefix_len (λ (y : Instr). is_phi y.op) (instrs_of p b) in
    let few : first_of p b + n < end_of p b = few_phis p b program (block_some p b program h) in
    let x = there b (slice_get p.instrs (first_of p b + n)) (block_held p b (first_of p b + n) program (omega arith) few) in
    let at : slice_get (instrs_of p b) n ≡ Some x.0 = block_at p b n few ∙ x.1 in
    rw (phis_count p b) (subst IsNoPhi (sym x.1) (stops_at (instrs_of p b) x.0 at))

-- a phi of block b
pub record IsPhiOf (p : NumberedProgram) (b : ℕ) (x : Instr) : Type 0 where
  pub place : ℕ
  pub fits : FitsInstr p place x
  pub block : x.block.0 ≡ b
  pub phi : is_phi x.op ≡ true

pub phis_are : (p : NumberedProgram) (b : ℕ) → IsProgram p → AllByRecursion (IsPhiOf p b) (phis_of p b)
unfolding phis_of
phis_are p b program = starts_with (IsPhiOf p b) (instrs_of p b) each
  where
    each : (k : ℕ) (x : Instr) → slice_get (instrs_of p b) k ≡ Some x → is_phi x.op ≡ true → IsPhiOf p b x
    each k x e t =
        let at = got_in_block p b k x program e in
        record { place = first_of p b + k; fits = program.instrs (first_of p b + k) x at.0; block = at.1; phi = t }
