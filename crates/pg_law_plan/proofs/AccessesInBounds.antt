-- The bytes of each access of a run lie in its pointer's bounds.
use Rattle.std.proofs.Common.{◌≡◌, ℕ, ℤ, ◌+◌, Bool, true, false, List, [], ◌∷◌, Option, Some, None, Result, Ok, Err, refl, subst, arith}
use Rattle.std.specs.Prelude.{not, nat_le, nat_lt, slice_get, slice_index, ⊤, if◌then◌else◌}
use Rattle.std.specs.List.{AllByRecursion as AllOf}
use Rattle.std.proofs.lemmas.Bool.{and_from, and_parts, leb-true, le-leb, lt-ltb, ltb-true}
use Rattle.pg_num.specs.Places.{ByteRange}
use Rattle.pg_num.specs.Pointers.{byte_place, is_aligned, is_in_range, place_of, pointer_of}
use Rattle.pg_num.specs.declared.places.PlaceFault.{PlaceFault}
use Rattle.pg_num.specs.declared.places.PlaceFault.TheVariants.{OutOfRange, Misaligned}
use Rattle.pg_ir.specs.declared.ids.InstrId.{InstrId}
use Rattle.pg_ir.specs.declared.library_call.LibraryCall.{LibraryCall}
use Rattle.pg_ir.specs.declared.library_call.LibraryCall.TheVariants as known
use Rattle.pg_ir.specs.declared.instr.Instr.{Instr}
use Rattle.pg_ir.specs.declared.instr.Op.{Op}
use Rattle.pg_ir.specs.declared.instr.Op.TheVariants as op
use Rattle.pg_ir.specs.declared.request.Request.{Request}
use Rattle.pg_ir.specs.declared.request.Request.TheVariants as requests
use Rattle.pg_ir.specs.Program.{NumberedProgram}
use Rattle.pg_run_thread.specs.declared.action.Action.{Action}
use Rattle.pg_run_thread.specs.declared.action.Action.TheVariants as actions
use Rattle.pg_run_trace.specs.declared.step.Access.{Access}
use Rattle.pg_run_trace.specs.declared.step.Step.{Step}
use Rattle.pg_run_trace.specs.Races.{is_in}
use Rattle.pg_run_trace.specs.Steps.{access_by, access_in, access_of, range_of}
use Rattle.pg_run.specs.MachineStep.{instr_told, kind_told, library_told, op_told, operands_in, step, step_told, write_told}
use Rattle.pg_run.specs.Named.{IsNamed, IsRequestNamed}
use Rattle.pg_run.specs.Runs.{IsRun, Takes}
use Rattle.pg_run.specs.State.{State, next_of}
use Rattle.pg_run.proofs.ActionPlaces.{next_named}
use Rattle.pg_law_effects.proofs.ToldByStep.{told}
use Rattle.pg_slice_rules.specs.Freeable.{bounds_of}

-- an access in the range of its pointer
abbrev pub IsPlaced : Option Access → Type 0
IsPlaced None = ⊤
IsPlaced (Some a) = is_in_range a.pointer a.bytes ≡ true

pub place_range : (word bytes : ℕ) (r : ByteRange) → place_of word bytes ≡ Ok r → is_in_range word bytes ≡ true
place_range word bytes r e = go (is_in_range word bytes) (is_aligned word bytes) e
  where
    go : (b c : Bool) → Path (Result ByteRange PlaceFault) (if not b then Err OutOfRange else if not c then Err Misaligned else Ok (record { start = byte_place word; bytes = bytes })) (Ok r)
        → b ≡ true
    go true c h = refl
    go false c h = absurd cc

known_placed : (ns : List ℕ) (n : ℕ) (k : LibraryCall) → IsPlaced (access_in (library_told ns n k))
known_placed ns n known.Malloc = tt
known_placed ns n k = tt

op_placed : (ns : List ℕ) (n : ℕ) (o : Op) → IsPlaced (access_in (op_told ns n o))
op_placed ns n (op.CondBr c a b) = tt
op_placed ns n (op.Switch w on other cases) = tt
op_placed ns n (op.Alloca bytes) = tt
op_placed ns n (op.CallLibrary k args) = known_placed ns n k
op_placed ns n o = tt

instr_placed : (ns : List ℕ) (n : ℕ) (o : Option Instr) → IsPlaced (access_in (instr_told ns n o))
instr_placed ns n None = tt
instr_placed ns n (Some x) = op_placed ns n x.op

request_placed : (s : State) (ns : List ℕ) (r : Request) → IsRequestNamed ns r → IsPlaced (access_by (write_told s ns r))
request_placed s ns (requests.Create r f n) h = place_range (slice_index ns 0) 8 r h
request_placed s ns (requests.Join n (Some r)) h = place_range (slice_index ns 1) 8 r h
request_placed s ns (requests.Join n None) h = tt
request_placed s ns r h = tt

kind_placed : (gated : List InstrId) (p : NumberedProgram) (s : State) (t : ℕ) (ns : List ℕ) (answer n : ℕ) (action : Action) → IsNamed ns action
    → IsPlaced (access_in (kind_told gated p s t ns answer n action))
kind_placed gated p s t ns answer n actions.Local h = instr_placed ns n (slice_get p.instrs (Rattle.pg_run.specs.State.instr_of s t))
kind_placed gated p s t ns answer n (actions.Load r) h = place_range (slice_index ns 0) r.bytes r h
kind_placed gated p s t ns answer n (actions.Store r m) h = place_range (slice_index ns 1) r.bytes r h
kind_placed gated p s t ns answer n (actions.Event r) h = request_placed s ns r h
kind_placed gated p s t ns answer n action h = tt

module _ (gated : List InstrId) (p : NumberedProgram) (input : List ℤ) where
  pub step_placed : (s : State) (x : Step) → Takes gated p input s x → IsPlaced (access_of x)
  step_placed s x h =
      let t = x.thread.0 in
      let k = told gated p input s h.after t x h.is_step in
      subst (λ (y : Step). IsPlaced (access_of y)) k.1 (kind_placed gated p s t (operands_in p (slice_get s.locals t)) k.0
      (Rattle.pg_run.specs.MachineStep.number_in p (slice_get s.locals t) k.0) (next_of p s t) (next_named p s t))

  pub run_placed : (s z : State) (xs : List Step) → IsRun gated p input s xs z → AllOf (λ (x : Step). IsPlaced (access_of x)) xs
  run_placed s z [] h = tt
  run_placed s z (x ∷ xs) h = (step_placed s x h.0, run_placed h.0.after z xs h.1)

-- such an access lies in the bounds
pub in_bounds : (a : Access) (b : ℕ) → is_in_range a.pointer a.bytes ≡ true → is_in (range_of a) b ≡ true → is_in (bounds_of a.pointer) b ≡ true
in_bounds a b h k =
    let q = pointer_of a.pointer in
    let u = and_parts (nat_le (q.offset + a.bytes) q.length) (nat_le (byte_place a.pointer + a.bytes) Rattle.pg_num.specs.declared.layout.TheConstants.MEMORY_BYTES) h in
    let v = and_parts (nat_le (byte_place a.pointer) b) (nat_lt b (byte_place a.pointer + a.bytes)) k in
    let i = leb-true (q.offset + a.bytes) q.length u.0 in
    let j = leb-true (byte_place a.pointer) b v.0 in
    let l = ltb-true b (byte_place a.pointer + a.bytes) v.1 in
    and_from (nat_le (bounds_of a.pointer).start b) (nat_lt b ((bounds_of a.pointer).start + (bounds_of a.pointer).bytes)) (le-leb (bounds_of a.pointer).start b (omega (arith, j)))
    (lt-ltb b ((bounds_of a.pointer).start + (bounds_of a.pointer).bytes) (omega (arith, i, l)))
