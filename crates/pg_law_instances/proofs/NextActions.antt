-- What the next action of a thread inside is, and where it leads.
use Rattle.std.proofs.Common.{◌≡◌, ℕ, ◌*◌, ◌%◌, ◌<◌, ◌^◌, Bool, true, false, cond, List, [], ◌∷◌, length, map, Option, Some, None, Result, Ok, Err, refl, sym}
use Rattle.std.proofs.Common.{ap, ◌∙◌, subst, arith, inl, inr, ◌⊎◌}
use Rattle.std.specs.Prelude.{Contains, slice_get, option_map, option_and_then, ◌==◌, if◌then◌else◌, IfOk}
use Rattle.std.proofs.lemmas.Bool.Decides.{nat_tests}
use Rattle.pg_num.specs.Numbers.{modulus, divided}
use Rattle.pg_num.specs.Places.{ByteRange}
use Rattle.pg_num.specs.Pointers.{byte_place, place_of}
use Rattle.pg_num.specs.declared.places.PlaceFault.{PlaceFault}
use Rattle.pg_num.specs.declared.places.PlaceFault.TheVariants as fault
use Rattle.pg_num.specs.declared.width.Width.{Width}
use Rattle.pg_num.specs.declared.width.Width.TheVariants.{W1, W8, W16, W32, W64}
use Rattle.pg_ir.specs.declared.library_call.LibraryCall.{LibraryCall}
use Rattle.pg_ir.specs.declared.library_call.LibraryCall.TheVariants as known
use Rattle.pg_ir.specs.declared.request.Request.TheVariants as requests
use Rattle.pg_ir.specs.declared.request.TrapName.TheVariants as traps
use Rattle.pg_ir.specs.declared.value.Value.{Value}
use Rattle.pg_ir.specs.declared.value.Index.{Index}
use Rattle.pg_ir.specs.declared.value.Scalar.{Scalar}
use Rattle.pg_ir.specs.declared.value.Scalar.TheVariants.{Int, Ptr}
use Rattle.pg_ir.specs.declared.instr.Instr.{Instr}
use Rattle.pg_ir.specs.declared.instr.Op.{Op}
use Rattle.pg_ir.specs.declared.instr.Op.TheVariants as op
use Rattle.pg_ir.specs.Program.{NumberedProgram, types_of, function_of, result_of}
use Rattle.pg_ir.specs.Edges.{is_terminator, targets_of, successors}
use Rattle.pg_ir.specs.WellFormed.{IsProgram, FitsOp, type_at}
use Rattle.pg_region_paths.specs.declared.path.Path.{Path}
use Rattle.pg_region_paths.specs.Paths.{loaded, root_path_of}
use Rattle.pg_region_paths.specs.Registers.{path_by, value_path, moved, has_pointer, is_pointer_type}
use Rattle.pg_region_accesses.specs.declared.rooted.Rooted.{Rooted}
use Rattle.pg_region_accesses.specs.Accesses.{RootedList, one_access, called_accesses, known_accesses, op_accesses}
use Rattle.pg_region_paths.proofs.Elements.{here}
use Rattle.pg_region_summaries.specs.Summaries.{AreSummaries}
use Rattle.pg_run_thread.specs.declared.action.Action.{Action}
use Rattle.pg_run_thread.specs.declared.action.Action.TheVariants as actions
use Rattle.pg_run_thread.specs.LocalState.{Frame, LocalState, own_memory}
use Rattle.pg_run_thread.specs.Operands.{operand, operands_of, number_at, given, argument}
use Rattle.pg_run_thread.specs.Compute.{chosen}
use Rattle.pg_run_thread.specs.EdgeStep.{case_of}
use Rattle.pg_run_thread.specs.States.{Calls, CallsFunction}
use Rattle.pg_run_thread.specs.Step as step
use Rattle.pg_run_thread.specs.Step.{op_action, op_after, on_all, on_place, placed, are_set, call_action, return_action, stepped, entered, bytes_of}
use Rattle.pg_run_thread.specs.Step.{result_number, target_in, total, under_top}
use Rattle.pg_run.proofs.Actions.{OfTraps, on_value_is, on_all_is, edge_is, call_is, divided_is}
use Rattle.pg_slice_replay.specs.pg_slice_rules.Freeable.{bounds_of}
use Rattle.pg_law_instances.specs.Leads.{IsReached, IsWithin, Leads, HasPath, KeepsCells}
use Rattle.pg_law_instances.specs.Inside.{Instance, IsQuietSet, Stands, Waits, edge_taken, region_set}
use Rattle.pg_law_instances.proofs.FollowedPaths.{within_bounds, some_bytes, first_byte}
use Rattle.pg_law_instances.proofs.PathsOfValues.{load_has, gep_has, access_reached}
use Rattle.pg_law_instances.proofs.FramePlaces.{at_block}
use Rattle.pg_law_instances.proofs.FramesBehindSteps.{table, types_at, stepped_stands}
use Rattle.pg_law_instances.proofs.FramesBehindEdges.{edge_stands, target_fits, successors_of, chosen_among, switched_among}
use Rattle.pg_law_instances.proofs.QuietCallAccesses.{value_has, argument_set, called_quiet, called_set}
use Rattle.pg_law_instances.proofs.TopFrames.{AtJoin, Arrived, Top, top_of}
use Rattle.pg_num.proofs.Accesses.{place_of-bytes}
use Rattle.pg_region_summaries.specs.Blocks.{blocks_of}

-- an access through this pointer, of an instruction that isn't gated, lies in its bounds, which are the recorded bounds of an access
-- of its kind
pub record Accesses (I : Instance) (place : ℕ) (writes : Bool) (word : ℕ) (r : ByteRange) : Type 0 where
  pub plain : I.gated place ≡ false
  pub reached : IsReached I.recorded writes (bounds_of word)
  pub within : IsWithin r (bounds_of word)
  pub start : r.start ≡ byte_place word
  pub some : 0 < r.bytes

-- where the actions of an operation lead, in a state with this memory: none is an event
abbrev pub Goes : Instance → (ByteRange → ℕ) → LocalState → ℕ → List (Option ℕ) → Instr → Op → Action → Type 0
Goes I m l place rs x o actions.Local = Arrived I (under_top l.frames) (edge_taken I.program rs o) (op_after I.program l x 0 o)
Goes I m l place rs x o (actions.In i) = (n : ℕ) → Arrived I (under_top l.frames) (edge_taken I.program rs o) (op_after I.program l x n o)
Goes I m l place rs x o actions.InLen = (n : ℕ) → Arrived I (under_top l.frames) (edge_taken I.program rs o) (op_after I.program l x n o)
Goes I m l place rs x o (actions.Load r) = Accesses I place false (number_at I.program rs (operands_of o) 0) r
    × Arrived I (under_top l.frames) (edge_taken I.program rs o) (op_after I.program l x (m r) o)
Goes I m l place rs x o (actions.Store r n) = Accesses I place true (number_at I.program rs (operands_of o) 1) r
    × Arrived I (under_top l.frames) (edge_taken I.program rs o) (op_after I.program l x 0 o)
Goes I m l place rs x o (actions.Event r) = ⊥
Goes I m l place rs x o (actions.Trap name) = Unit {0}
Goes I m l place rs x o actions.Ended = Unit {0}

-- ---- actions with what is known of them

all_known : (Q : Action → Type 0) (p : NumberedProgram) (rs : List (Option ℕ)) (vs : List Value) (act : Action) → OfTraps Q → (are_set p rs vs ≡ true → Q act) → Q (on_all p rs vs act)
all_known Q p rs vs act t h = go (are_set p rs vs) refl
  where
    go : (b : Bool) → are_set p rs vs ≡ b → Q (if b then act else actions.Trap traps.Unset)
    go true e = h e
    go false e = t traps.Unset

pub place_known : (Q : Action → Type 0) (word bytes : ℕ) (act : ByteRange → Action) → OfTraps Q → ((r : ByteRange) → place_of word bytes ≡ Ok r → Q (act r))
    → Q (on_place word bytes act)
place_known Q word bytes act t h = go (place_of word bytes) refl
  where
    go : (o : Result ByteRange PlaceFault) → place_of word bytes ≡ o → Q (placed o act)
    go (Ok r) e = h r e
    go (Err fault.OutOfRange) e = t traps.OutOfRange
    go (Err fault.Misaligned) e = t traps.Misaligned

width_bytes : (w : Width) → 0 < bytes_of w
width_bytes W1 = omega arith
width_bytes W8 = omega arith
width_bytes W16 = omega arith
width_bytes W32 = omega arith
width_bytes W64 = omega arith

-- ---- accesses of single instructions

-- a single access
pub record OneAccess (gated : Bool) (i : ℕ) (writes : Bool) (o : Option Path) (zs : RootedList) : Type 0 where
  pub plain : gated ≡ false
  pub path : Path
  pub is_path : o ≡ Some path
  pub among : zs ≡ record { instr = record { 0 = i }; writes = writes; path = root_path_of path } ∷ []

one_is : (gated : Bool) (i : ℕ) (writes : Bool) (o : Option Path) (zs : RootedList) → cond gated None (one_access i writes o) ≡ Some zs → OneAccess gated i writes o zs
one_is true i writes o zs e = absurd cc
one_is false i writes None zs e = absurd cc
one_is false i writes (Some q) zs e = record { plain = refl; path = q; is_path = refl; among = cc }

may : (b : Bool) (zs : RootedList) → cond b (Some []) None ≡ Some zs → b ≡ true
may true zs e = refl
may false zs e = absurd cc

not_first : (f g : Frame) (fs : List Frame) → (length (f ∷ g ∷ fs) == 1) ≡ false
not_first f g fs = grind (arith, nat_tests)

deep : (p : NumberedProgram) (f : Frame) (g : ℕ) (fs : List Frame) → Waits p g fs → (length (f ∷ fs) == 1) ≡ false
deep p f g [] w = absurd w
deep p f g (h ∷ hs) w = not_first f h hs

entered_is : (p : NumberedProgram) (g height : ℕ) (vs : List (Option ℕ)) → (entered p g height vs).function ≡ g
unfolding entered
entered_is p g height vs = refl

called_op : (g : ℕ) (o : Op) → CallsFunction g o → (is_terminator o ≡ false) × ((f : ℕ → Option Path) (b : Bool) (q : Path) → path_by f b o ≡ Some q → ⊥)
called_op g (op.Call h args) c = (refl, λ f b q e. cc)
called_op g o c = absurd c

-- a return leads to the frame below, which goes on behind its call
pub returns_to : (I : Instance) (g n : ℕ) (fs : List Frame) → IsProgram I.program → IsQuietSet I (region_set I) → Waits I.program g fs → Stands I fs
    → Stands I (step.returned I.program fs n)
returns_to I g n [] program region w s = absurd w
returns_to I g n (h ∷ hs) program region w s = go (slice_get I.program.instrs h.place) refl w
  where
    go : (o : Option Instr) → slice_get I.program.instrs h.place ≡ o → Calls g o → Stands I (stepped h (target_in (slice_get I.program.instrs h.place)) n ∷ hs)
    go None e c = absurd c
    go (Some y) e c =
        let top = top_of I h hs region s in
        let k = called_op g y.op c in
        subst (λ (o : Option Instr). Stands I (stepped h (target_in o) n ∷ hs)) (sym e)
        (top.again (stepped h y.result n) refl refl (stepped_stands I top.set h y n program top.stands e k.0
        (λ q t. absurd (k.1 (table I top.set h top.stands) (has_pointer (types_at I top.set h top.stands) y.result) q t))))

-- ---- the width of a loaded pointer

pointer_type : (types : List Scalar) (target : Option ℕ) → has_pointer types target ≡ true → type_at types target ≡ Some Ptr
pointer_type types None e = absurd cc
pointer_type types (Some r) e = go (slice_get types r) e
  where
    go : (o : Option Scalar) → is_pointer_type o ≡ true → o ≡ Some Ptr
    go None e = absurd cc
    go (Some Ptr) e = refl
    go (Some (Int w)) e = absurd cc

loads_pointer : (p : NumberedProgram) (types : List Scalar) (returns result : Option Scalar) (w : Width) (from : Value) → FitsOp p types returns result (op.Load w from) → result ≡ Some Ptr
    → W64 ≡ w
loads_pointer p types returns None w from h e = absurd cc
loads_pointer p types returns (Some Ptr) w from h e = h.0
loads_pointer p types returns (Some (Int v)) w from h e = absurd cc

small_mod : (n : ℕ) (w : Width) → W64 ≡ w → n < 2 ^ 64 → n % modulus w ≡ n
small_mod n w e h = subst (λ (v : Width). n % modulus v ≡ n) e (let k : n < 2 ^ 64 = h in omega (arith, k))

mapped : (is : List Index) (o : Option Path) (q : Path) → option_map (moved is) o ≡ Some q → (b : Path) × (o ≡ Some b) × (moved is b ≡ q)
mapped is None q e = absurd cc
mapped is (Some b) q e = (b, refl, cc)

thened : (o : Option Path) (q : Path) → option_and_then loaded o ≡ Some q → (b : Path) × (o ≡ Some b) × (loaded b ≡ Some q)
thened None q e = absurd cc
thened (Some b) q e = (b, refl, e)

module _ (I : Instance) (program : IsProgram I.program) (sums : AreSummaries I.program I.gated I.sums) (region : IsQuietSet I (region_set I)) (m : ByteRange → ℕ)
    (keeps : KeepsCells I.recorded I.memory m) (small : (r : ByteRange) → m r < 2 ^ (8 * r.bytes))
    (thread heap : ℕ) (halfway : Bool) (f : Frame) (fs : List Frame) (inside : Stands I (f ∷ fs)) (x : Instr) (at : slice_get I.program.instrs f.place ≡ Some x) where
  abbrev l : LocalState
  l = record { thread = thread; begun = true; halfway = halfway; frames = f ∷ fs; heap = heap }

  abbrev top : Top I f fs
  top = top_of I f fs region inside

  abbrev rs : List (Option ℕ)
  rs = f.registers

  abbrev Q : Op → Action → Type 0
  Q o = Goes I m l f.place rs x o

  abbrev paths : ℕ → Option Path
  paths = table I top.set f top.stands

  abbrev is_pointer : Bool
  is_pointer = has_pointer (types_at I top.set f top.stands) x.result

  abbrev HasIt : Path → ℕ → Type 0
  HasIt q n = HasPath I.program top.set.registers I.memory I.recorded q n

  -- an instruction that sets its register
  straight : (o : Op) → x.op ≡ o → is_terminator o ≡ false → (n : ℕ) → ((q : Path) → path_by paths is_pointer o ≡ Some q → HasIt q n)
      → Arrived I fs (edge_taken I.program rs o) (stepped f x.result n ∷ fs)
  straight o e t n h = inl (top.again (stepped f x.result n) refl refl
      (stepped_stands I top.set f x n program top.stands at (ap is_terminator e ∙ t) (subst (λ (z : Op). (q : Path) → path_by paths is_pointer z ≡ Some q → HasIt q n) (sym e) h)))

  -- an edge
  edge : (o : Op) → x.op ≡ o → is_terminator o ≡ true → (to : ℕ) → Contains (targets_of o) to → edge_taken I.program rs o ≡ Some to
      → Arrived I fs (edge_taken I.program rs o) (step.moved I.program f x.block.0 to ∷ fs)
  edge o e t to c taken = go (top.quiet.edges top.stands.block to top.stands.among among)
    where
      here_at : Contains (targets_of x.op) to
      here_at = subst (λ (z : Op). Contains (targets_of z) to) (sym e) c

      block : x.block.0 ≡ top.stands.block
      block = (at_block I top.set f x program top.stands at).0

      among : Contains (successors I.program top.stands.block) to
      among = subst (λ (b : ℕ). Contains (successors I.program b) to) block
          (subst (λ (ts : List ℕ). Contains ts to) (sym (successors_of I.program f.place x program at (ap is_terminator e ∙ t))) here_at)

      fits : (to < length I.program.blocks) × (function_of I.program to ≡ function_of I.program x.block.0)
      fits = target_fits I.program f.place x to program at here_at

      go : Contains top.set.blocks to ⊎ ((top.set.returns ≡ false) × (to ≡ I.join)) → Arrived I fs (edge_taken I.program rs o) (step.moved I.program f x.block.0 to ∷ fs)
      go (inl d) = inl (top.again (step.moved I.program f x.block.0 to) refl refl
          (edge_stands I top.set f x.block.0 to program fits.0 (fits.1 ∙ ap (function_of I.program) block ∙ top.stands.function) d top.stands.kept))
      go (inr j) = let k = top.joins j.0 x.block.0 in inr (subst (λ (b : ℕ). AtJoin I (step.moved I.program f x.block.0 b ∷ fs)) (sym j.1) k.0, k.1, taken ∙ ap (λ (b : ℕ). Some b) j.1)

  -- ---- the operations, one by one

  abbrev Quietly : Op → RootedList → Type 0
  Quietly o zs = op_accesses top.set.returns I.gated I.sums paths f.place o ≡ Some zs

  abbrev Leading : RootedList → Type 0
  Leading zs = (z : Rooted) → Contains zs z → Leads I.program top.set.registers I.memory I.recorded z

  given_is : (v : Value) (w : ℕ) → operand I.program rs v ≡ Some w → given (operand I.program rs v) ≡ w
  given_is v w e = ap given e

  known_goes : (k : LibraryCall) (args : List Value) (zs : RootedList) → x.op ≡ op.CallLibrary k args → known_accesses k ≡ Some zs
      → Q (op.CallLibrary k args) (step.library_action I.program thread halfway rs k args)
  known_goes known.PgIn args zs e q = on_value_is (Q (op.CallLibrary known.PgIn args)) (argument I.program rs args 0) _ (λ n. tt)
      (λ i t n. straight (op.CallLibrary known.PgIn args) e refl _ (λ q k. absurd cc))
  known_goes known.PgInLen args zs e q = λ n. straight (op.CallLibrary known.PgInLen args) e refl _ (λ q k. absurd cc)
  known_goes _ args zs e q = absurd cc

  load_goes : (w : Width) (from : Value) (zs : RootedList) → x.op ≡ op.Load w from → OneAccess (I.gated f.place) f.place false (value_path paths from) zs → Leading zs
      → Q (op.Load w from) (op_action I.program (own_memory l) halfway rs (length (f ∷ fs)) (total (f ∷ fs)) x.block.0 (op.Load w from))
  load_goes w from zs e one h =
      on_value_is (Q (op.Load w from)) (operand I.program rs from) _ (λ n. tt) (λ a o.
      place_known (Q (op.Load w from)) a (bytes_of w) _ (λ n. tt) (λ r t. (accessed a o r t, straight (op.Load w from) e refl (m r % modulus w) (λ q k. loads a o r t q is_pointer refl k))))
    where
      has : (a : ℕ) → operand I.program rs from ≡ Some a → HasIt one.path a
      has a o = value_has I top.set f top.stands from one.path a one.is_path o

      access : Rooted
      access = record { instr = record { 0 = f.place }; writes = false; path = root_path_of one.path }

      lead : Leads I.program top.set.registers I.memory I.recorded access
      lead = h access (subst (λ (l : RootedList). Contains l access) (sym one.among) (here access []))

      accessed : (a : ℕ) → operand I.program rs from ≡ Some a → (r : ByteRange) → place_of a (bytes_of w) ≡ Ok r → Accesses I f.place false (given (operand I.program rs from)) r
      accessed a o r t = rw o (record {
        plain = one.plain;
        reached = access_reached I.program top.set.registers I.memory I.recorded access one.path a lead refl (has a o);
        within = within_bounds a (bytes_of w) r t;
        start = first_byte a (bytes_of w) r t;
        some = some_bytes a (bytes_of w) r (width_bytes w) t;
      })

      width : is_pointer ≡ true → W64 ≡ w
      width p =
          let b = (at_block I top.set f x program top.stands at).0 in
          let fits : FitsOp I.program (types_of I.program (function_of I.program x.block.0)) (result_of I.program (function_of I.program x.block.0))
          (type_at (types_of I.program (function_of I.program x.block.0)) x.result) (op.Load w from) =
          subst (λ (z : Op). FitsOp I.program (types_of I.program (function_of I.program x.block.0)) (result_of I.program (function_of I.program x.block.0))
          (type_at (types_of I.program (function_of I.program x.block.0)) x.result) z) e (program.instrs f.place x at).op in
          loads_pointer I.program (types_of I.program (function_of I.program x.block.0)) (result_of I.program (function_of I.program x.block.0))
          (type_at (types_of I.program (function_of I.program x.block.0)) x.result) w from fits
          (pointer_type (types_of I.program (function_of I.program x.block.0)) x.result (subst (λ (c : ℕ). has_pointer (types_of I.program (function_of I.program c)) x.result ≡ true) (sym b) p))

      loads : (a : ℕ) → operand I.program rs from ≡ Some a → (r : ByteRange) → place_of a (bytes_of w) ≡ Ok r → (q : Path) (b : Bool) → is_pointer ≡ b
          → path_by paths b (op.Load w from) ≡ Some q → HasIt q (m r % modulus w)
      loads a o r t q false p k = absurd cc
      loads a o r t q true p k =
          let v = thened (value_path paths from) q k in
          let same : one.path ≡ v.0 = (let z : Some one.path ≡ Some v.0 = sym one.is_path ∙ v.1 in cc) in
          let wide : W64 ≡ w = width p in
          let t8 : place_of a 8 ≡ Ok r = subst (λ (z : Width). place_of a (bytes_of z) ≡ Ok r) (sym wide) t in
          load_has I.program top.set.registers I.memory I.recorded one.path q a (m r % modulus w) r m keeps (has a o) (subst (λ (z : Path). loaded z ≡ Some q) (sym same) v.2) t8
          (small_mod (m r) w wide (eight a r t8))
        where
          eight : (a : ℕ) (r : ByteRange) → place_of a 8 ≡ Ok r → m r < 2 ^ 64
          eight a r t = go (place_of a 8) t (place_of-bytes a 8)
            where
              go : (o : Result ByteRange PlaceFault) → o ≡ Ok r → IfOk o (λ r. r.bytes ≡ 8) → m r < 2 ^ 64
              go (Err g) u v = absurd cc
              go (Ok s) u v = let z : s ≡ r = cc in let n : r.bytes ≡ 8 = subst (λ (y : ByteRange). y.bytes ≡ 8) z v in let k : m r < 2 ^ (8 * 8) =
                  subst (λ (y : ℕ). m r < 2 ^ (8 * y)) n (small r) in k

  store_goes : (w : Width) (v to : Value) (zs : RootedList) → x.op ≡ op.Store w v to → OneAccess (I.gated f.place) f.place true (value_path paths to) zs → Leading zs
      → Q (op.Store w v to) (op_action I.program (own_memory l) halfway rs (length (f ∷ fs)) (total (f ∷ fs)) x.block.0 (op.Store w v to))
  store_goes w v to zs e one h =
      on_value_is (Q (op.Store w v to)) (operand I.program rs v) _ (λ n. tt) (λ n u.
      on_value_is (Q (op.Store w v to)) (operand I.program rs to) _ (λ n. tt) (λ a o.
      place_known (Q (op.Store w v to)) a (bytes_of w) _ (λ n. tt) (λ r t. (accessed a o r t, straight (op.Store w v to) e refl _ (λ q k. absurd cc)))))
    where
      access : Rooted
      access = record { instr = record { 0 = f.place }; writes = true; path = root_path_of one.path }

      lead : Leads I.program top.set.registers I.memory I.recorded access
      lead = h access (subst (λ (l : RootedList). Contains l access) (sym one.among) (here access []))

      accessed : (a : ℕ) → operand I.program rs to ≡ Some a → (r : ByteRange) → place_of a (bytes_of w) ≡ Ok r → Accesses I f.place true (given (operand I.program rs to)) r
      accessed a o r t = rw o (record {
        plain = one.plain;
        reached = access_reached I.program top.set.registers I.memory I.recorded access one.path a lead refl (value_has I top.set f top.stands to one.path a one.is_path o);
        within = within_bounds a (bytes_of w) r t;
        start = first_byte a (bytes_of w) r t;
        some = some_bytes a (bytes_of w) r (width_bytes w) t;
      })

  gep_goes : (base : Value) (indices : List Index) → x.op ≡ op.Gep base indices → Q (op.Gep base indices) (on_all I.program rs (operands_of (op.Gep base indices)) actions.Local)
  gep_goes base indices e = all_known (Q (op.Gep base indices)) I.program rs (operands_of (op.Gep base indices)) actions.Local (λ n. tt)
      (λ set. straight (op.Gep base indices) e refl _ (λ q k. moves set q k))
    where
      moves : are_set I.program rs (operands_of (op.Gep base indices)) ≡ true → (q : Path) → path_by paths is_pointer (op.Gep base indices) ≡ Some q
          → HasIt q (result_number I.program (own_memory l) rs (op.Gep base indices) 0)
      moves set q k =
          let b = mapped indices (value_path paths base) q k in
          let w = argument_set I.program rs (operands_of (op.Gep base indices)) 0 base set refl in
          let h : HasIt b.0 w.0 = value_has I top.set f top.stands base b.0 w.0 b.1 w.1 in
          let h' : HasIt b.0 (number_at I.program rs (operands_of (op.Gep base indices)) 0) = subst (λ (n : ℕ). HasIt b.0 n) (sym (given_is base w.0 w.1)) h in
          subst (λ (z : Path). HasIt z (result_number I.program (own_memory l) rs (op.Gep base indices) 0)) b.2
          (gep_has I.program top.set.registers I.memory I.recorded rs base indices b.0 (number_at I.program rs (operands_of (op.Gep base indices)) 0) h')

  call_goes : (g : ℕ) (args : List Value) (zs : RootedList) → x.op ≡ op.Call g args → called_accesses paths args (I.sums g) ≡ Some zs → Leading zs
      → Q (op.Call g args) (on_all I.program rs args (call_action I.program g (length (f ∷ fs)) (total (f ∷ fs))))
  call_goes g args zs e c h = all_known (Q (op.Call g args)) I.program rs args _ (λ n. tt)
      (λ set. call_is (Q (op.Call g args)) I.program g (length (f ∷ fs)) (total (f ∷ fs)) (λ n. tt) (inl (pushed set)))
    where
      function : g < length I.program.functions
      function =
          let fits : FitsOp I.program (types_of I.program (function_of I.program x.block.0)) (result_of I.program (function_of I.program x.block.0))
          (type_at (types_of I.program (function_of I.program x.block.0)) x.result) (op.Call g args) =
          subst (λ (z : Op). FitsOp I.program (types_of I.program (function_of I.program x.block.0)) (result_of I.program (function_of I.program x.block.0))
          (type_at (types_of I.program (function_of I.program x.block.0)) x.result) z) e (program.instrs f.place x at).op in
          fits.1

      waits : Calls g (slice_get I.program.instrs f.place)
      waits = subst (λ (o : Option Instr). Calls g o) (sym at) (subst (λ (z : Op). CallsFunction g z) (sym e) refl)

      pushed : are_set I.program rs args ≡ true → Stands I (entered I.program g f.height (map (operand I.program rs) args) ∷ f ∷ fs)
      pushed set =
          let c' = called_quiet I top.set f g f.height args zs program sums top.stands function c h set in
          let n = entered_is I.program g f.height (map (operand I.program rs) args) in
          inr (
            record {
              set = called_set I.program g c'.accesses (entered I.program g f.height (map (operand I.program rs) args));
              returns = refl;
              blocks = ap (blocks_of I.program) (sym n);
              quiet = c'.quiet;
              waits = subst (λ (k : ℕ). Waits I.program k (f ∷ fs)) (sym n) waits;
              stands = c'.stands;
            },
            inside,
          )

  return_goes : (v : Option Value) → top.set.returns ≡ true → Q (op.Ret v) (op_action I.program (own_memory l) halfway rs (length (f ∷ fs)) (total (f ∷ fs)) x.block.0 (op.Ret v))
  return_goes v r = by_value v
    where
      below : Waits I.program f.function fs × Stands I fs
      below = top.above r

      back : (v : Option Value) (n : ℕ) → Q (op.Ret v) (return_action (length (f ∷ fs)) n)
      back v n = subst (λ (b : Bool). Q (op.Ret v) (if b then actions.Event (requests.Exit n true) else actions.Local)) (sym (deep I.program f f.function fs below.0))
          (inl (returns_to I f.function (number_at I.program rs (operands_of (op.Ret v)) 0) fs program region below.0 below.1))

      by_value : (v : Option Value) → Q (op.Ret v) (op_action I.program (own_memory l) halfway rs (length (f ∷ fs)) (total (f ∷ fs)) x.block.0 (op.Ret v))
      by_value None = back None 0
      by_value (Some w) = on_value_is (Q (op.Ret (Some w))) (operand I.program rs w) _ (λ n. tt) (λ n e. back (Some w) n)

  plain_goes : (o : Op) → x.op ≡ o → is_terminator o ≡ false → ((q : Path) → path_by paths is_pointer o ≡ Some q → ⊥)
      → op_after I.program l x 0 o ≡ stepped f x.result (result_number I.program (own_memory l) rs o 0) ∷ fs → (vs : List Value) → Q o (on_all I.program rs vs actions.Local)
  plain_goes o e t none s vs = on_all_is (Q o) I.program rs vs actions.Local (λ n. tt)
      (subst (Arrived I fs (edge_taken I.program rs o)) (sym s) (straight o e t (result_number I.program (own_memory l) rs o 0) (λ q k. absurd (none q k))))

  -- the action of a quiet operation: no event; an access leads to the recorded bounds of an access of its kind; and the
  -- thread is inside or at the join behind it
  pub op_goes : (o : Op) (zs : RootedList) → x.op ≡ o → Quietly o zs → Leading zs → Q o (op_action I.program (own_memory l) halfway rs (length (f ∷ fs)) (total (f ∷ fs)) x.block.0 o)
  op_goes (op.Divide d w a b) zs e q h =
      on_value_is (Q (op.Divide d w a b)) (operand I.program rs a) _ (λ n. tt)
      (λ i u. on_value_is (Q (op.Divide d w a b)) (operand I.program rs b) _ (λ n. tt)
      (λ j v. divided_is (Q (op.Divide d w a b)) (divided d w i j) (λ n. tt) (straight (op.Divide d w a b) e refl _ (λ q k. absurd cc))))
  op_goes (op.Phi from) zs e q h = tt
  op_goes (op.Br to) zs e q h = edge_is (Q (op.Br to)) I.program rs x.block.0 to.0 (λ n. tt) (edge (op.Br to) e refl to.0 (here to.0 []) refl)
  op_goes (op.CondBr c a b) zs e q h =
      on_value_is (Q (op.CondBr c a b)) (operand I.program rs c) _ (λ n. tt)
      (λ n u. edge_is (Q (op.CondBr c a b)) I.program rs x.block.0 (chosen n a.0 b.0) (λ n. tt)
      (edge (op.CondBr c a b) e refl (chosen (given (operand I.program rs c)) a.0 b.0) (chosen_among (given (operand I.program rs c)) a.0 b.0) refl))
  op_goes (op.Switch w on other cases) zs e q h =
      on_value_is (Q (op.Switch w on other cases)) (operand I.program rs on) _ (λ n. tt)
      (λ n u. edge_is (Q (op.Switch w on other cases)) I.program rs x.block.0 (case_of cases other.0 n) (λ n. tt)
      (edge (op.Switch w on other cases) e refl (case_of cases other.0 (given (operand I.program rs on))) (switched_among cases other.0 (given (operand I.program rs on))) refl))
  op_goes (op.Call g args) zs e q h = call_goes g args zs e q h
  op_goes (op.Ret v) zs e q h = return_goes v (may top.set.returns zs q)
  op_goes op.Unreachable zs e q h = tt
  op_goes (op.Alloca bytes) zs e q h = absurd cc
  op_goes (op.Load w from) zs e q h = load_goes w from zs e (one_is (I.gated f.place) f.place false (value_path paths from) zs q) h
  op_goes (op.Store w v to) zs e q h = store_goes w v to zs e (one_is (I.gated f.place) f.place true (value_path paths to) zs q) h
  op_goes (op.Gep base indices) zs e q h = gep_goes base indices e
  op_goes (op.CallLibrary k args) zs e q h = known_goes k args zs e q
  op_goes o zs e q h = plain_goes o e refl (λ q k. cc) refl (operands_of o)
