-- A call of a quiet function within an instance: what it accesses leads to recorded bounds, too.
use Rattle.std.proofs.Common.{◌≡◌, ℕ, zero, suc, ◌-◌, ◌<◌, Bool, true, false, cond, List, [], ◌∷◌, ◌++◌, length, map, replicate, Option, Some, None, refl, sym, ap}
use Rattle.std.proofs.Common.{◌∙◌, subst, arith, inl}
use Rattle.std.specs.Prelude.{Contains, slice_get, nat_lt, nat_le}
use Rattle.std.proofs.lemmas.Bool.{and_parts}
use Rattle.pg_ir.specs.declared.function.Function.{Function}
use Rattle.pg_ir.specs.declared.function.GlobalInfo.{GlobalInfo}
use Rattle.pg_ir.specs.declared.value.Value.{Value}
use Rattle.pg_ir.specs.declared.value.Value.TheVariants as value
use Rattle.pg_ir.specs.declared.instr.Instr.{Instr}
use Rattle.pg_ir.specs.Program.{NumberedProgram, types_of, function_of, first_of, end_of, entry_of, first_block_of, first_block_in, parameter_count}
use Rattle.pg_ir.specs.Edges.{targets_in, successors}
use Rattle.pg_ir.specs.WellFormed.{IsProgram, IsInBlock, IsInFunction}
use Rattle.pg_ir.proofs.FunctionPlaces.{block_held, some_in, first_in_function, within_blocks}
use Rattle.pg_region_paths.specs.declared.path.Root.{Root}
use Rattle.pg_region_paths.specs.declared.path.Root.TheVariants as root
use Rattle.pg_region_paths.specs.declared.path.RootPath.{RootPath}
use Rattle.pg_region_paths.specs.declared.path.Path.{Path}
use Rattle.pg_region_paths.specs.Paths.{composed, rooted}
use Rattle.pg_region_paths.specs.FollowedPaths as followed
use Rattle.pg_region_paths.specs.FollowedPaths.{PathPointers, followed_from, root_value}
use Rattle.pg_region_paths.specs.Registers.{value_path}
use Rattle.pg_region_accesses.specs.declared.rooted.Rooted.{Rooted}
use Rattle.pg_region_accesses.specs.Accesses.{RootedList, with_path, behind_path, behind_argument, called_access, called_accesses, sets, set_accesses}
use Rattle.pg_region_accesses.specs.Laws.{IsOutside}
use Rattle.pg_region_paths.proofs.Elements.{here}
use Rattle.pg_region_accesses.proofs.QuietInstructions.{set_outside}
use Rattle.pg_region_summaries.specs.Blocks.{blocks_of}
use Rattle.pg_region_summaries.specs.Summaries.{AreSummaries, seen_root, with_root, seen, if_few, seen_by_callers}
use Rattle.pg_region_summaries.specs.declared.limits.TheConstants.{SUMMARY_LIMIT}
use Rattle.pg_region_summaries.proofs.BlockSpans.{has_block, only_blocks}
use Rattle.pg_run_thread.specs.LocalState.{Frame}
use Rattle.pg_run_thread.specs.Operands.{operand, flat, pointer_to}
use Rattle.pg_run_thread.specs.EdgeStep.{is_set}
use Rattle.pg_run_thread.specs.Step.{entered, are_set}
use Rattle.pg_slice_replay.specs.pg_slice_rules.Freeable.{bounds_of}
use Rattle.pg_law_instances.specs.Leads.{HasPath, Leads, IsReached}
use Rattle.pg_law_instances.specs.Inside.{Instance, QuietSet, IsQuietSet, StandsIn, registers_by}
use Rattle.pg_law_instances.proofs.FramePlaces.{gathered_part}
use Rattle.pg_law_instances.proofs.FramesBehindSteps.{table}
use Rattle.pg_law_instances.proofs.FramesBehindEdges.{target_fits}
use Rattle.pg_law_instances.proofs.PathsOfValues.{root_has, argument_leads}

-- ---- the value of an operand has its path

pointers_same : (o : Option GlobalInfo) → followed.pointer_to o ≡ pointer_to o
pointers_same None = refl
pointers_same (Some g) = refl

pub value_has : (I : Instance) (a : QuietSet) (f : Frame) (s : StandsIn I a f) (v : Value) (q : Path) (w : ℕ) → value_path (table I a f s) v ≡ Some q
    → operand I.program f.registers v ≡ Some w → HasPath I.program a.registers I.memory I.recorded q w
value_has I a f s (value.Register r) q w e o = s.paths r q w e o
value_has I a f s (value.Const n) q w e o =
    let t : rooted (root.Const n) ≡ q = cc in
    subst (λ (z : Path). HasPath I.program a.registers I.memory I.recorded z w) t (root_has I.program a.registers I.memory I.recorded (root.Const n) w o)
value_has I a f s (value.Global g) q w e o =
    let t : rooted (root.Global g) ≡ q = cc in
    subst (λ (z : Path). HasPath I.program a.registers I.memory I.recorded z w) t
    (root_has I.program a.registers I.memory I.recorded (root.Global g) w (pointers_same (slice_get I.program.globals g) ∙ o))
value_has I a f s (value.Function g) q w e o = absurd cc

-- ---- arguments

set_some : (o : Option ℕ) → is_set o ≡ true → (w : ℕ) × (o ≡ Some w)
set_some None e = absurd cc
set_some (Some w) e = (w, refl)

pub argument_set : (p : NumberedProgram) (rs : List (Option ℕ)) (vs : List Value) (k : ℕ) (v : Value) → are_set p rs vs ≡ true → slice_get vs k ≡ Some v
    → (w : ℕ) × (operand p rs v ≡ Some w)
argument_set p rs [] zero v h e = absurd cc
argument_set p rs [] (suc k) v h e = absurd cc
argument_set p rs (u ∷ vs) zero v h e =
    let q : u ≡ v = cc in
    let s = set_some (operand p rs u) (and_parts (is_set (operand p rs u)) (are_set p rs vs) h).0 in
    (s.0, ap (operand p rs) (sym q) ∙ s.1)
argument_set p rs (u ∷ vs) (suc k) v h e = argument_set p rs vs k v (and_parts (is_set (operand p rs u)) (are_set p rs vs) h).1 e

argument_at : (p : NumberedProgram) (rs rest : List (Option ℕ)) (vs : List Value) (k : ℕ) (v : Value) → slice_get vs k ≡ Some v
    → flat (slice_get (map (operand p rs) vs ++ rest) k) ≡ operand p rs v
argument_at p rs rest [] zero v e = absurd cc
argument_at p rs rest [] (suc k) v e = absurd cc
argument_at p rs rest (u ∷ vs) zero v e = let q : u ≡ v = cc in ap (operand p rs) q
argument_at p rs rest (u ∷ vs) (suc k) v e = argument_at p rs rest vs k v e

pub parameter_is : (p : NumberedProgram) (g height : ℕ) (rs : List (Option ℕ)) (vs : List Value) (k : ℕ) (v : Value) → slice_get vs k ≡ Some v
    → registers_by (entered p g height (map (operand p rs) vs)).registers k ≡ operand p rs v
unfolding entered
parameter_is p g height rs vs k v e = argument_at p rs (replicate (length (types_of p g) - length (map (operand p rs) vs)) None) vs k v e

-- ---- the summary of a callee

some_called : (f : ℕ → Option Path) (args : List Value) (o : Option RootedList) (zs : RootedList) → called_accesses f args o ≡ Some zs → (called : RootedList) × (o ≡ Some called)
some_called f args None zs e = absurd cc
some_called f args (Some called) zs e = (called, refl)

few_is : (o : Option RootedList) (called : RootedList) → if_few o ≡ Some called → o ≡ Some called
few_is None called e = absurd cc
few_is (Some xs) called e = go (nat_le (length xs) SUMMARY_LIMIT) e
  where
    go : (t : Bool) → cond t (Some xs) None ≡ Some called → Some xs ≡ Some called
    go true q = q
    go false q = absurd cc

seen_is : (n : ℕ) (o : Option RootedList) (called : RootedList) → seen_by_callers n o ≡ Some called → (ys : RootedList) × (o ≡ Some ys) × (seen n ys ≡ Some called)
seen_is n None called e = absurd cc
seen_is n (Some ys) called e = (ys, refl, few_is (seen n ys) called e)

-- what a function with a summary accesses
pub summary_is : (p : NumberedProgram) (gated : ℕ → Bool) (sums : ℕ → Option RootedList) (g : ℕ) (called : RootedList) → AreSummaries p gated sums → g < length p.functions
    → sums g ≡ Some called →
    (ys : RootedList) × (set_accesses true p gated sums (blocks_of p g) ≡ Some ys) × (seen (parameter_count p g) ys ≡ Some called)
summary_is p gated sums g called h lt e = seen_is (parameter_count p g) (set_accesses true p gated sums (blocks_of p g)) called (sym (h.quiet g lt (h.others g called lt e)) ∙ e)

-- ---- accesses of a callee

with_root_is : (a : Rooted) (o : Option Root) (us : RootedList) → with_root a o ≡ Some us
    → (r : Root) × (o ≡ Some r) × (us ≡ record a { path = record { root = r; loads = a.path.loads } } ∷ [])
with_root_is a None us e = absurd cc
with_root_is a (Some r) us e = (r, refl, cc)

module _ (I : Instance) (a : QuietSet) (f : Frame) (s : StandsIn I a f) (args : List Value) (params : ℕ → Option ℕ) (set : are_set I.program f.registers args ≡ true)
    (are : (k : ℕ) (v : Value) → slice_get args k ≡ Some v → params k ≡ operand I.program f.registers v) where
  abbrev LeadHere : RootedList → Type 0
  LeadHere zs = (z : Rooted) → Contains zs z → Leads I.program a.registers I.memory I.recorded z

  abbrev LeadsThere : Rooted → Type 0
  LeadsThere x = Leads I.program params I.memory I.recorded x

  with_path_leads : (x b : Rooted) (k : ℕ) (q : Path) (w : ℕ) (ws : RootedList) (o : Option RootPath) → composed q x.path.loads ≡ o → with_path b o ≡ Some ws → b.writes ≡ x.writes
      → LeadHere ws → HasPath I.program a.registers I.memory I.recorded q w → x.path.root ≡ root.Register k → params k ≡ Some w → LeadsThere x
  with_path_leads x b k q w ws None c e kind h v r m = absurd cc
  with_path_leads x b k q w ws (Some t) c e kind h v r m =
      let y : record b { path = t } ∷ [] ≡ ws = cc in
      let l = h (record b { path = t }) (subst (λ (z : RootedList). Contains z (record b { path = t })) y (here (record b { path = t }) [])) in
      argument_leads I.program a.registers I.memory I.recorded x (record b { path = t }) q w k params l v c kind r m

  behind_leads : (x b : Rooted) (k : ℕ) (v : Value) (ws : RootedList) (o : Option Path) → value_path (table I a f s) v ≡ o → behind_path b o ≡ Some ws → b.path.loads ≡ x.path.loads
      → b.writes ≡ x.writes → LeadHere ws → slice_get args k ≡ Some v → x.path.root ≡ root.Register k → LeadsThere x
  behind_leads x b k v ws None c e same kind h t r = absurd cc
  behind_leads x b k v ws (Some q) c e same kind h t r =
      let w = argument_set I.program f.registers args k v set t in
      with_path_leads x b k q w.0 ws (composed q b.path.loads) (ap (composed q) (sym same)) e kind h (value_has I a f s v q w.0 c w.1) r (are k v t ∙ w.1)

  argument_there : (x b : Rooted) (k : ℕ) (ws : RootedList) (o : Option Value) → slice_get args k ≡ o → behind_argument (table I a f s) b o ≡ Some ws → b.path.loads ≡ x.path.loads
      → b.writes ≡ x.writes → LeadHere ws → x.path.root ≡ root.Register k → LeadsThere x
  argument_there x b k ws None t e same kind h r = absurd cc
  argument_there x b k ws (Some v) t e same kind h r = behind_leads x b k v ws (value_path (table I a f s) v) refl e same kind h t r

  -- a global and a constant are roots wherever they are named
  same_root : (x b : Rooted) (ws : RootedList) → (root_value I.program a.registers b.path.root ≡ root_value I.program params x.path.root) → b.path.loads ≡ x.path.loads
      → b.writes ≡ x.writes → LeadHere ws → Contains ws b → LeadsThere x
  same_root x b ws same loads kind h c =
      let l = h b c in
      record {
        at = l.at;
        is = rw (sym same, sym loads) l.is;
        loads = l.loads;
        last = subst (λ (z : Bool). IsReached I.recorded z (bounds_of l.at.last)) kind l.last;
      }

  -- an access of the callee, by the summary's and the caller's
  by_root : (n : ℕ) (x : Rooted) (r : Root) → x.path.root ≡ r → (called zs : RootedList) → IsOutside (sets I.program (blocks_of I.program n)) r → (us : RootedList)
      → with_root x (seen_root (parameter_count I.program n) r) ≡ Some us → ((y : Rooted) → Contains us y → Contains called y) →
      called_accesses (table I a f s) args (Some called) ≡ Some zs → LeadHere zs → LeadsThere x
  by_root n x (root.Param k) q called zs out us e into c h = absurd out
  by_root n x (root.Global k) q called zs out us e into c h =
      let u = with_root_is x (Some (root.Global k)) us e in
      let t : root.Global k ≡ u.0 = cc in
      let b : Rooted = record x { path = record { root = u.0; loads = x.path.loads } } in
      let m : Contains called b = into b (subst (λ (l : RootedList). Contains l b) (sym u.2) (here b [])) in
      let g = gathered_part (λ (y : Rooted). called_access (table I a f s) args y y.path.root) called zs b c m in
      let one : called_access (table I a f s) args b (root.Global k) ≡ Some g.0 = subst (λ (y : Root). called_access (table I a f s) args b y ≡ Some g.0) (sym t) g.1 in
      let w : b ∷ [] ≡ g.0 = cc in
      same_root x b g.0 (subst (λ (y : Root). root_value I.program a.registers y ≡ root_value I.program params x.path.root) t
      (subst (λ (y : Root). root_value I.program a.registers (root.Global k) ≡ root_value I.program params y) (sym q) refl)) refl refl
      (λ z d. h z (g.2 z d)) (subst (λ (l : RootedList). Contains l b) w (here b []))
  by_root n x (root.Const k) q called zs out us e into c h =
      let u = with_root_is x (Some (root.Const k)) us e in
      let t : root.Const k ≡ u.0 = cc in
      let b : Rooted = record x { path = record { root = u.0; loads = x.path.loads } } in
      let m : Contains called b = into b (subst (λ (l : RootedList). Contains l b) (sym u.2) (here b [])) in
      let g = gathered_part (λ (y : Rooted). called_access (table I a f s) args y y.path.root) called zs b c m in
      let one : called_access (table I a f s) args b (root.Const k) ≡ Some g.0 = subst (λ (y : Root). called_access (table I a f s) args b y ≡ Some g.0) (sym t) g.1 in
      let w : b ∷ [] ≡ g.0 = cc in
      same_root x b g.0 (subst (λ (y : Root). root_value I.program a.registers y ≡ root_value I.program params x.path.root) t
      (subst (λ (y : Root). root_value I.program a.registers (root.Const k) ≡ root_value I.program params y) (sym q) refl)) refl refl
      (λ z d. h z (g.2 z d)) (subst (λ (l : RootedList). Contains l b) w (here b []))
  by_root n x (root.Register k) q called zs out us e into c h = go (nat_lt k (parameter_count I.program n)) e
    where
      go : (t : Bool) → with_root x (cond t (Some (root.Param k)) None) ≡ Some us → LeadsThere x
      go false v = absurd cc
      go true v =
          let u = with_root_is x (Some (root.Param k)) us v in
          let t : root.Param k ≡ u.0 = cc in
          let b : Rooted = record x { path = record { root = u.0; loads = x.path.loads } } in
          let m : Contains called b = into b (subst (λ (l : RootedList). Contains l b) (sym u.2) (here b [])) in
          let g = gathered_part (λ (y : Rooted). called_access (table I a f s) args y y.path.root) called zs b c m in
          let one : called_access (table I a f s) args b (root.Param k) ≡ Some g.0 = subst (λ (y : Root). called_access (table I a f s) args b y ≡ Some g.0) (sym t) g.1 in
          argument_there x b k g.0 (slice_get args k) refl one refl refl (λ z d. h z (g.2 z d)) q

  -- what the callee accesses leads to recorded bounds
  pub callee_leads : (n : ℕ) (ys called zs : RootedList) → set_accesses true I.program I.gated I.sums (blocks_of I.program n) ≡ Some ys
      → seen (parameter_count I.program n) ys ≡ Some called → called_accesses (table I a f s) args (Some called) ≡ Some zs → LeadHere zs → (x : Rooted) → Contains ys x → LeadsThere x
  callee_leads n ys called zs e k c h x m =
      let u = gathered_part (λ (y : Rooted). with_root y (seen_root (parameter_count I.program n) y.path.root)) ys called x k m in
      by_root n x x.path.root refl called zs (set_outside true I.program I.gated I.sums (blocks_of I.program n) ys e x m) u.0 u.1 u.2 c h

-- ---- the callee's blocks

-- edges stay in a function
pub function_edges : (p : NumberedProgram) (g b c : ℕ) → IsProgram p → Contains (blocks_of p g) b → Contains (successors p b) c → Contains (blocks_of p g) c
unfolding successors first_of end_of
function_edges p g b c program m k =
    let at = only_blocks p g b m in
    let some : first_of p b < end_of p b = some_in p b (slice_get p.blocks b) program refl at.0 in
    go (slice_get p.instrs (end_of p b - 1)) refl (block_held p b (end_of p b - 1) program (omega (arith, some)) (omega (arith, some))) k at.1
  where
    go : (o : Option Instr) → slice_get p.instrs (end_of p b - 1) ≡ o → IsInBlock b o → Contains (targets_in o) c → function_of p b ≡ g → Contains (blocks_of p g) c
    go None e h d q = absurd h
    go (Some x) e h d q = let t = target_fits p (end_of p b - 1) x c program e d in has_block p g c t.0 (t.1 ∙ ap (function_of p) h ∙ q)

function_there : (fs : List Function) (g : ℕ) → g < length fs → (x : Function) × (slice_get fs g ≡ Some x)
function_there [] g h = absurd (omega arith)
function_there (x ∷ fs) zero h = (x, refl)
function_there (x ∷ fs) (suc g) h = function_there fs g (omega arith)

pub first_block : (p : NumberedProgram) (g : ℕ) → IsProgram p → g < length p.functions → (first_block_of p g < length p.blocks) × (function_of p (first_block_of p g) ≡ g)
unfolding first_block_of
first_block p g program lt =
    let x = function_there p.functions g lt in
    let fits = program.functions g x.0 x.1 in
    let held : IsInFunction g (slice_get p.blocks x.0.first_block.0) = fits.holds x.0.first_block.0 (omega arith) (omega (arith, fits.some)) in
    let same : first_block_in (slice_get p.functions g) ≡ x.0.first_block.0 = ap first_block_in x.1 in
    let is : IsInFunction g (slice_get p.blocks (first_block_in (slice_get p.functions g))) = subst (λ (b : ℕ). IsInFunction g (slice_get p.blocks b)) (sym same) held in (
      within_blocks p g (first_block_in (slice_get p.functions g)) (slice_get p.blocks (first_block_in (slice_get p.functions g))) refl is,
      first_in_function p g (first_block_in (slice_get p.functions g)) (slice_get p.blocks (first_block_in (slice_get p.functions g))) refl is,
    )

-- the quiet set of a call
abbrev pub called_set : NumberedProgram → ℕ → RootedList → Frame → QuietSet
called_set p g ys entered_frame = record { returns = true; blocks = blocks_of p g; accesses = ys; registers = registers_by entered_frame.registers }

block_starts : (p : NumberedProgram) (b : ℕ) → IsProgram p → b < length p.blocks → first_of p b < end_of p b
unfolding first_of end_of
block_starts p b program lt = some_in p b (slice_get p.blocks b) program refl lt

pub entered_stands : (I : Instance) (g height : ℕ) (values : List (Option ℕ)) (ys : RootedList) → IsProgram I.program → g < length I.program.functions
    → StandsIn I (called_set I.program g ys (entered I.program g height values)) (entered I.program g height values)
unfolding entered entry_of
entered_stands I g height values ys program lt = record {
  block = first_block_of I.program g;
  behind = 0;
  among = has_block I.program g (first_block_of I.program g) at.0 at.1;
  function = at.1;
  place = omega arith;
  within = block_starts I.program (first_block_of I.program g) program at.0;
  kept = λ r u. refl;
  paths = λ r q w e v. root_path r q w (sets I.program (blocks_of I.program g) r) e v;
}
  where
    at : (first_block_of I.program g < length I.program.blocks) × (function_of I.program (first_block_of I.program g) ≡ g)
    at = first_block I.program g program lt

    root_path : (r : ℕ) (q : Path) (w : ℕ) (t : Bool) → cond t None (Some (rooted (root.Register r))) ≡ Some q → registers_by (entered I.program g height values).registers r ≡ Some w
        → HasPath I.program (registers_by (entered I.program g height values).registers) I.memory I.recorded q w
    root_path r q w true e v = absurd cc
    root_path r q w false e v =
        let k : rooted (root.Register r) ≡ q = cc in
        subst (λ (z : Path). HasPath I.program (registers_by (entered I.program g height values).registers) I.memory I.recorded z w) k
        (root_has I.program (registers_by (entered I.program g height values).registers) I.memory I.recorded (root.Register r) w v)

-- a quiet function that is called: its blocks with what they access
pub record IsCalled (I : Instance) (g : ℕ) (frame : Frame) : Type 0 where
  pub accesses : RootedList
  pub quiet : IsQuietSet I (called_set I.program g accesses frame)
  pub stands : StandsIn I (called_set I.program g accesses frame) frame

pub called_quiet : (I : Instance) (a : QuietSet) (f : Frame) (g height : ℕ) (args : List Value) (zs : RootedList) → IsProgram I.program → AreSummaries I.program I.gated I.sums
    → (s : StandsIn I a f) → g < length I.program.functions →
    called_accesses (table I a f s) args (I.sums g) ≡ Some zs → ((z : Rooted) → Contains zs z → Leads I.program a.registers I.memory I.recorded z)
    → are_set I.program f.registers args ≡ true → IsCalled I g (entered I.program g height (map (operand I.program f.registers) args))
called_quiet I a f g height args zs program sums s lt e h set =
    let called = some_called (table I a f s) args (I.sums g) zs e in
    let y = summary_is I.program I.gated I.sums g called.0 sums lt called.1 in
    let c : called_accesses (table I a f s) args (Some called.0) ≡ Some zs = subst (λ (o : Option RootedList). called_accesses (table I a f s) args o ≡ Some zs) called.1 e in
    let frame = entered I.program g height (map (operand I.program f.registers) args) in
    record {
      accesses = y.0;
      quiet = record {
        quiet = y.1;
        leads = λ x m. callee_leads I a f s args (registers_by frame.registers) set (λ k v t. parameter_is I.program g height f.registers args k v t) g y.0 called.0 zs y.1 y.2 c h x m;
        edges = λ b d m k. inl (function_edges I.program g b d program m k);
      };
      stands = entered_stands I g height (map (operand I.program f.registers) args) y.0 program lt;
    }
