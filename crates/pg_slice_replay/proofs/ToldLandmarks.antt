-- The landmarks of a run's moments, step by step.
use Rattle.std.proofs.Common.{◌≡◌, ℕ, ℤ, zero, suc, List, [], ◌∷◌, length, map, Bool, true, false, Option, Some, None, option_map, refl, sym, ap, ◌∙◌}
use Rattle.std.specs.Prelude.{slice_get, if◌then◌else◌}
use Rattle.pg_ir.specs.declared.ids.InstrId.{InstrId}
use Rattle.pg_ir.specs.declared.instr.Instr.{Instr}
use Rattle.pg_ir.specs.Program.{NumberedProgram}
use Rattle.pg_run_memory.specs.Memory.{byte_at, read}
use Rattle.pg_law_threads.specs.Intervals.{Timed, did_of, owners}
use Rattle.pg_law_threads.proofs.TimedSteps.{did_times}
use Rattle.pg_region_paths.specs.declared.path.RootPath.{RootPath}
use Rattle.pg_region_paths.specs.FollowedPaths.{PathPointers, followed}
use Rattle.pg_region_accesses.specs.declared.rooted.Rooted.{Rooted}
use Rattle.pg_region_accesses.specs.Accesses.{RootedList}
use Rattle.pg_run_thread.specs.LocalState.{Frame, LocalState}
use Rattle.pg_run_thread.specs.Operands.{flat}
use Rattle.pg_run_thread.specs.Step.{top_registers}
use Rattle.pg_run_trace.specs.declared.step.Step.{Step}
use Rattle.pg_run_trace.specs.Races.{recorded, timed_by}
use Rattle.pg_law_effects.specs.pg_run.MachineStep.{step}
use Rattle.pg_law_effects.specs.pg_run.Readers.{frames_in, frames_of}
use Rattle.pg_law_effects.specs.pg_run.State.{State, initial}
use Rattle.pg_slice_rules.specs.Freeable.{FreeAccess, FreeRegion, Regions, accesses_at, if_apart, one_access, region_at, registers_by, stores_on}
use Rattle.pg_slice_rules.specs.Known.{is_branch, region_of}
use Rattle.pg_slice_rules.specs.Moments.{calls_of, moments_from, moments_of, number_in, registers_in, state_after}
use Rattle.pg_slice_replay.specs.declared.found.FoundRegion.{FoundRegion}
use Rattle.pg_slice_replay.specs.declared.found.Sought.{Sought}
use Rattle.pg_slice_replay.specs.Apart.{apart}
use Rattle.pg_slice_replay.specs.declared.at.At.{At}
use Rattle.pg_slice_replay.specs.declared.row.Row.{Row}
use Rattle.pg_slice_replay.specs.Kept.{landmark_in, region_with}
use Rattle.pg_slice_replay.specs.Landmarks.{Landmark, landmark_of, landmark_with, moment_in, told_along}
use Rattle.pg_slice_replay.specs.OfRegions.{AreRegions, free_access}
use Rattle.pg_slice_replay.specs.Paths.{accesses_in, followed_in}
use Rattle.pg_slice_replay.specs.Sought.{AreFound, WasSought, found_in, freed, freed_at, freed_in}
use Rattle.pg_slice_replay.proofs.RegionsAreUnique.{found_is, kept_region}

-- ---- the two ways to read a state

same_calls : (o : Option LocalState) → calls_of o ≡ frames_in o
same_calls None = refl
same_calls (Some l) = refl

same_registers : (fs : List Frame) → registers_in fs ≡ top_registers fs
same_registers [] = refl
same_registers (f ∷ fs) = refl

path_same : (p : NumberedProgram) (s : State) (x : Step) (path : RootPath) →
    followed p (registers_by (registers_in (frames_of s x.thread.0))) (number_in (moment_in s x)) path ≡ followed_in p s x.thread.0 path
unfolding read
path_same p s x path = ap (λ (rs : List (Option ℕ)). followed p (λ r. flat (slice_get rs r)) (number_in (moment_in s x)) path) (same_registers (frames_of s x.thread.0))

-- ---- regions at a step

accesses_same : (p : NumberedProgram) (s : State) (x : Step) (us : List Rooted) → accesses_at p (moment_in s x) (map free_access us) ≡ accesses_in p s x.thread.0 us
accesses_same p s x [] = refl
accesses_same p s x (a ∷ us) =
    ap (λ (o : Option PathPointers). one_access (free_access a) o (accesses_at p (moment_in s x) (map free_access us))) (path_same p s x a.path)
    ∙ ap (λ (o : Option (List FreeAccess)). one_access (free_access a) (followed_in p s x.thread.0 a.path) o) (accesses_same p s x us)

apart_same : (r : FoundRegion) (o : Option (List FreeAccess)) → if_apart (kept_region r) o ≡ option_map (region_with r) (apart o)
apart_same r None = refl
apart_same r (Some xs) = go (Rattle.std.specs.List.list_any (stores_on xs) xs)
  where
    go : (b : Bool) → (if b then None else Some (region_with r xs)) ≡ option_map (region_with r) (if b then None else Some xs)
    go true = refl
    go false = refl

region_same : (p : NumberedProgram) (s : State) (x : Step) (o : Option FoundRegion) → region_at p (moment_in s x) (option_map kept_region o) ≡ freed p s x.thread.0 o
region_same p s x None = refl
region_same p s x (Some r) = ap (if_apart (kept_region r)) (accesses_same p s x r.accesses.items) ∙ apart_same r (accesses_in p s x.thread.0 r.accesses.items)

module _ (p : NumberedProgram) (gated : ℕ → Bool) (sums : ℕ → Option RootedList) (regions : Regions) (are : AreRegions p gated sums regions) (blocks : List Sought)
    (found : List FoundRegion) (are_found : AreFound p gated sums blocks found) where
  block_region : (c : ℕ) → Rattle.pg_slice_replay.specs.Sought.was_sought (slice_get blocks c) ≡ true → regions c ≡ option_map kept_region (found_in blocks found c)
  block_region c h = are.given c ∙ sym (found_is p gated sums c found (slice_get blocks c) (are.found c) (are_found.found c) h (are.right c))

  region_by : (s : State) (x : Step) (o : Option Instr) → slice_get p.instrs x.instr.0 ≡ o → WasSought p blocks x → region_of p regions (moment_in s x) o ≡ freed_at p blocks found s x o
  region_by s x None e h = refl
  region_by s x (Some i) e h = go (is_branch x.kind) refl
    where
      go : (b : Bool) → is_branch x.kind ≡ b → (if b then region_at p (moment_in s x) (regions i.block.0) else None)
          ≡ (if b then freed p s x.thread.0 (found_in blocks found i.block.0) else None)
      go true q = ap (region_at p (moment_in s x)) (block_region i.block.0 (h i e q)) ∙ region_same p s x (found_in blocks found i.block.0)
      go false q = refl

  -- the landmark of a step by the regions that were found
  landmark_same : (s : State) (x : Step) → WasSought p blocks x → landmark_of p regions (moment_in s x) ≡ landmark_with p (freed_in p blocks found s x) s x
  landmark_same s x h = ap (λ (r : Option FreeRegion). landmark_with p r s x) (region_by s x (slice_get p.instrs x.instr.0) refl h)

-- ---- along a run

told_same : {A : Type 0} (f g : State → Step → A) (gated : List InstrId) (p : NumberedProgram) (input : List ℤ) (s : State) (xs : List Step)
    → ((n : ℕ) (x : Step) → slice_get xs n ≡ Some x → (z : State) → f z x ≡ g z x) → told_along f gated p input s xs ≡ told_along g gated p input s xs
unfolding told_along
told_same f g gated p input s [] h = refl
told_same {A} f g gated p input s (x ∷ xs) h =
    let z = state_after s (step gated p input s x.thread.0) in
    ap (λ (a : A). a ∷ told_along f gated p input z xs) (h 0 x refl s) ∙ ap (λ (l : List A). g s x ∷ l) (told_same f g gated p input z xs (λ n y e. h (suc n) y e))

moment_told : (p : NumberedProgram) (regions : Regions) (s : State) (t : Timed Step) (o : Option LocalState) → slice_get s.locals t.did.thread.0 ≡ o →
    landmark_of p regions (record { did = t; calls = calls_of (slice_get s.locals t.did.thread.0); bytes = byte_at s.memory }) ≡ landmark_of p regions (moment_in s t.did)
moment_told p regions s t o e = ap (λ (fs : List Frame). landmark_of p regions (record { did = t; calls = fs; bytes = byte_at s.memory })) (same_calls (slice_get s.locals t.did.thread.0))

moments_told : (p : NumberedProgram) (regions : Regions) (gated : List InstrId) (input : List ℤ) (s : State) (ts : List (Timed Step)) →
    map (landmark_of p regions) (moments_from gated p input s ts) ≡ told_along (λ z x. landmark_of p regions (moment_in z x)) gated p input s (did_of ts)
unfolding moments_from told_along
moments_told p regions gated input s [] = refl
moments_told p regions gated input s (t ∷ ts) =
    let z = state_after s (step gated p input s t.did.thread.0) in
    ap (λ (l : Landmark). l ∷ map (landmark_of p regions) (moments_from gated p input z ts)) (moment_told p regions s t _ refl)
    ∙ ap (λ (l : List Landmark). landmark_of p regions (moment_in s t.did) ∷ l) (moments_told p regions gated input z ts)

-- the landmarks of a run's moments are those by the regions that were found
pub landmarks_told : (p : NumberedProgram) (gates : ℕ → Bool) (sums : ℕ → Option RootedList) (regions : Regions) → AreRegions p gates sums regions
    → (blocks : List Sought) (found : List FoundRegion) → AreFound p gates sums blocks found →
    (gated : List InstrId) (input : List ℤ) (xs : List Step) → ((n : ℕ) (x : Step) → slice_get xs n ≡ Some x → WasSought p blocks x) →
    map (landmark_of p regions) (moments_of gated p input xs) ≡ told_along (λ s x. landmark_with p (freed_in p blocks found s x) s x) gated p input (initial p) xs
landmarks_told p gates sums regions are blocks found are_found gated input xs h =
    moments_told p regions gated input (initial p) (timed_by recorded xs)
    ∙ ap (told_along (λ z x. landmark_of p regions (moment_in z x)) gated p input (initial p)) (did_times recorded (owners recorded xs) 0 xs)
    ∙ told_same (λ z x. landmark_of p regions (moment_in z x)) (λ s x. landmark_with p (freed_in p blocks found s x) s x) gated p input (initial p) xs
    (λ n x e z. landmark_same p gates sums regions are blocks found are_found z x (h n x e))

pub get_map : {A B : Type 0} (f : A → B) (xs : List A) (n : ℕ) → slice_get (map f xs) n ≡ option_map f (slice_get xs n)
get_map f [] zero = refl
get_map f [] (suc n) = refl
get_map f (x ∷ xs) zero = refl
get_map f (x ∷ xs) (suc n) = get_map f xs n

-- ---- what is handed out

told_length : {A : Type 0} (f : State → Step → A) (gated : List InstrId) (p : NumberedProgram) (input : List ℤ) (s : State) (xs : List Step)
    → length (told_along f gated p input s xs) ≡ length xs
unfolding told_along
told_length f gated p input s [] = refl
told_length f gated p input s (x ∷ xs) = ap suc (told_length f gated p input (state_after s (step gated p input s x.thread.0)) xs)

map_length : {A B : Type 0} (f : A → B) (xs : List A) → length (map f xs) ≡ length xs
map_length f [] = refl
map_length f (x ∷ xs) = ap suc (map_length f xs)

module _ (p : NumberedProgram) (blocks : List Sought) (found : List FoundRegion) (gated : List InstrId) (input : List ℤ) (xs : List Step) (rows : List Row) (ats : List At)
    (told : map (landmark_in ats found) rows ≡ told_along (λ s x. landmark_with p (freed_in p blocks found s x) s x) gated p input (initial p) xs) where
  pub row_count : length rows ≡ length xs
  row_count = sym (map_length (landmark_in ats found) rows) ∙ ap length told ∙ told_length (λ s x. landmark_with p (freed_in p blocks found s x) s x) gated p input (initial p) xs

  pub landmark_each : (gates : ℕ → Bool) (sums : ℕ → Option RootedList) → AreFound p gates sums blocks found
      → ((n : ℕ) (x : Step) → slice_get xs n ≡ Some x → WasSought p blocks x) → (regions : Regions) → AreRegions p gates sums regions → (n : ℕ) →
      option_map (landmark_in ats found) (slice_get rows n) ≡ option_map (landmark_of p regions) (slice_get (moments_of gated p input xs) n)
  landmark_each gates sums are_found h regions are n =
      sym (get_map (landmark_in ats found) rows n)
      ∙ ap (λ (l : List Landmark). slice_get l n) (told ∙ sym (landmarks_told p gates sums regions are blocks found are_found gated input xs h))
      ∙ get_map (landmark_of p regions) (moments_of gated p input xs) n
