-- What a live step asks by itself under closed decisions is met before it.
use Rattle.std.proofs.Common.{◌≡◌, ℕ, ◌+◌, Bool, true, false, List, [], ◌∷◌, ◌++◌, length, map, Option, Some, None, refl, sym}
use Rattle.std.specs.Prelude.{Contains, not, ◌&&◌, ◌||◌, pos, if◌then◌else◌}
use Rattle.std.specs.List.{AllByRecursion}
use Rattle.std.proofs.lemmas.Bool.{true≢false}
use Rattle.std.proofs.lemmas.List.Elements.{Contains-append_left, Contains-append_right}
use Rattle.pg_num.specs.Places.{ByteRange}
use Rattle.pg_num.specs.Pointers.{moved_by}
use Rattle.pg_ir.specs.declared.instr.Instr.{Instr}
use Rattle.pg_precondition.specs.declared.check.Test.{Test}
use Rattle.pg_precondition.specs.declared.check.Test.TheVariants.{Eq}
use Rattle.pg_region_paths.specs.declared.path.Root.{Root}
use Rattle.pg_region_paths.specs.declared.path.Root.TheVariants as root
use Rattle.pg_region_paths.specs.Paths.{offsets_of}
use Rattle.pg_run_trace.specs.declared.turn.TurnKind.{TurnKind}
use Rattle.pg_run_trace.specs.declared.turn.TurnKind.TheVariants as turns
use Rattle.pg_run_trace.specs.declared.step.StepKind.{StepKind}
use Rattle.pg_run_trace.specs.declared.step.StepKind.TheVariants as kinds
use Rattle.pg_run_trace.specs.declared.step.Access.{Access}
use Rattle.pg_run_trace.specs.declared.step.Event.{Event}
use Rattle.pg_run_trace.specs.Steps.{access_in}
use Rattle.pg_law_least.specs.pg_slice_rules.declared.decision.Decision.{Decision}
use Rattle.pg_law_least.specs.pg_slice_rules.declared.decision.Decision.TheVariants.{Pinned, Exact}
use Rattle.pg_law_least.specs.pg_slice_rules.Moments.{Moment, instr_in, thread_in}
use Rattle.pg_law_least.specs.pg_slice_rules.Freeable.{FreeAccess, FreeRegion}
use Rattle.pg_law_least.specs.pg_slice_rules.SymbolicValues.{Symbolic, Known, Bounded, Unknown, blames, bounds_blames, loaded}
use Rattle.pg_law_least.specs.pg_slice_rules.Known.{Reference, SymbolicState, Seen, Taken, has, is_branch, operand_at, registers_of, thread_of}
use Rattle.pg_law_least.specs.pg_slice_rules.Rules.{Need, Value, Bounds, access_needs_by, access_needs_in, address_index, all_of, asks_pins, checked_of, edge_tests, equal_to, event_needs, bounds_needs}
use Rattle.pg_law_least.specs.pg_slice_rules.Rules.{free_access_needs, has_region, is_malloc, moved_symbolic, need_blames, operand_of, path_needs, region_needs_in, root_symbolic, same_bounds, value_needs}
use Rattle.pg_law_least.specs.pg_slice_rules.Rules.{value_needs_by, value_needs_in, write_index, write_needs}
use Rattle.pg_law_least.specs.pg_slice_rules.Closed.{AreWithin}
use Rattle.pg_region_paths.proofs.Elements.{here, there}
use Rattle.pg_law_demands.specs.Cells.{Demand, IsMet, call_at, is_met}
use Rattle.pg_law_demands.specs.Back.{of_bytes}
use Rattle.pg_law_demands.specs.Demands.{checked_demands, free_access_demands, instr_demands, kind_demands, operand_demands, path_demands, region_demands, root_demands, step_pins, write_demands}
use Rattle.pg_law_demands.proofs.ValuesBefore.{append_all, bytes_met, operand_met, top_met}
use Rattle.pg_law_demands.proofs.DemandsBack.{top_is}

-- ---- what nothing is blamed for

abbrev pub IsQuiet : List Need → Type 0
IsQuiet ns = (a : Need) → Contains ns a → (z : Decision) → Contains (need_blames a) z → ⊥

value_quiet : (s : Symbolic) → ((z : Decision) → Contains (blames s) z → ⊥) → is_met true s ≡ true
value_quiet (Known f g) q = refl
value_quiet (Bounded f x) q = absurd (q x (here x []))
value_quiet (Unknown x) q = absurd (q x (here x []))

bounds_quiet : (s : Symbolic) → ((z : Decision) → Contains (bounds_blames s) z → ⊥) → is_met false s ≡ true
bounds_quiet (Known f g) q = refl
bounds_quiet (Bounded f x) q = refl
bounds_quiet (Unknown x) q = absurd (q x (here x []))

first_quiet : (a : Need) (ns : List Need) → IsQuiet (a ∷ ns) → (z : Decision) → Contains (need_blames a) z → ⊥
first_quiet a ns q z c = q a (here a ns) z c

rest_quiet : (a : Need) (ns : List Need) → IsQuiet (a ∷ ns) → IsQuiet ns
rest_quiet a ns q b c z d = q b (there a ns b c) z d

left_quiet : (ns ms : List Need) → IsQuiet (ns ++ ms) → IsQuiet ns
left_quiet ns ms q b c z d = q b (Contains-append_left ns ms b c) z d

right_quiet : (ns ms : List Need) → IsQuiet (ns ++ ms) → IsQuiet ms
right_quiet ns ms q b c z d = q b (Contains-append_right ns ms b c) z d

one_value : (v : Symbolic) (ts : List Test) → IsQuiet (Value v ts ∷ []) → is_met true v ≡ true
one_value v ts q = value_quiet v (first_quiet (Value v ts) [] q)

one_bounds : (v : Symbolic) (t : Test) → IsQuiet (Bounds v t ∷ []) → is_met false v ≡ true
one_bounds v t q = bounds_quiet v (first_quiet (Bounds v t) [] q)

moved_value : (k : ℕ) (s : Symbolic) → is_met true (moved_symbolic k s) ≡ true → is_met true s ≡ true
moved_value k (Known f g) h = refl
moved_value k (Bounded f x) h = h
moved_value k (Unknown x) h = h

event_more : (a b c : Bool) → (b ≡ true → c ≡ true) → (a || b) ≡ true → (a || c) ≡ true
event_more true b c f h = refl
event_more false b c f h = f h

taken_if : (b c : Bool) (w : Decision) → b ≡ true → ((z : Decision) → Contains (if b && not c then w ∷ [] else []) z → ⊥) → c ≡ true
taken_if true true w q h = refl
taken_if true false w q h = absurd (h w (here w []))
taken_if false c w q h = absurd (true≢false (sym q))

module _ (R : Reference) (d e : Taken) (within : AreWithin d e) (n : ℕ) (m : Moment) (region : Option FreeRegion) (s : SymbolicState)
    (high : length (thread_of s (thread_in m)).calls ≡ length m.calls) where
  abbrev x : Seen
  x = record { number = n; moment = m; region = region; live = true; before = s }

  top : call_at (length m.calls) (thread_of s (thread_in m)).calls ≡ registers_of s (thread_in m)
  top = top_is (length m.calls) (thread_of s (thread_in m)).calls high

  AreMet : List Demand → Type 0
  AreMet qs = AllByRecursion (IsMet s) qs

  -- by the same step with what is known under e
  abbrev z : Seen
  z = record { number = n; moment = m; region = region; live = true; before = s }

  operand_own : (i : Instr) (j : ℕ) (whole : Bool) → is_met whole (operand_at R.program (registers_of s (thread_in m)) i.op j) ≡ true → AreMet (operand_demands z i whole j)
  unfolding AreMet
  operand_own i j whole h = operand_met R.program s (thread_in m) (length m.calls) (registers_of s (thread_in m)) top i.op j whole h

  checked_own : (i : Instr) (v : Event) (js : List ℕ) → IsQuiet (map (equal_to R.program x i v) js) → AreMet (all_of (operand_demands z i true) js)
  unfolding AreMet
  checked_own i v [] q = tt
  checked_own i v (j ∷ js) q = append_all (IsMet s) (operand_demands z i true j) (all_of (operand_demands z i true) js)
      (operand_own i j true (value_quiet (operand_of R.program x i j) (first_quiet (equal_to R.program x i v j) (map (equal_to R.program x i v) js) q)))
      (checked_own i v js (rest_quiet (equal_to R.program x i v j) (map (equal_to R.program x i v) js) q))

  event_own : (i : Instr) (v : Event) (kind : TurnKind) → IsQuiet (event_needs R.program x i v kind) → AreMet (checked_demands z i kind)
  unfolding AreMet
  event_own i v turns.Start q = tt
  event_own i v _ q = checked_own i v (checked_of i.op) q

  write_own : (i : Instr) (o : Option Access) → IsQuiet (write_needs R.program x i o) → AreMet (write_demands z i o)
  unfolding AreMet
  write_own i None q = tt
  write_own i (Some a) q = operand_own i (write_index i.op) false (one_bounds (operand_of R.program x i (write_index i.op)) (same_bounds a.pointer) q)

  kind_own : (i : Instr) (kind : StepKind) → IsQuiet (value_needs_by R.program e x i kind) → IsQuiet (access_needs_by R.program x i kind) → AreMet (kind_demands d z i kind)
  unfolding AreMet
  kind_own i (kinds.Branch c) q a = go (d.pinned n) refl
    where
      go : (b : Bool) → d.pinned n ≡ b → AllByRecursion (IsMet s) (if b then operand_demands z i true 0 else [])
      go false f = tt
      go true f = let w : e.pinned n ≡ true = within (Pinned n) f in operand_own i 0 true (one_value (operand_of R.program x i 0) (edge_tests i.op c) (rw w at q))
  kind_own i (kinds.Access v) q a = go (v.event || d.exact n) refl
    where
      go : (b : Bool) → (v.event || d.exact n) ≡ b → AllByRecursion (IsMet s) (operand_demands z i b (address_index i.op))
      go false f = operand_own i (address_index i.op) false (one_bounds (operand_of R.program x i (address_index i.op)) (same_bounds v.pointer) a)
      go true f = let w : (v.event || e.exact n) ≡ true = event_more v.event (d.exact n) (e.exact n) (within (Exact n)) f in
          operand_own i (address_index i.op) true (one_value (operand_of R.program x i (address_index i.op)) (Eq v.pointer ∷ []) (rw w at q))
  kind_own i (kinds.Allocation operand result) q a = go (is_malloc i.op) refl
    where
      go : (b : Bool) → is_malloc i.op ≡ b → AllByRecursion (IsMet s) (if b then operand_demands z i true 0 else [])
      go false f = tt
      go true f = operand_own i 0 true (one_value (operand_of R.program x i 0) (Eq operand ∷ []) (rw f at q))
  kind_own i (kinds.Event v) q a = append_all (IsMet s) (checked_demands z i v.kind) (write_demands z i (access_in (kinds.Event v)))
      (event_own i v v.kind q) (write_own i (access_in (kinds.Event v)) a)
  kind_own i _ q a = tt

  instr_own : (o : Option Instr) → IsQuiet (value_needs_in R.program e x o) → IsQuiet (access_needs_in R.program x o) → AreMet (instr_demands d z o)
  unfolding AreMet
  instr_own None q a = tt
  instr_own (Some i) q a = kind_own i m.did.did.kind q a

  root_own : (o : Root) (whole : Bool) → is_met whole (root_symbolic R.program (registers_of s (thread_in m)) o) ≡ true → AreMet (root_demands z o whole)
  unfolding AreMet
  root_own (root.Register r) whole h = (top_met R.program s (thread_in m) (length m.calls) (registers_of s (thread_in m)) top r whole h, tt)
  root_own _ whole h = tt

  path_own : (word : Bool → List Demand) (v : Symbolic) → ((whole : Bool) → is_met whole v ≡ true → AreMet (word whole))
      → (offsets words : List ℕ) (cells : List ByteRange) (last : ℕ) →
      IsQuiet (path_needs s.bytes v offsets words cells last) → AreMet (path_demands word offsets words cells)
  unfolding AreMet
  path_own word v f [] words cells last q = f false (one_bounds v (same_bounds last) q)
  path_own word v f (k ∷ offsets) [] cells last q = f false (one_bounds v (same_bounds last) q)
  path_own word v f (k ∷ offsets) (w ∷ words) [] last q = f false (one_bounds v (same_bounds last) q)
  path_own word v f (k ∷ offsets) (w ∷ words) (cell ∷ cells) last q = append_all (IsMet s) (word true) (path_demands (λ whole. of_bytes cell.start 8) offsets words cells)
      (f true (moved_value k v (value_quiet (moved_symbolic k v)
      (first_quiet (Value (moved_symbolic k v) (Eq (moved_by w (pos k)) ∷ [])) (path_needs s.bytes (loaded s.bytes cell.start 8) offsets words cells last) q))))
      (path_own (λ whole. of_bytes cell.start 8) (loaded s.bytes cell.start 8) (λ whole h. bytes_met s whole cell.start 8 h) offsets words cells last
      (rest_quiet (Value (moved_symbolic k v) (Eq (moved_by w (pos k)) ∷ [])) (path_needs s.bytes (loaded s.bytes cell.start 8) offsets words cells last) q))

  accesses_own : (xs : List FreeAccess) → IsQuiet (all_of (free_access_needs R.program x) xs) → AreMet (all_of (free_access_demands z) xs)
  unfolding AreMet
  accesses_own [] q = tt
  accesses_own (a ∷ xs) q = append_all (IsMet s) (free_access_demands z a) (all_of (free_access_demands z) xs)
      (path_own (root_demands z a.path.root) (root_symbolic R.program (registers_of s (thread_in m)) a.path.root) (λ whole h. root_own a.path.root whole h)
      (offsets_of a.path.loads) a.at.pointers a.at.cells a.at.last (left_quiet (free_access_needs R.program x a) (all_of (free_access_needs R.program x) xs) q))
      (accesses_own xs (right_quiet (free_access_needs R.program x a) (all_of (free_access_needs R.program x) xs) q))

  region_own : (o : Option FreeRegion) → IsQuiet (region_needs_in R.program x o) → AreMet (region_demands z o)
  unfolding AreMet
  region_own None q = tt
  region_own (Some r) q = accesses_own r.accesses q

  pub step_own : IsQuiet (value_needs R e x) → IsQuiet (bounds_needs R x) → AllByRecursion (IsMet s) (instr_demands d z (instr_in R.program m) ++ region_demands z region)
  unfolding AreMet
  step_own q a = append_all (IsMet s) (instr_demands d z (instr_in R.program m)) (region_demands z region)
      (instr_own (instr_in R.program m) q (left_quiet (access_needs_in R.program x (instr_in R.program m)) (region_needs_in R.program x region) a))
      (region_own region (right_quiet (access_needs_in R.program x (instr_in R.program m)) (region_needs_in R.program x region) a))

  pub pins_own : ((w : Decision) → Contains (asks_pins e x) w → ⊥) → AllByRecursion (λ (w : Decision). has e w ≡ true) (step_pins z)
  pins_own h = go (is_branch m.did.did.kind && not (has_region region)) refl
    where
      go : (b : Bool) → (is_branch m.did.did.kind && not (has_region region)) ≡ b → AllByRecursion (λ (w : Decision). has e w ≡ true) (if b then Pinned n ∷ [] else [])
      go false f = tt
      go true f = (taken_if (is_branch m.did.did.kind && not (has_region region)) (e.pinned n) (Pinned n) f h, tt)
