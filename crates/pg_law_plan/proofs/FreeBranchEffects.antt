-- What a step changes of the extents that are open, and what a branch step that is left free changes of what is known.
use Rattle.std.proofs.Common.{◌≡◌, ◌≢◌, ℕ, ◌-◌, ◌&&◌, ◌||◌, zero, suc, not, Bool, true, false, cond, List, [], ◌∷◌, ◌++◌, length, map, Option, Some, None}
use Rattle.std.proofs.Common.{refl, sym, ap, ◌∙◌, subst}
use Rattle.std.specs.Prelude.{filter, nat_lt, slice_index_or, slice_set, if◌then◌else◌}
use Rattle.std.specs.List.{list_all, list_any}
use Rattle.std.proofs.lemmas.Bool.{and_from, and_parts, true≢false}
use Rattle.pg_num.specs.declared.layout.TheConstants.{MEMORY_BYTES}
use Rattle.pg_ir.specs.declared.instr.Instr.{Instr}
use Rattle.pg_ir.specs.Program.{NumberedProgram}
use Rattle.pg_run_trace.specs.declared.turn.TurnKind.{TurnKind}
use Rattle.pg_run_trace.specs.declared.turn.TurnKind.TheVariants as turns
use Rattle.pg_run_trace.specs.declared.step.Event.{Event}
use Rattle.pg_run_trace.specs.declared.step.StepKind.{StepKind}
use Rattle.pg_run_trace.specs.declared.step.StepKind.TheVariants as kinds
use Rattle.pg_run_trace.specs.Races.{is_in}
use Rattle.pg_run_trace.specs.Steps.{access_in}
use Rattle.pg_slice_rules.specs.declared.decision.Decision.{Decision}
use Rattle.pg_slice_rules.specs.declared.decision.Decision.TheVariants.{Pinned}
use Rattle.pg_slice_rules.specs.Extents.{Extent, begun, ends, is_live, open_after}
use Rattle.pg_slice_rules.specs.Freeable.{FreeAccess, FreeRegion, bounds_of, region_at}
use Rattle.pg_slice_rules.specs.Known.{Reference, SymbolicState, Seen, Taken, SymbolicThread, after_step, bytes_freed, edge_of, forgotten_bytes, fresh_thread, is_branch, live_after, live_by, no_thread}
use Rattle.pg_slice_rules.specs.Known.{region_of, thread_of, threads_after, with_extents}
use Rattle.pg_slice_rules.specs.Moments.{Moment, instr_in, thread_in}
use Rattle.pg_slice_rules.specs.Rules.{has_region, footprints_in}
use Rattle.pg_slice_rules.specs.SymbolicValues.{Symbolic, Unknown, always, spoiled}
use Rattle.pg_law_plan.specs.Units.{access_touch, cell_known, is_instance, is_written_in, word_written, writes_cell}
use Rattle.pg_law_effects.specs.Views.{is_thread}

-- ---- booleans and lists

no_either : (a b : Bool) → (a || b) ≡ false → (a ≡ false) × (b ≡ false)
no_either true b h = absurd (true≢false h)
no_either false b h = (refl, h)

not_true : (b : Bool) → not b ≡ true → b ≡ false
not_true true h = absurd (true≢false (sym h))
not_true false h = refl

all_left : {A : Type 0} (f g : A → Bool) (xs : List A) → list_all f xs ≡ true → list_all f (filter g xs) ≡ true
all_left f g [] h = refl
all_left f g (x ∷ xs) h = let p = and_parts (f x) (list_all f xs) h in go (g x) p.0 (all_left f g xs p.1)
  where
    go : (b : Bool) → f x ≡ true → list_all f (filter g xs) ≡ true → list_all f (cond b (x ∷ filter g xs) (filter g xs)) ≡ true
    go true a k = and_from (f x) (list_all f (filter g xs)) a k
    go false a k = k

-- ---- extents

abbrev pub extents_in : List SymbolicThread → ℕ → List Extent
extents_in threads u = (slice_index_or threads u no_thread).extents

set_other : (threads : List SymbolicThread) (t u : ℕ) (z : SymbolicThread) → u ≢ t → extents_in (slice_set threads t z) u ≡ extents_in threads u
set_other [] t u z h = refl
set_other (x ∷ xs) zero zero z h = absurd (h refl)
set_other (x ∷ xs) zero (suc u) z h = refl
set_other (x ∷ xs) (suc t) zero z h = refl
set_other (x ∷ xs) (suc t) (suc u) z h = set_other xs t u z (λ e. h (ap suc e))

push_any : (p : NumberedProgram) (f : ℕ) (threads : List SymbolicThread) (u : ℕ) → extents_in (threads ++ fresh_thread p f ∷ []) u ≡ extents_in threads u
push_any p f [] zero = refl
push_any p f [] (suc u) = refl
push_any p f (x ∷ xs) zero = refl
push_any p f (x ∷ xs) (suc u) = push_any p f xs u

event_other : (p : NumberedProgram) (t : ℕ) (e : Event) (k : TurnKind) (old : List SymbolicThread) (z : SymbolicThread) (u : ℕ) → u ≢ t
    → extents_in (threads_after p e k (slice_set old t z)) u ≡ extents_in old u
event_other p t e turns.Create old z u h = push_any p _ (slice_set old t z) u ∙ set_other old t u z h
event_other p t e k old z u h = set_other old t u z h

live_other : (p : NumberedProgram) (d : Taken) (n : ℕ) (m : Moment) (region : Option FreeRegion) (x : Instr) (k : StepKind) (s : SymbolicState) (u : ℕ) → u ≢ thread_in m
    → extents_in (live_by p d n m region x k s).threads u ≡ extents_in s.threads u
live_other p d n m region x (kinds.Event e) s u h = event_other p (thread_in m) e e.kind s.threads _ u h
live_other p d n m region x (kinds.Access a) s u h = set_other s.threads (thread_in m) u _ h
live_other p d n m region x kinds.Other s u h = set_other s.threads (thread_in m) u _ h
live_other p d n m region x (kinds.Branch c) s u h = set_other s.threads (thread_in m) u _ h
live_other p d n m region x (kinds.Allocation a b) s u h = set_other s.threads (thread_in m) u _ h

-- a thread's extents are these, or it isn't there
own_live : (pinned : ℕ → Bool) (threads : List SymbolicThread) (t : ℕ) (es : List Extent) → is_live pinned es ≡ true → is_live pinned (extents_in (with_extents t es threads) t) ≡ true
own_live pinned [] t es h = refl
own_live pinned (x ∷ xs) zero es h = h
own_live pinned (x ∷ xs) (suc t) es h = own_live pinned xs t es h

begun_live : (pinned : ℕ → Bool) (n depth : ℕ) (region : Option FreeRegion) (es : List Extent) → (has_region region && not (pinned n)) ≡ false → is_live pinned es ≡ true
    → is_live pinned (begun n depth region es) ≡ true
begun_live pinned n depth None es f h = h
begun_live pinned n depth (Some r) es f h = and_from (pinned n) (is_live pinned es) (go (pinned n) f) h
  where
    go : (b : Bool) → not b ≡ false → b ≡ true
    go true e = refl
    go false e = absurd (true≢false e)

module _ (R : Reference) (d : Taken) (n : ℕ) (m : Moment) (known : SymbolicState) where
  abbrev region : Option FreeRegion
  region = region_of R.program R.regions m (instr_in R.program m)

  -- those of other threads stay
  pub others_open : (u : ℕ) → u ≢ thread_in m → (thread_of (after_step R d n m known) u).extents ≡ (thread_of known u).extents
  others_open u h = set_other _ (thread_in m) u _ h ∙ go (is_live d.pinned (thread_of known (thread_in m)).extents)
    where
      by : (o : Option Instr) → extents_in (live_after R.program d n m region o known).threads u ≡ extents_in known.threads u
      by None = refl
      by (Some x) = live_other R.program d n m region x m.did.did.kind known u h

      go : (b : Bool) → extents_in (if b then live_after R.program d n m region (instr_in R.program m) known else known).threads u ≡ extents_in known.threads u
      go true = by (instr_in R.program m)
      go false = refl

  -- behind a live step that isn't left free its thread's next step is live
  pub live_behind : is_live d.pinned (thread_of known (thread_in m)).extents ≡ true → (has_region region && not (d.pinned n)) ≡ false
      → is_live d.pinned (thread_of (after_step R d n m known) (thread_in m)).extents ≡ true
  live_behind h f = own_live d.pinned _ (thread_in m) _
      (all_left (λ (e : Extent). d.pinned e.step) (λ (e : Extent). not (ends (length m.calls) (edge_of R.program m m.did.did.kind) e))
      (begun n (length m.calls) region (thread_of known (thread_in m)).extents) (begun_live d.pinned n (length m.calls) region (thread_of known (thread_in m)).extents f h))

-- a step that is left out changes nothing but extents
set_calls : (threads : List SymbolicThread) (t u : ℕ) (es : List Extent) → (slice_index_or (with_extents t es threads) u no_thread).calls ≡ (slice_index_or threads u no_thread).calls
set_calls [] t u es = refl
set_calls (x ∷ xs) zero zero es = refl
set_calls (x ∷ xs) zero (suc u) es = refl
set_calls (x ∷ xs) (suc t) zero es = refl
set_calls (x ∷ xs) (suc t) (suc u) es = set_calls xs t u es

module _ (R : Reference) (d : Taken) (n : ℕ) (m : Moment) (known : SymbolicState) (dead : is_live d.pinned (thread_of known (thread_in m)).extents ≡ false) where
  abbrev here : Option FreeRegion
  here = region_of R.program R.regions m (instr_in R.program m)

  abbrev opened : List Extent
  opened = open_after n (length m.calls) here (edge_of R.program m m.did.did.kind) (thread_of known (thread_in m)).extents

  pub left_calls : (u : ℕ) → (thread_of (after_step R d n m known) u).calls ≡ (thread_of known u).calls
  left_calls u = ap (λ (b : Bool). (slice_index_or
      (with_extents (thread_in m) opened (if b then live_after R.program d n m here (instr_in R.program m) known else known).threads) u no_thread).calls) dead
      ∙ set_calls known.threads (thread_in m) u opened

  pub left_cells : (c : ℕ) → cell_known (after_step R d n m known) c ≡ cell_known known c
  left_cells c = ap (λ (b : Bool). cell_known (if b then live_after R.program d n m here (instr_in R.program m) known else known) c) dead

-- ---- bytes

written_one : (a : FreeAccess) (x : Decision) (bytes : ℕ → Symbolic) (c : ℕ) (w : Bool) → (w && is_in (bounds_of a.at.last) c) ≡ false
    → (if w then spoiled (bounds_of a.at.last) x bytes else bytes) c ≡ bytes c
written_one a x bytes c true h = go (is_in (bounds_of a.at.last) c) h
  where
    go : (b : Bool) → b ≡ false → (if b then Unknown x else bytes c) ≡ bytes c
    go true e = absurd (true≢false e)
    go false e = refl
written_one a x bytes c false h = refl

forgotten_kept : (xs : List FreeAccess) (x : Decision) (bytes : ℕ → Symbolic) (c : ℕ)
    → list_any (λ f. is_written_in f c) (map (λ (a : FreeAccess). record { bytes = bounds_of a.at.last; writes = a.writes }) xs) ≡ false → forgotten_bytes xs x bytes c ≡ bytes c
forgotten_kept [] x bytes c h = refl
forgotten_kept (a ∷ xs) x bytes c h =
    let k = no_either (a.writes && is_in (bounds_of a.at.last) c) _ h in
    forgotten_kept xs x (if a.writes then spoiled (bounds_of a.at.last) x bytes else bytes) c k.1 ∙ written_one a x bytes c a.writes k.0

abbrev pub IsUnknown : Symbolic → Type 0
IsUnknown s = (x : Decision) × (s ≡ Unknown x)

written_unknown : (a : FreeAccess) (x : Decision) (bytes : ℕ → Symbolic) (c : ℕ) (w : Bool) → (w && is_in (bounds_of a.at.last) c) ≡ true
    → IsUnknown ((if w then spoiled (bounds_of a.at.last) x bytes else bytes) c)
written_unknown a x bytes c true h = go (is_in (bounds_of a.at.last) c) h
  where
    go : (b : Bool) → b ≡ true → IsUnknown (if b then Unknown x else bytes c)
    go true e = (x, refl)
    go false e = absurd (true≢false (sym e))
written_unknown a x bytes c false h = absurd (true≢false (sym h))

still_unknown : (xs : List FreeAccess) (x : Decision) (bytes : ℕ → Symbolic) (c : ℕ) → IsUnknown (bytes c) → IsUnknown (forgotten_bytes xs x bytes c)
still_unknown [] x bytes c h = h
still_unknown (a ∷ xs) x bytes c h = still_unknown xs x (if a.writes then spoiled (bounds_of a.at.last) x bytes else bytes) c (go (a.writes && is_in (bounds_of a.at.last) c) refl)
  where
    go : (b : Bool) → (a.writes && is_in (bounds_of a.at.last) c) ≡ b → IsUnknown ((if a.writes then spoiled (bounds_of a.at.last) x bytes else bytes) c)
    go true e = written_unknown a x bytes c a.writes e
    go false e = subst IsUnknown (sym (written_one a x bytes c a.writes e)) h

forgotten_unknown : (xs : List FreeAccess) (x : Decision) (bytes : ℕ → Symbolic) (c : ℕ)
    → list_any (λ f. is_written_in f c) (map (λ (a : FreeAccess). record { bytes = bounds_of a.at.last; writes = a.writes }) xs) ≡ true → IsUnknown (forgotten_bytes xs x bytes c)
forgotten_unknown [] x bytes c h = absurd (true≢false (sym h))
forgotten_unknown (a ∷ xs) x bytes c h = go (a.writes && is_in (bounds_of a.at.last) c) refl h (forgotten_unknown xs x (if a.writes then spoiled (bounds_of a.at.last) x bytes else bytes) c)
  where
    go : (b : Bool) → (a.writes && is_in (bounds_of a.at.last) c) ≡ b
        → (b || list_any (λ f. is_written_in f c) (map (λ (a : FreeAccess). record { bytes = bounds_of a.at.last; writes = a.writes }) xs)) ≡ true →
        (list_any (λ f. is_written_in f c) (map (λ (a : FreeAccess). record { bytes = bounds_of a.at.last; writes = a.writes }) xs) ≡ true
        → IsUnknown (forgotten_bytes xs x (if a.writes then spoiled (bounds_of a.at.last) x bytes else bytes) c)) → IsUnknown (forgotten_bytes (a ∷ xs) x bytes c)
    go true e k more = still_unknown xs x (if a.writes then spoiled (bounds_of a.at.last) x bytes else bytes) c (written_unknown a x bytes c a.writes e)
    go false e k more = more k

-- ---- a branch step that is left free

pub record IsFree (p : NumberedProgram) (d : Taken) (x : Seen) : Type 0 where
  pub instr : Instr
  pub is : instr_in p x.moment ≡ Some instr
  pub number : ℕ
  pub kind : x.moment.did.did.kind ≡ kinds.Branch number
  pub free : FreeRegion
  pub region : x.region ≡ Some free
  pub pinned : d.pinned x.number ≡ false

branch_kind : (k : StepKind) → is_branch k ≡ true → (c : ℕ) × (k ≡ kinds.Branch c)
branch_kind (kinds.Branch c) h = (c, refl)
branch_kind kinds.Other h = absurd (true≢false (sym h))
branch_kind (kinds.Access a) h = absurd (true≢false (sym h))
branch_kind (kinds.Event e) h = absurd (true≢false (sym h))
branch_kind (kinds.Allocation a b) h = absurd (true≢false (sym h))

pub is_free : (R : Reference) (d : Taken) (x : Seen) → x.region ≡ region_of R.program R.regions x.moment (instr_in R.program x.moment) → is_instance d x ≡ true → IsFree R.program d x
is_free R d x e h =
    let k = and_parts (has_region x.region) (not (d.pinned x.number)) h in
    by (instr_in R.program x.moment) refl x.region refl k.0 (not_true (d.pinned x.number) k.1)
  where
    found : (i : Instr) (q : FreeRegion) → region_of R.program R.regions x.moment (Some i) ≡ Some q → is_branch x.moment.did.did.kind ≡ true
    found i q z = go (is_branch x.moment.did.did.kind) z
      where
        go : (b : Bool) → (if b then region_at R.program x.moment (R.regions i.block.0) else None) ≡ Some q → b ≡ true
        go true z = refl
        go false z = absurd cc

    by : (o : Option Instr) → instr_in R.program x.moment ≡ o → (r : Option FreeRegion) → x.region ≡ r → has_region r ≡ true → d.pinned x.number ≡ false → IsFree R.program d x
    by o i None r g n = absurd (true≢false (sym g))
    by None i (Some q) r g n = let z : Path (Option FreeRegion) None (Some q) = sym (ap (region_of R.program R.regions x.moment) i) ∙ sym e ∙ r in absurd cc
    by (Some j) i (Some q) r g n =
        let w = branch_kind x.moment.did.did.kind (found j q (sym (ap (region_of R.program R.regions x.moment) i) ∙ sym e ∙ r)) in
        record { instr = j; is = i; number = w.0; kind = w.1; free = q; region = r; pinned = n }

module _ (R : Reference) (d : Taken) (x : Seen) (e : x.region ≡ region_of R.program R.regions x.moment (instr_in R.program x.moment))
    (live : is_live d.pinned (thread_of x.before (thread_in x.moment)).extents ≡ true) (h : is_instance d x ≡ true) where
  abbrev pub freed : IsFree R.program d x
  freed = is_free R d x e h

  -- what is known of cells behind it
  pub cells_freed : (c : ℕ) → cell_known (after_step R d x.number x.moment x.before) c
      ≡ (if nat_lt c MEMORY_BYTES then forgotten_bytes (is_free R d x e h).free.accesses (Pinned x.number) x.before.bytes c else slice_index_or x.before.words (c - MEMORY_BYTES) (always 0))
  cells_freed c =
      let f = is_free R d x e h in
      ap (λ (b : Bool). cell_known (if b then live_after R.program d x.number x.moment (region_of R.program R.regions x.moment (instr_in R.program x.moment))
      (instr_in R.program x.moment) x.before else x.before) c) live
      ∙ ap (λ (g : Option FreeRegion). cell_known (live_after R.program d x.number x.moment g (instr_in R.program x.moment) x.before) c) (sym e ∙ f.region)
      ∙ ap (λ (o : Option Instr). cell_known (live_after R.program d x.number x.moment (Some f.free) o x.before) c) f.is
      ∙ ap (λ (k : StepKind). cell_known (live_by R.program d x.number x.moment (Some f.free) f.instr k x.before) c) f.kind
      ∙ ap (λ (b : Bool). if nat_lt c MEMORY_BYTES then bytes_freed b x.number (Some f.free) x.before.bytes c else slice_index_or x.before.words (c - MEMORY_BYTES) (always 0)) f.pinned

  -- what it may write
  pub writes_freed : (c : ℕ) → writes_cell d x c ≡ (if nat_lt c MEMORY_BYTES then list_any (λ f. is_written_in f c) (footprints_in (Some (is_free R d x e h).free)) else false)
  writes_freed c =
      let f = is_free R d x e h in
      ap (λ (k : StepKind). if nat_lt c MEMORY_BYTES then list_any (λ g. is_written_in g c)
      (access_touch d x.number (access_in k) ++ (if is_instance d x then footprints_in x.region else [])) else is_thread (word_written (thread_in x.moment) k) (c - MEMORY_BYTES)) f.kind
      ∙ ap (λ (b : Bool). if nat_lt c MEMORY_BYTES then list_any (λ g. is_written_in g c) (if b then footprints_in x.region else []) else false) h
      ∙ ap (λ (r : Option FreeRegion). if nat_lt c MEMORY_BYTES then list_any (λ g. is_written_in g c) (footprints_in r) else false) f.region

  -- it changes no other cells
  pub freed_kept : (c : ℕ) → writes_cell d x c ≡ false → cell_known (after_step R d x.number x.moment x.before) c ≡ cell_known x.before c
  freed_kept c w = cells_freed c ∙ go (nat_lt c MEMORY_BYTES) (sym (writes_freed c) ∙ w)
    where
      go : (b : Bool) → (if b then list_any (λ f. is_written_in f c) (footprints_in (Some (is_free R d x e h).free)) else false) ≡ false →
          (if b then forgotten_bytes (is_free R d x e h).free.accesses (Pinned x.number) x.before.bytes c else slice_index_or x.before.words (c - MEMORY_BYTES) (always 0))
          ≡ (if b then x.before.bytes c else slice_index_or x.before.words (c - MEMORY_BYTES) (always 0))
      go true k = forgotten_kept (is_free R d x e h).free.accesses (Pinned x.number) x.before.bytes c k
      go false k = refl

  -- and of those nothing is known
  pub freed_unknown : (c : ℕ) → writes_cell d x c ≡ true → IsUnknown (cell_known (after_step R d x.number x.moment x.before) c)
  freed_unknown c w = subst IsUnknown (sym (cells_freed c)) (go (nat_lt c MEMORY_BYTES) (sym (writes_freed c) ∙ w))
    where
      go : (b : Bool) → (if b then list_any (λ f. is_written_in f c) (footprints_in (Some (is_free R d x e h).free)) else false) ≡ true →
          IsUnknown (if b then forgotten_bytes (is_free R d x e h).free.accesses (Pinned x.number) x.before.bytes c else slice_index_or x.before.words (c - MEMORY_BYTES) (always 0))
      go true k = forgotten_unknown (is_free R d x e h).free.accesses (Pinned x.number) x.before.bytes c k
      go false k = absurd (true≢false (sym k))
