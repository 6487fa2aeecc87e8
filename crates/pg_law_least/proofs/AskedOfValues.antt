-- What steps ask of values, where what is known before them is alike.
use Rattle.std.proofs.Common.{◌≡◌, ℕ, Bool, true, false, List, [], ◌∷◌, ◌++◌, Option, Some, None, refl, sym, ◌∙◌, subst}
use Rattle.std.specs.Prelude.{Contains, ◌||◌, if◌then◌else◌}
use Rattle.std.specs.List.{AllZip, AllByRecursion}
use Rattle.std.proofs.lemmas.Bool.{true≢false}
use Rattle.std.proofs.lemmas.List.Elements.{Contains-append_left, Contains-append_right}
use Rattle.pg_num.specs.Places.{ByteRange}
use Rattle.pg_ir.specs.declared.instr.Instr.{Instr}
use Rattle.pg_precondition.specs.declared.check.Test.{Test}
use Rattle.pg_region_paths.specs.declared.path.Root.{Root}
use Rattle.pg_region_paths.specs.declared.path.Root.TheVariants as root
use Rattle.pg_region_paths.specs.Paths.{offsets_of}
use Rattle.pg_run_trace.specs.declared.turn.TurnKind.{TurnKind}
use Rattle.pg_run_trace.specs.declared.turn.TurnKind.TheVariants as turns
use Rattle.pg_run_trace.specs.declared.step.StepKind.{StepKind}
use Rattle.pg_run_trace.specs.declared.step.StepKind.TheVariants as kinds
use Rattle.pg_run_trace.specs.declared.step.Access.{Access}
use Rattle.pg_run_trace.specs.declared.step.Event.{Event}
use Rattle.pg_run_trace.specs.Steps.{access_in}
use Rattle.pg_slice_rules.specs.declared.decision.Decision.TheVariants.{Pinned, Exact}
use Rattle.pg_slice_rules.specs.Moments.{instr_in, thread_in}
use Rattle.pg_slice_rules.specs.Freeable.{FreeAccess, FreeRegion}
use Rattle.pg_slice_rules.specs.SymbolicValues.{Symbolic, loaded}
use Rattle.pg_slice_rules.specs.Known.{Reference, SymbolicState, Seen, Taken, registers_of}
use Rattle.pg_slice_rules.specs.Rules.{Need, Value, Bounds, access_needs_by, access_needs_in, all_of, checked_of, address_index, equal_to, event_needs, bounds_needs, free_access_needs, is_malloc}
use Rattle.pg_slice_rules.specs.Rules.{kind_in, operand_of, path_needs, region_needs_in, registers_before, root_symbolic, same_bounds, value_needs, value_needs_by, value_needs_in, write_index}
use Rattle.pg_slice_rules.specs.Rules.{write_needs}
use Rattle.pg_law_least.proofs.AlikeLists.{append_like, map_like}
use Rattle.pg_region_paths.proofs.Elements.{here}
use Rattle.pg_law_least.proofs.KeptLikeness.{IsLink, loaded_like, operand_like, register_like}

-- ---- needs that are alike

-- a test of bounds
abbrev pub IsBoundsTest : Test → Type 0
IsBoundsTest a = (word : ℕ) × (a ≡ same_bounds word)

abbrev pub NeedLike : (Symbolic → Symbolic → Type 0) → Need → Need → Type 0
NeedLike L (Value s a) (Value t b) = L s t × (b ≡ a)
NeedLike L (Bounds s a) (Bounds t b) = L s t × (b ≡ a) × IsBoundsTest a
NeedLike L m n = ⊥

-- each of the first is like one of the second
abbrev pub NeedsWithin : (Symbolic → Symbolic → Type 0) → List Need → List Need → Type 0
NeedsWithin L ns ms = AllByRecursion (λ (a : Need). (b : Need) × Contains ms b × NeedLike L a b) ns

more_left : (L : Symbolic → Symbolic → Type 0) (ns ms us : List Need) → NeedsWithin L ns ms → NeedsWithin L ns (ms ++ us)
more_left L [] ms us h = tt
more_left L (n ∷ ns) ms us h = ((h.0.0, Contains-append_left ms us h.0.0 h.0.1, h.0.2), more_left L ns ms us h.1)

more_right : (L : Symbolic → Symbolic → Type 0) (ns ms us : List Need) → NeedsWithin L ns us → NeedsWithin L ns (ms ++ us)
more_right L [] ms us h = tt
more_right L (n ∷ ns) ms us h = ((h.0.0, Contains-append_right ms us h.0.0 h.0.1, h.0.2), more_right L ns ms us h.1)

joined_needs : (L : Symbolic → Symbolic → Type 0) (ns us ms : List Need) → NeedsWithin L ns ms → NeedsWithin L us ms → NeedsWithin L (ns ++ us) ms
joined_needs L [] us ms h k = k
joined_needs L (n ∷ ns) us ms h k = (h.0, joined_needs L ns us ms h.1 k)

pub append_needs : (L : Symbolic → Symbolic → Type 0) (ns ms us vs : List Need) → NeedsWithin L ns ms → NeedsWithin L us vs → NeedsWithin L (ns ++ us) (ms ++ vs)
append_needs L ns ms us vs h k = joined_needs L ns us (ms ++ vs) (more_left L ns ms vs h) (more_right L us ms vs k)

zip_needs : (L : Symbolic → Symbolic → Type 0) (ns ms : List Need) → AllZip (NeedLike L) ns ms → NeedsWithin L ns ms
zip_needs L [] ms h = tt
zip_needs L (n ∷ ns) [] h = absurd h
zip_needs L (n ∷ ns) (m ∷ ms) h = ((m, here m ms, h.0), more_right L ns (m ∷ []) ms (zip_needs L ns ms h.1))

-- ---- steps that are alike: what is known before the second, where the first is live

abbrev pub seen_as : Seen → Bool → SymbolicState → Seen
seen_as x live before = record { number = x.number; moment = x.moment; region = x.region; live = live; before = before }

pub record SeenLike (L : Symbolic → Symbolic → Type 0) (x y : Seen) : Type 0 where
  pub same : y ≡ seen_as x y.live y.before
  pub live : x.live ≡ true → y.live ≡ true
  pub registers : x.live ≡ true → AllZip L (registers_before x) (registers_before y)
  pub bytes : (b : ℕ) → L (x.before.bytes b) (y.before.bytes b)
  pub words : AllZip L x.before.words y.before.words

module _ (R : Reference) (d e : Taken) (bound : ℕ) (L : Symbolic → Symbolic → Type 0) (k : IsLink d e bound L) where
  module _ (x y : Seen) (number : y.number ≡ x.number) (registers : AllZip L (registers_before x) (registers_before y)) (bytes : (b : ℕ) → L (x.before.bytes b) (y.before.bytes b)) where
    operands_like : (i : Instr) (j : ℕ) → L (operand_of R.program x i j) (operand_of R.program y i j)
    operands_like i j = operand_like R.program d e bound L k (registers_before x) (registers_before y) i.op j registers

    if_needs : (b c : Bool) → (b ≡ true → c ≡ true) → (n m : Need) → NeedLike L n m → NeedsWithin L (if b then n ∷ [] else []) (if c then m ∷ [] else [])
    if_needs true true f n m h = zip_needs L (n ∷ []) (m ∷ []) (h, tt)
    if_needs true false f n m h = absurd (true≢false (sym (f refl)))
    if_needs false c f n m h = tt

    exact_grows : (b c v : Bool) → (b ≡ true → c ≡ true) → (v || b) ≡ true → (v || c) ≡ true
    exact_grows b c true f q = refl
    exact_grows b c false f q = f q

    event_like : (i : Instr) (v : Event) (kind : TurnKind) → NeedsWithin L (event_needs R.program x i v kind) (event_needs R.program y i v kind)
    event_like i v turns.Start = tt
    event_like i v _ = zip_needs L _ _ (map_like (NeedLike L) (equal_to R.program x i v) (equal_to R.program y i v) (checked_of i.op) (λ j. (operands_like i j, refl)))

    values_by : (i : Instr) (kind : StepKind) → NeedsWithin L (value_needs_by R.program d x i kind) (value_needs_by R.program e y i kind)
    values_by i (kinds.Branch c) = if_needs (d.pinned x.number) (e.pinned y.number) (λ q. rw number (k.within (Pinned x.number) q)) _ _ (operands_like i 0, refl)
    values_by i (kinds.Access a) = if_needs (a.event || d.exact x.number) (a.event || e.exact y.number)
        (exact_grows (d.exact x.number) (e.exact y.number) a.event (λ q. rw number (k.within (Exact x.number) q))) _ _ (operands_like i (address_index i.op), refl)
    values_by i (kinds.Allocation operand result) = if_needs (is_malloc i.op) (is_malloc i.op) (λ q. q) _ _ (operands_like i 0, refl)
    values_by i (kinds.Event v) = event_like i v v.kind
    values_by i kinds.Other = tt

    bounds_like : (i : Instr) (j w : ℕ) → NeedsWithin L (Bounds (operand_of R.program x i j) (same_bounds w) ∷ []) (Bounds (operand_of R.program y i j) (same_bounds w) ∷ [])
    bounds_like i j w = zip_needs L (Bounds (operand_of R.program x i j) (same_bounds w) ∷ []) (Bounds (operand_of R.program y i j) (same_bounds w) ∷ []) ((operands_like i j, refl, (w, refl)), tt)

    write_like : (i : Instr) (a : Option Access) → NeedsWithin L (write_needs R.program x i a) (write_needs R.program y i a)
    write_like i None = tt
    write_like i (Some a) = bounds_like i (write_index i.op) a.pointer

    accesses_by : (i : Instr) (kind : StepKind) → NeedsWithin L (access_needs_by R.program x i kind) (access_needs_by R.program y i kind)
    accesses_by i (kinds.Access a) = bounds_like i (address_index i.op) a.pointer
    accesses_by i (kinds.Event v) = write_like i (access_in (kinds.Event v))
    accesses_by i kind = tt

    path_like : (offsets words : List ℕ) (cells : List ByteRange) (last : ℕ) (s t : Symbolic) → L s t →
        AllZip (NeedLike L) (path_needs x.before.bytes s offsets words cells last) (path_needs y.before.bytes t offsets words cells last)
    path_like (o ∷ offsets) (w ∷ words) (c ∷ cells) last s t h = (
      (k.shifts o s t h, refl),
      path_like offsets words cells last (loaded x.before.bytes c.start 8) (loaded y.before.bytes c.start 8)
          (loaded_like R.program d e bound L k x.before.bytes y.before.bytes c.start 8 bytes),
    )
    path_like _ _ _ last s t h = ((h, refl, (last, refl)), tt)

    root_like : (r : Root) → L (root_symbolic R.program (registers_before x) r) (root_symbolic R.program (registers_before y) r)
    root_like (root.Register r) = register_like R.program d e bound L k (registers_before x) (registers_before y) r registers
    root_like r = k.known _

    free_like : (a : FreeAccess) → AllZip (NeedLike L) (free_access_needs R.program x a) (free_access_needs R.program y a)
    free_like a = path_like (offsets_of a.path.loads) a.at.pointers a.at.cells a.at.last (root_symbolic R.program (registers_before x) a.path.root)
        (root_symbolic R.program (registers_before y) a.path.root) (root_like a.path.root)

    frees_like : (xs : List FreeAccess) → AllZip (NeedLike L) (all_of (free_access_needs R.program x) xs) (all_of (free_access_needs R.program y) xs)
    frees_like [] = tt
    frees_like (a ∷ xs) = append_like (NeedLike L) _ _ _ _ (free_like a) (frees_like xs)

    region_like : (r : Option FreeRegion) → NeedsWithin L (region_needs_in R.program x r) (region_needs_in R.program y r)
    region_like None = tt
    region_like (Some r) = zip_needs L _ _ (frees_like r.accesses)

  -- ---- of steps that are alike

  module _ (x : Seen) (live : Bool) (before : SymbolicState) (lives : x.live ≡ true → live ≡ true)
      (registers : x.live ≡ true → AllZip L (registers_before x) (registers_of before (thread_in x.moment))) (bytes : (b : ℕ) → L (x.before.bytes b) (before.bytes b)) where
    live_values : (i : Option Instr) (b c : Bool) → x.live ≡ b → live ≡ c → NeedsWithin L (value_needs_in R.program d x i) (value_needs_in R.program e (seen_as x live before) i)
    live_values None b c f g = tt
    live_values (Some i) true true f g = rw (f, g) (values_by x (seen_as x live before) refl (registers f) bytes i (kind_in x))
    live_values (Some i) true false f g = absurd (true≢false (sym (lives f) ∙ g))
    live_values (Some i) false c f g = rw f tt

    live_accesses : (i : Option Instr) (b c : Bool) → x.live ≡ b → live ≡ c → NeedsWithin L (access_needs_in R.program x i) (access_needs_in R.program (seen_as x live before) i)
    live_accesses None b c f g = tt
    live_accesses (Some i) true true f g = rw (f, g) (accesses_by x (seen_as x live before) refl (registers f) bytes i (kind_in x))
    live_accesses (Some i) true false f g = absurd (true≢false (sym (lives f) ∙ g))
    live_accesses (Some i) false c f g = rw f tt

    live_regions : (b c : Bool) → x.live ≡ b → live ≡ c →
        NeedsWithin L (if x.live then region_needs_in R.program x x.region else []) (if live then region_needs_in R.program (seen_as x live before) x.region else [])
    live_regions true true f g = rw (f, g) (region_like x (seen_as x live before) refl (registers f) bytes x.region)
    live_regions true false f g = absurd (true≢false (sym (lives f) ∙ g))
    live_regions false c f g = rw f tt

    values_as : NeedsWithin L (value_needs R d x) (value_needs R e (seen_as x live before))
    values_as = live_values (instr_in R.program x.moment) x.live live refl refl

    bounds_as : NeedsWithin L (bounds_needs R x) (bounds_needs R (seen_as x live before))
    bounds_as = append_needs L _ _ _ _ (live_accesses (instr_in R.program x.moment) x.live live refl refl) (live_regions x.live live refl refl)

  as_like : (x y : Seen) → SeenLike L x y → SeenLike L x (seen_as x y.live y.before)
  as_like x y h = subst (SeenLike L x) h.same h

  pub values_within : (x y : Seen) → SeenLike L x y → NeedsWithin L (value_needs R d x) (value_needs R e y)
  values_within x y h = subst (λ (z : Seen). NeedsWithin L (value_needs R d x) (value_needs R e z)) (sym h.same) (values_as x y.live y.before h.live (as_like x y h).registers h.bytes)

  pub bounds_within : (x y : Seen) → SeenLike L x y → NeedsWithin L (bounds_needs R x) (bounds_needs R y)
  bounds_within x y h = subst (λ (z : Seen). NeedsWithin L (bounds_needs R x) (bounds_needs R z)) (sym h.same) (bounds_as x y.live y.before h.live (as_like x y h).registers h.bytes)
