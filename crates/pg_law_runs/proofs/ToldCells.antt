-- The steps of a run and what they do: a step tells the cells that it touches, but for words, which only events touch.
use Rattle.std.proofs.Common.{◌≡◌, ℕ, ℤ, ◌+◌, ◌-◌, ◌<◌, ◌≤◌, List, [], ◌∷◌, Bool, true, false, Option, Some, None, Ok, Err, refl, sym, ◌∙◌, ap, subst}
use Rattle.std.proofs.Common.{arith, inl, inr, ◌⊎◌}
use Rattle.std.specs.Prelude.{◌&&◌, ◌||◌, not, map, nat_lt, nat_le, is_some, slice_get, slice_index, if◌then◌else◌, ⊤}
use Rattle.std.specs.List.{AllByRecursion as AllOf}
use Rattle.std.proofs.lemmas.Bool.Decides.{nat_tests}
use Rattle.std.proofs.lemmas.Bool.{cases_lt, and_parts, or_cases}
use Rattle.pg_num.specs.Places.{ByteRange}
use Rattle.pg_num.specs.Pointers.{byte_place, is_aligned, is_in_range as in_range, place_of}
use Rattle.pg_num.specs.declared.layout.TheConstants.{MEMORY_BYTES}
use Rattle.pg_num.specs.declared.places.PlaceFault.TheVariants as fault
use Rattle.pg_ir.specs.declared.ids.InstrId.{InstrId}
use Rattle.pg_ir.specs.declared.request.Request.{Request}
use Rattle.pg_ir.specs.declared.request.Request.TheVariants as requests
use Rattle.pg_ir.specs.Program.{NumberedProgram}
use Rattle.pg_law_threads.specs.Steps.{Conflict}
use Rattle.pg_law_threads.specs.Intervals.{AreTurns, IsOrdered, done_after}
use Rattle.pg_law_threads.specs.Effects.{deeds}
use Rattle.pg_run_thread.specs.declared.action.Action.{Action}
use Rattle.pg_run_thread.specs.declared.action.Action.TheVariants as actions
use Rattle.pg_run_trace.specs.declared.step.Access.{Access}
use Rattle.pg_run_trace.specs.declared.step.Step.{Step}
use Rattle.pg_run_trace.specs.Races.{reads_in, recorded, writes_in}
use Rattle.pg_run_trace.specs.Races as races
use Rattle.pg_run_trace.specs.Steps.{access_of, happening_in, range_of}
use Rattle.pg_run.specs.Locality.{IfDid}
use Rattle.pg_run.specs.Named.{IsNamed, IsRequestNamed}
use Rattle.pg_run.specs.State.{State, next_of}
use Rattle.pg_run.specs.MachineStep.{Stepped, operands_in}
use Rattle.pg_run.specs.Runs.{IsRun, Takes}
use Rattle.pg_run.proofs.ActionPlaces.{next_named, place_is}
use Rattle.pg_law_effects.specs.Effect.{Effect, RequestEffect, Write, effect, effect_by, effect_of, request_effect, word_read_by}
use Rattle.pg_law_effects.specs.Meets.{byte_in, byte_written, is_in, is_in_range, reads_byte}
use Rattle.pg_law_effects.specs.PermittedSteps.{one_more}
use Rattle.pg_law_effects.specs.Told.{TellsAccess, TellsAs}
use Rattle.pg_law_effects.specs.Views.{is_thread, word_in}
use Rattle.pg_law_effects.proofs.StepsApart.{left_by}
use Rattle.pg_law_effects.proofs.ToldByStep.{tells_access}
use Rattle.pg_law_runs.specs.Deeds.{Did as Deed', deed_of, deeds_of}
use Rattle.pg_law_runs.proofs.DeedDependence.{deed_event, request_event, some_turn}
use Rattle.pg_law_runs.proofs.OrderedDeeds.{Paired, ordered_as}

-- ---- accesses are within memory

fits_by : (word bytes : ℕ) (r : ByteRange) (a b : Bool) → in_range word bytes ≡ a
    → (if not a then Err fault.OutOfRange else if not b then Err fault.Misaligned else Ok (record { start = byte_place word; bytes = bytes })) ≡ Ok r → byte_place word + bytes ≤ MEMORY_BYTES
fits_by word bytes r true b e h = let k = (and_parts (nat_le ((Rattle.pg_num.specs.Pointers.pointer_of word).offset + bytes) (Rattle.pg_num.specs.Pointers.pointer_of word).length)
    (nat_le (byte_place word + bytes) MEMORY_BYTES) e).1 in grind (arith, nat_tests)
fits_by word bytes r false b e h = absurd cc

place_fits : (word bytes : ℕ) (r : ByteRange) → place_of word bytes ≡ Ok r → r.start + r.bytes ≤ MEMORY_BYTES
place_fits word bytes r e = subst (λ (q : ByteRange). q.start + q.bytes ≤ MEMORY_BYTES) (place_is word bytes r e) (fits_by word bytes r (in_range word bytes) (is_aligned word bytes) refl e)

Fits : Option ByteRange → Type 0
Fits None = ⊤
Fits (Some r) = r.start + r.bytes ≤ MEMORY_BYTES

at_of : Option Write → Option ByteRange
at_of None = None
at_of (Some w) = Some w.at

request_fits : (p : NumberedProgram) (input : List ℤ) (s : State) (t : ℕ) (ns : List ℕ) (r : Request) → IsRequestNamed ns r → Fits (at_of (effect_by p input s t (actions.Event r)).writes)
unfolding Fits at_of
request_fits p input s t ns (requests.Create r f n) h = place_fits (slice_index ns 0) 8 r h
request_fits p input s t ns (requests.Join n (Some r)) h = place_fits (slice_index ns 1) 8 r h
request_fits p input s t ns (requests.Join n None) h = tt
request_fits p input s t ns r h = tt

action_fits : (p : NumberedProgram) (input : List ℤ) (s : State) (t : ℕ) (ns : List ℕ) (action : Action) → IsNamed ns action
    → Fits (effect_by p input s t action).reads × Fits (at_of (effect_by p input s t action).writes)
unfolding Fits at_of request_fits
action_fits p input s t ns (actions.Load r) h = (place_fits (slice_index ns 0) r.bytes r h, tt)
action_fits p input s t ns (actions.Store r n) h = (tt, place_fits (slice_index ns 1) r.bytes r h)
action_fits p input s t ns (actions.Event r) h = (tt, request_fits p input s t ns r h)
action_fits p input s t ns action h = (tt, tt)

effect_fits : (p : NumberedProgram) (input : List ℤ) (s : State) (t : ℕ) → Fits (effect_of p input s t).reads × Fits (at_of (effect_of p input s t).writes)
unfolding effect_of
effect_fits p input s t = action_fits p input s t (operands_in p (slice_get s.locals t)) (next_of p s t) (next_named p s t)

-- ---- what is told of an access

is_some_in : (b : Bool) (n : ℕ) → is_some (if◌then◌else◌ {A = Option ℕ} b (Some n) None) ≡ b
is_some_in true n = refl
is_some_in false n = refl

reads_by : (o : Option Access) (e : Effect) (b : ℕ) → TellsAccess o e → reads_byte e b ≡ reads_in o b
reads_by None e b h = ap (λ (q : Option ByteRange). is_in_range q b) h.0
reads_by (Some a) e b h = go a.writes refl
  where
    go : (w : Bool) → a.writes ≡ w → reads_byte e b ≡ (not a.writes && races.is_in (range_of a) b)
    go true w = let k : TellsAs true a e = subst (λ (v : Bool). TellsAs v a e) w h in rw w (ap (λ (q : Option ByteRange). is_in_range q b) k.0)
    go false w = let k : TellsAs false a e = subst (λ (v : Bool). TellsAs v a e) w h in rw w (ap (λ (q : Option ByteRange). is_in_range q b) k.0)

writes_by : (o : Option Access) (e : Effect) (b : ℕ) → TellsAccess o e → is_some (byte_written e b) ≡ writes_in o b
writes_by None e b h = ap (λ (q : Option Write). is_some (byte_in q b)) h.1
writes_by (Some a) e b h = go a.writes refl
  where
    go : (w : Bool) → a.writes ≡ w → is_some (byte_written e b) ≡ (a.writes && races.is_in (range_of a) b)
    go true w = let k : TellsAs true a e = subst (λ (v : Bool). TellsAs v a e) w h in rw w (ap (λ (q : Option Write). is_some (byte_in q b)) k.1 ∙ is_some_in (is_in (range_of a) b) _)
    go false w = let k : TellsAs false a e = subst (λ (v : Bool). TellsAs v a e) w h in rw w (ap (λ (q : Option Write). is_some (byte_in q b)) k.1)

in_fits : (r : Option ByteRange) (b : ℕ) → Fits r → is_in_range r b ≡ true → b < MEMORY_BYTES
unfolding Fits
in_fits None b f h = absurd cc
in_fits (Some r) b f h = let k = (and_parts (nat_le r.start b) (nat_lt b (r.start + r.bytes)) h).1 in grind (arith, nat_tests)

write_in_fits : (w : Option Write) (b : ℕ) → Fits (at_of w) → is_some (byte_in w b) ≡ true → b < MEMORY_BYTES
unfolding at_of
write_in_fits None b f h = absurd cc
write_in_fits (Some w) b f h = in_fits (Some w.at) b f (sym (is_some_in (is_in w.at b) _) ∙ h)

-- ---- words

word_asks : (p : NumberedProgram) (s : State) (t : ℕ) (action : Action) → is_some (word_read_by t action) ≡ true → is_some (request_effect p s t action) ≡ true
word_asks p s t (actions.Event r) h = refl
word_asks p s t action h = absurd cc

read_asks : (p : NumberedProgram) (input : List ℤ) (s : State) (t u : ℕ) → is_thread (effect_of p input s t).word_read u ≡ true → is_some (effect_of p input s t).request ≡ true
unfolding effect_of
read_asks p input s t u h = word_asks p s t (next_of p s t) (some_thread (word_read_by t (next_of p s t)) h)
  where
    some_thread : (o : Option ℕ) → is_thread o u ≡ true → is_some o ≡ true
    some_thread None h = absurd cc
    some_thread (Some v) h = refl

write_asks : (t : ℕ) (r : Option RequestEffect) (u : ℕ) → is_some (word_in t r u) ≡ true → is_some r ≡ true
write_asks t None u h = absurd cc
write_asks t (Some r) u h = refl

-- ---- a step and what it does

pub record IsTold (x : Step) (d : Deed') : Type 0 where
  pub thread : x.thread.0 ≡ d.thread
  pub event : recorded.is_event x ≡ deeds.is_event d
  pub reads : (b : ℕ) → b < MEMORY_BYTES → d.reads b ≡ reads_in (access_of x) b
  pub writes : (b : ℕ) → b < MEMORY_BYTES → is_some (d.writes b) ≡ writes_in (access_of x) b
  pub word_read : (b : ℕ) → MEMORY_BYTES ≤ b → d.reads b ≡ true → deeds.is_event d ≡ true
  pub word_written : (b : ℕ) → MEMORY_BYTES ≤ b → is_some (d.writes b) ≡ true → deeds.is_event d ≡ true
  pub read_within : (b : ℕ) → reads_in (access_of x) b ≡ true → b < MEMORY_BYTES
  pub written_within : (b : ℕ) → writes_in (access_of x) b ≡ true → b < MEMORY_BYTES

below_is : (b : ℕ) → b < MEMORY_BYTES → nat_lt b MEMORY_BYTES ≡ true
below_is b h = grind (arith, nat_tests)

above_is : (b : ℕ) → MEMORY_BYTES ≤ b → nat_lt b MEMORY_BYTES ≡ false
above_is b h = grind (arith, nat_tests)

module _ (gated : List InstrId) (p : NumberedProgram) (input : List ℤ) where
  pub told : (s : State) (counts : ℕ → ℕ) (x : Step) → Takes gated p input s x → IsTold x (deed_of p input s counts x)
  told s counts x h =
      let t = x.thread.0 in
      let e = effect_of p input s t in
      let a : TellsAccess (access_of x) e = subst (λ (o : Stepped). IfDid o (λ y z. TellsAccess (access_of y) (effect_of p input s t))) h.is_step (tells_access gated p input s t) in
      let fits = effect_fits p input s t in
      record {
        thread = refl;
        event = sym (some_turn x (happening_in x.kind)) ∙ sym (deed_event gated p input s counts x);
        reads = λ b l. ap (λ (c : Bool). if c then reads_byte e b else is_thread e.word_read (b - MEMORY_BYTES)) (below_is b l) ∙ reads_by (access_of x) e b a;
        writes = λ b l. ap (λ (c : Bool). is_some (if c then byte_written e b else word_in e.thread e.request (b - MEMORY_BYTES))) (below_is b l) ∙ writes_by (access_of x) e b a;
        word_read = λ b l r. deed_event gated p input s counts x ∙ request_event gated p input s x h
            (read_asks p input s t (b - MEMORY_BYTES) (ap (λ (c : Bool). if c then reads_byte e b else is_thread e.word_read (b - MEMORY_BYTES)) (sym (above_is b l)) ∙ r));
        word_written = λ b l r. deed_event gated p input s counts x ∙ request_event gated p input s x h
            (write_asks e.thread e.request (b - MEMORY_BYTES) (ap (λ (c : Bool). is_some (if c then byte_written e b else word_in e.thread e.request (b - MEMORY_BYTES))) (sym (above_is b l)) ∙ r));
        read_within = λ b r. in_fits e.reads b fits.0 (reads_by (access_of x) e b a ∙ r);
        written_within = λ b r. write_in_fits e.writes b fits.1 (writes_by (access_of x) e b a ∙ r);
      }

  pub all_told : (s : State) (counts : ℕ → ℕ) (xs : List Step) (z : State) → IsRun gated p input s xs z → Paired recorded deeds IsTold xs (deeds_of p input s counts xs)
  unfolding deeds_of
  all_told s counts [] z h = tt
  all_told s counts (x ∷ xs) z h = (
    told s counts x h.0,
    all_told (effect s (effect_of p input s x.thread.0)) (one_more x.thread.0 counts) xs z
        (subst (λ (v : State). IsRun gated p input v xs z) (left_by gated p input s h.0.after x.thread.0 x h.0.is_step) h.1),
  )

-- a step that is no event writes no word
abbrev pub KeepsWords : Deed' → Type 0
KeepsWords d = deeds.is_event d ≡ false → (b : ℕ) → MEMORY_BYTES ≤ b → is_some (d.writes b) ≡ false

pub all_keep_words : (xs : List Step) (ds : List Deed') → Paired recorded deeds IsTold xs ds → AllOf KeepsWords ds
all_keep_words [] [] h = tt
all_keep_words [] (d ∷ ds) h = absurd h
all_keep_words (x ∷ xs) [] h = absurd h
all_keep_words (x ∷ xs) (d ∷ ds) h = ((λ e b l. go e b l (is_some (d.writes b)) refl), all_keep_words xs ds h.1)
  where
    go : deeds.is_event d ≡ false → (b : ℕ) → MEMORY_BYTES ≤ b → (c : Bool) → is_some (d.writes b) ≡ c → c ≡ false
    go e b l true w = absurd (let k : true ≡ false = sym (h.0.word_written b l w) ∙ e in cc)
    go e b l false w = refl

-- ---- conflicts

meets_same : (w r v q w' r' v' q' : Bool) → w ≡ w' → r ≡ r' → v ≡ v' → q ≡ q' → ((w && (q || v)) || ((r || w) && v)) ≡ ((w' && (q' || v')) || ((r' || w') && v'))
meets_same w r v q w' r' v' q' a b c d = rw (a, b, c, d) refl

both_touch : (w r v q : Bool) → ((w && (q || v)) || ((r || w) && v)) ≡ true → ((r || w) ≡ true) × ((q || v) ≡ true)
both_touch true true true true h = (refl, refl)
both_touch true true true false h = (refl, refl)
both_touch true true false true h = (refl, refl)
both_touch true false true true h = (refl, refl)
both_touch true false true false h = (refl, refl)
both_touch true false false true h = (refl, refl)
both_touch true r false false h = absurd (let k = or_cases false ((r || true) && false) h in none r k)
  where
    none : (r : Bool) → (false ≡ true) ⊎ (((r || true) && false) ≡ true) → ⊥
    none true (inl k) = absurd cc
    none true (inr k) = absurd cc
    none false (inl k) = absurd cc
    none false (inr k) = absurd cc
both_touch false true true true h = (refl, refl)
both_touch false true true false h = (refl, refl)
both_touch false true false q h = absurd cc
both_touch false false v q h = absurd cc

module _ (x x' : Step) (d d' : Deed') (h : IsTold x d) (k : IsTold x' d') where
  -- what conflicts as deeds conflicts as steps, or both are events
  pub as_steps : Conflict deeds d d' → Conflict recorded x x' ⊎ ((deeds.is_event d ≡ true) × (deeds.is_event d' ≡ true))
  as_steps c = go (cases_lt c.cell MEMORY_BYTES)
    where
      go : (c.cell < MEMORY_BYTES) ⊎ (MEMORY_BYTES ≤ c.cell) → Conflict recorded x x' ⊎ ((deeds.is_event d ≡ true) × (deeds.is_event d' ≡ true))
      go (inl l) = inl (record {
        threads = λ e. c.threads (sym h.thread ∙ e ∙ k.thread);
        cell = c.cell;
        meet = sym (meets_same (is_some (d.writes c.cell)) (d.reads c.cell) (is_some (d'.writes c.cell)) (d'.reads c.cell) _ _ _ _ (h.writes c.cell l) (h.reads c.cell l) (k.writes c.cell l)
            (k.reads c.cell l)) ∙ c.meet;
      })
      go (inr l) =
          let b = both_touch (is_some (d.writes c.cell)) (d.reads c.cell) (is_some (d'.writes c.cell)) (d'.reads c.cell) c.meet in
          inr (first (or_cases (d.reads c.cell) (is_some (d.writes c.cell)) b.0), second (or_cases (d'.reads c.cell) (is_some (d'.writes c.cell)) b.1))
        where
          first : (d.reads c.cell ≡ true) ⊎ (is_some (d.writes c.cell) ≡ true) → deeds.is_event d ≡ true
          first (inl r) = h.word_read c.cell l r
          first (inr w) = h.word_written c.cell l w

          second : (d'.reads c.cell ≡ true) ⊎ (is_some (d'.writes c.cell) ≡ true) → deeds.is_event d' ≡ true
          second (inl r) = k.word_read c.cell l r
          second (inr w) = k.word_written c.cell l w

  -- and the other way
  pub as_deeds : Conflict recorded x x' → Conflict deeds d d' ⊎ ((recorded.is_event x ≡ true) × (recorded.is_event x' ≡ true))
  as_deeds c = inl (record {
    threads = λ e. c.threads (h.thread ∙ e ∙ sym k.thread);
    cell = c.cell;
    meet = meets_same (is_some (d.writes c.cell)) (d.reads c.cell) (is_some (d'.writes c.cell)) (d'.reads c.cell) _ _ _ _ (h.writes c.cell within) (h.reads c.cell within) (k.writes c.cell within)
        (k.reads c.cell within) ∙ c.meet;
  })
    where
      within : c.cell < MEMORY_BYTES
      within = go (or_cases (reads_in (access_of x) c.cell) (writes_in (access_of x) c.cell)
          (both_touch (writes_in (access_of x) c.cell) (reads_in (access_of x) c.cell) (writes_in (access_of x') c.cell) (reads_in (access_of x') c.cell) c.meet).0)
        where
          go : (reads_in (access_of x) c.cell ≡ true) ⊎ (writes_in (access_of x) c.cell ≡ true) → c.cell < MEMORY_BYTES
          go (inl r) = h.read_within c.cell r
          go (inr w) = h.written_within c.cell w

pub ordered_deeds : (T : List ℕ) (xs : List Step) (ds : List Deed') → Paired recorded deeds IsTold xs ds → AreTurns deeds T 0 ds → IsOrdered recorded T xs → IsOrdered deeds T ds
ordered_deeds T xs ds h t o = ordered_as recorded deeds IsTold (λ x d k. k.thread) (λ x d k. k.event) (λ x x' d d' k l c. as_steps x x' d d' k l c) T xs ds h t o

flipped : (xs : List Step) (ds : List Deed') → Paired recorded deeds IsTold xs ds → Paired deeds recorded (λ d x. IsTold x d) ds xs
flipped [] [] h = tt
flipped [] (d ∷ ds) h = absurd h
flipped (x ∷ xs) [] h = absurd h
flipped (x ∷ xs) (d ∷ ds) h = (h.0, flipped xs ds h.1)

pub ordered_steps : (T : List ℕ) (xs : List Step) (ds : List Deed') → Paired recorded deeds IsTold xs ds → AreTurns recorded T 0 xs → IsOrdered deeds T ds → IsOrdered recorded T xs
ordered_steps T xs ds h t o = ordered_as deeds recorded (λ d x. IsTold x d) (λ d x k. sym k.thread) (λ d x k. sym k.event) (λ d d' x x' k l c. as_deeds x x' d d' k l c) T ds xs
    (flipped xs ds h) t o

pub turns_as : (T : List ℕ) (n : ℕ) (xs : List Step) (ds : List Deed') → Paired recorded deeds IsTold xs ds → AreTurns deeds T n ds → AreTurns recorded T n xs
turns_as T n [] [] h t = tt
turns_as T n [] (d ∷ ds) h t = absurd h
turns_as T n (x ∷ xs) [] h t = absurd h
turns_as T n (x ∷ xs) (d ∷ ds) h t = (
  λ v. t.0 (sym h.0.event ∙ v) ∙ ap Some (sym h.0.thread),
  turns_as T (done_after (recorded.is_event x) n) xs ds h.1 (subst (λ (b : Bool). AreTurns deeds T (done_after b n) ds) (sym h.0.event) t.1),
)

module _ (gated : List InstrId) (p : NumberedProgram) (input : List ℤ) where
  pub each_told : (s : State) (counts : ℕ → ℕ) (xs : List Step) (z : State) → IsRun gated p input s xs z → AllOf (λ d. IsTold d.told d) (deeds_of p input s counts xs)
  unfolding deeds_of
  each_told s counts [] z h = tt
  each_told s counts (x ∷ xs) z h = (
    told gated p input s counts x h.0,
    each_told (effect s (effect_of p input s x.thread.0)) (one_more x.thread.0 counts) xs z
        (subst (λ (v : State). IsRun gated p input v xs z) (left_by gated p input s h.0.after x.thread.0 x h.0.is_step) h.1),
  )

pub paired_told : (ds : List Deed') → AllOf (λ d. IsTold d.told d) ds → Paired recorded deeds IsTold (map (λ (d : Deed'). d.told) ds) ds
paired_told [] h = tt
paired_told (d ∷ ds) h = (h.0, paired_told ds h.1)
