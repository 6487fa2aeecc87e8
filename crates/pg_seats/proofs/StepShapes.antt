-- What the deed of a step writes, by what is told of the step.
use Rattle.std.proofs.Common.{◌≡◌, ℕ, ℤ, ◌-◌, ◌<◌, ◌≤◌, List, [], ◌∷◌, length, Bool, true, false, Option, Some, None, Ok, Err, refl, sym, ◌∙◌, ap, subst, arith}
use Rattle.std.specs.Prelude.{◌==◌, ◌&&◌, nat_lt, is_some, slice_get, if◌then◌else◌}
use Rattle.std.specs.List.{AllByRecursion as AllOf}
use Rattle.std.proofs.lemmas.Bool.{eqb-true}
use Rattle.std.proofs.lemmas.Bool.Decides.{nat_tests}
use Rattle.pg_law_course.specs.pg_num.declared.layout.TheConstants.{MEMORY_BYTES}
use Rattle.pg_law_course.specs.pg_ir.declared.ids.InstrId.{InstrId}
use Rattle.pg_law_course.specs.pg_ir.declared.request.Request.{Request}
use Rattle.pg_law_course.specs.pg_ir.declared.request.Request.TheVariants as requests
use Rattle.pg_law_course.specs.pg_ir.Program.{NumberedProgram}
use Rattle.pg_law_course.specs.pg_run_memory.Bytes.{byte_of}
use Rattle.pg_law_course.specs.pg_run_thread.declared.action.Action.{Action}
use Rattle.pg_law_course.specs.pg_run_thread.declared.action.Action.TheVariants as actions
use Rattle.pg_law_course.specs.pg_run_thread.LocalState.{fresh}
use Rattle.pg_law_course.specs.pg_run_trace.declared.step.Access.{Access}
use Rattle.pg_law_course.specs.pg_run_trace.declared.step.Step.{Step}
use Rattle.pg_law_course.specs.pg_run_trace.Kinds.{kind_of}
use Rattle.pg_law_course.specs.pg_run_trace.Races.{is_in}
use Rattle.pg_law_course.specs.pg_run_trace.Steps.{access_of, range_of}
use Rattle.pg_law_course.specs.pg_run.Locality.{IfDid}
use Rattle.pg_law_course.specs.pg_run.State.{State, next_of}
use Rattle.pg_law_course.specs.pg_run.MachineStep.{Answered, Stepped, answered, kind_told, number_in, operands_in, settled, step, taken}
use Rattle.pg_law_course.specs.pg_run.Runs.{IsRun, Takes}
use Rattle.pg_law_course.specs.pg_law_effects.Effect.{Effect, effect, effect_of, request_effect}
use Rattle.pg_law_course.specs.pg_law_effects.Meets.{byte_in, byte_written}
use Rattle.pg_law_course.specs.pg_law_effects.PermittedSteps.{one_more}
use Rattle.pg_law_course.specs.pg_law_effects.Told.{TellsAccess, TellsAs}
use Rattle.pg_law_course.specs.pg_law_effects.Views.{word_in}
use Rattle.pg_law_course.proofs.of_pg_law_effects.StepsApart.{left_by}
use Rattle.pg_law_course.proofs.of_pg_law_effects.ToldByStep.{tells_access}
use Rattle.pg_law_course.specs.pg_law_runs.Deeds.{Did, deed_of, deeds_of}
use Rattle.pg_law_course.proofs.of_pg_law_runs.ToldCells.{IsTold}
use Rattle.pg_law_course.proofs.of_pg_law_runs.ToldCells as cells
use Rattle.pg_seats.specs.Views.{has_word, kind_leaves, leaves_word}

-- what an access writes to a byte
abbrev pub written_by : Option Access → ℕ → Option ℕ
written_by None b = None
written_by (Some a) b = if a.writes && is_in (range_of a) b then Some (byte_of a.number (b - (range_of a).start)) else None

pub record IsShaped (d : Did) : Type 0 where
  pub is_told : IsTold d.told d
  pub writes : (b : ℕ) → b < MEMORY_BYTES → d.writes b ≡ written_by (access_of d.told) b
  -- a word of a thread is left by a create or an exit, and is one
  pub has_word : (b : ℕ) → MEMORY_BYTES ≤ b → is_some (d.writes b) ≡ true → has_word d ≡ true
  pub one_word : (b c : ℕ) → MEMORY_BYTES ≤ b → MEMORY_BYTES ≤ c → is_some (d.writes b) ≡ true → is_some (d.writes c) ≡ true → b ≡ c

-- ---- words

none_if : (b : Bool) → is_some (if◌then◌else◌ {A = Option ℕ} b None None) ≡ true → ⊥
none_if true h = absurd cc
none_if false h = absurd cc

some_if : (b : Bool) (n : ℕ) → is_some (if◌then◌else◌ {A = Option ℕ} b (Some n) None) ≡ true → b ≡ true
some_if true n h = refl
some_if false n h = absurd cc

-- the word of a thread that is made, with none left by the step's own
made_if : (b c : Bool) (n : ℕ) → is_some (if◌then◌else◌ {A = Option ℕ} b (Some n) (if c then None else None)) ≡ true → b ≡ true
made_if true c n h = refl
made_if false c n h = absurd (none_if c h)

module _ (p : NumberedProgram) (s : State) (t : ℕ) where
  request_word : (r : Request) (u : ℕ) → is_some (word_in t (request_effect p s t (actions.Event r)) u) ≡ true → kind_leaves (kind_of r) ≡ true
  request_word (requests.Create at f n) u h = refl
  request_word (requests.Exit n is_return) u h = refl
  request_word r u h = absurd (none_if (t == u) h)

  request_one : (r : Request) (u v : ℕ) → is_some (word_in t (request_effect p s t (actions.Event r)) u) ≡ true → is_some (word_in t (request_effect p s t (actions.Event r)) v) ≡ true → u ≡ v
  request_one (requests.Create at f n) u v h k =
      let m = (fresh p (length s.locals) f).thread in
      sym (eqb-true m u (made_if (m == u) (t == u) n h)) ∙ eqb-true m v (made_if (m == v) (t == v) n k)
  request_one (requests.Exit n is_return) u v h k = sym (eqb-true t u (some_if (t == u) n h)) ∙ eqb-true t v (some_if (t == v) n k)
  request_one r u v h k = absurd (none_if (t == u) h)

  action_one : (action : Action) (u v : ℕ) → is_some (word_in t (request_effect p s t action) u) ≡ true → is_some (word_in t (request_effect p s t action) v) ≡ true → u ≡ v
  action_one (actions.Event r) u v h k = request_one r u v h k
  action_one action u v h k = absurd cc

  action_word : (gated : List InstrId) (ns : List ℕ) (a n : ℕ) (action : Action) (u : ℕ) → is_some (word_in t (request_effect p s t action) u) ≡ true
      → leaves_word (kind_told gated p s t ns a n action) ≡ true
  action_word gated ns a n (actions.Event r) u h = request_word r u h
  action_word gated ns a n action u h = absurd cc

tells_word : (gated : List InstrId) (p : NumberedProgram) (input : List ℤ) (s : State) (t : ℕ)
    → IfDid (step gated p input s t) (λ x z. (u : ℕ) → is_some (word_in t (effect_of p input s t).request u) ≡ true → leaves_word x.kind ≡ true)
unfolding step effect_of
tells_word gated p input s t = go (answered p input s t (next_of p s t))
  where
    go : (o : Answered) → IfDid (settled gated p s t (taken p s t o)) (λ x z. (u : ℕ) → is_some (word_in t (request_effect p s t (next_of p s t)) u) ≡ true → leaves_word x.kind ≡ true)
    go (z, Err name) = tt
    go (z, Ok a) = action_word p s t gated (operands_in p (slice_get s.locals t)) a (number_in p (slice_get s.locals t) a) (next_of p s t)

own_thread : (p : NumberedProgram) (input : List ℤ) (s : State) (t : ℕ) → (effect_of p input s t).thread ≡ t
unfolding effect_of
own_thread p input s t = refl

one_written : (p : NumberedProgram) (input : List ℤ) (s : State) (t u v : ℕ) → is_some (word_in t (effect_of p input s t).request u) ≡ true
    → is_some (word_in t (effect_of p input s t).request v) ≡ true → u ≡ v
unfolding effect_of
one_written p input s t u v h k = action_one p s t (next_of p s t) u v h k

-- ---- bytes

bytes_by : (o : Option Access) (e : Effect) (b : ℕ) → TellsAccess o e → byte_written e b ≡ written_by o b
bytes_by None e b h = ap (λ w. byte_in w b) h.1
bytes_by (Some a) e b h = go a.writes refl
  where
    go : (w : Bool) → a.writes ≡ w → byte_written e b ≡ written_by (Some a) b
    go true w = let k : TellsAs true a e = subst (λ (v : Bool). TellsAs v a e) w h in rw w (ap (λ q. byte_in q b) k.1)
    go false w = let k : TellsAs false a e = subst (λ (v : Bool). TellsAs v a e) w h in rw w (ap (λ q. byte_in q b) k.1)

below_is : (b : ℕ) → b < MEMORY_BYTES → nat_lt b MEMORY_BYTES ≡ true
below_is b h = grind (arith, nat_tests)

above_is : (b : ℕ) → MEMORY_BYTES ≤ b → nat_lt b MEMORY_BYTES ≡ false
above_is b h = grind (arith, nat_tests)

module _ (gated : List InstrId) (p : NumberedProgram) (input : List ℤ) where
  shaped : (s : State) (counts : ℕ → ℕ) (x : Step) → Takes gated p input s x → IsShaped (deed_of p input s counts x)
  shaped s counts x h =
      let t = x.thread.0 in
      let e = effect_of p input s t in
      let a : TellsAccess (access_of x) e = subst (λ (o : Stepped). IfDid o (λ y z. TellsAccess (access_of y) (effect_of p input s t))) h.is_step (tells_access gated p input s t) in
      let w : (u : ℕ) → is_some (word_in t e.request u) ≡ true → leaves_word x.kind ≡ true =
      subst (λ (o : Stepped). IfDid o (λ y z. (u : ℕ) → is_some (word_in t (effect_of p input s t).request u) ≡ true → leaves_word y.kind ≡ true)) h.is_step (tells_word gated p input s t) in
      record {
        is_told = cells.told gated p input s counts x h;
        writes = λ b l. ap (λ (c : Bool). if c then byte_written e b else word_in e.thread e.request (b - MEMORY_BYTES)) (below_is b l) ∙ bytes_by (access_of x) e b a;
        has_word = λ b l k. w (b - MEMORY_BYTES) (word b l k);
        one_word = λ b c l m k j. let q = one_written p input s t (b - MEMORY_BYTES) (c - MEMORY_BYTES) (word b l k) (word c m j) in omega (arith, q, l, m);
      }
    where
      word : (b : ℕ) → MEMORY_BYTES ≤ b → is_some ((deed_of p input s counts x).writes b) ≡ true → is_some (word_in x.thread.0 (effect_of p input s x.thread.0).request (b - MEMORY_BYTES)) ≡ true
      word b l k =
          ap (λ u. is_some (word_in u (effect_of p input s x.thread.0).request (b - MEMORY_BYTES))) (sym (own_thread p input s x.thread.0))
          ∙ ap (λ (c : Bool). is_some (if c then byte_written (effect_of p input s x.thread.0) b else word_in (effect_of p input s x.thread.0).thread (effect_of p input s x.thread.0).request (b - MEMORY_BYTES))) (sym (above_is b l))
          ∙ k

  pub all_shaped : (s : State) (counts : ℕ → ℕ) (xs : List Step) (z : State) → IsRun gated p input s xs z → AllOf IsShaped (deeds_of p input s counts xs)
  unfolding deeds_of
  all_shaped s counts [] z h = tt
  all_shaped s counts (x ∷ xs) z h = (
    shaped s counts x h.0,
    all_shaped (effect s (effect_of p input s x.thread.0)) (one_more x.thread.0 counts) xs z
        (subst (λ (v : State). IsRun gated p input v xs z) (left_by gated p input s h.0.after x.thread.0 x h.0.is_step) h.1),
  )
