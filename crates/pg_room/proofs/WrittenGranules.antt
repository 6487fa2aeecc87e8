-- Behind a run each granule that it wrote lies in a page that is marked.
use Rattle.std.proofs.Common.{◌≡◌, ℕ, ◌/◌, ◌<◌, ◌≤◌, ◌⊎◌, inl, inr, List, [], ◌∷◌, length, Bool, true, false, refl, sym, ◌∙◌, ap, subst, arith}
use Rattle.std.specs.Prelude.{is_some, slice_index_or, if◌then◌else◌}
use Rattle.std.specs.List.{AllByRecursion, filter}
use Rattle.std.proofs.lemmas.Bool.{cases_lt, eq-eqb, false_from_ne_true}
use Rattle.atomic_table.specs.Seated.{TableId}
use Rattle.pg_crew.specs.pg_num.declared.layout.TheConstants.{GRANULE_COUNT, MEMORY_BYTES}
use Rattle.pg_crew.specs.pg_law_threads.Plans.{is_of_thread}
use Rattle.pg_crew.specs.pg_law_runs.Deeds.{Did}
use Rattle.pg_crew.specs.pg_law_course.Course.{course}
use Rattle.pg_crew.specs.pg_law_course.Plan.{guided_deeds, is_shared, plan_of}
use Rattle.pg_crew.specs.pg_law_course.Threads.{start_function}
use Rattle.pg_crew.proofs.of_pg_law_course.CoursePlaces.{get_length}
use Rattle.pg_crew.proofs.of_pg_law_course.CourseSteps.{is_step}
use Rattle.pg_crew.specs.pg_run_thread.LocalState.{fresh}
use Rattle.pg_crew.specs.pg_seats.declared.run.Run.{Run}
use Rattle.pg_crew.specs.pg_worker.declared.worker.Worker.{Worker}
use Rattle.pg_crew.specs.pg_worker.Pages.{is_marked, page_of}
use Rattle.pg_crew.proofs.of_pg_worker.WorkerRests.{never_writes}
use Rattle.pg_room.proofs.OwnedTurns.{owned}
use Rattle.pg_crew.specs.Workers.{AreWorkers, HaveEnded}
use Rattle.pg_room.specs.Laying.{HasMarked}
use Rattle.pg_room.specs.Sweeping.{AreWritten}

not_both : (b : Bool) → b ≡ true → b ≡ false → ⊥
not_both b t f = absurd cc

no_did : (ds : List Did) → length ds ≤ 0 → ds ≡ []
no_did [] z = refl
no_did (d ∷ ds) z = absurd (omega (arith, z))

-- ---- what holds of each thread's steps holds of all steps

module _ (P : Did → Type 0) where
  head_of : (b : Bool) (d : Did) (ds : List Did) → b ≡ true → AllByRecursion P (if b then d ∷ ds else ds) → P d
  head_of true d ds e h = h.0
  head_of false d ds e h = absurd cc

  tail_of : (b : Bool) (d : Did) (ds : List Did) → AllByRecursion P (if b then d ∷ ds else ds) → AllByRecursion P ds
  tail_of true d ds h = h.1
  tail_of false d ds h = h

  all_threads : (ds : List Did) → ((t : ℕ) → AllByRecursion P (filter (is_of_thread t) ds)) → AllByRecursion P ds
  all_threads [] h = tt
  all_threads (d ∷ ds) h = (
    head_of (is_of_thread d.thread d) d (filter (is_of_thread d.thread) ds) (eq-eqb d.thread d.thread refl) (h d.thread),
    all_threads ds (λ t. tail_of (is_of_thread t d) d (filter (is_of_thread t) ds) (h t)),
  )

  all_chosen : (f : Did → Bool) (ds : List Did) → AllByRecursion P ds → AllByRecursion P (filter f ds)
  all_chosen f [] h = tt
  all_chosen f (d ∷ ds) h = go (f d) (all_chosen f ds h.1)
    where
      go : (b : Bool) → AllByRecursion P (filter f ds) → AllByRecursion P (if b then d ∷ filter f ds else filter f ds)
      go true rest = (h.0, rest)
      go false rest = rest

module _ (r : Run) (table : TableId) (ws : List Worker) (are : AreWorkers r table ws) where
  abbrev steps_of : ℕ → List Did
  steps_of t = course r.program r.input r.schedule t

  -- a thread that takes a step has a worker
  has_worker : (t : ℕ) → 0 < length (steps_of t) → t < length ws
  has_worker t lt =
      let d = get_length (steps_of t) 0 lt in
      let step = is_step r.program r.input r.schedule are.enforced.can are.enforced.good t 0 (fresh r.program t (start_function r.program r.schedule.turns t)) d.0 d.1 refl in
      let turn = owned r.program r.input r.schedule are.enforced.can are.enforced.good t 0 d.0 d.1 in
      are.owners turn.0 t turn.1 step.thread

  no_steps : (t : ℕ) → length ws ≤ t → steps_of t ≡ []
  no_steps t le = none (cases_lt 0 (length (steps_of t)))
    where
      none : (0 < length (steps_of t)) ⊎ (length (steps_of t) ≤ 0) → steps_of t ≡ []
      none (inl lt) = absurd (let k = has_worker t lt in omega (arith, k, le))
      none (inr z) = no_did (steps_of t) z

  module _ (ended : HaveEnded r table ws) (marks : List ℕ)
      (added : (t page : ℕ) (d : Worker) → t < length ws → is_marked (slice_index_or ws t d).pages.words.items page ≡ true → is_marked marks page ≡ true) where
    -- no step writes a byte of a page that isn't marked
    never_by : (b : ℕ) → b < MEMORY_BYTES → is_marked marks (page_of b) ≡ false → (t : ℕ) → AllByRecursion (λ (x : Did). is_some (x.writes b) ≡ false) (steps_of t)
    never_by b small free t = go (cases_lt t (length ws))
      where
        by_worker : (d : Worker) → t < length ws → AllByRecursion (λ (x : Did). is_some (x.writes b) ≡ false) (steps_of t)
        by_worker d lt =
            let e = ended t d lt in
            let same : (slice_index_or ws t d).thread.0 ≡ t = are.thread t d lt in
            let unmarked : is_marked (slice_index_or ws t d).pages.words.items (page_of b) ≡ false =
            false_from_ne_true (is_marked (slice_index_or ws t d).pages.words.items (page_of b)) (λ m. not_both (is_marked marks (page_of b)) (added t (page_of b) d lt m) free) in
            subst (λ (u : ℕ). AllByRecursion (λ (x : Did). is_some (x.writes b) ≡ false) (steps_of u)) same
            (never_writes r table (slice_index_or ws t d) e.0 (e.1 ∙ ap (λ (u : ℕ). length (steps_of u)) (sym same)) b small unmarked)

        go : (t < length ws) ⊎ (length ws ≤ t) → AllByRecursion (λ (x : Did). is_some (x.writes b) ≡ false) (steps_of t)
        go (inr le) = subst (AllByRecursion (λ (x : Did). is_some (x.writes b) ≡ false)) (sym (no_steps t le)) tt
        go (inl lt) = by_worker (get_length ws t lt).0 lt

    never_written : (b : ℕ) → b < MEMORY_BYTES → is_marked marks (page_of b) ≡ false → AllByRecursion (λ (x : Did). is_some (x.writes b) ≡ false) (plan_of r.program r.input r.schedule)
    unfolding plan_of
    never_written b small free = all_chosen (λ (x : Did). is_some (x.writes b) ≡ false) is_shared (guided_deeds r.program r.input r.schedule)
        (all_threads (λ (x : Did). is_some (x.writes b) ≡ false) (guided_deeds r.program r.input r.schedule) (never_by b small free))

    pub all_marked : (laid : List ℕ) → HasMarked r.program.globals GRANULE_COUNT laid → ((page : ℕ) → is_marked laid page ≡ true → is_marked marks page ≡ true) → AreWritten r marks
    all_marked laid has kept g few free b e =
        let small : b < MEMORY_BYTES = omega (arith, few, e) in
        let page : page_of b ≡ g / 64 = omega (arith, e) in
        let unmarked : is_marked marks (page_of b) ≡ false = ap (is_marked marks) page ∙ free in (
          has b (omega (arith, small)) (false_from_ne_true (is_marked laid (page_of b)) (λ m. not_both (is_marked marks (page_of b)) (kept (page_of b) m) unmarked)),
          never_written b small unmarked,
        )
