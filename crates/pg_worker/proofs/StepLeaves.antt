-- What a step of a thread leaves: the pages that it writes, and the main thread's word.
use Rattle.std.proofs.Common.{◌≡◌, ℕ, zero, suc, ◌+◌, ◌-◌, ◌/◌, ◌<◌, ◌≤◌, ◌⊎◌, inl, inr, List, [], ◌∷◌, Bool, true, false, Option, Some, None, refl, sym, ◌∙◌, ap, arith}
use Rattle.std.specs.Prelude.{◌==◌, nat_le, nat_lt, is_some, slice_get, take, if◌then◌else◌}
use Rattle.std.proofs.lemmas.Bool.{and_parts, cases_lt, eqb-true, leb-true, ltb-true}
use Rattle.std.proofs.lemmas.Bool.Decides.{nat_tests}
use Rattle.pg_seats.specs.pg_num.Places.{ByteRange, IsPlace}
use Rattle.pg_seats.specs.pg_num.declared.layout.TheConstants.{MEMORY_BYTES}
use Rattle.pg_seats.proofs.of_pg_num.Granules.{IsPlace-in_granule}
use Rattle.pg_seats.specs.pg_ir.declared.request.Request.{Request}
use Rattle.pg_seats.specs.pg_ir.declared.request.Request.TheVariants as requests
use Rattle.pg_seats.specs.pg_run_thread.LocalState.{LocalState}
use Rattle.pg_seats.specs.pg_run_thread.Step.{next}
use Rattle.pg_seats.specs.pg_run_thread.declared.action.Action.{Action}
use Rattle.pg_seats.specs.pg_run_thread.declared.action.Action.TheVariants as actions
use Rattle.pg_seats.specs.pg_run_trace.Steps.{event_of}
use Rattle.pg_seats.specs.pg_law_threads.Effects.{or_old}
use Rattle.pg_seats.specs.pg_law_effects.Meets.{byte_in, is_in}
use Rattle.pg_seats.specs.pg_law_runs.Deeds.{Did}
use Rattle.pg_seats.specs.pg_law_course.Course.{cells_before, course}
use Rattle.pg_seats.specs.pg_law_course.Prints.{word_behind}
use Rattle.pg_seats.specs.pg_law_course.Steps.{made_by, word_by, write_by, writes_by}
use Rattle.pg_seats.specs.declared.run.Run.{Run}
use Rattle.pg_seats.specs.Plan.{IsEnforced}
use Rattle.pg_worker.specs.Pages.{is_marked, page_of}
use Rattle.pg_worker.specs.Standing.{HasMarks, place_stored, value_left}
use Rattle.pg_worker.proofs.MainCreates.{makes_another}

-- step k of thread t, before which the thread's local state is l
pub record HasStep (r : Run) (t k : ℕ) (l : LocalState) : Type 0 where
  pub step : Did
  pub there : slice_get (course r.program r.input r.schedule t) k ≡ Some step
  pub of : Rattle.pg_seats.specs.pg_law_course.Steps.IsStepOf r.program r.input r.schedule t k l step

some_did : (a b : Did) → Some a ≡ Some b → a ≡ b
some_did a b e = cc

-- ---- where an action stores

is_byte : (b : Bool) (n : ℕ) → is_some (if b then Some n else None) ≡ true → b ≡ true
is_byte true n e = refl
is_byte false n e = absurd cc

abbrev IsStored : Option ByteRange → ℕ → Type 0
IsStored o b = (q : ByteRange) × ((o ≡ Some q) × (is_in q b ≡ true))

by_write : (q : ByteRange) (n b : ℕ) → is_some (byte_in (Some (record { at = q; number = n })) b) ≡ true → IsStored (Some q) b
by_write q n b e = (q, (refl, is_byte (is_in q b) _ e))

stored_at : (cells : ℕ → ℕ) (made : ℕ) (action : Action) (b : ℕ) → is_some (byte_in (write_by cells made action) b) ≡ true → IsStored (place_stored action) b
stored_at cells made (actions.Store q n) b e = by_write q n b e
stored_at cells made (actions.Event r) b e = event r e
  where
    event : (r : Request) → is_some (byte_in (write_by cells made (actions.Event r)) b) ≡ true → IsStored (place_stored (actions.Event r)) b
    event (requests.Create q f n) e = by_write q made b e
    event (requests.Join u (Some q)) e = by_write q _ b e
    event (requests.Join u None) e = absurd cc
    event r e = absurd cc
stored_at cells made action b e = absurd cc

-- a place lies in one page
one_page : (q : ByteRange) (b : ℕ) → IsPlace q → is_in q b ≡ true → page_of q.start ≡ page_of b
one_page q b place e =
    let parts = and_parts (nat_le q.start b) (nat_lt b (q.start + q.bytes)) e in
    let low = leb-true q.start b parts.0 in
    let high = ltb-true b (q.start + q.bytes) parts.1 in
    let granule = IsPlace-in_granule q place in
    let same : q.start / 8 ≡ b / 8 = omega (arith, low, high, granule) in
    let first : q.start / 512 ≡ q.start / 8 / 64 = omega arith in
    let second : b / 512 ≡ b / 8 / 64 = omega arith in
    first ∙ ap (λ n. n / 64) same ∙ sym second

is_below : (b m : ℕ) → b < m → nat_lt b m ≡ true
is_below b m h = grind (arith, nat_tests)

above : (m : ℕ) → nat_lt (m + 0) m ≡ false
above m = grind (arith, nat_tests)

behind : (m : ℕ) → m + 0 - m ≡ 0
behind m = omega arith

-- ---- the main thread's word

left_by : (made : ℕ) (action : Action) → ((q : ByteRange) (f n : ℕ) → action ≡ actions.Event (requests.Create q f n) → made ≡ 0 → ⊥) → word_by 0 made action 0 ≡ value_left action
left_by made (actions.Event (requests.Create q f n)) h = go (made == 0) refl
  where
    go : (b : Bool) → (made == 0) ≡ b → (if b then Some n else None) ≡ None
    go true e = absurd (h q f n refl (eqb-true made 0 e))
    go false e = refl
left_by made (actions.Event (requests.Exit n is_return)) h = refl
left_by made (actions.Event r) h = refl
left_by made action h = refl

word_more : (xs : List Did) (k : ℕ) (d : Did) (w : ℕ) → slice_get xs k ≡ Some d → word_behind 0 w (take (suc k) xs) ≡ or_old (d.writes (MEMORY_BYTES + 0)) (word_behind 0 w (take k xs))
word_more [] k d w e = absurd cc
word_more (x ∷ xs) zero d w e = ap (λ (y : Did). or_old (y.writes (MEMORY_BYTES + 0)) w) (some_did x d e)
word_more (x ∷ xs) (suc k) d w e = word_more xs k d (or_old (x.writes (MEMORY_BYTES + 0)) w) e

module _ (r : Run) (h : IsEnforced r) (t k : ℕ) (l : LocalState) (n : HasStep r t k l) (now : Rattle.pg_seats.specs.pg_law_course.Course.state_at r.program r.input r.schedule t k ≡ Some l) where
  abbrev cells : ℕ → ℕ
  cells = cells_before r.program r.input r.schedule t k

  abbrev made : ℕ
  made = made_by (event_of n.step.told)

  writes_stored : (b : ℕ) → b < MEMORY_BYTES → is_some (n.step.writes b) ≡ true → IsStored (place_stored (next r.program l)) b
  writes_stored b small e = stored_at cells made (next r.program l) b
      (sym (ap is_some (n.of.writes b ∙ ap (λ (x : Bool). if x then byte_in (write_by cells made (next r.program l)) b else word_by t made (next r.program l) (b - MEMORY_BYTES)) (is_below b MEMORY_BYTES small))) ∙ e)

  pub marks_more : (ws vs : List ℕ) → HasMarks r t k ws → ((page : ℕ) → is_marked ws page ≡ true → is_marked vs page ≡ true)
      → ((q : ByteRange) → place_stored (next r.program l) ≡ Some q → IsPlace q × (is_marked vs (page_of q.start) ≡ true)) → HasMarks r t (suc k) vs
  marks_more ws vs marks kept stored i d b lt own small writes = go (cases_lt i k)
    where
      go : (i < k) ⊎ (k ≤ i) → is_marked vs (page_of b) ≡ true
      go (inl m) = kept (page_of b) (marks i d b m own small writes)
      go (inr m) =
          let e : i ≡ k = omega (arith, lt, m) in
          let same : d ≡ n.step = some_did d n.step (sym own ∙ ap (slice_get (course r.program r.input r.schedule t)) e ∙ n.there) in
          let w = writes_stored b small (ap (λ (y : Did). is_some (y.writes b)) (sym same) ∙ writes) in
          let s = stored w.0 w.1.0 in
          ap (is_marked vs) (sym (one_page w.0 b s.0 w.1.1)) ∙ s.1

  main_left : t ≡ 0 → n.step.writes (MEMORY_BYTES + 0) ≡ value_left (next r.program l)
  main_left main = n.of.writes (MEMORY_BYTES + 0)
      ∙ ap (λ (x : Bool). if x then byte_in (write_by cells made (next r.program l)) (MEMORY_BYTES + 0) else word_by t made (next r.program l) (MEMORY_BYTES + 0 - MEMORY_BYTES)) (above MEMORY_BYTES)
      ∙ ap (word_by t made (next r.program l)) (behind MEMORY_BYTES)
      ∙ ap (λ (u : ℕ). word_by u made (next r.program l) 0) main
      ∙ left_by made (next r.program l) (λ q f m e. makes_another r.program r.input r.schedule h.can h.good t k l n.step n.there now q f m e)

  pub value_more : (v w : ℕ) → (t ≡ 0 → v ≡ word_behind 0 0 (take k (course r.program r.input r.schedule 0))) → w ≡ or_old (value_left (next r.program l)) v
      → t ≡ 0 → w ≡ word_behind 0 0 (take (suc k) (course r.program r.input r.schedule 0))
  value_more v w value e main = e ∙ ap (λ (o : Option ℕ). or_old o v) (sym (main_left main)) ∙ ap (or_old (n.step.writes (MEMORY_BYTES + 0))) (value main)
      ∙ sym (word_more (course r.program r.input r.schedule 0) k n.step 0 (ap (λ (u : ℕ). slice_get (course r.program r.input r.schedule u) k) (sym main) ∙ n.there))
