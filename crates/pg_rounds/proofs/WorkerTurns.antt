-- Where the workers of a run stand among its turns.
use Rattle.std.proofs.Common.{◌≡◌, ℕ, ◌<◌, ◌≤◌, ◌⊎◌, inl, inr, List, length, Option, Some, None, sym, ◌∙◌, ap, subst, arith}
use Rattle.std.specs.Prelude.{slice_get, slice_index_or}
use Rattle.std.specs.List.{filter}
use Rattle.std.proofs.lemmas.Bool.{cases_lt}
use Rattle.std.proofs.lemmas.Option.{slice_get_within}
use Rattle.atomic_table.specs.Seated.{TableId}
use Rattle.pg_room.specs.pg_law_threads.Effects.{deeds}
use Rattle.pg_room.specs.pg_law_runs.Deeds.{owners_of}
use Rattle.pg_room.specs.pg_law_course.Course.{course, turns_from, turns_in, turns_of}
use Rattle.pg_room.specs.pg_law_course.Plan.{turn_count}
use Rattle.pg_room.proofs.of_pg_law_course.CoursePlaces.{get_length}
use Rattle.pg_room.proofs.of_pg_law_course.TurnNumbers.{ascend, below, next_at, own_turn}
use Rattle.pg_room.specs.pg_seats.declared.run.Run.{Run}
use Rattle.pg_room.specs.pg_seats.Views.{seen_of}
use Rattle.pg_room.specs.pg_worker.declared.worker.Worker.{Worker}
use Rattle.pg_room.specs.pg_worker.Standing.{IsAt, next_turn_of}
use Rattle.pg_room.specs.pg_crew.Workers.{AreWorkers}
use Rattle.pg_rounds.specs.Turns.{AreDone, IsNext}
use Rattle.pg_rounds.proofs.RunTurns.{chosen_few, end_count, number_at, own_count, owner_few}

-- the numbers of its turns that are left ascend
pub later : (t : ℕ) (T : List ℕ) (i j g h : ℕ) → slice_get (turns_from t 0 T) i ≡ Some g → slice_get (turns_from t 0 T) j ≡ Some h → i ≤ j → g ≤ h
later t T i j g h e f l = go (cases_lt i j)
  where
    one : i ≡ j → g ≡ h
    one q = let k : Path (Option ℕ) (Some g) (Some h) = sym e ∙ ap (slice_get (turns_from t 0 T)) q ∙ f in cc

    go : (i < j) ⊎ (j ≤ i) → g ≤ h
    go (inl lt) = let k = ascend t 0 T i j g h e f lt in omega (arith, k)
    go (inr le) = let k = one (omega (arith, l, le)) in omega (arith, k)

-- a list that has an element at a place has one before it
pub earlier : (xs : List ℕ) (i j h : ℕ) → slice_get xs j ≡ Some h → i ≤ j → (g : ℕ) × (slice_get xs i ≡ Some g)
earlier xs i j h e l = let k = slice_get_within xs j h e in get_length xs i (omega (arith, k, l))

module _ (r : Run) (table : TableId) (w : Worker) (at : IsAt r table 0 w) where
  abbrev T : List ℕ
  T = owners_of r.schedule.turns

  abbrev count : ℕ
  count = turn_count r.program r.input r.schedule

  own_turns_of : (i : ℕ) → slice_get w.turns.items i ≡ slice_get (turns_of w.thread.0 r.schedule.turns) i
  own_turns_of i = ap (λ (xs : List ℕ). slice_get xs i) at.turns

  -- it has done no more turns than the run has of its thread
  pub done_few : w.done ≤ below w.thread.0 count T
  done_few =
      let few : turns_in r.program r.input r.schedule w.thread.0 at.taken ≤ length (filter deeds.is_event (course r.program r.input r.schedule w.thread.0)) =
      chosen_few deeds.is_event at.taken (course r.program r.input r.schedule w.thread.0) in
      let all : length (filter deeds.is_event (course r.program r.input r.schedule w.thread.0)) ≡ below w.thread.0 count T = own_count r.program r.input r.schedule at.enforced.can at.enforced.good w.thread.0 in
      let done : w.done ≡ turns_in r.program r.input r.schedule w.thread.0 at.taken = at.turns_done in
      omega (arith, few, all, done)

  pub done_all : at.taken ≡ length (course r.program r.input r.schedule w.thread.0) → w.done ≡ below w.thread.0 count T
  done_all q = at.turns_done ∙ ap (turns_in r.program r.input r.schedule w.thread.0) q ∙ end_count r.program r.input r.schedule at.enforced.can at.enforced.good w.thread.0

  -- where it owns this turn and hasn't done it, its next turn comes no later
  pub next_before : (h : ℕ) → slice_get T h ≡ Some w.thread.0 → w.done ≤ below w.thread.0 h T → (g : ℕ) × ((next_turn_of w ≡ Some g) × (g ≤ h))
  next_before h e l =
      let there = number_at r.program r.input r.schedule at.enforced.can at.enforced.good w.thread.0 h e in
      let first = earlier (turns_of w.thread.0 r.schedule.turns) w.done (below w.thread.0 h T) h there l in
      (first.0, (own_turns_of w.done ∙ first.1, later w.thread.0 T w.done (below w.thread.0 h T) first.0 h first.1 there l))

  -- its next turn is one of the schedule's
  pub next_owned : (g : ℕ) → next_turn_of w ≡ Some g → slice_get T g ≡ Some w.thread.0
  next_owned g e =
      let o = own_turn w.thread.0 0 T w.done g (sym (own_turns_of w.done) ∙ e) in
      let n = o.number in
      subst (λ (m : ℕ). slice_get T m ≡ Some w.thread.0) (let k : o.turn ≡ g = omega (arith, n) in k) o.own

  -- behind all of its steps it is one that the run doesn't do
  pub next_late : at.taken ≡ length (course r.program r.input r.schedule w.thread.0) → (g : ℕ) → next_turn_of w ≡ Some g → count ≤ g
  next_late q g e =
      let h = next_at w.thread.0 0 count T g (ap (slice_get (turns_of w.thread.0 r.schedule.turns)) (sym (done_all q)) ∙ sym (own_turns_of w.done) ∙ e) in
      let n = h.number in
      let f = h.from in
      omega (arith, n, f)

  -- what its seat knows
  pub knows : (h : ℕ) → slice_get T h ≡ Some w.thread.0 → below w.thread.0 h T < w.done → h < seen_of w.seat.me.0
  knows h e l =
      let seen : seen_of w.seat.me.0 ≡ at.standing.seen = ap (λ m. seen_of m.0) at.view in
      let before : h < at.standing.seen =
      at.behind (below w.thread.0 h T) h l (own_turns_of (below w.thread.0 h T) ∙ number_at r.program r.input r.schedule at.enforced.can at.enforced.good w.thread.0 h e) in
      omega (arith, seen, before)

module _ (r : Run) (table : TableId) (ws : List Worker) (d : Worker) (are : AreWorkers r table ws) where
  abbrev owners : List ℕ
  owners = owners_of r.schedule.turns

  abbrev last : ℕ
  last = turn_count r.program r.input r.schedule

  abbrev worker : ℕ → Worker
  worker t = slice_index_or ws t d

  owner_is : (t : ℕ) → t < length ws → (worker t).thread.0 ≡ t
  owner_is t lt = are.thread t d lt

  -- the owner of a turn up to the first that the run doesn't do is a worker
  pub owner_there : (h t : ℕ) → slice_get owners h ≡ Some t → h ≤ last → t < length ws
  owner_there h t e l = are.owners h t e (owner_few r.program r.input r.schedule are.enforced.can are.enforced.good h t e l)

  -- the owner of the first turn that the run doesn't do has a turn left, which is no later
  late_turn : (t : ℕ) → slice_get owners last ≡ Some t → (t < length ws) × ((g : ℕ) × ((next_turn_of (worker t) ≡ Some g) × (g ≤ last)))
  late_turn t e =
      let lt = owner_there last t e (omega arith) in
      let own = ap (λ (n : ℕ). Some n) (sym (owner_is t lt)) in
      let few = done_few r table (worker t) (are.at t d lt) in
      (lt, next_before r table (worker t) (are.at t d lt) last (e ∙ own) few)

  -- so the run's next turn is no later
  pub next_few : (t g : ℕ) → IsNext ws t g → g ≤ last
  next_few t g h = go (cases_lt last g)
    where
      after : last < g → ⊥
      after lt =
          let own = next_owned r table (worker t) (are.at t d h.within) g (h.own d) in
          let within = slice_get_within owners g _ own in
          let o = get_length owners last (omega (arith, within, lt)) in
          let late = late_turn o.0 o.1 in
          let least = h.least o.0 late.1.0 d late.0 late.1.1.0 in
          let few = late.1.1.1 in
          omega (arith, least, few, lt)

      go : (last < g) ⊎ (g ≤ last) → g ≤ last
      go (inl lt) = absurd (after lt)
      go (inr le) = le

  -- and where no turn is left, the run does all
  pub all_done : AreDone ws → length owners ≤ last
  all_done h = go (cases_lt last (length owners))
    where
      early : last < length owners → ⊥
      early lt =
          let o = get_length owners last lt in
          let late = late_turn o.0 o.1 in
          let none = h o.0 d late.0 in
          let k : Path (Option ℕ) None (Some late.1.0) = sym none ∙ late.1.1.0 in
          absurd cc

      go : (last < length owners) ⊎ (length owners ≤ last) → length owners ≤ last
      go (inl lt) = absurd (early lt)
      go (inr le) = le

  -- the owner of a turn before the next one knows that it is done
  pub owner_knows : (t g h u : ℕ) → IsNext ws t g → h < g → slice_get owners h ≡ Some u → (u < length ws) × (h < seen_of (worker u).seat.me.0)
  owner_knows t g h u n lt e = (within, go (cases_lt (below (worker u).thread.0 h owners) (worker u).done))
    where
      within : u < length ws
      within = let few = next_few t g n in owner_there h u e (omega (arith, few, lt))

      own : slice_get owners h ≡ Some (worker u).thread.0
      own = e ∙ ap (λ (n : ℕ). Some n) (sym (owner_is u within))

      undone : (worker u).done ≤ below (worker u).thread.0 h owners → ⊥
      undone le =
          let first = next_before r table (worker u) (are.at u d within) h own le in
          let least = n.least u first.0 d within first.1.0 in
          let few = first.1.1 in
          omega (arith, least, few, lt)

      go : (below (worker u).thread.0 h owners < (worker u).done) ⊎ ((worker u).done ≤ below (worker u).thread.0 h owners) → h < seen_of (worker u).seat.me.0
      go (inl less) = knows r table (worker u) (are.at u d within) h own less
      go (inr le) = absurd (undone le)
