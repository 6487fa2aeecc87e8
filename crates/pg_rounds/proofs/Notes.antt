-- Workers of which one was told of turns that are done.
use Rattle.std.proofs.Common.{◌≡◌, ◌≢◌, ℕ, zero, suc, ◌-◌, ◌<◌, ◌≤◌, ◌⊎◌, inl, inr, List, [], ◌∷◌, length, Some, refl, ◌∙◌, ap, subst, arith}
use Rattle.std.specs.Prelude.{max, slice_get, slice_index_or, slice_set}
use Rattle.std.proofs.lemmas.Bool.{cases_lt}
use Rattle.std.proofs.lemmas.List.{get_or-set_same, length-set}
use Rattle.std.proofs.lemmas.Option.{slice_get-get_or, slice_get_within}
use Rattle.atomic_table.specs.Seated.{TableId}
use Rattle.pg_room.specs.pg_law_runs.Deeds.{owners_of}
use Rattle.pg_room.specs.pg_run_trace.declared.turn.Turn.{Turn}
use Rattle.pg_room.proofs.of_pg_law_course.CoursePlaces.{get_length}
use Rattle.pg_room.specs.pg_seats.declared.run.Run.{Run}
use Rattle.pg_room.specs.pg_seats.Views.{seen_of}
use Rattle.pg_room.specs.pg_worker.declared.worker.Worker.{Worker}
use Rattle.pg_room.specs.pg_worker.Standing.{IsAt}
use Rattle.pg_room.specs.pg_crew.Workers.{AreWorkers}
use Rattle.pg_room.proofs.of_pg_crew.WorkerLists.{are_again, default_is, set_each}
use Rattle.pg_rounds.specs.Turns.{IsNext, WereTold}
use Rattle.pg_rounds.proofs.WorkerTurns.{next_owned, owner_knows}

pub told_none : (a : List Worker) → WereTold a a
told_none a = record { count = refl; same = λ t d lt. refl }

pub told_both : (a b c : List Worker) → WereTold a b → WereTold b c → WereTold a c
told_both a b c f h = record {
  count = h.count ∙ f.count;
  same = λ t d lt. (let n = f.count in
      h.same t d (omega (arith, n, lt)) ∙ ap (λ (w : Worker). record w { seat = (slice_index_or c t d).seat }) (f.same t d lt));
}

module _ (r : Run) (table : TableId) (ws : List Worker) (i : ℕ) (w : Worker) (are : AreWorkers r table ws) (lt : i < length ws) (x : Worker)
    (same : w ≡ record (slice_index_or ws i x) { seat = w.seat }) (at : IsAt r table 0 w) where
  same_as : (d : Worker) → w ≡ record (slice_index_or ws i d) { seat = w.seat }
  same_as d = same ∙ ap (λ (v : Worker). record v { seat = w.seat }) (default_is ws i x d lt)

  pub set_told : WereTold ws (slice_set ws i w)
  set_told = record {
    count = length-set ws i w;
    same = λ t d l. one t d l;
  }
    where
      one : (t : ℕ) (d : Worker) → t < length ws → slice_index_or (slice_set ws i w) t d ≡ record (slice_index_or ws t d) { seat = (slice_index_or (slice_set ws i w) t d).seat }
      one t d l = set_each ws i w lt (λ n v. v ≡ record (slice_index_or ws n d) { seat = v.seat }) (λ n e k. stays n e k) (same_as d) t d l
        where
          stays : (n : ℕ) (e : Worker) → n < length ws → slice_index_or ws n e ≡ record (slice_index_or ws n d) { seat = (slice_index_or ws n e).seat }
          stays n e k = ap (λ (v : Worker). record v { seat = (slice_index_or ws n e).seat }) (default_is ws n e d k)

  pub set_workers : AreWorkers r table (slice_set ws i w)
  set_workers = are_again r table ws (slice_set ws i w) are (length-set ws i w) (set_each ws i w lt (λ n v. IsAt r table 0 v) are.at at)
      (λ t d l. ap (λ (v : Worker). v.thread) (set_told.same t d l))

-- one worker's note is taken by another
module _ (r : Run) (table : TableId) (ws : List Worker) (are : AreWorkers r table ws) (from to : ℕ) (lf : from < length ws) (lt : to < length ws) (apart : from ≢ to)
    (w v x y : Worker) (same : w ≡ record (slice_index_or ws from x) { seat = w.seat }) (at : IsAt r table 0 w) where
  abbrev pub noting : List Worker
  noting = slice_set ws from w

  pub noting_are : AreWorkers r table noting
  noting_are = set_workers r table ws from w are lf x same at

  pub to_within : to < length noting
  to_within = let n = length-set ws from w in omega (arith, n, lt)

  module _ (same_then : v ≡ record (slice_index_or noting to y) { seat = v.seat }) (at_then : IsAt r table 0 v) where
    pub told_are : AreWorkers r table (slice_set noting to v)
    told_are = set_workers r table noting to v noting_are to_within y same_then at_then

    pub told_is : WereTold ws (slice_set noting to v)
    told_is = told_both ws noting (slice_set noting to v) (set_told r table ws from w are lf x same at) (set_told r table noting to v noting_are to_within y same_then at_then)

    pub told_knows : (n : ℕ) → seen_of v.seat.me.0 ≡ max (seen_of (slice_index_or noting to y).seat.me.0) n → n ≡ seen_of (slice_index_or ws from x).seat.me.0
        → (d : Worker) → seen_of (slice_index_or ws from d).seat.me.0 ≤ seen_of (slice_index_or (slice_set noting to v) to d).seat.me.0
    told_knows n seen noted d =
        let here = ap (λ (u : Worker). seen_of u.seat.me.0) (get_or-set_same noting to v d to_within) in
        let there = ap (λ (u : Worker). seen_of u.seat.me.0) (default_is ws from x d lf) in
        omega (arith, here, there, seen, noted)

-- ---- the turn before the next one

module _ (r : Run) (table : TableId) (ws : List Worker) (are : AreWorkers r table ws) (owner number : ℕ) (next : IsNext ws owner number) where
  -- the next turn is one of the schedule's
  pub number_within : number < length (owners_of r.schedule.turns)
  number_within =
      let d = get_length ws owner next.within in
      slice_get_within (owners_of r.schedule.turns) number _ (next_owned r table (slice_index_or ws owner d.0) (are.at owner d.0 next.within) number (next.own d.0))

  -- the owner of the turn before it knows that all turns before it are done
  module _ (u : ℕ) (some : number ≡ 0 → ⊥) (e : slice_get (owners_of r.schedule.turns) (number - 1) ≡ Some u) where
    knows_all : (d : Worker) → (u < length ws) × (number ≤ seen_of (slice_index_or ws u d).seat.me.0)
    knows_all d =
        let k = owner_knows r table ws d are owner number (number - 1) u next (below (cases_lt (number - 1) number)) e in
        let seen = k.1 in
        (k.0, omega (arith, seen))
      where
        below : (number - 1 < number) ⊎ (number ≤ number - 1) → number - 1 < number
        below (inl lt) = lt
        below (inr le) = absurd (some (omega (arith, le)))

    pub before_within : u < length ws
    before_within = (knows_all (get_length ws owner next.within).0).0

    -- so the owner of the next turn knows it where it is the same, or is told
    pub own_due : u ≡ owner → (d : Worker) → number ≤ seen_of (slice_index_or ws owner d).seat.me.0
    own_due same d = subst (λ (n : ℕ). number ≤ seen_of (slice_index_or ws n d).seat.me.0) same (knows_all d).1

    pub told_due : (b : List Worker) → ((d : Worker) → seen_of (slice_index_or ws u d).seat.me.0 ≤ seen_of (slice_index_or b owner d).seat.me.0)
        → (d : Worker) → number ≤ seen_of (slice_index_or b owner d).seat.me.0
    told_due b more d = (let all = (knows_all d).1 in let m = more d in omega (arith, all, m))

pub owner_at : (us : List Turn) (g : ℕ) (u : Turn) → slice_get us g ≡ Some u → slice_get (owners_of us) g ≡ Some u.thread.0
owner_at [] g u e = absurd cc
owner_at (v ∷ us) zero u e = let k : v ≡ u = cc in ap (λ (w : Turn). Some w.thread.0) k
owner_at (v ∷ us) (suc g) u e = owner_at us g u e

pub turn_owner : (us : List Turn) (g : ℕ) (u : Turn) → g < length us → slice_get (owners_of us) g ≡ Some (slice_index_or us g u).thread.0
turn_owner us g u lt = owner_at us g (slice_index_or us g u) (slice_get-get_or us g u lt)
