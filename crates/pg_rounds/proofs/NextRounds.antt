-- What a round makes of the next turn, where its owner knows that it is due.
use Rattle.std.proofs.Common.{◌≡◌, ◌≢◌, ℕ, suc, ◌+◌, ◌<◌, ◌≤◌, ◌⊎◌, inl, inr, List, length, Bool, true, false, Option, Some, None, refl, sym, ◌∙◌, ap, subst, arith}
use Rattle.std.specs.Prelude.{◌==◌, slice_get, slice_index_or}
use Rattle.std.proofs.lemmas.Bool.{cases_lt, eq-eqb, eqb-true}
use Rattle.std.proofs.lemmas.Option.{slice_get_within}
use Rattle.atomic_table.specs.Seated.{TableId}
use Rattle.pg_room.specs.pg_law_runs.Deeds.{owners_of}
use Rattle.pg_room.proofs.of_pg_law_course.CoursePlaces.{get_length}
use Rattle.pg_room.proofs.of_pg_law_course.TurnNumbers.{ascend}
use Rattle.pg_room.specs.pg_seats.declared.run.Run.{Run}
use Rattle.pg_room.specs.pg_seats.Views.{seen_of}
use Rattle.pg_room.specs.pg_worker.declared.worker.Paused.{Paused}
use Rattle.pg_room.specs.pg_worker.declared.worker.Paused.TheVariants as pauses
use Rattle.pg_room.specs.pg_worker.declared.worker.Worker.{Worker}
use Rattle.pg_room.specs.pg_worker.Standing.{HasPaused, is_stopped, next_turn_of}
use Rattle.pg_room.specs.pg_crew.Workers.{AreWorkers, HasGone, HaveGone, counted, done_by, turns_between, turns_of_first}
use Rattle.pg_room.proofs.of_pg_crew.WorkerLists.{counted_more, default_is, done_of}
use Rattle.pg_rounds.specs.Turns.{HaveDone, HavePaused, IsAwaited, IsHeld, IsNext, IsOver, IsPast, WereTold}
use Rattle.pg_rounds.proofs.TurnSums.{turns_more, turns_same}
use Rattle.pg_rounds.proofs.WorkerTurns.{earlier, later, next_owned}

-- ---- workers that were told of turns

pub told_next : (a b : List Worker) (t g : ℕ) → IsNext a t g → WereTold a b → IsNext b t g
told_next a b t g n h = record {
  within = (let w = n.within in let c = h.count in omega (arith, w, c));
  own = λ d. ap next_turn_of (h.same t d n.within) ∙ n.own d;
  least = λ u k d lt e. (let c = h.count in let l : u < length a = omega (arith, lt, c) in n.least u k d l (sym (ap next_turn_of (h.same u d l)) ∙ e));
}

-- ---- a round

module _ (r : Run) (table : TableId) (a b : List Worker) (are : AreWorkers r table a) (now : AreWorkers r table b) (gone : HaveGone r a b) where
  pub gone_paused : HavePaused r b
  gone_paused t d lt =
      let c = gone.count in
      let h = gone.each t d (omega (arith, lt, c)) in
      (slice_index_or a t d, h.why, h.paused)

  pub gone_done : HaveDone a b
  gone_done = record { count = gone.count; more = λ t d lt. (gone.each t d lt).went.done }

  -- a worker's next turn comes no sooner
  pub next_later : (u h : ℕ) (d : Worker) → u < length b → next_turn_of (slice_index_or b u d) ≡ Some h
      → (i : ℕ) × ((next_turn_of (slice_index_or a u d) ≡ Some i) × ((i ≤ h) × ((slice_index_or a u d).done < (slice_index_or b u d).done → i < h)))
  next_later u h d lt e =
      let c = gone.count in
      let l : u < length a = omega (arith, lt, c) in
      let went = (gone.each u d l).went in
      let there : slice_get (slice_index_or a u d).turns.items (slice_index_or b u d).done ≡ Some h = ap (λ (xs : List ℕ). slice_get xs (slice_index_or b u d).done) (sym went.turns) ∙ e in
      let first = earlier (slice_index_or a u d).turns.items (slice_index_or a u d).done (slice_index_or b u d).done h there went.done in
      let own = (are.at u d l).turns in
      let early = ap (λ (xs : List ℕ). slice_get xs (slice_index_or a u d).done) (sym own) ∙ first.1 in
      let late = ap (λ (xs : List ℕ). slice_get xs (slice_index_or b u d).done) (sym own) ∙ there in (
        first.0,
        (
          first.1,
          (
            later (slice_index_or a u d).thread.0 (owners_of r.schedule.turns) (slice_index_or a u d).done (slice_index_or b u d).done first.0 h early late went.done,
            λ more. ascend (slice_index_or a u d).thread.0 0 (owners_of r.schedule.turns) (slice_index_or a u d).done (slice_index_or b u d).done first.0 h early late more,
          ),
        ),
      )

  module _ (t g : ℕ) (d : Worker) (next : IsNext a t g) (due : g ≤ seen_of (slice_index_or a t d).seat.me.0) where
    abbrev before : Worker
    before = slice_index_or a t d

    abbrev after : Worker
    after = slice_index_or b t d

    h : HasGone r before after
    h = gone.each t d next.within

    there : t < length b
    there = let c = gone.count in let w = next.within in omega (arith, c, w)

    -- the worker did its turn, so all turns up to it are done
    passed : before.done < after.done → IsPast (suc g) b
    passed more u k e lt q = go (u == t) refl
      where
        l : u < length a
        l = let c = gone.count in omega (arith, c, lt)

        first : (i : ℕ) × ((next_turn_of (slice_index_or a u e) ≡ Some i) × ((i ≤ k) × ((slice_index_or a u e).done < (slice_index_or b u e).done → i < k)))
        first = next_later u k e lt q

        from : g ≤ k
        from = let f = next.least u first.0 e l first.1.0 in let m = first.1.1.0 in omega (arith, f, m)

        -- another thread's turn is another one
        other : u ≢ t → g ≢ k
        other ne same =
            let mine = next_owned r table before (are.at t d next.within) g (next.own d) ∙ ap (λ (n : ℕ). Some n) (are.thread t d next.within) in
            let its = next_owned r table (slice_index_or b u e) (now.at u e lt) k q ∙ ap (λ (n : ℕ). Some n) (now.thread u e lt) in
            let both : Path (Option ℕ) (Some u) (Some t) = sym its ∙ ap (slice_get (owners_of r.schedule.turns)) (sym same) ∙ mine in
            ne (let k1 : u ≡ t = cc in k1)

        go : (c : Bool) → (u == t) ≡ c → suc g ≤ k
        go true s =
            let same = eqb-true u t s in
            let rose : (slice_index_or a u e).done < (slice_index_or b u e).done = subst (λ (n : ℕ). (slice_index_or a n e).done < (slice_index_or b n e).done) (sym same)
            (subst (λ (w : Worker). w.done < (slice_index_or b t e).done) (default_is a t d e next.within) (subst (λ (w : Worker). before.done < w.done) (default_is b t d e there) more)) in
            let lt1 = first.1.1.1 rose in
            let own = next.least u first.0 e l first.1.0 in
            omega (arith, lt1, own)
        go false s = past from (other (λ e. (let k1 : true ≡ false = sym (eq-eqb u t e) ∙ s in absurd cc)))
          where
            past : g ≤ k → g ≢ k → suc g ≤ k
            past le ne = cases (cases_lt g k)
              where
                cases : (g < k) ⊎ (k ≤ g) → suc g ≤ k
                cases (inl lt) = omega (arith, lt)
                cases (inr ge) = absurd (ne (omega (arith, le, ge)))

    -- or it is stopped there
    stays : before.done ≡ after.done → next_turn_of after ≡ Some g
    stays same = ap (λ (xs : List ℕ). slice_get xs after.done) h.went.turns ∙ ap (slice_get before.turns.items) (sym same) ∙ next.own d

    rose : (before.done ≡ after.done → ⊥) → before.done < after.done
    rose ne = go (cases_lt before.done after.done)
      where
        go : (before.done < after.done) ⊎ (after.done ≤ before.done) → before.done < after.done
        go (inl lt) = lt
        go (inr le) = absurd (ne (let m = h.went.done in omega (arith, m, le)))

    held : before.done ≡ after.done → is_stopped r.program after ≡ true → IsHeld r.program b t g
    held same stopped = record {
      next = record {
        within = there;
        own = λ e. ap next_turn_of (default_is b t e d there) ∙ stays same;
        least = λ u k e lt q. (let first = next_later u k e lt q in
            let c = gone.count in
            let f = next.least u first.0 e (omega (arith, c, lt)) first.1.0 in
            let m = first.1.1.0 in
            omega (arith, f, m));
      };
      stopped = λ e. ap (is_stopped r.program) (default_is b t e d there) ∙ stopped;
    }

    over : before.done ≡ after.done → is_stopped r.program after ≡ true → IsOver r.program b
    over same stopped = inr (t, g, held same stopped)

    gets_on_by : (why : Paused) → HasPaused r why before after → IsOver r.program b ⊎ IsPast (suc g) b
    gets_on_by pauses.Done q = inr (passed (rose (λ same. (let f = slice_get_within after.turns.items after.done g (stays same) in omega (arith, f, q)))))
    gets_on_by pauses.Waiting q = inr (passed (rose (λ same. (let f = q.waits.early g (stays same) in let s = h.went.seen in omega (arith, f, s, due)))))
    gets_on_by pauses.Stopped q = go (cases_lt before.done after.done)
      where
        go : (before.done < after.done) ⊎ (after.done ≤ before.done) → IsOver r.program b ⊎ IsPast (suc g) b
        go (inl lt) = inr (passed lt)
        go (inr le) = inl (over (let m = h.went.done in omega (arith, m, le)) q.1)

    pub gets_on : IsOver r.program b ⊎ IsPast (suc g) b
    gets_on = gets_on_by h.why h.paused

-- ---- one after another

pub done_both : (a b c : List Worker) → HaveDone a b → HaveDone b c → HaveDone a c
done_both a b c f h = record {
  count = h.count ∙ f.count;
  more = λ t d lt. (let n = f.count in let x = f.more t d lt in let y = h.more t d (omega (arith, n, lt)) in omega (arith, x, y));
}

pub told_done : (a b : List Worker) → WereTold a b → HaveDone a b
told_done a b h = record { count = h.count; more = λ t d lt. (let e = ap (λ (w : Worker). w.done) (h.same t d lt) in omega (arith, e)) }

rises : (a b : List Worker) → HaveDone a b → (t : ℕ) → t < length a → done_by (slice_get a t) ≤ done_by (slice_get b t)
rises a b h t lt =
    let d = get_length a t lt in
    let n = h.count in
    let x = done_of a t d.0 lt in
    let y = done_of b t d.0 (omega (arith, n, lt)) in
    let m = h.more t d.0 lt in
    omega (arith, x, y, m)

pub between_both : (a b c : List Worker) → HaveDone a b → HaveDone b c → turns_between a b + turns_between b c ≡ turns_between a c
between_both a b c f h =
    ap (λ (n : ℕ). turns_of_first (length a) a b + turns_of_first n b c) f.count
    ∙ turns_more (length a) a b c (λ t lt. rises a b f t lt) (λ t lt. (let n = f.count in rises b c h t (omega (arith, n, lt))))

pub between_told : (a b c : List Worker) → WereTold a b → turns_between a c ≡ turns_between b c
between_told a b c h =
    turns_same (length a) a b c (λ t lt. (let d = get_length a t lt in
    let n = h.count in
    let x = done_of a t d.0 lt in
    let y = done_of b t d.0 (omega (arith, n, lt)) in
    let e = ap (λ (w : Worker). w.done) (h.same t d.0 lt) in
    omega (arith, x, y, e)))
    ∙ ap (λ (n : ℕ). turns_of_first n b c) (sym h.count)

pub counted_both : (a b c : List Worker) (first then last : ℕ) → HaveDone a b → HaveDone b c → then ≡ counted first (turns_between a b) → last ≡ counted then (turns_between b c)
    → last ≡ counted first (turns_between a c)
counted_both a b c first then last f h e q =
    q ∙ ap (λ (n : ℕ). counted n (turns_between b c)) e ∙ counted_more first (turns_between a b) (turns_between b c) ∙ ap (counted first) (between_both a b c f h)

-- ---- a round in which the owner of the next turn was told

module _ (r : Run) (table : TableId) (before mid now : List Worker) (are_mid : AreWorkers r table mid) (are_now : AreWorkers r table now) (told : WereTold before mid) (gone : HaveGone r mid now) where
  pub round_paused : HavePaused r now
  round_paused = gone_paused r table mid now are_mid are_now gone

  pub round_done : HaveDone before now
  round_done = done_both before mid now (told_done before mid told) (gone_done r table mid now are_mid are_now gone)

  pub round_counts : (count more : ℕ) → more ≡ counted count (turns_between mid now) → more ≡ counted count (turns_between before now)
  round_counts count more e = e ∙ ap (counted count) (sym (between_told before mid now told))

  pub round_gets_on : (t g : ℕ) → IsAwaited r.program before t g → ((d : Worker) → g ≤ seen_of (slice_index_or mid t d).seat.me.0) → IsOver r.program now ⊎ IsPast (suc g) now
  round_gets_on t g awaited due =
      let next = told_next before mid t g awaited.next told in
      let d = get_length mid t next.within in
      gets_on r table mid now are_mid are_now gone t g d.0 next (due d.0)

-- ---- rounds

-- a run that is over awaits no turn
not_over : (r : Run) (table : TableId) (ws : List Worker) → AreWorkers r table ws → (t g : ℕ) → IsAwaited r.program ws t g → IsOver r.program ws → ⊥
not_over r table ws are t g a over = by (get_length ws t a.next.within) over
  where
    by : (d : Worker) × (slice_get ws t ≡ Some d) → IsOver r.program ws → ⊥
    by d (inl done) = let k : Path (Option ℕ) None (Some g) = sym (done t d.0 a.next.within) ∙ a.next.own d.0 in cc
    by d (inr h) =
        let held = h.2 in
        let first = a.next.least h.0 h.1 d.0 held.next.within (held.next.own d.0) in
        let second = held.next.least t g d.0 a.next.within (a.next.own d.0) in
        let same : h.1 ≡ g = omega (arith, first, second) in
        let mine = next_owned r table (slice_index_or ws t d.0) (are.at t d.0 a.next.within) g (a.next.own d.0) ∙ ap (λ (i : ℕ). Some i) (are.thread t d.0 a.next.within) in
        let its = next_owned r table (slice_index_or ws h.0 d.0) (are.at h.0 d.0 held.next.within) h.1 (held.next.own d.0) ∙ ap (λ (i : ℕ). Some i) (are.thread h.0 d.0 held.next.within) in
        let both : Path (Option ℕ) (Some h.0) (Some t) = sym its ∙ ap (slice_get (owners_of r.schedule.turns)) same ∙ mine in
        let own : h.0 ≡ t = cc in
        let k : true ≡ false = sym (held.stopped d.0) ∙ ap (λ (i : ℕ). is_stopped r.program (slice_index_or ws i d.0)) own ∙ a.goes d.0 in
        cc

pub past_first : (ws : List Worker) → IsPast 0 ws
past_first ws t h d lt e = omega arith

-- behind a round of the rounds one turn more is done
pub past_more : (r : Run) (table : TableId) (ws now : List Worker) → AreWorkers r table ws → (i t g : ℕ) → IsAwaited r.program ws t g → IsOver r.program ws ⊎ IsPast i ws
    → IsOver r.program now ⊎ IsPast (suc g) now → IsOver r.program now ⊎ IsPast (i + 1) now
past_more r table ws now are i t g a (inl over) h = absurd (not_over r table ws are t g a over)
past_more r table ws now are i t g a (inr past) (inl over) = inl over
past_more r table ws now are i t g a (inr past) (inr more) = inr (λ u k e lt q. (let m = more u k e lt q in let p = from (get_length ws t a.next.within) in omega (arith, m, p)))
  where
    from : (d : Worker) × (slice_get ws t ≡ Some d) → i ≤ g
    from d = past t g d.0 a.next.within (a.next.own d.0)

-- so behind as many as the schedule has turns the run is over
pub past_all : (r : Run) (table : TableId) (ws : List Worker) → AreWorkers r table ws → (i : ℕ) → i ≡ length (owners_of r.schedule.turns) → IsOver r.program ws ⊎ IsPast i ws → IsOver r.program ws
past_all r table ws are i q (inl over) = over
past_all r table ws are i q (inr past) = inl (λ t d lt. by t d lt (next_turn_of (slice_index_or ws t d)) refl)
  where
    by : (t : ℕ) (d : Worker) → t < length ws → (o : Option ℕ) → next_turn_of (slice_index_or ws t d) ≡ o → next_turn_of (slice_index_or ws t d) ≡ None
    by t d lt None e = e
    by t d lt (Some h) e =
        let within = slice_get_within (owners_of r.schedule.turns) h _ (next_owned r table (slice_index_or ws t d) (are.at t d lt) h e) in
        let late = past t h d lt e in
        absurd (omega (arith, within, late, q))
