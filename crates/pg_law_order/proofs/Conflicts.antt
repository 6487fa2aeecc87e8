-- Two steps conflict exactly where they meet at a byte.
use Rattle.std.proofs.Common.{◌≡◌, ℕ, ◌==◌, ◌+◌, Bool, true, false, Option, Some, None, refl, sym, ◌∙◌, arith}
use Rattle.std.specs.Prelude.{◌&&◌, ◌||◌, not, max, nat_lt, nat_le}
use Rattle.std.proofs.lemmas.Bool.{true≢false, eq-eqb, ne_eqb, le-leb, and_parts, and_from, not-true, not_from_false}
use Rattle.pg_num.specs.Places.{ByteRange}
use Rattle.pg_law_threads.specs.Steps.{Conflict}
use Rattle.pg_run_trace.specs.declared.step.Step.{Step}
use Rattle.pg_run_trace.specs.declared.step.Access.{Access}
use Rattle.pg_run_trace.specs.Steps.{access_of, range_of}
use Rattle.pg_run_trace.specs.Races.{accesses_conflict, conflict, is_in, reads_in, share, steps_by, writes_in}
use Rattle.pg_law_runs.proofs.SharedBytes.{holds_share}

-- both ranges hold the greater of their starts
share_holds : (r s : ByteRange) → share r s ≡ true → (is_in r (max r.start s.start) ≡ true) × (is_in s (max r.start s.start) ≡ true)
share_holds r s h =
    let p = and_parts (nat_lt (max r.start s.start) (r.start + r.bytes)) (nat_lt (max r.start s.start) (s.start + s.bytes)) h in (
      and_from (nat_le r.start (max r.start s.start)) (nat_lt (max r.start s.start) (r.start + r.bytes)) (le-leb r.start (max r.start s.start) (omega arith)) p.0,
      and_from (nat_le s.start (max r.start s.start)) (nat_lt (max r.start s.start) (s.start + s.bytes)) (le-leb s.start (max r.start s.start) (omega arith)) p.1,
    )

-- the test of two accesses at one byte
abbrev meet_in : Option Access → Option Access → ℕ → Bool
meet_in a c b = (writes_in a b && (reads_in c b || writes_in c b)) || ((reads_in a b || writes_in a b) && writes_in c b)

meet_true : (w v : Bool) → (w || v) ≡ true → ((w && true) && ((not v && true) || (v && true))) || (((not w && true) || (w && true)) && (v && true)) ≡ true
meet_true true true h = refl
meet_true true false h = refl
meet_true false true h = refl
meet_true false false h = absurd (true≢false (sym h))

meet_parts : (w i v k : Bool) → ((w && i) && ((not v && k) || (v && k))) || (((not w && i) || (w && i)) && (v && k)) ≡ true → ((w || v) ≡ true) × (i ≡ true) × (k ≡ true)
meet_parts true true true true h = (refl, refl, refl)
meet_parts true true false true h = (refl, refl, refl)
meet_parts false true true true h = (refl, refl, refl)
meet_parts true true true false h = absurd (true≢false (sym h))
meet_parts true true false false h = absurd (true≢false (sym h))
meet_parts true false true true h = absurd (true≢false (sym h))
meet_parts true false true false h = absurd (true≢false (sym h))
meet_parts true false false true h = absurd (true≢false (sym h))
meet_parts true false false false h = absurd (true≢false (sym h))
meet_parts false true true false h = absurd (true≢false (sym h))
meet_parts false true false true h = absurd (true≢false (sym h))
meet_parts false true false false h = absurd (true≢false (sym h))
meet_parts false false true true h = absurd (true≢false (sym h))
meet_parts false false true false h = absurd (true≢false (sym h))
meet_parts false false false true h = absurd (true≢false (sym h))
meet_parts false false false false h = absurd (true≢false (sym h))

none_right : (w r : Bool) → ((w && false) || ((r || w) && false)) ≡ true → ⊥
none_right true true h = true≢false (sym h)
none_right true false h = true≢false (sym h)
none_right false true h = true≢false (sym h)
none_right false false h = true≢false (sym h)

meets_at : (a c : Option Access) → accesses_conflict a c ≡ true → (b : ℕ) × (meet_in a c b ≡ true)
meets_at None None h = absurd (true≢false (sym h))
meets_at None (Some c) h = absurd (true≢false (sym h))
meets_at (Some a) None h = absurd (true≢false (sym h))
meets_at (Some a) (Some c) h =
    let p = and_parts (a.writes || c.writes) (share (range_of a) (range_of c)) h in
    let i = share_holds (range_of a) (range_of c) p.1 in
    (max (range_of a).start (range_of c).start, rw (i.0, i.1) (meet_true a.writes c.writes p.0))

conflict_at : (a c : Option Access) (b : ℕ) → meet_in a c b ≡ true → accesses_conflict a c ≡ true
conflict_at None None b h = absurd (true≢false (sym h))
conflict_at None (Some c) b h = absurd (true≢false (sym h))
conflict_at (Some a) None b h = absurd (none_right (a.writes && is_in (range_of a) b) (not a.writes && is_in (range_of a) b) h)
conflict_at (Some a) (Some c) b h =
    let p = meet_parts a.writes (is_in (range_of a) b) c.writes (is_in (range_of c) b) h in
    and_from (a.writes || c.writes) (share (range_of a) (range_of c)) p.0 (holds_share (range_of a) (range_of c) b p.1 p.2)

module _ (is_event : Step → Bool) (x y : Step) where
  pub at_a_byte : conflict x y ≡ true → Conflict (steps_by is_event) x y
  at_a_byte h =
      let p = and_parts (not (x.thread.0 == y.thread.0)) (accesses_conflict (access_of x) (access_of y)) h in
      let m = meets_at (access_of x) (access_of y) p.1 in
      record {
        threads = λ e. true≢false (sym (eq-eqb x.thread.0 y.thread.0 e) ∙ not-true (x.thread.0 == y.thread.0) p.0);
        cell = m.0;
        meet = m.1;
      }

  pub in_conflict : Conflict (steps_by is_event) x y → conflict x y ≡ true
  in_conflict c = and_from (not (x.thread.0 == y.thread.0)) (accesses_conflict (access_of x) (access_of y))
      (not_from_false (x.thread.0 == y.thread.0) (ne_eqb x.thread.0 y.thread.0 c.threads)) (conflict_at (access_of x) (access_of y) c.cell c.meet)
