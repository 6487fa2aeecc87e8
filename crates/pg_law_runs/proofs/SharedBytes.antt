-- Two ranges that hold one byte share one.
use Rattle.std.proofs.Common.{◌≡◌, ℕ, ◌+◌, true, arith}
use Rattle.std.specs.Prelude.{max, nat_le, nat_lt}
use Rattle.std.proofs.lemmas.Bool.{and_from, and_parts, leb-true, lt-ltb, ltb-true}
use Rattle.pg_num.specs.Places.{ByteRange}
use Rattle.pg_run_trace.specs.Races.{is_in, share}

pub holds_share : (r s : ByteRange) (b : ℕ) → is_in r b ≡ true → is_in s b ≡ true → share r s ≡ true
holds_share r s b h k =
    let p = and_parts (nat_le r.start b) (nat_lt b (r.start + r.bytes)) h in
    let q = and_parts (nat_le s.start b) (nat_lt b (s.start + s.bytes)) k in
    let a = leb-true r.start b p.0 in
    let c = ltb-true b (r.start + r.bytes) p.1 in
    let d = leb-true s.start b q.0 in
    let e = ltb-true b (s.start + s.bytes) q.1 in
    and_from (nat_lt (max r.start s.start) (r.start + r.bytes)) (nat_lt (max r.start s.start) (s.start + s.bytes))
    (lt-ltb (max r.start s.start) (r.start + r.bytes) (omega (arith, a, c, d, e))) (lt-ltb (max r.start s.start) (s.start + s.bytes) (omega (arith, a, c, d, e)))
