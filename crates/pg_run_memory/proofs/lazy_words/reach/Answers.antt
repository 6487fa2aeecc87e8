use Rattle.std.proofs.Common.{◌≡◌, ℕ, ◌+◌, ◌-◌, ◌≤◌, ◌++◌, Bool, true, take, length, replicate, if◌then◌else◌, arith, vec_len}
use Rattle.std.proofs.lemmas.List.{take_all}
use Rattle.std.specs.Result.{is_ok}
use Rattle.pg_run_memory.specs.Memory.{Words}
use Rattle.pg_run_memory.specs.Parts.{padded}
use Rattle.pg_run_memory.proofs.Padding.{padded_more}
use Rattle.pg_run_memory.proofs.lazy_words.reach.Goals as goal

-- what `resize` leaves, where it makes the list longer and doesn't fail
resized : (n m size : ℕ) (ws vs : Words) (done : Bool) → done ≡ true → length ws ≡ size → size ≤ m → m ≤ n
    → vs ≡ (if done then take m ws ++ replicate {A = ℕ} (m - size) 0 else ws) → padded n vs ≡ padded n ws
resized n m size ws vs done d s h k e =
    let a : vs ≡ take m ws ++ replicate {A = ℕ} (m - size) 0 = rw d at e in
    rw a (rw (take_all m ws (omega arith)) (padded_more n (m - size) ws (omega arith)))

pub returns-then-len-index-clause-words : goal.returns-then-len-index-clause-words
returns-then-len-index-clause-words c =
    let fits : c.args.index + c.min.result ≤ c.args.count = omega (arith, c.min.ensures, c.requires.within) in
    resized c.args.count (c.args.index + c.min.result) (vec_len c.args.words.now) c.args.words.now.items c.resize.new.self.items (is_ok c.resize.result)
    (c.resize.ensures.succeeds (omega (arith, fits, c.requires.room)))
    (omega (arith, c.args.words.now.ok.0)) (omega (arith, c.len.ensures, c.if-len-index.true)) fits c.resize.ensures.items
