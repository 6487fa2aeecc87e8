use Rattle.std.proofs.Common.{◌≡◌, length, ap, arith}
use Rattle.pg_run_memory.specs.Parts.{padded}
use Rattle.pg_run_memory.proofs.Padding.{padded_length}
use Rattle.pg_run_memory.proofs.lazy_words.LazyWords.set.Goals as goal

pub reach-requires-clause-within : goal.reach-requires-clause-within
reach-requires-clause-within c =
    let l = padded_length c.self.inside.count c.self.inside.words.items c.self.invariant.0 in
    let k : length (padded c.self.inside.count c.self.inside.words.items) ≡ length c.args.self.now = ap length c.self.view_is in
    omega (arith, c.requires, l, k)
