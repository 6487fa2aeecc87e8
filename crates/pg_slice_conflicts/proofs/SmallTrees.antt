-- Trees are small.
use Rattle.std.proofs.Common.{◌*◌, ◌^◌, ◌≤◌, arith}
use Rattle.std.proofs.Math.Pow.{pow_mono}
use Rattle.pg_slice_conflicts.specs.declared.tree.Tree.{Tree}
use Rattle.pg_slice_conflicts.specs.Tables.{IsTree}

pub few_leaves : (t : Tree) → IsTree t → 2 * t.leaves ≤ 9223372036854775808
few_leaves t is =
    let p : 2 ^ t.levels ≤ 2 ^ 63 = pow_mono is.few in
    let e = is.leaves in
    omega (arith, p, e)
