use Rattle.std.proofs.Common.{◌≡◌, ◌≤◌, ◌-◌, ◌+◌, map, length, drop}
use Rattle.std.specs.Prelude.{vec_capacity}
use Rattle.pg_cache.specs.Kept.{first_from}
use Rattle.pg_cache.proofs.cache.Cache.find.Given as goal

abbrev pub invariant-loop-index : goal.invariant-loop-index
invariant-loop-index g l = record {
  size : l.self-inside.size ≡ l.initial.self-inside.size;
  inserted : l.self-inside.inserted ≡ l.initial.self-inside.inserted;
  count : length l.self-inside.values.items ≡ length l.initial.self-inside.values.items;
  fits : (length l.self-inside.values.items ≤ l.self-inside.size) × (length l.self-inside.values.items ≤ l.self-inside.inserted) × (l.self-inside.size ≤ vec_capacity l.self-inside.values);
  meanings : map g.V.Admits.meaning l.self-inside.values.items ≡ map g.V.Admits.meaning l.initial.self-inside.values.items;
  searched : first_from l.oldest (map (λ v. g.V.Admits.test (g.V.Admits.meaning v) l.input) l.initial.self-inside.values.items)
      ≡ first_from (l.oldest + l.index) (drop l.index (map (λ v. g.V.Admits.test (g.V.Admits.meaning v) l.input) l.initial.self-inside.values.items));
}

abbrev pub decreases-loop-index : goal.decreases-loop-index
decreases-loop-index g l = length l.self-inside.values.items - l.index
