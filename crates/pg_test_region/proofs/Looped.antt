-- The graph of the tests is closed.
use Rattle.std.proofs.Common.{◌≡◌, ℕ, zero, suc, ◌<◌, List, [], ◌∷◌, arith}
use Rattle.std.specs.Prelude.{Contains, slice_get}
use Rattle.std.proofs.lemmas.List.Elements.{All-from_recursion, All-contains}
use Rattle.pg_cfg.specs.Graphs.{EdgeLists, IsClosed, targets_of, targets_in}

abbrev pub loop_graph : EdgeLists
loop_graph = (1 ∷ []) ∷ (2 ∷ 3 ∷ []) ∷ (1 ∷ []) ∷ [] ∷ []

pub looped_closed : IsClosed loop_graph
unfolding targets_of
looped_closed = record { closed = λ a b c. go a b c; few = omega arith }
  where
    go : (a b : ℕ) → Contains (targets_in (slice_get loop_graph a)) b → b < 4
    go zero b c = All-contains (λ b. b < 4) (1 ∷ []) b (All-from_recursion (λ b. b < 4) (1 ∷ []) (omega arith, tt)) c
    go (suc zero) b c = All-contains (λ b. b < 4) (2 ∷ 3 ∷ []) b (All-from_recursion (λ b. b < 4) (2 ∷ 3 ∷ []) (omega arith, (omega arith, tt))) c
    go (suc (suc zero)) b c = All-contains (λ b. b < 4) (1 ∷ []) b (All-from_recursion (λ b. b < 4) (1 ∷ []) (omega arith, tt)) c
    go (suc (suc (suc zero))) b c = absurd (omega (arith, c.1))
    go (suc (suc (suc (suc a)))) b c = absurd (omega (arith, c.1))
