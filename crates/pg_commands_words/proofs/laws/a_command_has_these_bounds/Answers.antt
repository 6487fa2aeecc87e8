use Rattle.std.proofs.Common.{◌≡◌, ℕ, ℤ, List, refl, [], ◌∷◌, codes, None, arith}
use Rattle.pg_commands_words.specs.Commands.{Means, once}
use Rattle.pg_commands_words.proofs.Meanings.{one-command, within}
use Rattle.pg_commands_words.proofs.laws.a_command_has_these_bounds.Goals as goal

-- the word by itself
alone : Means (codes "once" ∷ []) (once 100 [])
alone = record {
  line = record { pieces = []; end = None };
  spelled = refl;
  plain = refl;
  at_most_once = λ o. omega arith;
  says = record { allowed = refl; has_values = (refl, record { has_numbers = refl; few = omega arith }) };
}

same-quantum : (q r : ℕ) (ns ms : List ℤ) → once q ns ≡ once r ms → q ≡ r
same-quantum q r ns ms e = cc

pub returns-clause-alone : goal.returns-clause-alone
returns-clause-alone c = λ q ns o. same-quantum q 100 ns [] (one-command (codes "once" ∷ []) (once q ns) (once 100 []) o alone)

pub returns-clause-within : goal.returns-clause-within
returns-clause-within c = λ words meaning m. within words meaning m
