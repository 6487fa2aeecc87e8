-- What is asked of some values: the decisions that are missing, and checks of what is known.
use Rattle.std.specs.Prelude.{◌≡◌, ℕ, ◌<◌, ◌&&◌, ℤ, List, ◌++◌, length, Bool}
use Rattle.std.specs.List.{AllByRecursion, list_all}
use Rattle.pg_ir.specs.declared.edge.Case.{Case}
use Rattle.pg_precondition.specs.Nodes.{NodeList}
use Rattle.pg_precondition.specs.Values.{holds, is_met, numbers_of}
use Rattle.pg_precondition.specs.declared.check.Check.{Check}
use Rattle.pg_precondition.specs.declared.check.Test.TheVariants as test
use Rattle.pg_slice_memory.specs.pg_slice_rules.Rules.{Condition, Need, all_of, need_blames, need_conditions}
use Rattle.pg_slice_checks.specs.declared.asked.Asked.{Asked}

-- by these nodes, each check holds on an input
abbrev pub all_hold : NodeList → List Check → List ℤ → Bool
all_hold ns checks input = list_all (holds (numbers_of input ns)) checks

-- each condition is met on an input
abbrev pub all_met : List Condition → List ℤ → Bool
all_met conditions input = list_all (λ (c : Condition). is_met c.test (c.value input)) conditions

-- each check is that of one of the first n nodes
abbrev pub AreNamed : ℕ → List Check → Type 0
AreNamed n checks = AllByRecursion (λ (c : Check). c.node < n) checks

-- the check that the number of a node is another than that of a case
abbrev pub other_than : ℕ → Case → Check
other_than node c = record { node = node; test = test.Ne c.value }

-- by these nodes, some needs were added: behind what is missing the decisions that they blame, and checks that hold where what
-- they ask of an input is met
pub record Adds (ns : NodeList) (needs : List Need) (old new : Asked) : Type 0 where
  pub missing : new.missing.items ≡ old.missing.items ++ all_of need_blames needs
  pub checks : (input : List ℤ) → all_hold ns new.checks.items input ≡ (all_hold ns old.checks.items input && all_met (all_of need_conditions needs) input)
  pub named : AreNamed (length ns) old.checks.items → AreNamed (length ns) new.checks.items
