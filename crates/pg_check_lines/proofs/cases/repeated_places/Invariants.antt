use Rattle.std.proofs.Common.{◌≡◌, ℕ, List, None, take}
use Rattle.std.specs.List.{flat_map}
use Rattle.pg_check_rules.specs.Earliest.{earliest}
use Rattle.pg_check_lines.specs.declared.cases.CasePlace.{CasePlace}
use Rattle.pg_check_lines.specs.Cases.{repeated, starts_behind, start_of}
use Rattle.pg_check_lines.proofs.cases.repeated_places.Given as goal

abbrev pub invariant-loop-place : goal.invariant-loop-place
invariant-loop-place l = (all : List CasePlace) → ((n : ℕ) → start_of l.starts n ≡ starts_behind None all n) → l.found ≡ earliest (flat_map (repeated all) (take l.place-index l.places))
