-- The footprints of the steps of a reference run, one after another.
use Rattle.std.specs.Prelude.{List, [], ◌∷◌, ◌++◌, map, Bool, true, false}
use Rattle.std.specs.List.{list_any}
use Rattle.pg_slice_conflicts.specs.declared.footprint.Footprint.{Footprint}
use Rattle.pg_slice_conflicts.specs.Meets.{is_met}
use Rattle.pg_slice_rules.specs.Known.{Seen}
use Rattle.pg_slice_rules.specs.Rules as rules

-- a footprint of a step, with the step's thread and interval
abbrev pub of_step : Bool → Seen → rules.Footprint → Footprint
of_step of_region x f = record {
  thread = x.moment.did.did.thread;
  low = x.moment.did.low;
  high = x.moment.did.high;
  start = f.bytes.start;
  bytes = f.bytes.bytes;
  writes = f.writes;
  of_region = of_region;
}

-- of a live access its bounds
abbrev pub access_footprints : Seen → List Footprint
access_footprints x = map (of_step false x) (rules.access_footprint x)

-- of a live freeable branch step the bounds of its region
abbrev pub region_footprints : Seen → List Footprint
region_footprints x = map (of_step true x) (rules.region_footprints x)

-- of each step those of its access, and then those of its region
abbrev pub footprints_of : List Seen → List Footprint
footprints_of [] = []
footprints_of (x ∷ xs) = (access_footprints x ++ region_footprints x) ++ footprints_of xs

-- one of these footprints meets one of all
abbrev pub some_met : List Footprint → List Footprint → Bool
some_met all ps = list_any (is_met all) ps
