-- How an access that is handed out reads.
use Rattle.pg_region_paths.specs.Paths.{offsets_of}
use Rattle.pg_slice_rules.specs.Freeable.{FreeAccess}
use Rattle.pg_slice_replay.specs.declared.run.FreeAccess as declared
use Rattle.pg_slice_replay.specs.Paths.{along}

abbrev pub access_as : declared.FreeAccess → FreeAccess
access_as a = record { writes = a.writes; path = a.path; at = along (offsets_of a.path.loads) (record { pointers = a.pointers; last = a.last }) }
