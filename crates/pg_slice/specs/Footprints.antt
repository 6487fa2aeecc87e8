-- Bounds as footprints.
use Rattle.pg_slice_rules.specs.Freeable.{bounds_of}
use Rattle.pg_slice_rules.specs.Rules.{Footprint}
use Rattle.pg_slice.specs.declared.footprints.PointerFootprint.{PointerFootprint}

abbrev pub pointer_footprint : PointerFootprint → Footprint
pointer_footprint p = record { bytes = bounds_of p.word; writes = p.writes }
