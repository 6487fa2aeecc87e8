use Rattle.pg_num.proofs.Accesses.{place_of-is_place, place_of-in_granule, place_of-bytes, place_of-start, place_of-in_bounds}
use Rattle.pg_num.proofs.laws.an_access_is_in_one_granule.Goals as goal

pub returns-clause-place : goal.returns-clause-place
returns-clause-place c = place_of-is_place

pub returns-clause-granule : goal.returns-clause-granule
returns-clause-granule c = place_of-in_granule

pub returns-clause-bytes : goal.returns-clause-bytes
returns-clause-bytes c = place_of-bytes

pub returns-clause-start : goal.returns-clause-start
returns-clause-start c = place_of-start

pub returns-clause-bounds : goal.returns-clause-bounds
returns-clause-bounds c = place_of-in_bounds
