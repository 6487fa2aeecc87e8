use Rattle.pg_slice_passes.proofs.RunsFit.{edges_are}
use Rattle.pg_slice_passes.proofs.fits.edges_stand.Goals as goal

pub returns : goal.returns
returns c = edges_are
