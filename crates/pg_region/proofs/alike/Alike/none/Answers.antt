use Rattle.std.proofs.Common.{sym}
use Rattle.std.proofs.lemmas.Bool.{true≢false}
use Rattle.pg_region.proofs.alike.Alike.none.Goals as goal

pub returns : goal.returns
returns c = record { kept = λ f x e. absurd (true≢false (sym (rw c.new.ensures.items at e))) }
