use Rattle.std.proofs.lemmas.Result.{on_ok_weaker}
use Rattle.pg_slice_passes.proofs.RowsOfFootprints.{first_begins, put_back}
use Rattle.pg_slice_passes.proofs.rows.add_number.Goals as goal

pub returns-in-Some : goal.returns-in-Some
returns-in-Some c =
    on_ok_weaker c.add_behind.result (λ h. put_back c.args.owner c.args.number c.args.rows.now.items c.pop.new.self.items c.add_behind.new.rows.items c.in-Some.row c.pop.result c.pop.ensures.items c.in-Some.is h) c.add_behind.ensures

pub returns-in-None : goal.returns-in-None
returns-in-None c =
    on_ok_weaker c.begin.result (λ h. first_begins c.args.owner c.args.number c.args.rows.now.items c.pop.new.self.items c.begin.new.rows.items c.pop.result c.pop.ensures.items c.in-None.is h) c.begin.ensures
