use Rattle.pg_slice_back.proofs.live.back_plain.Goals as goal

pub returns-clause-back : goal.returns-clause-back
returns-clause-back c = λ R e step m st call kind met. (c.in_ok-back_op.ensures R e step m st call kind met, tt)
