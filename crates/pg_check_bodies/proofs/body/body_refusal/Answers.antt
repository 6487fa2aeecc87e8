use Rattle.pg_check_bodies.proofs.body.body_refusal.Goals as goal

pub returns : goal.returns
returns c = record {
  first = c.in_ok-found.ensures.first;
}
