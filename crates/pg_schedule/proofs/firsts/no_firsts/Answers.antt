use Rattle.std.proofs.Common.{◌≡◌, ◌∷◌, [], ◌++◌, None, replicate, arith, ap, ◌∙◌}
use Rattle.std.proofs.lemmas.List.{replicate_more}
use Rattle.pg_schedule.proofs.firsts.no_firsts.Goals as goal

pub loop-id-preserved : goal.loop-id-preserved
loop-id-preserved c = c.in_ok-push.ensures.items ∙ ap (λ l. l ++ None ∷ []) c.loop-id.invariant ∙ replicate_more c.loop-id.id None

pub returns : goal.returns
returns c = let q : c.loop-id.id ≡ c.args.count = omega arith in c.loop-id.invariant ∙ ap (λ n. replicate n None) q
