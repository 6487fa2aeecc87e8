use Rattle.std.proofs.Common.{◌∙◌, sym, rules}
use Rattle.pg_free.proofs.Lists.{same_elements}
use Rattle.pg_free.proofs.free.in_threads.Goals as goal

pub returns-then-count-gt0 : goal.returns-then-count-gt0
returns-then-count-gt0 g c = record {
  same = same_elements _ _ (search rules) (λ i d l. let e = c.for_each_mut.ensures i d l in sym e.1.left ∙ e.1.call ∙ e.1.argument_is);
}
