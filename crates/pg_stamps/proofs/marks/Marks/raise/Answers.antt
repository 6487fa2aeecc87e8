use Rattle.std.proofs.Common.{◌≡◌, false, ◌∙◌, ap, arith, sym}
use Rattle.std.specs.Prelude.{nat_eq}
use Rattle.std.specs.Option.{unwrap_or}
use Rattle.std.proofs.lemmas.Bool.Decides.{nat_tests}
use Rattle.pg_stamps.specs.Numbers.{class_of}
use Rattle.pg_stamps.proofs.Classes.{without_bit}
use Rattle.pg_stamps.proofs.marks.Marks.raise.Goals as goal

pub invariant_of-self : goal.invariant_of-self
invariant_of-self c = λ n e.
    let p = without_bit c.self.inside.classes c.class_of.result (class_of n) c.class_of.ensures.bound e in
    let other : n ≡ c.args.node → ⊥ = λ s. p.0 (ap class_of s ∙ sym c.class_of.ensures.class) in
    let apart : nat_eq c.args.node n ≡ false = grind (other, arith, nat_tests) in
    ap (λ o. unwrap_or o 0) (c.in-Ok.ensures.updates.2 n apart) ∙ c.self.invariant n p.1
