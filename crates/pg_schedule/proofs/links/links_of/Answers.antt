use Rattle.std.proofs.Common.{◌≡◌, ◌-◌, ◌+◌, Some, None, refl, sym, ◌∙◌, arith, subst, length, drop}
use Rattle.pg_schedule.specs.Links.{AreListed, accesses_byte, numbers_of}
use Rattle.pg_schedule.proofs.ByteLinks.{listed_start, listed_next, listed_end}
use Rattle.pg_schedule.proofs.links.links_of.Goals as goal
use Rattle.pg_schedule.proofs.links.links_of.Goals.{in-Some+in_ok-note, in_default}

pub loop-k-init : goal.loop-k-init
loop-k-init c = listed_start (length c.args.t.now.steps) c.new-links.result c.args.t.now.steps 0 refl c.new-links.ensures.heads c.new-links.ensures.links

pub loop-k-preserved : goal.loop-k-preserved
loop-k-preserved c =
    let xs = c.args.t.now.steps in
    let k = c.loop-k.k in
    let i = c.len.result - 1 - k in
    let l = c.len.ensures in
    let q : i ≡ length xs - (k + 1) = omega (arith, l) in
    elim c.match-access.branch [
      | in-Some+in_ok-note w ↦ subst (λ t. AreListed (length xs) t (λ b. numbers_of (accesses_byte b) (length xs - (k + 1)) (drop (length xs - (k + 1)) xs))) (sym w.links-is)
          (listed_next (length xs) w.note.new.links xs k i c.step.result (Some w.in-Some.access) (omega arith) q c.step.ensures (sym c.access.ensures ∙ w.in-Some.is)
          (w.in_ok-note.ensures (length xs) _ (omega arith) c.loop-k.invariant))
      | in_default w ↦ subst (λ t. AreListed (length xs) t (λ b. numbers_of (accesses_byte b) (length xs - (k + 1)) (drop (length xs - (k + 1)) xs))) (sym w.links-is)
          (listed_next (length xs) c.loop-k.links xs k i c.step.result None (omega arith) q c.step.ensures (sym c.access.ensures ∙ w.in_default.is) c.loop-k.invariant)
    ]

pub returns : goal.returns
returns c = let l = c.len-k-end.ensures in listed_end (length c.args.t.now.steps) c.loop-k.links c.args.t.now.steps c.loop-k.k (omega (arith, l)) c.loop-k.invariant
