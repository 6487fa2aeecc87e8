use Rattle.std.proofs.Common.{refl, suc}
use Rattle.pg_slice_back.specs.pg_law_demands.Along.{known_at}
use Rattle.pg_slice_back.proofs.Dispatch.{call_is}
use Rattle.pg_slice_back.proofs.NeedsBackOverSteps.{less_met}
use Rattle.pg_slice_walk.proofs.WordsBack.{if_weaker, word_more}
use Rattle.pg_slice_walk.proofs.words.back_one.Goals as goal

pub returns-clause-back : goal.returns-clause-back
returns-clause-back c = λ R e m st within words met.
    let n = c.args.s.now.number in
    let p = c.args.s.now.program.now in
    let r = c.args.s.now.reference.now in
    let x = c.args.s.now.instr.now in
    let counts = c.args.s.now.counts in
    let s = known_at R e n in
    let call = call_is R e p r x c.args.s.now.step.now counts n m st c.call_of-at.result c.call_of-at.ensures.thread c.call_of-at.ensures.depth in
    let less = less_met (known_at R e (suc n)) c.args.demanded.now c.asked_word-asked.new.demanded c.asked_word-asked.ensures.less met in
    let b = c.in_ok-back_live.ensures.back R e m st within less in
    let l = c.in_ok-leave_words.ensures R e p r x counts n m st call refl refl words b.0 in (
      l.0,
      word_more s c.leave_words.new.words.items c.ask_word.new.words.items c.asked_word-asked.result c.ask_word.ensures
          (if_weaker c.asked_word-asked.result (λ u h. h R e x counts m st call refl met) c.asked_word-asked.ensures.asked) l.1,
      b.1,
    )
