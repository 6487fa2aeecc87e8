use Rattle.std.proofs.Common.{◌≡◌, ◌≤◌, ◌+◌, ◌++◌, map, drop, ap, sym, subst, ◌∙◌, rules}
use Rattle.pg_num.specs.Pointers.{word_of}
use Rattle.pg_num.specs.declared.limits.TheConstants.{SIZE_LIMIT}
use Rattle.pg_ir.specs.WellFormed.{granules_for}
use Rattle.pg_read_ast.specs.Views.{global_of, ty_of}
use Rattle.pg_check_types.specs.Resolved.{resolved}
use Rattle.pg_check_types.specs.Layout.{size_or_none}
use Rattle.pg_check_types.specs.NumberedTypes.{named_types}
use Rattle.pg_check_constants.specs.Words.{words_from}
use Rattle.pg_check_constants.proofs.GlobalSizes.{one_fits, size_small, room_first, room_step}
use Rattle.pg_check_constants.proofs.PointerWords.{size_in, word_step, words_end}
use Rattle.pg_check_constants.proofs.globals.global_words.Goals as goal

pub size_or_none-size-requires-clause-fits : goal.size_or_none-size-requires-clause-fits
size_or_none-size-requires-clause-fits c =
    let types = named_types c.args.types.now in
    let v = global_of c.global-item.result in
    let small = size_small types v (one_fits types c.args.globals.now c.loop-global.global-index c.global-item.result _ c.requires c.loop-global-test.true c.global-item.is) in
    subst (λ n. n ≤ SIZE_LIMIT)
    (sym (ap (λ t. size_or_none t) c.in_ok-number.ensures.value ∙ ap (λ k. size_or_none (resolved (named_types k) (ty_of c.global-item.result.ty))) c.new-known.ensures))
    small

pub loop-global-init : goal.loop-global-init
loop-global-init c = record {
  whole = search rules;
  room = room_first (named_types c.args.types.now) c.args.globals.now c.requires;
}

pub loop-global-preserved : goal.loop-global-preserved
loop-global-preserved c =
    let types = named_types c.args.types.now in
    let start = c.loop-global.start in
    let next = start + c.granules_for-start.result in
    let size : c.size_or_none-size.result ≡ size_in types (global_of c.global-item.result) =
    c.size_or_none-size.ensures.size ∙ ap (λ t. size_or_none t) c.in_ok-number.ensures.value
    ∙ ap (λ k. size_or_none (resolved (named_types k) (ty_of c.global-item.result.ty))) c.new-known.ensures in
    let granules = ap (λ n. start + n) (c.granules_for-start.ensures.granules ∙ ap (λ n. granules_for n) size) in
    record {
      whole =
          ap (λ ws. ws ++ words_from types next (map global_of (drop (c.loop-global.global-index + 1) c.args.globals.now))) c.in_ok-push.ensures.items
          ∙ word_step types start next c.word_from-word.result c.loop-global.words.items c.args.globals.now c.loop-global.global-index c.global-item.result _
          c.loop-global-test.true c.global-item.is
          (c.word_from-word.ensures ∙ ap (λ n. word_of (record { start = start; length = n; offset = 0 })) size)
          granules
          ∙ c.loop-global.invariant.whole;
      room = room_step types c.args.globals.now c.loop-global.global-index c.global-item.result _ start next c.loop-global-test.true c.global-item.is granules c.loop-global.invariant.room;
    }

pub returns : goal.returns
returns c = record {
  words =
      words_end (named_types c.args.types.now) c.loop-global.start c.loop-global.words.items c.args.globals.now c.loop-global.global-index c.loop-global-test.false
      ∙ c.loop-global.invariant.whole;
}
