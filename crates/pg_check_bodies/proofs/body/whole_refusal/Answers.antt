use Rattle.std.proofs.Common.{◌≡◌, ℕ, map, length, subst, refl, sym, ap, ◌∙◌, arith}
use Rattle.std.specs.List.{list_any}
use Rattle.std.proofs.lemmas.List.{length-map, append-nil}
use Rattle.pg_read_ast.specs.Syntax.{Definition, Tree}
use Rattle.pg_read_ast.specs.Numbers.{numbered}
use Rattle.pg_read_ast.specs.Views.{block_of, param_of, define_of}
use Rattle.pg_check_types.specs.NumberedTypes.{named_types}
use Rattle.pg_check_rules.specs.declared.fault.CheckKind.{CheckKind}
use Rattle.pg_check_rules.specs.declared.fault.CheckKind.TheVariants.{Doubled, NoBlock, BadPhi, TooLarge}
use Rattle.pg_check_rules.specs.Names.{labels_of, label_number}
use Rattle.pg_check_rules.specs.Earliest.{earliest, only, joined}
use Rattle.pg_check_rules.specs.Conditions.{at_if}
use Rattle.pg_check_rules.proofs.FirstRefusals.{same_places}
use Rattle.pg_check_bodies.specs.BodyBlocks.{named_block, bare_blocks}
use Rattle.pg_check_bodies.specs.BodyParts.{is_large_block, whole_refused, AreOwn}
use Rattle.pg_check_bodies.proofs.NumberedBodies.{labels_count}
use Rattle.pg_check_bodies.proofs.BodyRows.{doubled_body, unfinished_body, phis_body, too_large, registers_within}
use Rattle.pg_check_bodies.proofs.body.whole_refusal.Goals as goal

pub named_blocks-requires : goal.named_blocks-requires
named_blocks-requires c =
    let d = define_of c.args.item.now in
    ap (λ ns. length ns) c.as_slice.ensures.value ∙ ap (λ ns. length ns) c.requires.own.labels ∙ labels_count (named_types c.args.types.now) d
    ∙ length-map c.args.item.now.blocks.items block_of ∙ ap (λ bs. length bs) (sym c.as_slice-2.ensures.value)

pub doubled_own-requires : goal.doubled_own-requires
doubled_own-requires c =
    let params : c.len.result ≡ length c.args.item.now.params.items = omega (arith, c.len.ensures, c.args.item.now.params.ok.0) in
    registers_within (named_types c.args.types.now) (define_of c.args.item.now) c.args.own.now c.as_slice-4.result.now c.len.result
    c.requires.own c.as_slice-4.ensures.value (params ∙ sym (length-map c.args.item.now.params.items param_of))

kinds : (m : Tree) (lines : ℕ) (d : Definition) (kind : CheckKind)
    → joined (joined (only Doubled (whole_refused m lines d Doubled)) (only NoBlock (whole_refused m lines d NoBlock)))
    (joined (only BadPhi (whole_refused m lines d BadPhi)) (only TooLarge (whole_refused m lines d TooLarge))) kind ≡ whole_refused m lines d kind
kinds m lines d Doubled = append-nil (joined (only Doubled (whole_refused m lines d Doubled)) (only NoBlock (whole_refused m lines d NoBlock)) Doubled) ∙ append-nil (whole_refused m lines d Doubled)
kinds m lines d NoBlock = append-nil (whole_refused m lines d NoBlock)
kinds m lines d BadPhi = append-nil (whole_refused m lines d BadPhi)
kinds m lines d _ = refl

pub returns : goal.returns
unfolding numbered
returns c = record {
  first = λ m lines t u.
      let item = define_of c.args.item.now in
      let d = numbered m.types item in
      let nodes = c.args.item.now.blocks.items in
      let own = subst (λ ts. AreOwn ts item c.args.own.now) (sym t) c.requires.own in
      let span = c.args.item.now.name.span in
      let params : c.len.result ≡ length c.args.item.now.params.items = omega (arith, c.len.ensures, c.args.item.now.params.ok.0) in
      let registers : c.len-2.result ≡ length c.args.own.now.registers.items = omega (arith, c.len-2.ensures, c.args.own.now.registers.ok.0) in
      let part = whole_refused m lines d in
      let twice = only Doubled (part Doubled) in
      let unfinished = only NoBlock (part NoBlock) in
      let phis = only BadPhi (part BadPhi) in
      let large = only TooLarge (part TooLarge) in
      same_places (joined (joined twice unfinished) (joined phis large)) part c.earlier_refusal.result (kinds m lines d)
      (c.earlier_refusal.ensures (joined twice unfinished) (joined phis large)
      (c.earlier_refusal-named.ensures twice unfinished
      (c.refusal_at.ensures (part Doubled)
      (doubled_body m.types item c.args.own.now c.as_slice-3.result.now c.as_slice-4.result.now c.len.result c.in_ok-twice.twice own c.as_slice-3.ensures.value c.as_slice-4.ensures.value
      (params ∙ sym (length-map c.args.item.now.params.items param_of)) c.in_ok-twice.ensures))
      (c.refusal_at-2.ensures (part NoBlock)
      (c.place_if.ensures ∙ ap (λ b. earliest (at_if b span))
      (unfinished_body m.types item nodes c.as_slice-7.result.now c.is_unfinished-unfinished.result refl c.as_slice-7.ensures.value c.is_unfinished-unfinished.ensures))))
      (c.earlier_refusal-other.ensures phis large
      (c.refusal_at-3.ensures (part BadPhi)
      (phis_body m.types item nodes (map named_block c.as_slice-5.result.now) c.in_ok-phis.phis refl
      (ap (λ bs. map named_block bs) c.as_slice-5.ensures.value ∙ c.in_ok-blocks.ensures ∙ ap (λ ns. bare_blocks ns c.as_slice-2.result.now) (c.as_slice.ensures.value ∙ own.labels)
      ∙ ap (λ bs. bare_blocks (labels_of d) bs) c.as_slice-2.ensures.value)
      (c.in_ok-phis.ensures (labels_of d) (λ text. c.requires.labels text ∙ ap (λ ns. label_number ns text) own.labels))))
      (c.refusal_at-4.ensures (part TooLarge)
      (c.place_if-2.ensures ∙ ap (λ b. earliest (at_if b span))
      (too_large m lines item c.args.own.now nodes c.in_ok-large.large c.are_too_many.result c.is_over_limits-over.result c.len-2.result own refl
      (c.in_ok-large.ensures.large ∙ ap (λ bs. list_any (is_large_block (named_types c.args.types.now)) (map block_of bs)) c.as_slice-6.ensures.value
      ∙ ap (λ ts. list_any (is_large_block ts) (map block_of nodes)) (sym t))
      registers (c.are_too_many.ensures _ u) c.is_over_limits-over.ensures)))));
}
