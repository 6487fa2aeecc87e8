-- The lines of some refusals.
use Rattle.std.proofs.Common.{◌≡◌, [], refl, codes}
use Rattle.std.specs.Fmt.{digits}
use Rattle.pg_read_grammar.specs.declared.fault.ReadFault.TheVariants as reader
use Rattle.pg_check.specs.pg_check_rules.declared.fault.CheckKind.TheVariants as check
use Rattle.pg_commands.specs.declared.refusals.TextRefusal.TheVariants.{TooLong, Read, Check}
use Rattle.pg_commands.specs.Refusals.{refusal_line}

too_long : refusal_line (codes "ab") TooLong ≡ codes "program refused 1:1 TooLong\n"
unfolding refusal_line digits
too_long = refl

no_main : refusal_line [] (Check check.NoMain (record { start = 0; end = 0 })) ≡ codes "program refused 1:1 NoMain\n"
unfolding refusal_line digits
no_main = refl

-- the end of a text, on its second line
at_the_end : refusal_line (codes "a\nbc") (Read (reader.Unexpected 4)) ≡ codes "program refused 2:3 Unexpected\n"
unfolding refusal_line digits
at_the_end = refl

-- directly behind a line feed
new_line : refusal_line (codes "a\n\n!") (Read (reader.BadByte 3)) ≡ codes "program refused 3:1 BadByte\n"
unfolding refusal_line digits
new_line = refl

no_type : refusal_line (codes "%x = type float") (Read (reader.Unsupported (record { start = 10; end = 15 }))) ≡ codes "program refused 1:11 Unsupported float\n"
unfolding refusal_line digits
no_type = refl

unknown_callee : refusal_line (codes "call void @\"a b\"()") (Check check.Unsupported (record { start = 10; end = 16 })) ≡ codes "program refused 1:11 Unsupported @\"a b\"\n"
unfolding refusal_line digits
unknown_callee = refl

-- of other kinds the token's text isn't told
unknown_name : refusal_line (codes "ret i32 %x") (Check check.UnknownName (record { start = 8; end = 10 })) ≡ codes "program refused 1:9 UnknownName\n"
unfolding refusal_line digits
unknown_name = refl
