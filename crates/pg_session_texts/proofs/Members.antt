-- The members of a reply: their order, that they have no float, and how deep they nest.
use Rattle.std.proofs.Common.{◌≡◌, ◌≤◌, ℕ, pos, negsuc, List, Bool, false, Option, Some, None, option_map, codes, refl, arith}
use Rattle.std.proofs.lemmas.Bool.{or_from}
use Rattle.serde_json.specs.Data.{Data, Members, depth, member, members_depth, no_members, put, string}
use Rattle.serde_json.specs.Written.{has_float, members_have_float}
use Rattle.pg_session_texts.specs.declared.reply.ReplyKind.{ReplyKind}
use Rattle.pg_session_texts.specs.declared.reply.ReplyKind.TheVariants.{Recorded, Reused, RefusedLine, RefusedTrap, RefusedBudget, RefusedUntested}
use Rattle.pg_session_texts.specs.declared.reply.EndLine.{EndLine}
use Rattle.pg_session_texts.specs.declared.reply.EndLine.TheVariants.{Exit, Trap, Budget}
use Rattle.pg_session_texts.specs.JsonReplies.{end_value, ended_value, entry_value, member_if, output_value, put_if, reply_value, reply_word, turns_value}

-- members that are put one after another stand in the order of their keys
pub in_order : (d e t : Option Data) (o r : Data)
    → put_if (codes "turns") t (put (codes "reply") r (put (codes "output") o (put_if (codes "entry") e (put_if (codes "end") d no_members))))
    ≡ member_if (codes "end") d (member_if (codes "entry") e (member (codes "output") o (member (codes "reply") r (member_if (codes "turns") t no_members))))
in_order None None None o r = refl
in_order None None (Some t) o r = refl
in_order None (Some e) None o r = refl
in_order None (Some e) (Some t) o r = refl
in_order (Some d) None None o r = refl
in_order (Some d) None (Some t) o r = refl
in_order (Some d) (Some e) None o r = refl
in_order (Some d) (Some e) (Some t) o r = refl

-- ---- no floats

abbrev has_float_if : Option Data → Bool
has_float_if None = false
has_float_if (Some d) = has_float d

end_whole : (end : EndLine) → has_float (end_value end) ≡ false
end_whole (Exit (pos n) turns) = refl
end_whole (Exit (negsuc n) turns) = refl
end_whole (Trap name id turns) = refl
end_whole (Budget thread turns) = refl

run_end_whole : (end : Option EndLine) → has_float_if (option_map end_value end) ≡ false
run_end_whole None = refl
run_end_whole (Some end) = end_whole end

ended_whole : (kind : ReplyKind) (end : Option EndLine) → has_float_if (ended_value kind end) ≡ false
ended_whole (Recorded entry) end = run_end_whole end
ended_whole (Reused entry) end = run_end_whole end
ended_whole RefusedLine end = run_end_whole end
ended_whole (RefusedTrap name id) end = refl
ended_whole RefusedBudget end = run_end_whole end
ended_whole RefusedUntested end = run_end_whole end

entry_whole : (kind : ReplyKind) → has_float_if (entry_value kind) ≡ false
entry_whole (Recorded entry) = refl
entry_whole (Reused entry) = refl
entry_whole RefusedLine = refl
entry_whole (RefusedTrap name id) = refl
entry_whole RefusedBudget = refl
entry_whole RefusedUntested = refl

turns_whole : (end : Option EndLine) → has_float_if (turns_value end) ≡ false
turns_whole None = refl
turns_whole (Some end) = refl

member_whole : (key : List ℕ) (d : Option Data) (ms : Members) → has_float_if d ≡ false → members_have_float ms ≡ false → members_have_float (member_if key d ms) ≡ false
member_whole key None ms one more = more
member_whole key (Some d) ms one more = or_from (has_float d) (members_have_float ms) one more

pub reply_whole : (kind : ReplyKind) (output : List ℕ) (end : Option EndLine) → has_float (reply_value kind output end) ≡ false
reply_whole kind output end =
    let turns = member_whole (codes "turns") (turns_value end) no_members (turns_whole end) refl in
    let entry = member_whole (codes "entry") (entry_value kind)
    (member (codes "output") (output_value output) (member (codes "reply") (string (reply_word kind)) (member_if (codes "turns") (turns_value end) no_members)))
    (entry_whole kind) turns in
    member_whole (codes "end") (ended_value kind end) _ (ended_whole kind end) entry

-- ---- how deep they nest

abbrev depth_if : Option Data → ℕ
depth_if None = 0
depth_if (Some d) = depth d

end_shallow : (end : EndLine) → depth (end_value end) ≤ 1
end_shallow (Exit value turns) = omega arith
end_shallow (Trap name id turns) = omega arith
end_shallow (Budget thread turns) = omega arith

run_end_shallow : (end : Option EndLine) → depth_if (option_map end_value end) ≤ 1
run_end_shallow None = omega arith
run_end_shallow (Some end) = end_shallow end

ended_shallow : (kind : ReplyKind) (end : Option EndLine) → depth_if (ended_value kind end) ≤ 1
ended_shallow (Recorded entry) end = run_end_shallow end
ended_shallow (Reused entry) end = run_end_shallow end
ended_shallow RefusedLine end = run_end_shallow end
ended_shallow (RefusedTrap name id) end = omega arith
ended_shallow RefusedBudget end = run_end_shallow end
ended_shallow RefusedUntested end = run_end_shallow end

entry_shallow : (kind : ReplyKind) → depth_if (entry_value kind) ≤ 1
entry_shallow (Recorded entry) = omega arith
entry_shallow (Reused entry) = omega arith
entry_shallow RefusedLine = omega arith
entry_shallow (RefusedTrap name id) = omega arith
entry_shallow RefusedBudget = omega arith
entry_shallow RefusedUntested = omega arith

turns_shallow : (end : Option EndLine) → depth_if (turns_value end) ≤ 1
turns_shallow None = omega arith
turns_shallow (Some end) = omega arith

member_shallow : (key : List ℕ) (d : Option Data) (ms : Members) → depth_if d ≤ 1 → members_depth ms ≤ 1 → members_depth (member_if key d ms) ≤ 1
member_shallow key None ms one more = more
member_shallow key (Some d) ms one more = omega (arith, one, more)

pub reply_shallow : (kind : ReplyKind) (output : List ℕ) (end : Option EndLine) → depth (reply_value kind output end) ≤ 2
reply_shallow kind output end =
    let turns = member_shallow (codes "turns") (turns_value end) no_members (turns_shallow end) (omega arith) in
    let entry = member_shallow (codes "entry") (entry_value kind)
    (member (codes "output") (output_value output) (member (codes "reply") (string (reply_word kind)) (member_if (codes "turns") (turns_value end) no_members)))
    (entry_shallow kind) (omega (arith, turns)) in
    let all = member_shallow (codes "end") (ended_value kind end) _ (ended_shallow kind end) entry in
    omega (arith, all)
