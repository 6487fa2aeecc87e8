use Rattle.std.specs.Prelude.{◌≡◌, ◌++◌, codes, drop, string_bytes}
use Rattle.pg_session_texts.specs.ConditionTexts.{numbers_text}
use Rattle.pg_session_texts.proofs.conditions.join_text.Given as goal

-- the parts so far and those that are left are all parts
abbrev pub invariant-loop-part : goal.invariant-loop-part
invariant-loop-part l =
    string_bytes l.text ++ numbers_text (drop l.part-index l.parts) ≡ codes "join" ++ numbers_text l.parts
