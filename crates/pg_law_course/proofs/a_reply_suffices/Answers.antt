use Rattle.pg_law_course.proofs.RepliesSuffice.{resumes}
use Rattle.pg_law_course.proofs.a_reply_suffices.Goals as goal

pub returns : goal.returns
returns c p l answer b = resumes p l answer b
