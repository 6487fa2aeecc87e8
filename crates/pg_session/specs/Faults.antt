-- The fault of a session that a reply's fault is.
use Rattle.pg_session.specs.declared.fault.ReplyFault.{ReplyFault}
use Rattle.pg_session.specs.declared.fault.ReplyFault.TheVariants as reply
use Rattle.pg_session.specs.declared.fault.ServeFault.{ServeFault}
use Rattle.pg_session.specs.declared.fault.ServeFault.TheVariants as serve

abbrev pub fault_of : ReplyFault → ServeFault
fault_of reply.WriteFault = serve.WriteFault
fault_of reply.OutOfMemory = serve.OutOfMemory
