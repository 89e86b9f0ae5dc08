use Rattle.std.proofs.Common.{ap, sym}
use Rattle.std.specs.Option.{ok_or}
use Rattle.script_words.specs.declared.fault.Fault.TheVariants as faults
use Rattle.member_options.proofs.HostLaws.{host_of-Some, none-host}
use Rattle.member_options.proofs.options.host_in.Goals as goal

pub returns-in-None : goal.returns-in-None
returns-in-None c = sym
    (ap (λ o. ok_or o faults.BadOption) (none-host c.args.value.now c.read.result c.in-None.is c.read.ensures.found))

pub returns-in-Some : goal.returns-in-Some
returns-in-Some c =
    sym (ap (λ o. ok_or o faults.BadOption) (host_of-Some c.args.value.now c.in-Some.host c.in-Some.ensures.text))
