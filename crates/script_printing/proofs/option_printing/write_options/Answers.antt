use Rattle.script_printing.proofs.LineLaws.{written-more}
use Rattle.script_printing.proofs.OptionLaws.{written-in-turn}
use Rattle.script_printing.proofs.option_printing.write_options.Goals as goal

pub returns : goal.returns
returns c =
    rw (← c.host_to_say.ensures, ← c.mode_to_say.ensures, ← c.device_to_say.ensures, ← c.margin_to_say.ensures)
    (written-more c.write_margin.result c.write_margin.ensures (λ last.
    written-in-turn _ _ _ _ _ _ _ _ _ _ _ _ _ _ _ _ _ c.in_ok-write_host.ensures
    c.in_ok-write_nofailover.ensures c.in_ok-write_nosync.ensures c.in_ok-write_noloadbalance.ensures
    c.in_ok-write_priority.ensures c.in_ok-write_watchdog.ensures c.in_ok-write_device.ensures last))
