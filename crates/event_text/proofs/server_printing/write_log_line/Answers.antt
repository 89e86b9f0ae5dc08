use Rattle.event_text.proofs.server_printing.write_log_line.Goals as goal

pub returns-in-Rewound : goal.returns-in-Rewound
returns-in-Rewound c = rw c.in-Rewound.is c.write.ensures.bytes
