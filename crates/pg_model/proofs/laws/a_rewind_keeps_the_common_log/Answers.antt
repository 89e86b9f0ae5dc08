use Rattle.pg_model.proofs.Rewinds.{rewound-lost, rewound-front, rewound-keeps, rewound-told, rewound-streams}
use Rattle.pg_model.proofs.laws.a_rewind_keeps_the_common_log.Goals as goal

pub returns-clause-own : goal.returns-clause-own
returns-clause-own c = rewound-lost

pub returns-clause-theirs : goal.returns-clause-theirs
returns-clause-theirs c = rewound-front

pub returns-clause-longest : goal.returns-clause-longest
returns-clause-longest c = rewound-keeps

pub returns-clause-told : goal.returns-clause-told
returns-clause-told c = rewound-told

pub returns-clause-streams : goal.returns-clause-streams
returns-clause-streams c = rewound-streams
